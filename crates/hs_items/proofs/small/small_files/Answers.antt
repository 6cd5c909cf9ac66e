use Rattle.hs_items.proofs.SmallFiles as rows
use Rattle.hs_items.proofs.small.small_files.Goals as goal

pub returns : goal.returns
returns c =
    record {
      chain_keeps_all = rows.chain_keeps_all;
      chain_has_table = rows.chain_has_table;
      moved_part_is_broken = rows.moved_part_is_broken;
      lent_declares = rows.lent_is_declared;
    }
