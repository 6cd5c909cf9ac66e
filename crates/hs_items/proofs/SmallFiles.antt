-- What the definitions say of small files.
use Rattle.std.proofs.Common.{◌≡◌, [], ◌∷◌}
use Rattle.hs_base.specs.declared.rule.Rule.TheVariants as rule
use Rattle.hs_syntax.specs.Texts.{bytes_at}
use Rattle.hs_syntax.specs.declared.ty.Ty.TheFolds.{fold-roll-Ty}
use Rattle.hs_values.specs.declared.types.ValType.TheFolds.{fold-roll-ValType}
use Rattle.hs_marks.specs.Marked.{mark}
use Rattle.hs_items.specs.Marks.{broken}
use Rattle.hs_items.specs.Meaning.{known}
use Rattle.hs_items.specs.Rows.{between, chain, chain_table, moved_part, lent, lent_declares}

pub chain_keeps_all : broken chain (1 ∷ 0 ∷ []) ≡ []
unfolding bytes_at
chain_keeps_all = simp (fold-roll-Ty, fold-roll-ValType)

pub chain_has_table : (known chain (1 ∷ 0 ∷ [])).table ≡ chain_table
unfolding bytes_at
chain_has_table = simp fold-roll-Ty

pub moved_part_is_broken : broken moved_part (0 ∷ []) ≡ mark (between 0 40) 0 rule.N9 ∷ []
unfolding bytes_at
moved_part_is_broken = simp (fold-roll-Ty, fold-roll-ValType)

pub lent_is_declared : (known lent (1 ∷ 0 ∷ [])).declares 0 ≡ lent_declares
unfolding bytes_at
lent_is_declared = simp fold-roll-Ty
