use Rattle.std.proofs.Common.{length, refl}
use Rattle.std.proofs.lemmas.Option.{slice_get_read}
use Rattle.hs_resolver.proofs.resolver.name_at.Goals as goal

pub returns : goal.returns
returns c =
    let items = c.args.file.now.items in
    (c.index-as_slice-item.result, slice_get_read items (length items) c.args.item c.index-as_slice-item.result refl c.requires (rw c.as_slice.ensures at c.index-as_slice-item.is), c.name_of.ensures)
