-- An item of a file by its place.
use Rattle.std.proofs.Common.{ℕ, ◌≡◌, refl, ap, sym, ◌∙◌, true, false, ltb, List, length, get_or, slice_get, Some, None}
use Rattle.std.proofs.lemmas.Option.{slice_get_read, slice_get_past}
use Rattle.std.proofs.lemmas.Bool.{ltb-false, ltb-true}
use Rattle.hs_syntax.specs.declared.item.Item.{Item}

-- what a look-up finds in a list that is the same
pub found : (items seen : List Item) (i : ℕ) (it : Item) → seen ≡ items → (true ≡ ltb i (length seen)) × (it ≡ get_or seen i it) → slice_get items i ≡ Some it
found items seen i it e h = slice_get_read items (length items) i it refl (ltb-true i (length items) (sym (h.0 ∙ ap (λ (is : List Item). ltb i (length is)) e))) (h.1 ∙ ap (λ (is : List Item). get_or is i it) e)

pub missing : (items seen : List Item) (i : ℕ) → seen ≡ items → false ≡ ltb i (length seen) → slice_get items i ≡ None
missing items seen i e h = slice_get_past items i (ltb-false i (length items) (sym (h ∙ ap (λ (is : List Item). ltb i (length is)) e)))
