-- Whether all parts are copied, and what bytes are among the items of an array.
use Rattle.std.proofs.Common.{ℕ, ◌≡◌, refl, sym, ◌∙◌, ap, ap₂, Bool, true, false, ◌&&◌, List, [], ◌∷◌, map}
use Rattle.std.specs.Prelude.{fold}
use Rattle.std.specs.List.{list_all}
use Rattle.hs_syntax.specs.declared.ty.Ty.{Ty}
use Rattle.hs_syntax.specs.declared.file.File.{File}
use Rattle.hs_syntax.specs.declared.item.Ctor.{Ctor}
use Rattle.hs_marks.specs.Marked.{Marked}
use Rattle.hs_items.specs.declared.facts.Facts.{Facts}
use Rattle.hs_items.specs.Whole.{facts_of}
use Rattle.hs_items.specs.Whole as whole
use Rattle.hs_items.specs.Marks.{array_rules, all_copied, ctors_copied}
use Rattle.hs_items.specs.Walk.{nothing, joined, over, single, of_row, facts_of_ty, facts_of_tys, facts_of_ctors}

and_assoc : (a b c : Bool) → ((a && b) && c) ≡ (a && (b && c))
and_assoc true b c = refl
and_assoc false b c = refl

and_true : (a : Bool) → (a && true) ≡ a
and_true true = refl
and_true false = refl

both_copied : (f g : Facts) → (joined f g).copied ≡ (f.copied && g.copied)
unfolding joined
both_copied f g = refl

fold_copied : (f : Facts) (fs : List Facts) → (fold joined f fs).copied ≡ (f.copied && list_all (λ (g : Facts). g.copied) fs)
fold_copied f [] = sym (and_true f.copied)
fold_copied f (g ∷ fs) =
    fold_copied (joined f g) fs ∙ ap (λ (b : Bool). b && list_all (λ (g : Facts). g.copied) fs) (both_copied f g)
    ∙ and_assoc f.copied g.copied (list_all (λ (g : Facts). g.copied) fs)

row_copied : (fs : List Facts) → (of_row fs).copied ≡ list_all (λ (g : Facts). g.copied) fs
row_copied fs = fold_copied nothing fs

each_copied : {A : Type 0} (f : A → Facts) (g : A → Bool) → ((x : A) → (f x).copied ≡ g x) → (xs : List A) → list_all (λ (g : Facts). g.copied) (map f xs) ≡ list_all g xs
each_copied f g h [] = refl
each_copied f g h (x ∷ xs) = ap₂ (λ (a b : Bool). a && b) (h x) (each_copied f g h xs)

pub tys_copied : (file : File) (of_item : ℕ → Facts) (in_type : Ty → Marked) (ts : List Ty) → (facts_of_tys file of_item ts).copied ≡ all_copied (facts_of_ty file of_item) in_type ts
tys_copied file of_item in_type ts =
    row_copied (map (facts_of_ty file of_item) ts) ∙ each_copied (facts_of_ty file of_item) (λ (t : Ty). (facts_of_ty file of_item t).copied) (λ t. refl) ts

pub ctors_are_copied : (file : File) (of_item : ℕ → Facts) (in_type : Ty → Marked) (cs : List Ctor) → (facts_of_ctors file of_item cs).copied ≡ ctors_copied (facts_of_ty file of_item) in_type cs
ctors_are_copied file of_item in_type cs =
    row_copied (map (λ (c : Ctor). facts_of_tys file of_item c.parts) cs)
    ∙ each_copied (λ (c : Ctor). facts_of_tys file of_item c.parts) (λ (c : Ctor). all_copied (facts_of_ty file of_item) in_type c.parts) (λ c. tys_copied file of_item in_type c.parts) cs

pub bytes_rules : (n : ℕ) → array_rules n single ≡ array_rules n (facts_of whole.single)
unfolding over
bytes_rules n = refl
