-- Of a file that passes no limit: how many parts there are.
use Rattle.std.proofs.Common.{ℕ, zero, suc, ◌+◌, ◌≡◌, ◌≤◌, refl, sym, ◌∙◌, ap, subst, Bool, true, false, cond, nat_eq, List, [], ◌∷◌, map, length, slice_get, Option, Some, None, arith}
use Rattle.std.specs.List.{AllByRecursion}
use Rattle.std.proofs.lemmas.List.{length-map}
use Rattle.std.proofs.lemmas.Bool.Decides.{nat_tests}
use Rattle.hs_syntax.specs.declared.file.File.{File}
use Rattle.hs_syntax.specs.declared.item.Item.{Item}
use Rattle.hs_limits.specs.Outline.{Outline, Node, Kind, Surplus, parameter, statement, part, one, all, numbered, upto, height, rise}
use Rattle.hs_limits.specs.Nodes.{node_of_item, outline_of_items, kind_outline}
use Rattle.hs_limits.specs.Breaks.{too_high, too_many, broken, marked, marks_of}
use Rattle.hs_items.proofs.Clear.{Clear, right_none, clear_first, clear_second, clear_inside, clear_own}

-- a row passes no limit
abbrev pub Within : Outline → Type 0
Within o = Clear (marked o)

-- what stands in each node passes none
abbrev pub Insides : List Node → Type 0
Insides ns = AllByRecursion (λ (n : Node). Within n.parts) ns

never : (what : Surplus) → too_many (Some what) ≡ [] → ⊥
never parameter e = cc
never statement e = cc
never part e = cc

no_more : (kind : Kind) (over : Option Surplus) (h : ℕ) → broken kind over h ≡ [] → too_many over ≡ []
no_more kind over h e = right_none (too_high kind (rise kind h)) (too_many over) e

-- there are no more than the limit says
pub few_nodes : (limit : ℕ) (what : Surplus) (ns : List Node) (i : ℕ) → i ≤ limit → Within (numbered limit what i ns) → i + length ns ≤ limit
few_nodes limit what [] i l c = omega (arith, l)
few_nodes limit what (n ∷ ns) i l c = by (λ (l : i + 1 ≤ limit). few_nodes limit what ns (i + 1) l (clear_second c)) (nat_eq i limit) refl
  where
    own : too_many (cond (nat_eq i limit) (Some what) None) ≡ []
    own = no_more n.kind (cond (nat_eq i limit) (Some what) None) (height n.parts) (clear_own (clear_first c))

    by : (i + 1 ≤ limit → (i + 1) + length ns ≤ limit) → (b : Bool) → nat_eq i limit ≡ b → i + suc (length ns) ≤ limit
    by f true e = absurd (never what (ap (λ (b : Bool). too_many (cond b (Some what) None)) (sym e) ∙ own))
    by f false e =
        let more : i + 1 ≤ limit = grind (arith, nat_tests) in
        let h = f more in
        omega (arith, h)

pub numbered_insides : (limit : ℕ) (what : Surplus) (ns : List Node) (i : ℕ) → Within (numbered limit what i ns) → Insides ns
numbered_insides limit what [] i c = tt {0}
numbered_insides limit what (n ∷ ns) i c = (clear_inside (clear_first c), numbered_insides limit what ns (i + 1) (clear_second c))

pub all_insides : (ns : List Node) → Within (all ns) → Insides ns
all_insides [] c = tt {0}
all_insides (n ∷ ns) c = (clear_inside (clear_first c), all_insides ns (clear_second c))

pub upto_few : {A : Type 0} (f : A → Node) (limit : ℕ) (what : Surplus) (xs : List A) → Within (upto limit what (map f xs)) → length xs ≤ limit
upto_few f limit what xs c =
    let h = few_nodes limit what (map f xs) 0 (omega arith) c in
    let l = length-map xs f in
    omega (arith, h, l)

-- ---- items

items_at : (is : List Item) (k : ℕ) (i : Item) → Within (outline_of_items is) → slice_get is k ≡ Some i → Within (one (node_of_item i))
items_at [] k i c e = absurd cc
items_at (j ∷ is) zero i c e = let same : j ≡ i = cc in subst (λ (j : Item). Within (one (node_of_item j))) same (clear_first c)
items_at (j ∷ is) (suc k) i c e = items_at is k i (clear_second c) e

-- what stands in an item passes no limit
pub kind_within : (file : File) → marks_of file ≡ [] → (k : ℕ) (i : Item) → slice_get file.items k ≡ Some i → Within (kind_outline i.kind)
kind_within file e k i h = clear_second (clear_inside (items_at file.items k i (record { depth = 0; keeps = e }) h))
