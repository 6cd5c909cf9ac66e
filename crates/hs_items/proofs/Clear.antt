-- Of a file that breaks no rule of the stage: which rules its items keep, and which types written in them are within the limits.
use Rattle.std.proofs.Common.{ℕ, zero, suc, ◌≡◌, refl, sym, subst, Bool, true, false, List, [], ◌∷◌, ◌++◌, map, slice_get, Some}
use Rattle.hs_base.specs.declared.rule.Rule.{Rule}
use Rattle.hs_base.specs.declared.rule.Rule.TheVariants.{S2}
use Rattle.hs_syntax.specs.declared.span.Span.{Span}
use Rattle.hs_syntax.specs.declared.ty.Ty.{Ty, roll-Ty}
use Rattle.hs_syntax.specs.declared.ty.Ty.TheOpen.{Ty-F}
use Rattle.hs_syntax.specs.declared.ty.Ty.TheOpen as ty
use Rattle.hs_syntax.specs.declared.ty.Ty.TheFolds.{map-Ty, fold-roll-Ty, ind-Ty}
use Rattle.hs_syntax.specs.declared.file.File.{File}
use Rattle.hs_syntax.specs.declared.item.Item.{Item}
use Rattle.hs_marks.specs.Marked.{Marked, join, node, mark, marks}
use Rattle.hs_values.specs.declared.types.ValType.{ValType}
use Rattle.hs_items.specs.declared.facts.Facts.{Facts}
use Rattle.hs_items.specs.Rules.{too_great}
use Rattle.hs_items.specs.Meaning.{stands, known, derives_copy}
use Rattle.hs_items.specs.Nodes.{row, in_kind}
use Rattle.hs_items.specs.Marks.{when, broken_by, item_nodes, Written, asked_of, means_of, written, written_layer, broken}
use Rattle.hs_items.specs.Walk.{limited}
use Rattle.hs_items.proofs.Agree.{ty_agrees}

-- ---- nodes that break no rule

-- a row breaks nothing
pub record Clear (m : Marked) : Type 0 where
  pub depth : ℕ
  pub keeps : marks m depth ≡ []

pub left_none : {A : Type 0} (xs ys : List A) → xs ++ ys ≡ [] → xs ≡ []
left_none [] ys e = refl
left_none (x ∷ xs) ys e = absurd cc

pub right_none : {A : Type 0} (xs ys : List A) → xs ++ ys ≡ [] → ys ≡ []
right_none [] ys e = e
right_none (x ∷ xs) ys e = absurd cc

no_rules : (at : Span) (depth : ℕ) (rules : List Rule) → map (mark at depth) rules ≡ [] → rules ≡ []
no_rules at depth [] e = refl
no_rules at depth (r ∷ rs) e = absurd cc

pub clear_first : {a b : Marked} → Clear (join a b) → Clear a
clear_first {a} {b} c = record { depth = c.depth; keeps = left_none (marks a c.depth) (marks b c.depth) c.keeps }

pub clear_second : {a b : Marked} → Clear (join a b) → Clear b
clear_second {a} {b} c = record { depth = c.depth; keeps = right_none (marks a c.depth) (marks b c.depth) c.keeps }

pub clear_inside : {s : Span} {rules : List Rule} {parts : Marked} → Clear (node s rules parts) → Clear parts
clear_inside {s} {rules} {parts} c = record { depth = suc c.depth; keeps = left_none (marks parts (suc c.depth)) (map (mark s c.depth) rules) c.keeps }

pub clear_own : {s : Span} {rules : List Rule} {parts : Marked} → Clear (node s rules parts) → rules ≡ []
clear_own {s} {rules} {parts} c = no_rules s c.depth rules (right_none (marks parts (suc c.depth)) (map (mark s c.depth) rules) c.keeps)

pub clear_at : {A : Type 0} (f : A → Marked) (xs : List A) (k : ℕ) (x : A) → Clear (row (map f xs)) → slice_get xs k ≡ Some x → Clear (f x)
clear_at f [] k x c e = absurd cc
clear_at f (y ∷ ys) zero x c e = let same : y ≡ x = cc in subst (λ y. Clear (f y)) same (clear_first c)
clear_at f (y ∷ ys) (suc k) x c e = clear_at f ys k x (clear_second c) e

pub not_when : (b : Bool) (r : Rule) → when b r ≡ [] → b ≡ false
not_when true r e = absurd cc
not_when false r e = refl

-- ---- written types

module _ (file : File) (order : List ℕ) where
  abbrev Fits : ValType → Type 0
  Fits t = too_great (asked_of file order t) ≡ false

  means_is : (t : Ty) → (written file order t).means ≡ means_of file order t
  means_is t = (ty_agrees file order (λ k. limited (asked_of file order (stands (known file order) k))) (λ k. refl) t).2

  abbrev HeadFits : Written → Type 0
  HeadFits w = Clear w.nodes → Fits w.means

  layer_fits : (y : Ty-F Written) → HeadFits (written_layer file order y)
  layer_fits (ty.Name n) c = not_when _ S2 (clear_own c)
  layer_fits (ty.Unit s) c = not_when _ S2 (clear_own c)
  layer_fits (ty.Tuple s ws) c = not_when _ S2 (clear_own c)
  layer_fits (ty.Applied s n ws) c = not_when _ S2 (clear_own c)

  level_fits : (y : Ty-F Ty) → HeadFits (written file order (roll-Ty y))
  level_fits y = subst HeadFits (sym (fold-roll-Ty Written (written_layer file order) y)) (layer_fits (map-Ty Ty Written (written file order) y))

  abbrev HeadTy : Type 0
  HeadTy = (t : Ty) × HeadFits (written file order t)

  head_fits : (t : Ty) → HeadFits (written file order t)
  head_fits = ind-Ty (λ t. HeadFits (written file order t)) (λ x y is. subst (λ z. HeadFits (written file order (roll-Ty z))) is (level_fits (map-Ty HeadTy Ty (λ x. x.0) y)))

  -- a written type that breaks nothing is within the limits
  pub ty_fits : (t : Ty) → Clear (written file order t).nodes → Fits (means_of file order t)
  ty_fits t c = subst Fits (means_is t) (head_fits t c)

  abbrev nodes_in : Ty → Marked
  nodes_in t = (written file order t).nodes

  -- ---- items

  abbrev asked_in : Ty → Facts
  asked_in t = asked_of file order (means_of file order t)

  module _ (unbroken : broken file order ≡ []) where
    item_clear : (k : ℕ) (i : Item) → slice_get file.items k ≡ Some i → Clear (item_nodes asked_in nodes_in file i)
    item_clear k i e = clear_at (item_nodes asked_in nodes_in file) file.items k i (record { depth = 0; keeps = unbroken }) e

    -- an item breaks no rule itself
    pub item_keeps : (k : ℕ) (i : Item) → slice_get file.items k ≡ Some i → broken_by asked_in nodes_in (derives_copy file i.derives) i.kind ≡ []
    item_keeps k i e = clear_own (item_clear k i e)

    -- nor does what is written in it
    pub inside_keeps : (k : ℕ) (i : Item) → slice_get file.items k ≡ Some i → Clear (in_kind nodes_in i.kind)
    inside_keeps k i e = clear_inside (item_clear k i e)
