-- What an item breaks, by its form.
use Rattle.std.proofs.Common.{ℕ, ◌≡◌, refl, sym, ◌∙◌, ap, ap₂, subst, Bool, List, map, Option, Some, None, Result}
use Rattle.hs_syntax.specs.declared.span.Span.{Span}
use Rattle.hs_syntax.specs.declared.span.Int.{Int}
use Rattle.hs_syntax.specs.declared.ty.Ty.{Ty}
use Rattle.hs_syntax.specs.declared.file.File.{File}
use Rattle.hs_syntax.specs.declared.item.Item.{Item}
use Rattle.hs_syntax.specs.declared.item.Ctor.{Ctor}
use Rattle.hs_syntax.specs.declared.item.ItemKind.{ItemKind}
use Rattle.hs_syntax.specs.declared.item.ItemKind.TheVariants as item
use Rattle.hs_marks.specs.declared.breach.Breach.{Breach}
use Rattle.hs_marks.specs.Marked.{Marked}
use Rattle.hs_marks.specs.First.{or_own, breach, first}
use Rattle.hs_marks.specs.Says.{SaysNone}
use Rattle.hs_items.specs.declared.facts.Facts.{Facts}
use Rattle.hs_items.specs.Meaning.{derives_copy}
use Rattle.hs_items.specs.Nodes.{row, in_types, in_ctor, in_kind}
use Rattle.hs_items.specs.Marks.{data_rules, broken_by, item_nodes}
use Rattle.hs_items.specs.Walk.{facts_of_ty, nodes_of_ty, facts_of_tys, facts_of_ctors}
use Rattle.hs_items.proofs.Copied.{tys_copied, ctors_are_copied}

own_none : (q : Option Breach) → or_own None q ≡ q
own_none None = refl
own_none (Some q) = refl

own_some : (b : Breach) (q : Option Breach) → or_own (Some b) q ≡ Some b
own_some b None = refl
own_some b (Some q) = refl

module _ (file : File) (of_item : ℕ → Facts) (it : Item) where
  abbrev asked : Ty → Facts
  asked = facts_of_ty file of_item

  abbrev in_type : Ty → Marked
  in_type = nodes_of_ty file of_item

  abbrev broken : ItemKind → Option Breach
  broken k = breach it.span (broken_by asked in_type (derives_copy file it.derives) k)

  by_kind : (k : ItemKind) → it.kind ≡ k → first (item_nodes asked in_type file it) ≡ or_own (first (in_kind in_type k)) (broken k)
  by_kind k e = ap (λ (k : ItemKind). or_own (first (in_kind in_type k)) (broken k)) e

  -- the type of an array's items is broken
  pub array_stops : (n : Span) (i : Int) (t : Ty) (b : Breach) → it.kind ≡ item.Array n i t → first (in_type t) ≡ Some b → first (item_nodes asked in_type file it) ≡ Some b
  array_stops n i t b e h =
      by_kind (item.Array n i t) e ∙ ap (λ (q : Option Breach). or_own q (broken (item.Array n i t))) h ∙ own_some b (broken (item.Array n i t))

  -- nothing is broken in the parts of a struct or an enum
  pub struct_says : {A : Type 0} (n : Span) (ts : List Ty) (copies : Bool) (parts : Facts) (r : Result A Breach) → it.kind ≡ item.Struct n ts
      → (first (in_types in_type ts) ≡ None) × (parts ≡ facts_of_tys file of_item ts) → copies ≡ derives_copy file it.derives
      → SaysNone (breach it.span (data_rules copies parts.copied)) r → SaysNone (first (item_nodes asked in_type file it)) r
  struct_says n ts copies parts r e h c says =
      subst (λ (q : Option Breach). SaysNone q r)
      (sym (by_kind (item.Struct n ts) e ∙ ap (λ (q : Option Breach). or_own q (broken (item.Struct n ts))) h.0 ∙ own_none (broken (item.Struct n ts))
      ∙ ap₂ (λ (a b : Bool). breach it.span (data_rules a b)) (sym c) (sym (ap (λ (f : Facts). f.copied) h.1 ∙ tys_copied file of_item in_type ts))))
      says

  pub enum_says : {A : Type 0} (n : Span) (cs : List Ctor) (copies : Bool) (parts : Facts) (r : Result A Breach) → it.kind ≡ item.Enum n cs
      → (first (row (map (in_ctor in_type) cs)) ≡ None) × (parts ≡ facts_of_ctors file of_item cs) → copies ≡ derives_copy file it.derives
      → SaysNone (breach it.span (data_rules copies parts.copied)) r → SaysNone (first (item_nodes asked in_type file it)) r
  enum_says n cs copies parts r e h c says =
      subst (λ (q : Option Breach). SaysNone q r)
      (sym (by_kind (item.Enum n cs) e ∙ ap (λ (q : Option Breach). or_own q (broken (item.Enum n cs))) h.0 ∙ own_none (broken (item.Enum n cs))
      ∙ ap₂ (λ (a b : Bool). breach it.span (data_rules a b)) (sym c) (sym (ap (λ (f : Facts). f.copied) h.1 ∙ ctors_are_copied file of_item in_type cs))))
      says
