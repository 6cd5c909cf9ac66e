-- Written types by their parts.
use Rattle.std.proofs.Common.{ℕ, ◌≡◌, refl, sym, ◌∙◌, ap, ap₂, Bool, List, [], ◌∷◌, map, length, Option, Some, None}
use Rattle.std.proofs.lemmas.List.{length-map}
use Rattle.hs_syntax.specs.declared.span.Span.{Span}
use Rattle.hs_base.specs.declared.rule.Rule.TheVariants.{S2}
use Rattle.hs_syntax.specs.declared.ty.Ty.{Ty, roll-Ty, out-Ty}
use Rattle.hs_syntax.specs.declared.ty.Ty.TheVariants as variant
use Rattle.hs_syntax.specs.declared.ty.Ty.TheOpen.{Ty-F}
use Rattle.hs_syntax.specs.declared.ty.Ty.TheOpen as ty
use Rattle.hs_syntax.specs.declared.ty.Ty.TheFolds.{map-Ty, fold-roll-Ty, fold_out-Ty}
use Rattle.hs_syntax.specs.Spans.{span_of_ty, ty_span}
use Rattle.hs_syntax.specs.declared.file.File.{File}
use Rattle.hs_syntax.specs.Texts.{bytes_at}
use Rattle.hs_marks.specs.declared.breach.Breach.{Breach}
use Rattle.hs_marks.specs.First.{first, breach, or_own}
use Rattle.hs_marks.specs.Marked.{Marked, none}
use Rattle.hs_resolver.specs.Rules.{type_of}
use Rattle.hs_items.specs.declared.facts.Facts.{Facts}
use Rattle.hs_items.specs.declared.shape.Shape.TheVariants as shape
use Rattle.hs_items.specs.Rules.{too_great}
use Rattle.hs_items.specs.Marks.{when}
use Rattle.hs_items.specs.Nodes.{row, in_types}
use Rattle.hs_items.specs.Walk.{Measured, marked_of, one_measured, of_parts, of_row, nothing, single, over, named_facts, measured, measured_layer, facts_of_ty, facts_of_tys, inside_ty, nodes_of_ty}

pub map_map : {A B C : Type 0} (f : B → C) (g : A → B) (xs : List A) → map f (map g xs) ≡ map (λ x. f (g x)) xs
map_map f g [] = refl
map_map f g (x ∷ xs) = ap (λ ys. f (g x) ∷ ys) (map_map f g xs)

own_some : (b : Breach) (q : Option Breach) → or_own (Some b) q ≡ Some b
own_some b None = refl
own_some b (Some q) = refl

own_none : (q : Option Breach) → or_own None q ≡ q
own_none None = refl
own_none (Some q) = refl

module _ (file : File) (of_item : ℕ → Facts) where
  pub measured_name : (n : Span) → measured file of_item (variant.Name n) ≡ one_measured n (named_facts of_item (type_of file (bytes_at file.text n) 0) 0 nothing) []
  unfolding roll-Ty denote.Hole.Carrier.roll
  measured_name n = fold-roll-Ty Measured (measured_layer file of_item) (ty.Name n)

  pub measured_unit : (s : Span) → measured file of_item (variant.Unit s) ≡ one_measured s single []
  unfolding roll-Ty denote.Hole.Carrier.roll
  measured_unit s = fold-roll-Ty Measured (measured_layer file of_item) (ty.Unit s)

  parts_are : (ts : List Ty) → of_parts (map (measured file of_item) ts) ≡ facts_of_tys file of_item ts
  parts_are ts = ap of_row (map_map (λ (m : Measured). m.facts) (measured file of_item) ts)

  inside_are : (ts : List Ty) → row (map marked_of (map (measured file of_item) ts)) ≡ in_types (nodes_of_ty file of_item) ts
  inside_are ts = ap row (map_map marked_of (measured file of_item) ts)

  abbrev these : Span → Facts → List Ty → Measured
  these s f ts = record { at = s; facts = f; inside = in_types (nodes_of_ty file of_item) ts }

  pub measured_tuple : (s : Span) (ts : List Ty) → measured file of_item (variant.Tuple s ts) ≡ these s (over shape.Tuple (facts_of_tys file of_item ts)) ts
  unfolding roll-Ty denote.Hole.Carrier.roll
  measured_tuple s ts =
      fold-roll-Ty Measured (measured_layer file of_item) (ty.Tuple s ts)
      ∙ ap₂ (λ (f : Facts) (r : Marked). record { at = s; facts = over shape.Tuple f; inside = r }) (parts_are ts) (inside_are ts)

  applied_by : (s n : Span) (ts : List Ty) (count : ℕ) → length (map (measured file of_item) ts) ≡ count
      → measured_layer file of_item (ty.Applied s n (map (measured file of_item) ts)) ≡ these s (named_facts of_item (type_of file (bytes_at file.text n) count) count (facts_of_tys file of_item ts)) ts
  applied_by s n ts count e =
      ap₂ (λ (f : Facts) (r : Marked). record { at = s; facts = f; inside = r })
      (ap₂ (λ (k : ℕ) (f : Facts). named_facts of_item (type_of file (bytes_at file.text n) k) k f) e (parts_are ts)) (inside_are ts)

  pub measured_applied : (s n : Span) (ts : List Ty)
      → measured file of_item (variant.Applied s n ts) ≡ these s (named_facts of_item (type_of file (bytes_at file.text n) (length ts)) (length ts) (facts_of_tys file of_item ts)) ts
  unfolding roll-Ty denote.Hole.Carrier.roll
  measured_applied s n ts =
      fold-roll-Ty Measured (measured_layer file of_item) (ty.Applied s n ts) ∙ applied_by s n ts (length ts) (length-map ts (measured file of_item))

  -- ---- what is asked of it

  pub facts_name : (n : Span) → facts_of_ty file of_item (variant.Name n) ≡ named_facts of_item (type_of file (bytes_at file.text n) 0) 0 nothing
  facts_name n = ap (λ (m : Measured). m.facts) (measured_name n)

  pub facts_unit : (s : Span) → facts_of_ty file of_item (variant.Unit s) ≡ single
  facts_unit s = ap (λ (m : Measured). m.facts) (measured_unit s)

  pub facts_tuple : (s : Span) (ts : List Ty) → facts_of_ty file of_item (variant.Tuple s ts) ≡ over shape.Tuple (facts_of_tys file of_item ts)
  facts_tuple s ts = ap (λ (m : Measured). m.facts) (measured_tuple s ts)

  pub facts_applied : (s n : Span) (ts : List Ty)
      → facts_of_ty file of_item (variant.Applied s n ts) ≡ named_facts of_item (type_of file (bytes_at file.text n) (length ts)) (length ts) (facts_of_tys file of_item ts)
  facts_applied s n ts = ap (λ (m : Measured). m.facts) (measured_applied s n ts)

  -- ---- the nodes of its parts

  pub inside_name : (n : Span) → inside_ty file of_item (variant.Name n) ≡ none
  inside_name n = ap (λ (m : Measured). m.inside) (measured_name n)

  pub inside_unit : (s : Span) → inside_ty file of_item (variant.Unit s) ≡ none
  inside_unit s = ap (λ (m : Measured). m.inside) (measured_unit s)

  pub inside_tuple : (s : Span) (ts : List Ty) → inside_ty file of_item (variant.Tuple s ts) ≡ in_types (nodes_of_ty file of_item) ts
  inside_tuple s ts = ap (λ (m : Measured). m.inside) (measured_tuple s ts)

  pub inside_applied : (s n : Span) (ts : List Ty) → inside_ty file of_item (variant.Applied s n ts) ≡ in_types (nodes_of_ty file of_item) ts
  inside_applied s n ts = ap (λ (m : Measured). m.inside) (measured_applied s n ts)

  -- ---- the type itself

  at_layer : (y : Ty-F Ty) → (measured_layer file of_item (map-Ty Ty Measured (measured file of_item) y)).at ≡ ty_span y
  at_layer (ty.Name s) = refl
  at_layer (ty.Unit s) = refl
  at_layer (ty.Tuple s ts) = refl
  at_layer (ty.Applied s n ts) = refl

  ty_at : (t : Ty) → (measured file of_item t).at ≡ span_of_ty t
  unfolding span_of_ty
  ty_at t = ap (λ (m : Measured). m.at) (fold_out-Ty Measured (measured_layer file of_item) t) ∙ at_layer (out-Ty t)

  -- what is broken in its parts is broken first
  pub ty_stops : (t : Ty) (b : Breach) → first (inside_ty file of_item t) ≡ Some b → first (nodes_of_ty file of_item t) ≡ Some b
  ty_stops t b h =
      ap (λ (p : Option Breach). or_own p (breach (measured file of_item t).at (when (too_great (measured file of_item t).facts) S2))) h
      ∙ own_some b (breach (measured file of_item t).at (when (too_great (measured file of_item t).facts) S2))

  -- where nothing is, it is what the type breaks itself
  pub ty_goes : (t : Ty) → first (inside_ty file of_item t) ≡ None → first (nodes_of_ty file of_item t) ≡ breach (span_of_ty t) (when (too_great (facts_of_ty file of_item t)) S2)
  ty_goes t h =
      ap (λ (p : Option Breach). or_own p (breach (measured file of_item t).at (when (too_great (measured file of_item t).facts) S2))) h
      ∙ own_none (breach (measured file of_item t).at (when (too_great (measured file of_item t).facts) S2))
      ∙ ap (λ (s : Span). breach s (when (too_great (measured file of_item t).facts) S2)) (ty_at t)

  -- what a type breaks itself, of which this is asked
  pub breaks_itself : (t : Ty) (f : Facts) (s : Span) (great : Bool) → (first (inside_ty file of_item t) ≡ None) × (f ≡ facts_of_ty file of_item t) → s ≡ span_of_ty t → great ≡ too_great f
      → first (nodes_of_ty file of_item t) ≡ breach s (when great S2)
  breaks_itself t f s great h at is =
      ty_goes t h.0
      ∙ ap₂ (λ (s : Span) (g : Bool). breach s (when g S2)) (sym at) (sym (is ∙ ap too_great h.1))

  -- ---- parts that are looked over

  pub tuple_stops : (t : Ty) (s : Span) (ts : List Ty) (b : Breach) → t ≡ variant.Tuple s ts → first (in_types (nodes_of_ty file of_item) ts) ≡ Some b → first (inside_ty file of_item t) ≡ Some b
  tuple_stops t s ts b e h = ap (λ (t : Ty). first (inside_ty file of_item t)) e ∙ ap first (inside_tuple s ts) ∙ h

  pub tuple_goes : (t : Ty) (s : Span) (ts : List Ty) (parts f : Facts) → t ≡ variant.Tuple s ts → (first (in_types (nodes_of_ty file of_item) ts) ≡ None) × (parts ≡ facts_of_tys file of_item ts) → f ≡ over shape.Tuple parts
      → (first (inside_ty file of_item t) ≡ None) × (f ≡ facts_of_ty file of_item t)
  tuple_goes t s ts parts f e h is = (
    ap (λ (t : Ty). first (inside_ty file of_item t)) e ∙ ap first (inside_tuple s ts) ∙ h.0,
    is ∙ ap (over shape.Tuple) h.1 ∙ sym (ap (facts_of_ty file of_item) e ∙ facts_tuple s ts),
  )

  pub applied_stops : (t : Ty) (s n : Span) (ts : List Ty) (b : Breach) → t ≡ variant.Applied s n ts → first (in_types (nodes_of_ty file of_item) ts) ≡ Some b → first (inside_ty file of_item t) ≡ Some b
  applied_stops t s n ts b e h = ap (λ (t : Ty). first (inside_ty file of_item t)) e ∙ ap first (inside_applied s n ts) ∙ h

  pub applied_goes : (t : Ty) (s n : Span) (ts : List Ty) (parts f : Facts) (count : ℕ) → t ≡ variant.Applied s n ts → (first (in_types (nodes_of_ty file of_item) ts) ≡ None) × (parts ≡ facts_of_tys file of_item ts)
      → count ≡ length ts → f ≡ named_facts of_item (type_of file (bytes_at file.text n) count) count parts → (first (inside_ty file of_item t) ≡ None) × (f ≡ facts_of_ty file of_item t)
  applied_goes t s n ts parts f count e h many is = (
    ap (λ (t : Ty). first (inside_ty file of_item t)) e ∙ ap first (inside_applied s n ts) ∙ h.0,
    is ∙ ap₂ (λ (k : ℕ) (g : Facts). named_facts of_item (type_of file (bytes_at file.text n) k) k g) many h.1 ∙ sym (ap (facts_of_ty file of_item) e ∙ facts_applied s n ts),
  )
