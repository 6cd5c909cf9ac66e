-- Types are well formed.
use Rattle.std.proofs.Common.{◌≡◌, ℕ, Bool, true, false, List, ◌∷◌, Option, Some, None, refl, ◌∙◌}
use Rattle.hs_grammar.specs.Derives.{Derivings}
use Rattle.hs_syntax.specs.declared.span.Span.{Span}
use Rattle.hs_syntax.specs.declared.ty.Ty.{Ty}
use Rattle.hs_syntax.specs.WellFormed.{named, well_ty}
use Rattle.hs_forms.specs.Lexis.{lexis}
use Rattle.hs_forms.specs.Nodes.{across, tuple_ty, all_types}
use Rattle.hs_forms.specs.Blocks.{step_of}
use Rattle.hs_forms.specs.Reading.{rules, RType, RMaybe, type_, next_type, next_types, types, angle, applied_of, closed, maybe_closed, named_ty, named_maybe, tuple_items, tuple_rest, bracketed, type_form, maybe_form}
use Rattle.hs_shapes.proofs.Layers.{ty_name, ty_unit, ty_tuple, ty_applied}
use Rattle.hs_shapes.proofs.Facts.{Fact, good, anything, by, pair, perhaps, Perhaps, rows, row_each, some_of, Turn, behind_name, behind_mark, both_true, some_mapped, two_mapped, each_more}
use Rattle.hs_shapes.proofs.Gives.{Gives, Knots, of_rule, name_gives, none_kept, empty, map_to, seq, split, alt, loop, then_, both_first, may, listed}

module _ (text : List ℕ) where
  abbrev tys : Fact Ty
  tys = good (well_ty text)

  -- a type that may be open
  abbrev pub opens : Fact (Ty × Bool)
  opens = by (λ t. t.0) (good (well_ty text))

  -- the types in a bracket, the last of which may be open
  abbrev pub listings : Fact (List Ty × Bool)
  listings = by (λ ts. ts.0) (some_of (well_ty text))

  applied_well : (n : Span) (ts : List Ty) (close : Span) → named text n ≡ true → (some_of (well_ty text)).holds ts → well_ty text (applied_of n ts close) ≡ true
  applied_well n ts close p q = ty_applied text (across n close) n ts ∙ both_true p (some_mapped (well_ty text) ts q)

  all_well : (first : Ty × Bool) (more : List Ty × Option Ty) → opens.holds first → (pair (rows tys) (perhaps tys)).holds more → listings.holds (all_types first more)
  all_well first (more, None) p (r, q) = (refl, both_true p (row_each (well_ty text) more r))
  all_well first (more, Some last) p (r, q) = (refl, both_true p (each_more (well_ty text) more last (row_each (well_ty text) more r) q))

  tuple_well : (o : Span) (t : Ty) (ts : List Ty) (close : Span) → well_ty text t ≡ true → (some_of (well_ty text)).holds ts → well_ty text (tuple_ty o t ts close) ≡ true
  tuple_well o t ts close p q = ty_tuple text (across o close) (t ∷ ts) ∙ two_mapped (well_ty text) t ts p q

  named_well : (n : Span) (more : Option (Span → Ty)) → named text n ≡ true → Perhaps (behind_name text tys) more → well_ty text (named_ty n more) ≡ true
  named_well n None p h = ty_name text n ∙ p
  named_well n (Some f) p h = h n p

  named_open : (n : Span) (more : Option (Span → Ty × Bool)) → named text n ≡ true → Perhaps (behind_name text opens) more → opens.holds (named_maybe n more)
  named_open n None p h = ty_name text n ∙ p
  named_open n (Some f) p h = h n p

  step_well : (x : Ty × Bool) → opens.holds x → Turn tys tys (step_of x)
  step_well (t, true) h = h
  step_well (t, false) h = h

  module _ (ρ : Derivings lexis rules) (knots : Knots text ρ) where
    pub type_gives : Gives text ρ type_ tys
    type_gives = of_rule text ρ knots RType

    next_type_gives : Gives text ρ next_type opens
    unfolding next_type
    next_type_gives = then_ text ρ (of_rule text ρ knots RMaybe)

    next_types_gives : Gives text ρ next_types (pair (rows tys) (perhaps tys))
    unfolding next_types
    next_types_gives = loop text ρ tys tys (λ ts o r l. (r, l)) (map_to text ρ step_well next_type_gives)

    types_gives : Gives text ρ types listings
    unfolding types
    types_gives = split text ρ all_well (of_rule text ρ knots RMaybe) (empty text ρ (tt {0}, tt {0})) next_types_gives

    angle_gives : Gives text ρ angle listings
    unfolding angle
    angle_gives = then_ text ρ types_gives

    closed_gives : Gives text ρ closed (behind_name text tys)
    unfolding closed
    closed_gives = split text ρ {Q = anything} (λ ts close r c n p. applied_well n ts.0 close p r) angle_gives (none_kept text ρ) (none_kept text ρ)

    maybe_closed_gives : Gives text ρ maybe_closed (behind_name text opens)
    unfolding maybe_closed
    maybe_closed_gives = split text ρ {Q = anything} (λ ts close r c n p. applied_well n ts.0 close.0 p r) angle_gives (none_kept text ρ) (none_kept text ρ)

    tuple_items_gives : Gives text ρ tuple_items (behind_mark tys)
    unfolding tuple_items
    tuple_items_gives = seq text ρ (λ t r p q o. tuple_well o t r.0 r.1 p q) type_gives (then_ text ρ (both_first text ρ (listed text ρ type_gives)))

    tuple_rest_gives : Gives text ρ tuple_rest (behind_mark tys)
    unfolding tuple_rest
    tuple_rest_gives = alt text ρ (map_to text ρ {P = anything} (λ close u o. ty_unit text (across o close)) (none_kept text ρ)) tuple_items_gives

    bracketed_gives : Gives text ρ bracketed tys
    unfolding bracketed
    bracketed_gives = seq text ρ {P = anything} (λ o f u h. h o) (none_kept text ρ) tuple_rest_gives

    -- Type
    pub type_form_gives : Gives text ρ type_form tys
    unfolding type_form
    type_form_gives = alt text ρ bracketed_gives (seq text ρ named_well (name_gives text ρ) (may text ρ closed_gives))

    -- a type that may be open
    pub maybe_form_gives : Gives text ρ maybe_form opens
    unfolding maybe_form
    maybe_form_gives = alt text ρ (map_to text ρ (λ t h. h) bracketed_gives) (seq text ρ named_open (name_gives text ρ) (may text ρ maybe_closed_gives))
