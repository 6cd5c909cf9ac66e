-- Where types lie.
use Rattle.std.proofs.Common.{ℕ, arith, Bool, true, false, List, [], ◌∷◌, Option, Some, None, refl}
use Rattle.hs_grammar.specs.Derives.{Derivings}
use Rattle.hs_syntax.specs.declared.span.Span.{Span}
use Rattle.hs_syntax.specs.declared.ty.Ty.{Ty}
use Rattle.hs_syntax.specs.declared.ty.Ty.TheVariants as ty
use Rattle.hs_forms.specs.declared.token.Kind.TheVariants as k
use Rattle.hs_forms.specs.Lexis.{lexis}
use Rattle.hs_forms.specs.Nodes.{across, tuple_ty, all_types}
use Rattle.hs_forms.specs.Blocks.{step_of}
use Rattle.hs_forms.specs.Reading.{rules, RType, RMaybe, name as a_name, type_, next_type, next_types, types, angle, applied_of, closed, close_maybe, maybe_closed, named_ty, named_maybe, tuple_items, tuple_rest, bracketed, type_form, maybe_form}
use Rattle.hs_limits.specs.Outline.{none, one, apart, part}
use Rattle.hs_limits.specs.Nodes.{name, node_of_ty}
use Rattle.hs_limits.specs.Nested.{Nested}
use Rattle.hs_places.proofs.Outlines.{beyond, opened}
use Rattle.hs_places.proofs.Layers.{on, ty_name, ty_unit, ty_tuple, ty_applied}
use Rattle.hs_places.proofs.Facts.{row_more, Fact, nodes, spans, ends, by, pair, perhaps, rows, Row, Turn, after, listed_behind, tuple_in, closes}
use Rattle.hs_places.proofs.Gives.{Gives, Knots, of_rule, span, closing, empty, map_to, seq, split, alt, loop, then_, both, may, listed}

-- a type that may be open
abbrev pub opens : Fact (Ty × Bool)
opens = by (λ t. t.0) (nodes node_of_ty)

-- the types in a bracket, the last of which may be open
abbrev pub listings : Fact (List Ty × Bool)
listings = by (λ ts. ts.0) (rows (nodes node_of_ty))

-- a name that is applied to types
applied_nested : (n : Span) (ts : List Ty) (close : Span) (start low m high : ℕ) → Nested (name n) start low → Row (nodes node_of_ty) low m ts → (ends.holds m high close) → Nested (one (node_of_ty (applied_of n ts close))) start high
applied_nested n ts close start low m high p r c =
    on (ty_applied (across n close) n ts) (listed_behind node_of_ty (across n close) apart n ts start low m high refl p r c.0 c.1)

all_nested : (low m high : ℕ) (first : Ty × Bool) (more : List Ty × Option Ty) → opens.holds low m first → (pair (rows (nodes node_of_ty)) (perhaps (nodes node_of_ty))).holds m high more → listings.holds low high (all_types first more)
all_nested low m high first (more, None) n (k, r, l) = (m, n, (rows (nodes node_of_ty)).wider m k m high more (omega arith) l r)
all_nested low m high first (more, Some last) n (k, r, l) = (m, n, row_more node_of_ty more last m k high r l)

tuple_nested : (n : Span) (t : Ty) (ts : List Ty) (close : Span) (start low m k high : ℕ) → Nested (name n) start low → Nested (one (node_of_ty t)) low m → Row (nodes node_of_ty) m k ts → Nested (name close) k high
    → Nested (one (node_of_ty (tuple_ty n t ts close))) start high
tuple_nested n t ts close start low m k high p t1 r c =
    on (ty_tuple (across n close) (t ∷ ts)) (tuple_in node_of_ty (across n close) apart 12 part n (t ∷ ts) start low k high refl p (m, t1, r) (closes close k high c) c.2)

unit_nested : (n close : Span) (start low high : ℕ) → Nested (name n) start low → Nested (name close) low high → Nested (one (node_of_ty (ty.Unit (across n close)))) start high
unit_nested n close start low high p c =
    on (ty_unit (across n close)) (opened (across n close) apart n none start low high refl p (closes close low high c) c.2)

named_nested : (low m high : ℕ) (n : Span) (more : Option (Span → Ty)) → Nested (name n) low m → (perhaps (after node_of_ty)).holds m high more → Nested (one (node_of_ty (named_ty n more))) low high
named_nested low m high n None p l = on (ty_name n) (beyond (name n) low m high l p)
named_nested low m high n (Some f) p h = h n low p

named_open : (low m high : ℕ) (n : Span) (more : Option (Span → Ty × Bool)) → Nested (name n) low m → (perhaps (after (λ (t : Ty × Bool). node_of_ty t.0))).holds m high more → opens.holds low high (named_maybe n more)
named_open low m high n None p l = on (ty_name n) (beyond (name n) low m high l p)
named_open low m high n (Some f) p h = h n low p

step_nested : (low high : ℕ) (x : Ty × Bool) → opens.holds low high x → Turn (nodes node_of_ty) (nodes node_of_ty) low high (step_of x)
step_nested low high (t, true) h = h
step_nested low high (t, false) h = h

module _ (ρ : Derivings lexis rules) (knots : Knots ρ) where
  pub type_gives : Gives ρ type_ (nodes node_of_ty)
  type_gives = of_rule ρ knots RType

  pub name_gives : Gives ρ a_name spans
  unfolding a_name
  name_gives = span ρ refl

  next_type_gives : Gives ρ next_type opens
  unfolding next_type
  next_type_gives = then_ ρ (of_rule ρ knots RMaybe)

  next_types_gives : Gives ρ next_types (pair (rows (nodes node_of_ty)) (perhaps (nodes node_of_ty)))
  unfolding next_types
  next_types_gives = loop ρ (nodes node_of_ty) (nodes node_of_ty) (λ low m high ts o r l. (m, r, l)) (map_to ρ step_nested next_type_gives)

  types_gives : Gives ρ types listings
  unfolding types
  types_gives = split ρ all_nested (of_rule ρ knots RMaybe) (empty ρ (λ low high l. (low, omega arith, l))) next_types_gives

  angle_gives : Gives ρ angle listings
  unfolding angle
  angle_gives = then_ ρ types_gives

  closed_gives : Gives ρ closed (after node_of_ty)
  unfolding closed
  closed_gives = split ρ (λ low m high ts close r c n start p. applied_nested n ts.0 close start low m high p r c) angle_gives (closing ρ) (closing ρ)

  close_maybe_gives : Gives ρ close_maybe (by (λ c. c.0) ends)
  unfolding close_maybe
  close_maybe_gives = alt ρ (map_to ρ (λ low high s c. c) (closing ρ)) (map_to ρ (λ low high s c. c) (closing ρ))

  maybe_closed_gives : Gives ρ maybe_closed (after (λ (t : Ty × Bool). node_of_ty t.0))
  unfolding maybe_closed
  maybe_closed_gives =
      split ρ (λ low m high ts close r c n start p. applied_nested n ts.0 close.0 start low m high p r c) angle_gives
      (map_to ρ (λ low high s c. c) (closing ρ)) close_maybe_gives

  tuple_items_gives : Gives ρ tuple_items (after node_of_ty)
  unfolding tuple_items
  tuple_items_gives =
      seq ρ (λ low m high t r p q n start o. tuple_nested n t r.0 r.1 start low m q.0 high o p q.1 q.2) type_gives
      (then_ ρ (both ρ (listed ρ type_gives) (span ρ refl)))

  tuple_rest_gives : Gives ρ tuple_rest (after node_of_ty)
  unfolding tuple_rest
  tuple_rest_gives = alt ρ (map_to ρ (λ low high close c n start p. unit_nested n close start low high p c) (span ρ {ks = k.RightParenthesis ∷ []} refl)) tuple_items_gives

  bracketed_gives : Gives ρ bracketed (nodes node_of_ty)
  unfolding bracketed
  bracketed_gives = seq ρ (λ low m high o f p h. h o low p) (span ρ refl) tuple_rest_gives

  -- Type
  pub type_form_gives : Gives ρ type_form (nodes node_of_ty)
  unfolding type_form
  type_form_gives = alt ρ bracketed_gives (seq ρ named_nested name_gives (may ρ closed_gives))

  -- a type that may be open
  pub maybe_form_gives : Gives ρ maybe_form opens
  unfolding maybe_form
  maybe_form_gives = alt ρ (map_to ρ (λ low high t h. h) bracketed_gives) (seq ρ named_open name_gives (may ρ maybe_closed_gives))
