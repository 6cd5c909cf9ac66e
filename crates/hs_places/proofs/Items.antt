-- Where items lie.
use Rattle.std.proofs.Common.{ℕ, arith, List, [], Option, Some, None, refl, map}
use Rattle.hs_grammar.specs.Derives.{Derivings}
use Rattle.hs_syntax.specs.declared.span.Span.{Span}
use Rattle.hs_syntax.specs.declared.span.Int.{Int}
use Rattle.hs_syntax.specs.declared.ty.Ty.{Ty}
use Rattle.hs_syntax.specs.declared.exp.Exp.{Exp}
use Rattle.hs_syntax.specs.declared.exp.Block.{Block}
use Rattle.hs_syntax.specs.declared.item.Mode.{Mode}
use Rattle.hs_syntax.specs.declared.item.Mode.TheVariants as mode
use Rattle.hs_syntax.specs.declared.item.Param.{Param}
use Rattle.hs_syntax.specs.declared.item.Ctor.{Ctor}
use Rattle.hs_syntax.specs.declared.item.ItemKind.TheVariants as item
use Rattle.hs_syntax.specs.Spans.{span_of_ty, span_of_block}
use Rattle.hs_forms.specs.Lexis.{lexis}
use Rattle.hs_forms.specs.Nodes.{across}
use Rattle.hs_forms.specs.Reading.{rules, mutable_param, lent_type, mode_type, named_param, param, parts, ctor_of, ctor, Declared, const_form, alias_form, struct_form, enum_form, params_rest, params, result_type, fn_form, data_form, declaration, derive_names, item_of, derived_item, public_item, plain_item, use_form, array_form, bytes_form, nat_mod_names, nat_mod_values, nat_mod_form, other_item, item_form, file_form}
use Rattle.hs_limits.specs.Outline.{none, join, one, all, upto, through, apart, part, parameter}
use Rattle.hs_limits.specs.Nodes.{word, name, names, wrap, ty_outline, node_of_ty, node_of_exp, node_of_block, node_of_ctor, node_of_param, kind_outline, node_of_item}
use Rattle.hs_limits.specs.Nested.{Nested}
use Rattle.hs_limits.specs.Spans.{SpansAgree}
use Rattle.hs_places.proofs.Outlines.{before, beyond, begun, opened, until, upto_nested, ordered}
use Rattle.hs_places.proofs.Facts.{Fact, nodes, spans, nothing, by, pair, perhaps, Perhaps, perhaps_nested, rows, Row, row_nested, closes}
use Rattle.hs_places.proofs.Gives.{Gives, Knots, span, none_kept, map_to, seq, alt, then_, and_then, both, may, many, listed}
use Rattle.hs_places.proofs.Types.{name_gives, type_gives}
use Rattle.hs_places.proofs.Exps.{int_gives, expression_gives, block_gives}

abbrev tys : Fact Ty
tys = nodes node_of_ty

abbrev ints : Fact Int
ints = by (λ (i : Int). i.span) spans

-- ---- parameters and constructors

-- a name and a type, behind a word
mutable_nested : SpansAgree → (low m k high : ℕ) (mode : Mode) (s n : Span) (t : Ty) → Nested (name s) low m → Nested (name n) m k → Nested (one (node_of_ty t)) k high
    → Nested (one (node_of_param (record { span = across s (span_of_ty t); mode = mode; name = n; ty = t }))) low high
mutable_nested agree low m k high mode s n t p q r =
    let u = until (node_of_ty t) (span_of_ty t) k high (agree.of_ty t) r in
    opened (across s (span_of_ty t)) apart s (join (name n) (ty_outline t)) low m high refl p (k, q, u.0) u.1

named_nested : SpansAgree → (low m high : ℕ) (mode : Mode) (n : Span) (t : Ty) → Nested (name n) low m → Nested (one (node_of_ty t)) m high
    → Nested (one (node_of_param (record { span = across n (span_of_ty t); mode = mode; name = n; ty = t }))) low high
named_nested agree low m high mode n t p r =
    let u = until (node_of_ty t) (span_of_ty t) m high (agree.of_ty t) r in
    begun (across n (span_of_ty t)) apart (word n) (ty_outline t) low m high refl p u.0 u.1

ctor_nested : (low m high : ℕ) (n : Span) (more : Option (List Ty × Span)) → Nested (name n) low m → (perhaps (pair (rows tys) spans)).holds m high more → Nested (one (node_of_ctor (ctor_of n more))) low high
ctor_nested low m high n None p l = begun n apart (word n) none low n.end high refl (p.0, p.1, omega arith, p.3) (omega arith) (omega (arith, p.2, l))
ctor_nested low m high n (Some (ts, close)) p (k, r, c) =
    begun (across n close) apart (word n) (upto 12 part (map node_of_ty ts)) low m high refl p
    (upto_nested 12 part (map node_of_ty ts) m close.end (beyond (all (map node_of_ty ts)) m k close.end (closes close k high c) (row_nested node_of_ty ts m k r))) c.2

-- ---- what an item declares

-- what an item declares lies in its bytes
abbrev declares : Fact Declared
declares = nodes (λ d. wrap d.1 (kind_outline d.0))

const_nested : (low a b c d high : ℕ) (s n : Span) (t : Ty) (e : Exp) (close : Span) → Nested (name s) low a → Nested (name n) a b → Nested (one (node_of_ty t)) b c → Nested (one (node_of_exp e)) c d → Nested (name close) d high
    → declares.holds low high (item.Const n t e, across s close)
const_nested low a b c d high s n t e close first p q r last =
    opened (across s close) through s (kind_outline (item.Const n t e)) low a high refl first
    (b, p, (c, q, beyond (one (node_of_exp e)) c d close.end (closes close d high last) r)) last.2

alias_nested : (low a b c high : ℕ) (s n : Span) (t : Ty) (close : Span) → Nested (name s) low a → Nested (name n) a b → Nested (one (node_of_ty t)) b c → Nested (name close) c high
    → declares.holds low high (item.Alias n t, across s close)
alias_nested low a b c high s n t close first p q last =
    opened (across s close) through s (kind_outline (item.Alias n t)) low a high refl first (b, p, beyond (one (node_of_ty t)) b c close.end (closes close c high last) q) last.2

struct_nested : (low a b c d high : ℕ) (s n : Span) (ts : List Ty) (bracket close : Span) → Nested (name s) low a → Nested (name n) a b → Row tys b c ts → Nested (name bracket) c d → Nested (name close) d high
    → declares.holds low high (item.Struct n ts, across s close)
struct_nested low a b c d high s n ts bracket close first p r k last =
    let i = closes close d high last in
    let j = ordered (name bracket) c d k in
    opened (across s close) through s (kind_outline (item.Struct n ts)) low a high refl first
    (b, p, upto_nested 12 part (map node_of_ty ts) b close.end (beyond (all (map node_of_ty ts)) b c close.end (omega (arith, i, j)) (row_nested node_of_ty ts b c r))) last.2

enum_nested : (low a b c high : ℕ) (s n : Span) (cs : List Ctor) (close : Span) → Nested (name s) low a → Nested (name n) a b → Row (nodes node_of_ctor) b c cs → Nested (name close) c high
    → declares.holds low high (item.Enum n cs, across s close)
enum_nested low a b c high s n cs close first p r last =
    opened (across s close) through s (kind_outline (item.Enum n cs)) low a high refl first
    (b, p, upto_nested 256 part (map node_of_ctor cs) b close.end (beyond (all (map node_of_ctor cs)) b c close.end (closes close c high last) (row_nested node_of_ctor cs b c r))) last.2

fn_nested : SpansAgree → (low a b c d high : ℕ) (s n : Span) (ps : List Param) (t : Option Ty) (body : Block) → Nested (name s) low a → Nested (name n) a b → Row (nodes node_of_param) b c ps → Perhaps tys c d t → Nested (one (node_of_block body)) d high
    → declares.holds low high (item.Fn n ps t body, across s (span_of_block body))
fn_nested agree low a b c d high s n ps t body first p r q last =
    let u = until (node_of_block body) (span_of_block body) d high (agree.of_block body) last in
    opened (across s (span_of_block body)) through s (kind_outline (item.Fn n ps t body)) low a high refl first
    (b, p, (c, upto_nested 32 parameter (map node_of_param ps) b c (row_nested node_of_param ps b c r), (d, perhaps_nested node_of_ty t c d q, u.0))) u.1

array_nested : (low a b c d high : ℕ) (s n : Span) (i : Int) (t : Ty) (close : Span) → Nested (name s) low a → Nested (name n) a b → ints.holds b c i → Nested (one (node_of_ty t)) c d → Nested (name close) d high
    → declares.holds low high (item.Array n i t, across s close)
array_nested low a b c d high s n i t close first p q r last =
    opened (across s close) through s (kind_outline (item.Array n i t)) low a high refl first
    (b, p, (c, q, beyond (one (node_of_ty t)) c d close.end (closes close d high last) r)) last.2

bytes_nested : (low a b c high : ℕ) (s n : Span) (i : Int) (close : Span) → Nested (name s) low a → Nested (name n) a b → ints.holds b c i → Nested (name close) c high → declares.holds low high (item.Bytes n i, across s close)
bytes_nested low a b c high s n i close first p q last =
    opened (across s close) through s (kind_outline (item.Bytes n i)) low a high refl first (b, p, beyond (name i.span) b c close.end (closes close c high last) q) last.2

nat_mod_nested : (low a b c d e high : ℕ) (s n canvas : Span) (i : Int) (text close : Span) → Nested (name s) low a → Nested (name n) a b → Nested (name canvas) b c → ints.holds c d i → Nested (name text) d e → Nested (name close) e high
    → declares.holds low high (item.NatMod n canvas i text, across s close)
nat_mod_nested low a b c d e high s n canvas i text close first p q r t last =
    opened (across s close) through s (kind_outline (item.NatMod n canvas i text)) low a high refl first
    (b, p, (c, q, (d, r, beyond (name text) d e close.end (closes close e high last) t))) last.2

-- ---- items

item_nested : (low m k high : ℕ) (s : Span) (ds : List Span) (d : Declared) → Nested (name s) low m → Row spans m k ds → declares.holds k high d → Nested (one (node_of_item (item_of s ds d))) low high
item_nested low m k high s ds d p r (a, b, c, q) =
    opened (across s d.1) through s (join (names ds) (kind_outline d.0)) low m high refl p (k, row_nested word ds m k r, before (kind_outline d.0) d.1.start d.1.end k a q) c

plain_nested : (low high : ℕ) (d : Declared) → declares.holds low high d → Nested (one (node_of_item (item_of d.1 [] d))) low high
plain_nested low high d (a, b, c, q) = (a, b, c, (d.1.start, omega arith, q))

module _ (ρ : Derivings lexis rules) (knots : Knots ρ) where
  mutable_param_gives : Gives ρ mutable_param (nodes node_of_param)
  unfolding mutable_param
  mutable_param_gives =
      seq ρ (λ low m high s r p q. mutable_nested knots.agree low m q.0 high mode.Mut s r.0 r.1 p q.1 q.2) (span ρ refl)
      (both ρ (name_gives ρ knots) (then_ ρ (type_gives ρ knots)))

  lent_type_gives : Gives ρ lent_type (by (λ (r : Mode × Ty). r.1) tys)
  unfolding lent_type
  lent_type_gives = then_ ρ (seq ρ {P = nothing} (λ low m high a b l p. before (one (node_of_ty b)) m high low l p) (none_kept ρ) (type_gives ρ knots))

  mode_type_gives : Gives ρ mode_type (by (λ (r : Mode × Ty). r.1) tys)
  unfolding mode_type
  mode_type_gives = alt ρ lent_type_gives (map_to ρ (λ low high t p. p) (type_gives ρ knots))

  named_param_gives : Gives ρ named_param (nodes node_of_param)
  unfolding named_param
  named_param_gives = seq ρ (λ low m high n r p q. named_nested knots.agree low m high r.0 n r.1 p q) (name_gives ρ knots) (then_ ρ mode_type_gives)

  param_gives : Gives ρ param (nodes node_of_param)
  unfolding param
  param_gives = alt ρ mutable_param_gives named_param_gives

  parts_gives : Gives ρ parts (pair (rows tys) spans)
  unfolding parts
  parts_gives = then_ ρ (both ρ (listed ρ (type_gives ρ knots)) (span ρ refl))

  ctor_gives : Gives ρ ctor (nodes node_of_ctor)
  unfolding ctor
  ctor_gives = seq ρ ctor_nested (name_gives ρ knots) (may ρ parts_gives)

  const_form_gives : Gives ρ const_form declares
  unfolding const_form
  const_form_gives =
      seq ρ (λ low m high s r p q. const_nested low m q.0 q.2.0 q.2.2.0 high s r.0 r.1.0 r.1.1.0 r.1.1.1 p q.1 q.2.1 q.2.2.1 q.2.2.2) (span ρ refl)
      (both ρ (name_gives ρ knots) (then_ ρ (both ρ (type_gives ρ knots) (then_ ρ (both ρ (expression_gives ρ knots) (span ρ refl))))))

  alias_form_gives : Gives ρ alias_form declares
  unfolding alias_form
  alias_form_gives =
      seq ρ (λ low m high s r p q. alias_nested low m q.0 q.2.0 high s r.0 r.1.0 r.1.1 p q.1 q.2.1 q.2.2) (span ρ refl)
      (both ρ (name_gives ρ knots) (then_ ρ (both ρ (type_gives ρ knots) (span ρ refl))))

  struct_form_gives : Gives ρ struct_form declares
  unfolding struct_form
  struct_form_gives =
      seq ρ (λ low m high s r p q. struct_nested low m q.0 q.2.1.0 q.2.0 high s r.0 r.1.0.0 r.1.0.1 r.1.1 p q.1 q.2.1.1 q.2.1.2 q.2.2) (span ρ refl)
      (both ρ (name_gives ρ knots) (both ρ parts_gives (span ρ refl)))

  enum_form_gives : Gives ρ enum_form declares
  unfolding enum_form
  enum_form_gives =
      seq ρ (λ low m high s r p q. enum_nested low m q.0 q.2.0 high s r.0 r.1.0 r.1.1 p q.1 q.2.1 q.2.2) (span ρ refl)
      (both ρ (name_gives ρ knots) (then_ ρ (both ρ (listed ρ ctor_gives) (span ρ refl))))

  params_rest_gives : Gives ρ params_rest (rows (nodes node_of_param))
  unfolding params_rest
  params_rest_gives = alt ρ (map_to ρ {P = nothing} (λ low high u l. l) (none_kept ρ)) (and_then ρ (listed ρ param_gives))

  params_gives : Gives ρ params (rows (nodes node_of_param))
  unfolding params
  params_gives = then_ ρ params_rest_gives

  result_type_gives : Gives ρ result_type (perhaps tys)
  unfolding result_type
  result_type_gives = may ρ (then_ ρ (type_gives ρ knots))

  fn_form_gives : Gives ρ fn_form declares
  unfolding fn_form
  fn_form_gives =
      seq ρ (λ low m high s r p q. fn_nested knots.agree low m q.0 q.2.0 q.2.2.0 high s r.0 r.1.0 r.1.1.0 r.1.1.1 p q.1 q.2.1 q.2.2.1 q.2.2.2) (span ρ refl)
      (both ρ (name_gives ρ knots) (both ρ params_gives (both ρ result_type_gives (block_gives ρ knots))))

  data_form_gives : Gives ρ data_form declares
  unfolding data_form
  data_form_gives = alt ρ struct_form_gives enum_form_gives

  declaration_gives : Gives ρ declaration declares
  unfolding declaration
  declaration_gives = alt ρ const_form_gives (alt ρ alias_form_gives (alt ρ fn_form_gives data_form_gives))

  derive_names_gives : Gives ρ derive_names (rows spans)
  unfolding derive_names
  derive_names_gives = then_ ρ (then_ ρ (then_ ρ (and_then ρ (listed ρ (name_gives ρ knots)))))

  derived_item_gives : Gives ρ derived_item (nodes node_of_item)
  unfolding derived_item
  derived_item_gives =
      seq ρ (λ low m high s r p q. item_nested low m q.0 high s r.0 r.1 p q.1 q.2) (span ρ refl)
      (both ρ derive_names_gives (then_ ρ data_form_gives))

  public_item_gives : Gives ρ public_item (nodes node_of_item)
  unfolding public_item
  public_item_gives = seq ρ (λ low m high s d p q. item_nested low m m high s [] d p (omega arith) q) (span ρ refl) declaration_gives

  plain_item_gives : Gives ρ plain_item (nodes node_of_item)
  unfolding plain_item
  plain_item_gives = map_to ρ plain_nested declaration_gives

  use_form_gives : Gives ρ use_form declares
  unfolding use_form
  use_form_gives =
      seq ρ (λ low m high s close p c. opened (across s close) through s none low m high refl p (closes close m high c) c.2) (span ρ refl)
      (then_ ρ (then_ ρ (then_ ρ (span ρ refl))))

  array_form_gives : Gives ρ array_form declares
  unfolding array_form
  array_form_gives =
      seq ρ (λ low m high s r p q. array_nested low m q.0 q.2.0 q.2.2.0 high s r.0 r.1.0 r.1.1.0 r.1.1.1 p q.1 q.2.1 q.2.2.1 q.2.2.2) (span ρ refl)
      (then_ ρ (then_ ρ (both ρ (name_gives ρ knots) (then_ ρ (both ρ (int_gives ρ knots) (then_ ρ (both ρ (type_gives ρ knots) (then_ ρ (span ρ refl)))))))))

  bytes_form_gives : Gives ρ bytes_form declares
  unfolding bytes_form
  bytes_form_gives =
      seq ρ (λ low m high s r p q. bytes_nested low m q.0 q.2.0 high s r.0 r.1.0 r.1.1 p q.1 q.2.1 q.2.2) (span ρ refl)
      (then_ ρ (then_ ρ (both ρ (name_gives ρ knots) (then_ ρ (both ρ (int_gives ρ knots) (then_ ρ (span ρ refl)))))))

  nat_mod_names_gives : Gives ρ nat_mod_names (pair spans spans)
  unfolding nat_mod_names
  nat_mod_names_gives = then_ ρ (then_ ρ (both ρ (name_gives ρ knots) (then_ ρ (then_ ρ (then_ ρ (and_then ρ (name_gives ρ knots)))))))

  nat_mod_values_gives : Gives ρ nat_mod_values (pair ints spans)
  unfolding nat_mod_values
  nat_mod_values_gives = then_ ρ (then_ ρ (both ρ (int_gives ρ knots) (then_ ρ (then_ ρ (then_ ρ (span ρ refl))))))

  nat_mod_form_gives : Gives ρ nat_mod_form declares
  unfolding nat_mod_form
  nat_mod_form_gives =
      seq ρ (λ low m high s r p q. nat_mod_nested low m q.1.0 q.0 q.2.1.0 q.2.0 high s r.0.0 r.0.1 r.1.0.0 r.1.0.1 r.1.1 p q.1.1 q.1.2 q.2.1.1 q.2.1.2 q.2.2) (span ρ refl)
      (then_ ρ (then_ ρ (both ρ nat_mod_names_gives (both ρ nat_mod_values_gives (then_ ρ (span ρ refl))))))

  other_item_gives : Gives ρ other_item (nodes node_of_item)
  unfolding other_item
  other_item_gives = map_to ρ plain_nested (alt ρ use_form_gives (alt ρ array_form_gives (alt ρ bytes_form_gives nat_mod_form_gives)))

  item_form_gives : Gives ρ item_form (nodes node_of_item)
  unfolding item_form
  item_form_gives = alt ρ derived_item_gives (alt ρ public_item_gives (alt ρ other_item_gives plain_item_gives))

  -- File
  pub file_form_gives : Gives ρ file_form (rows (nodes node_of_item))
  unfolding file_form
  file_form_gives = many ρ item_form_gives
