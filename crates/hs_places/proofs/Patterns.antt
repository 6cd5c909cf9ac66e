-- Where patterns lie.
use Rattle.std.proofs.Common.{ℕ, arith, true, false, List, [], ◌∷◌, Option, Some, None, refl, map}
use Rattle.hs_grammar.specs.Derives.{Derivings}
use Rattle.hs_syntax.specs.declared.span.Span.{Span}
use Rattle.hs_syntax.specs.declared.pat.Pat.{Pat}
use Rattle.hs_forms.specs.declared.token.Kind.TheVariants as k
use Rattle.hs_forms.specs.Lexis.{lexis}
use Rattle.hs_forms.specs.Nodes.{across, mutable_pat, name_pat, tuple_pat, ctor_pat, member_pat}
use Rattle.hs_forms.specs.Reading.{rules, RPat, pattern, patterns, named_pattern, mutable_pattern, tuple_pattern, pat_form, member_pattern, behind_ctor, arm_pattern}
use Rattle.hs_limits.specs.Outline.{none, join, one, all, apart, part}
use Rattle.hs_limits.specs.Nodes.{word, name, node_of_pat, node_of_arm_pat}
use Rattle.hs_limits.specs.Nested.{Nested}
use Rattle.hs_places.proofs.Outlines.{beyond, begun, opened}
use Rattle.hs_places.proofs.Layers.{on, pat_name, pat_any, pat_tuple, pat_struct}
use Rattle.hs_places.proofs.Facts.{Fact, nodes, spans, pair, perhaps, rows, Row, row_nested, after, listed_behind, tuple_in, own, closes}
use Rattle.hs_places.proofs.Gives.{Gives, Knots, of_rule, span, map_to, seq, alt, then_, both, may, listed}
use Rattle.hs_places.proofs.Types.{name_gives}

-- patterns in a bracket
abbrev pub listings : Fact (List Pat × Span)
listings = pair (rows (nodes node_of_pat)) spans

name_nested : (low m high : ℕ) (n : Span) (more : Option (List Pat × Span)) → Nested (name n) low m → (perhaps listings).holds m high more → Nested (one (node_of_pat (name_pat n more))) low high
name_nested low m high n None p l = on (pat_name n false n) (own apart n low m high p l)
name_nested low m high n (Some (ps, close)) p (k, r, c) =
    on (pat_struct (across n close) n ps) (listed_behind node_of_pat (across n close) apart n ps low m k high refl p r (closes close k high c) c.2)

mutable_nested : (low m high : ℕ) (s n : Span) → Nested (name s) low m → Nested (name n) m high → Nested (one (node_of_pat (mutable_pat s n))) low high
mutable_nested low m high s n p q =
    on (pat_name (across s n) true n) (opened (across s n) apart s (name n) low m high refl p (q.0, q.1, omega arith, q.3) q.2)

tuple_nested : (low m k l high : ℕ) (o : Span) (p : Pat) (ps : List Pat) (close : Span) → Nested (name o) low m → Nested (one (node_of_pat p)) m k → Row (nodes node_of_pat) k l ps → Nested (name close) l high
    → Nested (one (node_of_pat (tuple_pat o p ps close))) low high
tuple_nested low m k l high o p ps close a b r c =
    on (pat_tuple (across o close) (p ∷ ps)) (tuple_in node_of_pat (across o close) apart 12 part o (p ∷ ps) low m l high refl a (k, b, r) (closes close l high c) c.2)

member_nested : (low m high : ℕ) (n : Span) (more : Option (List Pat × Span)) (t : Span) (start : ℕ) → Nested (name t) start low → Nested (name n) low m → (perhaps listings).holds m high more
    → Nested (one (node_of_arm_pat (member_pat t n more))) start high
member_nested low m high n None t start p q l =
    begun (across t n) apart (word t) (join (name n) none) start low high refl p (n.end, (q.0, q.1, omega arith, q.3), omega arith) (omega (arith, q.2, l))
member_nested low m high n (Some (ps, close)) t start p q (k, r, c) =
    let e = closes close k high c in
    begun (across t close) apart (word t) (join (name n) (all (map node_of_pat ps))) start low high refl p
    (m, q, beyond (all (map node_of_pat ps)) m k close.end e (row_nested node_of_pat ps m k r)) c.2

ctor_nested : (low high : ℕ) (more : Option (List Pat × Span)) (n : Span) (start : ℕ) → Nested (name n) start low → (perhaps listings).holds low high more → Nested (one (node_of_arm_pat (ctor_pat n more))) start high
ctor_nested low high None n start p l = begun n apart (word n) none start n.end high refl (p.0, p.1, omega arith, p.3) (omega arith) (omega (arith, p.2, l))
ctor_nested low high (Some (ps, close)) n start p (k, r, c) = listed_behind node_of_pat (across n close) apart n ps start low k high refl p r (closes close k high c) c.2

module _ (ρ : Derivings lexis rules) (knots : Knots ρ) where
  pub pattern_gives : Gives ρ pattern (nodes node_of_pat)
  pattern_gives = of_rule ρ knots RPat

  patterns_gives : Gives ρ patterns listings
  unfolding patterns
  patterns_gives = then_ ρ (both ρ (listed ρ pattern_gives) (span ρ refl))

  named_pattern_gives : Gives ρ named_pattern (nodes node_of_pat)
  unfolding named_pattern
  named_pattern_gives = seq ρ name_nested (name_gives ρ knots) (may ρ patterns_gives)

  mutable_pattern_gives : Gives ρ mutable_pattern (nodes node_of_pat)
  unfolding mutable_pattern
  mutable_pattern_gives = seq ρ mutable_nested (span ρ refl) (name_gives ρ knots)

  tuple_pattern_gives : Gives ρ tuple_pattern (nodes node_of_pat)
  unfolding tuple_pattern
  tuple_pattern_gives =
      seq ρ (λ low m high o r p q. tuple_nested low m q.0 q.2.0 high o r.0 r.1.0 r.1.1 p q.1 q.2.1 q.2.2) (span ρ refl)
      (both ρ pattern_gives (then_ ρ (both ρ (listed ρ pattern_gives) (span ρ refl))))

  -- Pat
  pub pat_form_gives : Gives ρ pat_form (nodes node_of_pat)
  unfolding pat_form
  pat_form_gives =
      alt ρ mutable_pattern_gives (alt ρ (map_to ρ (λ low high s p. on (pat_any s) p) (span ρ {ks = k.Underscore ∷ []} refl))
      (alt ρ tuple_pattern_gives named_pattern_gives))

  member_pattern_gives : Gives ρ member_pattern (after node_of_arm_pat)
  unfolding member_pattern
  member_pattern_gives =
      then_ ρ (seq ρ (λ low m high n o p q t start s. member_nested low m high n o t start s p q) (name_gives ρ knots) (may ρ patterns_gives))

  behind_ctor_gives : Gives ρ behind_ctor (after node_of_arm_pat)
  unfolding behind_ctor
  behind_ctor_gives = alt ρ member_pattern_gives (map_to ρ (λ low high o p n start s. ctor_nested low high o n start s p) (may ρ patterns_gives))

  -- ArmPat
  pub arm_pattern_gives : Gives ρ arm_pattern (nodes node_of_arm_pat)
  unfolding arm_pattern
  arm_pattern_gives =
      alt ρ (map_to ρ (λ low high s p. p) (span ρ {ks = k.Underscore ∷ []} refl)) (seq ρ (λ low m high n f p h. h n low p) (name_gives ρ knots) behind_ctor_gives)
