-- What is known of where the values of forms lie.
use Rattle.std.proofs.Common.{◌≡◌, ℕ, ◌≤◌, arith, List, [], ◌∷◌, ◌++◌, Option, Some, None, map, option_map, refl, sym, ap, ◌∙◌}
use Rattle.hs_grammar.specs.Form.{Step, More, Last}
use Rattle.hs_syntax.specs.declared.span.Span.{Span}
use Rattle.hs_forms.specs.Nodes.{last_of}
use Rattle.hs_limits.specs.Outline.{Node, Kind, Surplus, join, node, one, maybe, all, upto, chain}
use Rattle.hs_limits.specs.Nodes.{word, name}
use Rattle.hs_limits.specs.Nested.{Nested}
use Rattle.hs_places.proofs.Outlines.{wide, before, beyond, begun, opened, upto_nested, end_of, grouped_left}

-- what is known of a value that lies between two places, and holds of it between any that lie further apart
pub record Fact (C : Type 0) : Type 1 where
  pub holds : ℕ → ℕ → C → Type 0
  pub wider : (low high lower higher : ℕ) (x : C) → lower ≤ low → high ≤ higher → holds low high x → holds lower higher x

-- of a value that is a node
abbrev pub nodes : {C : Type 0} → (C → Node) → Fact C
nodes f = record {
  holds = λ low high x. Nested (one (f x)) low high;
  wider = λ low high lower higher x l h n. wide (one (f x)) low high lower higher l h n;
}

-- of a token's bytes
abbrev pub spans : Fact Span
spans = nodes word

-- of what closes an angle, which may be a half of a `>>`
abbrev pub ends : Fact Span
ends = record {
  holds = λ low high s. (low ≤ s.end) × (s.end ≤ high);
  wider = λ low high lower higher s l h p. (omega (arith, l, p.0), omega (arith, h, p.1));
}

-- of a value with no bytes that are kept
abbrev pub nothing : {C : Type 0} → Fact C
nothing = record { holds = λ low high x. low ≤ high; wider = λ low high lower higher x l h n. omega (arith, l, h, n) }

-- of any value
abbrev pub anything : {C : Type 0} → Fact C
anything = record { holds = λ low high x. Unit {0}; wider = λ low high lower higher x l h n. tt }

-- of what is made of a value
abbrev pub by : {C D : Type 0} → (D → C) → Fact C → Fact D
by f P = record {
  holds = λ low high x. P.holds low high (f x);
  wider = λ low high lower higher x l h p. P.wider low high lower higher (f x) l h p;
}

-- of two values one behind the other
abbrev pub pair : {A B : Type 0} → Fact A → Fact B → Fact (A × B)
pair P Q = record {
  holds = λ low high x. (m : ℕ) × P.holds low m x.0 × Q.holds m high x.1;
  wider = λ low high lower higher x l h p. (p.0, P.wider low p.0 lower p.0 x.0 l (omega arith) p.1, Q.wider p.0 high p.0 higher x.1 (omega arith) h p.2);
}

module _ {A : Type 0} (P : Fact A) where
  abbrev pub Perhaps : ℕ → ℕ → Option A → Type 0
  Perhaps low high None = low ≤ high
  Perhaps low high (Some a) = P.holds low high a

  pub perhaps_wider : (low high lower higher : ℕ) (x : Option A) → lower ≤ low → high ≤ higher → Perhaps low high x → Perhaps lower higher x
  perhaps_wider low high lower higher None l h p = omega (arith, l, h, p)
  perhaps_wider low high lower higher (Some a) l h p = P.wider low high lower higher a l h p

  -- of a value that may be missing
  abbrev pub perhaps : Fact (Option A)
  perhaps = record { holds = Perhaps; wider = perhaps_wider }

  abbrev pub Row : ℕ → ℕ → List A → Type 0
  Row low high [] = low ≤ high
  Row low high (a ∷ as') = (m : ℕ) × P.holds low m a × Row m high as'

  pub row_wider : (low high lower higher : ℕ) (xs : List A) → lower ≤ low → high ≤ higher → Row low high xs → Row lower higher xs
  row_wider low high lower higher [] l h p = omega (arith, l, h, p)
  row_wider low high lower higher (a ∷ as') l h (m, p, q) = (m, P.wider low m lower m a l (omega arith) p, row_wider m high m higher as' (omega arith) h q)

  -- of values one behind the other
  abbrev pub rows : Fact (List A)
  rows = record { holds = Row; wider = row_wider }

module _ {A E : Type 0} (P : Fact A) (Q : Fact E) where
  abbrev pub Turn : ℕ → ℕ → Step A E → Type 0
  Turn low high (More a) = P.holds low high a
  Turn low high (Last e) = Q.holds low high e

  pub turn_wider : (low high lower higher : ℕ) (x : Step A E) → lower ≤ low → high ≤ higher → Turn low high x → Turn lower higher x
  turn_wider low high lower higher (More a) l h p = P.wider low high lower higher a l h p
  turn_wider low high lower higher (Last e) l h p = Q.wider low high lower higher e l h p

  -- of a turn of a loop
  abbrev pub turns : Fact (Step A E)
  turns = record { holds = Turn; wider = turn_wider }

-- of what makes a node of the bytes before it, with which the node begins
abbrev pub after : {C : Type 0} → (C → Node) → Fact (Span → C)
after f = record {
  holds = λ low high g. (n : Span) (start : ℕ) → Nested (name n) start low → Nested (one (f (g n))) start high;
  wider = λ low high lower higher g l h p n start e. wide (one (f (g n))) start high start higher (omega arith) h (p n start (wide (name n) start lower start low (omega arith) l e));
}

-- nodes in a row
pub row_nested : {A : Type 0} (f : A → Node) (xs : List A) (low high : ℕ) → Row (nodes f) low high xs → Nested (all (map f xs)) low high
row_nested f [] low high p = p
row_nested f (x ∷ xs) low high (m, p, q) = (m, p, row_nested f xs m high q)

-- one more behind them
pub row_more : {A : Type 0} (f : A → Node) (xs : List A) (x : A) (low m high : ℕ) → Row (nodes f) low m xs → Nested (one (f x)) m high → Row (nodes f) low high (xs ++ x ∷ [])
row_more f [] x low m high r n = (high, before (one (f x)) m high low r n, omega arith)
row_more f (y ∷ ys) x low m high (k, p, r) n = (k, p, row_more f ys x k m high r n)

-- ---- nodes around rows

module _ {A : Type 0} (f : A → Node) where
  -- a name, and what stands in the bracket behind it
  pub listed_behind : (s : Span) (kind : Kind) (n : Span) (xs : List A) (low m k high : ℕ) → s.start ≡ n.start → Nested (name n) low m → Row (nodes f) m k xs → k ≤ s.end → s.end ≤ high
      → Nested (node s kind None (join (name n) (all (map f xs)))) low high
  listed_behind s kind n xs low m k high e p r c h =
      begun s kind (word n) (all (map f xs)) low m high e p (beyond (all (map f xs)) m k s.end c (row_nested f xs m k r)) h

  -- what stands in a bracket
  pub listed_in : (s : Span) (kind : Kind) (o : Span) (xs : List A) (low m k high : ℕ) → s.start ≡ o.start → Nested (name o) low m → Row (nodes f) m k xs → k ≤ s.end → s.end ≤ high
      → Nested (node s kind None (all (map f xs))) low high
  listed_in s kind o xs low m k high e p r c h =
      opened s kind o (all (map f xs)) low m high e p (beyond (all (map f xs)) m k s.end c (row_nested f xs m k r)) h

  -- the parts of a tuple
  pub tuple_in : (s : Span) (kind : Kind) (limit : ℕ) (what : Surplus) (o : Span) (xs : List A) (low m k high : ℕ) → s.start ≡ o.start → Nested (name o) low m → Row (nodes f) m k xs → k ≤ s.end → s.end ≤ high
      → Nested (node s kind None (upto limit what (map f xs))) low high
  tuple_in s kind limit what o xs low m k high e p r c h =
      opened s kind o (upto limit what (map f xs)) low m high e p (upto_nested limit what (map f xs) m s.end (beyond (all (map f xs)) m k s.end c (row_nested f xs m k r))) h

-- a node of a name's bytes
pub own : (kind : Kind) (n : Span) (low m high : ℕ) → Nested (name n) low m → m ≤ high → Nested (node n kind None (name n)) low high
own kind n low m high (p, q, r, t) h = (p, q, omega (arith, r, h), (omega arith, q, omega arith, t))

-- where a token closes a bracket
pub closes : (s : Span) (low high : ℕ) → Nested (name s) low high → low ≤ s.end
closes s low high (p, q, r, t) = omega (arith, p, t)

-- what may be missing
pub perhaps_nested : {A : Type 0} (f : A → Node) (x : Option A) (low high : ℕ) → Perhaps (nodes f) low high x → Nested (maybe (option_map f x)) low high
perhaps_nested f None low high p = p
perhaps_nested f (Some a) low high p = p

-- the place where the last of these ends
pub last_end : {A : Type 0} (f : A → Node) (x : A) (xs : List A) → end_of (f x).at.end (map f xs) ≡ (f (last_of x xs)).at.end
last_end f x [] = refl
last_end f x (y ∷ ys) = last_end f y ys

-- what groups to the left
pub chained : {A : Type 0} (f : A → Node) (s : Span) (kind : Kind) (first : Node) (x : A) (xs : List A) (last : Span) (low m high : ℕ) → s.start ≡ first.at.start → s.end ≡ last.end → (f (last_of x xs)).at ≡ last
    → Nested (one first) low m → Row (nodes f) m high (x ∷ xs) → Nested (node s kind None (chain s.start (one first) (map f (x ∷ xs)))) low high
chained f s kind first x xs last low m high e i j p r =
    grouped_left s kind first (f x) (map f xs) low m high e (i ∙ sym (ap (λ (t : Span). t.end) j) ∙ sym (last_end f x xs)) p (row_nested f (x ∷ xs) m high r)
