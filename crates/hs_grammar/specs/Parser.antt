-- The parser that follows a grammar with one token of lookahead.
use Rattle.std.specs.Prelude.{ℕ, zero, suc, Bool, cond, List, [], ◌∷◌, Option, Some, None, length}
use Rattle.hs_grammar.specs.Form.{Lexis, Rules, Step, More, Last, Form, Pure, Tok, Nt, Map, Seq, Split, Alt, Loop, Unless, Grammar}
use Rattle.hs_grammar.specs.Kinds.{has, starts}
use Rattle.hs_grammar.specs.Derives.{DerivesAs}
use Rattle.hs_grammar.specs.Break.{Breaks}
use Rattle.hs_grammar.specs.Lookahead.{Tables, begin}

-- what a parser answers
pub data Res (T A : Type 0) : Type 0 where
  -- a value, and the tokens behind it
  Done : A → List T → Res T A
  -- the tokens from the first on that cannot stand there
  Stop : List T → Res T A
  -- rules are nested deeper than they may be
  Deep : Res T A

-- goes on with a value and the tokens behind it
abbrev pub and_then : {T A B : Type 0} → Res T A → (A → List T → Res T B) → Res T B
and_then (Done a w) k = k a w
and_then (Stop w) k = Stop w
and_then Deep k = Deep

-- the same answer, with a value made of the value
abbrev pub giving : {T A B : Type 0} → (A → B) → Res T A → Res T B
giving h r = and_then r (λ a w. Done (h a) w)

-- the first token, where it is of one of these kinds
abbrev pub token_of : (L : Lexis) → List L.kind → List L.token → Res L.token L.token
token_of L ks [] = Stop []
token_of L ks (t ∷ w) = cond (has L ks (L.kind_of t)) (Done t w) (Stop (t ∷ w))

-- what a turn of a loop adds
abbrev pub turn : {T A E : Type 0} → (List T → Res T (List A × Option E)) → Step A E → List T → Res T (List A × Option E)
turn again (More a) w = and_then (again w) (λ p r. Done (a ∷ p.0, p.1) r)
turn again (Last e) w = Done ([], Some e) w

-- a loop of at most so many turns, each where the test says that it begins
abbrev pub turns : {T A E : Type 0} → (List T → Bool) → (List T → Res T (Step A E)) → ℕ → List T → Res T (List A × Option E)
turns begins p zero w = Deep
turns begins p (suc n) w = cond (begins w) (and_then (p w) (turn (turns begins p n))) (Done ([], None) w)

-- a loop: more turns than there are tokens are never taken
unfoldable pub looped : {T A E : Type 0} → (List T → Bool) → (List T → Res T (Step A E)) → List T → Res T (List A × Option E)
looped begins p w = turns begins p (suc (length w)) w

-- a parser of each rule
abbrev pub Parsers : Lexis → Rules → Type 0
Parsers L R = (N : R.rule) → List L.token → Res L.token (R.value N)

-- the parser of a form, where p parses the rules
abbrev pub parse : {L : Lexis} {R : Rules} → Tables L R → Parsers L R → {C : Type 0} → Form L R C → List L.token → Res L.token C
parse τ p (Pure c) w = Done c w
parse {L} τ p (Tok ks h) w = giving h (token_of L ks w)
parse τ p (Nt N h) w = giving h (p N w)
parse τ p (Map h f) w = giving h (parse τ p f w)
parse τ p (Seq h f g) w = and_then (parse τ p f w) (λ a r. giving (h a) (parse τ p g r))
parse τ p (Split q h f g k) w = and_then (parse τ p f w) (λ a r. giving (h a) (cond (q a) (parse τ p g r) (parse τ p k r)))
parse {L} τ p (Alt f g) w = cond (starts L (begin τ f) w) (parse τ p f w) (parse τ p g w)
parse {L} τ p (Loop h f) w = giving (λ s. h s.0 s.1) (looped (starts L (begin τ f)) (parse τ p f) w)
parse {L} τ p (Unless ks f) w = cond (starts L ks w) (Stop w) (parse τ p f w)

-- the parser of a rule, where rules are nested no deeper than this
abbrev pub parse_by : {L : Lexis} {R : Rules} → Tables L R → Grammar L R → ℕ → Parsers L R
parse_by τ g zero N w = Deep
parse_by τ g (suc n) N w = parse τ (parse_by τ g n) (g N) w

-- the answer is exact: all tokens are derived and give the value, or the first token behind the value, or the one where the parser stops, is the first that cannot stand there
abbrev pub Exact : {L : Lexis} {R : Rules} → (g : Grammar L R) → (N : R.rule) → (w : List L.token) → Res L.token (R.value N) → Type 0
Exact g N w (Done x []) = DerivesAs g N w x
Exact g N w (Done x (t ∷ rest)) = Breaks g N w (t ∷ rest)
Exact g N w (Stop rest) = Breaks g N w rest
Exact g N w Deep = Unit {0}
