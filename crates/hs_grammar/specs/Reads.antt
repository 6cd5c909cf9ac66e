-- What functions that parse ensure.
use Rattle.std.specs.Prelude.{◌≡◌, ℕ, Bool, true, false, List, Result, Ok, Err}
use Rattle.std.specs.declared.alloc.Global.{Global}
use denote.Ref.{MutBor}
use Rattle.hs_grammar.specs.declared.error.ParseError.{ParseError}
use Rattle.hs_grammar.specs.declared.error.ParseError.TheVariants as errors
use Rattle.hs_grammar.specs.Form.{Lexis, Rules, Form, Grammar}
use Rattle.hs_grammar.specs.Lookahead.{Tables}
use Rattle.hs_grammar.specs.Parser.{Res, Done, Stop, Deep, token_of, parse, parse_by}

-- the function answers what the parser answers, unless memory runs out, and leaves the tokens from there on
abbrev pub Reads : {T A : Type 0} → Res T A → Result A ParseError → List T → Type 0
Reads r (Ok a) new = r ≡ Done a new
Reads r (Err errors.Syntax) new = r ≡ Stop new
Reads r (Err errors.TooDeep) new = r ≡ Deep
Reads r (Err errors.NoMemory) new = Unit {0}

-- the first token is taken where it is of one of these kinds, and else nothing is
abbrev pub Eats : (L : Lexis) → List L.kind → List L.token → Bool → List L.token → Type 0
Eats L ks old true new = (t : L.token) × (token_of L ks old ≡ Done t new)
Eats L ks old false new = (token_of L ks old ≡ Stop new) × (new ≡ old)

-- the parser of a form, where rules inside it nest no deeper than this
abbrev pub read : {L : Lexis} {R : Rules} → Tables L R → Grammar L R → ℕ → {A : Type 0} → Form L R A → List L.token → Res L.token A
read τ g depth f w = parse τ (parse_by τ g depth) f w

-- a function value that may always be called, and answers what the parser of the rule answers at this depth
pub record Nests {L : Lexis} {R : Rules} (τ : Tables L R) (g : Grammar L R) (N : R.rule) (depth : ℕ) (pre : Global → MutBor (List L.token) → ℕ → Type 0)
    (post : Global → MutBor (List L.token) → ℕ → Result (R.value N) ParseError → MutBor (List L.token) → Type 0) : Type 0 where
  pub callable : (alloc : Global) (old : MutBor (List L.token)) → pre alloc old depth
  pub reads : (alloc : Global) (old new : MutBor (List L.token)) (r : Result (R.value N) ParseError) → post alloc old depth r new
      → Reads (parse_by τ g depth N old.now) r new.now
