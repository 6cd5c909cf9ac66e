-- The first token that cannot stand where it stands.
use Rattle.std.specs.Prelude.{◌≡◌, List, [], ◌∷◌, ◌++◌}
use Rattle.hs_grammar.specs.Form.{Lexis, Rules, Grammar}
use Rattle.hs_grammar.specs.Derives.{DerivesAs, IsBegun}

-- the rule is not begun with the first token of the rest, or there is none and the tokens are not derived
abbrev pub CannotGoOn : {L : Lexis} {R : Rules} → Grammar L R → (N : R.rule) → List L.token → List L.token → Type 0
CannotGoOn {L} {R} g N before [] = (x : R.value N) → DerivesAs g N before x → ⊥
CannotGoOn g N before (t ∷ rest) = IsBegun g N (before ++ t ∷ []) → ⊥

-- the tokens up to the rest begin the rule, each front of them too, and the rule cannot go on with the rest: its first token is the first that cannot stand there, or the tokens end too early
pub record Breaks {L : Lexis} {R : Rules} (g : Grammar L R) (N : R.rule) (w : List L.token) (rest : List L.token) : Type 0 where
  pub before : List L.token
  pub whole : w ≡ before ++ rest
  pub begun : (a b : List L.token) → before ≡ a ++ b → IsBegun g N a
  pub over : CannotGoOn g N before rest
