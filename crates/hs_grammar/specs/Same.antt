-- Two forms that derive the same and are begun by the same.
use Rattle.std.specs.Prelude.{ℕ, List, []}
use Rattle.hs_grammar.specs.Form.{Lexis, Rules, Form, Grammar}
use Rattle.hs_grammar.specs.Derives.{Derivings, Beginnings, Derives, Begun, DerivesBy, BegunBy}

-- the two forms derive the same values from the same tokens, and are begun by the same tokens
pub record Same {L : Lexis} {R : Rules} (ρ : Derivings L R) (β : Beginnings L R) {C : Type 0} (f g : Form L R C) : Type 0 where
  pub to : (w : List L.token) (x : C) → Derives ρ f w x → Derives ρ g w x
  pub from : (w : List L.token) (x : C) → Derives ρ g w x → Derives ρ f w x
  pub begun_to : (w : List L.token) → Begun ρ β f w → Begun ρ β g w
  pub begun_from : (w : List L.token) → Begun ρ β g w → Begun ρ β f w

-- no token begins each rule, and what a rule derives begins it
pub record Sane (L : Lexis) (R : Rules) (ρ : Derivings L R) (β : Beginnings L R) : Type 0 where
  pub none : (N : R.rule) → β N []
  pub begun : (N : R.rule) (w : List L.token) (y : R.value N) → ρ N w y → β N w

-- for each rule the two grammars have forms that are the same, at each height of either
abbrev pub SameGrammars : {L : Lexis} {R : Rules} → Grammar L R → Grammar L R → Type 0
SameGrammars {L} {R} h g = (n : ℕ) (N : R.rule) → Same (DerivesBy g n) (BegunBy g n) (h N) (g N) × Same (DerivesBy h n) (BegunBy h n) (h N) (g N)
