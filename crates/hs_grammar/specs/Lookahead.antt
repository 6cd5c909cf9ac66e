-- When one token of lookahead is enough.
use Rattle.std.specs.Prelude.{◌≡◌, Bool, true, false, not, ◌&&◌, ◌||◌, cond, List, [], ◌++◌, Option, ◌⊎◌}
use Rattle.hs_grammar.specs.Form.{Lexis, Rules, Step, More, Last, Form, Pure, Tok, Nt, Map, Seq, Split, Alt, Loop, Unless, Grammar}
use Rattle.hs_grammar.specs.Kinds.{disjoint, within, without}
use Rattle.hs_grammar.specs.Derives.{Where}

-- what a grammar's author says of each rule: whether it can derive no token, the kinds that it can begin with, and the kinds with which a parser goes on where the rule could be over
pub record Tables (L : Lexis) (R : Rules) : Type 0 where
  pub empty : R.rule → Bool
  pub begin : R.rule → List L.kind
  pub go_on : R.rule → List L.kind

-- whether the form can derive no token
abbrev pub empty : {L : Lexis} {R : Rules} → Tables L R → {C : Type 0} → Form L R C → Bool
empty τ (Pure c) = true
empty τ (Tok ks h) = false
empty τ (Nt N h) = τ.empty N
empty τ (Map h f) = empty τ f
empty τ (Seq h f g) = empty τ f && empty τ g
empty τ (Split p h f g k) = empty τ f && (empty τ g || empty τ k)
empty τ (Alt f g) = empty τ f || empty τ g
empty τ (Loop h f) = true
empty τ (Unless ks f) = empty τ f

-- the kinds that the form can begin with
abbrev pub begin : {L : Lexis} {R : Rules} → Tables L R → {C : Type 0} → Form L R C → List L.kind
begin τ (Pure c) = []
begin τ (Tok ks h) = ks
begin τ (Nt N h) = τ.begin N
begin τ (Map h f) = begin τ f
begin τ (Seq h f g) = begin τ f ++ cond (empty τ f) (begin τ g) []
begin τ (Split p h f g k) = begin τ f ++ cond (empty τ f) (begin τ g ++ begin τ k) []
begin τ (Alt f g) = begin τ f ++ begin τ g
begin τ (Loop h f) = begin τ f
begin {L} τ (Unless ks f) = without L ks (begin τ f)

-- the kinds with which a parser goes on where the form could be over
abbrev pub go_on : {L : Lexis} {R : Rules} → Tables L R → {C : Type 0} → Form L R C → List L.kind
go_on τ (Pure c) = []
go_on τ (Tok ks h) = []
go_on τ (Nt N h) = τ.go_on N
go_on τ (Map h f) = go_on τ f
go_on τ (Seq h f g) = go_on τ g ++ cond (empty τ g) (go_on τ f) []
go_on τ (Split p h f g k) = (go_on τ g ++ go_on τ k) ++ cond (empty τ g || empty τ k) (go_on τ f) []
go_on τ (Alt f g) = go_on τ f ++ go_on τ g ++ cond (empty τ g) (begin τ f) []
go_on τ (Loop h f) = go_on τ f ++ begin τ f
go_on τ (Unless ks f) = go_on τ f

-- the form derives no value of P from no token
abbrev pub NoEmpty : {L : Lexis} {R : Rules} → Tables L R → {C : Type 0} → (C → Type 0) → Form L R C → Type 0
NoEmpty τ P (Pure c) = P c → ⊥
NoEmpty τ P (Tok ks h) = Unit {0}
NoEmpty τ P (Nt N h) = τ.empty N ≡ false
NoEmpty τ P (Map h f) = NoEmpty τ (λ a. P (h a)) f
NoEmpty τ P (Seq h f g) = (empty τ f && empty τ g) ≡ false
NoEmpty τ P (Split p h f g k) = (empty τ f && (empty τ g || empty τ k)) ≡ false
NoEmpty τ P (Alt f g) = NoEmpty τ P f × NoEmpty τ P g
NoEmpty τ P (Loop {A} {E} h f) = (as' : List A) (e : Option E) → P (h as' e) → ⊥
NoEmpty τ P (Unless ks f) = NoEmpty τ P f

-- behind a value of P a parser goes on with no other kinds than these
abbrev pub GoesOn : {L : Lexis} {R : Rules} → Tables L R → List L.kind → {C : Type 0} → (C → Type 0) → Form L R C → Type 0
GoesOn τ ks P (Pure c) = Unit {0}
GoesOn τ ks P (Tok js h) = Unit {0}
GoesOn {L} τ ks P (Nt N h) = within L (τ.go_on N) ks ≡ true
GoesOn τ ks P (Map h f) = GoesOn τ ks (λ a. P (h a)) f
GoesOn {L} τ ks P (Seq {A} h f g) = (a : A) → GoesOn τ ks (λ b. P (h a b)) g × (NoEmpty τ (λ b. P (h a b)) g ⊎ (within L (go_on τ f) ks ≡ true))
GoesOn {L} τ ks P (Split {A} p h f g k) = (a : A) → Where (p a)
    (GoesOn τ ks (λ b. P (h a b)) g × (NoEmpty τ (λ b. P (h a b)) g ⊎ (within L (go_on τ f) ks ≡ true)))
    (GoesOn τ ks (λ b. P (h a b)) k × (NoEmpty τ (λ b. P (h a b)) k ⊎ (within L (go_on τ f) ks ≡ true)))
GoesOn {L} τ ks P (Alt f g) = GoesOn τ ks P f × GoesOn τ ks P g × (NoEmpty τ P g ⊎ (within L (begin τ f) ks ≡ true))
GoesOn {L} τ ks P (Loop h f) = within L (go_on τ f ++ begin τ f) ks ≡ true
GoesOn τ ks P (Unless js f) = GoesOn τ ks P f

-- the turn gives an item
abbrev pub IsMore : {A E : Type 0} → Step A E → Type 0
IsMore (More a) = Unit {0}
IsMore (Last e) = ⊥

-- one token of lookahead is enough for the form
abbrev pub Fits : {L : Lexis} {R : Rules} → Tables L R → {C : Type 0} → Form L R C → Type 0
Fits τ (Pure c) = Unit {0}
Fits τ (Tok ks h) = Unit {0}
Fits τ (Nt N h) = Unit {0}
Fits τ (Map h f) = Fits τ f
Fits {L} τ (Seq h f g) = Fits τ f × Fits τ g × (disjoint L (go_on τ f) (begin τ g) ≡ true)
Fits {L} τ (Split p h f g k) = Fits τ f × Fits τ g × Fits τ k × (disjoint L (go_on τ f) (begin τ g ++ begin τ k) ≡ true)
Fits {L} τ (Alt f g) = Fits τ f × Fits τ g × (disjoint L (begin τ f) (begin τ g) ≡ true) × (empty τ f ≡ false)
Fits {L} τ (Loop h f) = Fits τ f × (ks : List L.kind) × GoesOn τ ks IsMore f × (disjoint L ks (begin τ f) ≡ true) × (empty τ f ≡ false) × (within L ks (go_on τ f) ≡ true)
Fits τ (Unless ks f) = Fits τ f × (empty τ f ≡ false)

-- a test that computes: one token of lookahead is enough, and in each loop nothing that goes on behind a turn begins a turn
abbrev pub fits_test : {L : Lexis} {R : Rules} → Tables L R → {C : Type 0} → Form L R C → Bool
fits_test τ (Pure c) = true
fits_test τ (Tok ks h) = true
fits_test τ (Nt N h) = true
fits_test τ (Map h f) = fits_test τ f
fits_test {L} τ (Seq h f g) = disjoint L (go_on τ f) (begin τ g) && (fits_test τ f && fits_test τ g)
fits_test {L} τ (Split p h f g k) = disjoint L (go_on τ f) (begin τ g ++ begin τ k) && (fits_test τ f && (fits_test τ g && fits_test τ k))
fits_test {L} τ (Alt f g) = (disjoint L (begin τ f) (begin τ g) && not (empty τ f)) && (fits_test τ f && fits_test τ g)
fits_test {L} τ (Loop h f) = (disjoint L (go_on τ f) (begin τ f) && not (empty τ f)) && fits_test τ f
fits_test τ (Unless ks f) = not (empty τ f) && fits_test τ f

-- one token of lookahead is enough for the rule, and the tables say of it what its form computes
pub record FitsRule {L : Lexis} {R : Rules} (τ : Tables L R) (g : Grammar L R) (N : R.rule) : Type 0 where
  pub fits : Fits τ (g N)
  pub empty_is : empty τ (g N) ≡ τ.empty N
  pub begin_in : within L (begin τ (g N)) (τ.begin N) ≡ true
  pub go_on_in : within L (go_on τ (g N)) (τ.go_on N) ≡ true
