-- What a form derives, and what begins it.
use Rattle.std.specs.Prelude.{◌≡◌, ℕ, zero, suc, Bool, true, false, List, [], ◌∷◌, ◌++◌, Option, Some, None, ◌⊎◌}
use Rattle.hs_grammar.specs.Form.{Lexis, Rules, Step, More, Last, Form, Pure, Tok, Nt, Map, Seq, Split, Alt, Loop, Unless, Grammar}
use Rattle.hs_grammar.specs.Kinds.{starts}

-- which token lists give which values
abbrev pub Language : Type 0 → Type 0 → Type 1
Language T C = List T → C → Type 0

-- what each rule derives
abbrev pub Derivings : Lexis → Rules → Type 1
Derivings L R = (N : R.rule) → Language L.token (R.value N)

-- what each rule is begun by
abbrev pub Beginnings : Lexis → Rules → Type 1
Beginnings L R = (N : R.rule) → List L.token → Type 0

-- the tokens are a turn for each of these items, one behind the other, and a turn for the last thing if there is one
abbrev pub Turns : {T A E : Type 0} → Language T (Step A E) → List A → Option E → List T → Type 0
Turns M [] None w = w ≡ []
Turns M [] (Some e) w = M w (Last e)
Turns {T} M (a ∷ as') e w = (u v : List T) × (w ≡ u ++ v) × M u (More a) × Turns M as' e v

-- the first fact where the test is true, else the second
abbrev pub Where : Bool → Type 0 → Type 0 → Type 0
Where true P Q = P
Where false P Q = Q

-- the form derives the tokens and gives this value, where ρ says what the rules derive
abbrev pub Derives : {L : Lexis} {R : Rules} → Derivings L R → {C : Type 0} → Form L R C → Language L.token C
Derives ρ (Pure c) w x = (w ≡ []) × (c ≡ x)
Derives {L} ρ (Tok ks h) w x = (t : L.token) × (w ≡ t ∷ []) × (starts L ks w ≡ true) × (h t ≡ x)
Derives {L} {R} ρ (Nt N h) w x = (y : R.value N) × ρ N w y × (h y ≡ x)
Derives ρ (Map {A} h f) w x = (a : A) × Derives ρ f w a × (h a ≡ x)
Derives {L} ρ (Seq {A} {B} h f g) w x = (u v : List L.token) × (a : A) × (b : B) × (w ≡ u ++ v) × Derives ρ f u a × Derives ρ g v b × (h a b ≡ x)
Derives {L} ρ (Split {A} {B} p h f g k) w x = (u v : List L.token) × (a : A) × (b : B) × (w ≡ u ++ v) × Derives ρ f u a × Where (p a) (Derives ρ g v b) (Derives ρ k v b) × (h a b ≡ x)
Derives ρ (Alt f g) w x = Derives ρ f w x ⊎ Derives ρ g w x
Derives ρ (Loop {A} {E} h f) w x = (as' : List A) × (e : Option E) × Turns (Derives ρ f) as' e w × (h as' e ≡ x)
Derives {L} ρ (Unless ks f) w x = (starts L ks w ≡ false) × Derives ρ f w x

-- the form is begun by the tokens, where ρ and β say what the rules derive and are begun by
abbrev pub Begun : {L : Lexis} {R : Rules} → Derivings L R → Beginnings L R → {C : Type 0} → Form L R C → List L.token → Type 0
Begun ρ β (Pure c) w = w ≡ []
Begun {L} ρ β (Tok ks h) w = (w ≡ []) ⊎ ((t : L.token) × (w ≡ t ∷ []) × (starts L ks w ≡ true))
Begun ρ β (Nt N h) w = β N w
Begun ρ β (Map h f) w = Begun ρ β f w
Begun {L} ρ β (Seq {A} h f g) w = Begun ρ β f w ⊎ ((u v : List L.token) × (a : A) × (w ≡ u ++ v) × Derives ρ f u a × Begun ρ β g v)
Begun {L} ρ β (Split {A} p h f g k) w = Begun ρ β f w ⊎ ((u v : List L.token) × (a : A) × (w ≡ u ++ v) × Derives ρ f u a × Where (p a) (Begun ρ β g v) (Begun ρ β k v))
Begun ρ β (Alt f g) w = Begun ρ β f w ⊎ Begun ρ β g w
Begun {L} ρ β (Loop {A} {E} h f) w = (w ≡ []) ⊎ ((u v : List L.token) × (as' : List A) × (w ≡ u ++ v) × Turns (Derives ρ f) as' None u × Begun ρ β f v)
Begun {L} ρ β (Unless ks f) w = (starts L ks w ≡ false) × Begun ρ β f w

-- the rule derives the tokens, and rules are nested no deeper than this
abbrev pub DerivesBy : {L : Lexis} {R : Rules} → Grammar L R → ℕ → Derivings L R
DerivesBy g zero N w x = ⊥
DerivesBy g (suc n) N w x = Derives (DerivesBy g n) (g N) w x

-- the rule is begun by the tokens, and rules are nested no deeper than this
abbrev pub BegunBy : {L : Lexis} {R : Rules} → Grammar L R → ℕ → Beginnings L R
BegunBy g zero N w = w ≡ []
BegunBy g (suc n) N w = Begun (DerivesBy g n) (BegunBy g n) (g N) w

-- the rule derives the tokens and gives this value
abbrev pub DerivesAs : {L : Lexis} {R : Rules} → Grammar L R → (N : R.rule) → List L.token → R.value N → Type 0
DerivesAs g N w x = (n : ℕ) × DerivesBy g n N w x

-- the rule is begun by the tokens
abbrev pub IsBegun : {L : Lexis} {R : Rules} → Grammar L R → (N : R.rule) → List L.token → Type 0
IsBegun g N w = (n : ℕ) × BegunBy g n N w
