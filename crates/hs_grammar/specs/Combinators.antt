-- Combinators: the forms in terms of which grammars are written.
use Rattle.std.specs.Prelude.{List, [], ◌∷◌, Option, Some, None, fold}
use Rattle.hs_grammar.specs.Form.{Lexis, Rules, Form, Pure, Tok, Nt, Map, Seq, Alt, Loop, Step, More, Last}

-- a token of this kind
abbrev pub word : {L : Lexis} {R : Rules} → L.kind → Form L R (Unit {0})
word k = Tok (k ∷ []) (λ _. tt)

-- the value of a rule
abbrev pub rule : {L : Lexis} {R : Rules} → (N : R.rule) → Form L R (R.value N)
rule N = Nt N (λ x. x)

infixr 5 ◌>>◌
-- both, with the value of the second
abbrev pub ◌>>◌ : {L : Lexis} {R : Rules} {A B : Type 0} → Form L R A → Form L R B → Form L R B
f >> g = Seq (λ _ b. b) f g

infixl 6 ◌<<◌
-- both, with the value of the first
abbrev pub ◌<<◌ : {L : Lexis} {R : Rules} {A B : Type 0} → Form L R A → Form L R B → Form L R A
f << g = Seq (λ a _. a) f g

infixr 5 ◌&◌
-- both, with the pair of the values
abbrev pub ◌&◌ : {L : Lexis} {R : Rules} {A B : Type 0} → Form L R A → Form L R B → Form L R (A × B)
f & g = Seq (λ a b. (a, b)) f g

-- the form or nothing
abbrev pub optional : {L : Lexis} {R : Rules} {A : Type 0} → Form L R A → Form L R (Option A)
optional f = Alt (Map (λ a. Some a) f) (Pure None)

-- a turn that gives an item
abbrev pub item : {L : Lexis} {R : Rules} {A : Type 0} → Form L R A → Form L R (Step A (Unit {0}))
item f = Map (λ a. More a) f

-- the form any number of times
abbrev pub star : {L : Lexis} {R : Rules} {A : Type 0} → Form L R A → Form L R (List A)
star f = Loop (λ as' _. as') (item f)

-- the form once or more
abbrev pub plus : {L : Lexis} {R : Rules} {A : Type 0} → Form L R A → Form L R (List A)
plus f = Seq (λ a as'. a ∷ as') f (star f)

-- operands with operators between, which group to the left
abbrev pub chain : {L : Lexis} {R : Rules} {A B : Type 0} → (A → B → A) → Form L R A → Form L R B → Form L R A
chain op f g = Seq (λ a more. fold op a more) f (star g)

-- once or more, with separators between and none at the end
abbrev pub separated : {L : Lexis} {R : Rules} {A S : Type 0} → Form L R S → Form L R A → Form L R (List A)
separated s f = Seq (λ a as'. a ∷ as') f (star (s >> f))

-- once or more, with separators between and perhaps one at the end, as it is written
abbrev pub list : {L : Lexis} {R : Rules} {A S : Type 0} → Form L R S → Form L R A → Form L R (List A)
list s f = Seq (λ a as'. a ∷ as') f (Seq (λ as' _. as') (star (s >> f)) (optional s))

-- behind a separator one more item, or the end of the list
abbrev pub list_turn : {L : Lexis} {R : Rules} {A S : Type 0} → Form L R S → Form L R A → Form L R (Step A (Unit {0}))
list_turn s f = s >> Alt (Map (λ a. More a) f) (Pure (Last tt))

-- the same list, as one token of lookahead reads it
abbrev pub list_read : {L : Lexis} {R : Rules} {A S : Type 0} → Form L R S → Form L R A → Form L R (List A)
list_read s f = Seq (λ a as'. a ∷ as') f (Loop (λ as' _. as') (list_turn s f))
