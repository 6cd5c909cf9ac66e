-- Grammars as data.
use Rattle.std.specs.Prelude.{Bool, List, Option}

-- the tokens, the kind of each, and a test that tells whether two kinds are one
pub record Lexis : Type 1 where
  pub token : Type 0
  pub kind : Type 0
  pub kind_of : token → kind
  pub same : kind → kind → Bool

-- the names of a grammar's rules, and the values that each of them gives
pub record Rules : Type 1 where
  pub rule : Type 0
  pub value : rule → Type 0

-- tokens by what tells their kinds
abbrev pub lexis_of : {T K : Type 0} → (T → K) → (K → K → Bool) → Lexis
lexis_of {T} {K} kind_of same = record { token = T; kind = K; kind_of = kind_of; same = same }

-- rules by what they give
abbrev pub rules_of : {N : Type 0} → (N → Type 0) → Rules
rules_of {N} value = record { rule = N; value = value }

-- one turn of a loop: one more item, or the last thing, after which the loop is over
pub data Step (A E : Type 0) : Type 0 where
  More : A → Step A E
  Last : E → Step A E

-- a form of a grammar, by the type of the values that it gives
pub data Form (L : Lexis) (R : Rules) : Type 0 → Type 1 where
  -- no token
  Pure : {C : Type 0} → C → Form L R C
  -- a token of one of these kinds
  Tok : {C : Type 0} → List L.kind → (L.token → C) → Form L R C
  -- what the rule of this name derives
  Nt : {C : Type 0} → (N : R.rule) → (R.value N → C) → Form L R C
  -- the same tokens, with a value made of the form's value
  Map : {A C : Type 0} → (A → C) → Form L R A → Form L R C
  -- one behind the other
  Seq : {A B C : Type 0} → (A → B → C) → Form L R A → Form L R B → Form L R C
  -- the first, and behind it the second where its value passes the test, else the third
  Split : {A B C : Type 0} → (A → Bool) → (A → B → C) → Form L R A → Form L R B → Form L R B → Form L R C
  -- the one or the other
  Alt : {C : Type 0} → Form L R C → Form L R C → Form L R C
  -- any number of items, and at the end perhaps a last thing
  Loop : {A E C : Type 0} → (List A → Option E → C) → Form L R (Step A E) → Form L R C
  -- the form, where it does not begin with a token of these kinds
  Unless : {C : Type 0} → List L.kind → Form L R C → Form L R C

-- a grammar has a form for each rule
abbrev pub Grammar : Lexis → Rules → Type 1
Grammar L R = (N : R.rule) → Form L R (R.value N)
