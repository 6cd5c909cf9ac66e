-- What parsing a whole list of tokens is to answer.
use Rattle.std.specs.Prelude.{◌≡◌, ℕ, ◌+◌, ◌-◌, ◌≤◌, List, [], Result, Ok, Err, length}
use Rattle.hs_grammar.specs.declared.error.Refusal.{Refusal}
use Rattle.hs_grammar.specs.declared.error.Refusal.TheVariants as refusals
use Rattle.hs_grammar.specs.Form.{Lexis, Rules, Grammar}
use Rattle.hs_grammar.specs.Derives.{DerivesBy, DerivesAs}
use Rattle.hs_grammar.specs.Break.{Breaks}
use Rattle.hs_grammar.specs.Parser.{Res, Done, Stop, Deep}

-- the parser stopped before these tokens, or left them behind a value
abbrev pub StopsAt : {T A : Type 0} → Res T A → List T → Type 0
StopsAt (Done x left) rest = (left ≡ rest) × (rest ≡ [] → ⊥)
StopsAt (Stop left) rest = left ≡ rest
StopsAt Deep rest = ⊥

-- the answer for all the tokens, where the parser's own answer is this one
abbrev pub Finishes : {T A : Type 0} → Res T A → List T → Result A Refusal → Type 0
Finishes r w (Ok x) = r ≡ Done x []
Finishes {T} r w (Err (refusals.At place)) = (rest : List T) × (place ≡ length w - length rest) × StopsAt r rest
Finishes r w (Err refusals.TooDeep) = r ≡ Deep
Finishes r w (Err refusals.NoMemory) = Unit {0}

-- the token at this place is the first that cannot stand there, or the place is the number of tokens, and they end too early
abbrev pub ParseBreak : {L : Lexis} {R : Rules} → Grammar L R → (N : R.rule) → List L.token → ℕ → Type 0
ParseBreak {L} g N w at = (rest : List L.token) × Breaks g N w rest × (at + length rest ≡ length w)

-- the answer of a parser that nests rules no deeper than this: what the tokens derive, the place where they break, or that they derive nothing of so small a height
abbrev pub Parses : {L : Lexis} {R : Rules} → Grammar L R → (N : R.rule) → ℕ → List L.token → Result (R.value N) Refusal → Type 0
Parses g N depth w (Ok x) = DerivesAs g N w x
Parses g N depth w (Err (refusals.At place)) = ParseBreak g N w place
Parses {L} {R} g N depth w (Err refusals.TooDeep) = (m : ℕ) (x : R.value N) → m ≤ depth → DerivesBy g m N w x → ⊥
Parses g N depth w (Err refusals.NoMemory) = Unit {0}

-- the answer of a parser that nests rules as deep as the tokens ask: what they derive, or the place where they break
abbrev pub ParsesAll : {L : Lexis} {R : Rules} → Grammar L R → (N : R.rule) → List L.token → Result (R.value N) Refusal → Type 0
ParsesAll g N w (Ok x) = DerivesAs g N w x
ParsesAll g N w (Err (refusals.At place)) = ParseBreak g N w place
ParsesAll g N w (Err refusals.TooDeep) = ⊥
ParsesAll g N w (Err refusals.NoMemory) = Unit {0}

-- what is derived is answered as it is, unless it nests too deep or memory runs out
abbrev pub Only : {A : Type 0} → A → Result A Refusal → Type 0
Only x (Ok y) = y ≡ x
Only x (Err (refusals.At place)) = ⊥
Only x (Err refusals.TooDeep) = Unit {0}
Only x (Err refusals.NoMemory) = Unit {0}
