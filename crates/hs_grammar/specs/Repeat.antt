-- What a loop that carries a value reads.
use Rattle.std.specs.Prelude.{◌≡◌, ℕ, zero, suc, ◌<◌, Bool, cond, List, length, Result, Ok}
use denote.Ref.{MutBor}
use Rattle.hs_grammar.specs.declared.error.ParseError.{ParseError}
use Rattle.hs_grammar.specs.Parser.{Res, Done, Deep, and_then}
use Rattle.hs_grammar.specs.Reads.{Reads}

-- at most so many steps, each where the test says that it begins
abbrev pub repeats : {T A : Type 0} → ℕ → (List T → Bool) → (A → List T → Res T A) → A → List T → Res T A
repeats zero begins p a w = Deep
repeats (suc n) begins p a w = cond (begins w) (and_then (p a w) (repeats n begins p)) (Done a w)

-- steps as long as the test says that one begins
unfoldable pub repeated : {T A : Type 0} → (List T → Bool) → (A → List T → Res T A) → A → List T → Res T A
repeated begins p a w = repeats (suc (length w)) begins p a w

-- each step of this parser takes a token
abbrev pub Advances : {T A : Type 0} → (A → List T → Res T A) → Type 0
Advances {T} {A} p = (a b : A) (w r : List T) → p a w ≡ Done b r → length r < length w

-- a step that takes a token
abbrev pub StepConsumes : {T A : Type 0} → (A → MutBor (List T) → Result A ParseError → MutBor (List T) → Type 0) → Type 0
StepConsumes {T} {A} post = (a b : A) (old new : MutBor (List T)) → post a old (Ok b) new → length new.now < length old.now

-- a step that answers what this parser answers
abbrev pub StepReads : {T A : Type 0} → (A → MutBor (List T) → Result A ParseError → MutBor (List T) → Type 0) → (A → List T → Res T A) → Type 0
StepReads {T} {A} post p = (a : A) (old new : MutBor (List T)) (r : Result A ParseError) → post a old r new → Reads (p a old.now) r new.now
