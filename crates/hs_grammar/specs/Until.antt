-- What a loop that carries a value, and may end with a last turn, reads.
use Rattle.std.specs.Prelude.{◌≡◌, ℕ, zero, suc, ◌<◌, Bool, cond, List, [], ◌∷◌, ◌++◌, length, Result, Ok}
use denote.Ref.{MutBor}
use Rattle.hs_grammar.specs.declared.error.ParseError.{ParseError}
use Rattle.hs_grammar.specs.declared.loops.Turn.{Turn}
use Rattle.hs_grammar.specs.declared.loops.Turn.TheVariants as turns
use Rattle.hs_grammar.specs.Form.{Step, More, Last}
use Rattle.hs_grammar.specs.Parser.{Res, Done, Deep, and_then}
use Rattle.hs_grammar.specs.Reads.{Reads}

-- what follows a turn
abbrev pub after_turn : {T A : Type 0} → (A → List T → Res T A) → Turn A → List T → Res T A
after_turn again (turns.More a) w = again a w
after_turn again (turns.Last a) w = Done a w

-- at most so many turns, each where the test says that it begins
abbrev pub repeats_until : {T A : Type 0} → ℕ → (List T → Bool) → (A → List T → Res T (Turn A)) → A → List T → Res T A
repeats_until zero begins p a w = Deep
repeats_until (suc n) begins p a w = cond (begins w) (and_then (p a w) (after_turn (repeats_until n begins p))) (Done a w)

-- turns as long as the test says that one begins, and up to a last one
unfoldable pub repeated_until : {T A : Type 0} → (List T → Bool) → (A → List T → Res T (Turn A)) → A → List T → Res T A
repeated_until begins p a w = repeats_until (suc (length w)) begins p a w

-- each turn of this parser takes a token
abbrev pub TurnsAdvance : {T A : Type 0} → (A → List T → Res T (Turn A)) → Type 0
TurnsAdvance {T} {A} p = (a : A) (t : Turn A) (w r : List T) → p a w ≡ Done t r → length r < length w

-- a turn that takes a token
abbrev pub TurnConsumes : {T A : Type 0} → (A → MutBor (List T) → Result (Turn A) ParseError → MutBor (List T) → Type 0) → Type 0
TurnConsumes {T} {A} post = (a : A) (t : Turn A) (old new : MutBor (List T)) → post a old (Ok t) new → length new.now < length old.now

-- a turn that answers what this parser answers
abbrev pub TurnReads : {T A : Type 0} → (A → MutBor (List T) → Result (Turn A) ParseError → MutBor (List T) → Type 0) → (A → List T → Res T (Turn A)) → Type 0
TurnReads {T} {A} post p = (a : A) (old new : MutBor (List T)) (r : Result (Turn A) ParseError) → post a old r new → Reads (p a old.now) r new.now

-- what a turn of a grammar's loop makes of the value so far
abbrev pub turn_of : {S A E : Type 0} → (S → A → S) → (S → E → S) → S → Step A E → Turn S
turn_of more last s (More a) = turns.More (more s a)
turn_of more last s (Last e) = turns.Last (last s e)

-- one more item at the end of a list
abbrev pub pushed : {A : Type 0} → List A → A → List A
pushed l a = l ++ a ∷ []

-- the list as it is, whatever ends it
abbrev pub kept : {A E : Type 0} → List A → E → List A
kept l e = l
