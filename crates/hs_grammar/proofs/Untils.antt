-- A loop that carries a value and may end with a last turn, a turn at a time.
use Rattle.std.proofs.Common.{◌≡◌, ℕ, zero, suc, ◌<◌, arith, Bool, true, false, cond, List, [], ◌∷◌, Option, Some, None, Ok, Err, length, fold, refl, ap, ◌∙◌}
use Rattle.hs_grammar.specs.declared.error.ParseError.{ParseError}
use Rattle.hs_grammar.specs.declared.error.ParseError.TheVariants as errors
use Rattle.hs_grammar.specs.declared.loops.Turn.{Turn}
use Rattle.hs_grammar.specs.declared.loops.Turn.TheVariants as turns
use Rattle.hs_grammar.specs.Form.{Step, More, Last}
use Rattle.hs_grammar.specs.Parser as parser
use Rattle.hs_grammar.specs.Parser.{Res, Done, Stop, Deep, and_then, giving, looped}
use Rattle.hs_grammar.specs.Reads.{Reads}
use Rattle.hs_grammar.specs.Until.{after_turn, repeats_until, repeated_until, TurnsAdvance, turn_of}

enough_turn : {T A : Type 0} (f g : A → List T → Res T A) (r : Res T (Turn A)) → ((a : A) (q : List T) → r ≡ Done (turns.More a) q → f a q ≡ g a q) → and_then r (after_turn f) ≡ and_then r (after_turn g)
enough_turn f g (Done (turns.More a) q) h = h a q refl
enough_turn f g (Done (turns.Last a) q) h = refl
enough_turn f g (Stop q) h = refl
enough_turn f g Deep h = refl

enough : {T A : Type 0} (begins : List T → Bool) (p : A → List T → Res T (Turn A)) → TurnsAdvance p
    → (n k : ℕ) (a : A) (w : List T) → length w < n → length w < k → repeats_until n begins p a w ≡ repeats_until k begins p a w
enough begins p c zero k a w h i = absurd (omega arith)
enough begins p c (suc n) zero a w h i = absurd (omega arith)
enough begins p c (suc n) (suc k) a w h i =
    ap (λ s. cond (begins w) s (Done a w))
    (enough_turn (repeats_until n begins p) (repeats_until k begins p) (p a w) (λ b q e. let less : length q < length w = c a (turns.More b) w q e in enough begins p c n k b q (omega arith) (omega arith)))

-- a loop is a turn, and the loop again
pub unrolled : {T A : Type 0} (begins : List T → Bool) (p : A → List T → Res T (Turn A)) → TurnsAdvance p → (a : A) (w : List T)
    → repeated_until begins p a w ≡ cond (begins w) (and_then (p a w) (after_turn (repeated_until begins p))) (Done a w)
unfolding repeated_until
unrolled begins p c a w =
    ap (λ s. cond (begins w) s (Done a w))
    (enough_turn (repeats_until (length w) begins p) (λ b v. repeats_until (suc (length v)) begins p b v) (p a w)
    (λ b q e. let less : length q < length w = c a (turns.More b) w q e in enough begins p c (length w) (suc (length q)) b q (omega arith) (omega arith)))

module _ {T A : Type 0} (begins : List T → Bool) (p : A → List T → Res T (Turn A)) (c : TurnsAdvance p) where
  -- where no turn begins the value is the last
  pub until-over : (a : A) (w : List T) → begins w ≡ false → repeated_until begins p a w ≡ Done a w
  until-over a w e = unrolled begins p c a w ∙ ap (λ b. cond b (and_then (p a w) (after_turn (repeated_until begins p))) (Done a w)) e

  -- where a turn begins the loop goes on behind it
  pub until-on : (a : A) (w : List T) (r : Res T (Turn A)) → begins w ≡ true → p a w ≡ r → repeated_until begins p a w ≡ and_then r (after_turn (repeated_until begins p))
  until-on a w r e i = unrolled begins p c a w ∙ ap (λ b. cond b (and_then (p a w) (after_turn (repeated_until begins p))) (Done a w)) e ∙ ap (λ s. and_then s (after_turn (repeated_until begins p))) i

  -- where a turn fails the loop fails
  pub until_err : (a : A) (w new : List T) (e : ParseError) → begins w ≡ true → Reads (p a w) (Err e) new → Reads (repeated_until begins p a w) (Err e) new
  until_err a w new errors.Syntax t r = until-on a w (Stop new) t r
  until_err a w new errors.TooDeep t r = until-on a w Deep t r
  until_err a w new errors.NoMemory t r = tt

  -- where a turn gives a value the loop goes on with it
  pub until_more : (a b : A) (t : Turn A) (w new : List T) → begins w ≡ true → Reads (p a w) (Ok t) new → t ≡ turns.More b → repeated_until begins p a w ≡ repeated_until begins p b new
  until_more a b t w new i r e = until-on a w (Done t new) i r ∙ ap (λ x. after_turn (repeated_until begins p) x new) e

  -- where a turn is the last its value is the loop's
  pub until_last : (a b : A) (t : Turn A) (w new : List T) → begins w ≡ true → Reads (p a w) (Ok t) new → t ≡ turns.Last b → repeated_until begins p a w ≡ Done b new
  until_last a b t w new i r e = until-on a w (Done t new) i r ∙ ap (λ x. after_turn (repeated_until begins p) x new) e

module _ {T S A E : Type 0} (more : S → A → S) (last : S → E → S) (begins : List T → Bool) (p : List T → Res T (Step A E)) where
  -- the value at the loop's end
  abbrev pub ended : S → List A → Option E → S
  ended s as' None = fold more s as'
  ended s as' (Some e) = last (fold more s as') e

  -- one more turn
  abbrev pub carried : S → List T → Res T (Turn S)
  carried s v = giving (turn_of more last s) (p v)

  behind : (s : S) (a : A) (r : Res T (List A × Option E)) → giving {A = List A × Option E} (λ x. ended s x.0 x.1) (and_then r (λ x q. Done (a ∷ x.0, x.1) q)) ≡ giving (λ x. ended (more s a) x.0 x.1) r
  behind s a (Done (as', None) q) = refl
  behind s a (Done (as', Some e) q) = refl
  behind s a (Stop q) = refl
  behind s a Deep = refl

  front : (n : ℕ) (s : S) (r : Res T (Step A E))
      → ((s : S) (v : List T) → giving (λ x. ended s x.0 x.1) (parser.turns begins p n v) ≡ repeats_until n begins carried s v)
      → giving (λ x. ended s x.0 x.1) (and_then r (parser.turn (parser.turns begins p n))) ≡ and_then (giving (turn_of more last s) r) (after_turn (repeats_until n begins carried))
  front n s (Done (More a) q) ih = behind s a (parser.turns begins p n q) ∙ ih (more s a) q
  front n s (Done (Last e) q) ih = refl
  front n s (Stop q) ih = refl
  front n s Deep ih = refl

  pick : (n : ℕ) (s : S) (w : List T) (b : Bool)
      → giving (λ x. ended s x.0 x.1) (and_then (p w) (parser.turn (parser.turns begins p n))) ≡ and_then (carried s w) (after_turn (repeats_until n begins carried))
      → giving (λ x. ended s x.0 x.1) (cond b (and_then (p w) (parser.turn (parser.turns begins p n))) (Done ([], None) w)) ≡ cond b (and_then (carried s w) (after_turn (repeats_until n begins carried))) (Done s w)
  pick n s w true e = e
  pick n s w false e = refl

  folded : (n : ℕ) (s : S) (w : List T) → giving (λ x. ended s x.0 x.1) (parser.turns begins p n w) ≡ repeats_until n begins carried s w
  folded zero s w = refl
  folded (suc n) s w = pick n s w (begins w) (front n s (p w) (folded n))

  -- a grammar's loop carries the value along
  pub ended-looped : (s : S) (w : List T) → giving (λ x. ended s x.0 x.1) (looped begins p w) ≡ repeated_until begins carried s w
  unfolding looped repeated_until
  ended-looped s w = folded (suc (length w)) s w
