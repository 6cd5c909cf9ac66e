-- A loop that carries a value, a step at a time.
use Rattle.std.proofs.Common.{◌≡◌, ℕ, zero, suc, ◌<◌, arith, Bool, true, false, cond, List, [], ◌∷◌, Option, None, length, fold, Ok, Err, refl, ap, ◌∙◌}
use Rattle.hs_grammar.specs.Form.{Step, More}
use Rattle.hs_grammar.specs.Parser.{Res, Done, Stop, Deep, and_then, giving, turn, turns, looped}
use Rattle.hs_grammar.specs.Repeat.{repeats, repeated, Advances}
use Rattle.hs_grammar.specs.Reads.{Reads}
use Rattle.hs_grammar.specs.declared.error.ParseError.{ParseError}
use Rattle.hs_grammar.specs.declared.error.ParseError.TheVariants as errors

enough_step : {T A : Type 0} (f g : A → List T → Res T A) (r : Res T A) → ((a : A) (q : List T) → r ≡ Done a q → f a q ≡ g a q) → and_then r f ≡ and_then r g
enough_step f g (Done a q) h = h a q refl
enough_step f g (Stop q) h = refl
enough_step f g Deep h = refl

enough : {T A : Type 0} (begins : List T → Bool) (p : A → List T → Res T A) → Advances p
    → (n k : ℕ) (a : A) (w : List T) → length w < n → length w < k → repeats n begins p a w ≡ repeats k begins p a w
enough begins p c zero k a w h i = absurd (omega arith)
enough begins p c (suc n) zero a w h i = absurd (omega arith)
enough begins p c (suc n) (suc k) a w h i =
    ap (λ s. cond (begins w) s (Done a w))
    (enough_step (repeats n begins p) (repeats k begins p) (p a w) (λ b q e. let less : length q < length w = c a b w q e in enough begins p c n k b q (omega arith) (omega arith)))

-- a loop is a step, and the loop again
pub unrolled : {T A : Type 0} (begins : List T → Bool) (p : A → List T → Res T A) → Advances p → (a : A) (w : List T)
    → repeated begins p a w ≡ cond (begins w) (and_then (p a w) (repeated begins p)) (Done a w)
unfolding repeated
unrolled begins p c a w =
    ap (λ s. cond (begins w) s (Done a w))
    (enough_step (repeats (length w) begins p) (λ b v. repeats (suc (length v)) begins p b v) (p a w)
    (λ b q e. let less : length q < length w = c a b w q e in enough begins p c (length w) (suc (length q)) b q (omega arith) (omega arith)))

-- where no step begins the value is the last
pub repeated-over : {T A : Type 0} (begins : List T → Bool) (p : A → List T → Res T A) → Advances p → (a : A) (w : List T) → begins w ≡ false → repeated begins p a w ≡ Done a w
repeated-over begins p c a w e = unrolled begins p c a w ∙ ap (λ b. cond b (and_then (p a w) (repeated begins p)) (Done a w)) e

-- where a step begins the loop goes on behind it
pub repeated-on : {T A : Type 0} (begins : List T → Bool) (p : A → List T → Res T A) → Advances p → (a : A) (w : List T) (r : Res T A) → begins w ≡ true → p a w ≡ r → repeated begins p a w ≡ and_then r (repeated begins p)
repeated-on begins p c a w r e i = unrolled begins p c a w ∙ ap (λ b. cond b (and_then (p a w) (repeated begins p)) (Done a w)) e ∙ ap (λ s. and_then s (repeated begins p)) i

module _ {T A B : Type 0} (op : A → B → A) (begins : List T → Bool) (p : List T → Res T B) where
  -- one more item, folded into the value
  abbrev pub folds : A → List T → Res T A
  folds a v = giving (op a) (p v)

  -- an item for each value
  abbrev items : List T → Res T (Step B (Unit {0}))
  items v = giving (λ b. More b) (p v)

  front : (n : ℕ) (a : A) (r : Res T B)
      → ((b : A) (v : List T) → giving (λ s. fold op b s.0) (turns begins items n v) ≡ repeats n begins folds b v)
      → giving (λ s. fold op a s.0) (and_then (giving (λ b. More b) r) (turn (turns begins items n))) ≡ and_then (giving (op a) r) (repeats n begins folds)
  front n a (Done b q) ih = behind (turns begins items n q) ∙ ih (op a b) q
    where
      behind : (s : Res T (List B × Option (Unit {0}))) → giving {A = List B × Option (Unit {0})} (λ s. fold op a s.0) (and_then s (λ x r. Done (b ∷ x.0, x.1) r)) ≡ giving (λ s. fold op (op a b) s.0) s
      behind (Done x r) = refl
      behind (Stop r) = refl
      behind Deep = refl
  front n a (Stop q) ih = refl
  front n a Deep ih = refl

  pick : (n : ℕ) (a : A) (w : List T) (b : Bool)
      → giving (λ s. fold op a s.0) (and_then (items w) (turn (turns begins items n))) ≡ and_then (folds a w) (repeats n begins folds)
      → giving (λ s. fold op a s.0) (cond b (and_then (items w) (turn (turns begins items n))) (Done ([], None) w)) ≡ cond b (and_then (folds a w) (repeats n begins folds)) (Done a w)
  pick n a w true e = e
  pick n a w false e = refl

  folded : (n : ℕ) (a : A) (w : List T) → giving (λ s. fold op a s.0) (turns begins items n w) ≡ repeats n begins folds a w
  folded zero a w = refl
  folded (suc n) a w = pick n a w (begins w) (front n a (p w) (folded n))

  -- a loop of items whose values are folded carries the value along
  pub fold-looped : (a : A) (w : List T) → giving (λ s. fold op a s.0) (looped begins items w) ≡ repeated begins folds a w
  unfolding looped repeated
  fold-looped a w = folded (suc (length w)) a w

module _ {T A : Type 0} (begins : List T → Bool) (p : A → List T → Res T A) (c : Advances p) where
  -- where a step fails the loop fails
  pub repeated_err : (a : A) (w new : List T) (e : ParseError) → begins w ≡ true → Reads (p a w) (Err e) new → Reads (repeated begins p a w) (Err e) new
  repeated_err a w new errors.Syntax t r = repeated-on begins p c a w (Stop new) t r
  repeated_err a w new errors.TooDeep t r = repeated-on begins p c a w Deep t r
  repeated_err a w new errors.NoMemory t r = tt

  -- where a step gives a value the loop goes on with it
  pub repeated_ok : (a b : A) (w new : List T) → begins w ≡ true → Reads (p a w) (Ok b) new → repeated begins p a w ≡ repeated begins p b new
  repeated_ok a b w new t r = repeated-on begins p c a w (Done b new) t r
