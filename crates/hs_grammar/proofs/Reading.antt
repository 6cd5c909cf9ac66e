-- What authors of parsers need of their forms.
use Rattle.std.proofs.Common.{◌≡◌, ℕ, ◌<◌, false, List, [], ◌∷◌, ◌++◌, Option, Some, None, Result, Ok, Err, fold, length, refl, sym, ap, ◌∙◌, subst, append_assoc, append-nil}
use Rattle.hs_grammar.specs.declared.error.ParseError.{ParseError}
use Rattle.hs_grammar.specs.declared.error.ParseError.TheVariants as errors
use Rattle.hs_grammar.specs.Form.{Lexis, Rules, Form, Loop, Step, More, Grammar}
use Rattle.hs_grammar.specs.Kinds.{Decides, starts}
use Rattle.hs_grammar.specs.Lookahead.{Tables, empty, begin, FitsRule}
use Rattle.hs_grammar.specs.Parser.{Res, Done, Stop, Deep, and_then, giving, looped}
use Rattle.hs_grammar.specs.Reads.{Reads, read}
use Rattle.hs_grammar.specs.Repeat.{repeated, Advances}
use Rattle.hs_grammar.specs.Combinators.{star, chain, list_turn, list_read}
use Rattle.hs_grammar.proofs.Unrolls.{consumes}
use Rattle.hs_grammar.specs.Until.{repeated_until, TurnsAdvance, turn_of, pushed, kept}
use Rattle.hs_grammar.proofs.Repeats.{fold-looped}
use Rattle.hs_grammar.proofs.Untils.{ended, ended-looped}

-- a map of a map is one map
pub giving-giving : {T A B C : Type 0} (h : B → C) (k : A → B) (r : Res T A) → giving h (giving k r) ≡ giving (λ a. h (k a)) r
giving-giving h k (Done a w) = refl
giving-giving h k (Stop w) = refl
giving-giving h k Deep = refl

-- where a value is made of a value, that was there
pub giving-done : {T A B : Type 0} (h : A → B) (r : Res T A) (b : B) (w : List T) → giving h r ≡ Done b w → (a : A) × (r ≡ Done a w) × (h a ≡ b)
giving-done h (Done a q) b w e = (a, cc, cc)
giving-done h (Stop q) b w e = absurd (cc)
giving-done h Deep b w e = absurd (cc)

-- what a value is made of changes no refusal
pub reads_err : {T A B : Type 0} (k : A → List T → Res T B) (r : Res T A) (e : ParseError) (new : List T) → Reads {A = A} r (Err e) new → Reads {A = B} (and_then r k) (Err e) new
reads_err k r errors.Syntax new h = ap (λ s. and_then s k) h
reads_err k r errors.TooDeep new h = ap (λ s. and_then s k) h
reads_err k r errors.NoMemory new h = tt

-- two ways to make the same values
pub giving-same : {T A B : Type 0} (h k : A → B) → ((a : A) → h a ≡ k a) → (r : Res T A) → giving h r ≡ giving k r
giving-same h k e (Done a w) = ap (λ b. Done b w) (e a)
giving-same h k e (Stop w) = refl
giving-same h k e Deep = refl

-- nothing made of the values
pub giving-self : {T A : Type 0} (h : A → A) → ((a : A) → h a ≡ a) → (r : Res T A) → giving h r ≡ r
giving-self h e (Done a w) = ap (λ b. Done b w) (e a)
giving-self h e (Stop w) = refl
giving-self h e Deep = refl

-- items pushed one by one
pub fold-pushed : {A : Type 0} (l as' : List A) → fold pushed l as' ≡ l ++ as'
fold-pushed l [] = sym (append-nil l)
fold-pushed l (a ∷ as') = fold-pushed (pushed l a) as' ∙ append_assoc l (a ∷ []) as'

module _ {L : Lexis} {R : Rules} (K : Decides L) (τ : Tables L R) (g : Grammar L R) (fits : (N : R.rule) → FitsRule τ g N) where
  -- a step that folds the value of a form that is never empty takes a token
  pub advances : {A B : Type 0} (n : ℕ) (op : A → B → A) (f : Form L R B) → empty τ f ≡ false → Advances (λ a w. giving (op a) (read τ g n f w))
  advances n op f m a b w r e = let d = giving-done (op a) (read τ g n f w) b r e in consumes K τ g fits n f m w r d.0 d.1

  -- a turn that is made of the value of a form that is never empty takes a token
  pub turns_advance : {S A E : Type 0} (n : ℕ) (more : S → A → S) (last : S → E → S) (f : Form L R (Step A E)) → empty τ f ≡ false → TurnsAdvance (λ s w. giving (turn_of more last s) (read τ g n f w))
  turns_advance n more last f m s t w r e = let d = giving-done (turn_of more last s) (read τ g n f w) t r e in consumes K τ g fits n f m w r d.0 d.1

  -- a function that reads such a step or turn leaves less
  pub reads_shorter : {A B : Type 0} (n : ℕ) (h : A → B) (f : Form L R A) → empty τ f ≡ false → (w new : List L.token) (b : B) → Reads (giving h (read τ g n f w)) (Ok b) new → length new < length w
  reads_shorter n h f m w new b e = let d = giving-done h (read τ g n f w) b new e in consumes K τ g fits n f m w new d.0 d.1

module _ {L : Lexis} {R : Rules} (τ : Tables L R) (g : Grammar L R) where
  -- a loop whose items are folded, behind this value
  pub read-fold : {A B : Type 0} (n : ℕ) (op : A → B → A) (f : Form L R B) (a : A) (w : List L.token)
      → giving (λ bs. fold op a bs) (read τ g n (star f) w) ≡ repeated (starts L (begin τ f)) (λ a v. giving (op a) (read τ g n f v)) a w
  read-fold n op f a w =
      giving-giving (λ bs. fold op a bs) (λ s. s.0) (looped (starts L (begin τ f)) (λ v. giving (λ b. More b) (read τ g n f v)) w)
      ∙ fold-looped op (starts L (begin τ f)) (read τ g n f) a w

  -- a chain is its first operand, and a loop behind it
  pub read-chain : {A B : Type 0} (n : ℕ) (op : A → B → A) (f : Form L R A) (s : Form L R B) (a : A) (w v : List L.token) → read τ g n f w ≡ Done a v
      → read τ g n (chain op f s) w ≡ repeated (starts L (begin τ s)) (λ a v. giving (op a) (read τ g n s v)) a v
  read-chain n op f s a w v e = ap (λ r. and_then r (λ a q. giving (λ bs. fold op a bs) (read τ g n (star s) q))) e ∙ read-fold n op s a v

  -- what the loop answers behind the first operand is what the chain answers
  pub reads_chain : {A B : Type 0} (n : ℕ) (op : A → B → A) (f : Form L R A) (s : Form L R B) (a : A) (w v new : List L.token) (r : Result A ParseError) → read τ g n f w ≡ Done a v
      → Reads (repeated (starts L (begin τ s)) (λ a v. giving (op a) (read τ g n s v)) a v) r new → Reads (read τ g n (chain op f s) w) r new
  reads_chain n op f s a w v new r e h = subst (λ q. Reads q r new) (sym (read-chain n op f s a w v e)) h

  -- what the loop answers from an empty list is what the form any number of times answers
  pub reads_star : {A : Type 0} (n : ℕ) (f : Form L R A) (l : List A) (w new : List L.token) (r : Result (List A) ParseError) → l ≡ []
      → Reads (repeated (starts L (begin τ f)) (λ l v. giving (pushed l) (read τ g n f v)) l w) r new → Reads (read τ g n (star f) w) r new
  reads_star n f l w new r e h =
      subst (λ q. Reads q r new)
      (ap (λ l. repeated (starts L (begin τ f)) (λ l v. giving (pushed l) (read τ g n f v)) l w) e
      ∙ (sym (read-fold n pushed f [] w) ∙ giving-self (λ as'. fold pushed [] as') (λ as'. fold-pushed [] as') (read τ g n (star f) w))) h

  -- what the loop answers is what a loop of the grammar answers, where the values it carries are those that the grammar's loop makes
  pub reads_loop : {S A E : Type 0} (n : ℕ) (more : S → A → S) (last : S → E → S) (h : List A → Option E → S) (f : Form L R (Step A E)) (s : S) (w new : List L.token) (r : Result S ParseError)
      → ((as' : List A) (e : Option E) → ended more last (starts L (begin τ f)) (read τ g n f) s as' e ≡ h as' e)
      → Reads (repeated_until (starts L (begin τ f)) (λ s v. giving (turn_of more last s) (read τ g n f v)) s w) r new → Reads (read τ g n (Loop h f) w) r new
  reads_loop n more last h f s w new r e i =
      subst (λ q. Reads q r new)
      (sym (ended-looped more last (starts L (begin τ f)) (read τ g n f) s w)
      ∙ giving-same (λ x. ended more last (starts L (begin τ f)) (read τ g n f) s x.0 x.1) (λ x. h x.0 x.1) (λ x. e x.0 x.1) (looped (starts L (begin τ f)) (read τ g n f) w)) i

  list_end : {A S : Type 0} (n : ℕ) (s : Form L R S) (f : Form L R A) (a : A) (as' : List A) (e : Option (Unit {0}))
      → ended pushed kept (starts L (begin τ (list_turn s f))) (read τ g n (list_turn s f)) (a ∷ []) as' e ≡ a ∷ as'
  list_end n s f a as' None = fold-pushed (a ∷ []) as'
  list_end n s f a as' (Some e) = fold-pushed (a ∷ []) as'

  -- what the loop answers behind the first item is what the list answers
  pub reads_list : {A S : Type 0} (n : ℕ) (s : Form L R S) (f : Form L R A) (a : A) (l : List A) (w v new : List L.token) (r : Result (List A) ParseError) → l ≡ a ∷ [] → read τ g n f w ≡ Done a v
      → Reads (repeated_until (starts L (begin τ (list_turn s f))) (λ l v. giving (turn_of pushed kept l) (read τ g n (list_turn s f) v)) l v) r new
      → Reads (read τ g n (list_read s f) w) r new
  reads_list n s f a l w v new r one e i =
      let begins = starts L (begin τ (list_turn s f)) in
      let turn = read τ g n (list_turn s f) in
      let first : Reads (repeated_until begins (λ l v. giving (turn_of pushed kept l) (turn v)) (a ∷ []) v) r new =
      subst (λ l. Reads (repeated_until begins (λ l v. giving (turn_of pushed kept l) (turn v)) l v) r new) one i in
      let loop = reads_loop n pushed kept (λ as' e. a ∷ as') (list_turn s f) (a ∷ []) v new r (list_end n s f a) first in
      let whole : read τ g n (list_read s f) w ≡ giving (λ as'. a ∷ as') (read τ g n (Loop (λ as' e. as') (list_turn s f)) v) =
      ap (λ x. and_then x (λ a q. giving (λ as'. a ∷ as') (read τ g n (Loop (λ as' e. as') (list_turn s f)) q))) e in
      subst (λ q. Reads q r new)
      (sym (giving-giving (λ as'. a ∷ as') (λ x. x.0) (looped begins turn v)) ∙ sym whole) loop
