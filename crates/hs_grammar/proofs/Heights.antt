-- The theorem on the parser of a grammar.
use Rattle.std.proofs.Common.{◌≡◌, ℕ, zero, suc, ◌+◌, ◌<◌, ◌≤◌, arith, length-append, List, [], ◌∷◌, ◌++◌, length, refl, sym, ap, ◌∙◌, subst, append_assoc, append-nil}
use Rattle.hs_grammar.specs.Form.{Lexis, Rules, Grammar}
use Rattle.hs_grammar.specs.Kinds.{Decides}
use Rattle.hs_grammar.specs.Derives.{DerivesBy, BegunBy, DerivesAs}
use Rattle.hs_grammar.specs.Break.{CannotGoOn, Breaks}
use Rattle.hs_grammar.specs.Lookahead.{Tables, begin, go_on, FitsRule}
use Rattle.hs_grammar.specs.Parser.{Res, Done, Stop, Deep, parse_by, Exact}
use Rattle.hs_grammar.proofs.Sets.{has-within}
use Rattle.hs_grammar.proofs.Exact.{Sound, weaken, begun_nothing, sound, begun_by, front}
use Rattle.hs_grammar.proofs.Ahead.{Is, Spent, Inner, starts-within, empties, begins, complete, spent}

module _ {L : Lexis} {R : Rules} (τ : Tables L R) (g : Grammar L R) where
  -- each rule is begun by no token
  pub begun_none : (n : ℕ) (N : R.rule) → BegunBy g n N []
  begun_none zero N = refl
  begun_none (suc n) N = begun_nothing (DerivesBy g n) (BegunBy g n) (begun_none n) (g N)

  -- what the parser of a rule answers is sound
  pub sound_by : (n : ℕ) (N : R.rule) (w : List L.token) → Sound (DerivesBy g n N) (BegunBy g n N) w (parse_by τ g n N w)
  sound_by zero N w = tt
  sound_by (suc n) N w = sound L R τ (DerivesBy g n) (BegunBy g n) (parse_by τ g n) (begun_none n) (sound_by n) (g N) w

  later_by : (n : ℕ) (N : R.rule) (w : List L.token) → Sound (λ _ _. Unit {0}) (λ _. Unit {0}) w (parse_by τ g n N w)
  later_by n N w = weaken w (parse_by τ g n N w) (λ u a d. tt) (λ u d. tt) (sound_by n N w)

  spent_by : (n : ℕ) (N : R.rule) (w z : List L.token) → w ≡ [] → Spent z (parse_by τ g n N (w ++ z))
  spent_by n N w z e = subst (λ x. Spent z (parse_by τ g n N (x ++ z))) (sym e) (spent_of (parse_by τ g n N z) (later_by n N z))
    where
      spent_of : {A : Type 0} (r : Res L.token A) → Sound (λ _ _. Unit {0}) (λ _. Unit {0}) z r → Spent z r
      spent_of (Done x q) (u, e, d) = (u, e)
      spent_of (Stop q) (u, e, d) = (u, e)
      spent_of Deep s = tt

  -- what a rule derives begins it
  pub begun_of : (n : ℕ) (N : R.rule) (w : List L.token) (y : R.value N) → DerivesBy g n N w y → BegunBy g n N w
  begun_of zero N w y d = absurd d
  begun_of (suc n) N w y d = begun_by L R (DerivesBy g n) (BegunBy g n) (begun_none n) (begun_of n) (g N) w y d

  -- each front of what begins a rule begins it
  pub front_of : (n : ℕ) (N : R.rule) (u v : List L.token) → BegunBy g n N (u ++ v) → BegunBy g n N u
  front_of zero N [] v b = refl
  front_of zero N (t ∷ u) v b = absurd (cc)
  front_of (suc n) N u v b = front L R (DerivesBy g n) (BegunBy g n) (begun_none n) (begun_of n) (front_of n) (g N) u v b

  -- where the rule breaks nothing is derived
  pub breaks_none : (N : R.rule) (w rest : List L.token) (x : R.value N) → Breaks g N w rest → DerivesAs g N w x → ⊥
  breaks_none N w rest x b d = go rest b.whole b.over
    where
      go : (rest : List L.token) → w ≡ b.before ++ rest → CannotGoOn g N b.before rest → ⊥
      go [] e over = over x (d.0, subst (λ z. DerivesBy g d.0 N z x) (e ∙ append-nil b.before) d.1)
      go (t ∷ r) e over = over (d.0, front_of d.0 N (b.before ++ t ∷ []) r (subst (BegunBy g d.0 N) (e ∙ sym (append_assoc b.before (t ∷ []) r)) (begun_of d.0 N w x d.1)))

module _ {L : Lexis} {R : Rules} (K : Decides L) (τ : Tables L R) (g : Grammar L R) (fits : (N : R.rule) → FitsRule τ g N) where
  -- what holds of the rules at each height
  pub inner : (B : Type 0) (m n : ℕ) → (n < m → B) → Inner B τ (DerivesBy g m) (BegunBy g m) (parse_by τ g n)
  inner B zero n low = record {
    none = λ N. refl;
    later_in = later_by τ g n;
    begun_in = λ N w y d. absurd d;
    empty_in = λ N y d. absurd d;
    begins_in = λ N t w b. absurd (cc);
    complete_in = λ N u v y d l. absurd d;
    spent_in = spent_by τ g n;
  }
  inner B (suc m) zero low =
      let I = inner B m zero (λ h. low (omega arith)) in
      record {
        none = begun_none τ g (suc m);
        later_in = later_by τ g zero;
        begun_in = λ N w y d. begun_by L R (DerivesBy g m) (BegunBy g m) I.none I.begun_in (g N) w y d;
        empty_in = λ N y d. sym (fits N).empty_is ∙ empties L R K τ (DerivesBy g m) (BegunBy g m) (parse_by τ g zero) B I (g N) y d;
        begins_in = λ N t w b. has-within L K (begin τ (g N)) (τ.begin N) (L.kind_of t) (fits N).begin_in (begins L R K τ (DerivesBy g m) (BegunBy g m) (parse_by τ g zero) B I (g N) t w b);
        complete_in = λ N u v y d l. low (omega arith);
        spent_in = λ N w z b. tt;
      }
  inner B (suc m) (suc n) low =
      let I = inner B m n (λ h. low (omega arith)) in
      record {
        none = begun_none τ g (suc m);
        later_in = later_by τ g (suc n);
        begun_in = λ N w y d. begun_by L R (DerivesBy g m) (BegunBy g m) I.none I.begun_in (g N) w y d;
        empty_in = λ N y d. sym (fits N).empty_is ∙ empties L R K τ (DerivesBy g m) (BegunBy g m) (parse_by τ g n) B I (g N) y d;
        begins_in = λ N t w b. has-within L K (begin τ (g N)) (τ.begin N) (L.kind_of t) (fits N).begin_in (begins L R K τ (DerivesBy g m) (BegunBy g m) (parse_by τ g n) B I (g N) t w b);
        complete_in = λ N u v y d l. complete L R K τ (DerivesBy g m) (BegunBy g m) (parse_by τ g n) B I (g N) (fits N).fits u v y d (starts-within L K (go_on τ (g N)) (τ.go_on N) v (fits N).go_on_in l);
        spent_in = λ N w z b. spent L R K τ (DerivesBy g m) (BegunBy g m) (parse_by τ g n) B I (g N) (fits N).fits w z b;
      }

  longer : (s r : List L.token) (t : L.token) → r ≡ s ++ (t ∷ r) → ⊥
  longer s r t e =
      let same : length r ≡ length (s ++ (t ∷ r)) = ap length e in
      let sum : length (s ++ (t ∷ r)) ≡ length s + suc (length r) = length-append s (t ∷ r) in
      omega (arith, same, sum)

  exact_of : (n : ℕ) (N : R.rule) (w : List L.token) (r : Res L.token (R.value N))
      → Sound (DerivesBy g n N) (BegunBy g n N) w r
      → ((m : ℕ) (x : R.value N) → DerivesBy g m N w x → Is (Unit {0}) x [] r)
      → ((m : ℕ) (u z : List L.token) → w ≡ u ++ z → BegunBy g m N u → Spent z r)
      → Exact g N w r
  exact_of n N w (Done x []) (u, e, d) found spent = (n, subst (λ z. DerivesBy g n N z x) (sym (e ∙ append-nil u)) d)
  exact_of n N w (Done x (t ∷ r)) (u, e, d) found spent = record {
    before = u;
    whole = e;
    begun = λ a b i. (n, front_of τ g n N a b (subst (BegunBy g n N) i (begun_of τ g n N u x d)));
    over = λ b. let late : (s : List L.token) × (r ≡ s ++ (t ∷ r)) = spent b.0 (u ++ t ∷ []) r (e ∙ sym (append_assoc u (t ∷ []) r)) b.1 in longer late.0 r t late.1;
  }
  exact_of n N w (Stop []) (u, e, d) found spent = record {
    before = u;
    whole = e;
    begun = λ a b i. (n, front_of τ g n N a b (subst (BegunBy g n N) i d));
    over = λ x d. found d.0 x (subst (λ z. DerivesBy g d.0 N z x) (sym (e ∙ append-nil u)) d.1);
  }
  exact_of n N w (Stop (t ∷ r)) (u, e, d) found spent = record {
    before = u;
    whole = e;
    begun = λ a b i. (n, front_of τ g n N a b (subst (BegunBy g n N) i d));
    over = λ b. let late : (s : List L.token) × (r ≡ s ++ (t ∷ r)) = spent b.0 (u ++ t ∷ []) r (e ∙ sym (append_assoc u (t ∷ []) r)) b.1 in longer late.0 r t late.1;
  }
  exact_of n N w Deep s found spent = tt

  -- the parser's answer is exact
  pub exact : (n : ℕ) (N : R.rule) (w : List L.token) → Exact g N w (parse_by τ g n N w)
  exact n N w =
      exact_of n N w (parse_by τ g n N w) (sound_by τ g n N w)
      (λ m x d. subst (λ z. Is (Unit {0}) x [] (parse_by τ g n N z)) (append-nil w) ((inner (Unit {0}) m n (λ _. tt)).complete_in N w [] x d refl))
      (λ m u z e b. subst (λ q. Spent z (parse_by τ g n N q)) (sym e) ((inner (Unit {0}) m n (λ _. tt)).spent_in N u z b))

  is_done : {A : Type 0} (x : A) (r : Res L.token A) → Is ⊥ x [] r → r ≡ Done x []
  is_done x (Done y q) i = ap (λ z. Done z q) i.0 ∙ ap (Done x) i.1
  is_done x (Stop q) i = absurd i
  is_done x Deep i = absurd i

  -- what nests no deeper than the parser may go is found
  pub found : (m n : ℕ) (N : R.rule) (w : List L.token) (x : R.value N) → m ≤ n → DerivesBy g m N w x → parse_by τ g n N w ≡ Done x []
  found m n N w x le d =
      is_done x (parse_by τ g n N w)
      (subst (λ z. Is ⊥ x [] (parse_by τ g n N z)) (append-nil w) ((inner ⊥ m n (λ h. absurd (omega arith))).complete_in N w [] x d refl))

  -- no list of tokens derives two values
  pub unique : (N : R.rule) (w : List L.token) (x y : R.value N) → DerivesAs g N w x → DerivesAs g N w y → x ≡ y
  unique N w x y (m, d) (k, e) =
      let i : parse_by τ g (m + k) N w ≡ Done x [] = found m (m + k) N w x (omega arith) d in
      let j : parse_by τ g (m + k) N w ≡ Done y [] = found k (m + k) N w y (omega arith) e in
      let s : Done x [] ≡ Done y [] = sym i ∙ j in
      cc
