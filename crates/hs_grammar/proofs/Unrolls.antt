-- A loop, a turn at a time.
use Rattle.std.proofs.Common.{◌≡◌, ℕ, zero, suc, ◌<◌, ◌≤◌, arith, length-append, Bool, false, cond, List, [], ◌∷◌, ◌++◌, Option, None, length, refl, ap, subst}
use Rattle.std.proofs.lemmas.Bool.{both_ways}
use Rattle.hs_grammar.specs.Form.{Lexis, Rules, Form, Step, More, Last, Grammar}
use Rattle.hs_grammar.specs.Kinds.{Decides}
use Rattle.hs_grammar.specs.Derives.{Derives, Begun, DerivesBy, BegunBy}
use Rattle.hs_grammar.specs.Lookahead.{Tables, empty, FitsRule}
use Rattle.hs_grammar.specs.Parser.{Res, Done, Stop, Deep, and_then, turn, turns, looped, parse, parse_by}
use Rattle.hs_grammar.proofs.Exact.{Sound, sound}
use Rattle.hs_grammar.proofs.Ahead.{empties}
use Rattle.hs_grammar.proofs.Heights.{begun_none, sound_by, inner}

-- each value takes a token
abbrev pub Consumes : {T A : Type 0} → (List T → Res T A) → Type 0
Consumes {T} {A} p = (w r : List T) (x : A) → p w ≡ Done x r → length r < length w

enough_turn : {T A E : Type 0} (f g : List T → Res T (List A × Option E)) (w : List T) (r : Res T (Step A E))
    → ((a : A) (q : List T) → r ≡ Done (More a) q → f q ≡ g q) → and_then r (turn f) ≡ and_then r (turn g)
enough_turn f g w (Done (More a) q) h = ap (λ s. and_then s (λ p r. Done (a ∷ p.0, p.1) r)) (h a q refl)
enough_turn f g w (Done (Last x) q) h = refl
enough_turn f g w (Stop q) h = refl
enough_turn f g w Deep h = refl

enough : {T A E : Type 0} (begins : List T → Bool) (p : List T → Res T (Step A E)) → Consumes p
    → (n k : ℕ) (w : List T) → length w < n → length w < k → turns begins p n w ≡ turns begins p k w
enough begins p c zero k w h i = absurd (omega arith)
enough begins p c (suc n) zero w h i = absurd (omega arith)
enough begins p c (suc n) (suc k) w h i =
    ap (λ s. cond (begins w) s (Done ([], None) w))
    (enough_turn (turns begins p n) (turns begins p k) w (p w) (λ a q e. let less : length q < length w = c w q (More a) e in enough begins p c n k q (omega arith) (omega arith)))

-- a loop is a turn, and the loop again
pub unrolled : {T A E : Type 0} (begins : List T → Bool) (p : List T → Res T (Step A E)) → Consumes p → (w : List T)
    → looped begins p w ≡ cond (begins w) (and_then (p w) (turn (looped begins p))) (Done ([], None) w)
unfolding looped
unrolled begins p c w =
    ap (λ s. cond (begins w) s (Done ([], None) w))
    (enough_turn (turns begins p (length w)) (λ v. turns begins p (suc (length v)) v) w (p w)
    (λ a q e. let less : length q < length w = c w q (More a) e in enough begins p c (length w) (suc (length q)) q (omega arith) (omega arith)))

module _ {L : Lexis} {R : Rules} (τ : Tables L R) (g : Grammar L R) where
  shorter_of : {A : Type 0} (n : ℕ) (f : Form L R A) (w r : List L.token) (x : A) → parse τ (parse_by τ g n) f w ≡ Done x r
      → (u : List L.token) × (w ≡ u ++ r) × Derives (DerivesBy g n) f u x
  shorter_of n f w r x e = subst (Sound (Derives (DerivesBy g n) f) (Begun (DerivesBy g n) (BegunBy g n) f) w) e (sound L R τ (DerivesBy g n) (BegunBy g n) (parse_by τ g n) (begun_none τ g n) (sound_by τ g n) f w)

  -- a parser gives back no more tokens than it had
  pub later : {A : Type 0} (n : ℕ) (f : Form L R A) (w r : List L.token) (x : A) → parse τ (parse_by τ g n) f w ≡ Done x r → length r ≤ length w
  later n f w r x e =
      let s : (u : List L.token) × (w ≡ u ++ r) × Derives (DerivesBy g n) f u x = shorter_of n f w r x e in
      let same : length w ≡ length (s.0 ++ r) = ap length s.1 in
      omega (arith, same, length-append s.0 r)

module _ {L : Lexis} {R : Rules} (K : Decides L) (τ : Tables L R) (g : Grammar L R) (fits : (N : R.rule) → FitsRule τ g N) where
  -- a form that is never empty takes a token
  pub consumes : {A : Type 0} (n : ℕ) (f : Form L R A) → empty τ f ≡ false → Consumes (parse τ (parse_by τ g n) f)
  consumes {A} n f m w r x e = go (shorter_of τ g n f w r x e)
    where
      go : (u : List L.token) × (w ≡ u ++ r) × Derives (DerivesBy g n) f u x → length r < length w
      go ([], i, d) = absurd (both_ways (empty τ f) m (empties L R K τ (DerivesBy g n) (BegunBy g n) (parse_by τ g n) (Unit {0}) (inner K τ g fits (Unit {0}) n n (λ _. tt)) f x d))
      go ((t ∷ u), i, d) = let same : length w ≡ length (t ∷ (u ++ r)) = ap length i in omega (arith, same, length-append u r)
