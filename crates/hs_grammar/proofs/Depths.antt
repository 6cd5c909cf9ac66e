-- How deep a parser that reads a list of tokens nests rules.
use Rattle.std.proofs.Common.{◌≡◌, ◌⊎◌, inl, inr, ℕ, zero, suc, ◌+◌, ◌*◌, ◌<◌, ◌≤◌, arith, Bool, true, false, not, ◌&&◌, ◌||◌, cond, List, [], ◌∷◌, None, length, refl, subst}
use Rattle.std.proofs.lemmas.Bool.{and_parts, and_from, or_right, ltb-true, lt-ltb}
use Rattle.std.proofs.Math.Nat.{mul-suc, mul-le-mul_left}
use Rattle.hs_grammar.specs.Form.{Lexis, Rules, Form, Pure, Tok, Nt, Map, Seq, Split, Alt, Loop, Unless, Step, More, Last, Grammar}
use Rattle.hs_grammar.specs.Kinds.{Decides, has, starts}
use Rattle.hs_grammar.specs.Lookahead.{Tables, empty, begin, Fits, FitsRule}
use Rattle.hs_grammar.specs.Depth.{leads_below}
use Rattle.hs_grammar.specs.Parser.{Res, Done, Stop, Deep, and_then, giving, token_of, turn, turns, looped, parse, parse_by}
use Rattle.hs_grammar.proofs.Unrolls.{later, consumes}

-- the answer is not that rules nest too deep
abbrev pub Shallow : {T A : Type 0} → Res T A → Type 0
Shallow (Done a q) = Unit {0}
Shallow (Stop q) = Unit {0}
Shallow Deep = ⊥

shallow_giving : {T A B : Type 0} (h : A → B) (r : Res T A) → Shallow r → Shallow (giving h r)
shallow_giving h (Done a q) s = tt
shallow_giving h (Stop q) s = tt
shallow_giving h Deep s = s

shallow_then : {T A B : Type 0} (r : Res T A) (k : A → List T → Res T B) → Shallow r → ((a : A) (q : List T) → r ≡ Done a q → Shallow (k a q)) → Shallow (and_then r k)
shallow_then (Done a q) k s i = i a q refl
shallow_then (Stop q) k s i = tt
shallow_then Deep k s i = s

shallow_cond : {T A : Type 0} (c : Bool) (r s : Res T A) → Shallow r → Shallow s → Shallow (cond c r s)
shallow_cond true r s i j = i
shallow_cond false r s i j = j

-- a form of which a part is read leads where the rest leads
led : (e x : Bool) → e ≡ true → (not e || x) ≡ true → x ≡ true
led e x i j = subst (λ c. (not c || x) ≡ true) i j

module _ {L : Lexis} {R : Rules} (K : Decides L) (τ : Tables L R) (g : Grammar L R) (fits : (N : R.rule) → FitsRule τ g N) (rank : R.rule → ℕ) (ranks : ℕ) (below : (N : R.rule) → rank N < ranks) where
  -- each rule has a rank below their number
  leads_all : {C : Type 0} (f : Form L R C) → leads_below τ rank ranks f ≡ true
  leads_all (Pure c) = refl
  leads_all (Tok ks h) = refl
  leads_all (Nt N h) = lt-ltb (rank N) ranks (below N)
  leads_all (Map h f) = leads_all f
  leads_all (Seq h f g) = and_from (leads_below τ rank ranks f) (not (empty τ f) || leads_below τ rank ranks g) (leads_all f) (or_right (not (empty τ f)) (leads_below τ rank ranks g) (leads_all g))
  leads_all (Split q h f g k) =
      and_from (leads_below τ rank ranks f) (not (empty τ f) || (leads_below τ rank ranks g && leads_below τ rank ranks k)) (leads_all f)
      (or_right (not (empty τ f)) (leads_below τ rank ranks g && leads_below τ rank ranks k) (and_from (leads_below τ rank ranks g) (leads_below τ rank ranks k) (leads_all g) (leads_all k)))
  leads_all (Alt f g) = and_from (leads_below τ rank ranks f) (leads_below τ rank ranks g) (leads_all f) (leads_all g)
  leads_all (Loop h f) = leads_all f
  leads_all (Unless ks f) = leads_all f

  -- the rules that may be asked before these tokens, or further on, are read
  abbrev Rest : ℕ → ℕ → List L.token → Type 0
  Rest n k w = (N : R.rule) (v : List L.token) → (length v < length w) ⊎ ((length v ≤ length w) × (rank N < k)) → Shallow (parse_by τ g n N v)

  -- further on, where no token has been read for sure
  rest_on : (n k : ℕ) (w v : List L.token) → length v ≤ length w → Rest n k w → Rest n k v
  rest_on n k w v le r N q (inl lt) = r N q (inl (omega arith))
  rest_on n k w v le r N q (inr (l, lt)) = r N q (inr (omega arith, lt))

  -- behind a token
  rest_behind : (n k : ℕ) (w v : List L.token) → length v < length w → Rest n k w → Rest n ranks v
  rest_behind n k w v lt r N q (inl l) = r N q (inl (omega arith))
  rest_behind n k w v lt r N q (inr (l, i)) = r N q (inl (omega arith))

  shallow_turns : {A E : Type 0} (n k : ℕ) (f : Form L R (Step A E)) (w : List L.token) → empty τ f ≡ false
      → ((v : List L.token) → length v ≤ length w → Shallow (parse τ (parse_by τ g n) f v))
      → (m : ℕ) (v : List L.token) → length v < m → length v ≤ length w → Shallow (turns (starts L (begin τ f)) (parse τ (parse_by τ g n) f) m v)
  shallow_turns n k f w e each zero v lt le = absurd (omega arith)
  shallow_turns {A} {E} n k f w e each (suc m) v lt le =
      let next : (s : Step A E) (q : List L.token) → parse τ (parse_by τ g n) f v ≡ Done s q → Shallow (turn (turns (starts L (begin τ f)) (parse τ (parse_by τ g n) f) m) s q) = elim [
        | More a ↦ λ q i.
            let less : length q < length v = consumes K τ g fits n f e v q (More a) i in
            shallow_giving (λ p. (a ∷ p.0, p.1)) (turns (starts L (begin τ f)) (parse τ (parse_by τ g n) f) m q) (shallow_turns n k f w e each m q (omega arith) (omega arith))
        | Last x ↦ λ q i. tt
      ] in
      shallow_cond (starts L (begin τ f) v) (and_then (parse τ (parse_by τ g n) f v) (turn (turns (starts L (begin τ f)) (parse τ (parse_by τ g n) f) m))) (Done ([], None) v)
      (shallow_then (parse τ (parse_by τ g n) f v) (turn (turns (starts L (begin τ f)) (parse τ (parse_by τ g n) f) m)) (each v le) next) tt

  -- where the rules are read, the form is
  shallow : {C : Type 0} (n k : ℕ) (f : Form L R C) (w : List L.token) → Fits τ f → leads_below τ rank k f ≡ true → Rest n k w → Shallow (parse τ (parse_by τ g n) f w)
  unfolding looped
  shallow n k (Pure c) w m l r = tt
  shallow n k (Tok ks h) [] m l r = tt
  shallow n k (Tok ks h) (t ∷ w) m l r = shallow_giving h (token_of L ks (t ∷ w)) (shallow_cond (has L ks (L.kind_of t)) (Done t w) (Stop (t ∷ w)) tt tt)
  shallow n k (Nt N h) w m l r = shallow_giving h (parse_by τ g n N w) (r N w (inr (omega arith, ltb-true (rank N) k l)))
  shallow n k (Map h f) w m l r = shallow_giving h (parse τ (parse_by τ g n) f w) (shallow n k f w m l r)
  shallow n k (Seq {A} {B} h f d) w m l r =
      let parts = and_parts (leads_below τ rank k f) (not (empty τ f) || leads_below τ rank k d) l in
      let behind : (c : Bool) (a : A) (q : List L.token) → empty τ f ≡ c → parse τ (parse_by τ g n) f w ≡ Done a q → Shallow (parse τ (parse_by τ g n) d q) = elim [
        | true ↦ λ a q e i. shallow n k d q m.1 (led (empty τ f) (leads_below τ rank k d) e parts.1) (rest_on n k w q (later τ g n f w q a i) r)
        | false ↦ λ a q e i. shallow n ranks d q m.1 (leads_all d) (rest_behind n k w q (consumes K τ g fits n f e w q a i) r)
      ] in
      shallow_then (parse τ (parse_by τ g n) f w) (λ a q. giving (h a) (parse τ (parse_by τ g n) d q)) (shallow n k f w m.0 parts.0 r)
      (λ a q i. shallow_giving (h a) (parse τ (parse_by τ g n) d q) (behind (empty τ f) a q refl i))
  shallow n k (Split {A} {B} p h f d b) w m l r =
      let parts = and_parts (leads_below τ rank k f) (not (empty τ f) || (leads_below τ rank k d && leads_below τ rank k b)) l in
      let both : empty τ f ≡ true → (leads_below τ rank k d ≡ true) × (leads_below τ rank k b ≡ true) = λ e. and_parts (leads_below τ rank k d) (leads_below τ rank k b) (led (empty τ f) (leads_below τ rank k d && leads_below τ rank k b) e parts.1) in
      let behind : (c : Bool) (a : A) (q : List L.token) → empty τ f ≡ c → parse τ (parse_by τ g n) f w ≡ Done a q → Shallow (cond (p a) (parse τ (parse_by τ g n) d q) (parse τ (parse_by τ g n) b q)) = elim [
        | true ↦ λ a q e i. shallow_cond (p a) (parse τ (parse_by τ g n) d q) (parse τ (parse_by τ g n) b q)
            (shallow n k d q m.1 (both e).0 (rest_on n k w q (later τ g n f w q a i) r))
            (shallow n k b q m.2 (both e).1 (rest_on n k w q (later τ g n f w q a i) r))
        | false ↦ λ a q e i. shallow_cond (p a) (parse τ (parse_by τ g n) d q) (parse τ (parse_by τ g n) b q)
            (shallow n ranks d q m.1 (leads_all d) (rest_behind n k w q (consumes K τ g fits n f e w q a i) r))
            (shallow n ranks b q m.2 (leads_all b) (rest_behind n k w q (consumes K τ g fits n f e w q a i) r))
      ] in
      shallow_then (parse τ (parse_by τ g n) f w) (λ a q. giving (h a) (cond (p a) (parse τ (parse_by τ g n) d q) (parse τ (parse_by τ g n) b q))) (shallow n k f w m.0 parts.0 r)
      (λ a q i. shallow_giving (h a) (cond (p a) (parse τ (parse_by τ g n) d q) (parse τ (parse_by τ g n) b q)) (behind (empty τ f) a q refl i))
  shallow n k (Alt f d) w m l r =
      let parts = and_parts (leads_below τ rank k f) (leads_below τ rank k d) l in
      shallow_cond (starts L (begin τ f) w) (parse τ (parse_by τ g n) f w) (parse τ (parse_by τ g n) d w) (shallow n k f w m.0 parts.0 r) (shallow n k d w m.1 parts.1 r)
  shallow n k (Loop h f) w m l r =
      shallow_giving (λ s. h s.0 s.1) (turns (starts L (begin τ f)) (parse τ (parse_by τ g n) f) (suc (length w)) w)
      (shallow_turns n k f w m.4 (λ v le. shallow n k f v m.0 l (rest_on n k w v le r)) (suc (length w)) w (omega arith) (omega arith))
  shallow n k (Unless ks f) w m l r = shallow_cond (starts L ks w) (Stop w) (parse τ (parse_by τ g n) f w) tt (shallow n k f w m.0 l r)

  closer : (a b r s n : ℕ) → r < ranks → a < b → s + ranks * b < suc n → r + ranks * a < n
  closer a b r s n lt less room =
      let le : ranks * suc a ≤ ranks * b = mul-le-mul_left ranks (omega arith) in
      let step : ranks * suc a ≡ ranks * a + ranks = mul-suc ranks a in
      omega (arith, le, step, lt, room)

  falling : (a b r s n : ℕ) → r < s → a ≤ b → s + ranks * b < suc n → r + ranks * a < n
  falling a b r s n lt less room =
      let le : ranks * a ≤ ranks * b = mul-le-mul_left ranks less in
      omega (arith, le, lt, room)

  -- tokens are read within a depth that their number bounds
  pub deep_enough : ((N : R.rule) → leads_below τ rank (rank N) (g N) ≡ true) → (n : ℕ) (N : R.rule) (w : List L.token) → rank N + ranks * length w < n → Shallow (parse_by τ g n N w)
  deep_enough falls zero N w room = absurd (omega arith)
  deep_enough falls (suc n) N w room =
      let rest : (M : R.rule) (v : List L.token) → (length v < length w) ⊎ ((length v ≤ length w) × (rank M < rank N)) → Shallow (parse_by τ g n M v) = λ M v. elim [
        | inl lt ↦ deep_enough falls n M v (closer (length v) (length w) (rank M) (rank N) n (below M) lt room)
        | inr i ↦ deep_enough falls n M v (falling (length v) (length w) (rank M) (rank N) n i.1 i.0 room)
      ] in
      shallow n (rank N) (g N) w (fits N).fits (falls N) rest
