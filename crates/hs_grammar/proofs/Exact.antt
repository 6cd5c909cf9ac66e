-- What a parser reads is derived, and where it stops is begun.
use Rattle.std.proofs.Common.{◌≡◌, ℕ, zero, suc, Bool, true, false, cond, List, [], ◌∷◌, ◌++◌, Option, Some, None, ◌⊎◌, inl, inr, length, refl, sym, ap, ◌∙◌, subst, append_assoc, append-nil}
use Rattle.hs_grammar.specs.Form.{Lexis, Rules, Step, More, Last, Form, Pure, Tok, Nt, Map, Seq, Split, Alt, Loop, Unless}
use Rattle.hs_grammar.specs.Kinds.{has, starts}
use Rattle.hs_grammar.specs.Derives.{Language, Derivings, Beginnings, Turns, Where, Derives, Begun}
use Rattle.hs_grammar.specs.Lookahead.{Tables, begin}
use Rattle.hs_grammar.specs.Parser.{Res, Done, Stop, Deep, and_then, giving, token_of, turn, turns, looped, Parsers, parse}

-- what an answer says of the tokens: what was read is derived, or begun
abbrev pub Sound : {T A : Type 0} → Language T A → (List T → Type 0) → List T → Res T A → Type 0
Sound {T} M J w (Done x r) = (u : List T) × (w ≡ u ++ r) × M u x
Sound {T} M J w (Stop r) = (u : List T) × (w ≡ u ++ r) × J u
Sound M J w Deep = Unit {0}

-- the form is begun by no token
pub begun_nothing : {L : Lexis} {R : Rules} (ρ : Derivings L R) (β : Beginnings L R) → ((N : R.rule) → β N []) → {C : Type 0} (f : Form L R C) → Begun ρ β f []
begun_nothing ρ β n (Pure c) = refl
begun_nothing ρ β n (Tok ks h) = inl refl
begun_nothing ρ β n (Nt N h) = n N
begun_nothing ρ β n (Map h f) = begun_nothing ρ β n f
begun_nothing ρ β n (Seq h f g) = inl (begun_nothing ρ β n f)
begun_nothing ρ β n (Split q h f g k) = inl (begun_nothing ρ β n f)
begun_nothing ρ β n (Alt f g) = inl (begun_nothing ρ β n f)
begun_nothing ρ β n (Loop h f) = inl refl
begun_nothing ρ β n (Unless ks f) = (refl, begun_nothing ρ β n f)

sound_map : {T A C : Type 0} (M : Language T A) (J : List T → Type 0) (Q : Language T C) (h : A → C) (w : List T) (r : Res T A)
    → ((u : List T) (a : A) → M u a → Q u (h a)) → Sound M J w r → Sound Q J w (and_then r (λ y q. Done (h y) q))
sound_map M J Q h w (Done a q) up (u, e, d) = (u, e, up u a d)
sound_map M J Q h w (Stop q) up s = s
sound_map M J Q h w Deep up s = s

-- what comes behind a part
sound_behind : {T A C : Type 0} (M : Language T A) (Q : Language T C) (J : List T → Type 0) (u v w : List T) (r : Res T A) (h : A → C)
    → (w ≡ u ++ v) → (I : List T → Type 0)
    → ((q : List T) (a : A) → M q a → Q (u ++ q) (h a)) → ((q : List T) → J q → I (u ++ q))
    → Sound M J v r → Sound Q I w (and_then r (λ y q. Done (h y) q))
sound_behind M Q J u v w (Done a q) h e I up begun (x, i, d) = (u ++ x, e ∙ ap (λ z. u ++ z) i ∙ sym (append_assoc u x q), up x a d)
sound_behind M Q J u v w (Stop q) h e I up begun (x, i, d) = (u ++ x, e ∙ ap (λ z. u ++ z) i ∙ sym (append_assoc u x q), begun x d)
sound_behind M Q J u v w Deep h e I up begun s = tt

-- a weaker fact
pub weaken : {T A : Type 0} {M Q : Language T A} {J I : List T → Type 0} (w : List T) (r : Res T A)
    → ((u : List T) (a : A) → M u a → Q u a) → ((u : List T) → J u → I u) → Sound M J w r → Sound Q I w r
weaken w (Done a q) up begun (u, e, d) = (u, e, up u a d)
weaken w (Stop q) up begun (u, e, d) = (u, e, begun u d)
weaken w Deep up begun s = tt

starts_front : (L : Lexis) (ks : List L.kind) (u r : List L.token) → starts L ks (u ++ r) ≡ false → starts L ks u ≡ false
starts_front L ks [] r e = refl
starts_front L ks (t ∷ u) r e = e

module _ (L : Lexis) (R : Rules) (τ : Tables L R) (ρ : Derivings L R) (β : Beginnings L R) (p : Parsers L R)
    (none : (N : R.rule) → β N []) (rule_sound : (N : R.rule) (w : List L.token) → Sound (ρ N) (β N) w (p N w)) where
  sound_token : {C : Type 0} (ks : List L.kind) (h : L.token → C) (w : List L.token) → Sound (Derives {L = L} {R = R} ρ (Tok ks h)) (Begun {L = L} {R = R} ρ β (Tok ks h)) w (giving h (token_of L ks w))
  sound_token ks h [] = ([], refl, inl refl)
  sound_token ks h (t ∷ w) = go (has L ks (L.kind_of t)) refl
    where
      go : (b : Bool) → has L ks (L.kind_of t) ≡ b → Sound (Derives {L = L} {R = R} ρ (Tok ks h)) (Begun {L = L} {R = R} ρ β (Tok ks h)) (t ∷ w) (giving h (cond b (Done t w) (Stop (t ∷ w))))
      go true e = (t ∷ [], refl, (t, refl, e, refl))
      go false e = ([], refl, inl refl)

  sound_seq : {A B C : Type 0} (h : A → B → C) (f : Form L R A) (g : Form L R B) (w : List L.token) (r : Res L.token A)
      → ((v : List L.token) → Sound (Derives ρ g) (Begun ρ β g) v (parse τ p g v))
      → Sound (Derives ρ f) (Begun ρ β f) w r
      → Sound (Derives ρ (Seq h f g)) (Begun ρ β (Seq h f g)) w (and_then r (λ a v. and_then (parse τ p g v) (λ b q. Done (h a b) q)))
  sound_seq h f g w (Done a v) ih (u, e, d) =
      sound_behind (Derives ρ g) (Derives ρ (Seq h f g)) (Begun ρ β g) u v w (parse τ p g v) (h a) e (Begun ρ β (Seq h f g))
      (λ q b j. (u, q, a, b, refl, d, j, refl)) (λ q j. inr (u, q, a, refl, d, j)) (ih v)
  sound_seq h f g w (Stop v) ih (u, e, d) = (u, e, inl d)
  sound_seq h f g w Deep ih s = tt

  sound_split : {A B C : Type 0} (q : A → Bool) (h : A → B → C) (f : Form L R A) (g k : Form L R B) (w : List L.token) (r : Res L.token A)
      → ((v : List L.token) → Sound (Derives ρ g) (Begun ρ β g) v (parse τ p g v))
      → ((v : List L.token) → Sound (Derives ρ k) (Begun ρ β k) v (parse τ p k v))
      → Sound (Derives ρ f) (Begun ρ β f) w r
      → Sound (Derives ρ (Split q h f g k)) (Begun ρ β (Split q h f g k)) w (and_then r (λ a v. and_then (cond (q a) (parse τ p g v) (parse τ p k v)) (λ b s. Done (h a b) s)))
  sound_split {A} {B} q h f g k w (Done a v) ih jh (u, e, d) =
      sound_behind (λ s b. Where (q a) (Derives ρ g s b) (Derives ρ k s b)) (Derives ρ (Split q h f g k)) (λ s. Where (q a) (Begun ρ β g s) (Begun ρ β k s)) u v w
      (cond (q a) (parse τ p g v) (parse τ p k v)) (h a) e (Begun ρ β (Split q h f g k))
      (λ s b j. (u, s, a, b, refl, d, j, refl)) (λ s j. inr (u, s, a, refl, d, j)) (pick (q a))
    where
      pick : (c : Bool) → Sound (λ s b. Where c (Derives ρ g s b) (Derives ρ k s b)) (λ s. Where c (Begun ρ β g s) (Begun ρ β k s)) v (cond c (parse τ p g v) (parse τ p k v))
      pick true = ih v
      pick false = jh v
  sound_split q h f g k w (Stop v) ih jh (u, e, d) = (u, e, inl d)
  sound_split q h f g k w Deep ih jh s = tt

  -- a loop that is begun
  abbrev pub Looping : {A E : Type 0} → Form L R (Step A E) → List L.token → Type 0
  Looping {A} f w = (w ≡ []) ⊎ ((u v : List L.token) × (as' : List A) × (w ≡ u ++ v) × Turns (Derives ρ f) as' None u × Begun ρ β f v)

  -- what a loop's answer says of the tokens
  abbrev pub Looped : {A E : Type 0} → Form L R (Step A E) → List L.token → Res L.token (List A × Option E) → Type 0
  Looped f w r = Sound (λ u s. Turns (Derives ρ f) s.0 s.1 u) (Looping f) w r

  looping_more : {A E : Type 0} (f : Form L R (Step A E)) (u : List L.token) (a : A) → Derives ρ f u (More a) → (q : List L.token) → Looping f q → Looping f (u ++ q)
  looping_more f u a d q (inl e) = inr (u, [], a ∷ [], ap (λ z. u ++ z) e, (u, [], sym (append-nil u), d, refl), begun_nothing ρ β none f)
  looping_more f u a d q (inr (x, y, as', e, t, b)) = inr (u ++ x, y, a ∷ as', ap (λ z. u ++ z) e ∙ sym (append_assoc u x y), (u, x, refl, d, t), b)

  sound_turn : {A E : Type 0} (f : Form L R (Step A E)) (again : List L.token → Res L.token (List A × Option E)) (w : List L.token) (r : Res L.token (Step A E))
      → ((v : List L.token) → Looped f v (again v))
      → Sound (Derives ρ f) (Begun ρ β f) w r
      → Looped f w (and_then r (turn again))
  sound_turn f again w (Done (More a) v) ih (u, e, d) =
      sound_behind (λ u s. Turns (Derives ρ f) s.0 s.1 u) (λ u s. Turns (Derives ρ f) s.0 s.1 u) (Looping f) u v w (again v) (λ s. (a ∷ s.0, s.1)) e (Looping f)
      (λ q s t. (u, q, refl, d, t)) (looping_more f u a d) (ih v)
  sound_turn f again w (Done (Last x) v) ih s = s
  sound_turn f again w (Stop v) ih (u, e, b) = (u, e, inr ([], u, [], refl, refl, b))
  sound_turn f again w Deep ih s = tt

  -- a loop's answer is sound, whatever the test and the number of turns
  pub sound_turns : {A E : Type 0} (f : Form L R (Step A E)) (begins : List L.token → Bool) (n : ℕ) (w : List L.token)
      → ((v : List L.token) → Sound (Derives ρ f) (Begun ρ β f) v (parse τ p f v))
      → Looped f w (turns begins (parse τ p f) n w)
  sound_turns f begins zero w ih = tt
  sound_turns {A} {E} f begins (suc n) w ih =
      let go : (b : Bool) → Looped f w (cond b (and_then (parse τ p f w) (turn (turns begins (parse τ p f) n))) (Done ([], None) w)) =
      elim [ true ↦ sound_turn f (turns begins (parse τ p f) n) w (parse τ p f w) (λ v. sound_turns f begins n v ih) (ih w) | false ↦ ([], refl, refl) ]
      in go (begins w)

  sound_unless : {C : Type 0} (ks : List L.kind) (f : Form L R C) (w : List L.token) (r : Res L.token C) (b : Bool) → starts L ks w ≡ b
      → Sound (Derives ρ f) (Begun ρ β f) w r → Sound (Derives ρ (Unless ks f)) (Begun ρ β (Unless ks f)) w (cond b (Stop w) r)
  sound_unless ks f w r true i s = ([], refl, (refl, begun_nothing ρ β none f))
  sound_unless ks f w (Done x r) false i (u, e, d) = (u, e, (starts_front L ks u r (ap (starts L ks) (sym e) ∙ i), d))
  sound_unless ks f w (Stop r) false i (u, e, d) = (u, e, (starts_front L ks u r (ap (starts L ks) (sym e) ∙ i), d))
  sound_unless ks f w Deep false i s = tt

  -- what the parser of a form answers is sound, whatever the tables
  pub sound : {C : Type 0} (f : Form L R C) (w : List L.token) → Sound (Derives ρ f) (Begun ρ β f) w (parse τ p f w)
  unfolding looped
  sound (Pure c) w = ([], refl, (refl, refl))
  sound (Tok ks h) w = sound_token ks h w
  sound (Nt N h) w = sound_map (ρ N) (β N) (Derives {L = L} {R = R} ρ (Nt N h)) h w (p N w) (λ u a d. (a, d, refl)) (rule_sound N w)
  sound (Map h f) w = sound_map (Derives ρ f) (Begun ρ β f) (Derives ρ (Map h f)) h w (parse τ p f w) (λ u a d. (a, d, refl)) (sound f w)
  sound (Seq h f g) w = sound_seq h f g w (parse τ p f w) (sound g) (sound f w)
  sound (Split q h f g k) w = sound_split q h f g k w (parse τ p f w) (sound g) (sound k) (sound f w)
  sound (Alt f g) w =
      let go : (b : Bool) → Sound (Derives ρ (Alt f g)) (Begun ρ β (Alt f g)) w (cond b (parse τ p f w) (parse τ p g w)) =
      elim [ true ↦ weaken w (parse τ p f w) (λ u a d. inl d) (λ u d. inl d) (sound f w) | false ↦ weaken w (parse τ p g w) (λ u a d. inr d) (λ u d. inr d) (sound g w) ]
      in go (starts L (begin τ f) w)
  sound (Loop h f) w =
      sound_map (λ u s. Turns (Derives ρ f) s.0 s.1 u) (Looping f) (Derives ρ (Loop h f)) (λ s. h s.0 s.1) w
      (turns (starts L (begin τ f)) (parse τ p f) (suc (length w)) w)
      (λ u s t. (s.0, s.1, t, refl)) (sound_turns f (starts L (begin τ f)) (suc (length w)) w (sound f))
  sound (Unless ks f) w = sound_unless ks f w (parse τ p f w) (starts L ks w) refl (sound f w)

-- ---- what is derived is begun

module _ (L : Lexis) (R : Rules) (ρ : Derivings L R) (β : Beginnings L R)
    (none : (N : R.rule) → β N []) (rule_begun : (N : R.rule) (w : List L.token) (y : R.value N) → ρ N w y → β N w) where
  -- turns that are derived begin a loop
  pub begun_turns : {A E : Type 0} (f : Form L R (Step A E)) (as' : List A) (e : Option E) (w : List L.token)
      → ((u : List L.token) (x : Step A E) → Derives ρ f u x → Begun ρ β f u)
      → Turns (Derives ρ f) as' e w
      → (w ≡ []) ⊎ ((u v : List L.token) × (as' : List A) × (w ≡ u ++ v) × Turns (Derives ρ f) as' None u × Begun ρ β f v)
  begun_turns f [] None w ih t = inl t
  begun_turns f [] (Some x) w ih t = inr ([], w, [], refl, refl, ih w (Last x) t)
  begun_turns f (a ∷ as') e w ih (u, v, i, d, t) = go (begun_turns f as' e v ih t)
    where
      go : (v ≡ []) ⊎ ((u v' : List L.token) × (as' : _) × (v ≡ u ++ v') × Turns (Derives ρ f) as' None u × Begun ρ β f v')
          → (w ≡ []) ⊎ ((u v : List L.token) × (as' : _) × (w ≡ u ++ v) × Turns (Derives ρ f) as' None u × Begun ρ β f v)
      go (inl n) = inr (u, [], a ∷ [], i ∙ ap (λ z. u ++ z) n, (u, [], sym (append-nil u), d, refl), begun_nothing ρ β none f)
      go (inr (x, y, bs, j, t', b)) = inr (u ++ x, y, a ∷ bs, i ∙ ap (λ z. u ++ z) j ∙ sym (append_assoc u x y), (u, x, refl, d, t'), b)

  -- of two, one by a test
  begun_where : {B : Type 0} (c : Bool) (g k : Form L R B) (v : List L.token) (b : B)
      → (Derives ρ g v b → Begun ρ β g v) → (Derives ρ k v b → Begun ρ β k v)
      → Where c (Derives ρ g v b) (Derives ρ k v b) → Where c (Begun ρ β g v) (Begun ρ β k v)
  begun_where true g k v b i j d = i d
  begun_where false g k v b i j d = j d

  -- what a form derives begins it
  pub begun_by : {C : Type 0} (f : Form L R C) (w : List L.token) (x : C) → Derives ρ f w x → Begun ρ β f w
  begun_by (Pure c) w x d = d.0
  begun_by (Tok ks h) w x (t, e, i, j) = inr (t, e, i)
  begun_by (Nt N h) w x (y, d, e) = rule_begun N w y d
  begun_by (Map h f) w x (a, d, e) = begun_by f w a d
  begun_by (Seq h f g) w x (u, v, a, b, e, d, i, j) = inr (u, v, a, e, d, begun_by g v b i)
  begun_by (Split q h f g k) w x (u, v, a, b, e, d, i, j) = inr (u, v, a, e, d, begun_where (q a) g k v b (begun_by g v b) (begun_by k v b) i)
  begun_by (Alt f g) w x (inl d) = inl (begun_by f w x d)
  begun_by (Alt f g) w x (inr d) = inr (begun_by g w x d)
  begun_by (Loop h f) w x (as', e, t, i) = begun_turns f as' e w (begun_by f) t
  begun_by (Unless ks f) w x (e, d) = (e, begun_by f w x d)

-- ---- the front of what is begun is begun

-- two ways to cut one list
pub split : {T : Type 0} (u v x y : List T) → u ++ v ≡ x ++ y → ((s : List T) × (x ≡ u ++ s) × (v ≡ s ++ y)) ⊎ ((s : List T) × (u ≡ x ++ s) × (y ≡ s ++ v))
split [] v x y e = inl (x, refl, e)
split (t ∷ u) v [] y e = inr (t ∷ u, refl, sym e)
split (t ∷ u) v (s ∷ x) y e =
    let head : t ≡ s = cc in
    let tail : u ++ v ≡ x ++ y = cc in
    elim (split u v x y tail) [ inl (z, i, j) ↦ inl (z, cc, j) | inr (z, i, j) ↦ inr (z, cc, j) ]

module _ (L : Lexis) (R : Rules) (ρ : Derivings L R) (β : Beginnings L R)
    (none : (N : R.rule) → β N []) (rule_begun : (N : R.rule) (w : List L.token) (y : R.value N) → ρ N w y → β N w)
    (rule_front : (N : R.rule) (u v : List L.token) → β N (u ++ v) → β N u) where
  front_turns : {A E : Type 0} (f : Form L R (Step A E)) (as' : List A) (u v : List L.token)
      → ((u v : List L.token) → Begun ρ β f (u ++ v) → Begun ρ β f u)
      → Turns (Derives ρ f) as' None (u ++ v)
      → (u ≡ []) ⊎ ((x y : List L.token) × (as' : List A) × (u ≡ x ++ y) × Turns (Derives ρ f) as' None x × Begun ρ β f y)
  front_turns f [] [] v ih t = inl refl
  front_turns f [] (s ∷ u) v ih t = absurd (cc)
  front_turns {A} f (a ∷ as') u v ih (x, y, e, d, t) =
      elim (split u v x y e) [
        | inl (z, i, j) ↦ inr ([], u, [], refl, refl, ih u z (subst (Begun ρ β f) i (begun_by L R ρ β none rule_begun f x (More a) d)))
        | inr (z, i, j) ↦
            let rest : (z ≡ []) ⊎ ((x y : List L.token) × (as' : List A) × (z ≡ x ++ y) × Turns (Derives ρ f) as' None x × Begun ρ β f y) = front_turns f as' z v ih (subst (Turns (Derives ρ f) as' None) j t) in
            elim rest [
              | inl n ↦ inr (x, [], a ∷ [], i ∙ ap (λ q. x ++ q) n, (x, [], sym (append-nil x), d, refl), begun_nothing ρ β none f)
              | inr (p, q, bs, k, r, b) ↦ inr (x ++ p, q, a ∷ bs, i ∙ ap (λ s. x ++ s) k ∙ sym (append_assoc x p q), (x, p, refl, d, r), b)
            ]
      ]

  front_where : {B : Type 0} (c : Bool) (g k : Form L R B) (u v y : List L.token) → y ≡ u ++ v
      → ((u v : List L.token) → Begun ρ β g (u ++ v) → Begun ρ β g u) → ((u v : List L.token) → Begun ρ β k (u ++ v) → Begun ρ β k u)
      → Where c (Begun ρ β g y) (Begun ρ β k y) → Where c (Begun ρ β g u) (Begun ρ β k u)
  front_where true g k u v y e i j b = i u v (subst (Begun ρ β g) e b)
  front_where false g k u v y e i j b = j u v (subst (Begun ρ β k) e b)

  -- each front of what begins a form begins it
  pub front : {C : Type 0} (f : Form L R C) (u v : List L.token) → Begun ρ β f (u ++ v) → Begun ρ β f u
  front (Pure c) [] v b = refl
  front (Pure c) (t ∷ u) v b = absurd (cc)
  front (Tok ks h) [] v b = inl refl
  front (Tok ks h) (t ∷ u) v (inl e) = absurd (cc)
  front (Tok ks h) (t ∷ []) v (inr (s, e, i)) = inr (t, refl, i)
  front (Tok ks h) (t ∷ (t' ∷ u)) v (inr (s, e, i)) = absurd (cc)
  front (Nt N h) u v b = rule_front N u v b
  front (Map h f) u v b = front f u v b
  front (Seq h f g) u v (inl b) = inl (front f u v b)
  front (Seq h f g) u v (inr (x, y, a, e, d, b)) =
      elim (split u v x y e) [
        | inl (z, i, j) ↦ inl (front f u z (subst (Begun ρ β f) i (begun_by L R ρ β none rule_begun f x a d)))
        | inr (z, i, j) ↦ inr (x, z, a, i, d, front g z v (subst (Begun ρ β g) j b))
      ]
  front (Split q h f g k) u v (inl b) = inl (front f u v b)
  front (Split q h f g k) u v (inr (x, y, a, e, d, b)) =
      elim (split u v x y e) [
        | inl (z, i, j) ↦ inl (front f u z (subst (Begun ρ β f) i (begun_by L R ρ β none rule_begun f x a d)))
        | inr (z, i, j) ↦ inr (x, z, a, i, d, front_where (q a) g k z v y j (front g) (front k) b)
      ]
  front (Alt f g) u v (inl b) = inl (front f u v b)
  front (Alt f g) u v (inr b) = inr (front g u v b)
  front (Loop h f) [] v b = inl refl
  front (Loop h f) (t ∷ u) v (inl e) = absurd (cc)
  front (Loop {A} h f) (t ∷ u) v (inr (x, y, as', e, r, b)) =
      elim (split (t ∷ u) v x y e) [
        | inl (z, i, j) ↦ front_turns f as' (t ∷ u) z (front f) (subst (Turns (Derives ρ f) as' None) i r)
        | inr (z, i, j) ↦ inr (x, z, as', i, r, front f z v (subst (Begun ρ β f) j b))
      ]
  front (Unless ks f) u v (e, b) = (starts_front L ks u v e, front f u v b)
