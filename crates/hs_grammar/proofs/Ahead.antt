-- With one token of lookahead the parser finds what there is.
use Rattle.std.proofs.Common.{◌≡◌, ℕ, zero, suc, Bool, true, false, ◌&&◌, ◌||◌, cond, List, [], ◌∷◌, ◌++◌, Option, Some, None, ◌⊎◌, inl, inr, length, refl, sym, ap, ◌∙◌, subst, append_assoc, append-nil, ◌<◌, arith, length-append}
use Rattle.std.proofs.lemmas.Bool.{both_ways, and_from, or_left, or_right}
use Rattle.hs_grammar.specs.Form.{Lexis, Rules, Step, More, Last, Form, Pure, Tok, Nt, Map, Seq, Split, Alt, Loop, Unless}
use Rattle.hs_grammar.specs.Kinds.{Decides, has, disjoint, within, starts}
use Rattle.hs_grammar.specs.Derives.{Language, Derivings, Beginnings, Turns, Where, Derives, Begun}
use Rattle.hs_grammar.specs.Lookahead.{Tables, empty, begin, go_on, NoEmpty, GoesOn, IsMore, Fits}
use Rattle.hs_grammar.specs.Parser.{Res, Done, Stop, Deep, and_then, giving, token_of, turn, turns, looped, Parsers, parse}
use Rattle.hs_grammar.proofs.Sets.{has_along, has-append-left, has-append-right, has-without, lacks-left, lacks-right, lacks-within, apart}
use Rattle.hs_grammar.proofs.Exact.{Sound, sound, sound_turns, begun_by, begun_turns}

-- the answer is this value, with these tokens behind it, or it is too deep, where B allows that
abbrev pub Is : {T A : Type 0} → Type 0 → A → List T → Res T A → Type 0
Is B x v (Done y r) = (y ≡ x) × (r ≡ v)
Is B x v (Stop r) = ⊥
Is B x v Deep = B

-- the answer comes in z or behind it
abbrev pub Spent : {T A : Type 0} → List T → Res T A → Type 0
Spent {T} z (Done y r) = (t : List T) × (z ≡ t ++ r)
Spent {T} z (Stop r) = (t : List T) × (z ≡ t ++ r)
Spent z Deep = Unit {0}

-- what holds of the rules at some height
pub record Inner {L : Lexis} {R : Rules} (B : Type 0) (τ : Tables L R) (ρ : Derivings L R) (β : Beginnings L R) (p : Parsers L R) : Type 0 where
  pub none : (N : R.rule) → β N []
  pub later_in : (N : R.rule) (w : List L.token) → Sound (λ _ _. Unit {0}) (λ _. Unit {0}) w (p N w)
  pub begun_in : (N : R.rule) (w : List L.token) (y : R.value N) → ρ N w y → β N w
  pub empty_in : (N : R.rule) (y : R.value N) → ρ N [] y → τ.empty N ≡ true
  pub begins_in : (N : R.rule) (t : L.token) (w : List L.token) → β N (t ∷ w) → has L (τ.begin N) (L.kind_of t) ≡ true
  pub complete_in : (N : R.rule) (u v : List L.token) (y : R.value N) → ρ N u y → starts L (τ.go_on N) v ≡ false → Is B y v (p N (u ++ v))
  pub spent_in : (N : R.rule) (w z : List L.token) → β N w → Spent z (p N (w ++ z))

-- by the one fact or by the other
pub either : {X Y Z : Type 0} (c : Bool) → (c ≡ true → X → Z) → (c ≡ false → Y → Z) → Where c X Y → Z
either true f g i = f refl i
either false f g i = g refl i

-- the same of two choices by one test
pub both : {X Y X' Y' Z : Type 0} (c : Bool) → (c ≡ true → X → X' → Z) → (c ≡ false → Y → Y' → Z) → Where c X Y → Where c X' Y' → Z
both true f g i j = f refl i j
both false f g i j = g refl i j

cond_parts : (L : Lexis) (b : Bool) (xs : List L.kind) (k : L.kind) → b ≡ true → has L xs k ≡ true → has L (cond b xs []) k ≡ true
cond_parts L b xs k e h = rw e h

module _ (L : Lexis) (K : Decides L) where
  starts-left : (xs ys : List L.kind) (v : List L.token) → starts L (xs ++ ys) v ≡ false → starts L xs v ≡ false
  starts-left xs ys [] e = refl
  starts-left xs ys (t ∷ v) e = lacks-left L K xs ys (L.kind_of t) e

  starts-right : (xs ys : List L.kind) (v : List L.token) → starts L (xs ++ ys) v ≡ false → starts L ys v ≡ false
  starts-right xs ys [] e = refl
  starts-right xs ys (t ∷ v) e = lacks-right L K xs ys (L.kind_of t) e

  starts-cond : (b : Bool) (xs : List L.kind) (v : List L.token) → b ≡ true → starts L (cond b xs []) v ≡ false → starts L xs v ≡ false
  starts-cond b xs v i e = subst (λ c. starts L (cond c xs []) v ≡ false) i e

  -- what a greater set lacks a smaller lacks
  pub starts-within : (xs ys : List L.kind) (v : List L.token) → within L xs ys ≡ true → starts L ys v ≡ false → starts L xs v ≡ false
  starts-within xs ys [] i e = refl
  starts-within xs ys (t ∷ v) i e = lacks-within L K xs ys (L.kind_of t) i e

module _ (L : Lexis) (R : Rules) (K : Decides L) (τ : Tables L R) (ρ : Derivings L R) (β : Beginnings L R) (p : Parsers L R)
    (B : Type 0) (I : Inner B τ ρ β p) where
  -- ---- no token

  empty_where : {A : Type 0} (c : Bool) (g k : Form L R A) (b : A) → (Derives ρ g [] b → empty τ g ≡ true) → (Derives ρ k [] b → empty τ k ≡ true)
      → Where c (Derives ρ g [] b) (Derives ρ k [] b) → (empty τ g || empty τ k) ≡ true
  empty_where c g k b i j d = either c (λ e d. or_left (empty τ g) (empty τ k) (i d)) (λ e d. or_right (empty τ g) (empty τ k) (j d)) d

  -- a form that derives no token is one of those that can
  pub empties : {C : Type 0} (f : Form L R C) (x : C) → Derives ρ f [] x → empty τ f ≡ true
  empties (Pure c) x d = refl
  empties (Tok ks h) x (t, e, i, j) = absurd (cc)
  empties (Nt N h) x (y, d, e) = I.empty_in N y d
  empties (Map h f) x (a, d, e) = empties f a d
  empties (Seq h f g) x ([], [], a, b, e, d, i, j) = and_from (empty τ f) (empty τ g) (empties f a d) (empties g b i)
  empties (Seq h f g) x ([], (t ∷ v), a, b, e, d, i, j) = absurd (cc)
  empties (Seq h f g) x ((t ∷ u), v, a, b, e, d, i, j) = absurd (cc)
  empties (Split q h f g k) x ([], [], a, b, e, d, i, j) = and_from (empty τ f) (empty τ g || empty τ k) (empties f a d) (empty_where (q a) g k b (empties g b) (empties k b) i)
  empties (Split q h f g k) x ([], (t ∷ v), a, b, e, d, i, j) = absurd (cc)
  empties (Split q h f g k) x ((t ∷ u), v, a, b, e, d, i, j) = absurd (cc)
  empties (Alt f g) x (inl d) = or_left (empty τ f) (empty τ g) (empties f x d)
  empties (Alt f g) x (inr d) = or_right (empty τ f) (empty τ g) (empties g x d)
  empties (Loop h f) x d = refl
  empties (Unless ks f) x (e, d) = empties f x d

  -- ---- the first token

  begins_turns : {A E : Type 0} (f : Form L R (Step A E)) (as' : List A) (t : L.token) (w u v : List L.token)
      → ((t : L.token) (w : List L.token) → Begun ρ β f (t ∷ w) → has L (begin τ f) (L.kind_of t) ≡ true)
      → t ∷ w ≡ u ++ v → Turns (Derives ρ f) as' None u → Begun ρ β f v → has L (begin τ f) (L.kind_of t) ≡ true
  begins_turns f [] t w u v ih e i b = ih t w (subst (Begun ρ β f) (sym (e ∙ ap (λ z. z ++ v) i)) b)
  begins_turns f (a ∷ as') t w u v ih e ([], y, i, d, r) b = begins_turns f as' t w y v ih (e ∙ ap (λ z. z ++ v) i) r b
  begins_turns f (a ∷ as') t w u v ih e ((s ∷ x), y, i, d, r) b =
      let same : t ≡ s = let k : t ∷ w ≡ s ∷ ((x ++ y) ++ v) = e ∙ ap (λ z. z ++ v) i in cc in
      has_along L (begin τ f) (L.kind_of s) (L.kind_of t) (ap L.kind_of (sym same)) (ih s x (begun_by L R ρ β I.none I.begun_in f (s ∷ x) (More a) d))

  begins_where : {A : Type 0} (c : Bool) (g k : Form L R A) (t : L.token) (w : List L.token)
      → (Begun ρ β g (t ∷ w) → has L (begin τ g) (L.kind_of t) ≡ true) → (Begun ρ β k (t ∷ w) → has L (begin τ k) (L.kind_of t) ≡ true)
      → Where c (Begun ρ β g (t ∷ w)) (Begun ρ β k (t ∷ w)) → has L (begin τ g ++ begin τ k) (L.kind_of t) ≡ true
  begins_where c g k t w i j b =
      either c (λ e b. has-append-left L K (begin τ g) (begin τ k) (L.kind_of t) (i b)) (λ e b. has-append-right L K (begin τ g) (begin τ k) (L.kind_of t) (j b)) b

  -- what begins a form begins with a kind of its set
  pub begins : {C : Type 0} (f : Form L R C) (t : L.token) (w : List L.token) → Begun ρ β f (t ∷ w) → has L (begin τ f) (L.kind_of t) ≡ true
  begins (Pure c) t w b = absurd (cc)
  begins (Tok ks h) t w (inl e) = absurd (cc)
  begins (Tok ks h) t w (inr (s, e, i)) = i
  begins (Nt N h) t w b = I.begins_in N t w b
  begins (Map h f) t w b = begins f t w b
  begins (Seq h f g) t w (inl b) = has-append-left L K (begin τ f) (cond (empty τ f) (begin τ g) []) (L.kind_of t) (begins f t w b)
  begins (Seq h f g) t w (inr ([], v, a, e, d, b)) =
      has-append-right L K (begin τ f) (cond (empty τ f) (begin τ g) []) (L.kind_of t)
      (cond_parts L (empty τ f) (begin τ g) (L.kind_of t) (empties f a d) (begins g t w (subst (Begun ρ β g) (sym e) b)))
  begins (Seq h f g) t w (inr ((s ∷ u), v, a, e, d, b)) =
      let same : t ≡ s = cc in
      has-append-left L K (begin τ f) (cond (empty τ f) (begin τ g) []) (L.kind_of t)
      (has_along L (begin τ f) (L.kind_of s) (L.kind_of t) (ap L.kind_of (sym same)) (begins f s u (begun_by L R ρ β I.none I.begun_in f (s ∷ u) a d)))
  begins (Split q h f g k) t w (inl b) = has-append-left L K (begin τ f) (cond (empty τ f) (begin τ g ++ begin τ k) []) (L.kind_of t) (begins f t w b)
  begins (Split q h f g k) t w (inr ([], v, a, e, d, b)) =
      has-append-right L K (begin τ f) (cond (empty τ f) (begin τ g ++ begin τ k) []) (L.kind_of t)
      (cond_parts L (empty τ f) (begin τ g ++ begin τ k) (L.kind_of t) (empties f a d)
      (begins_where (q a) g k t w (begins g t w) (begins k t w) (subst (λ y. Where (q a) (Begun ρ β g y) (Begun ρ β k y)) (sym e) b)))
  begins (Split q h f g k) t w (inr ((s ∷ u), v, a, e, d, b)) =
      let same : t ≡ s = cc in
      has-append-left L K (begin τ f) (cond (empty τ f) (begin τ g ++ begin τ k) []) (L.kind_of t)
      (has_along L (begin τ f) (L.kind_of s) (L.kind_of t) (ap L.kind_of (sym same)) (begins f s u (begun_by L R ρ β I.none I.begun_in f (s ∷ u) a d)))
  begins (Alt f g) t w (inl b) = has-append-left L K (begin τ f) (begin τ g) (L.kind_of t) (begins f t w b)
  begins (Alt f g) t w (inr b) = has-append-right L K (begin τ f) (begin τ g) (L.kind_of t) (begins g t w b)
  begins (Loop h f) t w (inl e) = absurd (cc)
  begins (Loop h f) t w (inr (u, v, as', e, r, b)) = begins_turns f as' t w u v (begins f) e r b
  begins (Unless ks f) t w (e, b) = has-without L K ks (begin τ f) (L.kind_of t) e (begins f t w b)

  begins_derived : {C : Type 0} (f : Form L R C) (t : L.token) (w : List L.token) (x : C) → Derives ρ f (t ∷ w) x → has L (begin τ f) (L.kind_of t) ≡ true
  begins_derived f t w x d = begins f t w (begun_by L R ρ β I.none I.begun_in f (t ∷ w) x d)

  begins_either : {A : Type 0} (c : Bool) (g k : Form L R A) (t : L.token) (w : List L.token) (b : A)
      → Where c (Derives ρ g (t ∷ w) b) (Derives ρ k (t ∷ w) b) → has L (begin τ g ++ begin τ k) (L.kind_of t) ≡ true
  begins_either c g k t w b d =
      either c (λ e d. has-append-left L K (begin τ g) (begin τ k) (L.kind_of t) (begins_derived g t w b d)) (λ e d. has-append-right L K (begin τ g) (begin τ k) (L.kind_of t) (begins_derived k t w b d)) d

  -- what follows f does not carry f on
  follow : {A : Type 0} (f : Form L R A) (ks : List L.kind) (u v : List L.token) → disjoint L (go_on τ f) ks ≡ true
      → ((t : L.token) (w : List L.token) → u ≡ t ∷ w → has L ks (L.kind_of t) ≡ true)
      → (u ≡ [] → starts L (go_on τ f) v ≡ false)
      → starts L (go_on τ f) (u ++ v) ≡ false
  follow f ks [] v d first last = last refl
  follow f ks (t ∷ u) v d first last = apart L K (go_on τ f) ks (L.kind_of t) d (first t u refl)

  -- ---- what is derived is found

  is_map : {A C : Type 0} (h : A → C) (y : A) (x : C) (v : List L.token) (r : Res L.token A) → h y ≡ x → Is B y v r → Is B x v (and_then r (λ a q. Done (h a) q))
  is_map h y x v (Done a q) e (i, j) = (ap h i ∙ e, j)
  is_map h y x v (Stop q) e i = i
  is_map h y x v Deep e i = i

  is_then : {A C : Type 0} (a : A) (v q : List L.token) (x : C) (r : Res L.token A) (k : A → List L.token → Res L.token C) → Is B a v r → Is B x q (k a v) → Is B x q (and_then r k)
  is_then a v q x (Done b s) k (i, j) h = subst (λ y. Is B x q (k y s)) (sym i) (subst (λ z. Is B x q (k a z)) (sym j) h)
  is_then a v q x (Stop s) k i h = absurd i
  is_then a v q x Deep k i h = i

  is_token : {C : Type 0} (ks : List L.kind) (h : L.token → C) (u v : List L.token) (x : C) → Derives {L = L} {R = R} ρ (Tok ks h) u x → Is B x v (giving h (token_of L ks (u ++ v)))
  is_token ks h u v x (t, e, i, j) =
      subst (λ z. Is B x v (giving h (token_of L ks (z ++ v)))) (sym e)
      (subst (λ b. Is B x v (giving h (cond b (Done t v) (Stop (t ∷ v))))) (sym (ap (starts L ks) (sym e) ∙ i)) (j, refl))

  is_taken : {C : Type 0} (b : Bool) (x : C) (v : List L.token) (r s : Res L.token C) → b ≡ true → Is B x v r → Is B x v (cond b r s)
  is_taken b x v r s e i = subst (λ c. Is B x v (cond c r s)) (sym e) i

  is_passed : {C : Type 0} (b : Bool) (x : C) (v : List L.token) (r s : Res L.token C) → b ≡ false → Is B x v s → Is B x v (cond b r s)
  is_passed b x v r s e i = subst (λ c. Is B x v (cond c r s)) (sym e) i

  -- an item of a loop is not empty
  item_begins : {A E : Type 0} (f : Form L R (Step A E)) (u v : List L.token) (s : Step A E) → empty τ f ≡ false → Derives ρ f u s → starts L (begin τ f) (u ++ v) ≡ true
  item_begins f [] v s n d = absurd (both_ways (empty τ f) n (empties f s d))
  item_begins f (t ∷ u) v s n d = begins_derived f t u s d

  item_shorter : {A E : Type 0} (f : Form L R (Step A E)) (x y u v : List L.token) (n : ℕ) (s : Step A E) → empty τ f ≡ false → Derives ρ f x s → u ≡ x ++ y → length (u ++ v) < suc n → length (y ++ v) < n
  item_shorter f [] y u v n s m d e lt = absurd (both_ways (empty τ f) m (empties f s d))
  item_shorter f (t ∷ x) y u v n s m d e lt =
      let same : length (u ++ v) ≡ length ((t ∷ (x ++ y)) ++ v) = ap (λ z. length (z ++ v)) e in
      omega (arith, same, length-append (x ++ y) v, length-append x y, length-append y v)

  turns_begin : {A E : Type 0} (f : Form L R (Step A E)) (as' : List A) (e : Option E) (t : L.token) (w : List L.token) → Turns (Derives ρ f) as' e (t ∷ w) → has L (begin τ f) (L.kind_of t) ≡ true
  turns_begin f as' e t w r =
      let h : List _ → Option _ → Unit {0} = λ _ _. tt in
      begins (Loop h f) t w (begun_turns L R ρ β I.none I.begun_in f as' e (t ∷ w) (begun_by L R ρ β I.none I.begun_in f) r)

  -- what follows an item is an item, or not one
  follow_more : {A E : Type 0} (f : Form L R (Step A E)) (ks : List L.kind) (as' : List A) (e : Option E) (y v : List L.token) → disjoint L ks (begin τ f) ≡ true
      → Turns (Derives ρ f) as' e y → starts L ks v ≡ false → starts L ks (y ++ v) ≡ false
  follow_more f ks as' e [] v d r b = b
  follow_more f ks as' e (t ∷ y) v d r b = apart L K ks (begin τ f) (L.kind_of t) d (turns_begin f as' e t y r)

  is_turns : {A E : Type 0} (f : Form L R (Step A E)) (ks : List L.kind) → disjoint L ks (begin τ f) ≡ true → empty τ f ≡ false → within L ks (go_on τ f) ≡ true
      → ((u v : List L.token) (a : A) → Derives ρ f u (More a) → starts L ks v ≡ false → Is B (More a) v (parse τ p f (u ++ v)))
      → ((u v : List L.token) (x : Step A E) → Derives ρ f u x → starts L (go_on τ f) v ≡ false → Is B x v (parse τ p f (u ++ v)))
      → (n : ℕ) (as' : List A) (e : Option E) (u v : List L.token) → length (u ++ v) < n → Turns (Derives ρ f) as' e u → starts L (go_on τ f) v ≡ false → starts L (begin τ f) v ≡ false
      → Is B (as', e) v (turns (starts L (begin τ f)) (parse τ p f) n (u ++ v))
  is_turns f ks d m sub on ih zero as' e u v lt r l b = absurd (omega arith)
  is_turns f ks d m sub on ih (suc n) [] None u v lt r l b =
      is_passed (starts L (begin τ f) (u ++ v)) ([], None) v (and_then (parse τ p f (u ++ v)) (turn (turns (starts L (begin τ f)) (parse τ p f) n))) (Done ([], None) (u ++ v))
      (ap (λ z. starts L (begin τ f) (z ++ v)) r ∙ b) (refl, ap (λ z. z ++ v) r)
  is_turns f ks d m sub on ih (suc n) [] (Some x) u v lt r l b =
      is_taken (starts L (begin τ f) (u ++ v)) ([], Some x) v (and_then (parse τ p f (u ++ v)) (turn (turns (starts L (begin τ f)) (parse τ p f) n))) (Done ([], None) (u ++ v))
      (item_begins f u v (Last x) m r)
      (is_then (Last x) v v ([], Some x) (parse τ p f (u ++ v)) (turn (turns (starts L (begin τ f)) (parse τ p f) n)) (ih u v (Last x) r l) (refl, refl))
  is_turns f ks d m sub on ih (suc n) (a ∷ as') e u v lt (x, y, i, j, r) l b =
      is_taken (starts L (begin τ f) (u ++ v)) (a ∷ as', e) v (and_then (parse τ p f (u ++ v)) (turn (turns (starts L (begin τ f)) (parse τ p f) n))) (Done ([], None) (u ++ v))
      (subst (λ z. starts L (begin τ f) z ≡ true) (sym (ap (λ z. z ++ v) i ∙ append_assoc x y v)) (item_begins f x (y ++ v) (More a) m j))
      (is_then (More a) (y ++ v) v (a ∷ as', e) (parse τ p f (u ++ v)) (turn (turns (starts L (begin τ f)) (parse τ p f) n))
      (subst (λ z. Is B (More a) (y ++ v) (parse τ p f z)) (sym (ap (λ z. z ++ v) i ∙ append_assoc x y v))
      (on x (y ++ v) a j (follow_more f ks as' e y v d r (starts-within L K ks (go_on τ f) v sub l))))
      (is_map (λ s. (a ∷ s.0, s.1)) (as', e) (a ∷ as', e) v (turns (starts L (begin τ f)) (parse τ p f) n (y ++ v)) refl (is_turns f ks d m sub on ih n as' e y v (item_shorter f x y u v n (More a) m j i lt) r l b)))

  -- what is derived is found, behind which nothing goes on; and the same where the value is in P
  pub record Found {C : Type 0} (f : Form L R C) : Type 1 where
    pub all : (u v : List L.token) (x : C) → Derives ρ f u x → starts L (go_on τ f) v ≡ false → Is B x v (parse τ p f (u ++ v))
    pub only : (P : C → Type 0) (ks : List L.kind) → GoesOn τ ks P f → (u v : List L.token) (x : C) → P x → Derives ρ f u x → starts L ks v ≡ false → Is B x v (parse τ p f (u ++ v))

  -- what is in P takes a token
  no_empty : {C : Type 0} (P : C → Type 0) (f : Form L R C) (x : C) → NoEmpty τ P f → P x → Derives ρ f [] x → ⊥
  no_empty P (Pure c) x n i d = n (subst P (sym d.1) i)
  no_empty P (Tok ks h) x n i (t, e, j, l) = absurd (cc)
  no_empty P (Nt N h) x n i (y, d, e) = both_ways (τ.empty N) n (I.empty_in N y d)
  no_empty P (Map h f) x n i (a, d, e) = no_empty (λ a. P (h a)) f a n (subst P (sym e) i) d
  no_empty P (Seq h f g) x n i d = both_ways (empty τ f && empty τ g) n (empties (Seq h f g) x d)
  no_empty P (Split q h f g k) x n i d = both_ways (empty τ f && (empty τ g || empty τ k)) n (empties (Split q h f g k) x d)
  no_empty P (Alt f g) x n i (inl d) = no_empty P f x n.0 i d
  no_empty P (Alt f g) x n i (inr d) = no_empty P g x n.1 i d
  no_empty P (Loop h f) x n i (as', e, t, j) = n as' e (subst P (sym j) i)
  no_empty P (Unless ks f) x n i (e, d) = no_empty P f x n i d

  -- behind a second part that took no token the first does not go on
  last_of : {A D : Type 0} (f : Form L R A) (g : Form L R D) (P : D → Type 0) (ks : List L.kind) (v : List L.token) (b : D) → P b → starts L ks v ≡ false
      → NoEmpty τ P g ⊎ (within L (go_on τ f) ks ≡ true) → Derives ρ g [] b → starts L (go_on τ f) v ≡ false
  last_of f g P ks v b i l (inl n) q = absurd (no_empty P g b n i q)
  last_of f g P ks v b i l (inr w) q = starts-within L K (go_on τ f) ks v w l

  seq_is : {A D C : Type 0} (h : A → D → C) (f : Form L R A) (g : Form L R D) (u v u1 u2 : List L.token) (x : C) (a : A) (b : D) → u ≡ u1 ++ u2 → h a b ≡ x
      → Is B a (u2 ++ v) (parse τ p f (u1 ++ (u2 ++ v))) → Is B b v (parse τ p g (u2 ++ v)) → Is B x v (parse τ p (Seq h f g) (u ++ v))
  seq_is h f g u v u1 u2 x a b e j i k =
      is_then a (u2 ++ v) v x (parse τ p f (u ++ v)) (λ a r. giving (h a) (parse τ p g r))
      (subst (λ z. Is B a (u2 ++ v) (parse τ p f z)) (sym (ap (λ z. z ++ v) e ∙ append_assoc u1 u2 v)) i)
      (is_map (h a) b x v (parse τ p g (u2 ++ v)) j k)

  all_seq : {A D C : Type 0} (h : A → D → C) (f : Form L R A) (g : Form L R D) → disjoint L (go_on τ f) (begin τ g) ≡ true → Found f → Found g
      → (u v : List L.token) (x : C) → Derives ρ (Seq h f g) u x → starts L (go_on τ (Seq h f g)) v ≡ false → Is B x v (parse τ p (Seq h f g) (u ++ v))
  all_seq h f g dis F G u v x (u1, u2, a, b, e, d, i, j) l =
      seq_is h f g u v u1 u2 x a b e j
      (F.all u1 (u2 ++ v) a d
      (follow f (begin τ g) u2 v dis (λ t w k. begins_derived g t w b (subst (λ z. Derives ρ g z b) k i))
      (λ k. starts-cond L K (empty τ g) (go_on τ f) v (empties g b (subst (λ z. Derives ρ g z b) k i)) (starts-right L K (go_on τ g) (cond (empty τ g) (go_on τ f) []) v l))))
      (G.all u2 v b i (starts-left L K (go_on τ g) (cond (empty τ g) (go_on τ f) []) v l))

  only_seq : {A D C : Type 0} (h : A → D → C) (f : Form L R A) (g : Form L R D) → disjoint L (go_on τ f) (begin τ g) ≡ true → Found f → Found g
      → (P : C → Type 0) (ks : List L.kind) → GoesOn τ ks P (Seq h f g) → (u v : List L.token) (x : C) → P x → Derives ρ (Seq h f g) u x → starts L ks v ≡ false → Is B x v (parse τ p (Seq h f g) (u ++ v))
  only_seq {A} {D} h f g dis F G P ks on u v x i (u1, u2, a, b, e, d, j, k) l =
      seq_is h f g u v u1 u2 x a b e k
      (F.all u1 (u2 ++ v) a d
      (follow f (begin τ g) u2 v dis (λ t w m. begins_derived g t w b (subst (λ z. Derives ρ g z b) m j))
      (λ m. last_of f g (λ b. P (h a b)) ks v b (subst P (sym k) i) l (on a).1 (subst (λ z. Derives ρ g z b) m j))))
      (G.only (λ b. P (h a b)) ks (on a).0 u2 v b (subst P (sym k) i) j l)

  split_is : {A D C : Type 0} (q : A → Bool) (h : A → D → C) (f : Form L R A) (g k : Form L R D) (u v u1 u2 : List L.token) (x : C) (a : A) (b : D) → u ≡ u1 ++ u2 → h a b ≡ x
      → Is B a (u2 ++ v) (parse τ p f (u1 ++ (u2 ++ v))) → Is B b v (cond (q a) (parse τ p g (u2 ++ v)) (parse τ p k (u2 ++ v))) → Is B x v (parse τ p (Split q h f g k) (u ++ v))
  split_is q h f g k u v u1 u2 x a b e j i o =
      is_then a (u2 ++ v) v x (parse τ p f (u ++ v)) (λ a r. giving (h a) (cond (q a) (parse τ p g r) (parse τ p k r)))
      (subst (λ z. Is B a (u2 ++ v) (parse τ p f z)) (sym (ap (λ z. z ++ v) e ∙ append_assoc u1 u2 v)) i)
      (is_map (h a) b x v (cond (q a) (parse τ p g (u2 ++ v)) (parse τ p k (u2 ++ v))) j o)

  all_split : {A D C : Type 0} (q : A → Bool) (h : A → D → C) (f : Form L R A) (g k : Form L R D) → disjoint L (go_on τ f) (begin τ g ++ begin τ k) ≡ true → Found f → Found g → Found k
      → (u v : List L.token) (x : C) → Derives ρ (Split q h f g k) u x → starts L (go_on τ (Split q h f g k)) v ≡ false → Is B x v (parse τ p (Split q h f g k) (u ++ v))
  all_split q h f g k dis F G H u v x (u1, u2, a, b, e, d, i, j) l =
      split_is q h f g k u v u1 u2 x a b e j
      (F.all u1 (u2 ++ v) a d
      (follow f (begin τ g ++ begin τ k) u2 v dis (λ t w m. begins_either (q a) g k t w b (subst (λ z. Where (q a) (Derives ρ g z b) (Derives ρ k z b)) m i))
      (λ m. starts-cond L K (empty τ g || empty τ k) (go_on τ f) v
      (empty_where (q a) g k b (empties g b) (empties k b) (subst (λ z. Where (q a) (Derives ρ g z b) (Derives ρ k z b)) m i))
      (starts-right L K (go_on τ g ++ go_on τ k) (cond (empty τ g || empty τ k) (go_on τ f) []) v l))))
      (either (q a)
      (λ c i. is_taken (q a) b v (parse τ p g (u2 ++ v)) (parse τ p k (u2 ++ v)) c (G.all u2 v b i (starts-left L K (go_on τ g) (go_on τ k) v rest)))
      (λ c i. is_passed (q a) b v (parse τ p g (u2 ++ v)) (parse τ p k (u2 ++ v)) c (H.all u2 v b i (starts-right L K (go_on τ g) (go_on τ k) v rest))) i)
    where
      rest : starts L (go_on τ g ++ go_on τ k) v ≡ false
      rest = starts-left L K (go_on τ g ++ go_on τ k) (cond (empty τ g || empty τ k) (go_on τ f) []) v l

  only_split : {A D C : Type 0} (q : A → Bool) (h : A → D → C) (f : Form L R A) (g k : Form L R D) → disjoint L (go_on τ f) (begin τ g ++ begin τ k) ≡ true → Found f → Found g → Found k
      → (P : C → Type 0) (ks : List L.kind) → GoesOn τ ks P (Split q h f g k) → (u v : List L.token) (x : C) → P x → Derives ρ (Split q h f g k) u x → starts L ks v ≡ false → Is B x v (parse τ p (Split q h f g k) (u ++ v))
  only_split {A} {D} q h f g k dis F G H P ks on u v x i (u1, u2, a, b, e, d, j, o) l =
      split_is q h f g k u v u1 u2 x a b e o
      (F.all u1 (u2 ++ v) a d
      (follow f (begin τ g ++ begin τ k) u2 v dis (λ t w m. begins_either (q a) g k t w b (subst (λ z. Where (q a) (Derives ρ g z b) (Derives ρ k z b)) m j))
      (λ m. both (q a) (λ c n i. last_of f g (λ b. P (h a b)) ks v b here l n.1 i) (λ c n i. last_of f k (λ b. P (h a b)) ks v b here l n.1 i) (on a)
      (subst (λ z. Where (q a) (Derives ρ g z b) (Derives ρ k z b)) m j))))
      (both (q a)
      (λ c n j. is_taken (q a) b v (parse τ p g (u2 ++ v)) (parse τ p k (u2 ++ v)) c (G.only (λ b. P (h a b)) ks n.0 u2 v b here j l))
      (λ c n j. is_passed (q a) b v (parse τ p g (u2 ++ v)) (parse τ p k (u2 ++ v)) c (H.only (λ b. P (h a b)) ks n.0 u2 v b here j l)) (on a) j)
    where
      here : P (h a b)
      here = subst P (sym o) i

  alt_left : {C : Type 0} (f g : Form L R C) (u v : List L.token) (x : C) → empty τ f ≡ false → Derives ρ f u x → Is B x v (parse τ p f (u ++ v)) → Is B x v (parse τ p (Alt f g) (u ++ v))
  alt_left f g [] v x n d i = absurd (both_ways (empty τ f) n (empties f x d))
  alt_left f g (t ∷ u) v x n d i = is_taken (has L (begin τ f) (L.kind_of t)) x v (parse τ p f (t ∷ (u ++ v))) (parse τ p g (t ∷ (u ++ v))) (begins_derived f t u x d) i

  alt_right : {C : Type 0} (f g : Form L R C) (u v : List L.token) (x : C) → disjoint L (begin τ f) (begin τ g) ≡ true → Derives ρ g u x → (u ≡ [] → starts L (begin τ f) v ≡ false)
      → Is B x v (parse τ p g (u ++ v)) → Is B x v (parse τ p (Alt f g) (u ++ v))
  alt_right f g [] v x dis d l i = is_passed (starts L (begin τ f) v) x v (parse τ p f v) (parse τ p g v) (l refl) i
  alt_right f g (t ∷ u) v x dis d l i =
      is_passed (has L (begin τ f) (L.kind_of t)) x v (parse τ p f (t ∷ (u ++ v))) (parse τ p g (t ∷ (u ++ v))) (apart L K (begin τ f) (begin τ g) (L.kind_of t) dis (begins_derived g t u x d)) i

  all_alt : {C : Type 0} (f g : Form L R C) → disjoint L (begin τ f) (begin τ g) ≡ true → empty τ f ≡ false → Found f → Found g
      → (u v : List L.token) (x : C) → Derives ρ (Alt f g) u x → starts L (go_on τ (Alt f g)) v ≡ false → Is B x v (parse τ p (Alt f g) (u ++ v))
  all_alt f g dis n F G u v x (inl d) l = alt_left f g u v x n d (F.all u v x d (starts-left L K (go_on τ f) (go_on τ g) v (starts-left L K (go_on τ f ++ go_on τ g) (cond (empty τ g) (begin τ f) []) v l)))
  all_alt f g dis n F G u v x (inr d) l =
      alt_right f g u v x dis d
      (λ k. starts-cond L K (empty τ g) (begin τ f) v (empties g x (subst (λ z. Derives ρ g z x) k d)) (starts-right L K (go_on τ f ++ go_on τ g) (cond (empty τ g) (begin τ f) []) v l))
      (G.all u v x d (starts-right L K (go_on τ f) (go_on τ g) v (starts-left L K (go_on τ f ++ go_on τ g) (cond (empty τ g) (begin τ f) []) v l)))

  only_alt : {C : Type 0} (f g : Form L R C) → disjoint L (begin τ f) (begin τ g) ≡ true → empty τ f ≡ false → Found f → Found g
      → (P : C → Type 0) (ks : List L.kind) → GoesOn τ ks P (Alt f g) → (u v : List L.token) (x : C) → P x → Derives ρ (Alt f g) u x → starts L ks v ≡ false → Is B x v (parse τ p (Alt f g) (u ++ v))
  only_alt f g dis n F G P ks on u v x i (inl d) l = alt_left f g u v x n d (F.only P ks on.0 u v x i d l)
  only_alt f g dis n F G P ks on u v x i (inr d) l = alt_right f g u v x dis d (λ k. last on.2 (subst (λ z. Derives ρ g z x) k d)) (G.only P ks on.1 u v x i d l)
    where
      last : NoEmpty τ P g ⊎ (within L (begin τ f) ks ≡ true) → Derives ρ g [] x → starts L (begin τ f) v ≡ false
      last (inl m) q = absurd (no_empty P g x m i q)
      last (inr w) q = starts-within L K (begin τ f) ks v w l

  unless_is : {C : Type 0} (ks : List L.kind) (f : Form L R C) (u v : List L.token) (x : C) → empty τ f ≡ false → Derives ρ (Unless ks f) u x → Is B x v (parse τ p f (u ++ v)) → Is B x v (parse τ p (Unless ks f) (u ++ v))
  unless_is ks f [] v x n (e, d) i = absurd (both_ways (empty τ f) n (empties f x d))
  unless_is ks f (t ∷ u) v x n (e, d) i = is_passed (has L ks (L.kind_of t)) x v (Stop (t ∷ (u ++ v))) (parse τ p f (t ∷ (u ++ v))) e i

  all_loop : {A E C : Type 0} (h : List A → Option E → C) (f : Form L R (Step A E)) → Fits τ (Loop h f) → Found f
      → (u v : List L.token) (x : C) → Derives ρ (Loop h f) u x → starts L (go_on τ f ++ begin τ f) v ≡ false → Is B x v (parse τ p (Loop h f) (u ++ v))
  unfolding looped
  all_loop h f (mf, ks, on, dis, n, sub) F u v x (as', e, r, j) l =
      is_map (λ s. h s.0 s.1) (as', e) x v (turns (starts L (begin τ f)) (parse τ p f) (suc (length (u ++ v))) (u ++ v)) j
      (is_turns f ks dis n sub (λ u v a d i. F.only IsMore ks on u v (More a) tt d i) F.all (suc (length (u ++ v))) as' e u v (omega arith) r (starts-left L K (go_on τ f) (begin τ f) v l) (starts-right L K (go_on τ f) (begin τ f) v l))

  -- what is derived is found
  pub found : {C : Type 0} (f : Form L R C) → Fits τ f → Found f
  found (Pure c) m = record { all = λ u v x d l. (d.1, ap (λ z. z ++ v) d.0); only = λ P ks on u v x i d l. (d.1, ap (λ z. z ++ v) d.0) }
  found (Tok ks h) m = record { all = λ u v x d l. is_token ks h u v x d; only = λ P js on u v x i d l. is_token ks h u v x d }
  found (Nt N h) m = record {
    all = λ u v x d l. is_map h d.0 x v (p N (u ++ v)) d.2 (I.complete_in N u v d.0 d.1 l);
    only = λ P ks on u v x i d l. is_map h d.0 x v (p N (u ++ v)) d.2 (I.complete_in N u v d.0 d.1 (starts-within L K (τ.go_on N) ks v on l));
  }
  found (Map h f) m = let F = found f m in record {
    all = λ u v x d l. is_map h d.0 x v (parse τ p f (u ++ v)) d.2 (F.all u v d.0 d.1 l);
    only = λ P ks on u v x i d l. is_map h d.0 x v (parse τ p f (u ++ v)) d.2 (F.only (λ a. P (h a)) ks on u v d.0 (subst P (sym d.2) i) d.1 l);
  }
  found (Seq h f g) m = let F = found f m.0 in let G = found g m.1 in record { all = all_seq h f g m.2 F G; only = only_seq h f g m.2 F G }
  found (Split q h f g k) m = let F = found f m.0 in let G = found g m.1 in let H = found k m.2 in record { all = all_split q h f g k m.3 F G H; only = only_split q h f g k m.3 F G H }
  found (Alt f g) m = let F = found f m.0 in let G = found g m.1 in record { all = all_alt f g m.2 m.3 F G; only = only_alt f g m.2 m.3 F G }
  found (Loop h f) m = let F = found f m.0 in record {
    all = all_loop h f m F;
    only = λ P ks on u v x i d l. all_loop h f m F u v x d (starts-within L K (go_on τ f ++ begin τ f) ks v on l);
  }
  found (Unless ks f) m = let F = found f m.0 in record {
    all = λ u v x d l. unless_is ks f u v x m.1 d (F.all u v x d.1 l);
    only = λ P js on u v x i d l. unless_is ks f u v x m.1 d (F.only P js on u v x i d.1 l);
  }

  -- what is derived is found, behind which nothing goes on
  pub complete : {C : Type 0} (f : Form L R C) → Fits τ f → (u v : List L.token) (x : C) → Derives ρ f u x → starts L (go_on τ f) v ≡ false → Is B x v (parse τ p f (u ++ v))
  complete f m u v x d l = (found f m).all u v x d l

  -- ---- what is begun is read to its end

  -- any rule may give anything: only where an answer stands counts
  abbrev any : Derivings L R
  any N w y = Unit {0}

  -- and may be begun by anything
  abbrev any_begun : Beginnings L R
  any_begun N w = Unit {0}

  -- so what is read of a form stands in the tokens that it is read from
  abbrev here : {C : Type 0} (f : Form L R C) (w : List L.token) → Sound (Derives any f) (Begun any any_begun f) w (parse τ p f w)
  here f w = sound L R τ any any_begun p (λ N. tt) I.later_in f w

  spent_sound : {A : Type 0} (M : Language L.token A) (J : List L.token → Type 0) (z : List L.token) (r : Res L.token A) → Sound M J z r → Spent z r
  spent_sound M J z (Done x q) (u, e, d) = (u, e)
  spent_sound M J z (Stop q) (u, e, d) = (u, e)
  spent_sound M J z Deep s = tt

  -- a form that begins at z
  spent_here : {C : Type 0} (f : Form L R C) (z : List L.token) → Spent z (parse τ p f z)
  spent_here f z = spent_sound (Derives any f) (Begun any any_begun f) z (parse τ p f z) (here f z)

  spent_later : {A : Type 0} (t q z : List L.token) (r : Res L.token A) → z ≡ t ++ q → Spent q r → Spent z r
  spent_later t q z (Done x s) e (u, i) = (t ++ u, e ∙ ap (λ y. t ++ y) i ∙ sym (append_assoc t u s))
  spent_later t q z (Stop s) e (u, i) = (t ++ u, e ∙ ap (λ y. t ++ y) i ∙ sym (append_assoc t u s))
  spent_later t q z Deep e s = tt

  spent_map : {A C : Type 0} (h : A → C) (z : List L.token) (r : Res L.token A) → Spent z r → Spent z (and_then r (λ a q. Done (h a) q))
  spent_map h z (Done a q) s = s
  spent_map h z (Stop q) s = s
  spent_map h z Deep s = tt

  spent_then : {A C : Type 0} (z : List L.token) (r : Res L.token A) (k : A → List L.token → Res L.token C) → ((a : A) (q : List L.token) → Spent q (k a q)) → Spent z r → Spent z (and_then r k)
  spent_then z (Done a q) k h (t, e) = spent_later t q z (k a q) e (h a q)
  spent_then z (Stop q) k h s = s
  spent_then z Deep k h s = tt

  -- behind a part that was found
  spent_is : {A C : Type 0} (a : A) (v z : List L.token) (r : Res L.token A) (k : A → List L.token → Res L.token C) → Is B a v r → Spent z (k a v) → Spent z (and_then r k)
  spent_is a v z (Done b s) k (i, j) h = subst (λ y. Spent z (k y s)) (sym i) (subst (λ x. Spent z (k a x)) (sym j) h)
  spent_is a v z (Stop s) k i h = absurd i
  spent_is a v z Deep k i h = tt

  spent_taken : {C : Type 0} (b : Bool) (z : List L.token) (r s : Res L.token C) → b ≡ true → Spent z r → Spent z (cond b r s)
  spent_taken b z r s e i = subst (λ c. Spent z (cond c r s)) (sym e) i

  spent_passed : {C : Type 0} (b : Bool) (z : List L.token) (r s : Res L.token C) → b ≡ false → Spent z s → Spent z (cond b r s)
  spent_passed b z r s e i = subst (λ c. Spent z (cond c r s)) (sym e) i

  spent_cond : {C : Type 0} (b : Bool) (z : List L.token) (r s : Res L.token C) → Spent z r → Spent z s → Spent z (cond b r s)
  spent_cond true z r s i j = i
  spent_cond false z r s i j = j

  spent_token : {C : Type 0} (ks : List L.kind) (h : L.token → C) (t : L.token) (z : List L.token) → has L ks (L.kind_of t) ≡ true → Spent z (giving h (token_of L ks (t ∷ z)))
  spent_token ks h t z i = subst (λ b. Spent z (giving h (cond b (Done t z) (Stop (t ∷ z))))) (sym i) ([], refl)

  spent_again : {A E : Type 0} (f : Form L R (Step A E)) (n : ℕ) (s : Step A E) (q : List L.token) → Spent q (turn (turns (starts L (begin τ f)) (parse τ p f) n) s q)
  spent_again {A} {E} f n (More a) q =
      spent_map (λ s. (a ∷ s.0, s.1)) q (turns (starts L (begin τ f)) (parse τ p f) n q)
      (spent_sound _ _ q (turns (starts L (begin τ f)) (parse τ p f) n q) (sound_turns L R τ any any_begun p (λ N. tt) I.later_in f (starts L (begin τ f)) n q (here f)))
  spent_again f n (Last x) q = ([], refl)

  -- a last turn, which may be unfinished
  spent_turn : {A E : Type 0} (f : Form L R (Step A E)) (n : ℕ) (v z : List L.token)
      → ((w z : List L.token) → Begun ρ β f w → Spent z (parse τ p f (w ++ z)))
      → Begun ρ β f v → Spent z (turns (starts L (begin τ f)) (parse τ p f) n (v ++ z))
  spent_turn f zero v z ih b = tt
  spent_turn f (suc n) [] z ih b = spent_sound _ _ z (turns (starts L (begin τ f)) (parse τ p f) (suc n) z) (sound_turns L R τ any any_begun p (λ N. tt) I.later_in f (starts L (begin τ f)) (suc n) z (here f))
  spent_turn f (suc n) (t ∷ v) z ih b =
      spent_taken (has L (begin τ f) (L.kind_of t)) z (and_then (parse τ p f (t ∷ (v ++ z))) (turn (turns (starts L (begin τ f)) (parse τ p f) n))) (Done ([], None) (t ∷ (v ++ z)))
      (begins f t v b)
      (spent_then z (parse τ p f (t ∷ (v ++ z))) (turn (turns (starts L (begin τ f)) (parse τ p f) n)) (spent_again f n) (ih (t ∷ v) z b))

  spent_item : {A E : Type 0} (f : Form L R (Step A E)) (ks : List L.kind) → empty τ f ≡ false
      → ((u v : List L.token) (a : A) → Derives ρ f u (More a) → starts L ks v ≡ false → Is B (More a) v (parse τ p f (u ++ v)))
      → (n : ℕ) (x q z : List L.token) (a : A) → Derives ρ f x (More a) → starts L ks (q ++ z) ≡ false
      → Spent z (turns (starts L (begin τ f)) (parse τ p f) n (q ++ z))
      → Spent z (turns (starts L (begin τ f)) (parse τ p f) (suc n) ((x ++ q) ++ z))
  spent_item {A} {E} f ks m done n x q z a j l again =
      subst (λ y. Spent z (turns (starts L (begin τ f)) (parse τ p f) (suc n) y)) (sym (append_assoc x q z))
      (spent_taken (starts L (begin τ f) (x ++ (q ++ z))) z (and_then (parse τ p f (x ++ (q ++ z))) (turn (turns (starts L (begin τ f)) (parse τ p f) n))) (Done ([], None) (x ++ (q ++ z)))
      (item_begins f x (q ++ z) (More a) m j)
      (spent_is (More a) (q ++ z) z (parse τ p f (x ++ (q ++ z))) (turn (turns (starts L (begin τ f)) (parse τ p f) n)) (done x (q ++ z) a j l)
      (spent_map (λ s. (a ∷ s.0, s.1)) z (turns (starts L (begin τ f)) (parse τ p f) n (q ++ z)) again)))

  spent_first : {A D C : Type 0} (h : A → D → C) (f : Form L R A) (g : Form L R D) (w z : List L.token) → Spent z (parse τ p f w) → Spent z (parse τ p (Seq h f g) w)
  spent_first h f g w z s = spent_then z (parse τ p f w) (λ a r. and_then (parse τ p g r) (λ b q. Done (h a b) q)) (λ a q. spent_map (h a) q (parse τ p g q) (spent_here g q)) s

  spent_first_split : {A D C : Type 0} (c : A → Bool) (h : A → D → C) (f : Form L R A) (g k : Form L R D) (w z : List L.token) → Spent z (parse τ p f w) → Spent z (parse τ p (Split c h f g k) w)
  spent_first_split c h f g k w z s =
      spent_then z (parse τ p f w) (λ a r. and_then (cond (c a) (parse τ p g r) (parse τ p k r)) (λ b q. Done (h a b) q))
      (λ a q. spent_map (h a) q (cond (c a) (parse τ p g q) (parse τ p k q)) (spent_cond (c a) q (parse τ p g q) (parse τ p k q) (spent_here g q) (spent_here k q))) s

  spent_turns : {A E : Type 0} (f : Form L R (Step A E)) (ks : List L.kind) → disjoint L ks (begin τ f) ≡ true → empty τ f ≡ false
      → ((u v : List L.token) (a : A) → Derives ρ f u (More a) → starts L ks v ≡ false → Is B (More a) v (parse τ p f (u ++ v)))
      → ((w z : List L.token) → Begun ρ β f w → Spent z (parse τ p f (w ++ z)))
      → (n : ℕ) (as' : List A) (w u v z : List L.token) → w ≡ u ++ v → Turns (Derives ρ f) as' None u → Begun ρ β f v
      → Spent z (turns (starts L (begin τ f)) (parse τ p f) n (w ++ z))
  spent_turns f ks d m done ih zero as' w u v z e r b = tt
  spent_turns f ks d m done ih (suc n) [] w u v z e r b =
      subst (λ y. Spent z (turns (starts L (begin τ f)) (parse τ p f) (suc n) (y ++ z))) (sym (e ∙ ap (λ y. y ++ v) r)) (spent_turn f (suc n) v z ih b)
  spent_turns f ks d m done ih (suc n) (a ∷ as') w u [] z e (x, [], i, j, r) b =
      subst (λ q. Spent z (turns (starts L (begin τ f)) (parse τ p f) (suc n) (q ++ z))) (sym (e ∙ append-nil u ∙ i ∙ append-nil x))
      (spent_turn f (suc n) x z ih (begun_by L R ρ β I.none I.begun_in f x (More a) j))
  spent_turns f ks d m done ih (suc n) (a ∷ as') w u (t ∷ v) z e (x, [], i, j, r) b =
      subst (λ q. Spent z (turns (starts L (begin τ f)) (parse τ p f) (suc n) (q ++ z))) (sym (e ∙ ap (λ q. q ++ (t ∷ v)) (i ∙ append-nil x)))
      (spent_item f ks m done n x (t ∷ v) z a j (apart L K ks (begin τ f) (L.kind_of t) d (begins f t v b))
      (spent_turns f ks d m done ih n as' (t ∷ v) [] (t ∷ v) z refl r b))
  spent_turns f ks d m done ih (suc n) (a ∷ as') w u v z e (x, (t ∷ y), i, j, r) b =
      subst (λ q. Spent z (turns (starts L (begin τ f)) (parse τ p f) (suc n) (q ++ z))) (sym (e ∙ ap (λ q. q ++ v) i ∙ append_assoc x (t ∷ y) v))
      (spent_item f ks m done n x ((t ∷ y) ++ v) z a j (apart L K ks (begin τ f) (L.kind_of t) d (turns_begin f as' None t y r))
      (spent_turns f ks d m done ih n as' ((t ∷ y) ++ v) (t ∷ y) v z refl r b))

  -- a parser never answers within what begins its form
  pub spent : {C : Type 0} (f : Form L R C) → Fits τ f → (w z : List L.token) → Begun ρ β f w → Spent z (parse τ p f (w ++ z))
  unfolding looped
  spent (Pure c) m w z b = ([], sym (ap (λ x. x ++ z) b))
  spent (Tok ks h) m w z (inl e) = subst (λ x. Spent z (giving h (token_of L ks (x ++ z)))) (sym e) (spent_here (Tok ks h) z)
  spent (Tok ks h) m w z (inr (t, e, i)) = subst (λ x. Spent z (giving h (token_of L ks (x ++ z)))) (sym e) (spent_token ks h t z (ap (starts L ks) (sym e) ∙ i))
  spent (Nt N h) m w z b = spent_map h z (p N (w ++ z)) (I.spent_in N w z b)
  spent (Map h f) m w z b = spent_map h z (parse τ p f (w ++ z)) (spent f m w z b)
  spent (Seq h f g) m w z (inl b) = spent_first h f g (w ++ z) z (spent f m.0 w z b)
  spent (Seq h f g) m w z (inr (u, [], a, e, d, b)) =
      spent_first h f g (w ++ z) z (spent f m.0 w z (subst (Begun ρ β f) (sym (e ∙ append-nil u)) (begun_by L R ρ β I.none I.begun_in f u a d)))
  spent (Seq h f g) m w z (inr (u, (t ∷ v), a, e, d, b)) =
      spent_is a ((t ∷ v) ++ z) z (parse τ p f (w ++ z)) (λ a r. and_then (parse τ p g r) (λ b q. Done (h a b) q))
      (subst (λ x. Is B a ((t ∷ v) ++ z) (parse τ p f x)) (sym (ap (λ x. x ++ z) e ∙ append_assoc u (t ∷ v) z))
      (complete f m.0 u ((t ∷ v) ++ z) a d (apart L K (go_on τ f) (begin τ g) (L.kind_of t) m.2 (begins g t v b))))
      (spent_map (h a) z (parse τ p g ((t ∷ v) ++ z)) (spent g m.1 (t ∷ v) z b))
  spent (Split c h f g k) m w z (inl b) = spent_first_split c h f g k (w ++ z) z (spent f m.0 w z b)
  spent (Split c h f g k) m w z (inr (u, [], a, e, d, b)) =
      spent_first_split c h f g k (w ++ z) z (spent f m.0 w z (subst (Begun ρ β f) (sym (e ∙ append-nil u)) (begun_by L R ρ β I.none I.begun_in f u a d)))
  spent (Split c h f g k) m w z (inr (u, (t ∷ v), a, e, d, b)) =
      spent_is a ((t ∷ v) ++ z) z (parse τ p f (w ++ z)) (λ a r. and_then (cond (c a) (parse τ p g r) (parse τ p k r)) (λ b q. Done (h a b) q))
      (subst (λ x. Is B a ((t ∷ v) ++ z) (parse τ p f x)) (sym (ap (λ x. x ++ z) e ∙ append_assoc u (t ∷ v) z))
      (complete f m.0 u ((t ∷ v) ++ z) a d (apart L K (go_on τ f) (begin τ g ++ begin τ k) (L.kind_of t) m.3 (begins_where (c a) g k t v (begins g t v) (begins k t v) b))))
      (spent_map (h a) z (cond (c a) (parse τ p g ((t ∷ v) ++ z)) (parse τ p k ((t ∷ v) ++ z)))
      (either (c a)
      (λ i b. spent_taken (c a) z (parse τ p g ((t ∷ v) ++ z)) (parse τ p k ((t ∷ v) ++ z)) i (spent g m.1 (t ∷ v) z b))
      (λ i b. spent_passed (c a) z (parse τ p g ((t ∷ v) ++ z)) (parse τ p k ((t ∷ v) ++ z)) i (spent k m.2 (t ∷ v) z b)) b))
  spent (Alt f g) m [] z b = spent_here (Alt f g) z
  spent (Alt f g) m (t ∷ w) z (inl b) = spent_taken (has L (begin τ f) (L.kind_of t)) z (parse τ p f (t ∷ (w ++ z))) (parse τ p g (t ∷ (w ++ z))) (begins f t w b) (spent f m.0 (t ∷ w) z b)
  spent (Alt f g) m (t ∷ w) z (inr b) = spent_passed (has L (begin τ f) (L.kind_of t)) z (parse τ p f (t ∷ (w ++ z))) (parse τ p g (t ∷ (w ++ z))) (apart L K (begin τ f) (begin τ g) (L.kind_of t) m.2 (begins g t w b)) (spent g m.1 (t ∷ w) z b)
  spent (Loop h f) m w z (inl e) = subst (λ x. Spent z (parse τ p (Loop h f) (x ++ z))) (sym e) (spent_here (Loop h f) z)
  spent (Loop h f) m w z (inr (u, v, as', e, r, b)) =
      spent_map (λ s. h s.0 s.1) z (turns (starts L (begin τ f)) (parse τ p f) (suc (length (w ++ z))) (w ++ z))
      (spent_turns f m.1 m.3 m.4 (λ u v a d i. (found f m.0).only IsMore m.1 m.2 u v (More a) tt d i) (spent f m.0) (suc (length (w ++ z))) as' w u v z e r b)
  spent (Unless ks f) m [] z b = spent_here (Unless ks f) z
  spent (Unless ks f) m (t ∷ w) z b = spent_passed (has L ks (L.kind_of t)) z (Stop (t ∷ (w ++ z))) (parse τ p f (t ∷ (w ++ z))) b.0 (spent f m.0 (t ∷ w) z b.1)
