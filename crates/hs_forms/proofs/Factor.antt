-- Two forms that differ in how their alternatives and sequences are factored derive the same.
use Rattle.std.proofs.Common.{◌≡◌, ℕ, zero, suc, List, [], ◌∷◌, ◌++◌, ◌⊎◌, inl, inr, refl, sym, ap, ◌∙◌, subst, append_assoc, append-nil}
use Rattle.hs_grammar.specs.Form.{Lexis, Rules, Form, Pure, Tok, Nt, Map, Seq, Split, Alt, Loop, Unless}
use Rattle.hs_grammar.specs.Derives.{Derivings, Beginnings, Derives, Begun}
use Rattle.hs_grammar.specs.Same.{Same, Sane}
use Rattle.hs_grammar.proofs.Exact.{begun_nothing, begun_by}

-- forms one behind the other, and what their values make; G is the type of what was read before
pub data Chain (L : Lexis) (R : Rules) (C : Type 0) : Type 0 → Type 1 where
  End : {G : Type 0} → (G → C) → Chain L R C G
  Then : {G A : Type 0} → Form L R A → Chain L R C (G × A) → Chain L R C G

-- one chain or more, of which one is read
pub data Chains (L : Lexis) (R : Rules) (C G : Type 0) : Type 1 where
  One : Chain L R C G → Chains L R C G
  Or : Chain L R C G → Chains L R C G → Chains L R C G

-- two values as one
abbrev pub onto : {G A B D : Type 0} → (A → B → D) → (G × A) × B → G × D
onto h p = (p.0.0, h p.0.1 p.1)

module _ (L : Lexis) (R : Rules) (C : Type 0) where
  -- a chain behind something else
  abbrev pub along : {G H : Type 0} → (G → H) → Chain L R C H → Chain L R C G
  along h (End f) = End (λ g. f (h g))
  along h (Then {G} {A} f c) = Then f (along (λ p. (h p.0, p.1)) c)

  abbrev pub each_along : {G H : Type 0} → (G → H) → Chains L R C H → Chains L R C G
  each_along h (One c) = One (along h c)
  each_along h (Or c cs) = Or (along h c) (each_along h cs)

  -- a form before each chain
  abbrev pub before : {G A : Type 0} → Form L R A → Chains L R C (G × A) → Chains L R C G
  before f (One c) = One (Then f c)
  before f (Or c cs) = Or (Then f c) (before f cs)

  abbrev pub both : {G : Type 0} → Chains L R C G → Chains L R C G → Chains L R C G
  both (One c) ds = Or c ds
  both (Or c cs) ds = Or c (both cs ds)

  -- the chains of a form, with others behind
  abbrev pub flat : {A : Type 0} → Form L R A → {G : Type 0} → Chains L R C (G × A) → Chains L R C G
  flat (Pure c) k = each_along (λ g. (g, c)) k
  flat (Tok ks h) k = before (Tok ks (λ t. t)) (each_along (λ p. (p.0, h p.1)) k)
  flat (Nt N h) k = before (Nt N (λ y. y)) (each_along (λ p. (p.0, h p.1)) k)
  flat (Map h f) k = flat f (each_along (λ p. (p.0, h p.1)) k)
  flat (Seq h f g) k = flat f (flat g (each_along (onto h) k))
  flat (Split q h f g l) k = before (Split q h f g l) k
  flat (Alt f g) k = both (flat f k) (flat g k)
  flat (Loop h f) k = before (Loop h f) k
  flat (Unless ks f) k = before (Unless ks f) k

  -- the chain at a place, and the last where there is none
  abbrev pub nth : {G : Type 0} → ℕ → Chains L R C G → Chain L R C G
  nth n (One c) = c
  nth zero (Or c cs) = c
  nth (suc n) (Or c cs) = nth n cs

  -- the chains at these places
  abbrev pub pick : {G : Type 0} → List ℕ → Chains L R C G → Chains L R C G
  pick [] cs = One (nth 0 cs)
  pick (n ∷ []) cs = One (nth n cs)
  pick (n ∷ (m ∷ ns)) cs = Or (nth n cs) (pick (m ∷ ns) cs)

-- the chains of a form
abbrev pub chains : {L : Lexis} {R : Rules} {C : Type 0} → Form L R C → Chains L R C (Unit {0})
chains {L} {R} {C} f = flat L R C f (One (End (λ p. p.1)))

module _ (L : Lexis) (R : Rules) (ρ : Derivings L R) (β : Beginnings L R) (s : Sane L R ρ β) (C : Type 0) where
  -- the chain derives the tokens
  abbrev Chained : {G : Type 0} → Chain L R C G → G → List L.token → C → Type 0
  Chained (End f) g w x = (w ≡ []) × (f g ≡ x)
  Chained (Then {G} {A} f c) g w x = (u v : List L.token) × (a : A) × (w ≡ u ++ v) × Derives ρ f u a × Chained c (g, a) v x

  -- the chain is begun by the tokens
  abbrev Begins : {G : Type 0} → Chain L R C G → G → List L.token → Type 0
  Begins (End f) g w = w ≡ []
  Begins (Then {G} {A} f c) g w = Begun ρ β f w ⊎ ((u v : List L.token) × (a : A) × (w ≡ u ++ v) × Derives ρ f u a × Begins c (g, a) v)

  abbrev Any : {G : Type 0} → Chains L R C G → G → List L.token → C → Type 0
  Any (One c) g w x = Chained c g w x
  Any (Or c cs) g w x = Chained c g w x ⊎ Any cs g w x

  abbrev AnyBegins : {G : Type 0} → Chains L R C G → G → List L.token → Type 0
  AnyBegins (One c) g w = Begins c g w
  AnyBegins (Or c cs) g w = Begins c g w ⊎ AnyBegins cs g w

  -- ---- behind something else

  along_to : {G H : Type 0} (h : G → H) (c : Chain L R C H) (g : G) (w : List L.token) (x : C) → Chained c (h g) w x → Chained (along L R C h c) g w x
  along_to h (End f) g w x d = d
  along_to h (Then {G} {A} f c) g w x (u, v, a, e, d, i) = (u, v, a, e, d, along_to (λ p. (h p.0, p.1)) c (g, a) v x i)

  along_from : {G H : Type 0} (h : G → H) (c : Chain L R C H) (g : G) (w : List L.token) (x : C) → Chained (along L R C h c) g w x → Chained c (h g) w x
  along_from h (End f) g w x d = d
  along_from h (Then {G} {A} f c) g w x (u, v, a, e, d, i) = (u, v, a, e, d, along_from (λ p. (h p.0, p.1)) c (g, a) v x i)

  along_begins : {G H : Type 0} (h : G → H) (c : Chain L R C H) (g : G) (w : List L.token) → Begins c (h g) w → Begins (along L R C h c) g w
  along_begins h (End f) g w b = b
  along_begins h (Then {G} {A} f c) g w (inl b) = inl b
  along_begins h (Then {G} {A} f c) g w (inr (u, v, a, e, d, b)) = inr (u, v, a, e, d, along_begins (λ p. (h p.0, p.1)) c (g, a) v b)

  begins_along : {G H : Type 0} (h : G → H) (c : Chain L R C H) (g : G) (w : List L.token) → Begins (along L R C h c) g w → Begins c (h g) w
  begins_along h (End f) g w b = b
  begins_along h (Then {G} {A} f c) g w (inl b) = inl b
  begins_along h (Then {G} {A} f c) g w (inr (u, v, a, e, d, b)) = inr (u, v, a, e, d, begins_along (λ p. (h p.0, p.1)) c (g, a) v b)

  each_to : {G H : Type 0} (h : G → H) (k : Chains L R C H) (g : G) (w : List L.token) (x : C) → Any k (h g) w x → Any (each_along L R C h k) g w x
  each_to h (One c) g w x d = along_to h c g w x d
  each_to h (Or c cs) g w x (inl d) = inl (along_to h c g w x d)
  each_to h (Or c cs) g w x (inr d) = inr (each_to h cs g w x d)

  each_from : {G H : Type 0} (h : G → H) (k : Chains L R C H) (g : G) (w : List L.token) (x : C) → Any (each_along L R C h k) g w x → Any k (h g) w x
  each_from h (One c) g w x d = along_from h c g w x d
  each_from h (Or c cs) g w x (inl d) = inl (along_from h c g w x d)
  each_from h (Or c cs) g w x (inr d) = inr (each_from h cs g w x d)

  each_begins : {G H : Type 0} (h : G → H) (k : Chains L R C H) (g : G) (w : List L.token) → AnyBegins k (h g) w → AnyBegins (each_along L R C h k) g w
  each_begins h (One c) g w b = along_begins h c g w b
  each_begins h (Or c cs) g w (inl b) = inl (along_begins h c g w b)
  each_begins h (Or c cs) g w (inr b) = inr (each_begins h cs g w b)

  begins_each : {G H : Type 0} (h : G → H) (k : Chains L R C H) (g : G) (w : List L.token) → AnyBegins (each_along L R C h k) g w → AnyBegins k (h g) w
  begins_each h (One c) g w b = begins_along h c g w b
  begins_each h (Or c cs) g w (inl b) = inl (begins_along h c g w b)
  begins_each h (Or c cs) g w (inr b) = inr (begins_each h cs g w b)

  -- ---- a form before each

  -- the form, and one of the chains behind it
  abbrev Ahead : {G A : Type 0} → Form L R A → Chains L R C (G × A) → G → List L.token → C → Type 0
  Ahead {G} {A} f k g w x = (u v : List L.token) × (a : A) × (w ≡ u ++ v) × Derives ρ f u a × Any k (g, a) v x

  abbrev AheadBegins : {G A : Type 0} → Form L R A → Chains L R C (G × A) → G → List L.token → Type 0
  AheadBegins {G} {A} f k g w = Begun ρ β f w ⊎ ((u v : List L.token) × (a : A) × (w ≡ u ++ v) × Derives ρ f u a × AnyBegins k (g, a) v)

  before_to : {G A : Type 0} (f : Form L R A) (k : Chains L R C (G × A)) (g : G) (w : List L.token) (x : C) → Ahead f k g w x → Any (before L R C f k) g w x
  before_to f (One c) g w x d = d
  before_to f (Or c cs) g w x (u, v, a, e, d, inl i) = inl (u, v, a, e, d, i)
  before_to f (Or c cs) g w x (u, v, a, e, d, inr i) = inr (before_to f cs g w x (u, v, a, e, d, i))

  before_from : {G A : Type 0} (f : Form L R A) (k : Chains L R C (G × A)) (g : G) (w : List L.token) (x : C) → Any (before L R C f k) g w x → Ahead f k g w x
  before_from f (One c) g w x d = d
  before_from f (Or c cs) g w x (inl (u, v, a, e, d, i)) = (u, v, a, e, d, inl i)
  before_from f (Or c cs) g w x (inr r) = let i : Ahead f cs g w x = before_from f cs g w x r in (i.0, i.1, i.2, i.3, i.4, inr i.5)

  before_begins : {G A : Type 0} (f : Form L R A) (k : Chains L R C (G × A)) (g : G) (w : List L.token) → AheadBegins f k g w → AnyBegins (before L R C f k) g w
  before_begins f (One c) g w b = b
  before_begins f (Or c cs) g w (inl b) = inl (inl b)
  before_begins f (Or c cs) g w (inr (u, v, a, e, d, inl b)) = inl (inr (u, v, a, e, d, b))
  before_begins f (Or c cs) g w (inr (u, v, a, e, d, inr b)) = inr (before_begins f cs g w (inr (u, v, a, e, d, b)))

  begins_before : {G A : Type 0} (f : Form L R A) (k : Chains L R C (G × A)) (g : G) (w : List L.token) → AnyBegins (before L R C f k) g w → AheadBegins f k g w
  begins_before f (One c) g w b = b
  begins_before f (Or c cs) g w (inl (inl b)) = inl b
  begins_before f (Or c cs) g w (inl (inr (u, v, a, e, d, b))) = inr (u, v, a, e, d, inl b)
  begins_before f (Or c cs) g w (inr r) = elim (begins_before f cs g w r) [ inl b ↦ inl b | inr (u, v, a, e, d, b) ↦ inr (u, v, a, e, d, inr b) ]

  both_left : {G : Type 0} (k l : Chains L R C G) (g : G) (w : List L.token) (x : C) → Any k g w x → Any (both L R C k l) g w x
  both_left (One c) l g w x d = inl d
  both_left (Or c cs) l g w x (inl d) = inl d
  both_left (Or c cs) l g w x (inr d) = inr (both_left cs l g w x d)

  both_right : {G : Type 0} (k l : Chains L R C G) (g : G) (w : List L.token) (x : C) → Any l g w x → Any (both L R C k l) g w x
  both_right (One c) l g w x d = inr d
  both_right (Or c cs) l g w x d = inr (both_right cs l g w x d)

  both_from : {G : Type 0} (k l : Chains L R C G) (g : G) (w : List L.token) (x : C) → Any (both L R C k l) g w x → Any k g w x ⊎ Any l g w x
  both_from (One c) l g w x d = d
  both_from (Or c cs) l g w x (inl d) = inl (inl d)
  both_from (Or c cs) l g w x (inr d) = elim (both_from cs l g w x d) [ inl i ↦ inl (inr i) | inr i ↦ inr i ]

  begins_left : {G : Type 0} (k l : Chains L R C G) (g : G) (w : List L.token) → AnyBegins k g w → AnyBegins (both L R C k l) g w
  begins_left (One c) l g w d = inl d
  begins_left (Or c cs) l g w (inl d) = inl d
  begins_left (Or c cs) l g w (inr d) = inr (begins_left cs l g w d)

  begins_right : {G : Type 0} (k l : Chains L R C G) (g : G) (w : List L.token) → AnyBegins l g w → AnyBegins (both L R C k l) g w
  begins_right (One c) l g w d = inr d
  begins_right (Or c cs) l g w d = inr (begins_right cs l g w d)

  begins_both : {G : Type 0} (k l : Chains L R C G) (g : G) (w : List L.token) → AnyBegins (both L R C k l) g w → AnyBegins k g w ⊎ AnyBegins l g w
  begins_both (One c) l g w d = d
  begins_both (Or c cs) l g w (inl d) = inl (inl d)
  begins_both (Or c cs) l g w (inr d) = elim (begins_both cs l g w d) [ inl i ↦ inl (inr i) | inr i ↦ inr i ]

  -- no token begins a chain
  begins_none : {G : Type 0} (k : Chains L R C G) (g : G) → AnyBegins k g []
  begins_none (One (End f)) g = refl
  begins_none (One (Then f c)) g = inl (begun_nothing ρ β s.none f)
  begins_none (Or (End f) cs) g = inl refl
  begins_none (Or (Then f c) cs) g = inl (inl (begun_nothing ρ β s.none f))

  -- ---- the chains of a form

  flat_to : {A : Type 0} (f : Form L R A) {G : Type 0} (k : Chains L R C (G × A)) (g : G) (w : List L.token) (x : C) → Ahead f k g w x → Any (flat L R C f k) g w x
  flat_to (Pure c) k g w x (u, v, a, e, (i, j), d) = each_to (λ g. (g, c)) k g w x
      (subst (λ z. Any k (g, c) z x) (sym (e ∙ ap (λ z. z ++ v) i)) (subst (λ z. Any k (g, z) v x) (sym j) d))
  flat_to (Tok ks h) k g w x (u, v, a, e, (t, i, b, j), d) =
      before_to (Tok ks (λ t. t)) (each_along L R C (λ p. (p.0, h p.1)) k) g w x
      (u, v, t, e, (t, i, b, refl), each_to (λ p. (p.0, h p.1)) k (g, t) v x (subst (λ z. Any k (g, z) v x) (sym j) d))
  flat_to (Nt N h) k g w x (u, v, a, e, (y, i, j), d) =
      before_to (Nt N (λ y. y)) (each_along L R C (λ p. (p.0, h p.1)) k) g w x
      (u, v, y, e, (y, i, refl), each_to (λ p. (p.0, h p.1)) k (g, y) v x (subst (λ z. Any k (g, z) v x) (sym j) d))
  flat_to (Map h f) k g w x (u, v, a, e, (y, i, j), d) =
      flat_to f (each_along L R C (λ p. (p.0, h p.1)) k) g w x
      (u, v, y, e, i, each_to (λ p. (p.0, h p.1)) k (g, y) v x (subst (λ z. Any k (g, z) v x) (sym j) d))
  flat_to (Seq h f l) k g w x (u, v, a, e, (p, q, b, c, i, m, n, j), d) =
      flat_to f (flat L R C l (each_along L R C (onto h) k)) g w x (
        p,
        q ++ v,
        b,
        e ∙ ap (λ z. z ++ v) i ∙ append_assoc p q v,
        m,
        flat_to l (each_along L R C (onto h) k) (g, b) (q ++ v) x
            (q, v, c, refl, n, each_to (onto h) k ((g, b), c) v x (subst (λ z. Any k (g, z) v x) (sym j) d)),
      )
  flat_to (Split q h f l m) k g w x d = before_to (Split q h f l m) k g w x d
  flat_to (Alt f l) k g w x (u, v, a, e, inl i, d) = both_left (flat L R C f k) (flat L R C l k) g w x (flat_to f k g w x (u, v, a, e, i, d))
  flat_to (Alt f l) k g w x (u, v, a, e, inr i, d) = both_right (flat L R C f k) (flat L R C l k) g w x (flat_to l k g w x (u, v, a, e, i, d))
  flat_to (Loop h f) k g w x d = before_to (Loop h f) k g w x d
  flat_to (Unless ks f) k g w x d = before_to (Unless ks f) k g w x d

  flat_from : {A : Type 0} (f : Form L R A) {G : Type 0} (k : Chains L R C (G × A)) (g : G) (w : List L.token) (x : C) → Any (flat L R C f k) g w x → Ahead f k g w x
  flat_from (Pure c) k g w x d = ([], w, c, refl, (refl, refl), each_from (λ g. (g, c)) k g w x d)
  flat_from (Tok ks h) k g w x d = go (before_from (Tok ks (λ t. t)) (each_along L R C (λ p. (p.0, h p.1)) k) g w x d)
    where
      go : Ahead (Tok ks (λ t. t)) (each_along L R C (λ p. (p.0, h p.1)) k) g w x → Ahead (Tok ks h) k g w x
      go (u, v, a, e, (t, i, b, j), d) = (u, v, h a, e, (t, i, b, ap h j), each_from (λ p. (p.0, h p.1)) k (g, a) v x d)
  flat_from (Nt N h) k g w x d = go (before_from (Nt N (λ y. y)) (each_along L R C (λ p. (p.0, h p.1)) k) g w x d)
    where
      go : Ahead (Nt N (λ y. y)) (each_along L R C (λ p. (p.0, h p.1)) k) g w x → Ahead (Nt N h) k g w x
      go (u, v, a, e, (y, i, j), d) = (u, v, h a, e, (y, i, ap h j), each_from (λ p. (p.0, h p.1)) k (g, a) v x d)
  flat_from (Map h f) k g w x d = go (flat_from f (each_along L R C (λ p. (p.0, h p.1)) k) g w x d)
    where
      go : Ahead f (each_along L R C (λ p. (p.0, h p.1)) k) g w x → Ahead (Map h f) k g w x
      go (u, v, a, e, i, d) = (u, v, h a, e, (a, i, refl), each_from (λ p. (p.0, h p.1)) k (g, a) v x d)
  flat_from (Seq {A} h f l) k g w x d =
      two (λ a v d. flat_from l (each_along L R C (onto h) k) (g, a) v x d) (flat_from f (flat L R C l (each_along L R C (onto h) k)) g w x d)
    where
      one : (u v : List L.token) (a : A) → w ≡ u ++ v → Derives ρ f u a → Ahead l (each_along L R C (onto h) k) (g, a) v x → Ahead (Seq h f l) k g w x
      one u v a e i (p, q, b, j, m, d) =
          (u ++ p, q, h a b, e ∙ ap (λ z. u ++ z) j ∙ sym (append_assoc u p q), (u, p, a, b, refl, i, m, refl), each_from (onto h) k ((g, a), b) q x d)

      two : ((a : A) (v : List L.token) → Any (flat L R C l (each_along L R C (onto h) k)) (g, a) v x → Ahead l (each_along L R C (onto h) k) (g, a) v x)
          → Ahead f (flat L R C l (each_along L R C (onto h) k)) g w x → Ahead (Seq h f l) k g w x
      two ih (u, v, a, e, i, d) = one u v a e i (ih a v d)
  flat_from (Split q h f l m) k g w x d = before_from (Split q h f l m) k g w x d
  flat_from (Alt f l) k g w x d = go (flat_from f k g w x) (flat_from l k g w x) (both_from (flat L R C f k) (flat L R C l k) g w x d)
    where
      one : Ahead f k g w x → Ahead (Alt f l) k g w x
      one (u, v, a, e, i, d) = (u, v, a, e, inl i, d)

      two : Ahead l k g w x → Ahead (Alt f l) k g w x
      two (u, v, a, e, i, d) = (u, v, a, e, inr i, d)

      go : (Any (flat L R C f k) g w x → Ahead f k g w x) → (Any (flat L R C l k) g w x → Ahead l k g w x)
          → Any (flat L R C f k) g w x ⊎ Any (flat L R C l k) g w x → Ahead (Alt f l) k g w x
      go i j (inl d) = one (i d)
      go i j (inr d) = two (j d)
  flat_from (Loop h f) k g w x d = before_from (Loop h f) k g w x d
  flat_from (Unless ks f) k g w x d = before_from (Unless ks f) k g w x d

  flat_begins : {A : Type 0} (f : Form L R A) {G : Type 0} (k : Chains L R C (G × A)) (g : G) (w : List L.token) → AheadBegins f k g w → AnyBegins (flat L R C f k) g w
  flat_begins (Pure c) k g w (inl b) = each_begins (λ g. (g, c)) k g w (subst (λ z. AnyBegins k (g, c) z) (sym b) (begins_none k (g, c)))
  flat_begins (Pure c) k g w (inr (u, v, a, e, (i, j), d)) = each_begins (λ g. (g, c)) k g w
      (subst (λ z. AnyBegins k (g, c) z) (sym (e ∙ ap (λ z. z ++ v) i)) (subst (λ z. AnyBegins k (g, z) v) (sym j) d))
  flat_begins (Tok ks h) k g w (inl b) = before_begins (Tok ks (λ t. t)) (each_along L R C (λ p. (p.0, h p.1)) k) g w (inl b)
  flat_begins (Tok ks h) k g w (inr (u, v, a, e, (t, i, b, j), d)) =
      before_begins (Tok ks (λ t. t)) (each_along L R C (λ p. (p.0, h p.1)) k) g w
      (inr (u, v, t, e, (t, i, b, refl), each_begins (λ p. (p.0, h p.1)) k (g, t) v (subst (λ z. AnyBegins k (g, z) v) (sym j) d)))
  flat_begins (Nt N h) k g w (inl b) = before_begins (Nt N (λ y. y)) (each_along L R C (λ p. (p.0, h p.1)) k) g w (inl b)
  flat_begins (Nt N h) k g w (inr (u, v, a, e, (y, i, j), d)) =
      before_begins (Nt N (λ y. y)) (each_along L R C (λ p. (p.0, h p.1)) k) g w
      (inr (u, v, y, e, (y, i, refl), each_begins (λ p. (p.0, h p.1)) k (g, y) v (subst (λ z. AnyBegins k (g, z) v) (sym j) d)))
  flat_begins (Map h f) k g w (inl b) = flat_begins f (each_along L R C (λ p. (p.0, h p.1)) k) g w (inl b)
  flat_begins (Map h f) k g w (inr (u, v, a, e, (y, i, j), d)) =
      flat_begins f (each_along L R C (λ p. (p.0, h p.1)) k) g w
      (inr (u, v, y, e, i, each_begins (λ p. (p.0, h p.1)) k (g, y) v (subst (λ z. AnyBegins k (g, z) v) (sym j) d)))
  flat_begins (Seq h f l) k g w (inl (inl b)) = flat_begins f (flat L R C l (each_along L R C (onto h) k)) g w (inl b)
  flat_begins (Seq h f l) k g w (inl (inr (u, v, a, e, d, b))) =
      flat_begins f (flat L R C l (each_along L R C (onto h) k)) g w
      (inr (u, v, a, e, d, flat_begins l (each_along L R C (onto h) k) (g, a) v (inl b)))
  flat_begins (Seq h f l) k g w (inr (u, v, a, e, (p, q, b, c, i, m, n, j), d)) =
      flat_begins f (flat L R C l (each_along L R C (onto h) k)) g w
      (inr (
        p,
        q ++ v,
        b,
        e ∙ ap (λ z. z ++ v) i ∙ append_assoc p q v,
        m,
        flat_begins l (each_along L R C (onto h) k) (g, b) (q ++ v)
            (inr (q, v, c, refl, n, each_begins (onto h) k ((g, b), c) v (subst (λ z. AnyBegins k (g, z) v) (sym j) d))),
      ))
  flat_begins (Split q h f l m) k g w b = before_begins (Split q h f l m) k g w b
  flat_begins (Alt f l) k g w (inl (inl b)) = begins_left (flat L R C f k) (flat L R C l k) g w (flat_begins f k g w (inl b))
  flat_begins (Alt f l) k g w (inl (inr b)) = begins_right (flat L R C f k) (flat L R C l k) g w (flat_begins l k g w (inl b))
  flat_begins (Alt f l) k g w (inr (u, v, a, e, inl i, d)) = begins_left (flat L R C f k) (flat L R C l k) g w (flat_begins f k g w (inr (u, v, a, e, i, d)))
  flat_begins (Alt f l) k g w (inr (u, v, a, e, inr i, d)) = begins_right (flat L R C f k) (flat L R C l k) g w (flat_begins l k g w (inr (u, v, a, e, i, d)))
  flat_begins (Loop h f) k g w b = before_begins (Loop h f) k g w b
  flat_begins (Unless ks f) k g w b = before_begins (Unless ks f) k g w b

  begins_flat : {A : Type 0} (f : Form L R A) {G : Type 0} (k : Chains L R C (G × A)) (g : G) (w : List L.token) → AnyBegins (flat L R C f k) g w → AheadBegins f k g w
  begins_flat (Pure c) k g w b = inr ([], w, c, refl, (refl, refl), begins_each (λ g. (g, c)) k g w b)
  begins_flat (Tok ks h) k g w b = go (begins_before (Tok ks (λ t. t)) (each_along L R C (λ p. (p.0, h p.1)) k) g w b)
    where
      go : AheadBegins (Tok ks (λ t. t)) (each_along L R C (λ p. (p.0, h p.1)) k) g w → AheadBegins (Tok ks h) k g w
      go (inl b) = inl b
      go (inr (u, v, a, e, (t, i, b, j), d)) = inr (u, v, h a, e, (t, i, b, ap h j), begins_each (λ p. (p.0, h p.1)) k (g, a) v d)
  begins_flat (Nt N h) k g w b = go (begins_before (Nt N (λ y. y)) (each_along L R C (λ p. (p.0, h p.1)) k) g w b)
    where
      go : AheadBegins (Nt N (λ y. y)) (each_along L R C (λ p. (p.0, h p.1)) k) g w → AheadBegins (Nt N h) k g w
      go (inl b) = inl b
      go (inr (u, v, a, e, (y, i, j), d)) = inr (u, v, h a, e, (y, i, ap h j), begins_each (λ p. (p.0, h p.1)) k (g, a) v d)
  begins_flat (Map h f) k g w b = go (begins_flat f (each_along L R C (λ p. (p.0, h p.1)) k) g w b)
    where
      go : AheadBegins f (each_along L R C (λ p. (p.0, h p.1)) k) g w → AheadBegins (Map h f) k g w
      go (inl b) = inl b
      go (inr (u, v, a, e, i, d)) = inr (u, v, h a, e, (a, i, refl), begins_each (λ p. (p.0, h p.1)) k (g, a) v d)
  begins_flat (Seq {A} h f l) k g w b =
      two (λ a v d. begins_flat l (each_along L R C (onto h) k) (g, a) v d) (begins_flat f (flat L R C l (each_along L R C (onto h) k)) g w b)
    where
      one : (u v : List L.token) (a : A) → w ≡ u ++ v → Derives ρ f u a → AheadBegins l (each_along L R C (onto h) k) (g, a) v → AheadBegins (Seq h f l) k g w
      one u v a e i (inl b) = inl (inr (u, v, a, e, i, b))
      one u v a e i (inr (p, q, b, j, m, d)) =
          inr (u ++ p, q, h a b, e ∙ ap (λ z. u ++ z) j ∙ sym (append_assoc u p q), (u, p, a, b, refl, i, m, refl), begins_each (onto h) k ((g, a), b) q d)

      two : ((a : A) (v : List L.token) → AnyBegins (flat L R C l (each_along L R C (onto h) k)) (g, a) v → AheadBegins l (each_along L R C (onto h) k) (g, a) v)
          → AheadBegins f (flat L R C l (each_along L R C (onto h) k)) g w → AheadBegins (Seq h f l) k g w
      two ih (inl b) = inl (inl b)
      two ih (inr (u, v, a, e, i, d)) = one u v a e i (ih a v d)
  begins_flat (Split q h f l m) k g w b = begins_before (Split q h f l m) k g w b
  begins_flat (Alt f l) k g w b = go (begins_flat f k g w) (begins_flat l k g w) (begins_both (flat L R C f k) (flat L R C l k) g w b)
    where
      one : AheadBegins f k g w → AheadBegins (Alt f l) k g w
      one (inl b) = inl (inl b)
      one (inr (u, v, a, e, i, d)) = inr (u, v, a, e, inl i, d)

      two : AheadBegins l k g w → AheadBegins (Alt f l) k g w
      two (inl b) = inl (inr b)
      two (inr (u, v, a, e, i, d)) = inr (u, v, a, e, inr i, d)

      go : (AnyBegins (flat L R C f k) g w → AheadBegins f k g w) → (AnyBegins (flat L R C l k) g w → AheadBegins l k g w)
          → AnyBegins (flat L R C f k) g w ⊎ AnyBegins (flat L R C l k) g w → AheadBegins (Alt f l) k g w
      go i j (inl b) = one (i b)
      go i j (inr b) = two (j b)
  begins_flat (Loop h f) k g w b = begins_before (Loop h f) k g w b
  begins_flat (Unless ks f) k g w b = begins_before (Unless ks f) k g w b

  -- ---- the same chains

  nth_to : {G : Type 0} (n : ℕ) (k : Chains L R C G) (g : G) (w : List L.token) (x : C) → Chained (nth L R C n k) g w x → Any k g w x
  nth_to n (One c) g w x d = d
  nth_to zero (Or c cs) g w x d = inl d
  nth_to (suc n) (Or c cs) g w x d = inr (nth_to n cs g w x d)

  nth_begins : {G : Type 0} (n : ℕ) (k : Chains L R C G) (g : G) (w : List L.token) → Begins (nth L R C n k) g w → AnyBegins k g w
  nth_begins n (One c) g w d = d
  nth_begins zero (Or c cs) g w d = inl d
  nth_begins (suc n) (Or c cs) g w d = inr (nth_begins n cs g w d)

  pick_to : {G : Type 0} (ns : List ℕ) (k : Chains L R C G) (g : G) (w : List L.token) (x : C) → Any (pick L R C ns k) g w x → Any k g w x
  pick_to [] k g w x d = nth_to 0 k g w x d
  pick_to (n ∷ []) k g w x d = nth_to n k g w x d
  pick_to (n ∷ (m ∷ ns)) k g w x (inl d) = nth_to n k g w x d
  pick_to (n ∷ (m ∷ ns)) k g w x (inr d) = pick_to (m ∷ ns) k g w x d

  pick_begins : {G : Type 0} (ns : List ℕ) (k : Chains L R C G) (g : G) (w : List L.token) → AnyBegins (pick L R C ns k) g w → AnyBegins k g w
  pick_begins [] k g w d = nth_begins 0 k g w d
  pick_begins (n ∷ []) k g w d = nth_begins n k g w d
  pick_begins (n ∷ (m ∷ ns)) k g w (inl d) = nth_begins n k g w d
  pick_begins (n ∷ (m ∷ ns)) k g w (inr d) = pick_begins (m ∷ ns) k g w d

  over : Chains L R C (Unit {0} × C)
  over = One (End (λ p. p.1))

  derives_over : (f : Form L R C) (w : List L.token) (x : C) → Any (chains f) tt w x → Derives ρ f w x
  unfolding over
  derives_over f w x d = go (flat_from f over tt w x d)
    where
      go : Ahead f over tt w x → Derives ρ f w x
      go (u, v, a, e, d, (i, j)) = subst (Derives ρ f w) j (subst (λ z. Derives ρ f z a) (sym (e ∙ ap (λ z. u ++ z) i ∙ append-nil u)) d)

  over_derives : (f : Form L R C) (w : List L.token) (x : C) → Derives ρ f w x → Any (chains f) tt w x
  unfolding over
  over_derives f w x d = flat_to f over tt w x (w, [], x, sym (append-nil w), d, (refl, refl))

  begun_over : (f : Form L R C) (w : List L.token) → AnyBegins (chains f) tt w → Begun ρ β f w
  unfolding over
  begun_over f w b = go (begins_flat f over tt w b)
    where
      go : AheadBegins f over tt w → Begun ρ β f w
      go (inl b) = b
      go (inr (u, v, a, e, d, i)) = subst (Begun ρ β f) (sym (e ∙ ap (λ z. u ++ z) i ∙ append-nil u)) (begun_by L R ρ β s.none s.begun f u a d)

  over_begun : (f : Form L R C) (w : List L.token) → Begun ρ β f w → AnyBegins (chains f) tt w
  unfolding over
  over_begun f w b = flat_begins f over tt w (inl b)

  -- two forms whose chains are the same but for their order are the same
  pub same_by : (f g : Form L R C) (is js : List ℕ) → pick L R C is (chains g) ≡ chains f → pick L R C js (chains f) ≡ chains g → Same ρ β f g
  same_by f g is js i j = record {
    to = λ w x d. derives_over g w x (pick_to is (chains g) tt w x (subst (λ k. Any k tt w x) (sym i) (over_derives f w x d)));
    from = λ w x d. derives_over f w x (pick_to js (chains f) tt w x (subst (λ k. Any k tt w x) (sym j) (over_derives g w x d)));
    begun_to = λ w b. begun_over g w (pick_begins is (chains g) tt w (subst (λ k. AnyBegins k tt w) (sym i) (over_begun f w b)));
    begun_from = λ w b. begun_over f w (pick_begins js (chains f) tt w (subst (λ k. AnyBegins k tt w) (sym j) (over_begun g w b)));
  }
