-- Lists whose last item is another form, which a flag tells.
use Rattle.std.proofs.Common.{◌≡◌, Bool, true, false, List, [], ◌∷◌, ◌++◌, Option, Some, None, ◌⊎◌, inl, inr, refl, sym, ap, ◌∙◌, subst, append_assoc, append-nil}
use Rattle.hs_grammar.specs.Form.{Lexis, Rules, Step, More, Last, Form, Map, Seq, Split, Alt, Loop}
use Rattle.hs_grammar.specs.Derives.{Derivings, Beginnings, Turns, Where, Derives, Begun}
use Rattle.hs_grammar.specs.Same.{Same, Sane}
use Rattle.hs_grammar.specs.Combinators.{item, star, plus, optional, ◌>>◌, ◌<<◌, ◌&◌}
use Rattle.hs_grammar.proofs.Exact.{begun_nothing, begun_by}
use Rattle.hs_grammar.proofs.Same.{same, same_sym, same_trans, same_split, same_map, same_loop}
use Rattle.hs_grammar.proofs.Lists.{same_tail}
use Rattle.hs_forms.specs.Blocks.{step_of}

-- the one without the flag, or the other with it
abbrev pub flagged : {L : Lexis} {R : Rules} {A : Type 0} → Form L R A → Form L R A → Form L R (A × Bool)
flagged m l = Alt (Map (λ a. (a, false)) m) (Map (λ a. (a, true)) l)

-- what stands behind the one, and behind the other
abbrev pub parted : {L : Lexis} {R : Rules} {A B C : Type 0} → (A × Bool → B → C) → Form L R A → Form L R A → Form L R B → Form L R B → Form L R C
parted h m l g k = Alt (Seq (λ a b. h (a, false) b) m k) (Seq (λ a b. h (a, true) b) l g)

-- items with separators behind them, and then the last thing
abbrev pub behind_each : {L : Lexis} {R : Rules} {A B S C : Type 0} → Form L R S → Form L R A → Form L R B → (List A → B → C) → Form L R C
behind_each s x y h = Seq h (star (x << s)) y

-- the last thing alone, or items with separators between them, a separator, and the last thing
abbrev pub between_them : {L : Lexis} {R : Rules} {A B S C : Type 0} → Form L R S → Form L R A → Form L R B → (List A → B → C) → Form L R C
between_them {A = A} {B = B} s x y h = Alt (Map (h []) y) (Seq (λ a (r : List A × B). h (a ∷ r.0) r.1) x (star (s >> x) & (s >> y)))

module _ (L : Lexis) (R : Rules) (ρ : Derivings L R) (β : Beginnings L R) {A B C : Type 0} (h : A × Bool → B → C) (m l : Form L R A) (g k : Form L R B) where
  abbrev decided : Form L R C
  decided = Split (λ p. p.1) h (flagged m l) g k

  abbrev parts : Form L R C
  parts = parted h m l g k

  to : (w : List L.token) (x : C) → Derives ρ decided w x → Derives ρ parts w x
  to w x (u, v, p, b, e, inl (a, d, i), j, o) = inl (u, v, a, b, e, d, subst (λ q. Where q.1 (Derives ρ g v b) (Derives ρ k v b)) (sym i) j, ap (λ q. h q b) i ∙ o)
  to w x (u, v, p, b, e, inr (a, d, i), j, o) = inr (u, v, a, b, e, d, subst (λ q. Where q.1 (Derives ρ g v b) (Derives ρ k v b)) (sym i) j, ap (λ q. h q b) i ∙ o)

  from : (w : List L.token) (x : C) → Derives ρ parts w x → Derives ρ decided w x
  from w x (inl (u, v, a, b, e, d, j, o)) = (u, v, (a, false), b, e, inl (a, d, refl), j, o)
  from w x (inr (u, v, a, b, e, d, j, o)) = (u, v, (a, true), b, e, inr (a, d, refl), j, o)

  begun_to : (w : List L.token) → Begun ρ β decided w → Begun ρ β parts w
  begun_to w (inl (inl b)) = inl (inl b)
  begun_to w (inl (inr b)) = inr (inl b)
  begun_to w (inr (u, v, p, e, inl (a, d, i), b)) = inl (inr (u, v, a, e, d, subst (λ q. Where q.1 (Begun ρ β g v) (Begun ρ β k v)) (sym i) b))
  begun_to w (inr (u, v, p, e, inr (a, d, i), b)) = inr (inr (u, v, a, e, d, subst (λ q. Where q.1 (Begun ρ β g v) (Begun ρ β k v)) (sym i) b))

  begun_from : (w : List L.token) → Begun ρ β parts w → Begun ρ β decided w
  begun_from w (inl (inl b)) = inl (inl b)
  begun_from w (inl (inr (u, v, a, e, d, b))) = inr (u, v, (a, false), e, inl (a, d, refl), b)
  begun_from w (inr (inl b)) = inl (inr b)
  begun_from w (inr (inr (u, v, a, e, d, b))) = inr (u, v, (a, true), e, inr (a, d, refl), b)

  -- a flag that decides is an alternative
  pub split_flag : (x : Form L R (A × Bool)) → Same ρ β x (flagged m l) → Same ρ β (Split (λ p. p.1) h x g k) parts
  split_flag x s =
      same_trans L R ρ β (Split (λ p. p.1) h x g k) decided parts
      (same_split L R ρ β (λ p. p.1) h x (flagged m l) g g k k s (same L R ρ β g) (same L R ρ β k))
      (record { to = to; from = from; begun_to = begun_to; begun_from = begun_from })

module _ (L : Lexis) (R : Rules) (ρ : Derivings L R) (β : Beginnings L R) (s : Sane L R ρ β) {A : Type 0} (m l : Form L R A) where
  abbrev turn : Form L R (Step A A)
  turn = Map step_of (flagged m l)

  more_from : (u : List L.token) (a : A) → Derives ρ turn u (More a) → Derives ρ m u a
  more_from u a (p, inl (b, d, i), j) = let e : ◌≡◌ {A = Step A A} (More b) (More a) = ap step_of i ∙ j in let o : b ≡ a = cc in subst (Derives ρ m u) o d
  more_from u a (p, inr (b, d, i), j) = let e : ◌≡◌ {A = Step A A} (Last b) (More a) = ap step_of i ∙ j in absurd (cc)

  last_from : (u : List L.token) (a : A) → Derives ρ turn u (Last a) → Derives ρ l u a
  last_from u a (p, inl (b, d, i), j) = let e : ◌≡◌ {A = Step A A} (More b) (Last a) = ap step_of i ∙ j in absurd (cc)
  last_from u a (p, inr (b, d, i), j) = let e : ◌≡◌ {A = Step A A} (Last b) (Last a) = ap step_of i ∙ j in let o : b ≡ a = cc in subst (Derives ρ l u) o d

  -- turns that a flag ends are items and perhaps a last one
  pub loop_flag : {C : Type 0} (h : List A → Option A → C) (x : Form L R (A × Bool)) → Same ρ β x (flagged m l) → Same ρ β (Loop h (Map step_of x)) (Seq h (star m) (optional l))
  loop_flag h x t =
      same_trans L R ρ β (Loop h (Map step_of x)) (Loop h turn) (Seq h (star m) (optional l))
      (same_loop L R ρ β h (Map step_of x) turn (same_map L R ρ β step_of x (flagged m l) t))
      (same_sym L R ρ β (Seq h (star m) (optional l)) (Loop h turn)
      (same_tail L R ρ β s m l turn (λ u a d. ((a, false), inl (a, d, refl), refl)) more_from (λ u a d. ((a, true), inr (a, d, refl), refl)) last_from (λ w b. b) (λ w b. b) h))

-- ---- turns

module _ (L : Lexis) (R : Rules) (ρ : Derivings L R) (β : Beginnings L R) where
  -- what a turn of a star derives
  pub one_turn : {D : Type 0} (f : Form L R D) (u : List L.token) (a : D) → Derives ρ (item f) u (More a) → Derives ρ f u a
  one_turn {D} f u a (b, d, i) = let o : b ≡ a = cc in subst (Derives ρ f u) o d

  pub no_last : {D : Type 0} (f : Form L R D) (as' : List D) (e : Option (Unit {0})) (u : List L.token) → Turns (Derives ρ (item f)) as' e u → Turns (Derives ρ (item f)) as' None u
  no_last f [] None u t = t
  no_last f [] (Some z) u (b, d, i) = absurd (cc)
  no_last f (a ∷ as') e u (p, q, i, d, t) = (p, q, i, d, no_last f as' e q t)

-- ---- separators behind items, or between them

module _ (L : Lexis) (R : Rules) (ρ : Derivings L R) (β : Beginnings L R) (n : Sane L R ρ β) {A B S : Type 0} (s : Form L R S) (x : Form L R A) (y : Form L R B) where
  -- behind an item: more of them, each behind a separator, a separator, and the last thing
  abbrev rest : Form L R (List A × B)
  rest = star (s >> x) & (s >> y)

  rest_more : (r v : List L.token) (a : A) (as' : List A) (b : B) → Derives ρ (s >> x) r a → Derives ρ rest v (as', b) → Derives ρ rest (r ++ v) (a ∷ as', b)
  rest_more r v a as' b d (p, q, bs, c, e, (cs, o, t, i), k, j) =
      (r ++ p, q, a ∷ bs, c, ap (λ z. r ++ z) e ∙ sym (append_assoc r p q), (a ∷ cs, o, (r, p, refl, (a, d, refl), t), ap (λ z. a ∷ z) i), k, ap (λ (z : List A × B). (a ∷ z.0, z.1)) j)

  rest_begun : (r v : List L.token) (a : A) → Derives ρ (s >> x) r a → Begun ρ β rest v → Begun ρ β rest (r ++ v)
  rest_begun r v a d (inl (inl e)) = inr (r, v, a ∷ [], refl, (a ∷ [], None, (r, [], sym (append-nil r), (a, d, refl), refl), refl), subst (Begun ρ β (s >> y)) (sym e) (begun_nothing ρ β n.none (s >> y)))
  rest_begun r v a d (inl (inr (p, q, as', e, t, b))) = inl (inr (r ++ p, q, a ∷ as', ap (λ z. r ++ z) e ∙ sym (append_assoc r p q), (r, p, refl, (a, d, refl), t), b))
  rest_begun r v a d (inr (p, q, as', e, (cs, o, t, i), b)) =
      inr (r ++ p, q, a ∷ as', ap (λ z. r ++ z) e ∙ sym (append_assoc r p q), (a ∷ cs, o, (r, p, refl, (a, d, refl), t), ap (λ z. a ∷ z) i), b)

  -- a separator, items with separators behind them, and the last thing
  rest_of : (as' : List A) (r u v : List L.token) (c : S) (b : B) → Derives ρ s r c → Turns (Derives ρ (item (x << s))) as' None u → Derives ρ y v b → Derives ρ rest (r ++ (u ++ v)) (as', b)
  rest_of [] r u v c b d t i = ([], r ++ (u ++ v), [], b, refl, ([], None, refl, refl), (r, v, c, b, ap (λ z. r ++ (z ++ v)) t, d, i, refl), refl)
  rest_of (a ∷ as') r u v c b d (p, q, e, k, t) i = go (one_turn L R ρ β (x << s) p a k) (λ g z. rest_of as' g q v z b)
    where
      go : Derives ρ (x << s) p a → ((g : List L.token) (z : S) → Derives ρ s g z → Turns (Derives ρ (item (x << s))) as' None q → Derives ρ y v b → Derives ρ rest (g ++ (q ++ v)) (as', b))
          → Derives ρ rest (r ++ (u ++ v)) (a ∷ as', b)
      go (f, g, a', z, j, dx, ds, o) ih =
          subst (λ w. Derives ρ rest w (a ∷ as', b))
          (append_assoc r f (g ++ (q ++ v)) ∙ ap (λ w. r ++ w) (sym (append_assoc f g (q ++ v)) ∙ ap (λ w. w ++ (q ++ v)) (sym j) ∙ sym (append_assoc p q v) ∙ ap (λ w. w ++ v) (sym e)))
          (rest_more (r ++ f) (g ++ (q ++ v)) a as' b (r, f, c, a', refl, d, dx, o) (ih g z ds t i))

  begun_rest_of : (as' : List A) (r u v : List L.token) (c : S) → Derives ρ s r c → Turns (Derives ρ (item (x << s))) as' None u → Begun ρ β (x << s) v ⊎ Begun ρ β y v → Begun ρ β rest (r ++ (u ++ v))
  begun_rest_of [] r u v c d t (inr b) = inr ([], r ++ (u ++ v), [], refl, ([], None, refl, refl), inr (r, v, c, ap (λ z. r ++ (z ++ v)) t, d, b))
  begun_rest_of [] r u v c d t (inl (inl b)) = inl (inr ([], r ++ (u ++ v), [], refl, refl, inr (r, v, c, ap (λ z. r ++ (z ++ v)) t, d, b)))
  begun_rest_of [] r u v c d t (inl (inr (p, q, a, e, i, b))) =
      subst (Begun ρ β rest) (append_assoc r p q ∙ ap (λ z. r ++ z) (sym e ∙ ap (λ z. z ++ v) (sym t)))
      (rest_begun (r ++ p) q a (r, p, c, a, refl, d, i, refl) (inr ([], q, [], refl, ([], None, refl, refl), inl b)))
  begun_rest_of (a ∷ as') r u v c d (p, q, e, k, t) b = go (one_turn L R ρ β (x << s) p a k) (λ g z. begun_rest_of as' g q v z)
    where
      go : Derives ρ (x << s) p a → ((g : List L.token) (z : S) → Derives ρ s g z → Turns (Derives ρ (item (x << s))) as' None q → Begun ρ β (x << s) v ⊎ Begun ρ β y v → Begun ρ β rest (g ++ (q ++ v)))
          → Begun ρ β rest (r ++ (u ++ v))
      go (f, g, a', z, j, dx, ds, o) ih =
          subst (Begun ρ β rest)
          (append_assoc r f (g ++ (q ++ v)) ∙ ap (λ w. r ++ w) (sym (append_assoc f g (q ++ v)) ∙ ap (λ w. w ++ (q ++ v)) (sym j) ∙ sym (append_assoc p q v) ∙ ap (λ w. w ++ v) (sym e)))
          (rest_begun (r ++ f) (g ++ (q ++ v)) a (r, f, c, a', refl, d, dx, o) (ih g z ds t b))

  -- and the other way round: an item, items behind separators, and a separator
  closed_of : (as' : List A) (r u v : List L.token) (a : A) (c : S) → Derives ρ x r a → Turns (Derives ρ (item (s >> x))) as' None u → Derives ρ s v c → Turns (Derives ρ (item (x << s))) (a ∷ as') None (r ++ (u ++ v))
  closed_of [] r u v a c d t i = (r ++ (u ++ v), [], sym (append-nil (r ++ (u ++ v))), (a, (r, v, a, c, ap (λ z. r ++ (z ++ v)) t, d, i, refl), refl), refl)
  closed_of (b ∷ as') r u v a c d (p, q, e, k, t) i = go (one_turn L R ρ β (s >> x) p b k) (λ g z. closed_of as' g q v b c z)
    where
      go : Derives ρ (s >> x) p b → ((g : List L.token) → Derives ρ x g b → Turns (Derives ρ (item (s >> x))) as' None q → Derives ρ s v c → Turns (Derives ρ (item (x << s))) (b ∷ as') None (g ++ (q ++ v)))
          → Turns (Derives ρ (item (x << s))) (a ∷ (b ∷ as')) None (r ++ (u ++ v))
      go (f, g, z, b', j, ds, dx, o) ih = (
        r ++ f,
        g ++ (q ++ v),
        ap (λ w. r ++ w) (ap (λ w. w ++ v) e ∙ append_assoc p q v ∙ ap (λ w. w ++ (q ++ v)) j ∙ append_assoc f g (q ++ v)) ∙ sym (append_assoc r f (g ++ (q ++ v))),
        (a, (r, f, a, z, refl, d, ds, refl), refl),
        ih g (subst (Derives ρ x g) o dx) t i,
      )

  star_begun : (r v : List L.token) (a : A) → Derives ρ (x << s) r a → Begun ρ β (star (x << s)) v → Begun ρ β (star (x << s)) (r ++ v)
  star_begun r v a d (inl e) = inr (r, v, a ∷ [], refl, (r, [], sym (append-nil r), (a, d, refl), refl), subst (Begun ρ β (x << s)) (sym e) (begun_nothing ρ β n.none (x << s)))
  star_begun r v a d (inr (p, q, as', e, t, b)) = inr (r ++ p, q, a ∷ as', ap (λ z. r ++ z) e ∙ sym (append_assoc r p q), (r, p, refl, (a, d, refl), t), b)

  begun_closed_of : (as' : List A) (r u v : List L.token) (a : A) → Derives ρ x r a → Turns (Derives ρ (item (s >> x))) as' None u → Begun ρ β (s >> x) v → Begun ρ β (star (x << s)) (r ++ (u ++ v))
  begun_closed_of [] r u v a d t (inl b) = inr ([], r ++ (u ++ v), [], refl, refl, inr (r, v, a, ap (λ z. r ++ (z ++ v)) t, d, b))
  begun_closed_of [] r u v a d t (inr (p, q, c, e, i, b)) =
      subst (Begun ρ β (star (x << s))) (append_assoc r p q ∙ ap (λ z. r ++ z) (sym e ∙ ap (λ z. z ++ v) (sym t)))
      (star_begun (r ++ p) q a (r, p, a, c, refl, d, i, refl) (inr ([], q, [], refl, refl, inl b)))
  begun_closed_of (b ∷ as') r u v a d (p, q, e, k, t) i = go (one_turn L R ρ β (s >> x) p b k) (λ g z. begun_closed_of as' g q v b z)
    where
      go : Derives ρ (s >> x) p b → ((g : List L.token) → Derives ρ x g b → Turns (Derives ρ (item (s >> x))) as' None q → Begun ρ β (s >> x) v → Begun ρ β (star (x << s)) (g ++ (q ++ v)))
          → Begun ρ β (star (x << s)) (r ++ (u ++ v))
      go (f, g, z, b', j, ds, dx, o) ih =
          subst (Begun ρ β (star (x << s)))
          (append_assoc r f (g ++ (q ++ v)) ∙ ap (λ w. r ++ w) (sym (append_assoc f g (q ++ v)) ∙ ap (λ w. w ++ (q ++ v)) (sym j) ∙ sym (append_assoc p q v) ∙ ap (λ w. w ++ v) (sym e)))
          (star_begun (r ++ f) (g ++ (q ++ v)) a (r, f, a, z, refl, d, ds, refl) (ih g (subst (Derives ρ x g) o dx) t i))

  module _ {C : Type 0} (h : List A → B → C) where
    abbrev behind : Form L R C
    behind = behind_each s x y h

    abbrev between : Form L R C
    between = between_them s x y h

    shift_to : (w : List L.token) (z : C) → Derives ρ behind w z → Derives ρ between w z
    shift_to w z (u, v, as', b, e, (bs, o, t, i), d, j) = go bs u e (no_last L R ρ β (x << s) bs o u t) (ap (λ q. h q b) i ∙ j)
      where
        go : (bs : List A) (u : List L.token) → w ≡ u ++ v → Turns (Derives ρ (item (x << s))) bs None u → h bs b ≡ z → Derives ρ between w z
        go [] u e t j = inl (b, subst (λ q. Derives ρ y q b) (sym (e ∙ ap (λ q. q ++ v) t)) d, j)
        go (a ∷ bs) u e (p, q, f, k, t) j = part (one_turn L R ρ β (x << s) p a k)
          where
            part : Derives ρ (x << s) p a → Derives ρ between w z
            part (p1, p2, a', c, g, dx, ds, o) =
                inr (
                  p1,
                  p2 ++ (q ++ v),
                  a,
                  (bs, b),
                  e ∙ ap (λ r. r ++ v) f ∙ append_assoc p q v ∙ ap (λ r. r ++ (q ++ v)) g ∙ append_assoc p1 p2 (q ++ v),
                  subst (Derives ρ x p1) o dx,
                  rest_of bs p2 q v c b ds t d,
                  j,
                )

    shift_from : (w : List L.token) (z : C) → Derives ρ between w z → Derives ρ behind w z
    shift_from w z (inl (b, d, j)) = ([], w, [], b, refl, ([], None, refl, refl), d, j)
    shift_from w z (inr (p, q, a, r, e, d, (u, v, as', b, f, (bs, o, t, i), (v1, v2, c, b', g, ds, dy, l), k), j)) = (
      p ++ (u ++ v1),
      v2,
      a ∷ as',
      b',
      e ∙ ap (λ r. p ++ r) (f ∙ ap (λ r. u ++ r) g ∙ sym (append_assoc u v1 v2)) ∙ sym (append_assoc p (u ++ v1) v2),
      (a ∷ bs, None, closed_of bs p u v1 a c d (no_last L R ρ β (s >> x) bs o u t) ds, ap (λ r. a ∷ r) i),
      dy,
      ap (λ r. h (a ∷ as') r) l ∙ ap (λ (r : List A × B). h (a ∷ r.0) r.1) k ∙ j,
    )

    begun_shift_to : (w : List L.token) → Begun ρ β behind w → Begun ρ β between w
    begun_shift_to w b = parts b
      where
        go : (bs : List A) (u v : List L.token) → w ≡ u ++ v → Turns (Derives ρ (item (x << s))) bs None u → Begun ρ β (x << s) v ⊎ Begun ρ β y v → Begun ρ β between w
        go [] u v e t (inr b) = inl (subst (Begun ρ β y) (sym (e ∙ ap (λ q. q ++ v) t)) b)
        go [] u v e t (inl (inl b)) = inr (inl (subst (Begun ρ β x) (sym (e ∙ ap (λ q. q ++ v) t)) b))
        go [] u v e t (inl (inr (p, q, a, f, d, b))) = inr (inr (p, q, a, e ∙ ap (λ q. q ++ v) t ∙ f, d, inr ([], q, [], refl, ([], None, refl, refl), inl b)))
        go (a ∷ bs) u v e (p, q, f, k, t) b = part (one_turn L R ρ β (x << s) p a k)
          where
            part : Derives ρ (x << s) p a → Begun ρ β between w
            part (p1, p2, a', c, g, dx, ds, o) =
                inr (inr (
                  p1,
                  p2 ++ (q ++ v),
                  a',
                  e ∙ ap (λ r. r ++ v) f ∙ append_assoc p q v ∙ ap (λ r. r ++ (q ++ v)) g ∙ append_assoc p1 p2 (q ++ v),
                  dx,
                  begun_rest_of bs p2 q v c ds t b,
                ))

        parts : Begun ρ β behind w → Begun ρ β between w
        parts (inl (inl e)) = inl (subst (Begun ρ β y) (sym e) (begun_nothing ρ β n.none y))
        parts (inl (inr (u, v, as', e, t, b))) = go as' u v e t (inl b)
        parts (inr (u, v, as', e, (bs, o, t, i), b)) = go bs u v e (no_last L R ρ β (x << s) bs o u t) (inr b)

    begun_shift_from : (w : List L.token) → Begun ρ β between w → Begun ρ β behind w
    begun_shift_from w (inl b) = inr ([], w, [], refl, ([], None, refl, refl), b)
    begun_shift_from w (inr (inl b)) = inl (inr ([], w, [], refl, refl, inl b))
    begun_shift_from w (inr (inr (p, q, a, e, d, inl (inl i)))) = inl (inr ([], w, [], refl, refl, inr (p, q, a, e, d, subst (Begun ρ β s) (sym i) (begun_nothing ρ β n.none s))))
    begun_shift_from w (inr (inr (p, q, a, e, d, inl (inr (u, v, as', f, t, b))))) =
        inl (subst (Begun ρ β (star (x << s))) (sym (e ∙ ap (λ r. p ++ r) f)) (begun_closed_of as' p u v a d t b))
    begun_shift_from w (inr (inr (p, q, a, e, d, inr (u, v, as', f, (bs, o, t, i), inl b)))) =
        inl (subst (Begun ρ β (star (x << s))) (sym (e ∙ ap (λ r. p ++ r) f)) (begun_closed_of bs p u v a d (no_last L R ρ β (s >> x) bs o u t) (inl b)))
    begun_shift_from w (inr (inr (p, q, a, e, d, inr (u, v, as', f, (bs, o, t, i), inr (v1, v2, c, g, ds, b))))) =
        inr (
          p ++ (u ++ v1),
          v2,
          a ∷ bs,
          e ∙ ap (λ r. p ++ r) (f ∙ ap (λ r. u ++ r) g ∙ sym (append_assoc u v1 v2)) ∙ sym (append_assoc p (u ++ v1) v2),
          (a ∷ bs, None, closed_of bs p u v1 a c d (no_last L R ρ β (s >> x) bs o u t) ds, refl),
          b,
        )

    -- both are the same
    pub shift : Same ρ β behind between
    shift = record { to = shift_to; from = shift_from; begun_to = begun_shift_to; begun_from = begun_shift_from }

-- ---- one item or more, where the last may be another form

module _ (L : Lexis) (R : Rules) (ρ : Derivings L R) (β : Beginnings L R) (n : Sane L R ρ β) {A : Type 0} (m l : Form L R A)
    (h : A → List A × Option A → List A) (alone : (a : A) (as' : List A) → h a (as', None) ≡ a ∷ as') (ended : (a : A) (as' : List A) (b : A) → h a (as', Some b) ≡ a ∷ (as' ++ b ∷ [])) where
  -- items, or items and the other form
  abbrev as_written : Form L R (List A)
  as_written = Alt (plus m) (Seq (λ as' a. as' ++ a ∷ []) (star m) l)

  -- an item, more of them and perhaps the other form, or the other form alone
  abbrev as_read : Form L R (List A)
  as_read = Alt (Seq h m (Seq (λ as' o. (as', o)) (star m) (optional l))) (Map (λ a. a ∷ []) l)

  ended_to : (w : List L.token) (x : List A) → Derives ρ as_written w x → Derives ρ as_read w x
  ended_to w x (inl (u, v, a, as', e, d, t, j)) = inl (u, v, a, (as', None), e, d, (v, [], as', None, sym (append-nil v), t, inr (refl, refl), refl), alone a as' ∙ j)
  ended_to w x (inr (u, v, as', a, e, (bs, o, t, i), d, j)) = go bs u e (no_last L R ρ β m bs o u t) (ap (λ z. z ++ a ∷ []) i ∙ j)
    where
      go : (bs : List A) (u : List L.token) → w ≡ u ++ v → Turns (Derives ρ (item m)) bs None u → bs ++ a ∷ [] ≡ x → Derives ρ as_read w x
      go [] u e t j = inr (a, subst (λ q. Derives ρ l q a) (sym (e ∙ ap (λ q. q ++ v) t)) d, j)
      go (b ∷ bs) u e (p, q, f, k, t) j =
          inl (p, q ++ v, b, (bs, Some a), e ∙ ap (λ z. z ++ v) f ∙ append_assoc p q v, one_turn L R ρ β m p b k, (q, v, bs, Some a, refl, (bs, None, t, refl), inl (a, d, refl), refl), ended b bs a ∙ j)

  value_of : (a : A) (as' : List A) (o : Option A) (r : List A × Option A) (x : List A) → (as', o) ≡ r → h a r ≡ x → h a (as', o) ≡ x
  value_of a as' o r x i j = ap (h a) i ∙ j

  ended_from : (w : List L.token) (x : List A) → Derives ρ as_read w x → Derives ρ as_written w x
  ended_from w x (inr (a, d, j)) = inr ([], w, [], a, refl, ([], None, refl, refl), d, j)
  ended_from w x (inl (u, v, a, r, e, d, (p, q, as', o, f, (bs, c, t, k), inr (g, z), i), j)) =
      inl (u, v, a, as', e, d, (bs, c, subst (Turns (Derives ρ (item m)) bs c) (sym (f ∙ ap (λ y. p ++ y) g ∙ append-nil p)) t, k), sym (alone a as') ∙ value_of a as' None r x (ap (λ y. (as', y)) z ∙ i) j)
  ended_from w x (inl (u, v, a, r, e, d, (p, q, as', o, f, (bs, c, t, k), inl (b, g, z), i), j)) =
      inr (
        u ++ p,
        q,
        a ∷ as',
        b,
        e ∙ ap (λ y. u ++ y) f ∙ sym (append_assoc u p q),
        (a ∷ bs, c, (u, p, refl, (a, d, refl), t), ap (λ y. a ∷ y) k),
        g,
        sym (ended a as' b) ∙ value_of a as' (Some b) r x (ap (λ y. (as', y)) z ∙ i) j,
      )

  ended_begun_to : (w : List L.token) → Begun ρ β as_written w → Begun ρ β as_read w
  ended_begun_to w (inl (inl b)) = inl (inl b)
  ended_begun_to w (inl (inr (u, v, a, e, d, b))) = inl (inr (u, v, a, e, d, inl b))
  ended_begun_to w (inr (inl (inl e))) = inl (inl (subst (Begun ρ β m) (sym e) (begun_nothing ρ β n.none m)))
  ended_begun_to w (inr (inl (inr (u, v, as', e, t, b)))) = go as' u e t
    where
      go : (bs : List A) (u : List L.token) → w ≡ u ++ v → Turns (Derives ρ (item m)) bs None u → Begun ρ β as_read w
      go [] u e t = inl (inl (subst (Begun ρ β m) (sym (e ∙ ap (λ q. q ++ v) t)) b))
      go (a ∷ bs) u e (p, q, f, k, t) = inl (inr (p, q ++ v, a, e ∙ ap (λ z. z ++ v) f ∙ append_assoc p q v, one_turn L R ρ β m p a k, inl (inr (q, v, bs, refl, t, b))))
  ended_begun_to w (inr (inr (u, v, as', e, (bs, o, t, i), b))) = go bs u e (no_last L R ρ β m bs o u t)
    where
      go : (bs : List A) (u : List L.token) → w ≡ u ++ v → Turns (Derives ρ (item m)) bs None u → Begun ρ β as_read w
      go [] u e t = inr (subst (Begun ρ β l) (sym (e ∙ ap (λ q. q ++ v) t)) b)
      go (a ∷ bs) u e (p, q, f, k, t) = inl (inr (p, q ++ v, a, e ∙ ap (λ z. z ++ v) f ∙ append_assoc p q v, one_turn L R ρ β m p a k, inr (q, v, bs, refl, (bs, None, t, refl), inl b)))

  ended_begun_from : (w : List L.token) → Begun ρ β as_read w → Begun ρ β as_written w
  ended_begun_from w (inr b) = inr (inr ([], w, [], refl, ([], None, refl, refl), b))
  ended_begun_from w (inl (inl b)) = inl (inl b)
  ended_begun_from w (inl (inr (u, v, a, e, d, inl b))) = inl (inr (u, v, a, e, d, b))
  ended_begun_from w (inl (inr (u, v, a, e, d, inr (p, q, as', f, (bs, c, t, k), inl b)))) =
      inr (inr (u ++ p, q, a ∷ bs, e ∙ ap (λ y. u ++ y) f ∙ sym (append_assoc u p q), (a ∷ bs, c, (u, p, refl, (a, d, refl), t), refl), b))
  ended_begun_from w (inl (inr (u, v, a, e, d, inr (p, q, as', f, (bs, c, t, k), inr b)))) =
      inl (inr (u, v, a, e, d, begun_by L R ρ β n.none n.begun (star m) v bs (bs, c, subst (Turns (Derives ρ (item m)) bs c) (sym (f ∙ ap (λ y. p ++ y) b ∙ append-nil p)) t, refl)))

  -- both are the same
  pub ended_same : Same ρ β as_written as_read
  ended_same = record { to = ended_to; from = ended_from; begun_to = ended_begun_to; begun_from = ended_begun_from }
