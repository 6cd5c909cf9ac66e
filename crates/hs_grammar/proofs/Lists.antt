-- Lists as they are written, and as one token of lookahead reads them.
use Rattle.std.proofs.Common.{◌≡◌, List, [], ◌∷◌, ◌++◌, Option, Some, None, ◌⊎◌, inl, inr, refl, sym, ap, ◌∙◌, subst, append_assoc, append-nil}
use Rattle.hs_grammar.specs.Form.{Lexis, Rules, Step, More, Last, Form, Map, Seq, Loop}
use Rattle.hs_grammar.specs.Derives.{Derivings, Beginnings, Turns, Derives, Begun}
use Rattle.hs_grammar.specs.Same.{Same, Sane}
use Rattle.hs_grammar.specs.Combinators.{item, star, optional, ◌>>◌, list, list_turn, list_read}
use Rattle.hs_grammar.proofs.Exact.{begun_nothing}
use Rattle.hs_grammar.proofs.Same.{same, same_seq, same_trans}

-- ---- items and then perhaps a last thing are a loop whose turn is either

module _ (L : Lexis) (R : Rules) (ρ : Derivings L R) (β : Beginnings L R) (s : Sane L R ρ β) {A E : Type 0} (y : Form L R A) (x : Form L R E) (f : Form L R (Step A E))
    (more : (u : List L.token) (a : A) → Derives ρ y u a → Derives ρ f u (More a)) (more_from : (u : List L.token) (a : A) → Derives ρ f u (More a) → Derives ρ y u a)
    (last : (u : List L.token) (e : E) → Derives ρ x u e → Derives ρ f u (Last e)) (last_from : (u : List L.token) (e : E) → Derives ρ f u (Last e) → Derives ρ x u e)
    (begin : (w : List L.token) → Begun ρ β y w ⊎ Begun ρ β x w → Begun ρ β f w) (begin_from : (w : List L.token) → Begun ρ β f w → Begun ρ β y w ⊎ Begun ρ β x w) where
  one_more : (b a : A) → ◌≡◌ {A = Step A (Unit {0})} (More b) (More a) → b ≡ a
  one_more b a e = cc

  one_some : (b a : E) → Some b ≡ Some a → b ≡ a
  one_some b a e = cc

  turns_to : (as' : List A) (e : Option (Unit {0})) (u : List L.token) → Turns (Derives ρ (item y)) as' e u → Turns (Derives ρ f) as' None u
  turns_to [] None u t = t
  turns_to [] (Some z) u (b, d, e) = absurd (cc)
  turns_to (a ∷ as') e u (p, q, i, (b, d, j), t) = (p, q, i, more p a (subst (λ c. Derives ρ y p c) (one_more b a j) d), turns_to as' e q t)

  turns_from : (as' : List A) (u : List L.token) → Turns (Derives ρ f) as' None u → Turns (Derives ρ (item y)) as' None u
  turns_from [] u t = t
  turns_from (a ∷ as') u (p, q, i, d, t) = (p, q, i, (a, more_from p a d, refl), turns_from as' q t)

  join : (as' : List A) (o : Option E) (u v : List L.token) → Turns (Derives ρ f) as' None u → Turns {A = A} (Derives ρ f) [] o v → Turns (Derives ρ f) as' o (u ++ v)
  join [] o u v t r = subst (λ z. Turns {A = A} (Derives ρ f) [] o (z ++ v)) (sym t) r
  join (a ∷ as') o u v (p, q, i, d, t) r = (p, q ++ v, ap (λ z. z ++ v) i ∙ append_assoc p q v, d, join as' o q v t r)

  cut : (as' : List A) (o : Option E) (w : List L.token) → Turns (Derives ρ f) as' o w → (u v : List L.token) × (w ≡ u ++ v) × Turns (Derives ρ f) as' None u × Turns {A = A} (Derives ρ f) [] o v
  cut [] o w t = ([], w, refl, refl, t)
  cut (a ∷ as') o w (p, q, i, d, t) =
      let c : (u v : List L.token) × (q ≡ u ++ v) × Turns (Derives ρ f) as' None u × Turns {A = A} (Derives ρ f) [] o v = cut as' o q t in
      (p ++ c.0, c.1, i ∙ ap (λ z. p ++ z) c.2 ∙ sym (append_assoc p c.0 c.1), (p, c.0, refl, d, c.3), c.4)

  last_turn : (o : Option E) (v : List L.token) → Derives ρ (optional x) v o → Turns {A = A} (Derives ρ f) [] o v
  last_turn None v (inl (b, d, e)) = absurd (cc)
  last_turn None v (inr d) = d.0
  last_turn (Some z) v (inl (b, d, e)) = last v z (subst (λ c. Derives ρ x v c) (one_some b z e) d)
  last_turn (Some z) v (inr d) = let e : None ≡ Some z = d.1 in absurd (cc)

  last_turn_from : (o : Option E) (v : List L.token) → Turns {A = A} (Derives ρ f) [] o v → Derives ρ (optional x) v o
  last_turn_from None v t = inr (t, refl)
  last_turn_from (Some z) v t = inl (z, last_from v z t, refl)

  -- items, and perhaps a last thing
  abbrev pub tail_written : {C : Type 0} → (List A → Option E → C) → Form L R C
  tail_written h = Seq h (star y) (optional x)

  -- a loop whose turn is an item or the last thing
  abbrev pub tail_read : {C : Type 0} → (List A → Option E → C) → Form L R C
  tail_read h = Loop h f

  begun_read : {C : Type 0} (h : List A → Option E → C) (w : List L.token) → Begun ρ β (tail_written h) w → Begun ρ β (tail_read h) w
  begun_read h w (inl (inl e)) = inl e
  begun_read h w (inl (inr (u, v, as', e, t, b))) = inr (u, v, as', e, turns_to as' None u t, begin v (inl b))
  begun_read h w (inr (u, v, as', e, (bs, e1, t, i), (inl b))) = inr (u, v, bs, e, turns_to bs e1 u t, begin v (inr b))
  begun_read h w (inr (u, v, as', e, (bs, e1, t, i), (inr b))) = inr (u, v, bs, e, turns_to bs e1 u t, subst (Begun ρ β f) (sym b) (begun_nothing ρ β s.none f))

  begun_written : {C : Type 0} (h : List A → Option E → C) (w : List L.token) → Begun ρ β (tail_read h) w → Begun ρ β (tail_written h) w
  begun_written h w (inl e) = inl (inl e)
  begun_written h w (inr (u, v, as', e, t, b)) = elim (begin_from v b) [
    | inl c ↦ inl (inr (u, v, as', e, turns_from as' u t, c))
    | inr c ↦ inr (u, v, as', e, (as', None, turns_from as' u t, refl), inl c)
  ]

  -- both derive the same, and are begun by the same
  pub same_tail : {C : Type 0} (h : List A → Option E → C) → Same ρ β (tail_written h) (tail_read h)
  same_tail h = record {
    to = λ w p d. (d.5.0, d.3, subst (λ z. Turns (Derives ρ f) d.5.0 d.3 z) (sym d.4) (join d.5.0 d.3 d.0 d.1 (turns_to d.5.0 d.5.1 d.0 d.5.2) (last_turn d.3 d.1 d.6)), ap (λ z. h z d.3) d.5.3 ∙ d.7);
    from = λ w p d. let c : (u v : List L.token) × (w ≡ u ++ v) × Turns (Derives ρ f) d.0 None u × Turns {A = A} (Derives ρ f) [] d.1 v = cut d.0 d.1 w d.2 in
        (c.0, c.1, d.0, d.1, c.2, (d.0, None, turns_from d.0 c.0 c.3, refl), last_turn_from d.1 c.1 c.4, d.3);
    begun_to = begun_read h;
    begun_from = begun_written h;
  }

-- ---- a list with separators between, and perhaps one at the end

module _ (L : Lexis) (R : Rules) (ρ : Derivings L R) (β : Beginnings L R) (s : Sane L R ρ β) {A S : Type 0} (sep : Form L R S) (x : Form L R A) where
  -- the end of the list, with the separator that stands there
  abbrev ending : Form L R (Unit {0})
  ending = Map (λ _. tt) sep

  more_to : (u : List L.token) (a : A) → Derives ρ (sep >> x) u a → Derives ρ (list_turn sep x) u (More a)
  more_to u a (p, q, c, b, e, d, i, j) = (p, q, c, More b, e, d, inl (b, i, refl), ap (λ z. More z) j)

  more_back : (u : List L.token) (a : A) → Derives ρ (list_turn sep x) u (More a) → Derives ρ (sep >> x) u a
  more_back u a (p, q, c, b, e, d, inl (z, i, k), j) = let same : ◌≡◌ {A = Step A (Unit {0})} (More z) (More a) = k ∙ j in let one : z ≡ a = cc in (p, q, c, z, e, d, i, one)
  more_back u a (p, q, c, b, e, d, inr (i, k), j) = let other : ◌≡◌ {A = Step A (Unit {0})} (Last tt) (More a) = k ∙ j in absurd (cc)

  last_to : (u : List L.token) (o : Unit {0}) → Derives ρ ending u o → Derives ρ (list_turn sep x) u (Last o)
  last_to u o (c, d, e) = (u, [], c, Last tt, sym (append-nil u), d, inr (refl, refl), refl)

  last_back : (u : List L.token) (o : Unit {0}) → Derives ρ (list_turn sep x) u (Last o) → Derives ρ ending u o
  last_back u o (p, q, c, b, e, d, inl (z, i, k), j) = let other : ◌≡◌ {A = Step A (Unit {0})} (More z) (Last o) = k ∙ j in absurd (cc)
  last_back u o (p, q, c, b, e, d, inr (i, k), j) = (c, subst (λ z. Derives ρ sep z c) (sym (e ∙ ap (λ z. p ++ z) i ∙ append-nil p)) d, refl)

  begin_to : (w : List L.token) → Begun ρ β (sep >> x) w ⊎ Begun ρ β ending w → Begun ρ β (list_turn sep x) w
  begin_to w (inl (inl b)) = inl b
  begin_to w (inl (inr (u, v, c, e, d, b))) = inr (u, v, c, e, d, inl b)
  begin_to w (inr b) = inl b

  begin_back : (w : List L.token) → Begun ρ β (list_turn sep x) w → Begun ρ β (sep >> x) w ⊎ Begun ρ β ending w
  begin_back w (inl b) = inl (inl b)
  begin_back w (inr (u, v, c, e, d, inl b)) = inl (inr (u, v, c, e, d, b))
  begin_back w (inr (u, v, c, e, d, inr b)) = inl (inr (u, v, c, e, d, subst (Begun ρ β x) (sym b) (begun_nothing ρ β s.none x)))

  -- whether a separator stands at the end leaves no trace
  plain : (w : List L.token) (as' : List A) → Derives ρ (Seq (λ as' _. as') (star (sep >> x)) (optional sep)) w as' → Derives ρ (Seq (λ as' _. as') (star (sep >> x)) (optional ending)) w as'
  plain w as' (p, q, bs, o, e, d, inl (c, i, k), j) = (p, q, bs, Some tt, e, d, inl (tt, (c, i, refl), refl), j)
  plain w as' (p, q, bs, o, e, d, inr (i, k), j) = (p, q, bs, None, e, d, inr (i, refl), j)

  fancy : (w : List L.token) (as' : List A) → Derives ρ (Seq (λ as' _. as') (star (sep >> x)) (optional ending)) w as' → Derives ρ (Seq (λ as' _. as') (star (sep >> x)) (optional sep)) w as'
  fancy w as' (p, q, bs, o, e, d, inl (u, (c, i, l), k), j) = (p, q, bs, Some c, e, d, inl (c, i, refl), j)
  fancy w as' (p, q, bs, o, e, d, inr (i, k), j) = (p, q, bs, None, e, d, inr (i, refl), j)

  same_end : Same ρ β (Seq (λ as' _. as') (star (sep >> x)) (optional sep)) (Seq (λ as' _. as') (star (sep >> x)) (optional ending))
  same_end = record { to = plain; from = fancy; begun_to = λ w b. b; begun_from = λ w b. b }

  same_rest : Same ρ β (Seq (λ as' _. as') (star (sep >> x)) (optional sep)) (Loop (λ as' _. as') (list_turn sep x))
  same_rest =
      same_trans L R ρ β (Seq (λ as' _. as') (star (sep >> x)) (optional sep)) (Seq (λ as' _. as') (star (sep >> x)) (optional ending)) (Loop (λ as' _. as') (list_turn sep x)) same_end
      (same_tail L R ρ β s (sep >> x) ending (list_turn sep x) more_to more_back last_to last_back begin_to begin_back (λ as' _. as'))

  -- the list as it is written is the list as it is read
  pub same_list : Same ρ β (list sep x) (list_read sep x)
  same_list = same_seq L R ρ β (λ a as'. a ∷ as') x x (Seq (λ as' _. as') (star (sep >> x)) (optional sep)) (Loop (λ as' _. as') (list_turn sep x)) (same L R ρ β x) same_rest
