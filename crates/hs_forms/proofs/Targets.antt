-- What is assigned, and the expressions that are places.
use Rattle.std.proofs.Common.{◌≡◌, zero, true, false, ◌||◌, List, [], ◌∷◌, ◌++◌, Some, None, ◌⊎◌, inl, inr, refl, sym, ap, ◌∙◌, subst, append-nil}
use Rattle.std.proofs.lemmas.Bool.{both_ways, or_cases, or_right}
use Rattle.hs_grammar.specs.Form.{Grammar}
use Rattle.hs_grammar.specs.Kinds.{has, disjoint, starts}
use Rattle.hs_grammar.specs.Derives.{Derivings, Beginnings, Turns, Derives, Begun, DerivesBy, BegunBy}
use Rattle.hs_grammar.specs.Same.{Same}
use Rattle.hs_grammar.specs.Combinators.{word, ◌>>◌, item, star}
use Rattle.hs_grammar.proofs.Sets.{has-disjoint}
use Rattle.hs_syntax.specs.declared.span.Span.{Span}
use Rattle.hs_syntax.specs.declared.exp.PrefixOp.{PrefixOp}
use Rattle.hs_syntax.specs.declared.exp.PrefixOp.TheVariants as prefix
use Rattle.hs_syntax.specs.declared.exp.Target.{Target}
use Rattle.hs_syntax.specs.declared.exp.Exp.{Exp}
use Rattle.hs_syntax.specs.declared.exp.Operand.{Operand}
use Rattle.hs_syntax.specs.declared.exp.Step.{Step}
use Rattle.hs_syntax.specs.declared.exp.Level.{Level}
use Rattle.hs_syntax.specs.declared.exp.Level.TheVariants as level
use Rattle.hs_syntax.specs.Spans.{span_of_exp}
use Rattle.hs_forms.specs.declared.token.Kind.{Kind}
use Rattle.hs_forms.specs.declared.token.Kind.TheVariants as k
use Rattle.hs_forms.specs.declared.token.Token.{Token}
use Rattle.hs_forms.specs.Lexis.{lexis, decides, same}
use Rattle.hs_forms.specs.Nodes.{across, prefix_of, prefix_named, cast_of, binary_of}
use Rattle.hs_forms.specs.Blocks.{steps_layer, steps_in, target_of, starred, place_layer, place_in}
use Rattle.hs_forms.specs.Reading.{Rule, RExp, RUnary, RPlace, RPlaced, rules, F, name_kinds, name, post, unary, cast, operand, one_or_none, operands, levels, binary, place_form, plain_target, starred_target, placed_form, grammar}
use Rattle.hs_forms.proofs.Flags.{no_last}
use Rattle.hs_forms.proofs.Layers.{out_prefix}
use Rattle.hs_forms.proofs.Places.{Stepping, no_cast, no_binary, post_is, post_from, post_begun}

-- what stands alone begins with one of these
abbrev pub alone_kinds : List Kind
alone_kinds = k.LeftBrace ∷ k.If ∷ k.Match ∷ []

-- what holds of the rules: which expressions are places, and that places are expressions
pub record Targets (ρ : Derivings lexis rules) (β : Beginnings lexis rules) : Type 0 where
  pub steps : (w : List Token) (e : Exp) → ρ RUnary w e → ((q : Span × List Step) × ρ RPlace w q × Stepping e q) ⊎ (steps_in e ≡ None)
  pub step : (w : List Token) (q : Span × List Step) → ρ RPlace w q → (e : Exp) × ρ RUnary w e × Stepping e q
  pub step_begun : (w : List Token) → β RPlace w → β RUnary w
  pub places : (w : List Token) (e : Exp) → ρ RExp w e → ((p : Target × List Step) × ρ RPlaced w p × (place_in e ≡ Some p)) ⊎ (place_in e ≡ None)
  pub place : (w : List Token) (p : Target × List Step) → ρ RPlaced w p → (e : Exp) × ρ RExp w e × (place_in e ≡ Some p)
  pub place_begun : (w : List Token) → β RPlaced w → β RExp w
  pub apart : (w : List Token) (p : Target × List Step) → ρ RPlaced w p → (v : List Token) → starts lexis alone_kinds (w ++ v) ≡ false
  pub begun_apart : (w : List Token) → β RPlaced w → starts lexis alone_kinds w ≡ false

-- ---- prefixes

prefix_steps : (t : Token) (e : Exp) → steps_in (prefix_of t e) ≡ None
unfolding steps_in
prefix_steps t e = ap steps_layer (out_prefix (across t.span (span_of_exp e)) (prefix_named t.kind) e)

prefix_place : (t : Token) (e : Exp) → place_in (prefix_of t e) ≡ starred (across t.span (span_of_exp e)) (prefix_named t.kind) e
unfolding place_in
prefix_place t e = ap (place_layer (prefix_of t e)) (out_prefix (across t.span (span_of_exp e)) (prefix_named t.kind) e)

starred_place : (t : Token) (e : Exp) (q : Span × List Step) → t.kind ≡ k.Star → Stepping e q → place_in (prefix_of t e) ≡ Some (starred_target t.span q)
starred_place t e q h s =
    prefix_place t e
    ∙ ap (λ z. starred (across t.span (span_of_exp e)) (prefix_named z) e) h
    ∙ ap (λ z. target_of (across t.span (span_of_exp e)) true z) s.0
    ∙ ap (λ z. target_of (across t.span z) true (Some q)) s.1.1

star_kind : (t : Token) → has lexis (k.Star ∷ []) t.kind ≡ true → t.kind ≡ k.Star
star_kind t h = elim (or_cases (same k.Star t.kind) false h) [ inl e ↦ sym (decides.one k.Star t.kind e) | inr e ↦ absurd (both_ways false refl e) ]

star_prefix : (t : Token) → has lexis (k.Star ∷ []) t.kind ≡ true → has lexis (k.Minus ∷ k.Not ∷ k.Star ∷ []) t.kind ≡ true
star_prefix t h = or_right (same k.Minus t.kind) (same k.Not t.kind || (same k.Star t.kind || false)) (or_right (same k.Not t.kind) (same k.Star t.kind || false) h)

star_starts : (w : List Token) → starts lexis (k.Star ∷ []) w ≡ true → starts lexis (k.Minus ∷ k.Not ∷ k.Star ∷ []) w ≡ true
star_starts [] h = absurd (both_ways false refl h)
star_starts (t ∷ w) h = star_prefix t h

-- a token of a kind that begins nothing that stands alone
apart_token : (ks : List Kind) (t : Token) (v : List Token) → disjoint lexis ks alone_kinds ≡ true → has lexis ks t.kind ≡ true → starts lexis alone_kinds (t ∷ v) ≡ false
apart_token ks t v d h = has-disjoint lexis decides ks alone_kinds t.kind d h

module _ (ρ : Derivings lexis rules) (β : Beginnings lexis rules) (targets : Targets ρ β) where
  -- ---- operands with a prefix

  unary_steps : (w : List Token) (e : Exp) → Derives ρ unary w e → ((q : Span × List Step) × Derives ρ place_form w q × Stepping e q) ⊎ (steps_in e ≡ None)
  unfolding unary
  unary_steps w e (inl (u, v, t, a, i, d, dy, j)) = inr (subst (λ z. steps_in z ≡ None) j (prefix_steps t a))
  unary_steps w e (inr d) = elim (post_is ρ β w e d) [ inl s ↦ inl s | inr s ↦ inr s.0 ]

  unary_step : (w : List Token) (q : Span × List Step) → Derives ρ place_form w q → (e : Exp) × Derives ρ unary w e × Stepping e q
  unfolding unary
  unary_step w q d = let f : (e : Exp) × Derives ρ post w e × Stepping e q = post_from ρ β w q d in (f.0, inr f.1, f.2)

  unary_step_begun : (w : List Token) → Begun ρ β place_form w → Begun ρ β unary w
  unfolding unary
  unary_step_begun w b = inr (post_begun ρ β w b)

  -- a place, or none
  Placing : List Token → Exp → Type 0
  Placing w e = ((p : Target × List Step) × Derives ρ placed_form w p × (place_in e ≡ Some p)) ⊎ (place_in e ≡ None)

  unary_places : (w : List Token) (e : Exp) → Derives ρ unary w e → Placing w e
  unfolding Placing unary placed_form
  unary_places w e (inr d) = elim (post_is ρ β w e d) [ inl (q, d, s) ↦ inl (plain_target q, inr (q, d, refl), s.1.0) | inr s ↦ inr s.1 ]
  unary_places w e (inl (u, v, t', a', i, (t, f, b, x), (a, da, y), j')) = pick (or_cases (same k.Minus t.kind) (same k.Not t.kind || (same k.Star t.kind || false)) (subst (λ z. starts lexis (k.Minus ∷ k.Not ∷ k.Star ∷ []) z ≡ true) f b))
    where
      j : prefix_of t a ≡ e
      j = ap (λ z. prefix_of z a) x ∙ ap (prefix_of t') y ∙ j'

      none : (o : PrefixOp) → prefix_named t.kind ≡ o → starred (across t.span (span_of_exp a)) o a ≡ None → Placing w e
      none o g h = inr (subst (λ z. place_in z ≡ None) j (prefix_place t a ∙ ap (λ z. starred (across t.span (span_of_exp a)) z a) g ∙ h))

      read : has lexis (k.Star ∷ []) t.kind ≡ true → ((q : Span × List Step) × ρ RPlace v q × Stepping a q) ⊎ (steps_in a ≡ None) → Placing w e
      read h (inl (q, dq, s)) =
          inl (
            starred_target t.span q,
            inl (u, v, t.span, q, i, (t, f, subst (λ z. starts lexis (k.Star ∷ []) z ≡ true) (sym f) h, refl), (q, dq, refl), refl),
            subst (λ z. place_in z ≡ Some (starred_target t.span q)) j (starred_place t a q (star_kind t h) s),
          )
      read h (inr s) =
          none prefix.Read (ap prefix_named (star_kind t h)) (ap (λ z. target_of (across t.span (span_of_exp a)) true z) s)

      rest : (same k.Not t.kind ≡ true) ⊎ (same k.Star t.kind || false ≡ true) → Placing w e
      rest (inl h) = none prefix.Not (ap prefix_named (sym (decides.one k.Not t.kind h))) refl
      rest (inr h) = read h (targets.steps v a da)

      pick : (same k.Minus t.kind ≡ true) ⊎ (same k.Not t.kind || (same k.Star t.kind || false) ≡ true) → Placing w e
      pick (inl h) = none prefix.Negate (ap prefix_named (sym (decides.one k.Minus t.kind h))) refl
      pick (inr h) = rest (or_cases (same k.Not t.kind) (same k.Star t.kind || false) h)

  unary_place : (w : List Token) (p : Target × List Step) → Derives ρ placed_form w p → (e : Exp) × Derives ρ unary w e × (place_in e ≡ Some p)
  unfolding unary placed_form
  unary_place w p (inr (q, d, j)) = let f : (e : Exp) × Derives ρ post w e × Stepping e q = post_from ρ β w q d in (f.0, inr f.1, f.2.1.0 ∙ ap (λ z. Some z) j)
  unary_place w p (inl (u, v, s, q', i, (t, f, b, x), (q, dq, y), j)) =
      let a : (e : Exp) × ρ RUnary v e × Stepping e q = targets.step v q dq in
      let h : has lexis (k.Star ∷ []) t.kind ≡ true = subst (λ z. starts lexis (k.Star ∷ []) z ≡ true) f b in (
        prefix_of t a.0,
        inl (u, v, t, a.0, i, (t, f, star_starts u b, refl), (a.0, a.1, refl), refl),
        starred_place t a.0 q (star_kind t h) a.2 ∙ ap (λ z. Some (starred_target z q)) x ∙ ap (λ z. Some (starred_target s z)) y ∙ ap (λ z. Some z) j,
      )

  unary_begun : (w : List Token) → Begun ρ β placed_form w → Begun ρ β unary w
  unfolding unary placed_form
  unary_begun w (inl (inl (inl e))) = inl (inl (inl e))
  unary_begun w (inl (inl (inr (t, f, b)))) = inl (inl (inr (t, f, star_starts w b)))
  unary_begun w (inl (inr (u, v, s, i, (t, f, b, x), d))) = inl (inr (u, v, t, i, (t, f, star_starts u b, refl), targets.step_begun v d))
  unary_begun w (inr b) = inr (post_begun ρ β w b)

  -- ---- what a place begins with

  placed_apart : (w : List Token) (p : Target × List Step) → Derives ρ placed_form w p → (z : List Token) → starts lexis alone_kinds (w ++ z) ≡ false
  unfolding placed_form place_form name
  placed_apart w p (inl (u, v, s, q, i, (t, f, b, x), d, j)) z =
      subst (λ y. starts lexis alone_kinds (y ++ z) ≡ false) (sym (i ∙ ap (λ y. y ++ v) f)) (apart_token (k.Star ∷ []) t (v ++ z) refl (subst (λ y. starts lexis (k.Star ∷ []) y ≡ true) f b))
  placed_apart w p (inr (q, (u, v, n, ps, i, (t, f, b, x), d, y), j)) z =
      subst (λ y. starts lexis alone_kinds (y ++ z) ≡ false) (sym (i ∙ ap (λ y. y ++ v) f)) (apart_token name_kinds t (v ++ z) refl (subst (λ y. starts lexis name_kinds y ≡ true) f b))

  placed_begun_apart : (w : List Token) → Begun ρ β placed_form w → starts lexis alone_kinds w ≡ false
  unfolding placed_form place_form name
  placed_begun_apart w (inl (inl (inl e))) = subst (λ y. starts lexis alone_kinds y ≡ false) (sym e) refl
  placed_begun_apart w (inl (inl (inr (t, f, b)))) =
      subst (λ y. starts lexis alone_kinds y ≡ false) (sym f) (apart_token (k.Star ∷ []) t [] refl (subst (λ y. starts lexis (k.Star ∷ []) y ≡ true) f b))
  placed_begun_apart w (inl (inr (u, v, s, i, (t, f, b, x), d))) =
      subst (λ y. starts lexis alone_kinds y ≡ false) (sym (i ∙ ap (λ y. y ++ v) f)) (apart_token (k.Star ∷ []) t v refl (subst (λ y. starts lexis (k.Star ∷ []) y ≡ true) f b))
  placed_begun_apart w (inr (inl (inl e))) = subst (λ y. starts lexis alone_kinds y ≡ false) (sym e) refl
  placed_begun_apart w (inr (inl (inr (t, f, b)))) =
      subst (λ y. starts lexis alone_kinds y ≡ false) (sym f) (apart_token name_kinds t [] refl (subst (λ y. starts lexis name_kinds y ≡ true) f b))
  placed_begun_apart w (inr (inr (u, v, n, i, (t, f, b, x), d))) =
      subst (λ y. starts lexis alone_kinds y ≡ false) (sym (i ∙ ap (λ y. y ++ v) f)) (apart_token name_kinds t v refl (subst (λ y. starts lexis name_kinds y ≡ true) f b))

  -- ---- levels

  -- what is no more than its first part is that part
  only_first : (f : F Exp) (u v w : List Token) (e : Exp) → w ≡ u ++ v → v ≡ [] → Derives ρ f u e → Derives ρ f w e
  only_first f u v w e i n d = subst (λ z. Derives ρ f z e) (sym (i ∙ ap (λ z. u ++ z) n ∙ append-nil u)) d

  placing_first : (u v w : List Token) (e : Exp) → w ≡ u ++ v → v ≡ [] → Placing u e → Placing w e
  placing_first u v w e i n p = subst (λ z. Placing z e) (sym (i ∙ ap (λ z. u ++ z) n ∙ append-nil u)) p

  cast_places : (w : List Token) (e : Exp) → Derives ρ cast w e → Placing w e
  unfolding Placing cast
  cast_places w e (u, v, a, ns, i, d, (bs, o, t, x), j) = go bs (no_last lexis rules ρ β (word k.As >> name) bs o v t) (ap (cast_of a) x ∙ j)
    where
      go : (bs : List Span) → Turns (Derives ρ (item (word k.As >> name))) bs None v → cast_of a bs ≡ e → Placing w e
      go [] t j = placing_first u v w e i t (subst (Placing u) j (unary_places u a d))
      go (n ∷ ns) t j = inr (subst (λ z. place_in z ≡ None) j (no_cast _ a (n ∷ ns)).1.1)

  -- no operand is of no token
  no_operands : (l : Level) (f : F Exp) (v : List Token) (os : List Operand) → os ≡ [] → Derives ρ (operands l f) v os → v ≡ []
  unfolding operands
  no_operands level.Compare f v os h (a, inl (o, d, x), j) = let c : o ∷ [] ≡ [] = ap one_or_none x ∙ j ∙ h in absurd (cc)
  no_operands level.Compare f v os h (a, inr (i, x), j) = i
  no_operands l f v os h d = go d
    where
      go : Derives ρ (star (operand l f)) v os → v ≡ []
      go ([], None, t, x) = t
      go ([], Some z, (b, d, i), x) = absurd (cc)
      go (o ∷ bs, z, t, x) = absurd (cc)

  none_operands : (l : Level) (f : F Exp) → Derives ρ (operands l f) [] []
  unfolding operands
  none_operands level.Compare f = (None, inr (refl, refl), refl)
  none_operands l f = ([], None, refl, refl)

  binary_places : (ls : List Level) (w : List Token) (e : Exp) → Derives ρ (binary ls) w e → Placing w e
  unfolding Placing binary
  binary_places [] w e d = cast_places w e d
  binary_places (l ∷ ls) w e (u, v, a, os, i, d, x, j) = go (binary_places ls u a d) os x j
    where
      go : Placing u a → (os : List Operand) → Derives ρ (operands l (binary ls)) v os → binary_of a os ≡ e → Placing w e
      go p [] x j = placing_first u v w e i (no_operands l (binary ls) v [] refl x) (subst (Placing u) j p)
      go p (o ∷ os) x j = inr (subst (λ z. place_in z ≡ None) j (no_binary _ a (o ∷ os)).1.1)

  binary_up : (ls : List Level) (w : List Token) (e : Exp) → Derives ρ unary w e → Derives ρ (binary ls) w e
  unfolding binary cast
  binary_up [] w e d = (w, [], e, [], sym (append-nil w), d, ([], None, refl, refl), refl)
  binary_up (l ∷ ls) w e d = (w, [], e, [], sym (append-nil w), binary_up ls w e d, none_operands l (binary ls), refl)

  binary_begun : (ls : List Level) (w : List Token) → Begun ρ β unary w → Begun ρ β (binary ls) w
  unfolding binary cast
  binary_begun [] w b = inl b
  binary_begun (l ∷ ls) w b = inl (binary_begun ls w b)

  -- the same a rule deeper
  pub deeper : (f : Grammar lexis rules) → ((N : Rule) → Same ρ β (f N) (grammar N)) → Targets (λ N w x. Derives ρ (f N) w x) (λ N w. Begun ρ β (f N) w)
  unfolding Placing
  deeper f each = record {
    steps = λ w e d. elim (unary_steps w e ((each RUnary).to w e d)) [ inl (q, i, s) ↦ inl (q, (each RPlace).from w q i, s) | inr s ↦ inr s ];
    step = λ w q d. let a : (e : Exp) × Derives ρ unary w e × Stepping e q = unary_step w q ((each RPlace).to w q d) in (a.0, (each RUnary).from w a.0 a.1, a.2);
    step_begun = λ w b. (each RUnary).begun_from w (unary_step_begun w ((each RPlace).begun_to w b));
    places = λ w e d. elim (binary_places levels w e ((each RExp).to w e d)) [ inl (p, i, s) ↦ inl (p, (each RPlaced).from w p i, s) | inr s ↦ inr s ];
    place = λ w p d. let a : (e : Exp) × Derives ρ unary w e × (place_in e ≡ Some p) = unary_place w p ((each RPlaced).to w p d) in (a.0, (each RExp).from w a.0 (binary_up levels w a.0 a.1), a.2);
    place_begun = λ w b. (each RExp).begun_from w (binary_begun levels w (unary_begun w ((each RPlaced).begun_to w b)));
    apart = λ w p d. placed_apart w p ((each RPlaced).to w p d);
    begun_apart = λ w b. placed_begun_apart w ((each RPlaced).begun_to w b);
  }

-- where nothing is derived, nothing is a place
pub targets_zero : (f : Grammar lexis rules) → Targets (DerivesBy f zero) (BegunBy f zero)
targets_zero f = record {
  steps = λ w e d. absurd d;
  step = λ w q d. absurd d;
  step_begun = λ w b. b;
  places = λ w e d. absurd d;
  place = λ w p d. absurd d;
  place_begun = λ w b. b;
  apart = λ w p d. absurd d;
  begun_apart = λ w b. subst (λ z. starts lexis alone_kinds z ≡ false) (sym b) refl;
}
