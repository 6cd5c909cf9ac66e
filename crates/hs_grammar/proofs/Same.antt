-- Two forms that derive the same and are begun by the same.
use Rattle.std.proofs.Common.{ℕ, zero, suc, Bool, true, false, List, [], ◌∷◌, ◌++◌, Option, Some, None, inl, inr, refl}
use Rattle.hs_grammar.specs.Form.{Lexis, Rules, Step, More, Last, Form, Pure, Tok, Nt, Map, Seq, Split, Alt, Loop, Unless, Grammar}
use Rattle.hs_grammar.specs.Derives.{Derivings, Beginnings, Turns, Where, Derives, Begun, DerivesBy, BegunBy, DerivesAs, IsBegun}
use Rattle.hs_grammar.specs.Break.{CannotGoOn, Breaks}
use Rattle.hs_grammar.specs.Same.{Same, Sane, SameGrammars}
use Rattle.hs_grammar.proofs.Exact.{begun_nothing, begun_by}

-- ---- more from the rules gives more from a form

module _ (L : Lexis) (R : Rules) (ρ σ : Derivings L R) (β γ : Beginnings L R)
    (up : (N : R.rule) (w : List L.token) (y : R.value N) → ρ N w y → σ N w y) (up_begun : (N : R.rule) (w : List L.token) → β N w → γ N w) where
  more_turns : {A E : Type 0} (f : Form L R (Step A E)) (as' : List A) (e : Option E) (w : List L.token) → ((w : List L.token) (x : Step A E) → Derives ρ f w x → Derives σ f w x)
      → Turns (Derives ρ f) as' e w → Turns (Derives σ f) as' e w
  more_turns f [] None w ih t = t
  more_turns f [] (Some x) w ih t = ih w (Last x) t
  more_turns f (a ∷ as') e w ih (u, v, i, d, t) = (u, v, i, ih u (More a) d, more_turns f as' e v ih t)

  more_where : {X Y X' Y' : Type 0} (c : Bool) → (X → X') → (Y → Y') → Where c X Y → Where c X' Y'
  more_where true f g i = f i
  more_where false f g i = g i

  -- what a form derives it derives from more
  pub more_derived : {C : Type 0} (f : Form L R C) (w : List L.token) (x : C) → Derives ρ f w x → Derives σ f w x
  more_derived (Pure c) w x d = d
  more_derived (Tok ks h) w x d = d
  more_derived (Nt N h) w x (y, d, e) = (y, up N w y d, e)
  more_derived (Map h f) w x (a, d, e) = (a, more_derived f w a d, e)
  more_derived (Seq h f g) w x (u, v, a, b, e, d, i, j) = (u, v, a, b, e, more_derived f u a d, more_derived g v b i, j)
  more_derived (Split q h f g k) w x (u, v, a, b, e, d, i, j) = (u, v, a, b, e, more_derived f u a d, more_where (q a) (more_derived g v b) (more_derived k v b) i, j)
  more_derived (Alt f g) w x (inl d) = inl (more_derived f w x d)
  more_derived (Alt f g) w x (inr d) = inr (more_derived g w x d)
  more_derived (Loop h f) w x (as', e, t, i) = (as', e, more_turns f as' e w (more_derived f) t, i)
  more_derived (Unless ks f) w x (e, d) = (e, more_derived f w x d)

  -- what begins a form begins it from more
  pub more_begun : {C : Type 0} (f : Form L R C) (w : List L.token) → Begun ρ β f w → Begun σ γ f w
  more_begun (Pure c) w b = b
  more_begun (Tok ks h) w b = b
  more_begun (Nt N h) w b = up_begun N w b
  more_begun (Map h f) w b = more_begun f w b
  more_begun (Seq h f g) w (inl b) = inl (more_begun f w b)
  more_begun (Seq h f g) w (inr (u, v, a, e, d, b)) = inr (u, v, a, e, more_derived f u a d, more_begun g v b)
  more_begun (Split q h f g k) w (inl b) = inl (more_begun f w b)
  more_begun (Split q h f g k) w (inr (u, v, a, e, d, b)) = inr (u, v, a, e, more_derived f u a d, more_where (q a) (more_begun g v) (more_begun k v) b)
  more_begun (Alt f g) w (inl b) = inl (more_begun f w b)
  more_begun (Alt f g) w (inr b) = inr (more_begun g w b)
  more_begun (Loop h f) w (inl e) = inl e
  more_begun (Loop h f) w (inr (u, v, as', e, t, b)) = inr (u, v, as', e, more_turns f as' None u (more_derived f) t, more_begun f v b)
  more_begun (Unless ks f) w (e, b) = (e, more_begun f w b)

-- ---- the same, for any rules

module _ (L : Lexis) (R : Rules) (ρ : Derivings L R) (β : Beginnings L R) where
  -- a form is the same as itself
  pub same : {C : Type 0} (f : Form L R C) → Same ρ β f f
  same f = record { to = λ w x d. d; from = λ w x d. d; begun_to = λ w b. b; begun_from = λ w b. b }

  -- the other way round
  pub same_sym : {C : Type 0} (f g : Form L R C) → Same ρ β f g → Same ρ β g f
  same_sym f g s = record { to = s.from; from = s.to; begun_to = s.begun_from; begun_from = s.begun_to }

  -- by a third form
  pub same_trans : {C : Type 0} (f g k : Form L R C) → Same ρ β f g → Same ρ β g k → Same ρ β f k
  same_trans f g k s t = record {
    to = λ w x d. t.to w x (s.to w x d);
    from = λ w x d. s.from w x (t.from w x d);
    begun_to = λ w b. t.begun_to w (s.begun_to w b);
    begun_from = λ w b. s.begun_from w (t.begun_from w b);
  }

  -- under a map
  pub same_map : {A C : Type 0} (h : A → C) (f k : Form L R A) → Same ρ β f k → Same ρ β (Map h f) (Map h k)
  same_map h f k s = record {
    to = λ w x d. (d.0, s.to w d.0 d.1, d.2);
    from = λ w x d. (d.0, s.from w d.0 d.1, d.2);
    begun_to = s.begun_to;
    begun_from = s.begun_from;
  }

  -- in an alternative
  pub same_alt : {C : Type 0} (f k g l : Form L R C) → Same ρ β f k → Same ρ β g l → Same ρ β (Alt f g) (Alt k l)
  same_alt f k g l s t = record {
    to = λ w x. elim [ inl d ↦ inl (s.to w x d) | inr d ↦ inr (t.to w x d) ];
    from = λ w x. elim [ inl d ↦ inl (s.from w x d) | inr d ↦ inr (t.from w x d) ];
    begun_to = λ w. elim [ inl b ↦ inl (s.begun_to w b) | inr b ↦ inr (t.begun_to w b) ];
    begun_from = λ w. elim [ inl b ↦ inl (s.begun_from w b) | inr b ↦ inr (t.begun_from w b) ];
  }

  -- under a side sentence
  pub same_unless : {C : Type 0} (ks : List L.kind) (f k : Form L R C) → Same ρ β f k → Same ρ β (Unless ks f) (Unless ks k)
  same_unless ks f k s = record {
    to = λ w x d. (d.0, s.to w x d.1);
    from = λ w x d. (d.0, s.from w x d.1);
    begun_to = λ w b. (b.0, s.begun_to w b.1);
    begun_from = λ w b. (b.0, s.begun_from w b.1);
  }

  seq_derived : {A B C : Type 0} (h : A → B → C) (f k : Form L R A) (g l : Form L R B) → ((w : List L.token) (x : A) → Derives ρ f w x → Derives ρ k w x) → ((w : List L.token) (x : B) → Derives ρ g w x → Derives ρ l w x)
      → (w : List L.token) (x : C) → Derives ρ (Seq h f g) w x → Derives ρ (Seq h k l) w x
  seq_derived h f k g l p q w x (u, v, a, b, e, d, i, j) = (u, v, a, b, e, p u a d, q v b i, j)

  seq_begun : {A B C : Type 0} (h : A → B → C) (f k : Form L R A) (g l : Form L R B) → ((w : List L.token) (x : A) → Derives ρ f w x → Derives ρ k w x) → ((w : List L.token) → Begun ρ β f w → Begun ρ β k w) → ((w : List L.token) → Begun ρ β g w → Begun ρ β l w)
      → (w : List L.token) → Begun ρ β (Seq h f g) w → Begun ρ β (Seq h k l) w
  seq_begun h f k g l p q r w (inl b) = inl (q w b)
  seq_begun h f k g l p q r w (inr (u, v, a, e, d, b)) = inr (u, v, a, e, p u a d, r v b)

  -- in a sequence
  pub same_seq : {A B C : Type 0} (h : A → B → C) (f k : Form L R A) (g l : Form L R B) → Same ρ β f k → Same ρ β g l → Same ρ β (Seq h f g) (Seq h k l)
  same_seq h f k g l s t = record {
    to = seq_derived h f k g l s.to t.to;
    from = seq_derived h k f l g s.from t.from;
    begun_to = seq_begun h f k g l s.to s.begun_to t.begun_to;
    begun_from = seq_begun h k f l g s.from s.begun_from t.begun_from;
  }

  split_where : {X Y X' Y' : Type 0} (c : Bool) → (X → X') → (Y → Y') → Where c X Y → Where c X' Y'
  split_where true f g i = f i
  split_where false f g i = g i

  split_derived : {A B C : Type 0} (c : A → Bool) (h : A → B → C) (f k : Form L R A) (g l m n : Form L R B) → ((w : List L.token) (x : A) → Derives ρ f w x → Derives ρ k w x) → ((w : List L.token) (x : B) → Derives ρ g w x → Derives ρ l w x) → ((w : List L.token) (x : B) → Derives ρ m w x → Derives ρ n w x)
      → (w : List L.token) (x : C) → Derives ρ (Split c h f g m) w x → Derives ρ (Split c h k l n) w x
  split_derived c h f k g l m n p q r w x (u, v, a, b, e, d, i, j) = (u, v, a, b, e, p u a d, split_where (c a) (q v b) (r v b) i, j)

  split_begun : {A B C : Type 0} (c : A → Bool) (h : A → B → C) (f k : Form L R A) (g l m n : Form L R B) → ((w : List L.token) (x : A) → Derives ρ f w x → Derives ρ k w x) → ((w : List L.token) → Begun ρ β f w → Begun ρ β k w) → ((w : List L.token) → Begun ρ β g w → Begun ρ β l w) → ((w : List L.token) → Begun ρ β m w → Begun ρ β n w)
      → (w : List L.token) → Begun ρ β (Split c h f g m) w → Begun ρ β (Split c h k l n) w
  split_begun c h f k g l m n p q r o w (inl b) = inl (q w b)
  split_begun c h f k g l m n p q r o w (inr (u, v, a, e, d, b)) = inr (u, v, a, e, p u a d, split_where (c a) (r v) (o v) b)

  -- where the first part's value decides
  pub same_split : {A B C : Type 0} (c : A → Bool) (h : A → B → C) (f k : Form L R A) (g l m n : Form L R B) → Same ρ β f k → Same ρ β g l → Same ρ β m n → Same ρ β (Split c h f g m) (Split c h k l n)
  same_split c h f k g l m n s t v = record {
    to = split_derived c h f k g l m n s.to t.to v.to;
    from = split_derived c h k f l g n m s.from t.from v.from;
    begun_to = split_begun c h f k g l m n s.to s.begun_to t.begun_to v.begun_to;
    begun_from = split_begun c h k f l g n m s.from s.begun_from t.begun_from v.begun_from;
  }

  loop_turns : {A E : Type 0} (f k : Form L R (Step A E)) → ((w : List L.token) (x : Step A E) → Derives ρ f w x → Derives ρ k w x)
      → (as' : List A) (e : Option E) (w : List L.token) → Turns (Derives ρ f) as' e w → Turns (Derives ρ k) as' e w
  loop_turns f k p [] None w t = t
  loop_turns f k p [] (Some x) w t = p w (Last x) t
  loop_turns f k p (a ∷ as') e w (u, v, i, d, t) = (u, v, i, p u (More a) d, loop_turns f k p as' e v t)

  loop_begun : {A E C : Type 0} (h : List A → Option E → C) (f k : Form L R (Step A E)) → ((w : List L.token) (x : Step A E) → Derives ρ f w x → Derives ρ k w x) → ((w : List L.token) → Begun ρ β f w → Begun ρ β k w)
      → (w : List L.token) → Begun ρ β (Loop h f) w → Begun ρ β (Loop h k) w
  loop_begun h f k p q w (inl e) = inl e
  loop_begun h f k p q w (inr (u, v, as', e, t, b)) = inr (u, v, as', e, loop_turns f k p as' None u t, q v b)

  -- in a loop
  pub same_loop : {A E C : Type 0} (h : List A → Option E → C) (f k : Form L R (Step A E)) → Same ρ β f k → Same ρ β (Loop h f) (Loop h k)
  same_loop h f k s = record {
    to = λ w x d. (d.0, d.1, loop_turns f k s.to d.0 d.1 w d.2, d.3);
    from = λ w x d. (d.0, d.1, loop_turns k f s.from d.0 d.1 w d.2, d.3);
    begun_to = loop_begun h f k s.to s.begun_to;
    begun_from = loop_begun h k f s.from s.begun_from;
  }

-- ---- from the grammar as it is written to the one that is parsed

-- the rules of a grammar are sane at each height
pub sane_by : {L : Lexis} {R : Rules} (f : Grammar L R) (n : ℕ) → Sane L R (DerivesBy f n) (BegunBy f n)
sane_by f zero = record { none = λ N. refl; begun = λ N w y d. absurd d }
sane_by {L} {R} f (suc n) = let s = sane_by f n in record {
  none = λ N. begun_nothing (DerivesBy f n) (BegunBy f n) s.none (f N);
  begun = λ N w y d. begun_by L R (DerivesBy f n) (BegunBy f n) s.none s.begun (f N) w y d;
}

-- forms that are the same for any sane rules make grammars that are the same
pub same_grammars : {L : Lexis} {R : Rules} (h g : Grammar L R) → ((ρ : Derivings L R) (β : Beginnings L R) → Sane L R ρ β → (N : R.rule) → Same ρ β (h N) (g N)) → SameGrammars h g
same_grammars h g each n N = (each (DerivesBy g n) (BegunBy g n) (sane_by g n) N, each (DerivesBy h n) (BegunBy h n) (sane_by h n) N)

module _ {L : Lexis} {R : Rules} (h g : Grammar L R) (each : SameGrammars h g) where
  -- what the one derives the other derives, at the same height
  pub derived_to : (n : ℕ) (N : R.rule) (w : List L.token) (x : R.value N) → DerivesBy h n N w x → DerivesBy g n N w x
  derived_to zero N w x d = d
  derived_to (suc n) N w x d =
      (each n N).0.to w x
      (more_derived L R (DerivesBy h n) (DerivesBy g n) (λ N w. Unit {0}) (λ N w. Unit {0}) (derived_to n) (λ N w b. b) (h N) w x d)

  -- and the other way round
  pub derived_from : (n : ℕ) (N : R.rule) (w : List L.token) (x : R.value N) → DerivesBy g n N w x → DerivesBy h n N w x
  derived_from zero N w x d = d
  derived_from (suc n) N w x d =
      (each n N).1.from w x
      (more_derived L R (DerivesBy g n) (DerivesBy h n) (λ N w. Unit {0}) (λ N w. Unit {0}) (derived_from n) (λ N w b. b) (g N) w x d)

  begun_to_by : (n : ℕ) (N : R.rule) (w : List L.token) → BegunBy h n N w → BegunBy g n N w
  begun_to_by zero N w d = d
  begun_to_by (suc n) N w d =
      (each n N).0.begun_to w
      (more_begun L R (DerivesBy h n) (DerivesBy g n) (BegunBy h n) (BegunBy g n) (derived_to n) (begun_to_by n) (h N) w d)

  begun_from_by : (n : ℕ) (N : R.rule) (w : List L.token) → BegunBy g n N w → BegunBy h n N w
  begun_from_by zero N w d = d
  begun_from_by (suc n) N w d =
      (each n N).1.begun_from w
      (more_begun L R (DerivesBy g n) (DerivesBy h n) (BegunBy g n) (BegunBy h n) (derived_from n) (begun_from_by n) (g N) w d)

  -- the grammars derive the same
  pub derives_to : (N : R.rule) (w : List L.token) (x : R.value N) → DerivesAs h N w x → DerivesAs g N w x
  derives_to N w x d = (d.0, derived_to d.0 N w x d.1)

  -- and the other way round
  pub derives_from : (N : R.rule) (w : List L.token) (x : R.value N) → DerivesAs g N w x → DerivesAs h N w x
  derives_from N w x d = (d.0, derived_from d.0 N w x d.1)

  -- the grammars are begun by the same
  pub begins_to : (N : R.rule) (w : List L.token) → IsBegun h N w → IsBegun g N w
  begins_to N w d = (d.0, begun_to_by d.0 N w d.1)

  -- and the other way round
  pub begins_from : (N : R.rule) (w : List L.token) → IsBegun g N w → IsBegun h N w
  begins_from N w d = (d.0, begun_from_by d.0 N w d.1)

  -- where the one breaks the other breaks
  pub breaks_from : (N : R.rule) (w rest : List L.token) → Breaks g N w rest → Breaks h N w rest
  breaks_from N w rest b = record {
    before = b.before;
    whole = b.whole;
    begun = λ a c i. begins_from N a (b.begun a c i);
    over = go rest b.over;
  }
    where
      go : (rest : List L.token) → CannotGoOn g N b.before rest → CannotGoOn h N b.before rest
      go [] over = λ x d. over x (derives_to N b.before x d)
      go (t ∷ r) over = λ d. over (begins_to N (b.before ++ t ∷ []) d)
