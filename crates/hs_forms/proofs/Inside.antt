-- Forms that are the same inside a form, with what the goal tells left out.
use Rattle.std.proofs.Common.{List, Option, inl, inr, refl, ap, ◌∙◌}
use Rattle.hs_grammar.specs.Form.{Step, Map, Seq, Alt, Loop, Unless}
use Rattle.hs_grammar.specs.Derives.{Derivings, Beginnings}
use Rattle.hs_grammar.specs.Same.{Same, Sane}
use Rattle.hs_grammar.specs.Combinators.{optional, star, list, list_read}
use Rattle.hs_grammar.proofs.Same as forms
use Rattle.hs_grammar.proofs.Lists as lists
use Rattle.hs_forms.specs.declared.token.Kind.{Kind}
use Rattle.hs_forms.specs.Lexis.{lexis}
use Rattle.hs_forms.specs.Reading.{rules, F, comma}

module _ (ρ : Derivings lexis rules) (β : Beginnings lexis rules) where
  pub keep : {A : Type 0} {f : F A} → Same ρ β f f
  keep {f = f} = forms.same lexis rules ρ β f

  pub by : {A : Type 0} {f k : F A} (g : F A) → Same ρ β f g → Same ρ β g k → Same ρ β f k
  by {f = f} {k = k} g s t = forms.same_trans lexis rules ρ β f g k s t

  pub back : {A : Type 0} {f k : F A} → Same ρ β f k → Same ρ β k f
  back {f = f} {k = k} s = forms.same_sym lexis rules ρ β f k s

  pub seq : {A B C : Type 0} {h : A → B → C} {f k : F A} {g l : F B} → Same ρ β f k → Same ρ β g l → Same ρ β (Seq h f g) (Seq h k l)
  seq {h = h} {f = f} {k = k} {g = g} {l = l} s t = forms.same_seq lexis rules ρ β h f k g l s t

  pub alt : {A : Type 0} {f k g l : F A} → Same ρ β f k → Same ρ β g l → Same ρ β (Alt f g) (Alt k l)
  alt {f = f} {k = k} {g = g} {l = l} s t = forms.same_alt lexis rules ρ β f k g l s t

  pub along : {A B : Type 0} {h : A → B} {f k : F A} → Same ρ β f k → Same ρ β (Map h f) (Map h k)
  along {h = h} {f = f} {k = k} s = forms.same_map lexis rules ρ β h f k s

  pub unless : {A : Type 0} {ks : List Kind} {f k : F A} → Same ρ β f k → Same ρ β (Unless ks f) (Unless ks k)
  unless {ks = ks} {f = f} {k = k} s = forms.same_unless lexis rules ρ β ks f k s

  pub loop : {A E C : Type 0} {h : List A → Option E → C} {f k : F (Step A E)} → Same ρ β f k → Same ρ β (Loop h f) (Loop h k)
  loop {h = h} {f = f} {k = k} s = forms.same_loop lexis rules ρ β h f k s

  pub maybe : {A : Type 0} {f k : F A} → Same ρ β f k → Same ρ β (optional f) (optional k)
  maybe s = alt (along s) keep

  pub stars : {A : Type 0} {f k : F A} → Same ρ β f k → Same ρ β (star f) (star k)
  stars s = loop (along s)

  -- the first of three at the end
  pub turned : {A : Type 0} {f g k : F A} → Same ρ β (Alt f (Alt g k)) (Alt g (Alt k f))
  turned = record {
    to = λ w x d. elim d [ inl i ↦ inr (inr i) | inr (inl i) ↦ inl i | inr (inr i) ↦ inr (inl i) ];
    from = λ w x d. elim d [ inl i ↦ inr (inl i) | inr (inl i) ↦ inr (inr i) | inr (inr i) ↦ inl i ];
    begun_to = λ w b. elim b [ inl i ↦ inr (inr i) | inr (inl i) ↦ inl i | inr (inr i) ↦ inr (inl i) ];
    begun_from = λ w b. elim b [ inl i ↦ inr (inl i) | inr (inl i) ↦ inr (inr i) | inr (inr i) ↦ inl i ];
  }

  -- a map of a sequence is a sequence
  pub map_seq : {A B C D : Type 0} {h : A → B → C} {m : C → D} {f : F A} {g : F B} → Same ρ β (Map m (Seq h f g)) (Seq (λ a b. m (h a b)) f g)
  map_seq {h = h} {m = m} = record {
    to = λ w x d. (d.1.0, d.1.1, d.1.2, d.1.3, d.1.4, d.1.5, d.1.6, ap m d.1.7 ∙ d.2);
    from = λ w x d. (h d.2 d.3, (d.0, d.1, d.2, d.3, d.4, d.5, d.6, refl), d.7);
    begun_to = λ w b. b;
    begun_from = λ w b. b;
  }

  -- a list as it is read, of items as they are read
  pub lists_read : Sane lexis rules ρ β → {A : Type 0} {f k : F A} → Same ρ β f k → Same ρ β (list comma f) (list_read comma k)
  lists_read sane {f = f} {k = k} s = by (list comma k) (seq s (seq (stars (seq keep s)) keep)) (lists.same_list lexis rules ρ β sane comma k)
