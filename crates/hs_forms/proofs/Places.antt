-- An expression that is a place.
use Rattle.std.proofs.Common.{◌≡◌, Bool, true, false, List, [], ◌∷◌, ◌++◌, map, Option, Some, None, ◌⊎◌, inl, inr, refl, sym, ap, ◌∙◌, subst, append-nil}
use Rattle.hs_grammar.specs.Derives.{Derivings, Beginnings, Turns, Derives, Begun}
use Rattle.hs_grammar.specs.Combinators.{item, star}
use Rattle.hs_syntax.specs.declared.span.Span.{Span}
use Rattle.hs_syntax.specs.declared.span.Int.{Int}
use Rattle.hs_syntax.specs.declared.ty.Ty.{Ty}
use Rattle.hs_syntax.specs.declared.exp.Path.{Path}
use Rattle.hs_syntax.specs.declared.exp.Path.TheVariants as path
use Rattle.hs_syntax.specs.declared.exp.Exp.{Exp, out-Exp}
use Rattle.hs_syntax.specs.declared.exp.Exp.TheVariants as exp
use Rattle.hs_syntax.specs.declared.exp.Postfix.{Postfix}
use Rattle.hs_syntax.specs.declared.exp.Postfix.TheVariants as postfix
use Rattle.hs_syntax.specs.declared.exp.Step.{Step}
use Rattle.hs_syntax.specs.declared.exp.Step.TheVariants as step
use Rattle.hs_syntax.specs.declared.exp.If.{If}
use Rattle.hs_syntax.specs.declared.exp.Arg.{Arg}
use Rattle.hs_syntax.specs.declared.exp.Arm.{Arm}
use Rattle.hs_syntax.specs.declared.exp.Block.{Block}
use Rattle.hs_syntax.specs.declared.exp.Operand.{Operand}
use Rattle.hs_syntax.specs.declared.exp.Arg.TheOpen as layer
use Rattle.hs_syntax.specs.Spans.{exp_span, span_of_exp, span_of_path, postfix_span, span_of_postfix, span_of_step}
use Rattle.hs_forms.specs.declared.token.Token.{Token}
use Rattle.hs_forms.specs.Lexis.{lexis}
use Rattle.hs_forms.specs.Nodes.{across, last_of, call_of, post_of}
use Rattle.hs_forms.specs.Blocks.{step_layer, step_in, and_steps, all_steps, name_layer, name_in, stepped, steps_layer, steps_in, target_of, place_layer, place_in}
use Rattle.hs_forms.specs.Reading.{rules, name, path_of_type, behind_separator, named_path, path_form, call_form, behind_first, grouped_rest, grouped, if_form, match_form, literal, alone, prim, method, behind_dot, postfix_form, post, step_form, place_form, steps_end, plain_target}
use Rattle.hs_forms.proofs.Flags.{one_turn, no_last}
use Rattle.hs_forms.proofs.Layers.{Layer, out_int, out_bool, out_unit, out_group, out_tuple, out_path, out_call, out_block, out_if, out_match, out_post, out_cast, out_binary, out_try, out_method, out_step}

-- the expression is no place, nor the front of one
abbrev pub NoPlace : Exp → Type 0
NoPlace e = (name_in e ≡ None) × ((steps_in e ≡ None) × (place_in e ≡ None))

no_place : (e : Exp) (y : Layer) → out-Exp e ≡ y → name_layer y ≡ None → steps_layer y ≡ None → place_layer e y ≡ target_of (span_of_exp e) false (steps_in e) → NoPlace e
unfolding name_in steps_in place_in
no_place e y o a b c = (ap name_layer o ∙ a, (ap steps_layer o ∙ b, ap (place_layer e) o ∙ c ∙ ap (λ z. target_of (span_of_exp e) false z) (ap steps_layer o ∙ b)))

no_int : (i : Int) → NoPlace (exp.Int i)
no_int i = no_place (exp.Int i) (layer.Int i) (out_int i) refl refl refl

no_bool : (s : Span) (b : Bool) → NoPlace (exp.Bool s b)
no_bool s b = no_place (exp.Bool s b) (layer.Bool s b) (out_bool s b) refl refl refl

no_unit : (s : Span) → NoPlace (exp.Unit s)
no_unit s = no_place (exp.Unit s) (layer.Unit s) (out_unit s) refl refl refl

no_group : (s : Span) (e : Exp) → NoPlace (exp.Group s e)
no_group s e = no_place (exp.Group s e) (layer.Group s e) (out_group s e) refl refl refl

no_tuple : (s : Span) (es : List Exp) → NoPlace (exp.Tuple s es)
no_tuple s es = no_place (exp.Tuple s es) (layer.Tuple s es) (out_tuple s es) refl refl refl

no_member : (s t n : Span) → NoPlace (exp.Path (path.Member s t n))
no_member s t n = no_place (exp.Path (path.Member s t n)) (layer.Path (path.Member s t n)) (out_path (path.Member s t n)) refl refl refl

no_of : (s n : Span) (t : Ty) (m : Span) → NoPlace (exp.Path (path.Of s n t m))
no_of s n t m = no_place (exp.Path (path.Of s n t m)) (layer.Path (path.Of s n t m)) (out_path (path.Of s n t m)) refl refl refl

no_call : (s : Span) (p : Path) (as' : List Arg) → NoPlace (exp.Call s p as')
no_call s p as' = no_place (exp.Call s p as') (layer.Call s p as') (out_call s p as') refl refl refl

no_block : (b : Block) → NoPlace (exp.Block b)
no_block b = no_place (exp.Block b) (layer.Block b) (out_block b) refl refl refl

no_if : (i : If) → NoPlace (exp.If i)
no_if i = no_place (exp.If i) (layer.If i) (out_if i) refl refl refl

pub no_cast : (s : Span) (e : Exp) (ns : List Span) → NoPlace (exp.Cast s e ns)
no_cast s e ns = no_place (exp.Cast s e ns) (layer.Cast s e ns) (out_cast s e ns) refl refl refl

pub no_binary : (s : Span) (e : Exp) (os : List Operand) → NoPlace (exp.Binary s e os)
no_binary s e os = no_place (exp.Binary s e os) (layer.Binary s e os) (out_binary s e os) refl refl refl

no_match : (s : Span) (e : Exp) (as' : List Arm) → NoPlace (exp.Match s e as')
no_match s e as' = no_place (exp.Match s e as') (layer.Match s e as') (out_match s e as') refl refl refl

-- ---- names with steps

-- the expression is this name with these steps
abbrev pub Stepping : Exp → Span × List Step → Type 0
Stepping e q = (steps_in e ≡ Some q) × ((place_in e ≡ Some (plain_target q)) × (span_of_exp e ≡ across q.0 (steps_end q.0 q.1)))

-- the expression has no steps, and is no place
abbrev pub NoSteps : Exp → Type 0
NoSteps e = (steps_in e ≡ None) × (place_in e ≡ None)

stepping : (e : Exp) (q : Span × List Step) → place_in e ≡ target_of (span_of_exp e) false (steps_in e) → steps_in e ≡ Some q → span_of_exp e ≡ across q.0 (steps_end q.0 q.1) → Stepping e q
stepping e q h i j = (i, (h ∙ ap (λ z. target_of (span_of_exp e) false z) i ∙ ap (λ z. target_of z false (Some q)) j, j))

name_steps : (n : Span) → Stepping (exp.Path (path.Name n)) (n, [])
unfolding steps_in place_in span_of_exp span_of_path
name_steps n =
    let e : Exp = exp.Path (path.Name n) in
    stepping e (n, []) (ap (place_layer e) (out_path (path.Name n))) (ap steps_layer (out_path (path.Name n))) (ap exp_span (out_path (path.Name n)))

name_of : (n : Span) → name_in (exp.Path (path.Name n)) ≡ Some n
unfolding name_in
name_of n = ap name_layer (out_path (path.Name n))

span_of_name : (n : Span) → span_of_exp (exp.Path (path.Name n)) ≡ n
unfolding span_of_exp span_of_path
span_of_name n = ap exp_span (out_path (path.Name n))

-- what stands behind an expression decides whether it is a place
post_steps : (a : Exp) (p : Postfix) (ps : List Postfix) → steps_in (post_of a (p ∷ ps)) ≡ stepped (name_in a) (all_steps (p ∷ ps))
unfolding steps_in
post_steps a p ps = ap steps_layer (out_post (across (span_of_exp a) (span_of_postfix (last_of p ps))) a (p ∷ ps))

post_place : (a : Exp) (p : Postfix) (ps : List Postfix) → place_in (post_of a (p ∷ ps)) ≡ target_of (span_of_exp (post_of a (p ∷ ps))) false (steps_in (post_of a (p ∷ ps)))
unfolding place_in
post_place a p ps = ap (place_layer (post_of a (p ∷ ps))) (out_post (across (span_of_exp a) (span_of_postfix (last_of p ps))) a (p ∷ ps))

post_span : (a : Exp) (p : Postfix) (ps : List Postfix) → span_of_exp (post_of a (p ∷ ps)) ≡ across (span_of_exp a) (span_of_postfix (last_of p ps))
unfolding span_of_exp
post_span a p ps = ap exp_span (out_post (across (exp_span (out-Exp a)) (span_of_postfix (last_of p ps))) a (p ∷ ps))

no_steps : (a : Exp) (p : Postfix) (ps : List Postfix) → stepped (name_in a) (all_steps (p ∷ ps)) ≡ None → NoSteps (post_of a (p ∷ ps))
no_steps a p ps h =
    let i : steps_in (post_of a (p ∷ ps)) ≡ None = post_steps a p ps ∙ h in
    (i, post_place a p ps ∙ ap (λ z. target_of (span_of_exp (post_of a (p ∷ ps))) false z) i)

-- ---- steps

no_try : (s : Span) → step_in (postfix.Try s) ≡ None
unfolding step_in
no_try s = ap step_layer (out_try s)

no_method : (s n : Span) (as' : List Arg) → step_in (postfix.Method s n as') ≡ None
unfolding step_in
no_method s n as' = ap step_layer (out_method s n as')

the_step : (t : Step) → step_in (postfix.Step t) ≡ Some t
unfolding step_in
the_step t = ap step_layer (out_step t)

step_end : (t : Step) → span_of_postfix (postfix.Step t) ≡ span_of_step t
unfolding span_of_postfix
step_end t = ap postfix_span (out_step t)

-- steps as what stands behind an expression
abbrev behind : List Step → List Postfix
behind ts = map (λ t. postfix.Step t) ts

the_steps : (ts : List Step) → all_steps (behind ts) ≡ Some ts
the_steps [] = refl
the_steps (t ∷ ts) = ap (λ z. and_steps z (all_steps (behind ts))) (the_step t) ∙ ap (and_steps (Some t)) (the_steps ts)

last_behind : (t : Step) (ts : List Step) → span_of_postfix (last_of (postfix.Step t) (behind ts)) ≡ span_of_step (last_of t ts)
last_behind t [] = step_end t
last_behind t (u ∷ ts) = last_behind u ts

-- a name with these steps
steps_place : (n : Span) (ts : List Step) → Stepping (post_of (exp.Path (path.Name n)) (behind ts)) (n, ts)
steps_place n [] = name_steps n
steps_place n (t ∷ ts) =
    let a : Exp = exp.Path (path.Name n) in
    let p : Postfix = postfix.Step t in
    let ps : List Postfix = behind ts in
    stepping (post_of a (p ∷ ps)) (n, t ∷ ts) (post_place a p ps)
    (post_steps a p ps ∙ ap (λ z. stepped z (all_steps (p ∷ ps))) (name_of n) ∙ ap (stepped (Some n)) (the_steps (t ∷ ts)))
    (post_span a p ps ∙ ap (λ z. across z (span_of_postfix (last_of p ps))) (span_of_name n) ∙ ap (across n) (last_behind t ts))

module _ (ρ : Derivings lexis rules) (β : Beginnings lexis rules) where
  -- a step, or none
  step_is : (w : List Token) (p : Postfix) → Derives ρ postfix_form w p → ((t : Step) × Derives ρ step_form w t × (postfix.Step t ≡ p)) ⊎ (step_in p ≡ None)
  unfolding postfix_form behind_dot method step_form
  step_is w p (inl (s, d, j)) = inr (subst (λ z. step_in z ≡ None) j (no_try s))
  step_is w p (inr (inl (u, v, s, f, i, d, inl (n, dn, x), j))) = inl (step.Part (across s n.span) n, inr (u, v, s, n, i, d, dn, refl), ap (λ g. g s) x ∙ j)
  step_is w p (inr (inl (u, v, s, f, i, d, inr (r, q, m, a, l, dm, da, x), j))) =
      inr (subst (λ z. step_in z ≡ None) (ap (λ g. g s) x ∙ j) (no_method (across s a.1) m a.0))
  step_is w p (inr (inr (t, d, j))) = inl (t, inl d, j)

  step_from : (w : List Token) (t : Step) → Derives ρ step_form w t → Derives ρ postfix_form w (postfix.Step t)
  unfolding postfix_form behind_dot step_form
  step_from w t (inl d) = inr (inr (t, d, refl))
  step_from w t (inr (u, v, s, n, i, d, dn, j)) = inr (inl (u, v, s, (λ s. postfix.Step (step.Part (across s n.span) n)), i, d, inl (n, dn, refl), ap (λ z. postfix.Step z) j))

  step_begun : (w : List Token) → Begun ρ β step_form w → Begun ρ β postfix_form w
  unfolding postfix_form behind_dot step_form
  step_begun w (inl b) = inr (inr b)
  step_begun w (inr (inl b)) = inr (inl (inl b))
  step_begun w (inr (inr (u, v, s, i, d, b))) = inr (inl (inr (u, v, s, i, d, inl b)))

  -- steps alone, or something else among them
  Steps : List Postfix → List Token → Type 0
  Steps ps w = ((ts : List Step) × Turns (Derives ρ (item step_form)) ts None w × (behind ts ≡ ps)) ⊎ (all_steps ps ≡ None)

  steps_are : (ps : List Postfix) (w : List Token) → Turns (Derives ρ (item postfix_form)) ps None w → Steps ps w
  unfolding Steps
  steps_are [] w t = inl ([], t, refl)
  steps_are (p ∷ ps) w (u, v, i, d, t) = both (step_is u p (one_turn lexis rules ρ β postfix_form u p d)) (steps_are ps v t)
    where
      none_behind : (o : Option Step) → and_steps o None ≡ None
      none_behind None = refl
      none_behind (Some t) = refl

      both : ((t : Step) × Derives ρ step_form u t × (postfix.Step t ≡ p)) ⊎ (step_in p ≡ None) → Steps ps v → Steps (p ∷ ps) w
      both (inr n) s = inr (ap (λ z. and_steps z (all_steps ps)) n)
      both (inl s) (inr n) = inr (ap (and_steps (step_in p)) n ∙ none_behind (step_in p))
      both (inl (t, dt, j)) (inl (ts, dts, k)) = inl (t ∷ ts, (u, v, i, (t, dt, refl), dts), ap (λ z. z ∷ behind ts) j ∙ ap (λ z. p ∷ z) k)

  steps_from : (ts : List Step) (w : List Token) → Turns (Derives ρ (item step_form)) ts None w → Turns (Derives ρ (item postfix_form)) (behind ts) None w
  steps_from [] w t = t
  steps_from (s ∷ ts) w (u, v, i, d, t) = (u, v, i, (postfix.Step s, step_from u s (one_turn lexis rules ρ β step_form u s d), refl), steps_from ts v t)

  stars_begun : (w : List Token) → Begun ρ β (star step_form) w → Begun ρ β (star postfix_form) w
  stars_begun w (inl e) = inl e
  stars_begun w (inr (u, v, ts, i, t, b)) = inr (u, v, behind ts, i, steps_from ts u t, step_begun v b)

  -- ---- operands

  -- a name, or no place
  Naming : List Token → Exp → Type 0
  Naming w e = (n : Span) × Derives ρ name w n × (exp.Path (path.Name n) ≡ e)

  path_is : (w : List Token) (p : Path) → Derives ρ path_form w p → ((n : Span) × Derives ρ name w n × (path.Name n ≡ p)) ⊎ NoPlace (exp.Path p)
  unfolding path_form behind_separator path_of_type
  path_is w p (r, s, n, q, l, dn, inl (f, (r1, s1, c1, g, l1, d1, inl (r2, s2, t, m, l2, d2, d3, z), y), x), j) =
      inr (subst (λ z. NoPlace (exp.Path z)) (ap (λ f. f n) z ∙ ap (λ f. f n) y ∙ ap (named_path n) x ∙ j) (no_of (across n m) n t m))
  path_is w p (r, s, n, q, l, dn, inl (f, (r1, s1, c1, g, l1, d1, inr (m, d2, z), y), x), j) =
      inr (subst (λ z. NoPlace (exp.Path z)) (ap (λ f. f n) z ∙ ap (λ f. f n) y ∙ ap (named_path n) x ∙ j) (no_member (across n m) n m))
  path_is w p (r, s, n, q, l, dn, inr (i, x), j) =
      inl (n, subst (λ z. Derives ρ name z n) (sym (l ∙ ap (λ z. r ++ z) i ∙ append-nil r)) dn, ap (named_path n) x ∙ j)

  prim_is : (w : List Token) (e : Exp) → Derives ρ prim w e → Naming w e ⊎ NoPlace e
  unfolding Naming prim literal grouped grouped_rest behind_first call_form alone if_form match_form
  prim_is w e (inl (inl (i, d, j))) = inr (subst NoPlace j (no_int i))
  prim_is w e (inl (inr (inl (t, f, b, j)))) = inr (subst NoPlace j (no_bool t.span true))
  prim_is w e (inl (inr (inr (t, f, b, j)))) = inr (subst NoPlace j (no_bool t.span false))
  prim_is w e (inr (inl (u, v, o, f, i, d, inl (c, dc, j), m))) = inr (subst NoPlace (ap (λ g. g o) j ∙ m) (no_unit (across o c)))
  prim_is w e (inr (inl (u, v, o, f, i, d, inr (p, q, a, g, l, da, inl (c, dc, z), j), m))) =
      inr (subst NoPlace (ap (λ g. g o a) z ∙ ap (λ g. g o) j ∙ m) (no_group (across o c) a))
  prim_is w e (inr (inl (u, v, o, f, i, d, inr (p, q, a, g, l, da, inr (p1, q1, c1, g1, l1, dc, (r, dr, z), y), j), m))) =
      inr (subst NoPlace (ap (λ g. g o a) z ∙ ap (λ g. g o a) y ∙ ap (λ g. g o) j ∙ m) (no_tuple (across o r.1) (a ∷ r.0)))
  prim_is w e (inr (inr (inl (u, v, p, o, i, dp, inl (a, da, j), m)))) = inr (subst NoPlace (ap (call_of p) j ∙ m) (no_call _ p a.0))
  prim_is w e (inr (inr (inl (u, v, p, o, i, dp, inr (dv, j), m)))) = go (path_is u p dp)
    where
      go : ((n : Span) × Derives ρ name u n × (path.Name n ≡ p)) ⊎ NoPlace (exp.Path p) → Naming w e ⊎ NoPlace e
      go (inl (n, dn, x)) = inl (n, subst (λ z. Derives ρ name z n) (sym (i ∙ ap (λ z. u ++ z) dv ∙ append-nil u)) dn, ap (λ z. exp.Path z) x ∙ ap (call_of p) j ∙ m)
      go (inr z) = inr (subst NoPlace (ap (call_of p) j ∙ m) z)
  prim_is w e (inr (inr (inr (inl (i, d, j))))) = inr (subst NoPlace j (no_if i))
  prim_is w e (inr (inr (inr (inr (inl (u, v, s, r, i, d, dd, j)))))) = inr (subst NoPlace j (no_match _ r.0 r.1.0))
  prim_is w e (inr (inr (inr (inr (inr (b, d, j)))))) = inr (subst NoPlace j (no_block b))

  -- a name with steps, or neither steps nor a place
  pub post_is : (w : List Token) (e : Exp) → Derives ρ post w e → ((q : Span × List Step) × Derives ρ place_form w q × Stepping e q) ⊎ NoSteps e
  unfolding Naming Steps post place_form
  post_is w e (u, v, a, ps, i, d, (bs, o, t, x), j) = go bs (steps_are bs v (no_last lexis rules ρ β postfix_form bs o v t)) (ap (post_of a) x ∙ j) (prim_is u a d)
    where
      go : (bs : List Postfix) → Steps bs v → post_of a bs ≡ e → Naming u a ⊎ NoPlace a → ((q : Span × List Step) × Derives ρ place_form w q × Stepping e q) ⊎ NoSteps e
      go bs (inl (ts, t, k)) j (inl (n, dn, y)) =
          inl ((n, ts), (u, v, n, ts, i, dn, (ts, None, t, refl), refl), subst (λ z. Stepping z (n, ts)) (ap (λ z. post_of z (behind ts)) y ∙ ap (post_of a) k ∙ j) (steps_place n ts))
      go [] (inr k) j (inl q) = absurd (cc)
      go (p ∷ ps) (inr k) j (inl (n, dn, y)) =
          inr (subst NoSteps (ap (λ z. post_of z (p ∷ ps)) y ∙ j) (no_steps (exp.Path (path.Name n)) p ps (ap (λ z. stepped z (all_steps (p ∷ ps))) (name_of n) ∙ ap (stepped (Some n)) k)))
      go [] s j (inr z) = inr (subst NoSteps j z.1)
      go (p ∷ ps) s j (inr z) = inr (subst NoSteps j (no_steps a p ps (ap (λ y. stepped y (all_steps (p ∷ ps))) z.0)))

  name_prim : (w : List Token) (n : Span) → Derives ρ name w n → Derives ρ prim w (exp.Path (path.Name n))
  unfolding prim call_form path_form
  name_prim w n d = inr (inr (inl (w, [], path.Name n, None, sym (append-nil w), (w, [], n, None, sym (append-nil w), d, inr (refl, refl), refl), inr (refl, refl), refl)))

  -- a name with steps is an expression
  pub post_from : (w : List Token) (q : Span × List Step) → Derives ρ place_form w q → (e : Exp) × Derives ρ post w e × Stepping e q
  unfolding post place_form
  post_from w q (u, v, n, ts, i, dn, (bs, o, t, x), j) = (
    post_of (exp.Path (path.Name n)) (behind bs),
    (u, v, exp.Path (path.Name n), behind bs, i, name_prim u n dn, (behind bs, None, steps_from bs v (no_last lexis rules ρ β step_form bs o v t), refl), refl),
    subst (Stepping (post_of (exp.Path (path.Name n)) (behind bs))) (ap (λ z. (n, z)) x ∙ j) (steps_place n bs),
  )

  pub post_begun : (w : List Token) → Begun ρ β place_form w → Begun ρ β post w
  unfolding post place_form prim call_form path_form
  post_begun w (inl b) = inl (inr (inr (inl (inl (inl b)))))
  post_begun w (inr (u, v, n, i, dn, b)) = inr (u, v, exp.Path (path.Name n), i, name_prim u n dn, stars_begun v b)
