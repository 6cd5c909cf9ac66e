-- Names with steps behind them, and assignments to these.
use Rattle.std.proofs.Common.{◌≡◌, Bool, true, false, ◌&&◌, List, [], ◌∷◌, ◌++◌, Option, Some, None, reverse, Result, IfOk, rules, refl, sym, ap, ◌∙◌, subst, append_assoc, append-nil}
use Rattle.std.specs.declared.alloc.AllocError.{AllocError}
use Rattle.std.specs.List.{list_all, cons_option, filter_map}
use Rattle.std.specs.Option.{option_map}
use Rattle.std.proofs.lemmas.List.{reverse-append}
use Rattle.std.proofs.lemmas.List.Elements.{filter_map-append}
use Rattle.hs_syntax.specs.declared.span.Span.{Span}
use Rattle.hs_syntax.specs.declared.exp.BinaryOp.{BinaryOp}
use Rattle.hs_syntax.specs.declared.exp.Arg.{Arg}
use Rattle.hs_syntax.specs.declared.exp.Arg.TheOpen.{Exp-F}
use Rattle.hs_syntax.specs.declared.exp.Arg.TheOpen as layer
use Rattle.hs_syntax.specs.declared.exp.Arm.{Arm}
use Rattle.hs_syntax.specs.declared.exp.Block.{Block}
use Rattle.hs_syntax.specs.declared.exp.Else.{Else}
use Rattle.hs_syntax.specs.declared.exp.Exp.{Exp, out-Exp, the_lemmas}
use Rattle.hs_syntax.specs.declared.exp.Exp.TheVariants as exp
use Rattle.hs_syntax.specs.declared.exp.PrefixOp.{PrefixOp}
use Rattle.hs_syntax.specs.declared.exp.PrefixOp.TheVariants as prefix
use Rattle.hs_syntax.specs.declared.exp.If.{If}
use Rattle.hs_syntax.specs.declared.exp.Operand.{Operand}
use Rattle.hs_syntax.specs.declared.exp.Postfix.{Postfix}
use Rattle.hs_syntax.specs.declared.exp.Step.{Step}
use Rattle.hs_syntax.specs.declared.exp.Stmt.{Stmt}
use Rattle.hs_syntax.specs.declared.exp.Stmt.TheVariants as stmt
use Rattle.hs_syntax.specs.declared.exp.Target.{Target}
use Rattle.hs_syntax.specs.Spans.{span_of_exp}
use Rattle.hs_forms.specs.Nodes.{across}
use Rattle.hs_forms.specs.Blocks.{is_some, step_in, and_steps, all_steps, name_in, stepped, steps_layer, steps_in, target_of, starred, place_layer, place_in, assign_to}
use Rattle.hs_parse_blocks.specs.Places.{is_step}

and_some : (t : Option Step) (ts : Option (List Step)) → is_some (and_steps t ts) ≡ (is_some t && is_some ts)
and_some None ts = refl
and_some (Some t) None = refl
and_some (Some t) (Some ts) = refl

all_some : (ps : List Postfix) → list_all is_step ps ≡ is_some (all_steps ps)
unfolding is_step
all_some [] = refl
all_some (p ∷ ps) = ap (λ b. is_some (step_in p) && b) (all_some ps) ∙ sym (and_some (step_in p) (all_steps ps))

name_of : (n : Option Span) (ts : Option (List Step)) → is_some ts ≡ true → option_map (λ p. p.0) (stepped n ts) ≡ n
name_of n None e = absurd (cc)
name_of None (Some ts) e = refl
name_of (Some n) (Some ts) e = refl

none_of : (n : Option Span) (ts : Option (List Step)) → is_some ts ≡ false → option_map (λ p. p.0) (stepped n ts) ≡ None
none_of n (Some ts) e = absurd (cc)
none_of None None e = refl
none_of (Some n) None e = refl

-- a name alone has that name
pub stepped_alone : (n : Option Span) → option_map (λ p. p.0) (stepped n (Some [])) ≡ n
stepped_alone n = name_of n (Some []) refl

-- so has one with steps
pub stepped_name : (n : Option Span) (ps : List Postfix) → list_all is_step ps ≡ true → option_map (λ p. p.0) (stepped n (all_steps ps)) ≡ n
stepped_name n ps e = name_of n (all_steps ps) (sym (all_some ps) ∙ e)

-- where something else is behind it, it is none
pub stepped_none : (n : Option Span) (ps : List Postfix) → list_all is_step ps ≡ false → option_map (λ p. p.0) (stepped n (all_steps ps)) ≡ None
stepped_none n ps e = none_of n (all_steps ps) (sym (all_some ps) ∙ e)

all_cons : (t : Option Step) (rest : Option (List Step)) (us ts : List Step) → and_steps t rest ≡ Some ts → ((vs : List Step) → rest ≡ Some vs → us ≡ vs) → cons_option t us ≡ ts
all_cons None rest us ts e h = absurd (cc)
all_cons (Some t) None us ts e h = absurd (cc)
all_cons (Some t) (Some vs) us ts e h = let same : us ≡ vs = h vs refl in cc

-- where all are steps, those that are steps are all
pub among_all : (ps : List Postfix) (ts : List Step) → all_steps ps ≡ Some ts → filter_map step_in ps ≡ ts
among_all [] ts e = cc
among_all (p ∷ ps) ts e = all_cons (step_in p) (all_steps ps) (filter_map step_in ps) ts e (among_all ps)

steps_of_target : (s : Span) (b : Bool) (n : Option Span) (o : Option (List Step)) (t : Target) (ts : List Step) → target_of s b (stepped n o) ≡ Some (t, ts) → o ≡ Some ts
steps_of_target s b None o t ts e = absurd (cc)
steps_of_target s b (Some n) None t ts e = absurd (cc)
steps_of_target s b (Some n) (Some us) t ts e = ap {A = Option (Target × List Step)} (λ o. option_map (λ p. p.1) o) e

abbrev Layer : Type 0
Layer = Exp-F Arg Else Exp Postfix Step Stmt Arm Block If Operand

out_post : (s : Span) (e : Exp) (ps : List Postfix) → ◌≡◌ {A = Layer} (out-Exp (exp.Post s e ps)) (layer.Post s e ps)
out_post s e ps = search (rules, the_lemmas)

out_prefix : (s : Span) (o : PrefixOp) (e : Exp) → ◌≡◌ {A = Layer} (out-Exp (exp.Prefix s o e)) (layer.Prefix s o e)
out_prefix s o e = search (rules, the_lemmas)

-- what is looked at of an expression with steps, and of one with a `*` before it
pub steps_of_post : (s : Span) (e : Exp) (ps : List Postfix) → steps_in (exp.Post s e ps) ≡ stepped (name_in e) (all_steps ps)
unfolding steps_in
steps_of_post s e ps = ap steps_layer (out_post s e ps)

pub place_of_post : (s : Span) (e : Exp) (ps : List Postfix) → place_in (exp.Post s e ps) ≡ target_of (span_of_exp (exp.Post s e ps)) false (stepped (name_in e) (all_steps ps))
unfolding place_in
place_of_post s e ps = ap (place_layer (exp.Post s e ps)) (out_post s e ps) ∙ ap (target_of (span_of_exp (exp.Post s e ps)) false) (steps_of_post s e ps)

pub place_of_prefix : (s : Span) (o : PrefixOp) (e : Exp) → place_in (exp.Prefix s o e) ≡ starred s o e
unfolding place_in
place_of_prefix s o e = ap (place_layer (exp.Prefix s o e)) (out_prefix s o e)

-- what stands behind the name of a place
pub post_steps : (s : Span) (b : Bool) (n : Option Span) (ps : List Postfix) (r : Result (List Step) AllocError) (t : Target) (ts : List Step) → IfOk r (λ us. us ≡ filter_map step_in ps)
    → target_of s b (stepped n (all_steps ps)) ≡ Some (t, ts) → IfOk r (λ us. us ≡ ts)
post_steps s b n ps r t ts h i = subst (λ us. IfOk r (λ vs. vs ≡ us)) (among_all ps ts (steps_of_target s b n (all_steps ps) t ts i)) h

-- and of one with a `*` before it
pub starred_steps : (s : Span) (o : PrefixOp) (e : Exp) (n : Option Span) (ps : List Postfix) (r : Result (List Step) AllocError) (t : Target) (ts : List Step)
    → IfOk r (λ us. us ≡ filter_map step_in ps) → steps_in e ≡ stepped n (all_steps ps) → starred s o e ≡ Some (t, ts) → IfOk r (λ us. us ≡ ts)
starred_steps s prefix.Read e n ps r t ts h i j = post_steps s true n ps r t ts h (ap (λ p. target_of s true p) (sym i) ∙ j)
starred_steps s prefix.Negate e n ps r t ts h i j = absurd (cc)
starred_steps s prefix.Not e n ps r t ts h i j = absurd (cc)

reverse_one : (t : Option Step) (us : List Step) → reverse (us ++ cons_option t []) ≡ cons_option t [] ++ reverse us
reverse_one None us = ap reverse (append-nil us)
reverse_one (Some t) us = reverse-append us (t ∷ [])

-- one more of what is taken from the end
pub among_on : (all ps qs : List Postfix) (p : Postfix) (t : Option Step) (us vs : List Step) → ps ≡ qs ++ p ∷ [] → t ≡ step_in p → vs ≡ us ++ cons_option t []
    → filter_map step_in all ≡ filter_map step_in ps ++ reverse us → filter_map step_in all ≡ filter_map step_in qs ++ reverse vs
among_on all ps qs p t us vs e i j h =
    h ∙ ap (λ ps. filter_map step_in ps ++ reverse us) e ∙ ap (λ l. l ++ reverse us) (filter_map-append step_in qs (p ∷ []))
    ∙ append_assoc (filter_map step_in qs) (cons_option (step_in p) []) (reverse us)
    ∙ ap (λ t. filter_map step_in qs ++ (cons_option t [] ++ reverse us)) (sym i)
    ∙ ap (λ l. filter_map step_in qs ++ l) (sym (reverse_one t us) ∙ ap reverse (sym j))

-- an assignment of its parts
pub assigned_to : (e : Exp) (o : Option BinaryOp) (right : Exp) (close : Span) (p : Option (Target × List Step)) (t : Target) (ts : List Step)
    → Some t ≡ option_map (λ p. p.0) p → ((u : Target) (us : List Step) → p ≡ Some (u, us) → ts ≡ us) → stmt.Assign (across t.span close) t ts o right ≡ assign_to e p o right close
assigned_to e o right close None t ts i h = absurd (cc)
assigned_to e o right close (Some (u, us)) t ts i h = let same : ts ≡ us = h u us refl in cc
