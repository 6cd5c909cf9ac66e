-- Expressions are well formed.
use Rattle.std.proofs.Common.{◌≡◌, ℕ, Bool, true, false, not, List, [], ◌∷◌, Option, Some, None, map, refl, sym, ap, ◌∙◌}
use Rattle.hs_grammar.specs.Form.{Tok}
use Rattle.hs_grammar.specs.Combinators.{star}
use Rattle.hs_grammar.specs.Derives.{Derivings}
use Rattle.hs_syntax.specs.declared.span.Span.{Span}
use Rattle.hs_syntax.specs.declared.span.Int.{Int}
use Rattle.hs_syntax.specs.declared.exp.Path.{Path}
use Rattle.hs_syntax.specs.declared.exp.BinaryOp.{BinaryOp}
use Rattle.hs_syntax.specs.declared.exp.Level.{Level}
use Rattle.hs_syntax.specs.declared.exp.Level.TheVariants as level
use Rattle.hs_syntax.specs.contracts.exp.Level.{the_type as the_levels}
use denote.Enum.Bare.{true_same}
use Rattle.hs_syntax.specs.declared.exp.Exp.{Exp}
use Rattle.hs_syntax.specs.declared.exp.Else.{Else}
use Rattle.hs_syntax.specs.declared.exp.Operand.{Operand}
use Rattle.hs_syntax.specs.declared.exp.Step.TheVariants as step
use Rattle.hs_syntax.specs.declared.exp.Postfix.{Postfix}
use Rattle.hs_syntax.specs.declared.exp.Arg.{Arg}
use Rattle.hs_syntax.specs.declared.exp.Arm.{Arm}
use Rattle.hs_syntax.specs.declared.exp.Block.{Block}
use Rattle.hs_syntax.specs.Levels.{level_of}
use Rattle.hs_syntax.specs.Spans.{span_of_path, span_of_arm_pat, span_of_exp, span_of_postfix}
use Rattle.hs_syntax.specs.WellFormed.{named, decimal, each, one_level, same_level, well_ty, well_path, well_exp, well_if, well_else, well_arg, well_step, well_postfix, well_arm, well_block, well_operand}
use Rattle.hs_forms.specs.declared.token.Kind.{Kind}
use Rattle.hs_forms.specs.declared.token.Kind.TheVariants as k
use Rattle.hs_forms.specs.Lexis.{lexis}
use Rattle.hs_forms.specs.Nodes.{across, last_of, op_named, operand_of, right_of, binary_of, cast_of, post_of, prefix_named, call_of, if_end, if_of}
use Rattle.hs_forms.specs.Blocks.{step_of}
use Rattle.hs_forms.specs.Reading.{rules, F, RExp, RUnary, RBlock, RIf, RMaybe, path_type, path_of_type, behind_separator, named_path, path_form, expression, block, lent, lent_arg, list_arg, arg_form, args_rest, args, call_form, behind_first, grouped_rest, grouped, else_branch, else_form, if_form, block_value, closed_value, exp_value, arm_form, next_arms, arms_of, arms, match_form, literal, alone, prim, method, behind_dot, index, postfix_form, post, unary, cast, op_of, operator, operand, operands, one_or_none, binary}
use Rattle.hs_shapes.proofs.Sure.{OfEach, among}
use Rattle.hs_shapes.proofs.Layers.{exp_int, exp_bool, exp_unit, exp_group, exp_tuple, exp_path, exp_call, exp_block, exp_if, exp_match, exp_post, exp_prefix, exp_cast, exp_binary, arg_value, arg_shared, arg_lent, arg_list, else_chain, else_last, step_index, step_part, postfix_try, postfix_method, postfix_step, arm_is, if_is, operand_is}
use Rattle.hs_shapes.proofs.Facts.{Fact, good, anything, by, pair, perhaps, Perhaps, perhaps_any, rows, Row, row_each, each_of, some_of, some_mapped, two_mapped, each_more, Turn, behind_name, behind_mark, both_true}
use Rattle.hs_shapes.proofs.Gives.{Gives, Knots, of_rule, token, name_gives, none_kept, empty, map_to, seq, split, alt, unless, loop, then_, and_then, both, both_first, may, many_good, listed}
use Rattle.hs_shapes.proofs.Patterns.{arm_pattern_gives}

module _ (text : List ℕ) where
  abbrev pub exps : Fact Exp
  exps = good (well_exp text)

  abbrev elses : Fact Else
  elses = good (well_else text)

  -- arguments in a bracket
  abbrev pub arg_lists : Fact (List Arg × Span)
  arg_lists = by (λ as'. as'.0) (each_of (well_arg text))

  -- what is made of an opening bracket and the expression behind it
  abbrev inside : Fact (Span → Exp → Exp)
  inside = record { holds = λ f. (o : Span) (e : Exp) → well_exp text e ≡ true → well_exp text (f o e) ≡ true }

  path_well : (n : Span) (more : Option (Span → Path)) → named text n ≡ true → Perhaps (behind_name text (good (well_path text))) more → well_path text (named_path n more) ≡ true
  path_well n None p h = p
  path_well n (Some f) p h = h n p

  call_well : (p : Path) (more : Option (List Arg × Span)) → well_path text p ≡ true → Perhaps arg_lists more → well_exp text (call_of p more) ≡ true
  call_well p None q h = exp_path text p ∙ q
  call_well p (Some (as', close)) q h = exp_call text (across (span_of_path p) close) p as' ∙ both_true q h

  if_well : (s : Span) (c : Exp) (b : Block) (o : Option Else) → well_exp text c ≡ true → well_block text b ≡ true → Perhaps elses o → well_if text (if_of s c b o) ≡ true
  if_well s c b o p q h = if_is text (across s (if_end b o)) c b o ∙ both_true p (both_true q (perhaps_any (well_else text) o h))

  closed_well : (e : Exp) (o : Option (Unit {0})) → well_exp text e ≡ true → well_exp text (closed_value e o).0 ≡ true
  closed_well e None p = p
  closed_well e (Some c) p = p

  abbrev arms_at : Fact Arm
  arms_at = good (well_arm text)

  arm_step : (x : Arm × Bool) → well_arm text x.0 ≡ true → Turn arms_at arms_at (step_of x)
  arm_step (a, true) h = h
  arm_step (a, false) h = h

  arms_well : (first : Arm × Bool) (more : List Arm × Option Arm) → well_arm text first.0 ≡ true → (pair (rows arms_at) (perhaps arms_at)).holds more → (some_of (well_arm text)).holds (arms_of first more)
  arms_well first (more, None) p (r, l) = (refl, both_true p (row_each (well_arm text) more r))
  arms_well first (more, Some last) p (r, l) = (refl, both_true p (each_more (well_arm text) more last (row_each (well_arm text) more r) l))

  post_well : (e : Exp) (ps : List Postfix) → well_exp text e ≡ true → each (map (well_postfix text) ps) ≡ true → well_exp text (post_of e ps) ≡ true
  post_well e [] p r = p
  post_well e (q ∷ qs) p r = exp_post text (across (span_of_exp e) (span_of_postfix (last_of q qs))) e (q ∷ qs) ∙ both_true p (both_true refl r)

  cast_well : (e : Exp) (ns : List Span) → well_exp text e ≡ true → each (map (named text) ns) ≡ true → well_exp text (cast_of e ns) ≡ true
  cast_well e [] p r = p
  cast_well e (n ∷ ns) p r = exp_cast text (across (span_of_exp e) (last_of n ns)) e (n ∷ ns) ∙ both_true p (both_true refl r)

  -- ---- operators

  -- an operator of the level, and its right operand
  abbrev of_level : Level → Fact Operand
  of_level l = record { holds = λ o. (level_of (well_operand text o).0 ≡ l) × ((well_operand text o).1 ≡ true) }

  abbrev ops : List Operand → List BinaryOp
  ops os = map (λ (o : BinaryOp × Bool). o.0) (map (well_operand text) os)

  abbrev rights : List Operand → List Bool
  rights os = map (λ (o : BinaryOp × Bool). o.1) (map (well_operand text) os)

  -- operands of one level, or none
  abbrev Levelled : List Operand → Type 0
  Levelled [] = Unit {0}
  Levelled (o ∷ os) = (one_level (ops (o ∷ os)) ≡ true) × (each (rights (o ∷ os)) ≡ true)

  abbrev levelled : Fact (List Operand)
  levelled = record { holds = Levelled }

  operand_well : (l : Level) (o : BinaryOp) (e : Exp) → level_of o ≡ l → well_exp text e ≡ true → (of_level l).holds (operand_of o e)
  operand_well l o e p q =
      let i = operand_is text (record { op = o; right = e }) in
      (ap (λ (x : BinaryOp × Bool). level_of x.0) i ∙ p, ap (λ (x : BinaryOp × Bool). x.1) i ∙ q)

  same_true : (l m n : Level) → l ≡ n → m ≡ n → same_level l m ≡ true
  same_true l m n p q = true_same the_levels l m (p ∙ sym q)

  each_same : (l : Level) (o : BinaryOp) (os : List Operand) → level_of o ≡ l → Row (of_level l) os → each (map (λ q. same_level (level_of o) (level_of q)) (ops os)) ≡ true
  each_same l o [] p r = refl
  each_same l o (q ∷ qs) p (h, r) = both_true (same_true (level_of o) (level_of (well_operand text q).0) l p h.0) (each_same l o qs p r)

  each_right : (l : Level) (os : List Operand) → Row (of_level l) os → each (rights os) ≡ true
  each_right l [] r = refl
  each_right l (o ∷ os) (h, r) = both_true h.1 (each_right l os r)

  not_compare : (l m : Level) → m ≡ l → same_level l level.Compare ≡ false → not (same_level m level.Compare) ≡ true
  not_compare l m e h = ap (λ (x : Level). not (same_level x level.Compare)) e ∙ ap not h

  level_well : (l : Level) → same_level l level.Compare ≡ false → (os : List Operand) → Row (of_level l) os → Levelled os
  level_well l c [] r = tt {0}
  level_well l c (o ∷ []) (h, r) = (refl, both_true h.1 refl)
  level_well l c (o ∷ (q ∷ qs)) (h, r) = (
    both_true (not_compare l (level_of (well_operand text o).0) h.0 c) (each_same l (well_operand text o).0 (q ∷ qs) h.0 r),
    both_true h.1 (each_right l (q ∷ qs) r),
  )

  compare_well : (o : Option Operand) → Perhaps (of_level level.Compare) o → Levelled (one_or_none o)
  compare_well None p = tt {0}
  compare_well (Some o) p = (refl, both_true p.1 refl)

  binary_well : (e : Exp) (os : List Operand) → well_exp text e ≡ true → Levelled os → well_exp text (binary_of e os) ≡ true
  binary_well e [] p r = p
  binary_well e (o ∷ os) p r =
      exp_binary text (across (span_of_exp e) (span_of_exp (right_of (last_of o os)))) e (o ∷ os) ∙ both_true p (both_true r.0 r.1)

  module _ (ρ : Derivings lexis rules) (knots : Knots text ρ) where
    pub expression_gives : Gives text ρ expression exps
    expression_gives = of_rule text ρ knots RExp

    pub block_gives : Gives text ρ block (good (well_block text))
    block_gives = of_rule text ρ knots RBlock

    path_type_gives : Gives text ρ path_type (good (well_ty text))
    unfolding path_type
    path_type_gives = then_ text ρ (split text ρ {Q = anything} (λ t u p q. p) (of_rule text ρ knots RMaybe) (none_kept text ρ) (none_kept text ρ))

    path_of_type_gives : Gives text ρ path_of_type (behind_name text (good (well_path text)))
    unfolding path_of_type
    path_of_type_gives = seq text ρ (λ t m p q n r. both_true r (both_true p q)) path_type_gives (then_ text ρ (name_gives text ρ))

    behind_separator_gives : Gives text ρ behind_separator (behind_name text (good (well_path text)))
    unfolding behind_separator
    behind_separator_gives = alt text ρ path_of_type_gives (map_to text ρ (λ m p n r. both_true r p) (name_gives text ρ))

    path_form_gives : Gives text ρ path_form (good (well_path text))
    unfolding path_form
    path_form_gives = seq text ρ path_well (name_gives text ρ) (may text ρ (then_ text ρ behind_separator_gives))

    lent_gives : Gives text ρ lent (behind_mark (good (well_arg text)))
    unfolding lent
    lent_gives =
        alt text ρ (then_ text ρ (map_to text ρ (λ n p s. arg_lent text (across s n) n ∙ p) (name_gives text ρ)))
        (map_to text ρ (λ e p s. arg_shared text (across s (span_of_exp e)) e ∙ p) expression_gives)

    lent_arg_gives : Gives text ρ lent_arg (good (well_arg text))
    unfolding lent_arg
    lent_arg_gives = seq text ρ {P = anything} (λ s f u h. h s) (none_kept text ρ) lent_gives

    list_arg_gives : Gives text ρ list_arg (good (well_arg text))
    unfolding list_arg
    list_arg_gives =
        seq text ρ {P = anything} (λ o r u q. arg_list text (across o r.1) r.0 ∙ some_mapped (well_exp text) r.0 q) (none_kept text ρ)
        (both_first text ρ (listed text ρ expression_gives))

    arg_form_gives : Gives text ρ arg_form (good (well_arg text))
    unfolding arg_form
    arg_form_gives = alt text ρ lent_arg_gives (alt text ρ list_arg_gives (map_to text ρ (λ e p. arg_value text e ∙ p) expression_gives))

    args_rest_gives : Gives text ρ args_rest arg_lists
    unfolding args_rest
    args_rest_gives =
        alt text ρ (map_to text ρ {P = anything} (λ close u. refl) (none_kept text ρ))
        (seq text ρ {Q = anything} (λ a b p u. p.1) (listed text ρ arg_form_gives) (none_kept text ρ))

    args_gives : Gives text ρ args arg_lists
    unfolding args
    args_gives = then_ text ρ args_rest_gives

    call_form_gives : Gives text ρ call_form exps
    unfolding call_form
    call_form_gives = seq text ρ call_well path_form_gives (may text ρ args_gives)

    behind_first_gives : Gives text ρ behind_first inside
    unfolding behind_first
    behind_first_gives =
        alt text ρ (map_to text ρ {P = anything} (λ close u o e p. exp_group text (across o close) e ∙ p) (none_kept text ρ))
        (then_ text ρ (map_to text ρ (λ r h o e p. exp_tuple text (across o r.1) (e ∷ r.0) ∙ two_mapped (well_exp text) e r.0 p h) (both_first text ρ (listed text ρ expression_gives))))

    grouped_rest_gives : Gives text ρ grouped_rest (behind_mark exps)
    unfolding grouped_rest
    grouped_rest_gives =
        alt text ρ (map_to text ρ {P = anything} (λ close u o. exp_unit text (across o close)) (none_kept text ρ))
        (seq text ρ (λ e f p h o. h o e p) expression_gives behind_first_gives)

    grouped_gives : Gives text ρ grouped exps
    unfolding grouped
    grouped_gives = seq text ρ {P = anything} (λ o f u h. h o) (none_kept text ρ) grouped_rest_gives

    else_branch_gives : Gives text ρ else_branch elses
    unfolding else_branch
    else_branch_gives = alt text ρ (map_to text ρ (λ i p. else_chain text i ∙ p) (of_rule text ρ knots RIf)) (map_to text ρ (λ b p. else_last text b ∙ p) block_gives)

    else_form_gives : Gives text ρ else_form (perhaps elses)
    unfolding else_form
    else_form_gives = may text ρ (then_ text ρ else_branch_gives)

    -- If
    pub if_form_gives : Gives text ρ if_form (good (well_if text))
    unfolding if_form
    if_form_gives =
        seq text ρ {P = anything} (λ s r u q. if_well s r.0 r.1.0 r.1.1 q.0 q.1.0 q.1.1) (none_kept text ρ)
        (both text ρ expression_gives (both text ρ block_gives else_form_gives))

    block_value_gives : Gives text ρ block_value (by (λ (v : Exp × Bool). v.0) exps)
    unfolding block_value
    block_value_gives = map_to text ρ (λ b p. exp_block text b ∙ p) (and_then text ρ block_gives)

    exp_value_gives : Gives text ρ exp_value (by (λ (v : Exp × Bool). v.0) exps)
    unfolding exp_value
    exp_value_gives = seq text ρ {Q = anything} (λ e o p u. closed_well e o p) (unless text ρ expression_gives) (none_kept text ρ)

    arm_form_gives : Gives text ρ arm_form (by (λ (a : Arm × Bool). a.0) arms_at)
    unfolding arm_form
    arm_form_gives =
        seq text ρ (λ p v q r. arm_is text (record { span = across (span_of_arm_pat p) (span_of_exp v.0); pattern = p; value = v.0 }) ∙ both_true q r) (arm_pattern_gives text ρ knots)
        (then_ text ρ (alt text ρ block_value_gives exp_value_gives))

    next_arms_gives : Gives text ρ next_arms (pair (rows arms_at) (perhaps arms_at))
    unfolding next_arms
    next_arms_gives = loop text ρ arms_at arms_at (λ as' o r l. (r, l)) (map_to text ρ arm_step arm_form_gives)

    arms_gives : Gives text ρ arms (some_of (well_arm text))
    unfolding arms
    arms_gives = split text ρ arms_well arm_form_gives (empty text ρ (tt {0}, tt {0})) next_arms_gives

    match_form_gives : Gives text ρ match_form exps
    unfolding match_form
    match_form_gives =
        seq text ρ {P = anything} (λ s r u q. exp_match text (across s r.1.1) r.0 r.1.0 ∙ both_true q.0 (some_mapped (well_arm text) r.1.0 q.1)) (none_kept text ρ)
        (both text ρ expression_gives (then_ text ρ (both_first text ρ arms_gives)))

    literal_gives : Gives text ρ literal exps
    unfolding literal
    literal_gives =
        alt text ρ (map_to text ρ {P = anything} (λ i u. exp_int text i) (none_kept text ρ))
        (alt text ρ (token text ρ (λ t h s. exp_bool text t.span true)) (token text ρ (λ t h s. exp_bool text t.span false)))

    -- If | Match | Block
    pub alone_gives : Gives text ρ alone exps
    unfolding alone
    alone_gives = alt text ρ (map_to text ρ (λ i p. exp_if text i ∙ p) if_form_gives) (alt text ρ match_form_gives (map_to text ρ (λ b p. exp_block text b ∙ p) block_gives))

    prim_gives : Gives text ρ prim exps
    unfolding prim
    prim_gives = alt text ρ literal_gives (alt text ρ grouped_gives (alt text ρ call_form_gives alone_gives))

    method_gives : Gives text ρ method (behind_mark (good (well_postfix text)))
    unfolding method
    method_gives = seq text ρ (λ n r p q s. postfix_method text (across s r.1) n r.0 ∙ both_true p q) (name_gives text ρ) args_gives

    behind_dot_gives : Gives text ρ behind_dot (behind_mark (good (well_postfix text)))
    unfolding behind_dot
    behind_dot_gives =
        alt text ρ
        (map_to text ρ {P = good (λ (i : Int). decimal text i.span)} (λ i p s. postfix_step text (step.Part (across s i.span) i) ∙ step_part text (across s i.span) i ∙ p)
        (token text ρ (λ t h s. s.digits h))) method_gives

    index_gives : Gives text ρ index (good (well_step text))
    unfolding index
    index_gives = seq text ρ {P = anything} (λ o r u q. step_index text (across o r.1) r.0 ∙ q) (none_kept text ρ) (both_first text ρ expression_gives)

    postfix_form_gives : Gives text ρ postfix_form (good (well_postfix text))
    unfolding postfix_form
    postfix_form_gives =
        alt text ρ (map_to text ρ {P = anything} (λ s u. postfix_try text s) (none_kept text ρ))
        (alt text ρ (seq text ρ {P = anything} (λ s f u h. h s) (none_kept text ρ) behind_dot_gives) (map_to text ρ (λ t p. postfix_step text t ∙ p) index_gives))

    post_gives : Gives text ρ post exps
    unfolding post
    post_gives = seq text ρ post_well prim_gives (many_good text ρ postfix_form_gives)

    -- Unary
    pub unary_gives : Gives text ρ unary exps
    unfolding unary
    unary_gives =
        alt text ρ (seq text ρ {P = anything} (λ t e u p. exp_prefix text (across t.span (span_of_exp e)) (prefix_named t.kind) e ∙ p) (none_kept text ρ) (of_rule text ρ knots RUnary)) post_gives

    cast_gives : Gives text ρ cast exps
    unfolding cast
    cast_gives = seq text ρ cast_well unary_gives (many_good text ρ (then_ text ρ (name_gives text ρ)))

    op_gives : (l : Level) (ks : List Kind) → OfEach (λ (kind : Kind). level_of (op_named kind) ≡ l) ks → Gives text ρ (Tok ks op_of) (record { holds = λ o. level_of o ≡ l })
    op_gives l ks all = token text ρ (λ t h s. among (λ (kind : Kind). level_of (op_named kind) ≡ l) ks t.kind h all)

    operator_gives : (l : Level) → Gives text ρ (operator l) (record { holds = λ o. level_of o ≡ l })
    unfolding operator
    operator_gives level.Product = op_gives level.Product (k.Star ∷ k.Slash ∷ k.Percent ∷ []) (refl, (refl, (refl, tt)))
    operator_gives level.Sum = op_gives level.Sum (k.Plus ∷ k.Minus ∷ []) (refl, (refl, tt))
    operator_gives level.Shift = alt text ρ (op_gives level.Shift (k.ShiftLeft ∷ []) (refl, tt)) (then_ text ρ (op_gives level.Shift (k.ShiftBack ∷ []) (refl, tt)))
    operator_gives level.BitAnd = op_gives level.BitAnd (k.And ∷ []) (refl, tt)
    operator_gives level.BitXor = op_gives level.BitXor (k.Caret ∷ []) (refl, tt)
    operator_gives level.BitOr = op_gives level.BitOr (k.Or ∷ []) (refl, tt)
    operator_gives level.Compare = op_gives level.Compare (k.EqualsEquals ∷ k.NotEquals ∷ k.Less ∷ k.LessEquals ∷ k.Greater ∷ k.GreaterEquals ∷ []) (refl, (refl, (refl, (refl, (refl, (refl, tt))))))
    operator_gives level.And = op_gives level.And (k.AndAnd ∷ []) (refl, tt)
    operator_gives level.Or = op_gives level.Or (k.OrOr ∷ []) (refl, tt)

    operand_gives : (l : Level) (below : F Exp) → Gives text ρ below exps → Gives text ρ (operand l below) (of_level l)
    unfolding operand
    operand_gives l below g = seq text ρ (operand_well l) (operator_gives l) g

    -- any number of a level that is not the comparisons'
    more : (l : Level) → same_level l level.Compare ≡ false → (below : F Exp) → Gives text ρ below exps → Gives text ρ (star (operand l below)) levelled
    more l c below g = loop text ρ (of_level l) anything (λ os e r u. level_well l c os r) (map_to text ρ (λ o h. h) (operand_gives l below g))

    operands_gives : (l : Level) (below : F Exp) → Gives text ρ below exps → Gives text ρ (operands l below) levelled
    unfolding operands
    operands_gives level.Product below g = more level.Product refl below g
    operands_gives level.Sum below g = more level.Sum refl below g
    operands_gives level.Shift below g = more level.Shift refl below g
    operands_gives level.BitAnd below g = more level.BitAnd refl below g
    operands_gives level.BitXor below g = more level.BitXor refl below g
    operands_gives level.BitOr below g = more level.BitOr refl below g
    operands_gives level.Compare below g = map_to text ρ compare_well (may text ρ (operand_gives level.Compare below g))
    operands_gives level.And below g = more level.And refl below g
    operands_gives level.Or below g = more level.Or refl below g

    -- the expressions of these levels
    pub binary_gives : (ls : List Level) → Gives text ρ (binary ls) exps
    unfolding binary
    binary_gives [] = cast_gives
    binary_gives (l ∷ ls) = seq text ρ binary_well (binary_gives ls) (operands_gives l (binary ls) (binary_gives ls))
