-- Expressions: what is written is what is read.
use Rattle.std.proofs.Common.{Bool, List, [], ◌∷◌, ◌++◌, Option, None, refl}
use Rattle.hs_grammar.specs.Form.{Pure, Map, Seq, Alt, Unless}
use Rattle.hs_grammar.specs.Derives.{Derivings, Beginnings}
use Rattle.hs_grammar.specs.Same.{Same, Sane}
use Rattle.hs_grammar.specs.Combinators.{word, ◌>>◌, ◌<<◌, ◌&◌, optional, star, plus, list_read}
use Rattle.hs_syntax.specs.declared.span.Span.{Span}
use Rattle.hs_syntax.specs.declared.exp.Exp.{Exp}
use Rattle.hs_syntax.specs.declared.exp.Exp.TheVariants as exp
use Rattle.hs_syntax.specs.declared.exp.Arg.{Arg}
use Rattle.hs_syntax.specs.declared.exp.Arg.TheVariants as arg
use Rattle.hs_syntax.specs.declared.exp.Arm.{Arm}
use Rattle.hs_syntax.specs.declared.exp.Postfix.{Postfix}
use Rattle.hs_syntax.specs.declared.exp.Postfix.TheVariants as postfix
use Rattle.hs_syntax.specs.declared.exp.Level.{Level}
use Rattle.hs_syntax.specs.declared.exp.Level.TheVariants as level
use Rattle.hs_syntax.specs.declared.exp.BinaryOp.{BinaryOp}
use Rattle.hs_syntax.specs.Spans.{span_of_exp}
use Rattle.hs_forms.specs.declared.token.Kind.TheVariants as k
use Rattle.hs_forms.specs.Lexis.{lexis}
use Rattle.hs_forms.specs.Nodes.{across, group_of, tuple_of, arm_of, all_arms}
use Rattle.hs_forms.specs.Reading.{rules, F, at, name, comma, expression, block, lent, lent_arg, list_arg, arg_form, args_rest, args, path_form, call_form, behind_first, grouped_rest, grouped, if_form, block_value, exp_value, arm_form, arm_pattern, behind_ctor, member_pattern, patterns, next_arms, arms_of, arms, match_form, alone, prim, method, behind_dot, index, postfix_form, step_form, post, unary, cast, operator, operand, operands, levels, binary}
use Rattle.hs_forms.specs.Written.{or_empty, written_path, written_arg, written_args, written_arm, last_arm, written_arms, written_match, written_alone, written_grouped, written_call, written_prim, written_postfix, written_post, written_unary, written_cast, chain_of, written_product, written_sum, written_shift, written_bit_and, written_bit_xor, written_bit_or, written_comparison, written_and, written_exp}
use Rattle.hs_forms.proofs.Factor.{same_by}
use Rattle.hs_forms.proofs.Flags.{flagged, parted, split_flag, loop_flag, ended_same}
use Rattle.hs_forms.proofs.Inside.{keep, by, back, seq, alt, along, maybe, stars, turned, lists_read}
use Rattle.hs_forms.proofs.Patterns.{arm_pat_same}

-- Arg, with this list
arg_with : F (List Exp) → F Arg
arg_with es =
    Alt (Map arg.Value expression) (Alt (Seq (λ s e. arg.Shared (across s (span_of_exp e)) e) (at k.And) expression)
    (Alt (Seq (λ s n. arg.Lent (across s n) n) (at k.And) (word k.Mut >> name))
    (Seq (λ o (r : List Exp × Span). arg.List (across o r.1) r.0) (at k.LeftBracket) (es & at k.RightBracket))))

args_with : F (List Arg) → F (List Arg × Span)
args_with as' = word k.LeftParenthesis >> (Map or_empty (optional as') & at k.RightParenthesis)

grouped_with : F (List Exp) → F Exp
grouped_with es =
    Alt (Seq (λ o close. exp.Unit (across o close)) (at k.LeftParenthesis) (at k.RightParenthesis))
    (Alt (Seq (λ o (r : Exp × Span). group_of o r.0 r.1) (at k.LeftParenthesis) (expression & at k.RightParenthesis))
    (Seq (λ o (r : Exp × (List Exp × Span)). tuple_of o r.0 r.1.0 r.1.1) (at k.LeftParenthesis)
    (expression & (comma >> (es & at k.RightParenthesis)))))

postfix_with : F (List Arg × Span) → F Postfix
postfix_with as' =
    Alt (Map postfix.Try (at k.Question))
    (Alt (Seq (λ s (r : Span × (List Arg × Span)). postfix.Method (across s r.1.1) r.0 r.1.0) (at k.Dot) (name & as')) (Map postfix.Step step_form))

-- an arm with a comma or a block, by its pattern's form
arm_with : F Arm
arm_with = Seq arm_of arm_pattern (word k.FatArrow >> Alt (Map exp.Block (block << optional comma)) (Unless (k.LeftBrace ∷ []) expression << comma))

last_with : F Arm
last_with = Seq arm_of arm_pattern (word k.FatArrow >> Unless (k.LeftBrace ∷ []) expression)

arms_parted : F (List Arm)
arms_parted =
    Alt (Seq all_arms arm_with (Seq (λ as' last. (as', last)) (star arm_with) (optional last_with)))
    (Seq (λ a (r : List Arm × Option Arm). all_arms a r) last_with (Pure ([], None)))

arms_ended : F (List Arm)
arms_ended =
    Alt (Seq all_arms arm_with (Seq (λ as' last. (as', last)) (star arm_with) (optional last_with))) (Map (λ a. a ∷ []) last_with)

-- the levels from one on to the strongest
abbrev products : List Level
products = level.Product ∷ []

abbrev sums : List Level
sums = level.Sum ∷ products

abbrev shifts : List Level
shifts = level.Shift ∷ sums

abbrev bit_ands : List Level
bit_ands = level.BitAnd ∷ shifts

abbrev bit_xors : List Level
bit_xors = level.BitXor ∷ bit_ands

abbrev bit_ors : List Level
bit_ors = level.BitOr ∷ bit_xors

abbrev comparisons : List Level
comparisons = level.Compare ∷ bit_ors

abbrev ands : List Level
ands = level.And ∷ comparisons

module _ (ρ : Derivings lexis rules) (β : Beginnings lexis rules) (sane : Sane lexis rules ρ β) where
  arg_inside : Same ρ β written_arg (arg_with (list_read comma expression))
  unfolding written_arg arg_with
  arg_inside = alt ρ β (keep ρ β) (alt ρ β (keep ρ β) (alt ρ β (keep ρ β) (seq ρ β (keep ρ β) (seq ρ β (lists_read ρ β sane (keep ρ β)) (keep ρ β)))))

  arg_factored : Same ρ β (arg_with (list_read comma expression)) arg_form
  unfolding arg_with arg_form lent_arg lent list_arg name
  arg_factored = same_by lexis rules ρ β sane Arg (arg_with (list_read comma expression)) arg_form (3 ∷ 1 ∷ 0 ∷ 2 ∷ []) (2 ∷ 1 ∷ 3 ∷ 0 ∷ []) refl refl

  pub arg_same : Same ρ β written_arg arg_form
  arg_same = by ρ β (arg_with (list_read comma expression)) arg_inside arg_factored

  args_inside : Same ρ β written_args (args_with (list_read comma arg_form))
  unfolding written_args args_with
  args_inside = seq ρ β (keep ρ β) (seq ρ β (along ρ β (maybe ρ β (lists_read ρ β sane arg_same))) (keep ρ β))

  args_factored : Same ρ β (args_with (list_read comma arg_form)) args
  unfolding args_with args args_rest arg_form lent_arg lent list_arg name
  args_factored = same_by lexis rules ρ β sane (List Arg × Span) (args_with (list_read comma arg_form)) args (1 ∷ 2 ∷ 3 ∷ 4 ∷ 0 ∷ []) (4 ∷ 0 ∷ 1 ∷ 2 ∷ 3 ∷ []) refl refl

  pub args_same : Same ρ β written_args args
  args_same = by ρ β (args_with (list_read comma arg_form)) args_inside args_factored

  grouped_inside : Same ρ β written_grouped (grouped_with (list_read comma expression))
  unfolding written_grouped grouped_with
  grouped_inside = alt ρ β (keep ρ β) (alt ρ β (keep ρ β) (seq ρ β (keep ρ β) (seq ρ β (keep ρ β) (seq ρ β (keep ρ β) (seq ρ β (lists_read ρ β sane (keep ρ β)) (keep ρ β))))))

  grouped_factored : Same ρ β (grouped_with (list_read comma expression)) grouped
  unfolding grouped_with grouped grouped_rest behind_first
  grouped_factored = same_by lexis rules ρ β sane Exp (grouped_with (list_read comma expression)) grouped (0 ∷ 1 ∷ 2 ∷ []) (0 ∷ 1 ∷ 2 ∷ []) refl refl

  grouped_same : Same ρ β written_grouped grouped
  grouped_same = by ρ β (grouped_with (list_read comma expression)) grouped_inside grouped_factored

  postfix_inside : Same ρ β written_postfix (postfix_with args)
  unfolding written_postfix postfix_with
  postfix_inside = alt ρ β (keep ρ β) (alt ρ β (seq ρ β (keep ρ β) (seq ρ β (keep ρ β) args_same)) (keep ρ β))

  postfix_factored : Same ρ β (postfix_with args) postfix_form
  unfolding postfix_with postfix_form behind_dot method step_form index args args_rest arg_form lent_arg lent list_arg name
  postfix_factored = same_by lexis rules ρ β sane Postfix (postfix_with args) postfix_form (0 ∷ 2 ∷ 3 ∷ 4 ∷ 5 ∷ 6 ∷ 7 ∷ 1 ∷ []) (0 ∷ 7 ∷ 1 ∷ 2 ∷ 3 ∷ 4 ∷ 5 ∷ 6 ∷ []) refl refl

  postfix_same : Same ρ β written_postfix postfix_form
  postfix_same = by ρ β (postfix_with args) postfix_inside postfix_factored

  -- ---- arms

  arm_inside : Same ρ β written_arm arm_with
  unfolding written_arm arm_with
  arm_inside = seq ρ β (arm_pat_same ρ β sane) (keep ρ β)

  last_inside : Same ρ β last_arm last_with
  unfolding last_arm last_with
  last_inside = seq ρ β (arm_pat_same ρ β sane) (keep ρ β)

  arm_flag : Same ρ β arm_form (flagged arm_with last_with)
  unfolding arm_form block_value exp_value arm_with last_with arm_pattern behind_ctor member_pattern patterns name
  arm_flag = same_by lexis rules ρ β sane (Arm × Bool) arm_form (flagged arm_with last_with)
      (0 ∷ 1 ∷ 2 ∷ 15 ∷ 3 ∷ 4 ∷ 5 ∷ 16 ∷ 6 ∷ 7 ∷ 8 ∷ 17 ∷ 9 ∷ 10 ∷ 11 ∷ 18 ∷ 12 ∷ 13 ∷ 14 ∷ 19 ∷ [])
      (0 ∷ 1 ∷ 2 ∷ 4 ∷ 5 ∷ 6 ∷ 8 ∷ 9 ∷ 10 ∷ 12 ∷ 13 ∷ 14 ∷ 16 ∷ 17 ∷ 18 ∷ 3 ∷ 7 ∷ 11 ∷ 15 ∷ 19 ∷ []) refl refl

  arms_same_parted : Same ρ β arms arms_parted
  unfolding arms arms_parted next_arms
  arms_same_parted = by ρ β
      (parted arms_of arm_with last_with (Pure ([], None)) next_arms)
      (split_flag lexis rules ρ β arms_of arm_with last_with (Pure ([], None)) next_arms arm_form arm_flag)
      (alt ρ β (seq ρ β (keep ρ β) (loop_flag lexis rules ρ β sane arm_with last_with (λ as' last. (as', last)) arm_form arm_flag)) (keep ρ β))

  -- nothing behind an arm without a comma
  alone_last : Same ρ β (Seq (λ a (r : List Arm × Option Arm). all_arms a r) last_with (Pure ([], None))) (Map (λ a. a ∷ []) last_with)
  unfolding last_with arm_pattern behind_ctor member_pattern patterns name
  alone_last = same_by lexis rules ρ β sane (List Arm) (Seq (λ a (r : List Arm × Option Arm). all_arms a r) last_with (Pure ([], None))) (Map (λ a. a ∷ []) last_with) (0 ∷ 1 ∷ 2 ∷ 3 ∷ 4 ∷ []) (0 ∷ 1 ∷ 2 ∷ 3 ∷ 4 ∷ []) refl refl

  arms_read : Same ρ β arms arms_ended
  unfolding arms_parted arms_ended
  arms_read = by ρ β arms_parted arms_same_parted (alt ρ β (keep ρ β) alone_last)

  arms_same : Same ρ β written_arms arms
  unfolding written_arms arms_ended
  arms_same =
      by ρ β (Alt (plus arm_with) (Seq (λ as' a. as' ++ a ∷ []) (star arm_with) last_with))
      (alt ρ β (seq ρ β arm_inside (stars ρ β arm_inside)) (seq ρ β (stars ρ β arm_inside) last_inside))
      (by ρ β arms_ended (ended_same lexis rules ρ β sane arm_with last_with all_arms (λ a as'. refl) (λ a as' b. refl)) (back ρ β arms_read))

  pub match_same : Same ρ β written_match match_form
  unfolding written_match match_form
  match_same = seq ρ β (keep ρ β) (seq ρ β (keep ρ β) (seq ρ β (keep ρ β) (seq ρ β arms_same (keep ρ β))))

  pub alone_same : Same ρ β written_alone alone
  unfolding written_alone alone
  alone_same = alt ρ β (keep ρ β) (alt ρ β match_same (keep ρ β))

  -- ---- operands and operators

  module _ (paths : Same ρ β written_path path_form) where
    call_same : Same ρ β written_call call_form
    unfolding written_call call_form
    call_same = seq ρ β paths (maybe ρ β args_same)

    prim_same : Same ρ β written_prim prim
    unfolding written_prim prim alone
    prim_same =
        alt ρ β (keep ρ β) (alt ρ β grouped_same (alt ρ β call_same
        (by ρ β (Alt (Map exp.If if_form) (Alt written_match (Map exp.Block block))) (turned ρ β) (alt ρ β (keep ρ β) (alt ρ β match_same (keep ρ β))))))

    post_same : Same ρ β written_post post
    unfolding written_post post
    post_same = seq ρ β prim_same (stars ρ β postfix_same)

    pub unary_same : Same ρ β written_unary unary
    unfolding written_unary unary
    unary_same = alt ρ β (keep ρ β) post_same

    cast_same : Same ρ β written_cast cast
    unfolding written_cast cast
    cast_same = seq ρ β unary_same (keep ρ β)

    -- a level of operators with any number of operands
    chain_same : (o : F BinaryOp) (f g : F Exp) → Same ρ β f g → Same ρ β (chain_of o f) (chain_of o g)
    chain_same o f g s = seq ρ β s (stars ρ β (seq ρ β (keep ρ β) s))

    product_same : Same ρ β written_product (binary products)
    unfolding written_product binary operands operand
    product_same = chain_same (operator level.Product) written_cast cast cast_same

    sum_same : Same ρ β written_sum (binary sums)
    unfolding written_sum binary operands operand
    sum_same = chain_same (operator level.Sum) written_product (binary products) product_same

    shift_same : Same ρ β written_shift (binary shifts)
    unfolding written_shift binary operands operand
    shift_same = chain_same (operator level.Shift) written_sum (binary sums) sum_same

    bit_and_same : Same ρ β written_bit_and (binary bit_ands)
    unfolding written_bit_and binary operands operand
    bit_and_same = chain_same (operator level.BitAnd) written_shift (binary shifts) shift_same

    bit_xor_same : Same ρ β written_bit_xor (binary bit_xors)
    unfolding written_bit_xor binary operands operand
    bit_xor_same = chain_same (operator level.BitXor) written_bit_and (binary bit_ands) bit_and_same

    bit_or_same : Same ρ β written_bit_or (binary bit_ors)
    unfolding written_bit_or binary operands operand
    bit_or_same = chain_same (operator level.BitOr) written_bit_xor (binary bit_xors) bit_xor_same

    comparison_same : Same ρ β written_comparison (binary comparisons)
    unfolding written_comparison binary operands operand
    comparison_same = seq ρ β bit_or_same (along ρ β (maybe ρ β (seq ρ β (keep ρ β) bit_or_same)))

    and_same : Same ρ β written_and (binary ands)
    unfolding written_and binary operands operand
    and_same = chain_same (operator level.And) written_comparison (binary comparisons) comparison_same

    pub exp_same : Same ρ β written_exp (binary levels)
    unfolding written_exp binary operands operand
    exp_same = chain_same (operator level.Or) written_and (binary ands) and_same
