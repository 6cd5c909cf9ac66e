-- How often a rule leads to another before a token has been read.
use Rattle.std.proofs.Common.{◌≡◌, ℕ, ◌<◌, arith, true, refl}
use Rattle.hs_grammar.specs.Depth.{leads_below, Ranked}
use Rattle.hs_forms.specs.Reading.{Rule, RFile, RType, RMaybe, RPat, RExp, RUnary, RBlock, RIf, ROpen, RPlace, RPlaced, grammar, tables, name, int, next_type, next_types, types, angle, closed, close_maybe, maybe_closed, tuple_items, tuple_rest, bracketed, type_form, maybe_form, patterns, named_pattern, mutable_pattern, tuple_pattern, pat_form, member_pattern, behind_ctor, arm_pattern, path_type, path_of_type, behind_separator, path_form, lent, lent_arg, list_arg, arg_form, args_rest, args, call_form, behind_first, grouped_rest, grouped, else_branch, else_form, if_form, block_value, exp_value, arm_form, next_arms, arms, match_form, literal, alone, prim, method, behind_dot, index, postfix_form, post, unary, cast, operator, operand, operands, binary, pieces, block_form, mutable_param, lent_type, mode_type, named_param, param, parts, ctor, const_form, alias_form, struct_form, enum_form, params_rest, params, result_type, fn_form, data_form, declaration, derive_names, derived_item, public_item, plain_item, use_form, array_form, bytes_form, nat_mod_names, nat_mod_values, nat_mod_form, other_item, item_form, file_form, open_form, step_form, place_form, placed_form}

-- an expression leads to a block, and nothing else leads to a rule before a token has been read
abbrev pub rank : Rule → ℕ
rank RFile = 0
rank RType = 0
rank RMaybe = 0
rank RPat = 0
rank RExp = 1
rank RUnary = 1
rank RBlock = 0
rank RIf = 0
rank ROpen = 0
rank RPlace = 0
rank RPlaced = 0

below : (N : Rule) → rank N < 2
below RFile = omega arith
below RType = omega arith
below RMaybe = omega arith
below RPat = omega arith
below RExp = omega arith
below RUnary = omega arith
below RBlock = omega arith
below RIf = omega arith
below ROpen = omega arith
below RPlace = omega arith
below RPlaced = omega arith

type_falls : leads_below tables rank 0 type_form ≡ true
unfolding type_form bracketed tuple_rest tuple_items name closed angle types next_types next_type
type_falls = refl

maybe_falls : leads_below tables rank 0 maybe_form ≡ true
unfolding maybe_form bracketed tuple_rest tuple_items name maybe_closed close_maybe angle types next_types next_type
maybe_falls = refl

pat_falls : leads_below tables rank 0 pat_form ≡ true
unfolding pat_form mutable_pattern tuple_pattern named_pattern patterns name
pat_falls = refl

if_falls : leads_below tables rank 0 if_form ≡ true
unfolding if_form else_form else_branch
if_falls = refl

unary_falls : leads_below tables rank 1 unary ≡ true
unfolding unary post prim literal int grouped grouped_rest behind_first call_form path_form behind_separator path_of_type path_type name args args_rest arg_form lent_arg lent list_arg alone if_form else_form else_branch match_form arms next_arms arm_form block_value exp_value arm_pattern behind_ctor member_pattern patterns postfix_form behind_dot method index
unary_falls = refl

exp_falls : leads_below tables rank 1 (grammar RExp) ≡ true
unfolding binary operands operand operator cast unary post prim literal int grouped grouped_rest behind_first call_form path_form behind_separator path_of_type path_type name args args_rest arg_form lent_arg lent list_arg alone if_form else_form else_branch match_form arms next_arms arm_form block_value exp_value arm_pattern behind_ctor member_pattern patterns postfix_form behind_dot method index
exp_falls = refl

open_falls : leads_below tables rank 0 open_form ≡ true
unfolding open_form name
open_falls = refl

place_falls : leads_below tables rank 0 place_form ≡ true
unfolding place_form step_form index name
place_falls = refl

placed_falls : leads_below tables rank 0 placed_form ≡ true
unfolding placed_form place_form step_form index name
placed_falls = refl

file_falls : leads_below tables rank 0 file_form ≡ true
unfolding file_form item_form derived_item derive_names public_item plain_item other_item declaration data_form const_form alias_form struct_form enum_form fn_form params params_rest result_type param mutable_param named_param mode_type lent_type parts ctor use_form array_form bytes_form nat_mod_form nat_mod_names nat_mod_values name int
file_falls = refl

block_falls : leads_below tables rank 0 block_form ≡ true
unfolding block_form pieces
block_falls = refl

falls : (N : Rule) → leads_below tables rank (rank N) (grammar N) ≡ true
falls RFile = file_falls
falls RType = type_falls
falls RMaybe = maybe_falls
falls RPat = pat_falls
falls RExp = exp_falls
falls RUnary = unary_falls
falls RBlock = block_falls
falls RIf = if_falls
falls ROpen = open_falls
falls RPlace = place_falls
falls RPlaced = placed_falls

-- the rules have two ranks
pub ranked : Ranked tables grammar rank 2
ranked = record { below = below; falls = falls }
