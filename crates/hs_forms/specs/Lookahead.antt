-- One token of lookahead is enough for each rule.
use Rattle.std.proofs.Common.{◌≡◌, Bool, true, false, List, [], ◌∷◌, inl, refl}
use Rattle.hs_grammar.specs.Kinds.{disjoint, within}
use Rattle.hs_grammar.specs.Derives.{Where}
use Rattle.hs_grammar.specs.Lookahead.{Fits, FitsRule, GoesOn, IsMore, NoEmpty, empty, begin, go_on}
use Rattle.hs_grammar.proofs.Fits.{fits_by, goes_on, no_empty_of}
use Rattle.hs_forms.specs.declared.token.Kind.{Kind}
use Rattle.hs_forms.specs.declared.token.Kind.TheVariants as k
use Rattle.hs_forms.specs.declared.piece.Piece.{Piece}
use Rattle.hs_forms.specs.Lexis.{lexis, decides}
use Rattle.hs_forms.specs.Blocks.{is_place, step_of_piece}
use Rattle.hs_forms.specs.Reading.{Rule, RFile, RType, RMaybe, RPat, RExp, RUnary, RBlock, RIf, ROpen, RPlace, RPlaced, rules, grammar, tables, F, name, int, next_type, next_types, types, angle, closed, close_maybe, maybe_closed, tuple_items, tuple_rest, bracketed, type_form, maybe_form, patterns, named_pattern, mutable_pattern, tuple_pattern, pat_form, member_pattern, behind_ctor, arm_pattern, path_type, path_of_type, behind_separator, path_form, lent, lent_arg, list_arg, arg_form, args_rest, args, call_form, behind_first, grouped_rest, grouped, else_branch, else_form, if_form, block_value, exp_value, arm_form, next_arms, arms, match_form, literal, alone, prim, method, behind_dot, index, postfix_form, post, unary, cast, operator, operand, operands, levels, binary, let_form, loop_variable, for_form, returned, return_form, alone_form, assign_op, assigned, finished, behind_place, exp_form, piece_form, pieces, block_form, mutable_param, lent_type, mode_type, named_param, param, parts, ctor, const_form, alias_form, struct_form, enum_form, params_rest, params, result_type, fn_form, data_form, declaration, derive_names, derived_item, public_item, plain_item, use_form, array_form, bytes_form, nat_mod_names, nat_mod_values, nat_mod_form, other_item, item_form, file_form, open_form, step_form, place_form, placed_form}

type_fits : FitsRule tables grammar RType
unfolding type_form bracketed tuple_rest tuple_items name closed angle types next_types next_type
type_fits = record { fits = fits_by lexis rules decides tables type_form refl; empty_is = refl; begin_in = refl; go_on_in = refl }

maybe_fits : FitsRule tables grammar RMaybe
unfolding maybe_form bracketed tuple_rest tuple_items name maybe_closed close_maybe angle types next_types next_type
maybe_fits = record { fits = fits_by lexis rules decides tables maybe_form refl; empty_is = refl; begin_in = refl; go_on_in = refl }

pat_fits : FitsRule tables grammar RPat
unfolding pat_form mutable_pattern tuple_pattern named_pattern patterns name
pat_fits = record { fits = fits_by lexis rules decides tables pat_form refl; empty_is = refl; begin_in = refl; go_on_in = refl }

if_fits : FitsRule tables grammar RIf
unfolding if_form else_form else_branch
if_fits = record { fits = fits_by lexis rules decides tables if_form refl; empty_is = refl; begin_in = refl; go_on_in = refl }

unary_fits : FitsRule tables grammar RUnary
unfolding unary post prim literal int grouped grouped_rest behind_first call_form path_form behind_separator path_of_type path_type name args args_rest arg_form lent_arg lent list_arg alone if_form else_form else_branch match_form arms next_arms arm_form block_value exp_value arm_pattern behind_ctor member_pattern patterns postfix_form behind_dot method index
unary_fits = record { fits = fits_by lexis rules decides tables unary refl; empty_is = refl; begin_in = refl; go_on_in = refl }

exp_fits : FitsRule tables grammar RExp
unfolding binary operands operand operator cast unary post prim literal int grouped grouped_rest behind_first call_form path_form behind_separator path_of_type path_type name args args_rest arg_form lent_arg lent list_arg alone if_form else_form else_branch match_form arms next_arms arm_form block_value exp_value arm_pattern behind_ctor member_pattern patterns postfix_form behind_dot method index
exp_fits = record { fits = fits_by lexis rules decides tables (binary levels) refl; empty_is = refl; begin_in = refl; go_on_in = refl }

open_fits : FitsRule tables grammar ROpen
unfolding open_form name
open_fits = record { fits = fits_by lexis rules decides tables open_form refl; empty_is = refl; begin_in = refl; go_on_in = refl }

place_fits : FitsRule tables grammar RPlace
unfolding place_form step_form index name
place_fits = record { fits = fits_by lexis rules decides tables place_form refl; empty_is = refl; begin_in = refl; go_on_in = refl }

placed_fits : FitsRule tables grammar RPlaced
unfolding placed_form place_form step_form index name
placed_fits = record { fits = fits_by lexis rules decides tables placed_form refl; empty_is = refl; begin_in = refl; go_on_in = refl }

file_fits : FitsRule tables grammar RFile
unfolding file_form item_form derived_item derive_names public_item plain_item other_item declaration data_form const_form alias_form struct_form enum_form fn_form params params_rest result_type param mutable_param named_param mode_type lent_type parts ctor use_form array_form bytes_form nat_mod_form nat_mod_names nat_mod_values name int
file_fits = record { fits = fits_by lexis rules decides tables file_form refl; empty_is = refl; begin_in = refl; go_on_in = refl }

-- ---- blocks: behind a statement nothing goes on but `;` and `else`, neither of which begins a piece

abbrev turn_ends : List Kind
turn_ends = k.Semicolon ∷ k.Else ∷ []

both_ends : (b : Bool) {X Y : Type 0} → X → Y → Where b X Y
both_ends true x y = x
both_ends false x y = y

piece_empty : empty tables piece_form ≡ false
unfolding piece_form let_form for_form return_form alone_form exp_form alone if_form match_form
piece_empty = refl

piece_fits : Fits tables piece_form
unfolding piece_form let_form for_form loop_variable return_form returned alone_form exp_form behind_place assigned assign_op finished alone if_form else_form else_branch match_form arms next_arms arm_form block_value exp_value arm_pattern behind_ctor member_pattern patterns name
piece_fits = fits_by lexis rules decides tables piece_form refl

let_goes_on : GoesOn tables turn_ends (λ p. IsMore (step_of_piece p)) let_form
unfolding let_form
let_goes_on = goes_on lexis rules decides tables (λ p. IsMore (step_of_piece p)) let_form turn_ends refl

for_goes_on : GoesOn tables turn_ends (λ p. IsMore (step_of_piece p)) for_form
unfolding for_form loop_variable name
for_goes_on = goes_on lexis rules decides tables (λ p. IsMore (step_of_piece p)) for_form turn_ends refl

return_goes_on : GoesOn tables turn_ends (λ p. IsMore (step_of_piece p)) return_form
unfolding return_form returned
return_goes_on = goes_on lexis rules decides tables (λ p. IsMore (step_of_piece p)) return_form turn_ends refl

alone_goes_on : GoesOn tables turn_ends (λ p. IsMore (step_of_piece p)) alone_form
unfolding alone_form alone if_form else_form else_branch match_form arms next_arms arm_form block_value exp_value arm_pattern behind_ctor member_pattern patterns name
alone_goes_on = goes_on lexis rules decides tables (λ p. IsMore (step_of_piece p)) alone_form turn_ends refl

-- the tail is no statement
exp_goes_on : GoesOn tables turn_ends (λ p. IsMore (step_of_piece p)) exp_form
unfolding exp_form behind_place assigned assign_op finished
exp_goes_on = λ e. both_ends (is_place e)
    (((λ o. ((λ r. (tt, inl tt)), inl refl)), (tt, tt, inl (λ n. n)), inl (tt, (λ n. n))), inl (refl, (tt, (λ n. n))))
    ((tt, tt, inl (λ n. n)), inl (tt, (λ n. n)))

let_full : empty tables let_form ≡ false
unfolding let_form
let_full = refl

for_full : empty tables for_form ≡ false
unfolding for_form
for_full = refl

return_full : empty tables return_form ≡ false
unfolding return_form
return_full = refl

alone_full : empty tables alone_form ≡ false
unfolding alone_form alone if_form match_form
alone_full = refl

exp_full : empty tables exp_form ≡ false
unfolding exp_form
exp_full = refl

-- a statement is never of no token
abbrev full : (f : F Piece) → empty tables f ≡ false → NoEmpty tables (λ p. IsMore (step_of_piece p)) f
full f e = no_empty_of lexis rules decides tables (λ p. IsMore (step_of_piece p)) f e

piece_goes_on : GoesOn tables turn_ends (λ p. IsMore (step_of_piece p)) piece_form
unfolding piece_form
piece_goes_on = (
  let_goes_on,
  (
    for_goes_on,
    (
      return_goes_on,
      (alone_goes_on, exp_goes_on, inl (full exp_form exp_full)),
      inl (full alone_form alone_full, full exp_form exp_full),
    ),
    inl (full return_form return_full, (full alone_form alone_full, full exp_form exp_full)),
  ),
  inl (full for_form for_full, (full return_form return_full, (full alone_form alone_full, full exp_form exp_full))),
)

turn_ends_apart : disjoint lexis turn_ends (begin tables piece_form) ≡ true
unfolding piece_form let_form for_form return_form alone_form exp_form alone if_form match_form
turn_ends_apart = refl

turn_ends_within : within lexis turn_ends (go_on tables piece_form) ≡ true
unfolding piece_form let_form for_form return_form returned alone_form alone if_form else_form else_branch match_form exp_form behind_place assigned assign_op finished loop_variable name
turn_ends_within = refl

pieces_fits : Fits tables pieces
unfolding pieces
pieces_fits = (piece_fits, turn_ends, piece_goes_on, turn_ends_apart, piece_empty, turn_ends_within)

body_ends : disjoint lexis (go_on tables pieces) (k.RightBrace ∷ []) ≡ true
unfolding pieces piece_form let_form for_form return_form returned alone_form alone if_form else_form else_branch match_form exp_form behind_place assigned assign_op finished loop_variable name arms arm_form arm_pattern
body_ends = refl

body_fits : Fits tables block_form
unfolding block_form
body_fits = (tt, (pieces_fits, tt, body_ends), refl)

block_fits : FitsRule tables grammar RBlock
unfolding block_form pieces
block_fits = record { fits = body_fits; empty_is = refl; begin_in = refl; go_on_in = refl }

-- one token of lookahead is enough for each rule
pub fits : (N : Rule) → FitsRule tables grammar N
fits RFile = file_fits
fits RType = type_fits
fits RMaybe = maybe_fits
fits RPat = pat_fits
fits RExp = exp_fits
fits RUnary = unary_fits
fits RBlock = block_fits
fits RIf = if_fits
fits ROpen = open_fits
fits RPlace = place_fits
fits RPlaced = placed_fits
