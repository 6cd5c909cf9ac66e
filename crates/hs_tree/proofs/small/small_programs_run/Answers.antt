use Rattle.hs_tree.proofs.Rows.{w_divides, s_short, s_long, first_returns, first_ends, first_loops, e_stays, f_gives_back, f_lends, q_divides, q_asks, m_stuck, m_later, c_ends, c_goes_on, n_returns, n_loops, h_assigns, h_stays, frozen_adds, fill_exits, fill_ends, z_lends, places_panic, places_exit, sum_adds}
use Rattle.hs_tree.proofs.small.small_programs_run.Goals as goal

pub returns-clause-right_side_first : goal.returns-clause-right_side_first
returns-clause-right_side_first c = w_divides

pub returns-clause-short_circuit : goal.returns-clause-short_circuit
returns-clause-short_circuit c = s_short

pub returns-clause-both_operands : goal.returns-clause-both_operands
returns-clause-both_operands c = s_long

pub returns-clause-loop_returns : goal.returns-clause-loop_returns
returns-clause-loop_returns c = first_returns

pub returns-clause-loop_ends : goal.returns-clause-loop_ends
returns-clause-loop_ends c = first_ends

pub returns-clause-loop_is_counted : goal.returns-clause-loop_is_counted
returns-clause-loop_is_counted c = first_loops

pub returns-clause-empty_loops : goal.returns-clause-empty_loops
returns-clause-empty_loops c = e_stays

pub returns-clause-mutable_parameter_first : goal.returns-clause-mutable_parameter_first
returns-clause-mutable_parameter_first c = f_gives_back

pub returns-clause-mutable_parameter_is_used : goal.returns-clause-mutable_parameter_is_used
returns-clause-mutable_parameter_is_used c = f_lends

pub returns-clause-operand_before_question_mark : goal.returns-clause-operand_before_question_mark
returns-clause-operand_before_question_mark c = q_divides

pub returns-clause-question_mark_returns : goal.returns-clause-question_mark_returns
returns-clause-question_mark_returns c = q_asks

pub returns-clause-moved_local_has_no_read : goal.returns-clause-moved_local_has_no_read
returns-clause-moved_local_has_no_read c = m_stuck

pub returns-clause-later_nothing_moves : goal.returns-clause-later_nothing_moves
returns-clause-later_nothing_moves c = m_later

pub returns-clause-fold_ends_early : goal.returns-clause-fold_ends_early
returns-clause-fold_ends_early c = c_ends

pub returns-clause-fold_goes_on : goal.returns-clause-fold_goes_on
returns-clause-fold_goes_on c = c_goes_on

pub returns-clause-return_from_nested_loops : goal.returns-clause-return_from_nested_loops
returns-clause-return_from_nested_loops c = n_returns

pub returns-clause-nested_loops_are_counted : goal.returns-clause-nested_loops_are_counted
returns-clause-nested_loops_are_counted c = n_loops

pub returns-clause-outer_local_is_assigned : goal.returns-clause-outer_local_is_assigned
returns-clause-outer_local_is_assigned c = h_assigns

pub returns-clause-outer_local_stays : goal.returns-clause-outer_local_stays
returns-clause-outer_local_stays c = h_stays

pub returns-clause-operand_is_read_first : goal.returns-clause-operand_is_read_first
returns-clause-operand_is_read_first c = frozen_adds

pub returns-clause-lent_sequence_at_exit : goal.returns-clause-lent_sequence_at_exit
returns-clause-lent_sequence_at_exit c = fill_exits

pub returns-clause-lent_sequence_at_end : goal.returns-clause-lent_sequence_at_end
returns-clause-lent_sequence_at_end c = fill_ends

pub returns-clause-lent_local_behind_call : goal.returns-clause-lent_local_behind_call
returns-clause-lent_local_behind_call c = z_lends

pub returns-clause-panic_at_each_place : goal.returns-clause-panic_at_each_place
returns-clause-panic_at_each_place c = places_panic

pub returns-clause-exit_at_each_place : goal.returns-clause-exit_at_each_place
returns-clause-exit_at_each_place c = places_exit

pub returns-clause-sum : goal.returns-clause-sum
returns-clause-sum c = sum_adds
