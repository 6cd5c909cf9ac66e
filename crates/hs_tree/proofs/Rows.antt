-- What small programs give.
use Rattle.std.proofs.Common.{refl}
use Rattle.hs_tree.specs.SmallPrograms.{RightSideFirst, ShortCircuit, BothOperands, LoopReturns, LoopEnds, LoopIsCounted, EmptyLoops, MutableParameterFirst, MutableParameterIsUsed, OperandBeforeQuestionMark, QuestionMarkReturns, MovedLocalHasNoRead, LaterNothingMoves, FoldEndsEarly, FoldGoesOn, ReturnFromNestedLoops, NestedLoopsAreCounted, OuterLocalIsAssigned, OuterLocalStays, OperandIsReadFirst, LentSequenceAtExit, LentSequenceAtEnd, LentLocalBehindCall, PanicAtEachPlace, ExitAtEachPlace, Sum}
use Rattle.hs_tree.proofs.Applied.{sum_sizes, size_over_none, word_over_none, one_over_one, one_and_five, same_sizes, two_bytes, pushed, pushed_more, result_ctors}

pub w_divides : RightSideFirst
w_divides = simp (two_bytes, size_over_none) refl

pub s_short : ShortCircuit
s_short = refl

pub s_long : BothOperands
s_long = simp (word_over_none) refl

pub first_returns : LoopReturns
first_returns = simp (same_sizes) refl

pub first_ends : LoopEnds
first_ends = simp (same_sizes) refl

pub first_loops : LoopIsCounted
first_loops = refl

pub e_stays : EmptyLoops
e_stays = refl

pub f_gives_back : MutableParameterFirst
f_gives_back = simp (result_ctors) refl

pub f_lends : MutableParameterIsUsed
f_lends = refl

pub q_divides : OperandBeforeQuestionMark
q_divides = simp (word_over_none) refl

pub q_asks : QuestionMarkReturns
q_asks = simp (one_over_one, result_ctors) refl

pub m_stuck : MovedLocalHasNoRead
m_stuck = refl

pub m_later : LaterNothingMoves
m_later = refl

pub c_ends : FoldEndsEarly
c_ends = simp (same_sizes) refl

pub c_goes_on : FoldGoesOn
c_goes_on = simp (same_sizes) refl

pub n_returns : ReturnFromNestedLoops
n_returns = simp (same_sizes, sum_sizes) refl

pub n_loops : NestedLoopsAreCounted
n_loops = refl

pub h_assigns : OuterLocalIsAssigned
h_assigns = refl

pub h_stays : OuterLocalStays
h_stays = refl

pub frozen_adds : OperandIsReadFirst
frozen_adds = simp one_and_five refl

pub fill_exits : LentSequenceAtExit
fill_exits = simp (same_sizes, result_ctors, pushed, pushed_more) refl

pub fill_ends : LentSequenceAtEnd
fill_ends = simp (same_sizes, result_ctors, pushed, pushed_more) refl

pub z_lends : LentLocalBehindCall
z_lends = simp result_ctors refl

pub places_panic : PanicAtEachPlace
places_panic = simp word_over_none refl

pub places_exit : ExitAtEachPlace
places_exit = refl

pub sum_adds : Sum
sum_adds = simp (sum_sizes) refl
