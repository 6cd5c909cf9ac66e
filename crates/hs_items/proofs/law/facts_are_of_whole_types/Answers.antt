use Rattle.hs_items.specs.Whole.{facts_of}
use Rattle.hs_items.proofs.Asking.{nothing_is, joined_is, over_is}
use Rattle.hs_items.proofs.Agree.{single_is, great_is}
use Rattle.hs_items.proofs.law.facts_are_of_whole_types.Goals as goal

pub returns-clause-nothing : goal.returns-clause-nothing
returns-clause-nothing c = nothing_is

pub returns-clause-single : goal.returns-clause-single
returns-clause-single c = single_is

pub returns-clause-joined : goal.returns-clause-joined
returns-clause-joined c = joined_is

pub returns-clause-over : goal.returns-clause-over
returns-clause-over c = over_is

pub returns-clause-great : goal.returns-clause-great
returns-clause-great c = λ type. great_is (facts_of type)
