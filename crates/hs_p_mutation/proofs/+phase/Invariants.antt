use Rattle.std.proofs.Common.{◌≡◌, map, take}
use Rattle.hs_first_tree.specs.Of.{exp_of}
use Rattle.hs_p_mutation.proofs.+phase.Given as goal

abbrev pub invariant-convert_exps-loop-exp : goal.invariant-convert_exps-loop-exp
invariant-convert_exps-loop-exp l = map exp_of l.made ≡ map exp_of (take l.exp-index l.exp-items)
