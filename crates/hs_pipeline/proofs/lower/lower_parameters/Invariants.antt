use Rattle.std.proofs.Common.{◌≡◌, map, take}
use Rattle.hs_first_tree.specs.Of.{param_of}
use Rattle.hs_first_em.specs.Of.{par_of}
use Rattle.hs_pipeline.specs.Lower.{lowered_param}
use Rattle.hs_pipeline.proofs.lower.lower_parameters.Given as goal

-- what is made is what the parameters so far are
abbrev pub invariant-loop-parameter : goal.invariant-loop-parameter
invariant-loop-parameter l = map par_of l.made ≡ map (lowered_param l.names) (map param_of (take l.parameter-index l.parameters))
