use Rattle.std.proofs.Common.{None, List, sym, ap, ap₂, ◌∙◌, arith}
use Rattle.std.specs.Prelude.{flat_map}
use Rattle.hs_values.specs.declared.types.TypeDef.{TypeDef}
use Rattle.hs_linear.specs.Told.{told_of}
use Rattle.hs_linear.specs.Programs.{function_seen}
use Rattle.hs_linear.proofs.Functions.{F, told_more, told_all}
use Rattle.hs_linear.proofs.program.told.Goals as goal

pub loop-function-preserved : goal.loop-function-preserved
loop-function-preserved c =
    told_more (λ (f : F). (function_seen c.get-table.result.now c.as_slice-functions.result.now f).broken) _ c.loop-function.told c.in_ok-told.told c.loop-function.function-index c.as_slice-functions.result.now c.function-item.result (omega arith) c.function-item.is c.loop-function.invariant
    (c.in_ok-told.ensures ∙ ap (λ (fs : List F). told_of c.loop-function.told (function_seen c.get-table.result.now fs c.function-item.result).broken) c.in_ok-callees.ensures)

pub returns : goal.returns
returns c =
    sym (told_all (λ (f : F). (function_seen c.get-table.result.now c.as_slice-functions.result.now f).broken) _ c.loop-function.told c.loop-function.function-index c.as_slice-functions.result.now (omega arith) c.loop-function.invariant)
    ∙ ap₂ (λ (t : List TypeDef) (fs : List F). told_of None (flat_map (λ f. (function_seen t fs f).broken) fs)) c.get-table.ensures (c.as_slice-functions.ensures ∙ c.get.ensures)
