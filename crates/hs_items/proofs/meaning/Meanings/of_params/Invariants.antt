use Rattle.std.proofs.Common.{◌≡◌, ◌++◌, drop}
use Rattle.hs_items.specs.Walk.{param_types}
use Rattle.hs_items.proofs.meaning.Meanings.of_params.Given as goal

abbrev pub invariant-loop-param : goal.invariant-loop-param
invariant-loop-param l =
    l.types ++ param_types l.self.symbols.now l.self.items.now (drop l.param-index l.params) ≡ param_types l.self.symbols.now l.self.items.now l.params
