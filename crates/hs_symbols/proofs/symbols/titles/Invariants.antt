use Rattle.std.proofs.Common.{◌≡◌, ◌++◌, map, drop}
use Rattle.hs_symbols.specs.declared.declared.Declared.{Declared}
use Rattle.hs_syntax.specs.Texts.{bytes_at}
use Rattle.hs_symbols.proofs.symbols.titles.Given as goal

abbrev pub invariant-loop-one : goal.invariant-loop-one
invariant-loop-one l =
    l.titles ++ map (λ (d : Declared). bytes_at l.text d.name) (drop l.one-index l.declared) ≡ map (λ (d : Declared). bytes_at l.text d.name) l.declared
