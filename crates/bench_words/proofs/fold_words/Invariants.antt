use Rattle.std.proofs.Common.{◌≡◌}
use Rattle.bench_words.proofs.fold_words.Given as goal

abbrev pub invariant-loop : goal.invariant-loop
invariant-loop l = l.number.kind ≡ l.one.kind
