use Rattle.std.proofs.Common.{ap, rules, ◌-ℤ◌}
use Rattle.hs_words.proofs.Exact.{settled-signed}
use Rattle.hs_words.proofs.words.Word.sub.Goals as goal

pub returns-then-signed-clause-value : goal.returns-then-signed-clause-value
returns-then-signed-clause-value c = settled-signed ◌-ℤ◌ c.args.self.now c.args.b.now c.self.inside.ty _ _ _ _ (ap (λ n. n.kind) c.self.view_is) (search rules) (search rules) c.number.ensures c.number-then-signed.ensures (cc) (cc) c.checked_sub.ensures c.exact_signed.ensures.value
