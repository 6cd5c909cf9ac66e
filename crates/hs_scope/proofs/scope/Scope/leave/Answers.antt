use Rattle.std.proofs.Common.{◌≡◌, ℕ, ◌<◌, ◌-◌, suc, List, [], ◌∷◌, length, drop, sym, ◌∙◌, ap, arith}
use Rattle.hs_scope.specs.Scope.{Binding, oldest}
use Rattle.hs_scope.proofs.scope.Scope.leave.Goals as goal

-- the latest of more is not among the oldest
one_less : (kept : ℕ) (scope : List Binding) → kept < length scope → oldest kept (drop 1 scope) ≡ oldest kept scope
one_less kept [] h = absurd (omega arith)
one_less kept (b ∷ bs) h =
    let e : length (b ∷ bs) - kept ≡ suc (length bs - kept) = omega arith in
    sym (ap (λ n. drop n (b ∷ bs)) e)

pub loop-self-preserved : goal.loop-self-preserved
loop-self-preserved c = ap (oldest c.args.kept) c.unbind.ensures ∙ one_less c.args.kept c.loop-self.self (omega arith) ∙ c.loop-self.invariant
