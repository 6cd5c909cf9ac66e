-- Locals that are known, without the latest of them.
use Rattle.std.proofs.Common.{ℕ, suc, ◌-◌, ◌≡◌, ◌<◌, sym, ap, [], ◌∷◌, length, drop, arith}
use Rattle.hs_typing.specs.Locals.{Scope, without_latest, oldest}

-- where more are known than are to stay, the latest is not among these
pub one_less : (kept : ℕ) (scope : Scope) → kept < length scope → oldest kept (without_latest scope) ≡ oldest kept scope
one_less kept [] h = absurd (omega arith)
one_less kept (e ∷ es) h =
    let n : length (e ∷ es) - kept ≡ suc (length es - kept) = omega arith in
    sym (ap (λ (n : ℕ). drop n (e ∷ es)) n)
