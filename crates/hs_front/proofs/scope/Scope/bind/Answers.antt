use Rattle.std.proofs.Common.{ℕ, List}
use denote.Ref.{Bor}
use Rattle.hs_front.proofs.Latest.{found_more}
use Rattle.hs_front.proofs.scope.Scope.bind.Goals as goal

pub invariant_of-self-in-Ok : goal.invariant_of-self-in-Ok
invariant_of-self-in-Ok c = λ w.
    let key : Bor (List ℕ) = record { ref_ptr = c.args.name.ref_ptr; now = w } in
    found_more w c.self.inside.locals c.push.new.self (record { name = c.args.name; mutable = c.args.mutable }) c.len-number.result _ _ c.in_ok-push.ensures.ok c.len-number.ensures
    (c.self.invariant w) (c.in-Ok.ensures.updates.0 key)
