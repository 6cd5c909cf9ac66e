use Rattle.std.proofs.Common.{◌≡◌, ⊎_elim, ℕ, List, map, sym, ap, ◌∙◌, subst, arith}
use Rattle.std.specs.Prelude.{OnOk}
use Rattle.hs_linear.specs.Seen.{gives}
use Rattle.hs_linear.specs.Nodes as n
use Rattle.hs_linear.specs.Moments.{Passed}
use Rattle.hs_linear.proofs.Layers.{bound_tuple, bound_ctor}
use Rattle.hs_linear.proofs.Rows.{gives_step}
use Rattle.hs_linear.proofs.walk.+bind.Goals as goal

pub bind-returns-in-Tuple : goal.bind-returns-in-Tuple
bind-returns-in-Tuple t c =
    let same : n.bound c.args.pattern.now ≡ n.all (map n.bound c.in-Tuple.parts) =
    ⊎_elim (λ h. ap n.bound h ∙ bound_tuple c.in-Tuple.parts) (λ h. ap n.bound h.2 ∙ bound_ctor h.0 h.1 c.in-Tuple.parts) c.in-Tuple.is in
    subst (λ (ks : List ℕ). OnOk c.bind_all.result (Passed (gives ks) c.args.state.now c.bind_all.new.state)) (sym same) c.bind_all.ensures

pub bind_all-loop-pattern-preserved : goal.bind_all-loop-pattern-preserved
bind_all-loop-pattern-preserved t c =
    gives_step n.bound (gives (n.all (map n.bound c.as_slice-pattern-items.result.now))) c.loop-pattern.pattern-index c.as_slice-pattern-items.result.now c.pattern-item.result c.args.state.now c.loop-pattern.state c.bind.new.state
    (omega arith) c.pattern-item.is c.loop-pattern.invariant c.in_ok-bind.ensures
