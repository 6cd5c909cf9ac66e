use Rattle.std.proofs.Common.{ℕ, suc, ◌+◌, arith, ◌≡◌, sym, ◌∙◌, ap, subst, List, map}
use Rattle.hs_symbols.specs.declared.way.Way.{Way}
use Rattle.hs_symbols.specs.Ends.{Reached, follow, doublings}
use Rattle.hs_symbols.proofs.Hops.{reached_first, doubled, doublings_positive}
use Rattle.hs_symbols.proofs.symbols.Symbols.ends.Goals as goal

pub loop-init : goal.loop-init
loop-init c =
    subst (λ (ways : List Way). Reached c.args.self.now.text c.args.self.now.items 1 ways) (sym c.in_ok-ways.ensures) (reached_first c.args.self.now.text c.args.self.now.items)

pub loop-preserved : goal.loop-preserved
loop-preserved c =
    let e : suc c.loop.counter ≡ c.loop.counter + 1 = omega arith in
    subst (λ (n : ℕ). Reached c.args.self.now.text c.args.self.now.items (doublings n) c.in_ok-ways-2.ways) e
    (subst (λ (ways : List Way). Reached c.args.self.now.text c.args.self.now.items (doublings (suc c.loop.counter)) ways)
    (sym (c.in_ok-ways-2.ensures ∙ ap (λ (ways : List Way). map (follow ways) ways) c.as_slice.ensures))
    (doubled c.args.self.now.text c.args.self.now.items (doublings c.loop.counter) c.loop.ways (doublings_positive c.loop.counter) c.loop.invariant))
