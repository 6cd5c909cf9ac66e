use Rattle.std.proofs.Common.{◌≡◌, sym, rules}
use Rattle.hs_typing.proofs.Names.{referent_found, referent_other, referent_past}
use Rattle.hs_typing.proofs.uses.Uses.referent.Goals as goal

pub returns-then-eq : goal.returns-then-eq
returns-then-eq c =
    let is : c.in-Some.one.now.name ≡ c.args.name = search rules in
    sym (referent_found c.args.self.now.uses.now c.args.name c.place_from-place.result c.in-Some.one.now c.place_from-place.ensures.before (sym c.in-Some.ensures) is)

pub returns-else-eq : goal.returns-else-eq
returns-else-eq c =
    let other : c.in-Some.one.now.name ≡ c.args.name → ⊥ = search rules in
    sym
    (referent_other c.args.self.now.uses.now c.args.name c.place_from-place.result c.args.self.now.in_order c.place_from-place.ensures.before c.place_from-place.ensures.behind c.in-Some.one.now
    (sym c.in-Some.ensures) other)

pub returns-in-None : goal.returns-in-None
returns-in-None c =
    sym
    (referent_past c.args.self.now.uses.now c.args.name c.place_from-place.result c.args.self.now.in_order c.place_from-place.ensures.before c.place_from-place.ensures.behind
    (sym c.in-None.ensures))
