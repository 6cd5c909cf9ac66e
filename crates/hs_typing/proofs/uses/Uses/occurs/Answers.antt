use Rattle.std.proofs.Common.{sym, ◌∙◌, arith}
use Rattle.hs_typing.proofs.Names.{skipped, none_behind}
use Rattle.hs_typing.proofs.uses.Uses.occurs.Goals as goal

pub loop-place-init : goal.loop-place-init
loop-place-init c = skipped c.args.number c.args.whole c.args.self.now.uses.now c.place_from-first.result c.place_from-first.ensures.before

pub returns-then-one-whole : goal.returns-then-one-whole
returns-then-one-whole c =
    sym (c.loop-place.invariant ∙ none_behind c.args.number c.args.whole c.args.self.now.uses.now c.loop-place.place _ c.args.self.now.in_order (omega arith) c.if-one-whole.true)
