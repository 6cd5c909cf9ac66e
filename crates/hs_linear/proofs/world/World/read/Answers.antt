use Rattle.std.proofs.Common.{◌≡◌, Bool, not, ◌&&◌, sym, ap, ◌∙◌}
use Rattle.hs_linear.specs.Known.{known_of}
use Rattle.hs_linear.proofs.Single.{through_is, read_as}
use Rattle.hs_linear.proofs.world.World.read.Goals as goal
use Rattle.hs_linear.proofs.world.World.read.Goals.{then-moves, else-moves, then-takes, else-takes}

pub returns : goal.returns
returns c =
    let moves : Bool = (known_of c.args.self.now).moves c.args.local in
    let reference : Bool = (known_of c.args.self.now).reference c.args.local in
    let takes : c.if-moves.takes ≡ (moves && not c.args.is_lent) =
    elim c.if-moves.branch [
      | then-moves w ↦ w.takes-is ∙ ap (λ b. b && not c.args.is_lent) (sym w.if-moves.true ∙ c.moves.ensures)
      | else-moves w ↦ w.takes-is ∙ w.if-moves.false ∙ ap (λ b. b && not c.args.is_lent) (sym w.if-moves.false ∙ c.moves.ensures)
    ] in
    let through : c.if-takes.is_through ≡ (c.if-moves.takes && reference) =
    elim c.if-takes.branch [
      | then-takes w ↦ w.is_through-is ∙ w.is_reference-is_through.ensures ∙ ap (λ b. b && reference) (sym w.if-takes.true)
      | else-takes w ↦ w.is_through-is ∙ w.if-takes.false ∙ ap (λ b. b && reference) (sym w.if-takes.false)
    ] in
    read_as c.read.result _ _ _ _ c.args.local c.args.span c.args.state.now c.read.new.self takes (through_is moves c.args.is_lent reference c.if-moves.takes c.if-takes.is_through takes through) c.read.ensures
