use Rattle.std.proofs.Common.{◌+◌, ◌<◌, length, sym, ◌∙◌, arith}
use Rattle.hs_lexer.proofs.Closings.{opened, closed, gone_on, ended}
use Rattle.hs_lexer.proofs.piece.closed_after.Goals as goal
use Rattle.hs_lexer.proofs.piece.closed_after.Goals.{in_default-via-in-47+in_default, in_default-via-in-42+in_default, in_default-via-in_default}

pub loop-at-preserved-in-42-1 : goal.loop-at-preserved-in-42-1
loop-at-preserved-in-42-1 c =
    let h : c.loop-at.at + 1 < length c.args.inside.now = omega arith in (
      c.loop-at.invariant.0 ∙ opened c.loop-at.depth c.loop-at.at c.args.inside.now h (grind arith) (grind arith),
      omega arith,
      omega arith,
    )

pub loop-at-preserved-in-47-this : goal.loop-at-preserved-in-47-this
loop-at-preserved-in-47-this c =
    let h : c.loop-at.at + 1 < length c.args.inside.now = omega arith in (
      c.loop-at.invariant.0
          ∙ closed c.loop-at.depth c.loop-at.at c.args.inside.now h (grind arith) (grind arith) (λ e. grind arith),
      omega arith,
      omega arith,
    )

pub loop-at-preserved : goal.loop-at-preserved
loop-at-preserved c =
    let h : c.loop-at.at + 1 < length c.args.inside.now = omega arith in (
      c.loop-at.invariant.0
          ∙ gone_on c.loop-at.depth c.loop-at.at c.args.inside.now h
          (λ e f. elim c.in_default.branch [
            | in_default-via-in-47+in_default w ↦ grind arith
            | in_default-via-in-42+in_default w ↦ grind arith
            | in_default-via-in_default w ↦ grind arith
          ])
          (λ e f. elim c.in_default.branch [
            | in_default-via-in-47+in_default w ↦ grind arith
            | in_default-via-in-42+in_default w ↦ grind arith
            | in_default-via-in_default w ↦ grind arith
          ]),
      omega arith,
      omega arith,
    )

pub returns-clause-value : goal.returns-clause-value
returns-clause-value c =
    sym (c.loop-at.invariant.0 ∙ ended c.loop-at.depth c.loop-at.at c.args.inside.now (omega arith))
