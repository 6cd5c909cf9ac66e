use Rattle.std.proofs.Common.{arith, ap}
use Rattle.std.proofs.lemmas.Result.{err_from_is_err_and}
use Rattle.hs_base.specs.declared.place.Broken.{Broken}
use Rattle.hs_lexer.proofs.Cuts.{read_more, break_from}
use Rattle.hs_lexer.proofs.Places.{placed_more}
use Rattle.hs_lexer.proofs.lexer.read_pieces.Goals as goal

pub returns-in_err-at-clause-broken : goal.returns-in_err-at-clause-broken
returns-in_err-at-clause-broken c =
    let told = err_from_is_err_and c.from_residual.result c.from_residual.ensures.1 in
    rw (told.1, told.2)
    (λ b e. let here = c.in_err-at.ensures.broken b e in
    break_from c.args.bytes.now c.loop-at.at c.loop-at.tokens b c.loop-at.invariant.0 (omega arith) here.0 (ap (λ (x : Broken). x.at) here.1) (omega arith))

pub loop-at-preserved : goal.loop-at-preserved
loop-at-preserved c =
    let here = c.in_ok-at.ensures.piece in (
      read_more c.args.bytes.now c.loop-at.at c.in_ok-at.at c.loop-at.tokens c.read_piece.new.tokens here.0 c.loop-at.invariant.0
          here.1 here.2 here.5,
      placed_more c.loop-at.at c.in_ok-at.at here.0.length here.0.kind c.loop-at.tokens c.read_piece.new.tokens here.4 here.2 here.5 c.loop-at.invariant.1,
      here.3,
    )
