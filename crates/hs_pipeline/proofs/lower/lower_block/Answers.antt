use Rattle.std.proofs.Common.{◌≡◌, [], ◌∷◌, ◌++◌, map, sym, ap, ◌∙◌}
use Rattle.hs_first_tree.specs.Of.{stmt_of, stmts_of}
use Rattle.hs_first_em.specs.Of.{em_of}
use Rattle.hs_pipeline.specs.Lower.{lowered_stmts}
use Rattle.hs_pipeline.proofs.OneByOne.{lowered_last, map_last}
use Rattle.hs_pipeline.proofs.lower.lower_block.Goals as goal

pub loop-last-preserved : goal.loop-last-preserved
loop-last-preserved c =
    let names = c.args.names.now in
    let front = c.in-Some.front.now in
    let last = c.in-Some.last.now in
    let made = em_of c.loop-last.made in
    let cut : c.loop-last.left.now ≡ front ++ (last ∷ []) = c.in-Some.ensures.cases.0 in
    ap (lowered_stmts names (stmts_of (map stmt_of front))) c.in_ok-made-2.ensures
    ∙ (sym (lowered_last names (map stmt_of front) (stmt_of last) made)
    ∙ (ap (λ ys. lowered_stmts names (stmts_of ys) made) (sym (ap (map stmt_of) cut ∙ map_last stmt_of front last)) ∙ c.loop-last.invariant))
