use Rattle.std.proofs.Common.{◌≡◌, drop}
use Rattle.hs_grammar.specs.Form.{lexis_of}
use Rattle.hs_grammar.specs.Kinds.{has}
use Rattle.hs_grammar.proofs.cursor.is_any.Given as goal

abbrev pub invariant-loop-kind : goal.invariant-loop-kind
invariant-loop-kind g l =
    let T = g.T.Lexeme in
    let kind = T.kind_of l.token in
    has (lexis_of T.kind_of T.same) l.kinds kind ≡ has (lexis_of T.kind_of T.same) (drop l.kind-index l.kinds) kind
