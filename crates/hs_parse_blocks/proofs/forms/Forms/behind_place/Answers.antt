use Rattle.std.proofs.Common.{subst, sym}
use Rattle.hs_grammar.specs.Parser.{giving}
use Rattle.hs_grammar.specs.Reads.{Reads}
use Rattle.hs_forms.specs.declared.piece.Piece.{Piece}
use Rattle.hs_parse_blocks.proofs.Assigned.{behind_assigned}
use Rattle.hs_parse_blocks.proofs.forms.Forms.behind_place.Goals as goal

pub returns-then-is_at_any : goal.returns-then-is_at_any
returns-then-is_at_any g c =
    subst (λ r. Reads {A = Piece} (giving (λ f. f c.args.place) r) c.assigned.result c.assigned.new.tokens)
    (sym (behind_assigned c.args.self.now.rules.depth c.args.tokens.now c.is_at_any.result c.is_at_any.ensures c.if-is_at_any.true))
    c.assigned.ensures
