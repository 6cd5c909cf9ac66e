use Rattle.std.proofs.Common.{All, sym, subst}
use Rattle.hs_first_tree.specs.Of.{program_of}
use Rattle.hs_lexer.specs.Lexes.{Lexes}
use Rattle.hs_lexer.specs.Places.{IsNamed}
use Rattle.hs_front.specs.Written.{AFile}
use Rattle.hs_front.proofs.Whole.{accepted_once, accepted_apart, behind_accepted, behind_told, behind_only, behind_only_break, stop_only, stop_only_break}
use Rattle.hs_front.proofs.check.check.Goals as goal

lexes : (c : goal.After-drop-tokens-inside) → Lexes c.args.bytes.now c.in-Ok.tokens
lexes c = c.in-Ok.ensures.tokens

pub returns-in-Ok-clause-accepted : goal.returns-in-Ok-clause-accepted
returns-in-Ok-clause-accepted c =
    behind_accepted c.args.bytes.now c.lex.ensures.one c.lex.ensures.apart (c.unambiguous.ensures.read c.args.bytes.now) (λ ts x y r q. c.unambiguous.ensures.one c.args.bytes.now ts x y r.0 q.0) c.stages_exclude.ensures (c.exact.ensures.unique AFile) (c.exact.ensures.apart AFile) program_of c.in-Ok.tokens (lexes c) c.behind_tokens.result c.behind_tokens.ensures.accepted

pub returns-in-Ok-clause-told : goal.returns-in-Ok-clause-told
returns-in-Ok-clause-told c =
    behind_told c.args.bytes.now c.lex.ensures.one c.lex.ensures.apart (c.unambiguous.ensures.read c.args.bytes.now) (λ ts x y r q. c.unambiguous.ensures.one c.args.bytes.now ts x y r.0 q.0) c.stages_exclude.ensures (c.exact.ensures.unique AFile) (c.exact.ensures.apart AFile) program_of c.in-Ok.tokens (lexes c) c.behind_tokens.result c.behind_tokens.ensures.told

pub returns-in-Ok-clause-only_program : goal.returns-in-Ok-clause-only_program
returns-in-Ok-clause-only_program c =
    behind_only c.args.bytes.now c.lex.ensures.one c.lex.ensures.apart (c.unambiguous.ensures.read c.args.bytes.now) (λ ts x y r q. c.unambiguous.ensures.one c.args.bytes.now ts x y r.0 q.0) c.stages_exclude.ensures (c.exact.ensures.unique AFile) (c.exact.ensures.apart AFile) program_of c.in-Ok.tokens (lexes c) c.behind_tokens.result c.behind_tokens.ensures.only_program

pub returns-in-Ok-clause-only_break : goal.returns-in-Ok-clause-only_break
returns-in-Ok-clause-only_break c =
    behind_only_break c.args.bytes.now c.lex.ensures.one c.lex.ensures.apart (c.unambiguous.ensures.read c.args.bytes.now) (λ ts x y r q. c.unambiguous.ensures.one c.args.bytes.now ts x y r.0 q.0) c.stages_exclude.ensures (c.exact.ensures.unique AFile) (c.exact.ensures.apart AFile) program_of c.in-Ok.tokens (lexes c) c.behind_tokens.result c.behind_tokens.ensures.only_break

pub returns-in-Ok-clause-one : goal.returns-in-Ok-clause-one
returns-in-Ok-clause-one c = accepted_once c.args.bytes.now c.lex.ensures.one c.lex.ensures.apart (c.unambiguous.ensures.read c.args.bytes.now) (λ ts x y r q. c.unambiguous.ensures.one c.args.bytes.now ts x y r.0 q.0) c.stages_exclude.ensures (c.exact.ensures.unique AFile) (c.exact.ensures.apart AFile)

pub returns-in-Ok-clause-apart : goal.returns-in-Ok-clause-apart
returns-in-Ok-clause-apart c = accepted_apart c.args.bytes.now c.lex.ensures.one c.lex.ensures.apart (c.unambiguous.ensures.read c.args.bytes.now) (λ ts x y r q. c.unambiguous.ensures.one c.args.bytes.now ts x y r.0 q.0) c.stages_exclude.ensures (c.exact.ensures.unique AFile) (c.exact.ensures.apart AFile)

pub returns-in-Err-clause-only_program : goal.returns-in-Err-clause-only_program
returns-in-Err-clause-only_program c = stop_only c.args.bytes.now c.in-Err.stop c.from.result c.from.ensures c.in-Err.ensures.only_tokens

pub returns-in-Err-clause-only_break : goal.returns-in-Err-clause-only_break
returns-in-Err-clause-only_break c = stop_only_break c.args.bytes.now c.in-Err.stop c.from.result c.from.ensures c.in-Err.ensures.only_tokens c.in-Err.ensures.only_break

pub returns-in-Err-clause-one : goal.returns-in-Err-clause-one
returns-in-Err-clause-one c = accepted_once c.args.bytes.now c.lex.ensures.one c.lex.ensures.apart (c.unambiguous.ensures.read c.args.bytes.now) (λ ts x y r q. c.unambiguous.ensures.one c.args.bytes.now ts x y r.0 q.0) c.stages_exclude.ensures (c.exact.ensures.unique AFile) (c.exact.ensures.apart AFile)

pub returns-in-Err-clause-apart : goal.returns-in-Err-clause-apart
returns-in-Err-clause-apart c = accepted_apart c.args.bytes.now c.lex.ensures.one c.lex.ensures.apart (c.unambiguous.ensures.read c.args.bytes.now) (λ ts x y r q. c.unambiguous.ensures.one c.args.bytes.now ts x y r.0 q.0) c.stages_exclude.ensures (c.exact.ensures.unique AFile) (c.exact.ensures.apart AFile)

pub behind_tokens-requires-clause-named : goal.behind_tokens-requires-clause-named
behind_tokens-requires-clause-named c = c.in-Ok.ensures.named
