use Rattle.std.proofs.Common.{All}
use Rattle.std.proofs.lemmas.Result.{IfOk-weaker}
use Rattle.hs_lexer.specs.Spellings.{IsLongest}
use Rattle.hs_lexer.specs.Lexes.{Lexes}
use Rattle.hs_lexer.proofs.Longest.{longest_from}
use Rattle.hs_lexer.specs.Places.{IsNamed, IsName}
use Rattle.hs_lexer.proofs.Cuts.{only_tokens_from, only_break_from, lexes_once, lexes_or_breaks}
use Rattle.hs_lexer.proofs.Names.{names_from}
use Rattle.hs_lexer.proofs.Places.{named_from}
use Rattle.hs_lexer.proofs.lexer.lex.Goals as goal

pub returns-clause-only_tokens : goal.returns-clause-only_tokens
returns-clause-only_tokens c =
    only_tokens_from c.args.bytes.now c.read_pieces.result c.read_pieces.ensures.tokens c.read_pieces.ensures.broken

pub returns-clause-only_break : goal.returns-clause-only_break
returns-clause-only_break c =
    only_break_from c.args.bytes.now c.read_pieces.result c.read_pieces.ensures.tokens c.read_pieces.ensures.broken

pub returns-clause-one : goal.returns-clause-one
returns-clause-one c = lexes_once c.args.bytes.now

pub returns-clause-longest : goal.returns-clause-longest
returns-clause-longest c =
    IfOk-weaker c.read_pieces.result (λ tokens. Lexes c.args.bytes.now tokens) (λ tokens. All (IsLongest c.args.bytes.now) tokens)
    (longest_from c.args.bytes.now) c.read_pieces.ensures.tokens

pub returns-clause-named : goal.returns-clause-named
returns-clause-named c =
    IfOk-weaker c.read_pieces.result (λ tokens. Lexes c.args.bytes.now tokens) (λ tokens. All (IsNamed c.args.bytes.now) tokens)
    (named_from c.args.bytes.now) c.read_pieces.ensures.tokens

pub returns-clause-names : goal.returns-clause-names
returns-clause-names c =
    IfOk-weaker c.read_pieces.result (λ tokens. Lexes c.args.bytes.now tokens) (λ tokens. All (IsName c.args.bytes.now) tokens)
    (λ tokens h. names_from c.args.bytes.now tokens (named_from c.args.bytes.now tokens h)) c.read_pieces.ensures.tokens

pub returns-clause-apart : goal.returns-clause-apart
returns-clause-apart c = lexes_or_breaks c.args.bytes.now
