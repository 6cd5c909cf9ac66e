use Rattle.hs_lexer.proofs.Comments.{closes, closes_only}
use Rattle.hs_lexer.proofs.law.comments_nest.Goals as goal

pub returns : goal.returns
returns c = record { closed = closes; only = closes_only }
