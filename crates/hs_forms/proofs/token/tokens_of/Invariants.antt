use Rattle.std.proofs.Common.{◌≡◌, ◌++◌, drop}
use Rattle.hs_forms.specs.Tokens.{tokens_of}
use Rattle.hs_forms.proofs.token.tokens_of.Given as goal

abbrev pub invariant-loop-token : goal.invariant-loop-token
invariant-loop-token l = l.into ++ tokens_of l.text (drop l.token-index l.tokens) ≡ tokens_of l.text l.tokens
