-- A rule is what its form is, one level deeper.
use Rattle.std.proofs.Common.{◌≡◌, ℕ, suc, List, Result, refl, sym, ap, ◌∙◌, subst}
use Rattle.hs_grammar.specs.declared.error.ParseError.{ParseError}
use Rattle.hs_grammar.specs.Combinators.{rule}
use Rattle.hs_grammar.specs.Reads.{Reads}
use Rattle.hs_grammar.proofs.Reading.{giving-self}
use Rattle.hs_forms.specs.declared.token.Token.{Token}
use Rattle.hs_forms.specs.Reading.{Rule, value, grammar}
use Rattle.hs_forms.specs.Parsers.{reads}

-- what a rule's form is read as is what the rule is read as, where rules may nest one level deeper
pub reads_rule : (N : Rule) (n depth : ℕ) (w new : List Token) (r : Result (value N) ParseError) → suc n ≡ depth
    → Reads (reads n (grammar N) w) r new → Reads (reads depth (rule N) w) r new
reads_rule N n depth w new r e h =
    subst (λ q. Reads q r new) (sym (giving-self (λ x. x) (λ x. refl) (reads n (grammar N) w)) ∙ ap (λ d. reads d (rule N) w) e) h
