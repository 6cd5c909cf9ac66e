-- What stands behind a place.
use Rattle.std.proofs.Common.{◌≡◌, ℕ, Bool, true, cond, List, refl, sym, ap, ◌∙◌}
use Rattle.hs_grammar.specs.Kinds.{starts}
use Rattle.hs_grammar.specs.Lookahead.{begin}
use Rattle.hs_forms.specs.declared.token.Token.{Token}
use Rattle.hs_forms.specs.Lexis.{lexis}
use Rattle.hs_forms.specs.Reading.{tables, assign_kinds, assign_op, assigned, finished, behind_place}
use Rattle.hs_forms.specs.Parsers.{reads}

assigned_begin : begin tables assigned ≡ assign_kinds
unfolding assigned assign_op
assigned_begin = refl

-- where `=` or its like stands there it is an assignment
pub behind_assigned : (depth : ℕ) (w : List Token) (b : Bool) → b ≡ starts lexis assign_kinds w → b ≡ true → reads depth behind_place w ≡ reads depth assigned w
unfolding behind_place
behind_assigned depth w b e t = ap (λ b. cond b (reads depth assigned w) (reads depth finished w)) (ap (λ ks. starts lexis ks w) assigned_begin ∙ sym e ∙ t)
