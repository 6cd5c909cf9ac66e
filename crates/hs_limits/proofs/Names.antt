-- Names in a row: none of them breaks a rule.
use Rattle.std.proofs.Common.{◌≡◌, refl, None, List, [], ◌∷◌}
use Rattle.hs_syntax.specs.declared.span.Span.{Span}
use Rattle.hs_limits.specs.Nodes.{names}
use Rattle.hs_limits.specs.Walk.{first_in}

pub no_name : (ss : List Span) → first_in (names ss) ≡ None
no_name [] = refl
no_name (s ∷ ss) = no_name ss
