-- What is broken first on a walk through a tree, from the inside out and in the order of the text.
use Rattle.std.specs.Prelude.{Option, Some, None, List, [], ◌∷◌}
use Rattle.hs_base.specs.declared.rule.Rule.{Rule}
use Rattle.hs_syntax.specs.declared.span.Span.{Span}
use Rattle.hs_marks.specs.declared.breach.Breach.{Breach}
use Rattle.hs_marks.specs.Marked.{Marked, none, join, node}

abbrev pub or_else : Option Breach → Option Breach → Option Breach
or_else None q = q
or_else (Some p) q = Some p

-- the same, but it is p as soon as q is known to be none, whatever p is
abbrev pub or_own : Option Breach → Option Breach → Option Breach
or_own p None = p
or_own None (Some q) = Some q
or_own (Some p) (Some q) = Some p

-- the first of the rules that a node breaks itself
abbrev pub breach : Span → List Rule → Option Breach
breach at [] = None
breach at (r ∷ rs) = Some (record { rule = r; span = at })

-- what is broken in the parts of a node, else what it breaks itself
abbrev pub first : Marked → Option Breach
first none = None
first (join a b) = or_else (first a) (first b)
first (node at rules parts) = or_own (first parts) (breach at rules)
