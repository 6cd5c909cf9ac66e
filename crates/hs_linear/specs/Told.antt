-- Which of all broken rules is told.
use Rattle.std.specs.Prelude.{◌≡◌, ◌<◌, ◌≤◌, ◌⊎◌, Bool, nat_lt, eqb, if◌then◌else◌, List, [], ◌∷◌, Option, Some, None}
use Rattle.std.specs.List.{AllByRecursion}
use Rattle.hs_base.specs.Rules.{number_of}
use Rattle.hs_linear.specs.declared.told.Breach.{Breach}

-- a is told before b, or is b: its node ends first in the text; of those that end there it is the innermost, which begins last; of the
-- rules of one node it has the least number
abbrev pub Before : Breach → Breach → Type 0
Before a b = (a.span.end < b.span.end) ⊎ ((a.span.end ≡ b.span.end) × ((b.span.start < a.span.start) ⊎ ((a.span.start ≡ b.span.start) × (number_of a.rule ≤ number_of b.rule))))

abbrev pub Among : Breach → List Breach → Type 0
Among b [] = ⊥
Among b (a ∷ as') = (b ≡ a) ⊎ Among b as'

-- the one of these that is told before all others
abbrev pub Told : List Breach → Breach → Type 0
Told bs b = Among b bs × AllByRecursion (Before b) bs

-- an answer is none where no rule is broken, and else the told one
abbrev pub Answers : List Breach → Option Breach → Type 0
Answers bs None = bs ≡ []
Answers bs (Some b) = Told bs b

-- the same as a test, of two that are not one
abbrev pub is_before : Breach → Breach → Bool
is_before a b =
    if eqb a.span.end b.span.end
    then (if eqb a.span.start b.span.start then nat_lt (number_of a.rule) (number_of b.rule) else nat_lt b.span.start a.span.start)
    else nat_lt a.span.end b.span.end

-- of the one that is told so far, if any, and a further one, the one that is told before the other
abbrev pub earlier : Option Breach → Breach → Option Breach
earlier None b = Some b
earlier (Some a) b = if is_before b a then Some b else Some a

-- the told one of one that is told so far and these
abbrev pub told_of : Option Breach → List Breach → Option Breach
told_of a [] = a
told_of a (b ∷ bs) = told_of (earlier a b) bs
