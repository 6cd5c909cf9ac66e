-- How one moment of a walk leads to another: as is seen of what was walked between them.
use Rattle.std.specs.Prelude.{◌≡◌, ◌++◌, Some, None, Result, Ok, Err, ⊤}
use Rattle.hs_linear.specs.Seen.{Seen, Part}
use Rattle.hs_linear.specs.Told.{told_of}
use Rattle.hs_linear.specs.Sets.{set_of, changes_of, LedFrom}
use Rattle.hs_linear.specs.declared.joined.Left.{Left}
use Rattle.hs_linear.specs.declared.joined.Left.TheVariants as left
use Rattle.hs_linear.specs.declared.state.State.{State}

-- what is broken and taken is noted
abbrev pub Notes : Seen → State → State → Type 0
Notes s old new = (new.told ≡ told_of old.told s.broken) × (new.taken.items ≡ old.taken.items ++ s.taken)

-- the later moment was led to from the earlier one
abbrev pub Led : State → State → Type 0
Led old new = LedFrom (set_of old.held) (changes_of old.held) new.held

-- a part was walked that does not always exit
abbrev pub Passed : Part → State → State → Type 0
Passed p old new =
    ((p (set_of old.held)).after ≡ Some (set_of new.held)) × Notes (p (set_of old.held)) old new × Led old new

-- one was walked that does
abbrev pub Exited : Part → State → State → Type 0
Exited p old new = ((p (set_of old.held)).after ≡ None) × Notes (p (set_of old.held)) old new × Led old new

-- what a call that walks a part answers
abbrev pub Walks : {A : Type 0} → Part → State → State → Result A Left → Type 0
Walks p old new (Ok a) = Passed p old new
Walks p old new (Err left.Exits) = Exited p old new
Walks p old new (Err left.NoMemory) = ⊤
