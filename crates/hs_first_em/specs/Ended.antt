-- What a call of a module ended with.
use Rattle.hs_first_tree.specs.Value.{U32, Fits}
use Rattle.hs_first_em.specs.Means.{Meaning, value, panic, stuck}

-- a value of u32 or a panic
abbrev pub Ended : Meaning → Type 0
Ended (value v n) = Fits v U32
Ended (panic p n) = Unit {0}
Ended (stuck n) = ⊥
