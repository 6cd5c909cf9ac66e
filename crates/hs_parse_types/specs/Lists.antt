-- Lists of types that are read one by one, and whether the last is open.
use Rattle.std.specs.Prelude.{List, [], ◌∷◌, ◌++◌, Bool, true, false}

-- one more item
abbrev pub one_more : {A : Type 0} → List A × Bool → A → List A × Bool
one_more s a = (s.0 ++ a ∷ [], false)

-- one more item, which is open and the last
abbrev pub last_one : {A : Type 0} → List A × Bool → A → List A × Bool
last_one s a = (s.0 ++ a ∷ [], true)
