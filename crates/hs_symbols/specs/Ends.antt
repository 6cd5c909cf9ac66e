-- Where the items of a file lead as names of types.
use Rattle.std.specs.Prelude.{ℕ, zero, suc, ◌+◌, ◌≡◌, List, slice_get, Option, Some, None, option_map}
use Rattle.hs_syntax.specs.declared.item.Item.{Item}
use Rattle.hs_symbols.specs.declared.way.Way.{Way}
use Rattle.hs_symbols.specs.declared.way.Way.TheVariants as way
use Rattle.hs_symbols.specs.Symbols.{hops}

-- each item has where it leads in so many hops
abbrev pub Reached : List ℕ → List Item → ℕ → List Way → Type 0
Reached text items n ways = (k : ℕ) → slice_get ways k ≡ option_map (λ (i : Item). hops text items n (way.Alias k)) (slice_get items k)

-- the way, and where there is none, nowhere
abbrev pub or_nowhere : Option Way → Way
or_nowhere None = way.Nowhere
or_nowhere (Some w) = w

-- from where a way leads on to where that one leads
abbrev pub follow : List Way → Way → Way
follow ways (way.Alias k) = or_nowhere (slice_get ways k)
follow ways (way.Data k) = way.Data k
follow ways way.Nowhere = way.Nowhere

-- so many hops after so many doublings
abbrev pub doublings : ℕ → ℕ
doublings zero = 1
doublings (suc n) = doublings n + doublings n
