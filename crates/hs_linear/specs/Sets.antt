-- The locals that hold a value, as the walk keeps them, and what branches leave of them.
use Rattle.std.specs.Prelude.{◌≡◌, ℕ, Bool, not, ◌&&◌, eqb, nat_eq, if◌then◌else◌, List, [], ◌∷◌, ◌++◌, map, filter, Option, Some, None, option_map, Result, Ok, Err, ⊤}
use Rattle.std.specs.HashSet.{contains}
use Rattle.hs_tree.specs.Store.{among}
use Rattle.hs_tree.specs.Moves.{Holding, also}
use Rattle.hs_linear.specs.declared.held.Held.{Held}
use Rattle.hs_linear.specs.declared.joined.Left.{Left}
use Rattle.hs_linear.specs.declared.joined.Left.TheVariants as left
use Rattle.hs_linear.specs.declared.joined.Joined.{Joined}

-- the locals that hold a value
abbrev pub set_of : Held → Holding
set_of h k = contains nat_eq h.locals k

-- the changes so far
abbrev pub changes_of : Held → List ℕ
changes_of h = h.changes.items

-- a set in which one local was put in or taken out
abbrev pub turned : ℕ → Holding → Holding
turned k d j = if eqb j k then not (d j) else d j

-- a set behind these changes, in order
abbrev pub changed : List ℕ → Holding → Holding
changed [] d = d
changed (k ∷ ks) d = changed ks (turned k d)

-- what is there now was led to from a moment with this set and these changes
abbrev pub LedFrom : Holding → List ℕ → Held → Type 0
LedFrom d before h = (since : List ℕ) × (changes_of h ≡ before ++ since) × (set_of h ≡ changed since d)

-- what is there is that moment again
abbrev pub IsAt : Holding → List ℕ → Held → Type 0
IsAt d before h = (set_of h ≡ d) × (changes_of h ≡ before)

-- a local, with whether it holds a value
abbrev pub ended_at : Holding → ℕ → ℕ × Bool
ended_at d k = (k, d k)

-- the locals that held no value in the end, and hold one in this set
abbrev pub lost_by : Holding → List (ℕ × Bool) → List ℕ
lost_by d ends = map (λ (e : ℕ × Bool). e.0) (filter (λ (e : ℕ × Bool). not e.1 && d e.0) ends)

-- the locals that held a value in the end, and hold none in this set
abbrev pub won_by : Holding → List (ℕ × Bool) → List ℕ
won_by d ends = map (λ (e : ℕ × Bool). e.0) (filter (λ (e : ℕ × Bool). e.1 && not (d e.0)) ends)

-- what branches won together, if one of them does not always exit
abbrev pub won_of : Joined → Option (List ℕ)
won_of j = option_map (λ v. v.items) j.won

-- what is lost in some branch, with one branch more: where each of those before it always exits, in that one alone
abbrev pub lost_with : Option (List ℕ) → List ℕ → List ℕ → List ℕ
lost_with None before lost = lost
lost_with (Some won) before lost = before ++ lost

-- what is won in each
abbrev pub won_with : Option (List ℕ) → List ℕ → Option (List ℕ)
won_with None won = Some won
won_with (Some before) won = Some (filter (λ k. among k before) won)

-- a set with some locals and then without others
abbrev pub put_and_taken : List ℕ → List ℕ → Holding → Holding
put_and_taken won lost d k = also won d k && not (among k lost)

-- the locals that hold a value behind branches, by those before them; none where each branch always exits
abbrev pub joined_won : List ℕ → Option (List ℕ) → Holding → Option Holding
joined_won lost won d = option_map (λ ks. put_and_taken ks lost d) won

abbrev pub after_branches : Joined → Holding → Option Holding
after_branches j d = joined_won j.lost.items (won_of j) d

-- the locals that hold a value where a part ends, or none where it always exits
abbrev pub ended_with : {A : Type 0} → Holding → Result A Left → Option Holding
ended_with d (Ok a) = Some d
ended_with d (Err e) = None

-- a call that goes on with this set, or does not where there is none
abbrev pub GoesOn : {A : Type 0} → Option Holding → Held → Held → Result A Left → Type 0
GoesOn after old new (Ok u) = (after ≡ Some (set_of new)) × LedFrom (set_of old) (changes_of old) new
GoesOn after old new (Err left.Exits) = (after ≡ None) × IsAt (set_of old) (changes_of old) new
GoesOn after old new (Err left.NoMemory) = ⊤
