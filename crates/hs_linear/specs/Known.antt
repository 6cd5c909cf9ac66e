-- What the walk knows of the function that it goes through.
use Rattle.std.specs.Prelude.{ℕ, Bool, false, eqb, ◌&&◌, map, Option, Some, None, slice_get}
use Rattle.std.specs.List.{list_any}
use Rattle.hs_tree.specs.Plain.{is_lent}
use Rattle.hs_tree.specs.Call.{modes, lent_at}
use Rattle.hs_tree.specs.Of.{mode_of, function_of}
use Rattle.hs_linear.specs.Nodes.{Known}
use Rattle.hs_linear.specs.Uses.{lends}
use Rattle.hs_linear.specs.Called.{modes_of}
use Rattle.hs_linear.specs.declared.world.World.{World}
use Rattle.hs_linear.specs.declared.world.Lent.{Lent}
use Rattle.hs_linear.specs.declared.world.Lent.TheVariants as lent

-- whether a local that is listed moves; one that is not does not
abbrev pub moves_at : Option Bool → Bool
moves_at None = false
moves_at (Some moves) = moves

-- what is known of the function that is walked
abbrev pub known_of : World → Known
known_of w =
    record {
      table = w.table.now;
      moves = λ k. moves_at (slice_get w.moves.items k);
      reference = λ k. list_any (λ p. eqb p.local k && is_lent (mode_of p.mode)) w.params.now;
      argument = λ f i. lent_at (slice_get (modes (map function_of w.callees.now.functions.now) f) i);
    }

-- whether the expression at a place in a row is lent
abbrev pub lent_in : Lent → ℕ → Bool
lent_in lent.None i = false
lent_in (lent.Operands used) i = lends used i
lent_in (lent.Arguments params) i = lent_at (slice_get (modes_of params.now) i)
