-- The rules on moves that a program breaks, and which of them is told.
use Rattle.std.specs.Prelude.{◌≡◌, false, not, ◌&&◌, eqb, List, [], map, flat_map, slice_get, Result, Ok, Err, ⊤}
use Rattle.std.specs.List.{list_any}
use Rattle.hs_base.specs.declared.place.Broken.{Broken}
use Rattle.hs_base.specs.declared.place.Stop.{Stop}
use Rattle.hs_base.specs.declared.place.Stop.TheVariants as stop
use Rattle.hs_base.specs.Positions.{told_at}
use Rattle.hs_values.specs.declared.types.TypeDef.{TypeDef}
use Rattle.hs_tree.specs.Plain.{is_lent}
use Rattle.hs_tree.specs.Types.{copied}
use Rattle.hs_tree.specs.Moves.{also}
use Rattle.hs_tree.specs.Call.{modes, lent_at}
use Rattle.hs_tree.specs.Of.{mode_of, function_of}
use Rattle.hs_tree.specs.Source.{type_at}
use Rattle.hs_tree.specs.declared.program.Function.{Function}
use Rattle.hs_tree.specs.declared.program.Program.{Program}
use Rattle.hs_linear.specs.Seen.{Seen}
use Rattle.hs_linear.specs.Nodes.{Known, block_seen}
use Rattle.hs_linear.specs.Told.{Told}
use Rattle.hs_linear.specs.declared.told.Breach.{Breach}

module _ {F Place Nested Quest MutArg Exit Assign Loop Cf Acc Fold : Type 0} where
  -- what is known of a function, by the types with names and all functions
  abbrev pub known : List TypeDef → List (Function F Place Nested Quest MutArg Exit Assign Loop Cf Acc Fold) → Function F Place Nested Quest MutArg Exit Assign Loop Cf Acc Fold → Known
  known table fs f =
      record {
        table = table;
        moves = λ k. not (copied table (type_at (slice_get f.body.types k)));
        reference = λ k. list_any (λ p. eqb p.local k && is_lent (mode_of p.mode)) f.params;
        argument = λ g i. lent_at (slice_get (modes (map function_of fs) g) i);
      }

  -- what is seen of a function's body, before which its parameters hold values
  abbrev pub function_seen : List TypeDef → List (Function F Place Nested Quest MutArg Exit Assign Loop Cf Acc Fold) → Function F Place Nested Quest MutArg Exit Assign Loop Cf Acc Fold → Seen
  function_seen table fs f = block_seen (known table fs f) f.body.block (also (map (λ p. p.local) f.params) (λ k. false))

  -- all that is broken in a program
  abbrev pub broken : Program F Place Nested Quest MutArg Exit Assign Loop Cf Acc Fold → List Breach
  broken p = flat_map (λ f. (function_seen p.types p.functions f).broken) p.functions

  -- what is told of a program, at a place of its text
  abbrev pub TellsMoves : Program F Place Nested Quest MutArg Exit Assign Loop Cf Acc Fold → Broken → Type 0
  TellsMoves p told = (b : Breach) × Told (broken p) b × (told ≡ told_at p.text.items b.rule b.span.start)

  -- what is answered of it
  abbrev pub Answered : {A : Type 0} → Program F Place Nested Quest MutArg Exit Assign Loop Cf Acc Fold → Result A Stop → Type 0
  Answered p (Ok a) = broken p ≡ []
  Answered p (Err (stop.Broken told)) = TellsMoves p told
  Answered p (Err stop.NoMemory) = ⊤
