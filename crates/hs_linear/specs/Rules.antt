-- The rules on moves: each is a condition on one node, by whether the local that it names holds a value before it.
use Rattle.std.specs.Prelude.{Bool, not, ◌&&◌, cond, List, [], ◌∷◌, ◌++◌}
use Rattle.hs_base.specs.declared.rule.Rule.{Rule}
use Rattle.hs_base.specs.declared.rule.Rule.TheVariants.{L1, L2, L4, L5, L6}

-- a rule that is broken where this holds
abbrev pub when : Bool → Rule → List Rule
when broken rule = cond broken (rule ∷ []) []

-- a read: L1, its local may hold no value; L6, it takes a value out through a reference
abbrev pub of_read : Bool → Bool → List Rule
of_read holds through = when (not holds) L1 ++ when through L6

-- a local that is lent: L2, it may hold no value
abbrev pub of_lent : Bool → List Rule
of_lent holds = when (not holds) L2

-- an operation: L4, it takes out an item or a part, of a type that is not copied
abbrev pub of_operation : Bool → Bool → Bool → List Rule
of_operation is_part lent copied = when (is_part && not lent && not copied) L4

-- what is assigned: L5, it is not a whole local, which may hold no value
abbrev pub of_place : Bool → Bool → List Rule
of_place whole holds = when (not whole && not holds) L5
