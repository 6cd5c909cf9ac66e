-- What no row is called.
use Rattle.std.proofs.Common.{◌≡◌, Bool, true, false, ◌||◌, List, ℕ, Some, None, refl, sym, ap, ◌∙◌, arith}
use Rattle.std.specs.Prelude.{bytes_eq, codes}
use Rattle.std.proofs.lemmas.Slice.Eq.{bytes_eq-Decides}
use Rattle.hs_ops.specs.declared.operation.SingleOp.TheVariants as single
use Rattle.hs_ops.specs.declared.operation.Operation.TheVariants.{Single}
use Rattle.hs_ops.specs.Standard.{standard_table, standard_operations, for_kinds, for_kind, for_tuples, for_tuple}
use Rattle.hs_ops.specs.Table.{operation_named}
use Rattle.hs_tree.specs.Source.{is_part_op, takes_part}

item_there : operation_named standard_table (codes "q_item") ≡ Some (Single single.Item)
unfolding standard_operations for_kinds for_kind for_tuples for_tuple
item_there = refl

item_named : (name : List ℕ) → bytes_eq name (codes "q_item") ≡ true → operation_named standard_table name ≡ Some (Single single.Item)
item_named name h = let same : name ≡ codes "q_item" = grind (arith, bytes_eq-Decides) in ap (operation_named standard_table) same ∙ item_there

-- what no row is called takes no part
pub no_part : (name : List ℕ) → operation_named standard_table name ≡ None → takes_part name ≡ false
no_part name h = go (bytes_eq name (codes "q_item")) refl
  where
    clash : Some (Single single.Item) ≡ None → ⊥
    clash e = absurd (cc)

    go : (b : Bool) → bytes_eq name (codes "q_item") ≡ b → (b || is_part_op (operation_named standard_table name)) ≡ false
    go true e = absurd (clash (sym (item_named name e) ∙ h))
    go false e = ap is_part_op h
