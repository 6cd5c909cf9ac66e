-- What is still to be written of a text.
use Rattle.std.specs.Prelude.{ℕ, List, [], ◌∷◌, ◌++◌, map, drop}
use Rattle.hs_values.specs.declared.types.TypeDef.{TypeDef}
use Rattle.hs_tree.specs.Plain as plain
use Rattle.hs_tree.specs.Plain.{Name, Local, no_args, no_arms, here}
use Rattle.hs_tree.specs.Text.{Form, word, between, Forms, no_forms, form, numeral, framed, shown_pattern, shown_exp, shown_exps, shown_args, shown_rhs, shown_arms, shown_steps, shown_rest}
use Rattle.hs_tree.specs.Of.{exps_of, chained, pattern_of, exp_of, arg_of, rhs_of, arm_of, step_of, stmt_of, tail_of, block_of}
use Rattle.hs_tree.specs.declared.node.Block.{Block, out-Block}
use Rattle.hs_tree.specs.declared.item.Item.{Item}
use Rattle.hs_tree.specs.declared.item.Item.TheVariants as item

-- the name and the number of a local, a space before each
abbrev pub local_bytes : Local → List ℕ
local_bytes k = 32 ∷ (k.name ++ 32 ∷ numeral k.number)

-- the same, before other bytes
abbrev pub local_on : Local → List ℕ → List ℕ
local_on k more = 32 ∷ (k.name ++ 32 ∷ (numeral k.number ++ more))

-- a block without the statements before this place
abbrev pub from_statement : List Name → {F Place Nested Quest MutArg Exit Assign Loop Cf Acc Fold : Type 0} → Block F Place Nested Quest MutArg Exit Assign Loop Cf Acc Fold → ℕ → plain.Block
from_statement names {F} {Place} {Nested} {Quest} {MutArg} {Exit} {Assign} {Loop} {Cf} {Acc} {Fold} b i =
    let level = out-Block F Place Nested Quest MutArg Exit Assign Loop Cf Acc Fold b in
    chained (map (stmt_of names) (drop i level.statements)) (tail_of names level.tail)

-- the bytes of forms, before other bytes
abbrev mutual
  pub bytes_on : Form → List ℕ → List ℕ
  bytes_on (word w) more = w ++ more
  bytes_on (between fs) more = 40 ∷ first_on fs more

  pub first_on : Forms → List ℕ → List ℕ
  first_on no_forms more = 41 ∷ more
  first_on (form f fs) more = bytes_on f (next_on fs more)

  pub next_on : Forms → List ℕ → List ℕ
  next_on no_forms more = 41 ∷ more
  next_on (form f fs) more = 32 ∷ bytes_on f (next_on fs more)

-- `table` has the types with names, and `names` are those of the function's locals
module _ (table : List TypeDef) (names : List Name) {F Place Nested Quest MutArg Exit Assign Loop Cf Acc Fold : Type 0} where
  -- an item, before other bytes
  abbrev pub item_on : Item F Place Nested Quest MutArg Exit Assign Loop Cf Acc Fold → List ℕ → List ℕ
  item_on (item.Exp e) more = 32 ∷ bytes_on (shown_exp table (exp_of names e.now)) more
  item_on (item.Rhs r) more = 32 ∷ bytes_on (shown_rhs table (rhs_of names r.now)) more
  item_on (item.Block b) more = 32 ∷ bytes_on (framed (shown_rest table (block_of names b.now))) more
  item_on (item.Pattern p) more = 32 ∷ bytes_on (shown_pattern table (pattern_of names p.now)) more
  item_on (item.Exps es) more = next_on (shown_exps table (exps_of (map (exp_of names) es.now))) more
  item_on (item.Args es i) more = next_on (shown_args table (chained (map (arg_of names) (drop i es.now)) no_args)) more
  item_on (item.Arms xs i) more = next_on (shown_arms table (chained (map (arm_of names) (drop i xs.now)) no_arms)) more
  item_on (item.Statements b i) more = next_on (shown_rest table (from_statement names b.now i)) more
  item_on (item.Steps xs r) more =
      next_on (shown_steps table (chained (map (step_of names) xs.now) here) (shown_rhs table (rhs_of names r.now))) more
  item_on item.Close more = 41 ∷ more

  -- the items of a stack, from the top
  abbrev pub pending : List (Item F Place Nested Quest MutArg Exit Assign Loop Cf Acc Fold) → List ℕ
  pending [] = []
  pending (i ∷ is) = item_on i (pending is)
