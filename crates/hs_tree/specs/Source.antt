-- Which sources are sound: beside what their plain trees tell, no item or part of a type that is not copied is taken out, for which
-- the types of nodes are asked.
use Rattle.std.specs.Prelude.{ℕ, suc, Bool, true, false, not, ◌&&◌, ◌||◌, List, [], ◌∷◌, Option, Some, None, slice_get, bytes_eq, codes, IsTrue, if◌then◌else◌}
use Rattle.std.specs.List.{list_all}
use Rattle.hs_values.specs.declared.types.ValType.{ValType}
use Rattle.hs_values.specs.declared.types.ValType.TheVariants as type
use Rattle.hs_values.specs.declared.types.TypeDef.{TypeDef}
use Rattle.hs_ops.specs.declared.operation.Operation.{Operation}
use Rattle.hs_ops.specs.declared.operation.Operation.TheVariants.{Part}
use Rattle.hs_ops.specs.Standard.{standard_table}
use Rattle.hs_ops.specs.Table.{operation_named}
use Rattle.hs_tree.specs.Plain.{Name}
use Rattle.hs_tree.specs.Features.{src}
use Rattle.hs_tree.specs.Types.{copied}
use Rattle.hs_tree.specs.World.{operand_lent, none_lent}
use Rattle.hs_tree.specs.Call.{modes, lent_at, LocalTypes}
use Rattle.hs_tree.specs.Sound.{Sound}
use Rattle.hs_tree.specs.Of.{program_of, locals_of}
use Rattle.hs_tree.specs.declared.node.Block.{Block}
use Rattle.hs_tree.specs.declared.node.Arg.TheOpen.{Exp-F, Arg-F, Rhs-F, Carry-F, Arm-F, Step-F, Stmt-F, Tail-F, Block-F}
use Rattle.hs_tree.specs.declared.node.Arg.TheFolds.{fold-Block}
use Rattle.hs_tree.specs.declared.program.Function.{Function}
use Rattle.hs_tree.specs.declared.program.Program.{Program}

-- whether the operation of the name takes an item of a sequence or an array, or a part of a tuple
abbrev pub is_part_op : Option Operation → Bool
is_part_op (Some (Part n i)) = true
is_part_op _ = false

abbrev pub takes_part : Name → Bool
takes_part name = bytes_eq name (codes "q_item") || is_part_op (operation_named standard_table name)

-- whether each of these holds, by whether it is lent
abbrev pub all_of : (ℕ → Bool) → List (Bool → Bool) → Bool
all_of lent [] = true
all_of lent (f ∷ fs) = f (lent 0) && all_of (λ i. lent (suc i)) fs

-- `argument` tells which arguments of a call are lent; F is a set of features, with the types of its marks
module _ (table : List TypeDef) (argument : Name → ℕ → Bool) {F Place Nested Quest MutArg Exit Assign Loop Cf Acc Fold : Type 0} where
  -- whether no item or part of a type that is not copied is taken out in an expression, by whether it is lent, and so for each node
  abbrev pub taken_exp : Exp-F F Place Nested Quest MutArg Exit Assign Loop Cf Acc Fold (Bool → Bool) (Bool → Bool) Bool Bool Bool Bool Bool Bool Bool → Bool → Bool
  taken_exp (Exp-F.Var k at) lent = true
  taken_exp (Exp-F.Lit n) lent = true
  taken_exp (Exp-F.Truth b) lent = true
  taken_exp Exp-F.Unit lent = true
  taken_exp (Exp-F.Const name) lent = true
  taken_exp (Exp-F.Tuple es) lent = all_of none_lent es
  taken_exp (Exp-F.List es) lent = all_of none_lent es
  taken_exp (Exp-F.Ctor t name es) lent = all_of none_lent es
  taken_exp (Exp-F.Op name note es) lent = all_of (operand_lent name) es && (not (takes_part name) || lent || copied table note.ty)
  taken_exp (Exp-F.Call f es) lent = all_of (argument f) es
  taken_exp (Exp-F.And a b) lent = a false && b false
  taken_exp (Exp-F.Or a b) lent = a false && b false
  taken_exp (Exp-F.In nested r) lent = r
  taken_exp (Exp-F.Exit cf e) lent = e false
  taken_exp (Exp-F.Cont cf e) lent = e false

  abbrev pub taken_arg : Arg-F F Place Nested Quest MutArg Exit Assign Loop Cf Acc Fold (Bool → Bool) (Bool → Bool) Bool Bool Bool Bool Bool Bool Bool → Bool → Bool
  taken_arg (Arg-F.Value e) lent = e lent
  taken_arg (Arg-F.Lend k at) lent = true

  abbrev pub taken_rhs : Rhs-F F Place Nested Quest MutArg Exit Assign Loop Cf Acc Fold (Bool → Bool) (Bool → Bool) Bool Bool Bool Bool Bool Bool Bool → Bool
  taken_rhs (Rhs-F.Exp e) = e false
  taken_rhs (Rhs-F.If e a b) = e false && a && b
  taken_rhs (Rhs-F.Match e xs) = e false && list_all (λ x. x) xs
  taken_rhs (Rhs-F.Block b) = b
  taken_rhs (Rhs-F.LendCall lends f es) = all_of (argument f) es
  taken_rhs (Rhs-F.Quest quest t e) = e false
  taken_rhs (Rhs-F.ForCf loop assign cf i lo hi b) = lo false && hi false && b
  taken_rhs (Rhs-F.Turns loop acc c) = c
  taken_rhs (Rhs-F.TurnsCf loop acc cf c) = c
  taken_rhs (Rhs-F.Fold fold c) = c
  taken_rhs (Rhs-F.FoldCf fold cf c) = c

  abbrev pub taken_carry : Carry-F F Place Nested Quest MutArg Exit Assign Loop Cf Acc Fold (Bool → Bool) (Bool → Bool) Bool Bool Bool Bool Bool Bool Bool → Bool
  taken_carry c = c.low false && c.high false && c.first false && c.body

  abbrev pub taken_arm : Arm-F F Place Nested Quest MutArg Exit Assign Loop Cf Acc Fold (Bool → Bool) (Bool → Bool) Bool Bool Bool Bool Bool Bool Bool → Bool
  taken_arm x = x.block

  abbrev pub taken_step : Step-F F Place Nested Quest MutArg Exit Assign Loop Cf Acc Fold (Bool → Bool) (Bool → Bool) Bool Bool Bool Bool Bool Bool Bool → Bool
  taken_step (Step-F.At e) = e false
  taken_step (Step-F.Part i) = true

  abbrev pub taken_stmt : Stmt-F F Place Nested Quest MutArg Exit Assign Loop Cf Acc Fold (Bool → Bool) (Bool → Bool) Bool Bool Bool Bool Bool Bool Bool → Bool
  taken_stmt (Stmt-F.Let p r) = r
  taken_stmt (Stmt-F.Do r) = r
  taken_stmt (Stmt-F.Place place at o k steps r) = r && list_all (λ x. x) steps
  taken_stmt (Stmt-F.Set assign k r) = r
  taken_stmt (Stmt-F.For loop assign i lo hi b) = lo false && hi false && b

  abbrev pub taken_tail : Tail-F F Place Nested Quest MutArg Exit Assign Loop Cf Acc Fold (Bool → Bool) (Bool → Bool) Bool Bool Bool Bool Bool Bool Bool → Bool
  taken_tail (Tail-F.Rhs r) = r
  taken_tail (Tail-F.Return exit e) = e false
  taken_tail (Tail-F.Bind cf around p r b) = r && b

  abbrev pub taken_block : Block-F F Place Nested Quest MutArg Exit Assign Loop Cf Acc Fold (Bool → Bool) (Bool → Bool) Bool Bool Bool Bool Bool Bool Bool → Bool
  taken_block b = list_all (λ x. x) b.statements && b.tail

  abbrev pub block_keeps : Block F Place Nested Quest MutArg Exit Assign Loop Cf Acc Fold → Bool
  block_keeps = fold-Block F Place Nested Quest MutArg Exit Assign Loop Cf Acc Fold (Bool → Bool) (Bool → Bool) Bool Bool Bool Bool Bool Bool Bool taken_arg taken_exp taken_rhs taken_step taken_stmt taken_tail taken_arm taken_block taken_carry

-- the type at a place, or unit
abbrev pub type_at : Option ValType → ValType
type_at None = type.Unit
type_at (Some t) = t

module _ {F Place Nested Quest MutArg Exit Assign Loop Cf Acc Fold : Type 0} where
  -- the types of the locals of the function of a name
  abbrev pub types_in : List (Function F Place Nested Quest MutArg Exit Assign Loop Cf Acc Fold) → LocalTypes
  types_in [] name k = type.Unit
  types_in (f ∷ fs) name k = if bytes_eq f.name name then type_at (slice_get f.body.types k) else types_in fs name k

  -- the types of a program's locals
  abbrev pub types_of : Program F Place Nested Quest MutArg Exit Assign Loop Cf Acc Fold → LocalTypes
  types_of p = types_in p.functions

  -- whether no function takes out an item or a part of a type that is not copied
  abbrev pub keeps_parts : Program F Place Nested Quest MutArg Exit Assign Loop Cf Acc Fold → Bool
  keeps_parts p =
      list_all (λ f. block_keeps p.types (λ g i. lent_at (slice_get (modes (program_of p).functions g) i)) f.body.block) p.functions

  -- a source
  abbrev pub SoundSource : Program F Place Nested Quest MutArg Exit Assign Loop Cf Acc Fold → Type 0
  SoundSource p = Sound src (program_of p) (locals_of p) (types_of p) × IsTrue (keeps_parts p)
