-- A feature whose marks have no value is used nowhere.
use Rattle.std.proofs.Common.{◌≡◌, List, [], ◌∷◌, map, Bool, true, false, refl, sym, ◌∙◌, arith, true≢false}
use Rattle.hs_first_tree.specs.Features.{Feature, Place, Nested, Quest, MutArg, Exit, Assign, Loop, Cf, Acc, Fold, stage_of}
use Rattle.hs_first_tree.specs.Plain as plain
use Rattle.hs_first_tree.specs.Count.{mark, having, total_exp, total_exps, total_rhs, total_stmt, total_stmts, total_block, uses}
use Rattle.hs_first_tree.specs.Of.{rhs_of, stmt_of, stmts_of, block_of, function_of, program_of}
use Rattle.hs_first_tree.specs.declared.node.Stmt.{Stmt}
use Rattle.hs_first_tree.specs.declared.node.Stmt.TheVariants.{Let, Set}
use Rattle.hs_first_tree.specs.declared.node.Block.{Block}
use Rattle.hs_first_tree.specs.declared.program.Function.{Function}
use Rattle.hs_first_tree.specs.declared.program.Program.{Program}

mutual
  pub no_exp : (f : Feature) (e : plain.Exp) → total_exp (having f) e ≡ 0
  no_exp f (plain.var k) = refl
  no_exp f (plain.lit n) = refl
  no_exp f (plain.op name es) = omega (arith, no_exps f es)

  pub no_exps : (f : Feature) (es : plain.Exps) → total_exps (having f) es ≡ 0
  no_exps f plain.no_exps = refl
  no_exps f (plain.exp e es) = omega (arith, no_exp f e, no_exps f es)

pub no_rhs : (f : Feature) (r : plain.Rhs) → total_rhs (having f) r ≡ 0
no_rhs f (plain.plain e) = no_exp f e

-- a feature that is off is not the one that is on
pub unmarked : (f : Feature) (place nested quest mut_arg exit assign loop cf acc fold : Bool) → assign ≡ true → stage_of place nested quest mut_arg exit assign loop cf acc fold f ≡ false → mark f Assign ≡ 0
unmarked Place place nested quest mut_arg exit assign loop cf acc fold on off = refl
unmarked Nested place nested quest mut_arg exit assign loop cf acc fold on off = refl
unmarked Quest place nested quest mut_arg exit assign loop cf acc fold on off = refl
unmarked MutArg place nested quest mut_arg exit assign loop cf acc fold on off = refl
unmarked Exit place nested quest mut_arg exit assign loop cf acc fold on off = refl
unmarked Assign place nested quest mut_arg exit assign loop cf acc fold on off = absurd (true≢false (sym on ∙ off))
unmarked Loop place nested quest mut_arg exit assign loop cf acc fold on off = refl
unmarked Cf place nested quest mut_arg exit assign loop cf acc fold on off = refl
unmarked Acc place nested quest mut_arg exit assign loop cf acc fold on off = refl
unmarked Fold place nested quest mut_arg exit assign loop cf acc fold on off = refl

-- A is the type of the marks of assignments
module _ (F P N Q M E A L C Y Z : Type 0) (f : Feature) (off : A → mark f Assign ≡ 0) where
  no_stmt : (x : Stmt F P N Q M E A L C Y Z) → total_stmt (having f) (stmt_of x) ≡ 0
  no_stmt (Let k r) = omega (arith, no_rhs f (rhs_of r))
  no_stmt (Set a k r) = omega (arith, off a, no_rhs f (rhs_of r))

  no_stmts : (xs : List (Stmt F P N Q M E A L C Y Z)) → total_stmts (having f) (stmts_of (map stmt_of xs)) ≡ 0
  no_stmts [] = refl
  no_stmts (x ∷ xs) = omega (arith, no_stmt x, no_stmts xs)

  no_block : (b : Block F P N Q M E A L C Y Z) → total_block (having f) (block_of b) ≡ 0
  no_block b = omega (arith, no_stmts b.statements, no_rhs f (rhs_of b.tail))

  no_functions : (gs : List (Function F P N Q M E A L C Y Z)) → uses f (map function_of gs) ≡ 0
  no_functions [] = refl
  no_functions (g ∷ gs) = omega (arith, no_block g.body.block, no_functions gs)

  pub no_uses : (p : Program F P N Q M E A L C Y Z) → uses f (program_of p) ≡ 0
  no_uses p = no_functions p.functions
