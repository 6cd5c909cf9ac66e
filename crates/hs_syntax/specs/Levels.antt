-- How strongly operators bind.
use Rattle.hs_syntax.specs.declared.exp.BinaryOp.{BinaryOp}
use Rattle.hs_syntax.specs.declared.exp.BinaryOp.TheVariants as op
use Rattle.hs_syntax.specs.declared.exp.Level.{Level}
use Rattle.hs_syntax.specs.declared.exp.Level.TheVariants as level

abbrev pub level_of : BinaryOp → Level
level_of op.Or = level.Or
level_of op.And = level.And
level_of op.Equal = level.Compare
level_of op.Differ = level.Compare
level_of op.Less = level.Compare
level_of op.AtMost = level.Compare
level_of op.Greater = level.Compare
level_of op.AtLeast = level.Compare
level_of op.BitOr = level.BitOr
level_of op.BitXor = level.BitXor
level_of op.BitAnd = level.BitAnd
level_of op.ShiftLeft = level.Shift
level_of op.ShiftRight = level.Shift
level_of op.Add = level.Sum
level_of op.Subtract = level.Sum
level_of op.Multiply = level.Product
level_of op.Divide = level.Product
level_of op.Remainder = level.Product
