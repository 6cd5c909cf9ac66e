-- The loop over the pieces of a block.
use Rattle.std.specs.Prelude.{List, [], ◌∷◌, ◌++◌, Option, Some}
use Rattle.hs_grammar.specs.Form.{Step, Map}
use Rattle.hs_syntax.specs.declared.exp.Exp.{Exp}
use Rattle.hs_syntax.specs.declared.exp.Stmt.{Stmt}
use Rattle.hs_forms.specs.Blocks.{step_of_piece}
use Rattle.hs_forms.specs.Reading.{F, piece_form}

-- a piece as a turn
abbrev pub piece_turn : F (Step Stmt Exp)
piece_turn = Map step_of_piece piece_form

-- one more statement
abbrev pub with_statement : List Stmt × Option Exp → Stmt → List Stmt × Option Exp
with_statement body s = (body.0 ++ s ∷ [], body.1)

-- the statements so far, with a tail
abbrev pub with_value : List Stmt × Option Exp → Exp → List Stmt × Option Exp
with_value body e = (body.0, Some e)
