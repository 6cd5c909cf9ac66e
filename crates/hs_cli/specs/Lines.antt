-- The lines that are written on standard error.
use Rattle.std.specs.Prelude.{ℕ, List, [], ◌∷◌, ◌++◌, codes, decimal}
use Rattle.hs_base.specs.declared.place.Broken.{Broken}
use Rattle.hs_base.specs.Rules.{code_of, text_of}

abbrev pub usage_line : List ℕ
usage_line = codes "usage: hs check FILE | show PHASE FILE | print DIALECT NAME FILE | run FILE FUNCTION ARGS | vectors FILE VECTORS [BUDGET] | replay DIALECT MODULE VECTORS [BUDGET] | sample SEED COUNT [run]" ++ 10 ∷ []

abbrev pub not_there_line : List ℕ → List ℕ
not_there_line file = file ++ (codes ": not there" ++ 10 ∷ [])

abbrev pub too_large_line : List ℕ → List ℕ
too_large_line file = file ++ (codes ": longer than 262144 bytes" ++ 10 ∷ [])

abbrev pub read_failed_line : List ℕ → List ℕ
read_failed_line file = file ++ (codes ": read failed" ++ 10 ∷ [])

-- FILE:LINE:COL: RULE text
abbrev pub refused_line : List ℕ → Broken → List ℕ
refused_line file broken =
    file ++ (codes ":" ++ (decimal broken.at.line ++ (codes ":" ++ (decimal broken.at.col ++ (codes ": " ++ (code_of broken.rule ++ (codes " " ++ (text_of broken.rule ++ 10 ∷ []))))))))
