-- The rules of HS-1: their numbers, their codes and their texts.
use Rattle.std.specs.Prelude.{ℕ, List, codes}
use Rattle.hs_base.specs.declared.rule.Rule.{Rule}
use Rattle.hs_base.specs.declared.rule.Rule.TheVariants.{X1, X2, X3, X4, X5, X6, G1, G2, G3, G4, G5, G6, G7, G8, N1, N2, N3, N4, N5, N6, N7, N8, N9, N10, N11, N12, T1, T2, T3, T4, T5, T6, T7, T8, T9, T10, T11, T12, T13, T14, T15, T16, T17, T18, T19, T20, T21, T22, T23, T24, T25, T26, T27, T28, T29, T30, L1, L2, L3, L4, L5, L6, S1, S2, S3, S4, S5, S6, S7, S8, S9, M1, M2, M3, M4}

-- what a rule is told by: its place among the rules, counted from 1, its code, and what it says
abbrev pub row_for : Rule → ℕ × List ℕ × List ℕ
row_for X1 = (1, codes "X1", codes "no token begins with this byte")
row_for X2 = (2, codes "X2", codes "this block comment is not closed")
row_for X3 = (3, codes "X3", codes "this number has no digit")
row_for X4 = (4, codes "X4", codes "this number's ending is not a digit of its base or a suffix")
row_for X5 = (5, codes "X5", codes "this number is above 2^128 - 1")
row_for X6 = (6, codes "X6", codes "this number does not fit its suffix")
row_for G1 = (7, codes "G1", codes "this token cannot stand here outside brackets")
row_for G2 = (8, codes "G2", codes "the file ends too early")
row_for G3 = (9, codes "G3", codes "this token cannot stand here in ( )")
row_for G4 = (10, codes "G4", codes "this token cannot stand here in [ ]")
row_for G5 = (11, codes "G5", codes "this token cannot stand here in { }")
row_for G6 = (12, codes "G6", codes "this closing bracket cannot stand here")
row_for G7 = (13, codes "G7", codes "this macro is not part of HS-1")
row_for G8 = (14, codes "G8", codes "this word is not part of HS-1")
row_for N1 = (15, codes "N1", codes "unknown type")
row_for N2 = (16, codes "N2", codes "unknown function")
row_for N3 = (17, codes "N3", codes "unknown name")
row_for N4 = (18, codes "N4", codes "unknown constructor or type of a path")
row_for N5 = (19, codes "N5", codes "an item has this name already, or it is a built-in name")
row_for N6 = (20, codes "N6", codes "this parameter, pattern or constructor name occurs twice, or is a constant's name")
row_for N7 = (21, codes "N7", codes "this item needs itself")
row_for N8 = (22, codes "N8", codes "an array has 1 to 65,536 items, inner items counted")
row_for N9 = (23, codes "N9", codes "a type that is copied has a part that is not")
row_for N10 = (24, codes "N10", codes "only a local can be assigned or lent")
row_for N11 = (25, codes "N11", codes "an array's items are of a copied type with a zero value")
row_for N12 = (26, codes "N12", codes "this modulus is not read")
row_for T1 = (27, codes "T1", codes "the value has another type than the place")
row_for T2 = (28, codes "T2", codes "the operator is not defined for this type")
row_for T3 = (29, codes "T3", codes "the number does not fit its type")
row_for T4 = (30, codes "T4", codes "`as` goes from a public integer to a public integer")
row_for T5 = (31, codes "T5", codes "an index is a usize")
row_for T6 = (32, codes "T6", codes "only a sequence or an array is indexed")
row_for T7 = (33, codes "T7", codes "the tuple has no such part")
row_for T8 = (34, codes "T8", codes "wrong number of arguments")
row_for T9 = (35, codes "T9", codes "wrong mode of argument")
row_for T10 = (36, codes "T10", codes "this local cannot be lent here")
row_for T11 = (37, codes "T11", codes "this local is not mut")
row_for T12 = (38, codes "T12", codes "`*` belongs to a reference parameter read as a value")
row_for T13 = (39, codes "T13", codes "a condition is a bool")
row_for T14 = (40, codes "T14", codes "the branches have different types")
row_for T15 = (41, codes "T15", codes "an if without else gives unit")
row_for T16 = (42, codes "T16", codes "this type has no such constructor")
row_for T17 = (43, codes "T17", codes "the match lacks a constructor")
row_for T18 = (44, codes "T18", codes "this arm is never reached")
row_for T19 = (45, codes "T19", codes "a loop's variable is not assigned")
row_for T20 = (46, codes "T20", codes "a loop's bound is a usize")
row_for T21 = (47, codes "T21", codes "this statement or loop body gives unit")
row_for T22 = (48, codes "T22", codes "`?` needs a Result with the function's error type")
row_for T23 = (49, codes "T23", codes "the returned value has another type than the function")
row_for T24 = (50, codes "T24", codes "this type has no such operation")
row_for T25 = (51, codes "T25", codes "nothing follows what always exits")
row_for T26 = (52, codes "T26", codes "this type has no zero value")
row_for T27 = (53, codes "T27", codes "values with secret parts are not compared")
row_for T28 = (54, codes "T28", codes "a list stands in its array's constructor with its length")
row_for T29 = (55, codes "T29", codes "a constant is made of literals, constants and constructors")
row_for T30 = (56, codes "T30", codes "the pattern does not fit the type")
row_for L1 = (57, codes "L1", codes "this local may hold no value")
row_for L2 = (58, codes "L2", codes "the lent local may hold no value")
row_for L3 = (59, codes "L3", codes "a loop's body takes this local's value and may not give it back")
row_for L4 = (60, codes "L4", codes "a value that is not copied is taken out of an item or a part")
row_for L5 = (61, codes "L5", codes "a part of a local without a value is assigned")
row_for L6 = (62, codes "L6", codes "a value that is not copied is taken through a reference")
row_for S1 = (63, codes "S1", codes "limit passed: file bytes")
row_for S2 = (64, codes "S2", codes "limit passed: nesting")
row_for S3 = (65, codes "S3", codes "limit passed: functions")
row_for S4 = (66, codes "S4", codes "limit passed: parameters")
row_for S5 = (67, codes "S5", codes "limit passed: locals")
row_for S6 = (68, codes "S6", codes "limit passed: statements")
row_for S7 = (69, codes "S7", codes "limit passed: exits")
row_for S8 = (70, codes "S8", codes "limit passed: parts")
row_for S9 = (71, codes "S9", codes "limit passed: name bytes")
row_for M1 = (72, codes "M1", codes "not a module of the dialect")
row_for M2 = (73, codes "M2", codes "a name is not defined before its use")
row_for M3 = (74, codes "M3", codes "a name is defined twice")
row_for M4 = (75, codes "M4", codes "wrong number of arguments, parts or arms")

-- the place of a rule among the rules, counted from 1
abbrev pub number_of : Rule → ℕ
number_of rule = (row_for rule).0

-- the bytes of a rule's code, a letter and a number
abbrev pub code_of : Rule → List ℕ
code_of rule = (row_for rule).1

-- the bytes of what a rule says
abbrev pub text_of : Rule → List ℕ
text_of rule = (row_for rule).2
