-- The texts of small trees.
use Rattle.std.proofs.Common.{◌≡◌, ◌<◌, ℕ, ◌+◌, true, ltb, List, [], ◌∷◌, refl, sym, ◌∙◌, arith}
use Rattle.std.proofs.lemmas.Bool.Decides.{nat_tests}
use Rattle.std.proofs.lemmas.Fmt.{decimal_digit}
use Rattle.std.specs.Prelude.{codes}
use Rattle.hs_words.specs.declared.kinds.IntTy.{IntTy}
use Rattle.hs_values.specs.declared.types.ValType.{ValType, roll-ValType}
use Rattle.hs_values.specs.declared.types.ValType.TheVariants as type
use Rattle.hs_values.specs.declared.types.ValType.TheOpen as layer
use Rattle.hs_values.specs.declared.types.ValType.TheFolds.{fold-roll-ValType}
use Rattle.hs_values.specs.declared.types.TypeDef.{TypeDef}
use Rattle.hs_ops.specs.Names.{kind_name}
use Rattle.hs_tree.specs.SmallTexts.{FlatText, NoMutArgText, NoAssignText}
use Rattle.hs_tree.specs.Text.{Form, word, numeral, shown_level, shown_type}
use Rattle.hs_tree.proofs.Numerals.{decimal_numeral}

shown_unit : (table : List TypeDef) → shown_type table type.Unit ≡ word (codes "unit")
unfolding roll-ValType denote.Hole.Carrier.roll
shown_unit table = fold-roll-ValType Form (shown_level table) layer.Unit

shown_int : (table : List TypeDef) (k : IntTy) → shown_type table (type.Int k) ≡ word (kind_name k)
unfolding roll-ValType denote.Hole.Carrier.roll
shown_int table k = fold-roll-ValType Form (shown_level table) (layer.Int k)

shown_pair : (table : List TypeDef) (t u : ValType) → shown_type table (type.Tuple (t ∷ u ∷ [])) ≡ shown_level table (layer.Tuple (shown_type table t ∷ shown_type table u ∷ []))
unfolding roll-ValType denote.Hole.Carrier.roll
shown_pair table t u = fold-roll-ValType Form (shown_level table) (layer.Tuple (t ∷ u ∷ []))

-- a number below 10 has one digit
digit : (n : ℕ) → ltb n 10 ≡ true → numeral n ≡ (48 + n) ∷ []
digit n h = let small : n < 10 = grind (arith, nat_tests) in sym (decimal_numeral n (omega arith)) ∙ decimal_digit n small

pub flat_text : FlatText
flat_text = simp (shown_int, digit) refl

pub mutargs_text : NoMutArgText
mutargs_text = simp (shown_pair, shown_int, shown_unit, digit) refl

pub assigns_text : NoAssignText
assigns_text = simp (shown_int, digit) refl
