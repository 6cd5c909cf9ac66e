-- The definition at small trees.
use Rattle.std.proofs.Common.{◌≡◌, ℕ, true, false, [], ◌∷◌, Some, refl, ◌∙◌, codes}
use Rattle.hs_base.specs.Names.{is_upper, is_letter, is_digit, begins_name, is_word_byte, is_reserved, is_name}
use Rattle.hs_syntax.specs.declared.span.Span.{Span}
use Rattle.hs_syntax.specs.declared.ty.Ty.TheVariants as ty
use Rattle.hs_syntax.specs.declared.exp.BinaryOp.TheVariants as op
use Rattle.hs_syntax.specs.Texts.{bytes_at}
use Rattle.hs_syntax.specs.WellFormed.{named, assigns, one_level, well_ty}
use Rattle.hs_shapes.proofs.Layers.{ty_tuple}

abbrev span : ℕ → ℕ → Span
span a b = record { start = a; end = b }

f1_is_a_name : named (codes "f1 fn") (span 0 2) ≡ true
unfolding bytes_at is_name begins_name is_word_byte is_letter is_upper is_digit is_reserved
f1_is_a_name = refl

fn_is_none : named (codes "f1 fn") (span 3 5) ≡ false
unfolding bytes_at is_name begins_name is_word_byte is_letter is_upper is_digit is_reserved
fn_is_none = refl

-- (T,)
a_tuple_has_two_parts : well_ty (codes "(T,)") (ty.Tuple (span 0 4) (ty.Name (span 1 2) ∷ [])) ≡ false
a_tuple_has_two_parts = ty_tuple (codes "(T,)") (span 0 4) (ty.Name (span 1 2) ∷ []) ∙ refl

sums_stand_together : one_level (op.Add ∷ (op.Subtract ∷ [])) ≡ true
sums_stand_together = refl

products_stand_apart : one_level (op.Add ∷ (op.Multiply ∷ [])) ≡ false
products_stand_apart = refl

a_comparison_stands_alone : one_level (op.Less ∷ (op.Less ∷ [])) ≡ false
a_comparison_stands_alone = refl

no_comparison_assigns : assigns (Some op.AtMost) ≡ false
no_comparison_assigns = refl
