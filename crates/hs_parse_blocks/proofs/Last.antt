-- A node whose bytes end with the last of its operands.
use Rattle.std.proofs.Common.{◌≡◌, ℕ, zero, suc, ◌-◌, List, [], ◌∷◌, length, Some, slice_get, arith, ap, sym}
use Rattle.hs_syntax.specs.declared.exp.Exp.{Exp}
use Rattle.hs_syntax.specs.declared.exp.Exp.TheVariants as exp
use Rattle.hs_syntax.specs.declared.exp.Operand.{Operand}
use Rattle.hs_syntax.specs.Spans.{span_of_exp}
use Rattle.hs_forms.specs.Nodes.{across, last_of, right_of, binary_of}

-- the item at this place, where there are so many behind the first, is the last
at_last : {A : Type 0} (a x : A) (as' : List A) (n : ℕ) → n ≡ length as' → slice_get (a ∷ as') n ≡ Some x → last_of a as' ≡ x
at_last a x [] zero e h = cc
at_last a x [] (suc n) e h = absurd (omega arith)
at_last a x (b ∷ bs) zero e h = absurd (omega arith)
at_last a x (b ∷ bs) (suc n) e h = at_last b x bs n (omega arith) h

pub binary_of_last : (e : Exp) (os : List Operand) (o : Operand) → slice_get os (length os - 1) ≡ Some o
    → exp.Binary (across (span_of_exp e) (span_of_exp (right_of o))) e os ≡ binary_of e os
binary_of_last e [] o h = absurd (cc)
binary_of_last e (p ∷ ps) o h =
    ap (λ x. exp.Binary (across (span_of_exp e) (span_of_exp (right_of x))) e (p ∷ ps)) (sym (at_last p o ps (length (p ∷ ps) - 1) (omega arith) h))
