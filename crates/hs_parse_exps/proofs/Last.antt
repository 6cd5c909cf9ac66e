-- Nodes whose bytes end with the last of what is behind.
use Rattle.std.proofs.Common.{◌≡◌, ℕ, zero, suc, ◌-◌, List, [], ◌∷◌, length, Some, slice_get, arith, ap, sym}
use Rattle.hs_syntax.specs.declared.span.Span.{Span}
use Rattle.hs_syntax.specs.declared.exp.Exp.{Exp}
use Rattle.hs_syntax.specs.declared.exp.Exp.TheVariants as exp
use Rattle.hs_syntax.specs.declared.exp.Postfix.{Postfix}
use Rattle.hs_syntax.specs.Spans.{span_of_exp, span_of_postfix}
use Rattle.hs_forms.specs.Nodes.{across, last_of, post_of, cast_of}

-- the item at this place, where there are so many behind the first, is the last
at_last : {A : Type 0} (a x : A) (as' : List A) (n : ℕ) → n ≡ length as' → slice_get (a ∷ as') n ≡ Some x → last_of a as' ≡ x
at_last a x [] zero e h = cc
at_last a x [] (suc n) e h = absurd (omega arith)
at_last a x (b ∷ bs) zero e h = absurd (omega arith)
at_last a x (b ∷ bs) (suc n) e h = at_last b x bs n (omega arith) h

pub post_of_last : (e : Exp) (ps : List Postfix) (p : Postfix) → slice_get ps (length ps - 1) ≡ Some p
    → exp.Post (across (span_of_exp e) (span_of_postfix p)) e ps ≡ post_of e ps
post_of_last e [] p h = absurd (cc)
post_of_last e (q ∷ qs) p h =
    ap (λ x. exp.Post (across (span_of_exp e) (span_of_postfix x)) e (q ∷ qs)) (sym (at_last q p qs (length (q ∷ qs) - 1) (omega arith) h))

pub cast_of_last : (e : Exp) (ns : List Span) (n : Span) → slice_get ns (length ns - 1) ≡ Some n
    → exp.Cast (across (span_of_exp e) n) e ns ≡ cast_of e ns
cast_of_last e [] n h = absurd (cc)
cast_of_last e (m ∷ ms) n h =
    ap (λ x. exp.Cast (across (span_of_exp e) x) e (m ∷ ms)) (sym (at_last m n ms (length (m ∷ ms) - 1) (omega arith) h))
