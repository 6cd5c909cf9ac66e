-- The parser never nests too deep, since no rule stands in the file's form.
use Rattle.std.proofs.Common.{◌≡◌, refl, ℕ, zero, suc, Bool, true, false, cond, List, [], ◌∷◌, Result, Err, subst}
use Rattle.hs_grammar.specs.Form.{Pure, Tok, Nt, Map, Seq, Split, Alt, Loop, Unless}
use Rattle.hs_grammar.specs.Kinds.{has, starts}
use Rattle.hs_grammar.specs.Lookahead.{begin}
use Rattle.hs_grammar.specs.Parser.{Res, Done, Stop, Deep, and_then, giving, token_of, Parsers, parse, parse_by}
use Rattle.hs_grammar.specs.Whole.{Finishes}
use Rattle.hs_grammar.specs.declared.error.Refusal.{Refusal}
use Rattle.hs_grammar.specs.declared.error.Refusal.TheVariants as refusals
use Rattle.hs_front.specs.declared.symbol.Symbol.{Symbol}
use Rattle.hs_front.specs.declared.syntax.File.{File}
use Rattle.hs_front.specs.Lexis.{lexis}
use Rattle.hs_front.specs.Written.{F, rules, up_to, local, prim, addend, sum, param, next_param, params, assigned, mutable, binding, visibility, title, opening}
use Rattle.hs_front.specs.Reading.{tables, grammar, more, behind_name, numeric, body_read, file_read, reads}

-- no rule and no loop stands in the form
abbrev IsFlat : {C : Type 0} → F C → Type 0
IsFlat (Pure c) = Unit {0}
IsFlat (Tok ks h) = Unit {0}
IsFlat (Nt N h) = ⊥
IsFlat (Map h f) = IsFlat f
IsFlat (Seq h f g) = IsFlat f × IsFlat g
IsFlat (Split p h f g k) = IsFlat f × IsFlat g × IsFlat k
IsFlat (Alt f g) = IsFlat f × IsFlat g
IsFlat (Loop h f) = ⊥
IsFlat (Unless ks f) = IsFlat f

not_deep_then : {A B : Type 0} (r : Res Symbol A) (k : A → List Symbol → Res Symbol B) → (r ≡ Deep → ⊥) → ((a : A) (w : List Symbol) → k a w ≡ Deep → ⊥) → and_then r k ≡ Deep → ⊥
not_deep_then (Done a w) k h i e = i a w e
not_deep_then (Stop w) k h i e = cc
not_deep_then Deep k h i e = h refl

done_not_deep : {A : Type 0} (a : A) (w : List Symbol) → Done a w ≡ Deep → ⊥
done_not_deep a w e = cc

not_deep_either : {A : Type 0} (b : Bool) (r s : Res Symbol A) → (r ≡ Deep → ⊥) → (s ≡ Deep → ⊥) → cond b r s ≡ Deep → ⊥
not_deep_either true r s h i e = h e
not_deep_either false r s h i e = i e

token_not_deep : (ks : List lexis.kind) (w : List Symbol) → token_of lexis ks w ≡ Deep → ⊥
token_not_deep ks [] e = cc
token_not_deep ks (t ∷ w) e = not_deep_either (has lexis ks (lexis.kind_of t)) (Done t w) (Stop (t ∷ w)) (done_not_deep t w) (λ f. cc f) e

not_deep : {C : Type 0} (p : Parsers lexis rules) (f : F C) → IsFlat f → (w : List Symbol) → parse tables p f w ≡ Deep → ⊥
not_deep p (Pure c) i w e = cc
not_deep p (Tok ks h) i w e = not_deep_then (token_of lexis ks w) (λ a r. Done (h a) r) (token_not_deep ks w) (λ a r. done_not_deep (h a) r) e
not_deep p (Nt N h) i w e = i
not_deep p (Map h f) i w e = not_deep_then (parse tables p f w) (λ a r. Done (h a) r) (not_deep p f i w) (λ a r. done_not_deep (h a) r) e
not_deep p (Seq h f g) (i, j) w e =
    not_deep_then (parse tables p f w) (λ a r. giving (h a) (parse tables p g r)) (not_deep p f i w)
    (λ a r. not_deep_then (parse tables p g r) (λ b q. Done (h a b) q) (not_deep p g j r) (λ b q. done_not_deep (h a b) q)) e
not_deep p (Split q h f g k) (i, j, l) w e =
    not_deep_then (parse tables p f w) (λ a r. giving (h a) (cond (q a) (parse tables p g r) (parse tables p k r))) (not_deep p f i w)
    (λ a r. not_deep_then (cond (q a) (parse tables p g r) (parse tables p k r)) (λ b z. Done (h a b) z)
    (not_deep_either (q a) (parse tables p g r) (parse tables p k r) (not_deep p g j r) (not_deep p k l r)) (λ b z. done_not_deep (h a b) z)) e
not_deep p (Alt f g) (i, j) w e = not_deep_either (starts lexis (begin tables f) w) (parse tables p f w) (parse tables p g w) (not_deep p f i w) (not_deep p g j w) e
not_deep p (Loop h f) i w e = i
not_deep p (Unless ks f) i w e = not_deep_either (starts lexis ks w) (Stop w) (parse tables p f w) (λ d. cc d) (not_deep p f i w) e

flat_up_to : {A : Type 0} (n : ℕ) (f : F A) → IsFlat f → IsFlat (up_to n f)
unfolding up_to
flat_up_to zero f i = tt
flat_up_to (suc n) f i = ((i, flat_up_to n f i), tt)

flat_addend : IsFlat addend
unfolding addend prim local
flat_addend = (tt, (tt, tt))

flat_more : IsFlat more
unfolding more
flat_more = flat_up_to 61 addend flat_addend

flat_sum : IsFlat sum
unfolding sum more prim local
flat_sum = ((tt, tt), flat_more)

flat_assigned : IsFlat assigned
unfolding assigned
flat_assigned = (tt, (flat_sum, tt))

flat_param : IsFlat param
unfolding param local
flat_param = (tt, (tt, tt))

flat_next : IsFlat next_param
unfolding next_param
flat_next = (tt, flat_param)

flat_params : IsFlat params
unfolding params
flat_params = ((flat_param, flat_up_to 31 next_param flat_next), tt)

flat_binding : IsFlat binding
unfolding binding mutable
flat_binding = (tt, ((tt, tt), (flat_param, flat_assigned)))

flat_body : (n : ℕ) → IsFlat (body_read n)
unfolding body_read behind_name numeric local
flat_body zero = flat_sum
flat_body (suc n) = ((flat_binding, flat_body n), ((tt, ((flat_assigned, flat_body n), flat_more)), (tt, flat_more)))

flat_file : IsFlat file_read
unfolding file_read title visibility opening
flat_file = (((tt, tt), (tt, (tt, tt))), (flat_params, ((tt, (tt, (tt, tt))), (flat_body 1024, tt))))

pub file_not_deep : (w : List Symbol) → reads file_read w ≡ Deep → ⊥
file_not_deep w e = not_deep (parse_by tables grammar 0) file_read flat_file w e

pub finish_not_deep : (w : List Symbol) (r : Result File Refusal) → Finishes (reads file_read w) w r → r ≡ Err refusals.TooDeep → ⊥
finish_not_deep w r f e = file_not_deep w (subst (Finishes (reads file_read w) w) e f)
