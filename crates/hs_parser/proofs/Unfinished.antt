-- What is unfinished, as a list whose last item is the innermost.
use Rattle.std.proofs.Common.{◌≡◌, ◌<◌, ℕ, suc, ◌+◌, arith, Bool, true, false, List, [], ◌∷◌, ◌++◌, if◌then◌else◌, Option, Some, None, length, take, get_or, reverse, refl, sym, ap, ◌∙◌, subst}
use Rattle.std.proofs.lemmas.List.{reverse-append, length-reverse}
use Rattle.std.proofs.Math.Seq.{take-suc}
use Rattle.std.specs.Option.{MatchOption}
use Rattle.hs_forms.specs.declared.token.Kind.{Kind}
use Rattle.hs_forms.specs.declared.token.Kind.TheVariants as k
use Rattle.hs_forms.specs.declared.token.Token.{Token}
use Rattle.hs_forms.specs.Lexis.{same}
use Rattle.hs_parser.specs.BreakRule.{opens}
use Rattle.hs_parser.specs.Nesting.{outside, to_bracket, behind, unfinished_after, nesting}

-- the last item is the first of the reversed list
pub last_first : (old new : List Kind) (kind : Kind) → old ≡ new ++ kind ∷ [] → reverse old ≡ kind ∷ reverse new
last_first old new kind e = ap reverse e ∙ reverse-append new (kind ∷ [])

-- what taking the last item leaves of it
pub taken : (old new : List Kind) (last : Option Kind) (kind : Kind) → MatchOption last ((old ≡ []) × (new ≡ [])) (λ x. old ≡ new ++ x ∷ []) → last ≡ Some kind → reverse old ≡ kind ∷ reverse new
taken old new last kind m e = last_first old new kind (subst (λ o. MatchOption o ((old ≡ []) × (new ≡ [])) (λ x. old ≡ new ++ x ∷ [])) e m)

pub none_left : (old new : List Kind) (last : Option Kind) → MatchOption last ((old ≡ []) × (new ≡ [])) (λ x. old ≡ new ++ x ∷ []) → last ≡ None → (reverse old ≡ []) × (reverse new ≡ [])
none_left old new last m e =
    let both : (old ≡ []) × (new ≡ []) = subst (λ o. MatchOption o ((old ≡ []) × (new ≡ [])) (λ x. old ≡ new ++ x ∷ [])) e m in
    (ap reverse both.0, ap reverse both.1)

pub outside_opened : (ks rest : List Kind) (kind : Kind) → ks ≡ kind ∷ rest → opens kind ≡ true → outside ks ≡ rest
outside_opened ks rest kind e o = ap outside e ∙ ap (λ b. if b then rest else outside rest) o

pub outside_on : (ks rest : List Kind) (kind : Kind) → ks ≡ kind ∷ rest → opens kind ≡ false → outside ks ≡ outside rest
outside_on ks rest kind e o = ap outside e ∙ ap (λ b. if b then rest else outside rest) o

pub bracket_opened : (ks rest : List Kind) (kind : Kind) → ks ≡ kind ∷ rest → opens kind ≡ true → to_bracket ks ≡ kind ∷ rest
bracket_opened ks rest kind e o = ap to_bracket e ∙ ap (λ b. if b then kind ∷ rest else to_bracket rest) o

pub bracket_on : (ks rest : List Kind) (kind : Kind) → ks ≡ kind ∷ rest → opens kind ≡ false → to_bracket ks ≡ to_bracket rest
bracket_on ks rest kind e o = ap to_bracket e ∙ ap (λ b. if b then kind ∷ rest else to_bracket rest) o

after-append : (s : List Kind × Bool) (a b : List Token) → unfinished_after s (a ++ b) ≡ unfinished_after (unfinished_after s a) b
after-append s [] b = refl
after-append s (t ∷ a) b = after-append (behind s.0 s.1 t.kind, same t.kind k.RightBrace) a b

-- one token more
pub one_more : (tokens : List Token) (place : ℕ) (d : Token) (ks new : List Kind) (b last : Bool) → place < length tokens
    → (ks, b) ≡ unfinished_after ([], false) (take place tokens)
    → new ≡ behind ks b (get_or tokens place d).kind
    → last ≡ same (get_or tokens place d).kind k.RightBrace
    → (new, last) ≡ unfinished_after ([], false) (take (place + 1) tokens)
one_more tokens place d ks new b last lt before e l =
    let t : Token = get_or tokens place d in
    let next : place + 1 ≡ suc place = omega arith in
    let front : take (place + 1) tokens ≡ take place tokens ++ t ∷ [] = ap (λ m. take m tokens) next ∙ take-suc tokens place d lt in
    ap (λ x. (x, last)) e
    ∙ (ap (λ x. (behind ks b t.kind, x)) l
    ∙ (ap (λ s. unfinished_after s (t ∷ [])) before
    ∙ (sym (after-append ([], false) (take place tokens) (t ∷ []))
    ∙ ap (unfinished_after ([], false)) (sym front))))

-- how much nests there
pub nests_so : (ks : List Kind) (b : Bool) (tokens : List Token) → (reverse ks, b) ≡ unfinished_after ([], false) tokens → nesting tokens ≡ length ks
unfolding nesting
nests_so ks b tokens e = ap (λ s. length s.0) (sym e) ∙ length-reverse ks
