use Rattle.std.proofs.Common.{◌≡◌, ℕ, suc, ◌+◌, ◌<◌, ◌≤◌, List, [], ◌++◌, length, get_or, drop, append_assoc, add-one, drop-cons, ap, sym, ◌∙◌}
use Rattle.std.proofs.lemmas.List.{drop_all, append-nil}
use Rattle.hs_lexer.specs.declared.token.Token.{Token as Spelled}
use Rattle.hs_forms.specs.declared.token.Token.{Token}
use Rattle.hs_forms.specs.Tokens.{seen, tokens_of}
use Rattle.hs_forms.proofs.token.tokens_of.Goals as goal

-- one token more is seen
step : (text : List ℕ) (all : List Spelled) (i : ℕ) (d : Spelled) (into : List Token) → i < length all
    → into ++ tokens_of text (drop i all) ≡ tokens_of text all
    → (into ++ seen text (get_or all i d)) ++ tokens_of text (drop (i + 1) all) ≡ tokens_of text all
unfolding tokens_of
step text all i d into h e =
    let cut : tokens_of text (drop i all) ≡ seen text (get_or all i d) ++ tokens_of text (drop (suc i) all) = ap (tokens_of text) (drop-cons all i d h) in
    rw (add-one, append_assoc, ← cut) e

-- behind the last token all are seen
last : (text : List ℕ) (all : List Spelled) (i : ℕ) (into : List Token) → length all ≤ i
    → into ++ tokens_of text (drop i all) ≡ tokens_of text all → into ≡ tokens_of text all
unfolding tokens_of
last text all i into h e =
    let f : into ++ [] ≡ tokens_of text all = ap (λ (rest : List Spelled). into ++ tokens_of text rest) (sym (drop_all i all h)) ∙ e in
    sym (append-nil into) ∙ f

pub loop-token-preserved : goal.loop-token-preserved
loop-token-preserved c =
    rw (c.in_ok-push_both.ensures, c.kind_of.ensures, c.between-bytes.ensures)
    (step c.args.text.now c.args.tokens.now c.loop-token.token-index _ c.loop-token.into c.loop-token-test.true c.loop-token.invariant)

pub returns : goal.returns
returns c = last c.args.text.now c.args.tokens.now c.loop-token.token-index c.loop-token.into c.loop-token-test.false c.loop-token.invariant
