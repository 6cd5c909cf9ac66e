-- The theorems at a small grammar: a list that is derived, one with a token that cannot stand there, and one that ends too early.
use Rattle.std.proofs.Common.{◌≡◌, ℕ, zero, suc, [], ◌∷◌, refl, sym, ap, ◌∙◌}
use Rattle.std.proofs.lemmas.Bool.{eqb-true, eq-eqb}
use Rattle.hs_grammar.specs.Kinds.{Decides}
use Rattle.hs_grammar.specs.Derives.{Derivings, Beginnings, DerivesAs}
use Rattle.hs_grammar.specs.Break.{Breaks}
use Rattle.hs_grammar.specs.Lookahead.{FitsRule}
use Rattle.hs_grammar.specs.Parser.{looped}
use Rattle.hs_grammar.specs.Same.{Same, Sane, SameGrammars}
use Rattle.hs_grammar.specs.Combinators.{word}
use Rattle.hs_grammar.specs.Rows.{Sign, Open, Close, Comma, A, code, lexis, Rule, RList, rules, item, written, parsed, tables}
use Rattle.hs_grammar.proofs.Same as forms
use Rattle.hs_grammar.proofs.Lists.{same_list}
use Rattle.hs_grammar.proofs.Fits.{fits_by, fits_list}
use Rattle.hs_grammar.proofs.Grammars.{answers}

-- the kind of a number
decode : ℕ → Sign
decode zero = Open
decode (suc zero) = Close
decode (suc (suc zero)) = Comma
decode (suc (suc (suc n))) = A

-- each kind has a number of its own
back : (s : Sign) → decode (code s) ≡ s
unfolding decode
back Open = refl
back Close = refl
back Comma = refl
back A = refl

-- the test of kinds is exact
pub decides : Decides lexis
decides = record {
  one = λ a b e. sym (back a) ∙ ap decode (eqb-true (code a) (code b) e) ∙ back b;
  alike = λ a b e. eq-eqb (code a) (code b) (ap code e);
}

-- one token of lookahead is enough
pub fits : (N : Rule) → FitsRule {L = lexis} {R = rules} tables parsed N
fits RList = record {
  fits = (tt, ((fits_list lexis rules decides tables (word Comma) item tt (fits_by lexis rules decides tables item refl) refl, tt, refl, refl), tt, refl), refl);
  empty_is = refl;
  begin_in = refl;
  go_on_in = refl;
}

module _ (ρ : Derivings lexis rules) (β : Beginnings lexis rules) (sane : Sane lexis rules ρ β) where
  each : (N : Rule) → Same {L = lexis} {R = rules} ρ β (written N) (parsed N)
  each RList =
      forms.same_seq lexis rules ρ β _ _ _ _ _ (forms.same lexis rules ρ β _)
      (forms.same_seq lexis rules ρ β _ _ _ _ _
      (forms.same_map lexis rules ρ β _ _ _ (forms.same_alt lexis rules ρ β _ _ _ _ (forms.same_map lexis rules ρ β _ _ _ (same_list lexis rules ρ β sane (word Comma) item)) (forms.same lexis rules ρ β _)))
      (forms.same lexis rules ρ β _))

-- both grammars are the same
pub agree : SameGrammars {L = lexis} {R = rules} written parsed
agree = forms.same_grammars written parsed each

-- (a,(a,),) has two letters
pub derived : DerivesAs {L = lexis} {R = rules} written RList (Open ∷ A ∷ Comma ∷ Open ∷ A ∷ Comma ∷ Close ∷ Comma ∷ Close ∷ []) 2
unfolding looped
derived = answers decides written parsed agree tables fits 3 RList (Open ∷ A ∷ Comma ∷ Open ∷ A ∷ Comma ∷ Close ∷ Comma ∷ Close ∷ [])

-- in (a,,) the second comma is the first token that cannot stand there
pub told : Breaks {L = lexis} {R = rules} written RList (Open ∷ A ∷ Comma ∷ Comma ∷ Close ∷ []) (Comma ∷ Close ∷ [])
unfolding looped
told = answers decides written parsed agree tables fits 3 RList (Open ∷ A ∷ Comma ∷ Comma ∷ Close ∷ [])

-- (a, begins a list and is none
pub early : Breaks {L = lexis} {R = rules} written RList (Open ∷ A ∷ Comma ∷ []) []
unfolding looped
early = answers decides written parsed agree tables fits 3 RList (Open ∷ A ∷ Comma ∷ [])
