-- The first token, and two sets of kinds.
use Rattle.std.proofs.Common.{◌≡◌, Bool, true, false, ◌||◌, List, [], ◌∷◌, ◌++◌, refl, sym, ap, ◌∙◌}
use Rattle.hs_grammar.specs.Kinds.{has, starts}
use Rattle.hs_forms.specs.declared.token.Kind.{Kind}
use Rattle.hs_forms.specs.declared.token.Token.{Token}
use Rattle.hs_forms.specs.Lexis.{lexis, kind_of}

or_assoc : (a b c : Bool) → ((a || b) || c) ≡ (a || (b || c))
or_assoc true b c = refl
or_assoc false b c = refl

has_append : (xs ys : List Kind) (k : Kind) → has lexis (xs ++ ys) k ≡ (has lexis xs k || has lexis ys k)
has_append [] ys k = refl
has_append (x ∷ xs) ys k = ap (λ b. lexis.same x k || b) (has_append xs ys k) ∙ sym (or_assoc (lexis.same x k) (has lexis xs k) (has lexis ys k))

-- a kind of either set is a kind of both together
pub starts_append : (xs ys : List Kind) (w : List Token) → starts lexis (xs ++ ys) w ≡ (starts lexis xs w || starts lexis ys w)
starts_append xs ys [] = refl
starts_append xs ys (t ∷ w) = has_append xs ys (kind_of t)
