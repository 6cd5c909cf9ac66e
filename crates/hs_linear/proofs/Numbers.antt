-- Rules with one number are one rule.
use Rattle.std.proofs.Common.{◌≡◌, ℕ, ◌-◌, List, [], ◌∷◌, get_or, refl, sym, ap, ◌∙◌}
use Rattle.hs_base.specs.declared.rule.Rule.{Rule}
use Rattle.hs_base.specs.declared.rule.Rule.TheVariants.{X1, X2, X3, X4, X5, X6, G1, G2, G3, G4, G5, G6, G7, G8, N1, N2, N3, N4, N5, N6, N7, N8, N9, N10, N11, N12, T1, T2, T3, T4, T5, T6, T7, T8, T9, T10, T11, T12, T13, T14, T15, T16, T17, T18, T19, T20, T21, T22, T23, T24, T25, T26, T27, T28, T29, T30, L1, L2, L3, L4, L5, L6, S1, S2, S3, S4, S5, S6, S7, S8, S9, M1, M2, M3, M4}
use Rattle.hs_base.specs.Rules.{number_of}

abbrev in_order : List Rule
in_order = X1 ∷ X2 ∷ X3 ∷ X4 ∷ X5 ∷ X6 ∷ G1 ∷ G2 ∷ G3 ∷ G4 ∷ G5 ∷ G6 ∷ G7 ∷ G8 ∷ N1 ∷ N2 ∷ N3 ∷ N4 ∷ N5 ∷ N6 ∷ N7 ∷ N8 ∷ N9 ∷ N10 ∷ N11 ∷ N12 ∷ T1 ∷ T2 ∷ T3 ∷ T4 ∷ T5 ∷ T6 ∷ T7 ∷ T8 ∷ T9 ∷ T10 ∷ T11 ∷ T12 ∷ T13 ∷ T14 ∷ T15 ∷ T16 ∷ T17 ∷ T18 ∷ T19 ∷ T20 ∷ T21 ∷ T22 ∷ T23 ∷ T24 ∷ T25 ∷ T26 ∷ T27 ∷ T28 ∷ T29 ∷ T30 ∷ L1 ∷ L2 ∷ L3 ∷ L4 ∷ L5 ∷ L6 ∷ S1 ∷ S2 ∷ S3 ∷ S4 ∷ S5 ∷ S6 ∷ S7 ∷ S8 ∷ S9 ∷ M1 ∷ M2 ∷ M3 ∷ M4 ∷ []

abbrev numbered : ℕ → Rule
numbered n = get_or in_order (n - 1) X1

numbered_as : (r : Rule) → numbered (number_of r) ≡ r
numbered_as X1 = refl
numbered_as X2 = refl
numbered_as X3 = refl
numbered_as X4 = refl
numbered_as X5 = refl
numbered_as X6 = refl
numbered_as G1 = refl
numbered_as G2 = refl
numbered_as G3 = refl
numbered_as G4 = refl
numbered_as G5 = refl
numbered_as G6 = refl
numbered_as G7 = refl
numbered_as G8 = refl
numbered_as N1 = refl
numbered_as N2 = refl
numbered_as N3 = refl
numbered_as N4 = refl
numbered_as N5 = refl
numbered_as N6 = refl
numbered_as N7 = refl
numbered_as N8 = refl
numbered_as N9 = refl
numbered_as N10 = refl
numbered_as N11 = refl
numbered_as N12 = refl
numbered_as T1 = refl
numbered_as T2 = refl
numbered_as T3 = refl
numbered_as T4 = refl
numbered_as T5 = refl
numbered_as T6 = refl
numbered_as T7 = refl
numbered_as T8 = refl
numbered_as T9 = refl
numbered_as T10 = refl
numbered_as T11 = refl
numbered_as T12 = refl
numbered_as T13 = refl
numbered_as T14 = refl
numbered_as T15 = refl
numbered_as T16 = refl
numbered_as T17 = refl
numbered_as T18 = refl
numbered_as T19 = refl
numbered_as T20 = refl
numbered_as T21 = refl
numbered_as T22 = refl
numbered_as T23 = refl
numbered_as T24 = refl
numbered_as T25 = refl
numbered_as T26 = refl
numbered_as T27 = refl
numbered_as T28 = refl
numbered_as T29 = refl
numbered_as T30 = refl
numbered_as L1 = refl
numbered_as L2 = refl
numbered_as L3 = refl
numbered_as L4 = refl
numbered_as L5 = refl
numbered_as L6 = refl
numbered_as S1 = refl
numbered_as S2 = refl
numbered_as S3 = refl
numbered_as S4 = refl
numbered_as S5 = refl
numbered_as S6 = refl
numbered_as S7 = refl
numbered_as S8 = refl
numbered_as S9 = refl
numbered_as M1 = refl
numbered_as M2 = refl
numbered_as M3 = refl
numbered_as M4 = refl

pub same_rule : (q r : Rule) → number_of q ≡ number_of r → q ≡ r
same_rule q r e = sym (numbered_as q) ∙ ap numbered e ∙ numbered_as r
