-- A list without its last item.
use Rattle.std.proofs.Common.{◌≡◌, List, [], ◌∷◌, ◌++◌, Option, Some, None, refl, sym, ap, ◌∙◌}
use Rattle.std.specs.Option.{MatchOption}
use Rattle.hs_forms.specs.declared.token.Kind.{Kind}
use Rattle.hs_parser.specs.BreakRule.{popped}

pub popped_last : (ks : List Kind) (k : Kind) → popped (ks ++ k ∷ []) ≡ ks
popped_last [] k = refl
popped_last (a ∷ []) k = refl
popped_last (a ∷ (b ∷ ks)) k = ap (λ l. a ∷ l) (popped_last (b ∷ ks) k)

-- what taking the last item leaves
pub popped_of : (old new : List Kind) (taken : Option Kind) → MatchOption taken ((old ≡ []) × (new ≡ [])) (λ last. old ≡ new ++ last ∷ []) → new ≡ popped old
popped_of old new None m = m.1 ∙ sym (ap popped m.0)
popped_of old new (Some k) m = sym (popped_last new k) ∙ sym (ap popped m)
