-- Something is told exactly where a rule is broken.
use Rattle.std.proofs.Common.{◌≡◌, ◌↔◌, List, [], ◌∷◌, Option, Some, None, refl, sym, ap, ◌∙◌}
use Rattle.std.specs.Prelude.{option_map}
use Rattle.hs_em.specs.Scoped.{Fault, lesser, least, or_else, told_of, AllEmpty}

-- of faults that are there one is the least
least_some : (f : Fault) (fs : List Fault) → (g : Fault) × (least (f ∷ fs) ≡ Some g)
least_some f [] = (f, refl)
least_some f (h ∷ fs) = let r : (g : Fault) × (least (h ∷ fs) ≡ Some g) = least_some h fs in (lesser f r.0, ap (option_map (lesser f)) r.1)

pub none_told : (fss : List (List Fault)) → told_of fss ≡ None → AllEmpty fss
none_told [] e = tt
none_told ([] ∷ fss) e = (refl, none_told fss e)
none_told ((f ∷ fs) ∷ fss) e =
    let r : (g : Fault) × (least (f ∷ fs) ≡ Some g) = least_some f fs in
    let clash : Some r.0 ≡ None = sym (ap (λ o. or_else o (told_of fss)) r.1) ∙ e in
    absurd (cc clash)

pub all_empty : (fss : List (List Fault)) → AllEmpty fss → told_of fss ≡ None
all_empty [] h = refl
all_empty (fs ∷ fss) h = ap (λ gs. or_else (least gs) (told_of fss)) h.0 ∙ all_empty fss h.1

pub told_exactly : (fss : List (List Fault)) → (told_of fss ≡ None) ↔ AllEmpty fss
told_exactly fss = (none_told fss, all_empty fss)
