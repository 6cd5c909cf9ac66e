-- The index of the latest locals, with one local more.
use Rattle.std.proofs.Common.{◌≡◌, ℕ, Bool, true, false, cond, List, [], ◌∷◌, ◌++◌, map, length, bytes_eq, Option, Some, refl, sym, ap, ◌∙◌}
use Rattle.std.specs.Prelude.{reverse}
use Rattle.std.specs.Option.{option_map}
use Rattle.std.proofs.lemmas.List.{map-append, length-map, reverse-append, length-reverse}
use Rattle.std.proofs.lemmas.Slice.Eq.{bytes_eq-Decides}
use Rattle.hs_front.specs.declared.scope.Local as coded
use Rattle.hs_front.specs.declared.scope.Found as latest
use Rattle.hs_front.specs.Scope.{found}
use Rattle.hs_front.specs.Locals.{local_of, scope_of, pair_of}

same_both : (v w : List ℕ) → bytes_eq v w ≡ bytes_eq w v
same_both v w = go (bytes_eq v w) (bytes_eq w v) refl refl
  where
    go : (b c : Bool) → bytes_eq v w ≡ b → bytes_eq w v ≡ c → b ≡ c
    go true true e f = refl
    go false false e f = refl
    go true false e f = sym ((bytes_eq-Decides w v).1 (sym ((bytes_eq-Decides v w).0 e))) ∙ f
    go false true e f = sym e ∙ (bytes_eq-Decides v w).1 (sym ((bytes_eq-Decides w v).0 f))

-- a local behind others is the first in scope
scope_more : (ls : List coded.Local) (l : coded.Local) → scope_of (ls ++ l ∷ []) ≡ local_of l ∷ scope_of ls
scope_more ls l = ap reverse (map-append local_of ls (l ∷ [])) ∙ reverse-append (map local_of ls) (local_of l ∷ [])

scope_length : (ls : List coded.Local) → length (scope_of ls) ≡ length ls
scope_length ls = length-reverse (map local_of ls) ∙ length-map ls local_of

-- what is found with one local more
pub found_more : (w : List ℕ) (ls more : List coded.Local) (l : coded.Local) (n : ℕ) (old new : Option latest.Found) → more ≡ ls ++ l ∷ [] → n ≡ length ls
    → option_map pair_of old ≡ found w (scope_of ls) → new ≡ cond (bytes_eq l.name.now w) (Some (record { number = n; mutable = l.mutable })) old → option_map pair_of new ≡ found w (scope_of more)
found_more w ls more l n old new e k h u =
    ap (option_map pair_of) u
    ∙ (go (bytes_eq l.name.now w) (bytes_eq w l.name.now) (same_both l.name.now w)
    ∙ (ap (found w) (sym (scope_more ls l)) ∙ ap (λ xs. found w (scope_of xs)) (sym e)))
  where
    go : (b c : Bool) → b ≡ c → option_map pair_of (cond b (Some (record { number = n; mutable = l.mutable })) old) ≡ cond c (Some (length (scope_of ls), l.mutable)) (found w (scope_of ls))
    go true true f = ap (λ i. Some (i, l.mutable)) (k ∙ sym (scope_length ls))
    go false false f = h
    go true false f = absurd (cc f)
    go false true f = absurd (cc f)
