-- Lists of one type or two, and what is made of them.
use Rattle.std.proofs.Common.{◌≡◌, ◌≢◌, refl, sym, ◌∙◌, ap, List, [], ◌∷◌, ◌++◌, length, Some, None, arith}
use Rattle.std.proofs.lemmas.List.{length-append}
use Rattle.hs_values.specs.declared.types.ValType.{ValType}
use Rattle.hs_items.specs.Meaning.{unit, of_one, of_two}
use Rattle.hs_items.specs.Walk.{only_one, only_two}

last_alone : (front : List ValType) (last : ValType) → length (front ++ last ∷ []) ≡ 1 → only_one (front ++ last ∷ []) ≡ Some last
last_alone [] last h = refl
last_alone (t ∷ front) last h = absurd (let l = length-append front (last ∷ []) in omega (arith, h, l))

pub only_last : (ts front : List ValType) (last : ValType) → ts ≡ front ++ last ∷ [] → length ts ≡ 1 → only_one ts ≡ Some last
only_last ts front last e h = ap only_one e ∙ last_alone front last (sym (ap (λ (ts : List ValType). length ts) e) ∙ h)

pub not_one : (ts : List ValType) → length ts ≢ 1 → only_one ts ≡ None
not_one [] h = refl
not_one (t ∷ []) h = absurd (h refl)
not_one (t ∷ (u ∷ ts)) h = refl

both_alone : (front : List ValType) (first second : ValType) → length ((front ++ first ∷ []) ++ second ∷ []) ≡ 2 → only_two ((front ++ first ∷ []) ++ second ∷ []) ≡ Some (first, second)
both_alone [] first second h = refl
both_alone (t ∷ front) first second h =
    absurd (let l = length-append (front ++ first ∷ []) (second ∷ []) in let m = length-append front (first ∷ []) in omega (arith, h, l, m))

pub both_last : (ts more front : List ValType) (first second : ValType) → ts ≡ more ++ second ∷ [] → more ≡ front ++ first ∷ [] → length ts ≡ 2 → only_two ts ≡ Some (first, second)
both_last ts more front first second e f h =
    let all : ts ≡ (front ++ first ∷ []) ++ second ∷ [] = e ∙ ap (λ (xs : List ValType). xs ++ second ∷ []) f in
    ap only_two all ∙ both_alone front first second (sym (ap (λ (ts : List ValType). length ts) all) ∙ h)

pub not_two : (ts : List ValType) → length ts ≢ 2 → only_two ts ≡ None
not_two [] h = refl
not_two (t ∷ []) h = refl
not_two (t ∷ (u ∷ [])) h = absurd (h refl)
not_two (t ∷ (u ∷ (v ∷ ts))) h = refl

-- ---- what is made of them

pub made_one : (make : ValType → ValType) (ts : List ValType) (t : ValType) → only_one ts ≡ Some t → of_one make ts ≡ make t
made_one make [] t h = cc
made_one make (u ∷ []) t h = ap make (let e : u ≡ t = cc in e)
made_one make (u ∷ (v ∷ ts)) t h = cc

pub made_none : (make : ValType → ValType) (ts : List ValType) → only_one ts ≡ None → of_one make ts ≡ unit
made_none make [] h = refl
made_none make (u ∷ []) h = cc
made_none make (u ∷ (v ∷ ts)) h = refl

pub made_two : (make : ValType → ValType → ValType) (ts : List ValType) (t u : ValType) → only_two ts ≡ Some (t, u) → of_two make ts ≡ make t u
made_two make [] t u h = cc
made_two make (v ∷ []) t u h = cc
made_two make (v ∷ (w ∷ [])) t u h = ap (λ (p : ValType × ValType). make p.0 p.1) (let e : (v, w) ≡ (t, u) = cc in e)
made_two make (v ∷ (w ∷ (x ∷ ts))) t u h = cc

pub made_not_two : (make : ValType → ValType → ValType) (ts : List ValType) → only_two ts ≡ None → of_two make ts ≡ unit
made_not_two make [] h = refl
made_not_two make (v ∷ []) h = refl
made_not_two make (v ∷ (w ∷ [])) h = cc
made_not_two make (v ∷ (w ∷ (x ∷ ts))) h = refl
