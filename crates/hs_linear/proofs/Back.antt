-- Sets of earlier moments, and sets behind branches.
use mathlib.Core.Path.{fun_ext}
use Rattle.std.proofs.Common.{◌≡◌, ℕ, suc, ◌+◌, ◌<◌, ◌≤◌, Bool, true, false, not, ◌&&◌, ◌||◌, eqb, get_or, drop, drop-cons, List, [], ◌∷◌, ◌++◌, length, Some, Result, Ok, Err, refl, sym, ap, ap₂, subst, ◌∙◌, arith, length-append}
use Rattle.std.specs.Prelude.{OnOk}
use Rattle.hs_tree.specs.Store.{among}
use Rattle.hs_tree.specs.Moves.{Holding, also, less}
use Rattle.hs_linear.specs.Sets.{set_of, changes_of, turned, changed, LedFrom, IsAt, after_branches, won_of, joined_won}
use Rattle.hs_linear.specs.declared.held.Held.{Held}
use Rattle.hs_linear.specs.declared.joined.Joined.{Joined}
use Rattle.hs_linear.proofs.Sets.{turned_twice, changed_append, also_more}
use Rattle.hs_linear.proofs.Steps.{append_nothing}

-- a list of two parts that ends in an item behind the first part
ends_in : (xs ys ks : List ℕ) (k : ℕ) → xs ++ ys ≡ ks ++ k ∷ [] → length xs < length (ks ++ k ∷ []) → (zs : List ℕ) × (ys ≡ zs ++ k ∷ []) × (ks ≡ xs ++ zs)
ends_in [] ys ks k e l = (ks, e, refl)
ends_in (x ∷ xs) ys [] k e l = absurd (omega (arith, l))
ends_in (x ∷ xs) ys (y ∷ ks) k e l = go (ends_in xs ys ks k (tails x y (xs ++ ys) (ks ++ k ∷ []) e) (omega (arith, l)))
  where
    tails : (x y : ℕ) (xs ys : List ℕ) → x ∷ xs ≡ y ∷ ys → xs ≡ ys
    tails x y xs ys e = cc

    heads : (x y : ℕ) (xs ys : List ℕ) → x ∷ xs ≡ y ∷ ys → x ≡ y
    heads x y xs ys e = cc

    go : (zs : List ℕ) × (ys ≡ zs ++ k ∷ []) × (ks ≡ xs ++ zs) → (zs : List ℕ) × (ys ≡ zs ++ k ∷ []) × (y ∷ ks ≡ x ∷ xs ++ zs)
    go (zs, f, g) = (zs, f, ap₂ (λ a b. a ∷ b) (sym (heads x y (xs ++ ys) (ks ++ k ∷ []) e)) g)

-- the last change is turned back
pub stepped_back : (d : Holding) (before : List ℕ) (h n : Held) (k : ℕ) (ks : List ℕ) → LedFrom d before h → length before < length (changes_of h) → changes_of h ≡ ks ++ k ∷ [] → changes_of n ≡ ks
    → set_of n ≡ turned k (set_of h) → LedFrom d before n
stepped_back d before h n k ks (since, c, e) l is kept set = go (ends_in before since ks k (sym c ∙ is) (subst (λ x. length before < length x) is l))
  where
    go : (zs : List ℕ) × (since ≡ zs ++ k ∷ []) × (ks ≡ before ++ zs) → LedFrom d before n
    go (zs, f, g) = (
      zs,
      kept ∙ g,
      set ∙ ap (turned k) (e ∙ ap (λ x. changed x d) f ∙ changed_append zs (k ∷ []) d) ∙ turned_twice k (changed zs d),
    )

-- all are
pub all_back : (d : Holding) (before : List ℕ) (h : Held) → LedFrom d before h → length (changes_of h) ≤ length before → IsAt d before h
all_back d before h ([], c, e) l = (e, c ∙ append_nothing before)
all_back d before h (k ∷ ks, c, e) l =
    let same : length (changes_of h) ≡ length (before ++ k ∷ ks) = ap length c in
    absurd (omega (arith, l, same, length-append before (k ∷ ks)))

-- what branches won is put, and what they lost is taken
pub went_on : (j : Joined) (won lost ks : List ℕ) (old mid new : Held) → won_of j ≡ Some ks → won ≡ ks → lost ≡ j.lost.items → set_of mid ≡ also won (set_of old)
    → ((k : ℕ) → set_of new k ≡ (set_of mid k && not (among k lost))) → after_branches j (set_of old) ≡ Some (set_of new)
went_on j won lost ks old mid new e w l p t =
    ap (λ o. joined_won j.lost.items o (set_of old)) e
    ∙ ap Some (fun_ext (λ k. sym (t k ∙ ap₂ (λ (s : Holding) (x : List ℕ). s k && not (among k x)) (p ∙ ap (λ x. also x (set_of old)) w) l)))

-- two facts of a call that ends well, and a third
pub both_ok : {A E : Type 0} (r : Result A E) (P Q R : Type 0) → OnOk r P → OnOk r Q → (P → Q → R) → OnOk r R
both_ok (Ok a) P Q R p q f = f p q
both_ok (Err e) P Q R p q f = tt {0}

-- a list from a place on
from_place : (i : ℕ) (ks : List ℕ) (k : ℕ) → i < length ks → k ≡ get_or ks i 0 → drop i ks ≡ k ∷ drop (i + 1) ks
from_place i ks k h e =
    let more : suc i ≡ i + 1 = omega arith in
    drop-cons ks i 0 h ∙ ap (λ x. x ∷ drop (suc i) ks) (sym e) ∙ ap (λ j. k ∷ drop j ks) more

-- one local more is put, and one is taken
pub put_step : (ks : List ℕ) (i k : ℕ) (d e : Holding) → i < length ks → k ≡ get_or ks i 0 → e ≡ also (k ∷ []) d → also (drop i ks) d ≡ also (drop (i + 1) ks) e
put_step ks i k d e h g is = ap (λ x. also x d) (from_place i ks k h g) ∙ sym (also_more (k ∷ []) (drop (i + 1) ks) d) ∙ ap (also (drop (i + 1) ks)) (sym is)

pub take_step : (ks : List ℕ) (i k : ℕ) (d e : Holding) (j : ℕ) → i < length ks → k ≡ get_or ks i 0 → e ≡ less k d → (d j && not (among j (drop i ks))) ≡ (e j && not (among j (drop (i + 1) ks)))
take_step ks i k d e j h g is =
    ap (λ x. d j && not (among j x)) (from_place i ks k h g) ∙ go (d j) (eqb j k) (among j (drop (i + 1) ks))
    ∙ ap (λ (s : Holding). s j && not (among j (drop (i + 1) ks))) (sym is)
  where
    go : (x y z : Bool) → (x && not (y || z)) ≡ ((not y && x) && not z)
    go true true z = refl
    go true false z = refl
    go false true z = refl
    go false false z = refl
