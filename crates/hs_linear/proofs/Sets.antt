-- Sets of locals, step by step.
use mathlib.Core.Path.{fun_ext}
use Rattle.std.proofs.Common.{◌≡◌, ℕ, Bool, true, false, not, ◌&&◌, ◌||◌, cond, eqb, List, [], ◌∷◌, ◌++◌, map, filter, Option, Some, None, refl, sym, ap, ap₂, ◌∙◌, arith}
use Rattle.std.proofs.lemmas.Bool.Decides.{nat_tests}
use Rattle.hs_tree.specs.Store.{among}
use Rattle.hs_tree.specs.Moves.{Holding, also}
use Rattle.hs_linear.specs.Seen.{after_either}
use Rattle.hs_linear.specs.Sets.{turned, changed, ended_at, lost_by, won_by, lost_with, won_with, joined_won}

pub turned_twice : (k : ℕ) (d : Holding) → turned k (turned k d) ≡ d
turned_twice k d = fun_ext (λ j. go (eqb j k) (d j))
  where
    go : (b c : Bool) → cond b (not (cond b (not c) c)) (cond b (not c) c) ≡ c
    go true true = refl
    go true false = refl
    go false c = refl

pub changed_append : (ks js : List ℕ) (d : Holding) → changed (ks ++ js) d ≡ changed js (changed ks d)
changed_append [] js d = refl
changed_append (k ∷ ks) js d = changed_append ks js (turned k d)

-- locals that are put one by one
pub also_more : (ks js : List ℕ) (d : Holding) → also js (also ks d) ≡ also (ks ++ js) d
also_more [] js d = refl
also_more (k ∷ ks) js d = also_more' k ks js d
  where
    one : (k : ℕ) (ks js : List ℕ) (j : ℕ) → among j (ks ++ js) ≡ (among j ks || among j js)
    one k [] js j = refl
    one k (i ∷ ks) js j = grind (arith, one k ks js j)

    also_more' : (k : ℕ) (ks js : List ℕ) (d : Holding) → also js (also (k ∷ ks) d) ≡ also (k ∷ ks ++ js) d
    also_more' k ks js d = fun_ext (λ j. grind (arith, one k (k ∷ ks) js j))

-- what did not change is as it was
unchanged : (ks : List ℕ) (d : Holding) (j : ℕ) → among j ks ≡ false → changed ks d j ≡ d j
unchanged [] d j h = refl
unchanged (k ∷ ks) d j h =
    let here : eqb j k ≡ false = first (eqb j k) (among j ks) h in
    let there : among j ks ≡ false = second (eqb j k) (among j ks) h in
    unchanged ks (turned k d) j there ∙ ap (λ b. cond b (not (d j)) (d j)) here
  where
    first : (a b : Bool) → (a || b) ≡ false → a ≡ false
    first true b e = e
    first false b e = refl

    second : (a b : Bool) → (a || b) ≡ false → b ≡ false
    second true b e = absurd (cc)
    second false b e = e

-- whether a local is among those of a list that pass a test
abbrev passes : (ℕ → Bool) → List ℕ → ℕ → Bool
passes f ks j = among j ks && f j

among_filter : (f : ℕ → Bool) (ks : List ℕ) (j : ℕ) → among j (filter f ks) ≡ passes f ks j
among_filter f [] j = refl
among_filter f (k ∷ ks) j = go (f k) (eqb j k) refl refl (among_filter f ks j)
  where
    go : (b c : Bool) → f k ≡ b → eqb j k ≡ c → among j (filter f ks) ≡ passes f ks j → among j (cond b (k ∷ filter f ks) (filter f ks)) ≡ ((c || among j ks) && f j)
    go true c e g h = grind (arith, nat_tests)
    go false c e g h = grind (arith, nat_tests)

among_lost : (d e : Holding) (ks : List ℕ) (j : ℕ) → among j (lost_by d (map (ended_at e) ks)) ≡ passes (λ k. not (e k) && d k) ks j
among_lost d e [] j = refl
among_lost d e (k ∷ ks) j = go (not (e k) && d k) (eqb j k) refl refl (among_lost d e ks j)
  where
    go : (b c : Bool) → (not (e k) && d k) ≡ b → eqb j k ≡ c → among j (lost_by d (map (ended_at e) ks)) ≡ passes (λ k. not (e k) && d k) ks j
        → among j (map (λ (e : ℕ × Bool). e.0) (cond b ((k, e k) ∷ filter (λ (e : ℕ × Bool). not e.1 && d e.0) (map (ended_at e) ks)) (filter (λ (e : ℕ × Bool). not e.1 && d e.0) (map (ended_at e) ks)))) ≡ ((c || among j ks) && (not (e j) && d j))
    go true c a g h = grind (arith, nat_tests)
    go false c a g h = grind (arith, nat_tests)

among_won : (d e : Holding) (ks : List ℕ) (j : ℕ) → among j (won_by d (map (ended_at e) ks)) ≡ passes (λ k. e k && not (d k)) ks j
among_won d e [] j = refl
among_won d e (k ∷ ks) j = go (e k && not (d k)) (eqb j k) refl refl (among_won d e ks j)
  where
    go : (b c : Bool) → (e k && not (d k)) ≡ b → eqb j k ≡ c → among j (won_by d (map (ended_at e) ks)) ≡ passes (λ k. e k && not (d k)) ks j
        → among j (map (λ (e : ℕ × Bool). e.0) (cond b ((k, e k) ∷ filter (λ (e : ℕ × Bool). e.1 && not (d e.0)) (map (ended_at e) ks)) (filter (λ (e : ℕ × Bool). e.1 && not (d e.0)) (map (ended_at e) ks)))) ≡ ((c || among j ks) && (e j && not (d j)))
    go true c a g h = grind (arith, nat_tests)
    go false c a g h = grind (arith, nat_tests)

among_append : (ks js : List ℕ) (j : ℕ) → among j (ks ++ js) ≡ (among j ks || among j js)
among_append [] js j = refl
among_append (k ∷ ks) js j = go (eqb j k) (among_append ks js j)
  where
    go : (b : Bool) → among j (ks ++ js) ≡ (among j ks || among j js) → (b || among j (ks ++ js)) ≡ ((b || among j ks) || among j js)
    go true h = refl
    go false h = h

-- one local behind a first branch, and behind one more
first_at : (d e a : Bool) → (a ≡ false → e ≡ d) → (((a && (e && not d)) || d) && not (a && (not e && d))) ≡ e
first_at true true a h = go a
  where
    go : (a : Bool) → (((a && false) || true) && not (a && false)) ≡ true
    go true = refl
    go false = refl
first_at true false true h = refl
first_at true false false h = sym (h refl)
first_at false true true h = refl
first_at false true false h = sym (h refl)
first_at false false a h = go a
  where
    go : (a : Bool) → (((a && false) || false) && not (a && false)) ≡ false
    go true = refl
    go false = refl

more_at : (w l d e a : Bool) → (a ≡ false → e ≡ d) → ((((a && (e && not d)) && w) || d) && not (l || (a && (not e && d)))) ≡ (((w || d) && not l) && e)
more_at w true d e a h = go (w || d) (((a && (e && not d)) && w) || d)
  where
    go : (x y : Bool) → (y && false) ≡ ((x && false) && e)
    go true true = refl
    go true false = refl
    go false true = refl
    go false false = refl
more_at w false true true a h = go w a
  where
    go : (w a : Bool) → ((((a && false) && w) || true) && not (a && false)) ≡ (((w || true) && true) && true)
    go true true = refl
    go true false = refl
    go false true = refl
    go false false = refl
more_at true false true false true h = refl
more_at false false true false true h = refl
more_at w false true false false h = absurd (no (h refl))
  where
    no : false ≡ true → ⊥
    no e = absurd (cc)
more_at true false false true true h = refl
more_at false false false true true h = refl
more_at w false false true false h = absurd (no (h refl))
  where
    no : true ≡ false → ⊥
    no e = absurd (cc)
more_at true false false false true h = refl
more_at false false false false true h = refl
more_at true false false false false h = refl
more_at false false false false false h = refl

-- a branch joined to those before it, by what changed in it
pub joins : (lost : List ℕ) (won : Option (List ℕ)) (since : List ℕ) (d e : Holding) → e ≡ changed since d
    → joined_won (lost_with won lost (lost_by d (map (ended_at e) since))) (won_with won (won_by d (map (ended_at e) since))) d ≡ after_either (joined_won lost won d) (Some e)
joins lost None since d e h = ap Some (fun_ext (λ j.
    ap₂ (λ x y. (x || d j) && not y) (among_won d e since j) (among_lost d e since j)
    ∙ first_at (d j) (e j) (among j since) (λ a. ap (λ f. f j) h ∙ unchanged since d j a)))
joins lost (Some won) since d e h = ap Some (fun_ext (λ j.
    ap₂ (λ x y. (x || d j) && not y) (among_filter (λ k. among k won) (won_by d (map (ended_at e) since)) j ∙ ap (λ x. x && among j won) (among_won d e since j)) (among_append lost (lost_by d (map (ended_at e) since)) j ∙ ap (λ x. among j lost || x) (among_lost d e since j))
    ∙ more_at (among j won) (among j lost) (d j) (e j) (among j since) (λ a. ap (λ f. f j) h ∙ unchanged since d j a)))
