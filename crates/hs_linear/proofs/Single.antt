-- Single nodes.
use Rattle.std.proofs.Common.{◌≡◌, ℕ, Bool, true, false, not, ◌&&◌, ◌↔◌, cond, List, [], ◌∷◌, map, filter, Option, Some, None, Result, refl, ap, ◌∙◌, subst, drop, length, ◌≤◌}
use Rattle.std.specs.Prelude.{OnOk, IsTrue, is_some, is_none}
use Rattle.hs_tree.specs.Moves.{Holding}
use Rattle.hs_tree.specs.declared.node.Span.{Span}
use Rattle.hs_linear.specs.Seen.{Part, read, not_given_back}
use Rattle.hs_linear.specs.Nodes.{is_here}
use Rattle.hs_linear.specs.Told.{told_of}
use Rattle.hs_linear.specs.Moments.{Passed}
use Rattle.hs_linear.specs.declared.told.Breach.{Breach}
use Rattle.hs_linear.specs.declared.told.Take.{Take}
use Rattle.hs_linear.specs.declared.state.State.{State}
use Rattle.hs_linear.proofs.Rows.{all_gone}

-- whether a read takes a value out through a reference
pub through_is : (moves lent reference takes through : Bool) → takes ≡ (moves && not lent) → through ≡ (takes && reference) → through ≡ (moves && not lent && reference)
through_is true lent reference takes through t h = h ∙ ap (λ b. b && reference) t
through_is false lent reference takes through t h = h ∙ ap (λ b. b && reference) t

pub read_as : {A E : Type 0} (r : Result A E) (t u h i : Bool) (k : ℕ) (at : Span) (old new : State) → t ≡ u → h ≡ i → OnOk r (Passed (read t h k at) old new) → OnOk r (Passed (read u i k at) old new)
read_as r t u h i k at old new e f p = subst (λ x. OnOk r (Passed (read u x k at) old new)) f (subst (λ x. OnOk r (Passed (read x h k at) old new)) e p)

-- the reads that a loop does not give back, of those that left no value
pub lost_of : (began ended : Holding) (ts : List Take) → filter (λ t. began t.local) (filter (λ t. not (ended t.local)) ts) ≡ filter (λ t. began t.local && not (ended t.local)) ts
lost_of began ended [] = refl
lost_of began ended (t ∷ ts) = go (began t.local) (ended t.local) refl refl (lost_of began ended ts)
  where
    go : (b e : Bool) → began t.local ≡ b → ended t.local ≡ e → filter (λ t. began t.local) (filter (λ t. not (ended t.local)) ts) ≡ filter (λ t. began t.local && not (ended t.local)) ts
        → filter (λ t. began t.local) (cond (not e) (t ∷ filter (λ t. not (ended t.local)) ts) (filter (λ t. not (ended t.local)) ts)) ≡ cond (b && not e) (t ∷ filter (λ t. began t.local && not (ended t.local)) ts) (filter (λ t. began t.local && not (ended t.local)) ts)
    go true true f g h = h
    go false true f g h = h
    go true false f g h = ap (λ b. cond b (t ∷ filter (λ t. began t.local) (filter (λ t. not (ended t.local)) ts)) (filter (λ t. began t.local) (filter (λ t. not (ended t.local)) ts))) f ∙ ap (λ ys. t ∷ ys) h
    go false false f g h = ap (λ b. cond b (t ∷ filter (λ t. began t.local) (filter (λ t. not (ended t.local)) ts)) (filter (λ t. began t.local) (filter (λ t. not (ended t.local)) ts))) f ∙ h

-- what is told of these reads, where a local held a value when the loop began
abbrev pub told_back : Holding → List Take → List Breach
told_back began ts = not_given_back (filter (λ t. began t.local) ts)

pub told_reads : (began : Holding) (o now : Option Breach) (i : ℕ) (xs : List Take) → length xs ≤ i → o ≡ told_of now (told_back began (drop i xs)) → o ≡ now
told_reads began o now i xs h t = t ∙ ap (λ ys. told_of now (told_back began ys)) (all_gone i xs h)

-- no step leads on exactly where the list of steps is empty
pub empty_here : {E : Type 0} (f : E → Part) (xs : List E) (b : Bool) → (IsTrue b ↔ (xs ≡ [])) → b ≡ is_here (map f xs)
empty_here f [] b h = h.1 refl
empty_here f (x ∷ xs) true h = let e : x ∷ xs ≡ [] = h.0 refl in absurd (cc)
empty_here f (x ∷ xs) false h = refl

pub none_is : {A : Type 0} (o : Option A) (b : Bool) → is_some o ≡ not b → b ≡ is_none o
none_is None true e = refl
none_is None false e = absurd (cc)
none_is (Some x) true e = absurd (cc)
none_is (Some x) false e = refl
