-- Parts in a list, walked one by one.
use mathlib.Core.Path.{fun_ext}
use Rattle.std.proofs.Common.{◌≡◌, ℕ, suc, ◌+◌, ◌<◌, ◌≤◌, Bool, List, [], ◌∷◌, map, length, get_or, drop, drop-cons, drop_of_length-le, Result, Err, refl, sym, ap, subst, ◌∙◌, arith}
use Rattle.hs_linear.specs.Seen.{Part, idle, nowhere, gives, ◌&◌, each, in_row, one_of}
use Rattle.hs_linear.specs.Nodes.{all}
use Rattle.hs_linear.specs.Sets.{set_of, changes_of}
use Rattle.hs_linear.specs.Moments.{Passed, Walks}
use Rattle.hs_linear.specs.declared.state.State.{State}
use Rattle.hs_linear.specs.declared.joined.Joined.{Joined}
use Rattle.hs_linear.specs.declared.joined.Left.{Left}
use Rattle.hs_linear.proofs.Steps.{Front, whole, gives_on, gives_done, goes, stops, done, Branches, branch, Ended}

pub next : {E : Type 0} (i : ℕ) (xs : List E) (x : E) → i < length xs → x ≡ get_or xs i x → drop i xs ≡ x ∷ drop (i + 1) xs
next i xs x h e =
    let more : suc i ≡ i + 1 = omega arith in
    drop-cons xs i x h ∙ ap (λ y. y ∷ drop (suc i) xs) (sym e) ∙ ap (λ k. x ∷ drop k xs) more

pub all_gone : {E : Type 0} (i : ℕ) (xs : List E) → length xs ≤ i → drop i xs ≡ []
all_gone i xs h = drop_of_length-le xs h

-- expressions in a row, from this place on, each by whether it is lent
abbrev pub row_from : {E : Type 0} → (ℕ → Bool) → (E → Bool → Part) → ℕ → List E → Part
row_from lent f i [] = idle
row_from lent f i (x ∷ xs) = f x (lent i) & row_from lent f (i + 1) xs

row_is : {E : Type 0} (lent : ℕ → Bool) (f : E → Bool → Part) (i : ℕ) (xs : List E) → in_row (λ j. lent (i + j)) (map f xs) ≡ row_from lent f i xs
row_is lent f i [] = refl
row_is lent f i (x ∷ xs) =
    let here : i + 0 ≡ i = omega arith in
    let there : (λ j. lent (i + suc j)) ≡ (λ j. lent ((i + 1) + j)) = fun_ext (λ j. ap lent (omega arith)) in
    ap (λ k. f x (lent k) & in_row (λ j. lent (i + suc j)) (map f xs)) here
    ∙ ap (λ l. f x (lent i) & in_row l (map f xs)) there
    ∙ ap (λ q. f x (lent i) & q) (row_is lent f (i + 1) xs)

whole_row : {E : Type 0} (lent : ℕ → Bool) (f : E → Bool → Part) (xs : List E) → in_row lent (map f xs) ≡ row_from lent f 0 xs
whole_row lent f xs = ap (λ l. in_row l (map f xs)) (fun_ext (λ j. ap lent (zero_plus j))) ∙ row_is lent f 0 xs
  where
    zero_plus : (j : ℕ) → j ≡ 0 + j
    zero_plus j = omega arith

-- a row that nothing of is walked yet
pub row_begins : {E : Type 0} (lent : ℕ → Bool) (f : E → Bool → Part) (xs : List E) (s : State) → Front (in_row lent (map f xs)) (row_from lent f 0 xs) s s
row_begins lent f xs s = subst (λ q. Front (in_row lent (map f xs)) q s s) (whole_row lent f xs) (whole (in_row lent (map f xs)) s)

pub row_goes : {E : Type 0} (lent : ℕ → Bool) (f : E → Bool → Part) (w : Part) (i : ℕ) (xs : List E) (x : E) (old now after : State) → i < length xs → x ≡ get_or xs i x
    → Front w (row_from lent f i (drop i xs)) old now → Passed (f x (lent i)) now after → Front w (row_from lent f (i + 1) (drop (i + 1) xs)) old after
row_goes lent f w i xs x old now after h e r p =
    goes w (f x (lent i)) (row_from lent f (i + 1) (drop (i + 1) xs)) old now after (subst (λ ys. Front w (row_from lent f i ys) old now) (next i xs x h e) r) p

pub row_stops : {E : Type 0} (A B : Type 0) (lent : ℕ → Bool) (f : E → Bool → Part) (w : Part) (i : ℕ) (xs : List E) (x : E) (old now after : State) (y : Left) → i < length xs → x ≡ get_or xs i x
    → Front w (row_from lent f i (drop i xs)) old now → Walks {A = A} (f x (lent i)) now after (Err y) → Walks {A = B} w old after (Err y)
row_stops A B lent f w i xs x old now after y h e r p =
    stops A B w (f x (lent i)) (row_from lent f (i + 1) (drop (i + 1) xs)) old now after y (subst (λ ys. Front w (row_from lent f i ys) old now) (next i xs x h e) r) p

pub row_done : {E : Type 0} (lent : ℕ → Bool) (f : E → Bool → Part) (w : Part) (i : ℕ) (xs : List E) (old now : State) → length xs ≤ i → Front w (row_from lent f i (drop i xs)) old now → Passed w old now
row_done lent f w i xs old now h r =
    done w old now (subst (λ ys. Front w (row_from lent f i ys) old now) (all_gone i xs h) r)

pub each_goes : {E : Type 0} (f : E → Part) (w : Part) (i : ℕ) (xs : List E) (x : E) (old now after : State) → i < length xs → x ≡ get_or xs i x
    → Front w (each (map f (drop i xs))) old now → Passed (f x) now after → Front w (each (map f (drop (i + 1) xs))) old after
each_goes f w i xs x old now after h e r p =
    goes w (f x) (each (map f (drop (i + 1) xs))) old now after (subst (λ ys. Front w (each (map f ys)) old now) (next i xs x h e) r) p

pub each_stops : {E : Type 0} (A B : Type 0) (f : E → Part) (w : Part) (i : ℕ) (xs : List E) (x : E) (old now after : State) (y : Left) → i < length xs → x ≡ get_or xs i x
    → Front w (each (map f (drop i xs))) old now → Walks {A = A} (f x) now after (Err y) → Walks {A = B} w old after (Err y)
each_stops A B f w i xs x old now after y h e r p =
    stops A B w (f x) (each (map f (drop (i + 1) xs))) old now after y (subst (λ ys. Front w (each (map f ys)) old now) (next i xs x h e) r) p

pub each_done : {E : Type 0} (f : E → Part) (w : Part) (i : ℕ) (xs : List E) (old now : State) → length xs ≤ i → Front w (each (map f (drop i xs))) old now → Passed w old now
each_done f w i xs old now h r = done w old now (subst (λ ys. Front w (each (map f ys)) old now) (all_gone i xs h) r)

pub arm_goes : {E : Type 0} (f : E → Part) (w : Part) (i : ℕ) (xs : List E) (x : E) (j k : Joined) (old now after back : State) (r : Result (Unit {0}) Left) → i < length xs → x ≡ get_or xs i x
    → Branches w (one_of (map f (drop i xs))) j old now → Walks {A = Unit {0}} (f x) now after r → Ended (set_of old.held) (changes_of old.held) j k after back r
    → Branches w (one_of (map f (drop (i + 1) xs))) k old back
arm_goes f w i xs x j k old now after back r h e b p g =
    branch w (f x) (one_of (map f (drop (i + 1) xs))) j k old now after back r (subst (λ ys. Branches w (one_of (map f ys)) j old now) (next i xs x h e) b) p g

pub arms_done : {E : Type 0} (f : E → Part) (w : Part) (i : ℕ) (xs : List E) (j : Joined) (old now : State) → length xs ≤ i → Branches w (one_of (map f (drop i xs))) j old now → Branches w nowhere j old now
arms_done f w i xs j old now h b = subst (λ ys. Branches w (one_of (map f ys)) j old now) (all_gone i xs h) b

-- what patterns in a list bind, and locals in one
pub gives_step : {E : Type 0} (f : E → List ℕ) (w : Part) (i : ℕ) (xs : List E) (x : E) (old now after : State) → i < length xs → x ≡ get_or xs i x
    → Front w (gives (all (map f (drop i xs)))) old now → Passed (gives (f x)) now after → Front w (gives (all (map f (drop (i + 1) xs)))) old after
gives_step f w i xs x old now after h e r p =
    gives_on w (f x) (all (map f (drop (i + 1) xs))) old now after (subst (λ ys. Front w (gives (all (map f ys))) old now) (next i xs x h e) r) p

pub local_step : {E : Type 0} (f : E → ℕ) (w : Part) (i : ℕ) (xs : List E) (x : E) (old now after : State) → i < length xs → x ≡ get_or xs i x
    → Front w (gives (map f (drop i xs))) old now → Passed (gives (f x ∷ [])) now after → Front w (gives (map f (drop (i + 1) xs))) old after
local_step f w i xs x old now after h e r p =
    gives_on w (f x ∷ []) (map f (drop (i + 1) xs)) old now after (subst (λ ys. Front w (gives (map f ys)) old now) (next i xs x h e) r) p

pub locals_done : {E : Type 0} (f : E → ℕ) (w : Part) (i : ℕ) (xs : List E) (old now : State) → length xs ≤ i → Front w (gives (map f (drop i xs))) old now → Passed w old now
locals_done f w i xs old now h r = gives_done w old now (subst (λ ys. Front w (gives (map f ys)) old now) (all_gone i xs h) r)
