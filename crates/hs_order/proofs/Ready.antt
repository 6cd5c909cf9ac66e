-- Which item comes next behind these listed ones, told by the counts of open needs.
use Rattle.std.proofs.Common.{◌≡◌, ℕ, zero, suc, ◌+◌, ◌≤◌, ◌<◌, ◌++◌, ◌&&◌, Bool, true, false, not, map, cond, nat_eq, nat_lt, List, [], ◌∷◌, length, get_or, Some, None, refl, ap, ap₂, subst, sym, ◌∙◌, arith}
use Rattle.std.specs.List.{list_all}
use Rattle.std.proofs.lemmas.Bool.Decides.{nat_tests}
use Rattle.hs_order.specs.Order.{has, is_ready, ready_from, ready, IsOrder}
use Rattle.hs_order.specs.Counts.{times, list_at}
use Rattle.hs_order.proofs.Counting.{has-push}

-- at how many of its places a list has a number that is not listed
abbrev pub open_needs : List ℕ → List ℕ → ℕ
open_needs listed [] = 0
open_needs listed (need ∷ needs) = cond (has listed need) (open_needs listed needs) (suc (open_needs listed needs))

-- whether there is such an item, and it is ready
abbrev pub is_ready_at : List ℕ → List (List ℕ) → ℕ → Bool
is_ready_at listed items item = nat_lt item (length items) && is_ready listed item (list_at items item)

pub has_times : (n : ℕ) (ms : List ℕ) → has ms n ≡ not (nat_eq (times n ms) 0)
has_times n [] = grind (arith, nat_tests)
has_times n (m ∷ ms) = grind (arith, nat_tests, has_times n ms)

-- what an item that is not listed closes when it is
pub open_needs-push : (listed : List ℕ) (item : ℕ) (needs : List ℕ) → has listed item ≡ false
    → open_needs listed needs ≡ open_needs (listed ++ item ∷ []) needs + times item needs
open_needs-push listed item [] h = grind arith
open_needs-push listed item (need ∷ needs) h = grind (arith, nat_tests, open_needs-push listed item needs h, has-push listed item need)

pub times_open : (listed needs : List ℕ) (item : ℕ) → has listed item ≡ false → times item needs ≤ open_needs listed needs
times_open listed needs item h = omega (arith, open_needs-push listed item needs h)

list_all_has : (listed needs : List ℕ) → list_all (has listed) needs ≡ nat_eq (open_needs listed needs) 0
list_all_has listed [] = grind (arith, nat_tests)
list_all_has listed (need ∷ needs) = grind (arith, nat_tests, list_all_has listed needs)

open_needs_none : (needs : List ℕ) → open_needs [] needs ≡ length needs
open_needs_none [] = refl
open_needs_none (need ∷ needs) = ap suc (open_needs_none needs)

-- where nothing is listed each need is open
pub all_open : (items : List (List ℕ)) (item : ℕ) → get_or (map length items) item 0 ≡ open_needs [] (list_at items item)
all_open [] item = refl
all_open (needs ∷ items) zero = sym (open_needs_none needs)
all_open (needs ∷ items) (suc item) = all_open items item

chosen : {A : Type 0} (b : Bool) (x y : A) → b ≡ true → cond b x y ≡ x
chosen b x y e = ap (λ v. cond v x y) e

passed : {A : Type 0} (b : Bool) (x y : A) → b ≡ false → cond b x y ≡ y
passed b x y e = ap (λ v. cond v x y) e

ready_from_some : (listed : List ℕ) (items : List (List ℕ)) (start at item : ℕ) → item ≡ start + at → at < length items
    → is_ready listed item (list_at items at) ≡ true
    → ((i j : ℕ) → i ≡ start + j → j < at → is_ready listed i (list_at items j) ≡ false) → ready_from listed start items ≡ Some item
ready_from_some listed [] start at item e h r none = absurd (omega arith)
ready_from_some listed (needs ∷ items) start zero item e h r none =
    let same : item ≡ start = omega arith in
    chosen (is_ready listed start needs) (Some start) (ready_from listed (suc start) items) (ap (λ i. is_ready listed i needs) (sym same) ∙ r)
    ∙ ap Some (sym same)
ready_from_some listed (needs ∷ items) start (suc at) item e h r none =
    passed (is_ready listed start needs) (Some start) (ready_from listed (suc start) items) (none start 0 (omega arith) (omega arith))
    ∙ ready_from_some listed items (suc start) at item (omega arith) (omega arith) r (λ i j f k. none i (suc j) (omega arith) (omega arith))

ready_from_none : (listed : List ℕ) (items : List (List ℕ)) (start : ℕ)
    → ((i j : ℕ) → i ≡ start + j → j < length items → is_ready listed i (list_at items j) ≡ false) → ready_from listed start items ≡ None
ready_from_none listed [] start none = refl
ready_from_none listed (needs ∷ items) start none =
    passed (is_ready listed start needs) (Some start) (ready_from listed (suc start) items) (none start 0 (omega arith) (omega arith))
    ∙ ready_from_none listed items (suc start) (λ i j f k. none i (suc j) (omega arith) (omega arith))

-- the two tests of `is_ready_at`
there : (item n : ℕ) (test : Bool) → (nat_lt item n && test) ≡ true → item < n
there item n test e = grind (arith, nat_tests)

tested : (item n : ℕ) (test : Bool) → (nat_lt item n && test) ≡ true → test ≡ true
tested item n test e = grind (arith, nat_tests)

refused : (item n : ℕ) (test : Bool) → (nat_lt item n && test) ≡ false → item < n → test ≡ false
refused item n test e h = grind (arith, nat_tests)

pub ready_within : (listed : List ℕ) (items : List (List ℕ)) (item : ℕ) → is_ready_at listed items item ≡ true → item < length items
ready_within listed items item r = there item (length items) (is_ready listed item (list_at items item)) r

not_ready : (listed : List ℕ) (items : List (List ℕ)) (i j : ℕ) → j ≡ i → j < length items → is_ready_at listed items j ≡ false
    → is_ready listed i (list_at items j) ≡ false
not_ready listed items i j same h e =
    subst (λ (k : ℕ). is_ready listed k (list_at items j) ≡ false) same (refused j (length items) (is_ready listed j (list_at items j)) e h)

-- the first of those that are ready comes next
pub ready_some : (listed : List ℕ) (items : List (List ℕ)) (item : ℕ) → is_ready_at listed items item ≡ true
    → ((j : ℕ) → j < item → is_ready_at listed items j ≡ false) → ready listed items ≡ Some item
ready_some listed items item r none =
    let h : item < length items = ready_within listed items item r in
    ready_from_some listed items 0 item item (omega arith) h (tested item (length items) (is_ready listed item (list_at items item)) r)
    (λ i j e below. not_ready listed items i j (omega arith) (omega arith) (none j below))

-- where none is ready none comes next
pub ready_none : (listed : List ℕ) (items : List (List ℕ)) → ((j : ℕ) → is_ready_at listed items j ≡ false) → ready listed items ≡ None
ready_none listed items none = ready_from_none listed items 0 (λ i j e h. not_ready listed items i j (omega arith) h (none j))

-- an item is ready where it is not listed and none of its needs is open
pub ready_at_is : (listed : List ℕ) (items : List (List ℕ)) (item : ℕ)
    → is_ready_at listed items item ≡ (nat_lt item (length items) && (not (has listed item) && nat_eq (open_needs listed (list_at items item)) 0))
ready_at_is listed items item = ap (λ (b : Bool). nat_lt item (length items) && (not (has listed item) && b)) (list_all_has listed (list_at items item))

both_not : (was : Bool) (test : Bool) → (not was && test) ≡ true → was ≡ false
both_not true test e = cc
both_not false test e = refl

both_zero : (was : Bool) (n : ℕ) → (not was && nat_eq n 0) ≡ true → n ≡ 0
both_zero true n e = cc
both_zero false n e = grind (arith, nat_tests)

pub not_listed : (listed : List ℕ) (items : List (List ℕ)) (item : ℕ) → is_ready_at listed items item ≡ true → has listed item ≡ false
not_listed listed items item r =
    both_not (has listed item) (list_all (has listed) (list_at items item)) (tested item (length items) (is_ready listed item (list_at items item)) r)

pub none_open_at : (listed : List ℕ) (items : List (List ℕ)) (item : ℕ) → is_ready_at listed items item ≡ true → open_needs listed (list_at items item) ≡ 0
none_open_at listed items item r =
    both_zero (has listed item) (open_needs listed (list_at items item))
    (tested item (length items) (not (has listed item) && nat_eq (open_needs listed (list_at items item)) 0) (sym (ready_at_is listed items item) ∙ r))

-- how many numbers below this one are not listed
abbrev pub unlisted : List ℕ → ℕ → ℕ
unlisted listed zero = 0
unlisted listed (suc n) = unlisted listed n + cond (has listed n) 0 1

pub unlisted-push : (listed : List ℕ) (item n : ℕ) → has listed item ≡ false → unlisted (listed ++ item ∷ []) n + cond (nat_lt item n) 1 0 ≡ unlisted listed n
unlisted-push listed item zero h = grind (arith, nat_tests)
unlisted-push listed item (suc n) h = grind (arith, nat_tests, unlisted-push listed item n h, has-push listed item n)

-- there is one order at most
pub one_order : (items : List (List ℕ)) (listed a b : List ℕ) → IsOrder items listed a → IsOrder items listed b → a ≡ b
one_order items listed [] [] p q = refl
one_order items listed [] (y ∷ b) p q = let e = q.0 in cc
one_order items listed (x ∷ a) [] p q = let e = p.0 in cc
one_order items listed (x ∷ a) (y ∷ b) p q =
    let first : x ≡ y = let e = p.0 in let f = q.0 in cc in
    ap₂ (λ n ns. n ∷ ns) first
    (one_order items (listed ++ x ∷ []) a b p.1 (subst (λ (n : ℕ). IsOrder items (listed ++ n ∷ []) b) (sym first) q.1))
