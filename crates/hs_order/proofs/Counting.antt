-- How often a list has a number, a place further or with one more at its end, and what one step makes ready.
use Rattle.std.proofs.Common.{◌≡◌, ℕ, zero, suc, set, ◌+◌, ◌<◌, ◌++◌, ◌||◌, ◌&&◌, Bool, true, false, cond, nat_eq, List, [], ◌∷◌, take, drop, length, get_or, arith}
use Rattle.std.proofs.lemmas.Grind.{common_steps}
use Rattle.std.proofs.lemmas.Bool.Decides.{nat_tests}
use Rattle.hs_order.specs.Order.{has}
use Rattle.hs_order.specs.Counts.{times, list_at}

pub times-push : (n m : ℕ) (ms : List ℕ) → times n (ms ++ m ∷ []) ≡ times n ms + cond (nat_eq n m) 1 0
times-push n m [] = grind (arith, nat_tests)
times-push n m (k ∷ ms) = grind (arith, nat_tests, times-push n m ms)

pub times_more : (n : ℕ) (ms : List ℕ) (i : ℕ) → i < length ms
    → times n (take (i + 1) ms) ≡ times n (take i ms) + cond (nat_eq n (get_or ms i 0)) 1 0
times_more n ms i h = grind (arith, common_steps, times-push n (get_or ms i 0) (take i ms))

pub times-append : (n : ℕ) (ms ks : List ℕ) → times n (ms ++ ks) ≡ times n ms + times n ks
times-append n [] ks = grind arith
times-append n (m ∷ ms) ks = grind (arith, nat_tests, times-append n ms ks)

-- one that comes next isn't counted among those before
pub times_next : (ms : List ℕ) (i : ℕ) → i < length ms → times (get_or ms i 0) (take i ms) < times (get_or ms i 0) ms
times_next [] i h = grind arith
times_next (m ∷ ms) i h = grind (arith, common_steps, nat_tests, times_more (get_or (m ∷ ms) i 0) (m ∷ ms) i h, times-append (get_or (m ∷ ms) i 0) (take (i + 1) (m ∷ ms)) (drop (i + 1) (m ∷ ms)))

pub has-push : (ms : List ℕ) (m n : ℕ) → has (ms ++ m ∷ []) n ≡ (has ms n || nat_eq n m)
has-push [] m n = grind (arith, nat_tests)
has-push (k ∷ ms) m n = grind (arith, nat_tests, has-push ms m n)

pub has_more : (ms : List ℕ) (i n : ℕ) → i < length ms → has (take (i + 1) ms) n ≡ (has (take i ms) n || nat_eq n (get_or ms i 0))
has_more ms i n h = grind (arith, common_steps, has-push (take i ms) (get_or ms i 0) n)

-- of the users so far and this one those are ready whose count is 0 now
pub ready_step : (first middle last seen same : Bool) (before now : ℕ) → last ≡ (middle || (same && nat_eq now 0))
    → middle ≡ (first || (seen && nat_eq before 0)) → now + cond same 1 0 ≡ before
    → last ≡ (first || ((seen || same) && nat_eq now 0))
ready_step true middle last seen same before now p q e = cc
ready_step false middle last seen true before now p q e = grind (arith, nat_tests)
ready_step false middle last seen false before now p q e = grind (arith, nat_tests)

-- one more user of an item
pub user_added : (users : List (List ℕ)) (need user item other : ℕ) (now otherwise : List ℕ) → need < length users
    → now ≡ get_or users need otherwise ++ user ∷ [] → times other (list_at (set users need now) item)
    ≡ times other (list_at users item) + cond (nat_eq other user) (cond (nat_eq item need) 1 0) 0
user_added [] need user item other now otherwise h q = absurd (omega arith)
user_added (x ∷ users) zero user zero other now otherwise h q = grind (arith, nat_tests, times-push other user x)
user_added (x ∷ users) zero user (suc item) other now otherwise h q = grind (arith, nat_tests)
user_added (x ∷ users) (suc need) user zero other now otherwise h q = grind (arith, nat_tests)
user_added (x ∷ users) (suc need) user (suc item) other now otherwise h q = grind (arith, nat_tests, user_added users need user item other now otherwise (omega arith) q)

-- how often a user is named, where the need is its own
pub user_counted : (first before now seen all : ℕ) (same one : Bool) → before ≡ first + cond same seen 0
    → now ≡ before + cond same (cond one 1 0) 0 → all ≡ seen + cond one 1 0 → now ≡ first + cond same all 0
user_counted first before now seen all true one p q e = omega arith
user_counted first before now seen all false one p q e = omega arith

-- and where it is no item
pub user_same : (first before seen all : ℕ) (same one : Bool) → before ≡ first + cond same seen 0
    → one ≡ false → all ≡ seen + cond one 1 0 → before ≡ first + cond same all 0
user_same first before seen all true one p q e = grind (arith, p, q, e)
user_same first before seen all false one p q e = grind (arith, p)
