-- What the counts and the set of ready items say, at first, after each item, and at the end.
use Rattle.std.proofs.Common.{◌≡◌, ℕ, zero, suc, ◌+◌, ◌≤◌, ◌<◌, ◌++◌, ◌||◌, ◌&&◌, Bool, true, false, not, IsTrue, map, cond, nat_eq, nat_lt, List, [], ◌∷◌, length, get_or, Option, Some, None, refl, ap, ap₂, subst, sym, ◌∙◌, arith, append_assoc, append-nil}
use Rattle.std.specs.List.{list_any}
use Rattle.std.specs.Ordering.{nat_cmp, is_gt, is_eq}
use Rattle.std.proofs.lemmas.Map.Keys.{le_from_not_gt}
use Rattle.std.proofs.lemmas.List.{length-map}
use Rattle.std.proofs.lemmas.Grind.{common_steps}
use Rattle.std.proofs.lemmas.Bool.Decides.{nat_tests}
use Rattle.hs_order.specs.Order.{has, ready, IsOrder, IsLeftOut}
use Rattle.hs_order.specs.Counts.{times, list_at, AreUsers, IsFirstOpen}
use Rattle.hs_order.proofs.Counting.{has-push}
use Rattle.hs_order.proofs.Ready.{open_needs, is_ready_at, has_times, open_needs-push, times_open, all_open, ready_within, ready_some, ready_none, ready_at_is, not_listed, none_open_at, unlisted, unlisted-push}

-- the counts are of open needs, and the set has the ready items
pub record Waiting (items : List (List ℕ)) (listed counts : List ℕ) (set : ℕ → Bool) : Type 0 where
  pub each : length counts ≡ length items
  pub counts_are : (item : ℕ) → get_or counts item 0 ≡ open_needs listed (list_at items item)
  pub set_is : (item : ℕ) → set item ≡ is_ready_at listed items item
  pub none_open : (item : ℕ) → has listed item ≡ true → open_needs listed (list_at items item) ≡ 0

-- nothing is listed at first
pub waiting_first : (items : List (List ℕ)) (listed counts : List ℕ) (set : ℕ → Bool) → listed ≡ [] → counts ≡ map length items
    → ((item : ℕ) → set item ≡ (nat_lt item (length counts) && nat_eq (get_or counts item 0) 0)) → Waiting items listed counts set
waiting_first items listed counts set e f s = subst (λ (l : List ℕ). Waiting items l counts set) (sym e) (record {
  each = each;
  counts_are = counts_are;
  set_is = λ q. s q ∙ ap₂ (λ (n k : ℕ). nat_lt q n && nat_eq k 0) each (counts_are q) ∙ sym (ready_at_is [] items q);
  none_open = λ q h. cc;
})
  where
    each : length counts ≡ length items
    each = ap length f ∙ length-map items length

    counts_are : (q : ℕ) → get_or counts q 0 ≡ open_needs [] (list_at items q)
    counts_are q = ap (λ (ns : List ℕ). get_or ns q 0) f ∙ all_open items q

-- what is ready behind one more item: what was ready, and what has lost its last open need
next_ready : (within was same old middle new user : Bool) (before now lost : ℕ) → before ≡ now + lost → user ≡ not (nat_eq lost 0)
    → (was ≡ true → before ≡ 0) → (same ≡ true → before ≡ 0) → (within ≡ false → lost ≡ 0)
    → old ≡ (within && (not was && nat_eq before 0)) → middle ≡ cond same false old → new ≡ (middle || (user && nat_eq now 0))
    → new ≡ (within && (not (was || same) && nat_eq now 0))
next_ready within true same old middle new user before now lost e u w s i o m n = grind (arith, nat_tests, w refl)
next_ready within false true old middle new user before now lost e u w s i o m n = grind (arith, nat_tests, s refl)
next_ready true false false old middle new user before now lost e u w s i o m n = grind (arith, nat_tests)
next_ready false false false old middle new user before now lost e u w s i o m n = grind (arith, nat_tests, i refl)

still_none : (was same : Bool) (before now lost : ℕ) → before ≡ now + lost → (was ≡ true → before ≡ 0) → (same ≡ true → before ≡ 0)
    → (was || same) ≡ true → now ≡ 0
still_none true same before now lost e w s h = let z : before ≡ 0 = w refl in omega arith
still_none false true before now lost e w s h = let z : before ≡ 0 = s refl in omega arith
still_none false false before now lost e w s h = cc

list_beyond : (items : List (List ℕ)) (item : ℕ) → nat_lt item (length items) ≡ false → list_at items item ≡ []
list_beyond [] item e = refl
list_beyond (needs ∷ items) zero e = grind (arith, nat_tests)
list_beyond (needs ∷ items) (suc item) e = list_beyond items item (grind (arith, nat_tests))

same_item : (items : List (List ℕ)) (listed : List ℕ) (q item : ℕ) → open_needs listed (list_at items item) ≡ 0 → nat_eq q item ≡ true
    → open_needs listed (list_at items q) ≡ 0
same_item items listed q item o e =
    let same : item ≡ q = grind (arith, nat_tests) in
    subst (λ (k : ℕ). open_needs listed (list_at items k) ≡ 0) same o

-- an item is listed, and its users have one need less
waiting_step : (items : List (List ℕ)) (listed counts less users : List ℕ) (old middle new : ℕ → Bool) (item : ℕ) → Waiting items listed counts old
    → old item ≡ true → ((q : ℕ) → middle q ≡ cond (nat_eq q item) false (old q)) → ((q : ℕ) → times q users ≡ times item (list_at items q))
    → length less ≡ length counts → ((q : ℕ) → get_or less q 0 + times q users ≡ get_or counts q 0)
    → ((q : ℕ) → new q ≡ (middle q || (has users q && nat_eq (get_or less q 0) 0))) → Waiting items (listed ++ item ∷ []) less new
waiting_step items listed counts less users old middle new item w r m u l t n =
    let ready : is_ready_at listed items item ≡ true = sym (w.set_is item) ∙ r in
    let absent : has listed item ≡ false = not_listed listed items item ready in
    let no_need : open_needs listed (list_at items item) ≡ 0 = none_open_at listed items item ready in
    let more : List ℕ = listed ++ item ∷ [] in
    let before : ℕ → ℕ = λ q. open_needs listed (list_at items q) in
    let now : ℕ → ℕ = λ q. open_needs more (list_at items q) in
    let push = λ (q : ℕ). open_needs-push listed item (list_at items q) absent in
    let lower : (q : ℕ) → get_or less q 0 ≡ now q = λ q. omega (arith, t q, w.counts_are q, u q, push q) in
    record {
      each = l ∙ w.each;
      counts_are = lower;
      set_is = λ q.
          next_ready (nat_lt q (length items)) (has listed q) (nat_eq q item) (old q) (middle q) (new q) (has users q) (before q) (now q)
          (times item (list_at items q)) (push q) (has_times q users ∙ ap (λ (k : ℕ). not (nat_eq k 0)) (u q)) (w.none_open q)
          (same_item items listed q item no_need) (λ e. ap (times item) (list_beyond items q e))
          (w.set_is q ∙ ready_at_is listed items q) (m q) (n q ∙ ap (λ (k : ℕ). middle q || (has users q && nat_eq k 0)) (lower q))
          ∙ ap (λ (b : Bool). nat_lt q (length items) && (not b && nat_eq (now q) 0)) (sym (has-push listed item q))
          ∙ sym (ready_at_is more items q);
      none_open = λ q h. still_none (has listed q) (nat_eq q item) (before q) (now q) (times item (list_at items q))
          (push q) (w.none_open q) (same_item items listed q item no_need) (sym (has-push listed item q) ∙ h);
    }

same_test : (a b : ℕ) → is_eq (nat_cmp a b) ≡ nat_eq b a
same_test a b = grind (arith, common_steps, nat_tests)

-- the same, as the calls of the loop say it
pub waiting_next : (items : List (List ℕ)) (listed more counts lent less kept users : List ℕ) (old middle new : ℕ → Bool) (item : ℕ)
    → Waiting items listed counts old → old item ≡ true → ((q : ℕ) → times q users ≡ times item (list_at items q)) → more ≡ listed ++ item ∷ []
    → ((q : ℕ) → middle q ≡ cond (is_eq (nat_cmp item q)) false (old q)) → lent ≡ counts → length less ≡ length lent
    → ((q : ℕ) → get_or less q 0 + times q users ≡ get_or lent q 0)
    → ((q : ℕ) → new q ≡ (middle q || (has users q && nat_eq (get_or less q 0) 0))) → kept ≡ less → Waiting items more kept new
waiting_next items listed more counts lent less kept users old middle new item w r u p m e l t n k =
    subst (λ (ns : List ℕ). Waiting items ns kept new) (sym p) (subst (λ (ns : List ℕ). Waiting items (listed ++ item ∷ []) ns new) (sym k)
    (waiting_step items listed counts less users old middle new item w r
    (λ q. m q ∙ ap (λ (b : Bool). cond b false (old q)) (same_test item q)) u (l ∙ ap length e) (λ q. t q ∙ ap (λ (ns : List ℕ). get_or ns q 0) e) n))

any_default : (lists : List (List ℕ)) (i : ℕ) (a b : List ℕ) → i < length lists → get_or lists i a ≡ get_or lists i b
any_default [] i a b h = absurd (omega arith)
any_default (list ∷ lists) zero a b h = refl
any_default (list ∷ lists) (suc i) a b h = any_default lists i a b (omega arith)

-- how often an item's users are named
pub users_are : (items users : List (List ℕ)) (listed counts : List ℕ) (set : ℕ → Bool) (item : ℕ) (seen near : List ℕ) → Waiting items listed counts set
    → set item ≡ true → AreUsers items users → length users ≡ length items → near ≡ get_or users item near → seen ≡ near
    → (q : ℕ) → times q seen ≡ times item (list_at items q)
users_are items users listed counts set item seen near w r are same n s q =
    let within : item < length items = ready_within listed items item (sym (w.set_is item) ∙ r) in
    ap (times q) (s ∙ n ∙ any_default users item near [] (omega arith)) ∙ are item q within

-- each user has as many open needs
pub enough_open : (items : List (List ℕ)) (listed counts lent : List ℕ) (set : ℕ → Bool) (item : ℕ) (users : List ℕ) → Waiting items listed counts set
    → set item ≡ true → ((q : ℕ) → times q users ≡ times item (list_at items q)) → lent ≡ counts → (q : ℕ) → times q users ≤ get_or lent q 0
enough_open items listed counts lent set item users w r u e q =
    let absent : has listed item ≡ false = not_listed listed items item (sym (w.set_is item) ∙ r) in
    let same : get_or lent q 0 ≡ get_or counts q 0 = ap (λ (ns : List ℕ). get_or ns q 0) e in
    omega (arith, u q, w.counts_are q, times_open listed (list_at items q) item absent)

-- fewer items are not listed
pub unlisted_less : (items : List (List ℕ)) (listed counts : List ℕ) (set : ℕ → Bool) (item : ℕ) → Waiting items listed counts set → set item ≡ true
    → unlisted (listed ++ item ∷ []) (length items) < unlisted listed (length items)
unlisted_less items listed counts set item w r =
    let ready : is_ready_at listed items item ≡ true = sym (w.set_is item) ∙ r in
    let h : item < length items = ready_within listed items item ready in
    grind (arith, nat_tests, unlisted-push listed item (length items) (not_listed listed items item ready))

pub order_first : (items : List (List ℕ)) (listed rest : List ℕ) → listed ≡ [] → IsOrder items listed rest → IsOrder items [] (listed ++ rest)
order_first items listed rest e h = subst (λ (l : List ℕ). IsOrder items l rest → IsOrder items [] (l ++ rest)) (sym e) (λ k. k) h

-- the set has nothing below its least key
none_before : (set : ℕ → Bool) (item : ℕ) → ((q : ℕ) → IsTrue (set q) → is_gt (nat_cmp item q) ≡ false) → (j : ℕ) → j < item → set j ≡ false
none_before set item least j h = go (set j) refl
  where
    go : (b : Bool) → set j ≡ b → set j ≡ false
    go true e = let le : item ≤ j = le_from_not_gt item j (least j e) in absurd (omega arith)
    go false e = e

-- what comes behind the listed ones and the least of the set comes behind the listed ones
order_step : (items : List (List ℕ)) (listed counts : List ℕ) (set : ℕ → Bool) (item : ℕ) → Waiting items listed counts set → set item ≡ true
    → ((j : ℕ) → j < item → set j ≡ false) → ((rest : List ℕ) → IsOrder items listed rest → IsOrder items [] (listed ++ rest))
    → (rest : List ℕ) → IsOrder items (listed ++ item ∷ []) rest → IsOrder items [] ((listed ++ item ∷ []) ++ rest)
order_step items listed counts set item w r none k rest h =
    let next : ready listed items ≡ Some item = ready_some listed items item (sym (w.set_is item) ∙ r) (λ j below. sym (w.set_is j) ∙ none j below) in
    rw append_assoc (k (item ∷ rest) (next, h))

pub order_next : (items : List (List ℕ)) (listed more counts : List ℕ) (set : ℕ → Bool) (item : ℕ) → Waiting items listed counts set → set item ≡ true
    → ((q : ℕ) → IsTrue (set q) → is_gt (nat_cmp item q) ≡ false) → more ≡ listed ++ item ∷ []
    → ((rest : List ℕ) → IsOrder items listed rest → IsOrder items [] (listed ++ rest))
    → (rest : List ℕ) → IsOrder items more rest → IsOrder items [] (more ++ rest)
order_next items listed more counts set item w r least p k =
    subst (λ (ns : List ℕ). (rest : List ℕ) → IsOrder items ns rest → IsOrder items [] (ns ++ rest)) (sym p)
    (order_step items listed counts set item w r (none_before set item least) k)

pub none_in : (keys : List ℕ) (test : ℕ → Bool) → (0 < length keys → false ≡ true) → list_any test keys ≡ false
none_in [] test h = refl
none_in (key ∷ keys) test h = let e : false ≡ true = h (omega arith) in cc

-- where the set is empty nothing comes next
pub order_ends : (items : List (List ℕ)) (listed counts : List ℕ) (set : ℕ → Bool) → Waiting items listed counts set → ((j : ℕ) → set j ≡ false)
    → ((rest : List ℕ) → IsOrder items listed rest → IsOrder items [] (listed ++ rest)) → IsOrder items [] listed
order_ends items listed counts set w none k = rw append-nil at (k [] (ready_none listed items (λ j. sym (w.set_is j) ∙ none j)))

must : (item n k : ℕ) (was : Bool) → (nat_lt item n && (not was && nat_eq k 0)) ≡ false → item < n → k ≡ 0 → was ≡ true
must item n k true e h z = refl
must item n k false e h z = grind (arith, nat_tests)

-- where the set is empty an item is listed if its count is 0
is_listed_at : (items : List (List ℕ)) (listed counts : List ℕ) (set : ℕ → Bool) (item : ℕ) → Waiting items listed counts set → set item ≡ false
    → item < length items → get_or counts item 0 ≡ 0 → has listed item ≡ true
is_listed_at items listed counts set item w none h z =
    must item (length items) (open_needs listed (list_at items item)) (has listed item)
    (sym (ready_at_is listed items item) ∙ sym (w.set_is item) ∙ none) h (sym (w.counts_are item) ∙ z)

-- and not listed otherwise
not_listed_at : (items : List (List ℕ)) (listed counts : List ℕ) (set : ℕ → Bool) (item : ℕ) → Waiting items listed counts set → 0 < get_or counts item 0
    → has listed item ≡ false
not_listed_at items listed counts set item w h = go (has listed item) refl
  where
    go : (b : Bool) → has listed item ≡ b → has listed item ≡ false
    go true e = absurd (omega (arith, w.counts_are item, w.none_open item e))
    go false e = e

pub left_out_is : (items : List (List ℕ)) (listed counts : List ℕ) (set : ℕ → Bool) (found : Option ℕ) → Waiting items listed counts set
    → ((j : ℕ) → set j ≡ false) → IsFirstOpen counts found → IsLeftOut listed (length items) found
left_out_is items listed counts set None w none first = λ item h. is_listed_at items listed counts set item w (none item) h (first item)
left_out_is items listed counts set (Some found) w none first =
    let within : found < length items = omega (arith, first.0, w.each) in (
      within,
      not_listed_at items listed counts set found w first.1,
      λ before h. is_listed_at items listed counts set before w (none before) (omega arith) (first.2 before h),
    )
