-- The order has each item once, so it is no longer than the file has items; and these are no more than 32 bits number.
use Rattle.std.proofs.Common.{ℕ, zero, suc, ◌+◌, ◌-◌, ◌≡◌, ◌<◌, ◌≤◌, refl, sym, ◌∙◌, ap, Bool, true, false, cond, not, ◌&&◌, ◌||◌, nat_eq, List, [], ◌∷◌, ◌++◌, map, length, slice_get, Some, arith}
use Rattle.std.specs.List.{list_all}
use Rattle.std.proofs.lemmas.List.{length-map}
use Rattle.std.proofs.lemmas.Bool.Decides.{nat_tests}
use Rattle.hs_syntax.specs.declared.file.File.{File}
use Rattle.hs_syntax.specs.declared.item.Item.{Item}
use Rattle.hs_limits.specs.Nested.{Nested}
use Rattle.hs_limits.specs.Nodes.{outline_of_items}
use Rattle.hs_order.specs.Order.{has, is_ready, ready, ready_from, IsOrder}
use Rattle.hs_resolver.specs.Parts.{Seen}
use Rattle.hs_resolver.specs.Names.{is_function, names_by, items_behind, names_of}
use Rattle.hs_resolver.specs.Order.{items_of, needs}
use Rattle.hs_items.specs.Walk.{EachOnce}

-- ---- lists of numbers

same_number : (x y : ℕ) → nat_eq x y ≡ true → x ≡ y
same_number x y e = grind (arith, nat_tests)

is_itself : (x : ℕ) → nat_eq x x ≡ true
is_itself x = grind (arith, nat_tests)

or_true : (b : Bool) → (b || true) ≡ true
or_true true = refl
or_true false = refl

or_step : (a b c : Bool) → (b ≡ true → c ≡ true) → (a || b) ≡ true → (a || c) ≡ true
or_step true b c f h = refl
or_step false b c f h = f h

has_left : (listed more : List ℕ) (x : ℕ) → has listed x ≡ true → has (listed ++ more) x ≡ true
has_left [] more x h = cc
has_left (y ∷ listed) more x h = or_step (nat_eq x y) (has listed x) (has (listed ++ more) x) (has_left listed more x) h

has_last : (listed : List ℕ) (x : ℕ) → has (listed ++ x ∷ []) x ≡ true
has_last [] x = ap (λ (b : Bool). b || false) (is_itself x)
has_last (y ∷ listed) x = ap (λ (b : Bool). nat_eq x y || b) (has_last listed x) ∙ or_true (nat_eq x y)

has_others : (listed : List ℕ) (i x : ℕ) → nat_eq x i ≡ false → has (listed ++ i ∷ []) x ≡ has listed x
has_others [] i x e = ap (λ (b : Bool). b || false) e
has_others (y ∷ listed) i x e = ap (λ (b : Bool). nat_eq x y || b) (has_others listed i x e)

-- ---- what is ready

lacks : (a b : Bool) → (not a && b) ≡ true → a ≡ false
lacks true b h = cc
lacks false b h = refl

ready_step : (listed : List ℕ) (n k : ℕ) (needs : List ℕ) (items : List (List ℕ)) → (ready_from listed (suc n) items ≡ Some k → (has listed k ≡ false) × (k < suc n + length items))
    → (b : Bool) → is_ready listed n needs ≡ b → cond b (Some n) (ready_from listed (suc n) items) ≡ Some k → (has listed k ≡ false) × (k < n + suc (length items))
ready_step listed n k needs items f true r e =
    let same : k ≡ n = cc in
    (ap (has listed) same ∙ lacks (has listed n) (list_all (has listed) needs) r, omega (arith, same))
ready_step listed n k needs items f false r e = let i = f e in (i.0, omega (arith, i.1))

ready_is : (listed : List ℕ) (n : ℕ) (items : List (List ℕ)) (k : ℕ) → ready_from listed n items ≡ Some k → (has listed k ≡ false) × (k < n + length items)
ready_is listed n [] k e = absurd cc
ready_is listed n (needs ∷ items) k e = ready_step listed n k needs items (ready_is listed (suc n) items k) (is_ready listed n needs) refl e

differ : (listed : List ℕ) (i x : ℕ) → has listed i ≡ false → has listed x ≡ true → (b : Bool) → nat_eq x i ≡ b → b ≡ false
differ listed i x h k true e = let same = same_number x i e in let other : has listed x ≡ false = ap (has listed) same ∙ h in cc
differ listed i x h k false e = refl

module _ (items : List (List ℕ)) where
  not_again : (listed rest : List ℕ) (x : ℕ) → IsOrder items listed rest → has listed x ≡ true → has rest x ≡ false
  not_again listed [] x o h = refl
  not_again listed (i ∷ rest) x o h =
      let new = (ready_is listed 0 items i o.0).0 in
      ap (λ (b : Bool). b || has rest x) (differ listed i x new h (nat_eq x i) refl)
      ∙ not_again (listed ++ i ∷ []) rest x o.1 (has_left listed (i ∷ []) x h)

  pub once_from : (listed rest : List ℕ) → IsOrder items listed rest → EachOnce rest
  once_from listed [] o = tt {0}
  once_from listed (i ∷ rest) o = (not_again (listed ++ i ∷ []) rest i o.1 (has_last listed i), once_from (listed ++ i ∷ []) rest o.1)

-- how many of the first so many numbers a list has
counted : List ℕ → ℕ → ℕ
counted listed zero = 0
counted listed (suc n) = cond (has listed n) 1 0 + counted listed n

one_most : (b : Bool) → cond b 1 0 ≤ 1
one_most true = omega arith
one_most false = omega arith

counted_most : (listed : List ℕ) (n : ℕ) → counted listed n ≤ n
unfolding counted
counted_most listed zero = omega arith
counted_most listed (suc n) = let i = counted_most listed n in let j = one_most (has listed n) in omega (arith, i, j)

counted_same : (listed : List ℕ) (i n : ℕ) → n ≤ i → counted (listed ++ i ∷ []) n ≡ counted listed n
unfolding counted
counted_same listed i zero h = refl
counted_same listed i (suc n) h =
    let e : has (listed ++ i ∷ []) n ≡ has listed n = has_others listed i n (grind (arith, nat_tests)) in
    let f = counted_same listed i n (omega (arith, h)) in
    ap (λ (b : Bool). cond b 1 0 + counted (listed ++ i ∷ []) n) e ∙ ap (λ (k : ℕ). cond (has listed n) 1 0 + k) f

counted_step : (listed : List ℕ) (i n : ℕ) → i < suc n → has listed i ≡ false → (i < n → counted (listed ++ i ∷ []) n ≡ suc (counted listed n))
    → (b : Bool) → nat_eq n i ≡ b → cond (has (listed ++ i ∷ []) n) 1 0 + counted (listed ++ i ∷ []) n ≡ suc (cond (has listed n) 1 0 + counted listed n)
counted_step listed i n h l f true e =
    let same = same_number n i e in
    let here : has (listed ++ i ∷ []) n ≡ true = ap (has (listed ++ i ∷ [])) same ∙ has_last listed i in
    let before : has listed n ≡ false = ap (has listed) same ∙ l in
    let rest = counted_same listed i n (omega (arith, same)) in
    rw (here, before, rest) (omega arith)
counted_step listed i n h l f false e =
    let here = has_others listed i n e in
    let less : i < n = grind (arith, nat_tests) in
    let rest = f less in
    rw (here, rest) (omega arith)

counted_more : (listed : List ℕ) (i n : ℕ) → i < n → has listed i ≡ false → counted (listed ++ i ∷ []) n ≡ suc (counted listed n)
unfolding counted
counted_more listed i zero h l = absurd (omega (arith, h))
counted_more listed i (suc n) h l = counted_step listed i n h l (λ k. counted_more listed i n k l) (nat_eq n i) refl

all_counted : (items : List (List ℕ)) (listed rest : List ℕ) → IsOrder items listed rest → counted listed (length items) + length rest ≤ length items
all_counted items listed [] o = let i = counted_most listed (length items) in omega (arith, i)
all_counted items listed (k ∷ rest) o =
    let new = ready_is listed 0 items k o.0 in
    let more = counted_more listed k (length items) (omega (arith, new.1)) new.0 in
    let i = all_counted items (listed ++ k ∷ []) rest o.1 in
    omega (arith, more, i)

pub few_of : (items : List (List ℕ)) (order : List ℕ) → IsOrder items [] order → length order ≤ length items
few_of items order o = let i = all_counted items [] order o in omega (arith, i)

-- ---- files

behind_count : (file : File) (is : List Item) (functions : ℕ) (before : List (List ℕ)) → length (items_behind file is functions before) ≡ length is
behind_count file [] functions before = refl
behind_count file (i ∷ is) functions before = ap suc (behind_count file is (cond (is_function i.kind) (suc functions) functions) (before ++ names_by file i.kind))

pub needs_count : (file : File) → length (needs file) ≡ length file.items
needs_count file = length-map (names_of file) (λ (a : Seen). items_of a.behind.uses) ∙ behind_count file file.items 0 []

-- the last of items that have a byte each, one behind the other
pub count_last : (is : List Item) (last : Item) (low high : ℕ) → Nested (outline_of_items is) low high → slice_get is (length is - 1) ≡ Some last → low + length is ≤ last.span.end
count_last [] last low high n e = absurd cc
count_last (i ∷ []) last low high n e =
    let same : last ≡ i = cc in
    let end : last.span.end ≡ i.span.end = ap (λ (i : Item). i.span.end) same in
    omega (arith, n.1.0, n.1.1, end)
count_last (i ∷ (j ∷ js)) last low high n e =
    let f : suc (length js) - 1 ≡ length js = omega arith in
    let g : suc (suc (length js)) - 1 ≡ suc (length js) = omega arith in
    let h : slice_get (j ∷ js) (suc (length js) - 1) ≡ Some last = ap (slice_get (j ∷ js)) f ∙ sym (ap (slice_get (i ∷ (j ∷ js))) g) ∙ e in
    let k = count_last (j ∷ js) last n.0 high n.2 h in
    omega (arith, n.1.0, n.1.1, n.1.2, k)
