-- What an order says of each item.
use Rattle.std.proofs.Common.{◌≡◌, ℕ, zero, suc, ◌+◌, ◌<◌, ◌++◌, ◌&&◌, Bool, true, false, not, cond, List, [], ◌∷◌, length, Some, None, refl, ap, subst, sym, ◌∙◌, arith, append_assoc, append-nil}
use Rattle.std.specs.List.{list_all}
use Rattle.hs_order.specs.Order.{has, is_ready, ready_from, ready, IsOrder, StandBehindNeeds, OthersLackNeeds}
use Rattle.hs_order.specs.Counts.{list_at}

-- a ready item among those from this number on, with its place there
record Found (listed : List ℕ) (items : List (List ℕ)) (start item : ℕ) : Type 0 where
  at : ℕ
  number : item ≡ start + at
  within : at < length items
  ready : is_ready listed item (list_at items at) ≡ true

found_step : (listed needs : List ℕ) (items : List (List ℕ)) (start item : ℕ) (b : Bool) → is_ready listed start needs ≡ b → cond b (Some start) (ready_from listed (suc start) items) ≡ Some item
    → (ready_from listed (suc start) items ≡ Some item → Found listed items (suc start) item) → Found listed (needs ∷ items) start item
found_step listed needs items start item true r e rest =
    let same : start ≡ item = cc in
    record { at = 0; number = omega arith; within = omega arith; ready = subst (λ (k : ℕ). is_ready listed k needs ≡ true) same r }
found_step listed needs items start item false r e rest =
    let found = rest e in
    record { at = suc found.at; number = omega arith; within = omega arith; ready = found.ready }

found_in : (listed : List ℕ) (items : List (List ℕ)) (start item : ℕ) → ready_from listed start items ≡ Some item → Found listed items start item
found_in listed [] start item e = absurd cc
found_in listed (needs ∷ items) start item e = found_step listed needs items start item (is_ready listed start needs) refl e (found_in listed items (suc start) item)

none_step : (listed needs : List ℕ) (items : List (List ℕ)) (start : ℕ) (b : Bool) → is_ready listed start needs ≡ b → cond b (Some start) (ready_from listed (suc start) items) ≡ None
    → (is_ready listed start needs ≡ false) × (ready_from listed (suc start) items ≡ None)
none_step listed needs items start true r e = absurd cc
none_step listed needs items start false r e = (r, e)

none_of : (listed : List ℕ) (items : List (List ℕ)) (start at item : ℕ) → ready_from listed start items ≡ None → item ≡ start + at → at < length items → is_ready listed item (list_at items at) ≡ false
none_of listed [] start at item e n h = absurd (omega arith)
none_of listed (needs ∷ items) start zero item e n h =
    let same : start ≡ item = omega arith in
    subst (λ (k : ℕ). is_ready listed k needs ≡ false) same (none_step listed needs items start (is_ready listed start needs) refl e).0
none_of listed (needs ∷ items) start (suc at) item e n h =
    none_of listed items (suc start) at item (none_step listed needs items start (is_ready listed start needs) refl e).1 (omega arith) (omega arith)

-- each item of an order came next behind those before it
came_next : (items : List (List ℕ)) (listed order before after : List ℕ) (item : ℕ) → IsOrder items listed order → order ≡ before ++ item ∷ after → ready (listed ++ before) items ≡ Some item
came_next items listed [] [] after item p e = absurd cc
came_next items listed [] (x ∷ before) after item p e = absurd cc
came_next items listed (y ∷ order) [] after item p e =
    let same : y ≡ item = cc in
    rw append-nil (p.0 ∙ ap Some same)
came_next items listed (y ∷ order) (x ∷ before) after item p e =
    let same : y ≡ x = cc in
    let rest : order ≡ before ++ item ∷ after = cc in
    let next : ready ((listed ++ y ∷ []) ++ before) items ≡ Some item = came_next items (listed ++ y ∷ []) order before after item p.1 rest in
    subst (λ (k : ℕ). ready (listed ++ k ∷ before) items ≡ Some item) same (rw append_assoc at next)

none_next : (items : List (List ℕ)) (listed order : List ℕ) → IsOrder items listed order → ready (listed ++ order) items ≡ None
none_next items listed [] p = rw append-nil p
none_next items listed (y ∷ order) p = rw append_assoc at (none_next items (listed ++ y ∷ []) order p.1)

both : (was all : Bool) → (not was && all) ≡ true → (was ≡ false) × (all ≡ true)
both true all e = absurd cc
both false all e = (refl, e)

pub stand_behind : (items : List (List ℕ)) (order : List ℕ) → IsOrder items [] order → StandBehindNeeds items order
stand_behind items order p before after item e =
    let found = found_in before items 0 item (came_next items [] order before after item p e) in
    let same : found.at ≡ item = omega arith in
    let parts = both (has before item) (list_all (has before) (list_at items found.at)) found.ready in
    (omega arith, parts.0, subst (λ (k : ℕ). list_all (has before) (list_at items k) ≡ true) same parts.1)

pub others_lack : (items : List (List ℕ)) (order : List ℕ) → IsOrder items [] order → OthersLackNeeds items order
others_lack items order p item h e =
    ap (λ (b : Bool). not b && list_all (has order) (list_at items item)) (sym e) ∙ none_of order items 0 item item (none_next items [] order p) (omega arith) h
