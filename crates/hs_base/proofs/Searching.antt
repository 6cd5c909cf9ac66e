-- A search for a name among the files of a shelf, and a file that takes the place of another.
use Rattle.std.proofs.Common.{arith, ◌≡◌, ℕ, ◌+◌, ◌<◌, List, [], ◌∷◌, ◌++◌, Bool, true, false, zero, suc, drop, get_or, set, length, string_bytes, bytes_eq, if◌then◌else◌, Option, Some, None, refl, sym, ap, ◌∙◌, subst}
use Rattle.std.proofs.lemmas.Bool.{false_from_ne_true}
use Rattle.std.proofs.lemmas.List.{drop_more}
use Rattle.std.proofs.lemmas.Slice.Eq.{bytes_eq-Decides}
use Rattle.hs_base.specs.Contents.{StandsAt, bytes_under}
use Rattle.hs_base.specs.Shelves.{entries_of}
use Rattle.hs_base.specs.declared.shelf.Held.{Held}

-- what is sought is among the rest, and at the same place
abbrev pub Searched : List ℕ → List Held → ℕ → Type 0
Searched name held at =
    (bytes_under name (entries_of held) ≡ bytes_under name (entries_of (drop at held)))
    × ((k : ℕ) → StandsAt name (entries_of (drop at held)) k → StandsAt name (entries_of held) (at + k))

rest_of : (held : List Held) (at : ℕ) (h : Held) → at < length held → h ≡ get_or held at h → drop at held ≡ h ∷ drop (at + 1) held
rest_of held at h lt is = drop_more held at h lt ∙ ap (λ x. x ∷ drop (at + 1) held) (sym is)

pub searched_here : (name : List ℕ) (held : List Held) (at : ℕ) (h : Held) → at < length held → h ≡ get_or held at h
    → bytes_eq (string_bytes h.name) name ≡ true → Searched name held at → StandsAt name (entries_of held) at
searched_here name held at h lt is equals (_, stands) =
    let here : StandsAt name (entries_of (drop at held)) 0 = subst (λ l. StandsAt name (entries_of l) 0) (sym (rest_of held at h lt is)) equals in
    subst (StandsAt name (entries_of held)) (let p : at + 0 ≡ at = omega arith in p) (stands 0 here)

pub searched_next : (name : List ℕ) (held : List Held) (at : ℕ) (h : Held) → at < length held → h ≡ get_or held at h
    → bytes_eq (string_bytes h.name) name ≡ false → Searched name held at → Searched name held (at + 1)
searched_next name held at h lt is differs (under, stands) =
    let split = rest_of held at h lt is in (
      under
          ∙ ap (λ l. bytes_under name (entries_of l)) split
          ∙ ap (λ b. if b then Some h.bytes.items else bytes_under name (entries_of (drop (at + 1) held))) differs,
      λ k s. subst (StandsAt name (entries_of held)) (let p : at + suc k ≡ at + 1 + k = omega arith in p)
          (stands (suc k) (subst (λ l. StandsAt name (entries_of l) (suc k)) (sym split) (differs, s))),
    )

pub stands_within : (name : List ℕ) (held : List Held) (at : ℕ) → StandsAt name (entries_of held) at → at < length held
stands_within name [] at s = absurd s
stands_within name (x ∷ xs) zero s = omega arith
stands_within name (x ∷ xs) (suc at) (differs, s) = omega (arith, stands_within name xs at s)

pub stands_under : (name : List ℕ) (held : List Held) (at : ℕ) (h : Held) → StandsAt name (entries_of held) at → h ≡ get_or held at h
    → bytes_under name (entries_of held) ≡ Some h.bytes.items
stands_under name [] at h s is = absurd s
stands_under name (x ∷ xs) zero h s is =
    ap (λ b. if b then Some x.bytes.items else bytes_under name (entries_of xs)) s ∙ ap (λ y. Some y.bytes.items) (sym is)
stands_under name (x ∷ xs) (suc at) h (differs, s) is =
    ap (λ b. if b then Some x.bytes.items else bytes_under name (entries_of xs)) differs ∙ stands_under name xs at h s is

swapped : {A : Type 0} (p q : Bool) (x y z : A) → (p ≡ true → q ≡ false) → (if p then x else (if q then y else z)) ≡ (if q then y else (if p then x else z))
swapped true true x y z h = absurd (cc (h refl))
swapped true false x y z h = refl
swapped false true x y z h = refl
swapped false false x y z h = refl

shadowed : {A : Type 0} (p : Bool) (x y z : A) → (if p then x else z) ≡ (if p then x else (if p then y else z))
shadowed true x y z = refl
shadowed false x y z = refl

same_name : (a b : List ℕ) → bytes_eq a b ≡ true → a ≡ b
same_name a b h = (bytes_eq-Decides a b).0 h

another : (a name other : List ℕ) → bytes_eq a name ≡ false → bytes_eq a other ≡ true → bytes_eq name other ≡ false
another a name other differs equals =
    false_from_ne_true (bytes_eq name other)
    (λ found. cc (sym differs ∙ (bytes_eq-Decides a name).1 (same_name a other equals ∙ sym (same_name name other found))))

pub replaced : (name : List ℕ) (held : List Held) (at : ℕ) (h new : Held) → StandsAt name (entries_of held) at → h ≡ get_or held at h → string_bytes new.name ≡ string_bytes h.name
    → (other : List ℕ)
    → bytes_under other (entries_of (set held at new)) ≡ (if bytes_eq name other then Some new.bytes.items else bytes_under other (entries_of held))
replaced name [] at h new s is same other = absurd s
replaced name (x ∷ xs) zero h new s is same other =
    let named : string_bytes x.name ≡ name = same_name (string_bytes x.name) name s in
    let renamed : string_bytes new.name ≡ name = same ∙ ap (λ y. string_bytes y.name) is ∙ named in
    ap (λ b. if bytes_eq b other then Some new.bytes.items else bytes_under other (entries_of xs)) renamed
    ∙ shadowed (bytes_eq name other) (Some new.bytes.items) (Some x.bytes.items) (bytes_under other (entries_of xs))
    ∙ ap (λ b. if bytes_eq name other then Some new.bytes.items else (if bytes_eq b other then Some x.bytes.items else bytes_under other (entries_of xs))) (sym named)
replaced name (x ∷ xs) (suc at) h new (differs, s) is same other =
    ap (λ r. if bytes_eq (string_bytes x.name) other then Some x.bytes.items else r) (replaced name xs at h new s is same other)
    ∙ swapped (bytes_eq (string_bytes x.name) other) (bytes_eq name other) (Some x.bytes.items) (Some new.bytes.items) (bytes_under other (entries_of xs))
    (another (string_bytes x.name) name other differs)

nowhere : {A : Type 0} (p : Bool) (x : A) (r : Option A) → (if p then Some x else r) ≡ None → (p ≡ false) × (r ≡ None)
nowhere true x r h = absurd (cc h)
nowhere false x r h = (refl, h)

pub added_last : (name : List ℕ) (held : List Held) (new : Held) → string_bytes new.name ≡ name → bytes_under name (entries_of held) ≡ None
    → (other : List ℕ)
    → bytes_under other (entries_of (held ++ new ∷ [])) ≡ (if bytes_eq name other then Some new.bytes.items else bytes_under other (entries_of held))
added_last name [] new is none other = ap (λ b. if bytes_eq b other then Some new.bytes.items else None) is
added_last name (x ∷ xs) new is none other =
    let (differs, rest) = nowhere (bytes_eq (string_bytes x.name) name) x.bytes.items (bytes_under name (entries_of xs)) none in
    ap (λ r. if bytes_eq (string_bytes x.name) other then Some x.bytes.items else r) (added_last name xs new is rest other)
    ∙ swapped (bytes_eq (string_bytes x.name) other) (bytes_eq name other) (Some x.bytes.items) (Some new.bytes.items) (bytes_under other (entries_of xs))
    (another (string_bytes x.name) name other differs)
