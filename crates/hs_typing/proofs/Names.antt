-- What names stand for, where they stand one behind the other.
use Rattle.std.proofs.Common.{ℕ, zero, suc, ◌+◌, ◌≡◌, ◌<◌, ◌≤◌, ◌⊎◌, inl, inr, refl, sym, ◌∙◌, ap, ap₂, Bool, true, false, cond, ◌&&◌, ◌||◌, leb, List, [], ◌∷◌, length, drop, get_or, slice_get, Option, Some, None, arith}
use Rattle.std.proofs.lemmas.Bool.{cases_lt}
use Rattle.std.proofs.lemmas.Bool.Decides.{nat_tests}
use Rattle.std.proofs.lemmas.Option.{same_Some, slice_get_within, slice_get-get_or}
use Rattle.hs_syntax.specs.declared.span.Span.{Span}
use Rattle.hs_resolver.specs.declared.known.Use.{Use}
use Rattle.hs_resolver.specs.InOrder.{InOrder, spans_of}
use Rattle.hs_typing.specs.Locals.{is_span, inside, referent_at, stands_for, occurs}

-- names have a byte at least, and stand one behind the other
record Ordered (us : List Use) : Type 0 where
  proper : (k : ℕ) (u : Use) → slice_get us k ≡ Some u → u.name.start < u.name.end
  behind : (j k : ℕ) (u z : Use) → j < k → slice_get us j ≡ Some u → slice_get us k ≡ Some z → u.name.end ≤ z.name.start

span_there : (us : List Use) (k : ℕ) (u : Use) → slice_get us k ≡ Some u → slice_get (spans_of us) k ≡ Some u.name
span_there [] k u g = absurd cc
span_there (z ∷ us) zero u g = ap (λ (x : Use). Some x.name) (same_Some z u g)
span_there (z ∷ us) (suc k) u g = span_there us k u g

ordered : (us : List Use) → InOrder (spans_of us) → Ordered us
ordered us order = record {
  proper = λ k u g. order.proper k u.name (span_there us k u g);
  behind = λ j k u z l g h. order.behind j k u.name z.name l (span_there us j u g) (span_there us k z h);
}

-- ---- halves

module _ (us : List Use) (start middle : ℕ) (d : Use) (order : InOrder (spans_of us)) (l : middle < length us) where
  at_middle : slice_get us middle ≡ Some (get_or us middle d)
  at_middle = slice_get-get_or us middle d l

  same_start : (k : ℕ) (u : Use) → k ≡ middle → slice_get us k ≡ Some u → u.name.start ≡ (get_or us middle d).name.start
  same_start k u e g = ap (λ (x : Use). x.name.start) (same_Some u (get_or us middle d) (sym g ∙ ap (slice_get us) e ∙ at_middle))

  -- where the middle one begins early enough, so do all before it
  pub all_before : (get_or us middle d).name.start < start → (k : ℕ) (u : Use) → k < middle + 1 → slice_get us k ≡ Some u → u.name.start < start
  all_before h k u m g = by (cases_lt k middle)
    where
      by : (k < middle) ⊎ (middle ≤ k) → u.name.start < start
      by (inl n) = omega (arith, (ordered us order).proper k u g, (ordered us order).behind k middle u (get_or us middle d) n g at_middle)
      by (inr n) = omega (arith, same_start k u (omega arith) g)

  -- and where it does not, neither does one behind it
  pub all_behind : start ≤ (get_or us middle d).name.start → (k : ℕ) (u : Use) → middle ≤ k → slice_get us k ≡ Some u → start ≤ u.name.start
  all_behind h k u m g = by (cases_lt middle k)
    where
      by : (middle < k) ⊎ (k ≤ middle) → start ≤ u.name.start
      by (inl n) = omega (arith, (ordered us order).proper middle (get_or us middle d) at_middle, (ordered us order).behind middle k (get_or us middle d) u n at_middle g)
      by (inr n) = omega (arith, same_start k u (omega arith) g)

-- ---- what a name stands for

-- names before a place begin earlier, and those from it on do not
abbrev Before : List Use → ℕ → ℕ → Type 0
Before us place start = (k : ℕ) (u : Use) → k < place → slice_get us k ≡ Some u → u.name.start < start

abbrev Behind : List Use → ℕ → ℕ → Type 0
Behind us place start = (k : ℕ) (u : Use) → place ≤ k → slice_get us k ≡ Some u → start ≤ u.name.start

span_same : (s : Span) → is_span s s ≡ true
span_same s = grind (arith, nat_tests)

span_other : (s z : Span) → (s.start ≡ z.start → ⊥) → is_span s z ≡ false
span_other s z h = grind (arith, nat_tests)

passed : (n : Span) (u : Use) (us : List Use) → is_span n u.name ≡ false → referent_at (u ∷ us) n ≡ referent_at us n
passed n u us h = ap (λ (b : Bool). cond b (Some u.referent) (referent_at us n)) h

reached : (n : Span) (u : Use) (us : List Use) → is_span n u.name ≡ true → referent_at (u ∷ us) n ≡ Some u.referent
reached n u us h = ap (λ (b : Bool). cond b (Some u.referent) (referent_at us n)) h

-- the first name that does not begin before this one is it
pub referent_found : (us : List Use) (n : Span) (place : ℕ) (u : Use) → Before us place n.start → slice_get us place ≡ Some u → u.name ≡ n → referent_at us n ≡ Some u.referent
referent_found [] n place u before at is = absurd cc
referent_found (z ∷ us) n zero u before at is =
    let first : z ≡ u = same_Some z u at in
    reached n z us (ap (is_span n) (ap (λ (x : Use). x.name) first ∙ is) ∙ span_same n) ∙ ap (λ (x : Use). Some x.referent) first
referent_found (z ∷ us) n (suc place) u before at is =
    passed n z us (span_other n z.name (λ e. omega (arith, before 0 z (omega arith) refl))) ∙ referent_found us n place u (λ k v l g. before (suc k) v (omega arith) g) at is

-- none has these bytes
referent_none : (us : List Use) (n : Span) → ((k : ℕ) (u : Use) → slice_get us k ≡ Some u → is_span n u.name ≡ false) → referent_at us n ≡ None
referent_none [] n h = refl
referent_none (u ∷ us) n h = passed n u us (h 0 u refl) ∙ referent_none us n (λ k v g. h (suc k) v g)

span_is : (s z : Span) → s.start ≡ z.start → s.end ≡ z.end → s ≡ z
span_is s z p q = ap₂ (λ (a b : ℕ). record { start = a; end = b }) p q

parts_same : (s z : Span) → is_span s z ≡ true → (s.start ≡ z.start) × (s.end ≡ z.end)
parts_same s z h = (grind (arith, nat_tests), grind (arith, nat_tests))

span_not : (s z : Span) → (z ≡ s → ⊥) → is_span s z ≡ false
span_not s z h = go (is_span s z) refl
  where
    go : (b : Bool) → is_span s z ≡ b → is_span s z ≡ false
    go false e = e
    go true e = absurd (h (sym (span_is s z (parts_same s z e).0 (parts_same s z e).1)))

module _ (us : List Use) (n : Span) (place : ℕ) (order : InOrder (spans_of us)) (before : Before us place n.start) (behind : Behind us place n.start) where
  later : (k : ℕ) (u : Use) → place < k → slice_get us k ≡ Some u → (o : Option Use) → slice_get us place ≡ o → n.start < u.name.start
  later k u l g None h = absurd (cc (h, slice_get-get_or us place u (omega (arith, slice_get_within us k u g))))
  later k u l g (Some one) h = omega (arith, behind place one (omega arith) h, (ordered us order).proper place one h, (ordered us order).behind place k one u l h g)

  not_at : ((u : Use) → slice_get us place ≡ Some u → u.name ≡ n → ⊥) → (k : ℕ) (u : Use) → slice_get us k ≡ Some u → (k < place) ⊎ (place ≤ k) → (place < k) ⊎ (k ≤ place) → is_span n u.name ≡ false
  not_at other k u g (inl l) c = span_other n u.name (λ e. omega (arith, before k u l g))
  not_at other k u g (inr l) (inl m) = span_other n u.name (λ e. omega (arith, later k u m g (slice_get us place) refl))
  not_at other k u g (inr l) (inr m) = let e : place ≡ k = omega arith in span_not n u.name (other u (ap (slice_get us) e ∙ g))

  past : ((u : Use) → slice_get us place ≡ Some u → u.name ≡ n → ⊥) → referent_at us n ≡ None
  past other = referent_none us n (λ k u g. not_at other k u g (cases_lt k place) (cases_lt place k))

  -- the first name that does not begin before this one is another
  pub referent_other : (u : Use) → slice_get us place ≡ Some u → (u.name ≡ n → ⊥) → referent_at us n ≡ None
  referent_other u at other = past (λ v g e. other (ap (λ (x : Use). x.name) (same_Some u v (sym at ∙ g)) ∙ e))

  -- there is none
  pub referent_past : slice_get us place ≡ None → referent_at us n ≡ None
  referent_past at = past (λ v g e. cc (at, g))

-- ---- names inside bytes

module _ (number : ℕ) (whole : Span) where
  abbrev is_here : Use → Bool
  is_here u = inside u.name whole && stands_for number u.referent

  not_before : (u : Use) → u.name.start < whole.start → is_here u ≡ false
  not_before u h = ap (λ (b : Bool). (b && leb u.name.end whole.end) && stands_for number u.referent) early
    where
      early : leb whole.start u.name.start ≡ false
      early = grind (arith, nat_tests)

  and_false : (b : Bool) → (b && false) ≡ false
  and_false true = refl
  and_false false = refl

  not_behind : (u : Use) → whole.end < u.name.end → is_here u ≡ false
  not_behind u h = ap (λ (b : Bool). (leb whole.start u.name.start && b) && stands_for number u.referent) late ∙ ap (λ (b : Bool). b && stands_for number u.referent) (and_false (leb whole.start u.name.start))
    where
      late : leb u.name.end whole.end ≡ false
      late = grind (arith, nat_tests)

  skip : (u : Use) (us : List Use) → is_here u ≡ false → occurs (u ∷ us) number whole ≡ occurs us number whole
  skip u us h = ap (λ (b : Bool). b || occurs us number whole) h

  -- names that begin before the bytes are not inside
  pub skipped : (us : List Use) (first : ℕ) → Before us first whole.start → occurs us number whole ≡ occurs (drop first us) number whole
  skipped us zero before = refl
  skipped [] (suc first) before = refl
  skipped (u ∷ us) (suc first) before = skip u us (not_before u (before 0 u (omega arith) refl)) ∙ skipped us first (λ k v l g. before (suc k) v (omega arith) g)

  none_here : (us : List Use) → ((k : ℕ) (u : Use) → slice_get us k ≡ Some u → whole.end < u.name.end) → occurs us number whole ≡ false
  none_here [] h = refl
  none_here (u ∷ us) h = skip u us (not_behind u (h 0 u refl)) ∙ none_here us (λ k v g. h (suc k) v g)

  dropped : (us : List Use) (place k : ℕ) → slice_get (drop place us) k ≡ slice_get us (place + k)
  dropped us zero k = let e : k ≡ zero + k = omega arith in ap (slice_get us) e
  dropped [] (suc place) k = refl
  dropped (u ∷ us) (suc place) k = let e : suc (place + k) ≡ suc place + k = omega arith in dropped us place k ∙ ap (slice_get (u ∷ us)) e

  module _ (us : List Use) (place : ℕ) (d : Use) (order : InOrder (spans_of us)) (l : place < length us) (h : whole.end ≤ (get_or us place d).name.start) where
    far : (k : ℕ) (u : Use) → slice_get us (place + k) ≡ Some u → whole.end < u.name.end
    far k u e =
        omega (arith, all_behind us whole.end place d order l h (place + k) u (omega arith) e, (ordered us order).proper (place + k) u e)

    -- from a name on that begins behind the bytes none is inside
    pub none_behind : occurs (drop place us) number whole ≡ false
    none_behind = none_here (drop place us) (λ k u e. far k u (sym (dropped us place k) ∙ e))
