-- Names and binding places that stand in a row in the text, and what one more of them leaves.
use Rattle.std.proofs.Common.{ℕ, zero, suc, ◌≡◌, ◌<◌, ◌≤◌, sym, subst, Option, Some, None, List, [], ◌∷◌, ◌++◌, slice_get, arith}
use Rattle.std.proofs.lemmas.List.{map-append}
use Rattle.std.proofs.lemmas.Option.{none-some, same_Some}
use Rattle.hs_syntax.specs.declared.span.Span.{Span}
use Rattle.hs_symbols.specs.declared.referent.Referent.{Referent}
use Rattle.hs_resolver.specs.declared.known.Use.{Use}
use Rattle.hs_resolver.specs.declared.known.Known.{Known}
use Rattle.hs_resolver.specs.Parts.{used, meaning, placed}
use Rattle.hs_resolver.specs.InOrder.{InOrder, spans_of}

-- between two places, one behind the other, each with a byte at least
abbrev pub Row : ℕ → ℕ → List Span → Type 0
Row low high [] = low ≤ high
Row low high (s ∷ ss) = (low ≤ s.start) × (s.start < s.end) × Row s.end high ss

row_wide : (low middle high : ℕ) (ss : List Span) → middle ≤ high → Row low middle ss → Row low high ss
row_wide low middle high [] h r = omega (arith, h, r)
row_wide low middle high (s ∷ ss) h (p, q, r) = (p, q, row_wide s.end middle high ss h r)

row_more : (low middle high : ℕ) (ss : List Span) (s : Span) → middle ≤ s.start → s.start < s.end → s.end ≤ high → Row low middle ss → Row low high (ss ++ s ∷ [])
row_more low middle high [] s p q h r = (omega (arith, p, r), q, h)
row_more low middle high (z ∷ zs) s p q h (l, m, r) = (l, m, row_more z.end middle high zs s p q h r)

-- ---- what is known

-- names and binding places stand in a row before this place
pub record Kept (at : ℕ) (k : Known) : Type 0 where
  pub uses : Row 0 at (spans_of k.uses)
  pub places : Row 0 at k.places

pub kept_wide : {low high : ℕ} {k : Known} → low ≤ high → Kept low k → Kept high k
kept_wide {low} {high} {k} h r = record { uses = row_wide 0 low high (spans_of k.uses) h r.uses; places = row_wide 0 low high k.places h r.places }

pub kept_used : {low high : ℕ} {k : Known} (n : Span) (to : Referent) → low ≤ n.start → n.start < n.end → n.end ≤ high → Kept low k → Kept high (used n to k)
kept_used {low} {high} {k} n to p q h r =
    record {
      uses = subst (Row 0 high) (sym (map-append (λ (u : Use). u.name) k.uses (record { name = n; referent = to } ∷ []))) (row_more 0 low high (spans_of k.uses) n p q h r.uses);
      places = row_wide 0 low high k.places (omega (arith, p, q, h)) r.places;
    }

pub kept_means : {low high : ℕ} {k : Known} (n : Span) (to : Option Referent) → low ≤ n.start → n.start < n.end → n.end ≤ high → Kept low k → Kept high (meaning n to k)
kept_means n None p q h r = kept_wide (omega (arith, p, q, h)) r
kept_means n (Some to) p q h r = kept_used n to p q h r

pub kept_placed : {low high : ℕ} {k : Known} (n : Span) → low ≤ n.start → n.start < n.end → n.end ≤ high → Kept low k → Kept high (placed n k)
kept_placed {low} {high} {k} n p q h r =
    record { uses = row_wide 0 low high (spans_of k.uses) (omega (arith, p, q, h)) r.uses; places = row_more 0 low high k.places n p q h r.places }

-- a binding place whose name stands for its local
pub kept_bound : {low high : ℕ} {k : Known} (n : Span) (to : Referent) → low ≤ n.start → n.start < n.end → n.end ≤ high → Kept low k → Kept high (placed n (used n to k))
kept_bound {low} {high} {k} n to p q h r =
    let u : Kept high (used n to k) = kept_used n to p q h r in
    let l : Kept high (placed n k) = kept_placed n p q h r in
    record { uses = u.uses; places = l.places }

-- ---- in order

behind_low : (low high : ℕ) (ss : List Span) → Row low high ss → (k : ℕ) (s : Span) → slice_get ss k ≡ Some s → (low ≤ s.start) × (s.start < s.end)
behind_low low high [] r k s e = absurd (none-some s e)
behind_low low high (z ∷ zs) (p, q, r) zero s e = subst (λ (s : Span). (low ≤ s.start) × (s.start < s.end)) (same_Some z s e) (p, q)
behind_low low high (z ∷ zs) (p, q, r) (suc k) s e = let i = behind_low z.end high zs r k s e in (omega (arith, p, q, i.0), i.1)

one_behind : (low high : ℕ) (ss : List Span) → Row low high ss → (j k : ℕ) (s z : Span) → j < k → slice_get ss j ≡ Some s → slice_get ss k ≡ Some z → s.end ≤ z.start
one_behind low high [] r j k s z h e f = absurd (none-some s e)
one_behind low high (y ∷ ys) r j zero s z h e f = absurd (omega (arith, h))
one_behind low high (y ∷ ys) (p, q, r) zero (suc k) s z h e f =
    subst (λ (s : Span). s.end ≤ z.start) (same_Some y s e) (behind_low y.end high ys r k z f).0
one_behind low high (y ∷ ys) (p, q, r) (suc j) (suc k) s z h e f = one_behind y.end high ys r j k s z (omega (arith, h)) e f

pub row_in_order : (low high : ℕ) (ss : List Span) → Row low high ss → InOrder ss
row_in_order low high ss r = record { proper = λ k s e. (behind_low low high ss r k s e).1; behind = λ j k s z h e f. one_behind low high ss r j k s z h e f }
