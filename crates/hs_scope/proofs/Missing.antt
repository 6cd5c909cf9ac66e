-- Where a name means nothing in a scope, and where it has no number among names.
use Rattle.std.proofs.Common.{◌≡◌, ◌≢◌, ◌↔◌, ℕ, zero, suc, ◌<◌, ◌≤◌, Bool, true, false, cond, List, [], ◌∷◌, length, bytes_eq, nat_lt, Some, None, is_some, IsNone, All, slice_index_or, refl, sym, ap, ◌∙◌, arith}
use Rattle.std.specs.List.{position_or_len}
use Rattle.std.specs.Cmp.Lexicographic.{bytes_decides}
use Rattle.std.proofs.lemmas.Bool.Decides.{nat_tests}
use Rattle.std.proofs.lemmas.List.Sums.{fails_before_first, passes_at_first}
use Rattle.hs_scope.specs.Scope.{Binding, look}
use Rattle.hs_scope.specs.Names.{number_of}

module _ (w : List ℕ) where
  -- no binding that the list has at some index is of this name
  abbrev Lacks : List Binding → Type 0
  Lacks bs = (k : ℕ) (d : Binding) → k < length bs → (slice_index_or bs k d).name ≢ w

  -- no meaning, so no binding
  unbound : (bs : List Binding) → IsNone (look w bs) → Lacks bs
  unbound [] h k d l e = absurd (omega arith)
  unbound (b ∷ bs) h k d l e = go (bytes_eq w b.name) refl (unbound bs) k l e
    where
      go : (t : Bool) → bytes_eq w b.name ≡ t → (IsNone (look w bs) → Lacks bs) → (k : ℕ) → k < length (b ∷ bs) → (slice_index_or (b ∷ bs) k d).name ≢ w
      go true f rest k l e = absurd (cc (h, f))
      go false f rest zero l e = absurd (cc (f, (bytes_decides w b.name).1 (sym e)))
      go false f rest (suc k) l e = rest (sym (ap (λ t. is_some (cond t (Some b.number) (look w bs))) f) ∙ h) k d (omega arith) e

  -- no binding, so no meaning
  not_bound : (bs : List Binding) → Lacks bs → IsNone (look w bs)
  not_bound [] h = refl
  not_bound (b ∷ bs) h = go (bytes_eq w b.name) refl (not_bound bs (λ k d l. h (suc k) d (omega arith)))
    where
      go : (t : Bool) → bytes_eq w b.name ≡ t → IsNone (look w bs) → is_some (cond t (Some b.number) (look w bs)) ≡ false
      go true f rest = absurd (h 0 b (omega arith) (sym ((bytes_decides w b.name).0 f)))
      go false f rest = rest

  -- a name has no meaning exactly where no binding is of this name
  pub unbound_is : (bs : List Binding) → IsNone (look w bs) ↔ All (λ b. b.name ≢ w) bs
  unbound_is bs = (unbound bs, not_bound bs)

  -- no number, so no equal name
  absent : (ns : List (List ℕ)) → IsNone (number_of w ns) → (k : ℕ) (d : List ℕ) → k < length ns → slice_index_or ns k d ≢ w
  absent ns h k d l e =
      let behind : length ns ≤ position_or_len (bytes_eq w) ns = grind (arith, nat_tests, h) in
      absurd (cc (fails_before_first (bytes_eq w) ns k d (omega arith), (bytes_decides w (slice_index_or ns k d)).1 (sym e)))

  -- no equal name, so no number
  not_there : (ns : List (List ℕ)) → All (λ n. n ≢ w) ns → IsNone (number_of w ns)
  not_there ns h = go (nat_lt (position_or_len (bytes_eq w) ns) (length ns)) refl
    where
      go : (t : Bool) → nat_lt (position_or_len (bytes_eq w) ns) (length ns) ≡ t → is_some (cond t (Some (position_or_len (bytes_eq w) ns)) None) ≡ false
      go true f =
          let within : position_or_len (bytes_eq w) ns < length ns = grind (arith, nat_tests, f) in
          absurd (h (position_or_len (bytes_eq w) ns) [] within (sym ((bytes_decides w _).0 (passes_at_first (bytes_eq w) ns [] within))))
      go false f = refl

  -- a name has no number exactly where none is equal to it
  pub absent_is : (ns : List (List ℕ)) → IsNone (number_of w ns) ↔ All (λ n. n ≢ w) ns
  absent_is ns = (absent ns, not_there ns)
