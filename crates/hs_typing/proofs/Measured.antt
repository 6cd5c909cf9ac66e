-- What is asked of types with all names expanded, by their forms.
use Rattle.std.proofs.Common.{ℕ, ◌+◌, ◌-◌, ◌≡◌, ◌<◌, ◌≤◌, ◌⊎◌, inl, inr, refl, sym, ◌∙◌, ap, Bool, false, cond, nat_eq, List, [], ◌∷◌, map, length, reverse, drop, get_or, Option, Some, None, slice_get, option_map, arith}
use Rattle.std.proofs.lemmas.Bool.{cases_lt}
use Rattle.std.proofs.lemmas.Bool.Decides.{nat_tests}
use Rattle.std.proofs.lemmas.List.{length-reverse, drop_more}
use Rattle.std.proofs.lemmas.Option.{slice_get-get_or}
use Rattle.hs_values.specs.declared.types.ValType.{ValType, roll-ValType}
use Rattle.hs_values.specs.declared.types.ValType.TheVariants as variant
use Rattle.hs_values.specs.declared.types.ValType.TheOpen as layer
use Rattle.hs_values.specs.declared.types.ValType.TheFolds.{fold-roll-ValType}
use Rattle.hs_values.specs.declared.types.TypeDef.{TypeDef}
use Rattle.hs_items.specs.declared.facts.Facts.{Facts}
use Rattle.hs_items.specs.declared.shape.Shape.TheVariants as shape
use Rattle.hs_items.specs.Walk.{limited}
use Rattle.hs_items.specs.Whole.{Whole, none, join, node, row, expand_layer, expand_def, numbered, entry, expanded, facts_of}
use Rattle.hs_typing.specs.Types.{FactsAgree}

-- what is asked of a type, as far as 32 bits hold it
abbrev kept : Whole → Facts
kept w = limited (facts_of w)

-- ---- forms

module _ (table : List TypeDef) where
  abbrev whole : ValType → Whole
  whole t = expanded table t

  whole_result : (good bad : ValType) → whole (variant.Result good bad) ≡ node shape.Choice (join (whole good) (whole bad))
  unfolding roll-ValType denote.Hole.Carrier.roll
  whole_result good bad = fold-roll-ValType Whole (expand_layer (entry table)) (layer.Result good bad)

  is_whole : (t u : ValType) (w : Whole) (f : Facts) → t ≡ u → whole u ≡ w → f ≡ kept w → f ≡ kept (whole t)
  is_whole t u w f e h i = i ∙ sym (ap kept h) ∙ sym (ap (λ (t : ValType). kept (whole t)) e)

  pub of_result : (t good bad : ValType) (left right both f : Facts) → t ≡ variant.Result good bad → left ≡ kept (whole good) → right ≡ kept (whole bad)
      → ((v w : Whole) → left ≡ kept v → right ≡ kept w → both ≡ kept (join v w)) → ((w : Whole) → both ≡ kept w → f ≡ kept (node shape.Choice w)) → f ≡ kept (whole t)
  of_result t good bad left right both f e p q joined over =
      is_whole t (variant.Result good bad) (node shape.Choice (join (whole good) (whole bad))) f e (whole_result good bad)
      (over (join (whole good) (whole bad)) (joined (whole good) (whole bad) p q))

  -- ---- rows, from the last type on

  pub row_more : (ts : List ValType) (back : ℕ) (t : ValType) (own rest f : Facts) → back < length ts → t ≡ get_or ts (length ts - 1 - back) t → own ≡ kept (whole t)
      → rest ≡ kept (row (map whole (drop (length ts - back) ts))) → ((v w : Whole) → own ≡ kept v → rest ≡ kept w → f ≡ kept (join v w)) → f ≡ kept (row (map whole (drop (length ts - (back + 1)) ts)))
  row_more ts back t own rest f l is o r joined =
      let i = length ts - 1 - back in
      let here : drop (length ts - (back + 1)) ts ≡ drop i ts = ap (λ (n : ℕ). drop n ts) (omega arith) in
      let next : drop (i + 1) ts ≡ drop (length ts - back) ts = ap (λ (n : ℕ). drop n ts) (omega arith) in
      let split : drop i ts ≡ t ∷ drop (length ts - back) ts = drop_more ts i t (omega arith) ∙ ap (λ (x : ValType). x ∷ drop (i + 1) ts) (sym is) ∙ ap (λ (us : List ValType). t ∷ us) next in
      joined (whole t) (row (map whole (drop (length ts - back) ts))) o r ∙ sym (ap (λ (us : List ValType). kept (row (map whole us))) (here ∙ split))

-- ---- types with names

past : (ds : List TypeDef) (k : ℕ) → length ds ≤ k → numbered ds k ≡ none
past [] k l = refl
past (d ∷ ds) k l =
    let other : nat_eq k (length ds) ≡ false = grind (arith, nat_tests) in
    ap (λ (b : Bool). cond b (expand_def (numbered ds) d) (numbered ds k)) other ∙ past ds k (omega arith)

entry_past : (table : List TypeDef) (k : ℕ) → length table ≤ k → entry table k ≡ none
entry_past table k l = past (reverse table) k (omega (arith, length-reverse table))

in_none : (o : Option TypeDef) (d : TypeDef) (g : Facts) → o ≡ Some d → None ≡ option_map (λ (d : TypeDef). g) o → ⊥
in_none None d g e h = cc
in_none (Some d) e g h k = cc

there : (ts : List TypeDef) (k : ℕ) (g : Facts) → k < length ts → None ≡ option_map (λ (d : TypeDef). g) (slice_get ts k) → ⊥
there [] k g l e = absurd (omega arith)
there (d ∷ ds) k g l e = in_none (slice_get (d ∷ ds) k) (get_or (d ∷ ds) k d) g (slice_get-get_or (d ∷ ds) k d l) e

pub kept_past : (table : List TypeDef) (facts : List Facts) (k : ℕ) (f : Facts) → FactsAgree table facts → slice_get facts k ≡ None → f ≡ kept none → f ≡ kept (entry table k)
kept_past table facts k f agree g i = by (cases_lt k (length table))
  where
    by : (k < length table) ⊎ (length table ≤ k) → f ≡ kept (entry table k)
    by (inl l) = absurd (there table k (kept (entry table k)) l (sym g ∙ agree k))
    by (inr l) = i ∙ sym (ap kept (entry_past table k l))
