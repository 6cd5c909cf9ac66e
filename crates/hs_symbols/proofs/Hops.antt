-- Hops from name to name.
use Rattle.std.proofs.Common.{ℕ, zero, suc, ◌+◌, ◌≤◌, ◌≡◌, refl, sym, ◌∙◌, ap, List, map, slice_get, Option, Some, None, option_map, arith}
use Rattle.std.proofs.lemmas.Option.{slice_get-map}
use Rattle.hs_syntax.specs.declared.item.Item.{Item}
use Rattle.hs_symbols.specs.declared.way.Way.{Way}
use Rattle.hs_symbols.specs.declared.way.Way.TheVariants as way
use Rattle.hs_symbols.specs.Symbols.{hops, hop, way_from, target_at, target, way_named, data_on, data_of}
use Rattle.hs_symbols.specs.Ends.{Reached, follow, or_nowhere, doublings}

module _ (text : List ℕ) (items : List Item) where
  pub hops_add : (a b : ℕ) (w : Way) → hops text items (a + b) w ≡ hops text items b (hops text items a w)
  unfolding hops
  hops_add zero b w = let e : 0 + b ≡ b = omega arith in ap (λ (n : ℕ). hops text items n w) e
  hops_add (suc a) b w =
      let e : suc a + b ≡ suc (a + b) = omega arith in
      ap (λ (n : ℕ). hops text items n w) e ∙ hops_add a b (hop text items w)

  pub hops_data : (n k : ℕ) → hops text items n (way.Data k) ≡ way.Data k
  unfolding hops
  hops_data zero k = refl
  hops_data (suc n) k = hops_data n k

  pub hops_nowhere : (n : ℕ) → hops text items n way.Nowhere ≡ way.Nowhere
  unfolding hops
  hops_nowhere zero = refl
  hops_nowhere (suc n) = hops_nowhere n

  -- a number that is no item's leads nowhere
  pub hops_none : (n k : ℕ) → 1 ≤ n → slice_get items k ≡ None → hops text items n (way.Alias k) ≡ way.Nowhere
  unfolding hops
  hops_none zero k l e = absurd (omega (arith, l))
  hops_none (suc n) k l e = ap (λ (o : Option Item). hops text items n (way_from text items (target_at o))) e ∙ hops_nowhere n

  -- where each leads in one hop
  pub reached_first : Reached text items 1 (map (λ (i : Item). way_from text items (target i.kind)) items)
  unfolding hops
  reached_first k = slice_get-map (λ (i : Item). way_from text items (target i.kind)) items k ∙ go (slice_get items k) refl
    where
      go : (o : Option Item) → slice_get items k ≡ o → option_map (λ (i : Item). way_from text items (target i.kind)) o ≡ option_map (λ (i : Item). hop text items (way.Alias k)) o
      go None e = refl
      go (Some i) e = ap (λ (p : Option Item). Some (way_from text items (target_at p))) (sym e)

  -- after as many hops again, each leads where the one leads to which it led
  pub followed : (n : ℕ) (ways : List Way) (w : Way) → 1 ≤ n → Reached text items n ways → hops text items n w ≡ follow ways w
  followed n ways (way.Data k) l r = hops_data n k
  followed n ways way.Nowhere l r = hops_nowhere n
  followed n ways (way.Alias k) l r = go (slice_get items k) refl
    where
      go : (o : Option Item) → slice_get items k ≡ o → hops text items n (way.Alias k) ≡ or_nowhere (slice_get ways k)
      go None e = hops_none n k l e ∙ sym (ap or_nowhere (r k ∙ ap (option_map (λ (i : Item). hops text items n (way.Alias k))) e))
      go (Some i) e = sym (ap or_nowhere (r k ∙ ap (option_map (λ (i : Item). hops text items n (way.Alias k))) e))

  -- one more doubling
  pub doubled : (n : ℕ) (ways : List Way) → 1 ≤ n → Reached text items n ways → Reached text items (n + n) (map (follow ways) ways)
  doubled n ways l r k = slice_get-map (follow ways) ways k ∙ (ap (option_map (follow ways)) (r k) ∙ go (slice_get items k))
    where
      go : (o : Option Item) → option_map (follow ways) (option_map (λ (i : Item). hops text items n (way.Alias k)) o) ≡ option_map (λ (i : Item). hops text items (n + n) (way.Alias k)) o
      go None = refl
      go (Some i) = ap (λ (w : Way). Some w) (sym (hops_add n n (way.Alias k) ∙ followed n ways (hops text items n (way.Alias k)) l r))

pub doublings_positive : (n : ℕ) → 1 ≤ doublings n
doublings_positive zero = omega arith
doublings_positive (suc n) = let i = doublings_positive n in omega (arith, i)

-- what a name of a type stands for, by where each item leads in the end
pub data_found : (text : List ℕ) (items : List Item) (ends : List Way) (name : List ℕ) → Reached text items 262144 ends → data_of text items name ≡ data_on (follow ends (way_named text items name))
data_found text items ends name r = ap data_on (followed text items 262144 ends (way_named text items name) (omega arith) r)
