-- What is told of names excludes that they break no rule, and is one.
use Rattle.std.proofs.Common.{◌≡◌, ◌⊎◌, inl, inr, ℕ, ◌<◌, List, [], ◌∷◌, ◌++◌, length, slice_get, Bool, true, false, Option, Some, None, Result, Ok, Err, refl, sym, ◌∙◌, ap, ap₂, subst, arith}
use Rattle.hs_base.specs.declared.place.Broken.{Broken}
use Rattle.hs_base.specs.declared.place.Stop.{Stop}
use Rattle.hs_base.specs.declared.place.Stop.TheVariants as stop
use Rattle.hs_base.specs.Positions.{told_at}
use Rattle.hs_syntax.specs.declared.file.File.{File}
use Rattle.hs_syntax.specs.declared.span.Span.{Span}
use Rattle.hs_marks.specs.declared.breach.Breach.{Breach}
use Rattle.hs_marks.specs.Told.{Told}
use Rattle.hs_order.specs.Order.{has, ready, IsOrder, IsLeftOut}
use Rattle.hs_resolver.specs.declared.names.Names.{Names}
use Rattle.hs_resolver.specs.Order.{needs, broken, name_of, Ordered, NeedsItself, KeepsNames, TellsNames, Resolves}

some_once : {A : Type 0} (o : Option A) (a b : A) → o ≡ Some a → o ≡ Some b → a ≡ b
some_once o a b e f = let g : Some a ≡ Some b = sym e ∙ f in cc

none_some : {A : Type 0} (o : Option A) (a : A) → o ≡ None → o ≡ Some a → ⊥
none_some o a e f = let g : None ≡ Some a = sym e ∙ f in cc

-- there is one order
order_once : (items : List (List ℕ)) (listed a b : List ℕ) → IsOrder items listed a → IsOrder items listed b → a ≡ b
order_once items listed [] [] p q = refl
order_once items listed [] (y ∷ b) p q = absurd (none_some (ready listed items) y p q.0)
order_once items listed (x ∷ a) [] p q = absurd (none_some (ready listed items) x q p.0)
order_once items listed (x ∷ a) (y ∷ b) p q =
    let same : y ≡ x = some_once (ready listed items) y x q.0 p.0 in
    let rest : IsOrder items (listed ++ x ∷ []) b = subst (λ z. IsOrder items (listed ++ z ∷ []) b) same q.1 in
    ap₂ (λ z zs. z ∷ zs) (sym same) (order_once items (listed ++ x ∷ []) a b p.1 rest)

true_false : (b : Bool) → b ≡ true → b ≡ false → ⊥
true_false b e f = let g : true ≡ false = sym e ∙ f in cc

neither_less : (k l : ℕ) → (k < l → ⊥) → (l < k → ⊥) → k ≡ l
neither_less k l f g = omega (arith, f, g)

-- one item is left out first
left_once : (listed : List ℕ) (count k l : ℕ) → IsLeftOut listed count (Some k) → IsLeftOut listed count (Some l) → k ≡ l
left_once listed count k l p q = neither_less k l (λ h. true_false (has listed k) (q.2 k h) p.1) (λ h. true_false (has listed l) (p.2 l h) q.1)

module _ (file : File) where
  empty_told : (b : Breach) → broken file ≡ [] → Told (broken file) b → ⊥
  empty_told b e t = (subst (λ ms. Told ms b) e t).1

  ordered_excludes : (listed : List ℕ) (n : Span) → Ordered file listed → NeedsItself file n → ⊥
  ordered_excludes listed n o (other, k, i, order, left, at, is) =
      let same : other ≡ listed = order_once (needs file) [] other listed order o.0 in
      true_false (has listed k) (o.1 k left.0) (ap (λ ms. has ms k) (sym same) ∙ left.1)

  pub names_apart : (told : Broken) → KeepsNames file → TellsNames file told → ⊥
  names_apart told (e, listed, o) (b, inl t, at) = empty_told b e t
  names_apart told (e, listed, o) (b, inr (f, rule, n), at) = ordered_excludes listed b.span o n

  same_name : (m n : Span) → NeedsItself file m → NeedsItself file n → m ≡ n
  same_name m n (a, k, i, order, left, at, is) (b, l, j, order', left', at', is') =
      let same : b ≡ a = order_once (needs file) [] b a order' order in
      let one : k ≡ l = left_once a (length (needs file)) k l left (subst (λ ms. IsLeftOut ms (length (needs file)) (Some l)) same left') in
      let item : i ≡ j = some_once (slice_get file.items l) i j (ap (slice_get file.items) (sym one) ∙ at) at' in
      is ∙ ap name_of item ∙ sym is'

  breach_once : (b c : Breach) → b.rule ≡ c.rule → b.span ≡ c.span → b ≡ c
  breach_once b c e f = ap₂ (λ (r : _) (s : Span). record { rule = r; span = s }) e f

  -- at most one is told, where at most one is told of what is broken but N7
  pub names_once : ((b c : Breach) → Told (broken file) b → Told (broken file) c → b ≡ c) → (t u : Broken) → TellsNames file t → TellsNames file u → t ≡ u
  names_once alone t u (b, inl p, at) (c, inl q, at') = at ∙ ap (λ (x : Breach). told_at file.text x.rule x.span.start) (alone b c p q) ∙ sym at'
  names_once alone t u (b, inl p, at) (c, inr (e, rule, n), at') = absurd (empty_told b e p)
  names_once alone t u (b, inr (e, rule, n), at) (c, inl q, at') = absurd (empty_told c e q)
  names_once alone t u (b, inr (e, rule, n), at) (c, inr (f, rule', n'), at') =
      at ∙ ap (λ (x : Breach). told_at file.text x.rule x.span.start) (breach_once b c (rule ∙ sym rule') (same_name b.span c.span n n')) ∙ sym at'

  abbrev answered : Result Names Stop → Broken → Type 0
  answered r t = (r ≡ Err (stop.Broken t)) ⊎ (r ≡ Err stop.NoMemory)

  -- what is told is the answer, or there was no memory
  pub names_only : ((b c : Breach) → Told (broken file) b → Told (broken file) c → b ≡ c) → (r : Result Names Stop) → Resolves file r
      → (t : Broken) → TellsNames file t → answered r t
  names_only alone (Ok names) (e, a) t told = absurd (names_apart t (e, names.order, a.order) told)
  names_only alone (Err (stop.Broken u)) made t told = inl (ap (λ x. Err (stop.Broken x)) (names_once alone u t made told))
  names_only alone (Err stop.NoMemory) made t told = inr refl
