-- What is told of declarations excludes that they break no rule, and is one.
use Rattle.std.proofs.Common.{◌≡◌, ◌⊎◌, inl, inr, ℕ, List, [], ◌∷◌, ◌++◌, Option, Some, None, Result, Ok, Err, refl, sym, ◌∙◌, ap, ap₂, subst}
use Rattle.hs_base.specs.declared.place.Broken.{Broken}
use Rattle.hs_base.specs.declared.place.Stop.{Stop}
use Rattle.hs_base.specs.declared.place.Stop.TheVariants as stop
use Rattle.hs_base.specs.Positions.{told_at}
use Rattle.hs_syntax.specs.declared.file.File.{File}
use Rattle.hs_marks.specs.declared.breach.Breach.{Breach}
use Rattle.hs_marks.specs.Told.{Told}
use Rattle.hs_order.specs.Order.{ready, IsOrder}
use Rattle.hs_resolver.specs.declared.names.Names.{Names}
use Rattle.hs_resolver.specs.Order.{needs, Ordered}
use Rattle.hs_items.specs.declared.decls.Decls.{Decls}
use Rattle.hs_items.specs.Marks.{broken}
use Rattle.hs_items.specs.Declares.{KeepsDecls, TellsIn, TellsDecls, Declares}

some_once : {A : Type 0} (o : Option A) (a b : A) → o ≡ Some a → o ≡ Some b → a ≡ b
some_once o a b e f = let g : Some a ≡ Some b = sym e ∙ f in cc

none_some : {A : Type 0} (o : Option A) (a : A) → o ≡ None → o ≡ Some a → ⊥
none_some o a e f = let g : None ≡ Some a = sym e ∙ f in cc

-- there is one order
order_once : (items : List (List ℕ)) (listed a b : List ℕ) → IsOrder items listed a → IsOrder items listed b → a ≡ b
order_once items listed [] [] p q = refl
order_once items listed [] (y ∷ b) p q = absurd (none_some (ready listed items) y p q.0)
order_once items listed (x ∷ a) [] p q = absurd (none_some (ready listed items) x q p.0)
order_once items listed (x ∷ a) (y ∷ b) p q =
    let same : y ≡ x = some_once (ready listed items) y x q.0 p.0 in
    let rest : IsOrder items (listed ++ x ∷ []) b = subst (λ z. IsOrder items (listed ++ z ∷ []) b) same q.1 in
    ap₂ (λ z zs. z ∷ zs) (sym same) (order_once items (listed ++ x ∷ []) a b p.1 rest)

module _ (file : File) where
  ordered_once : (a b : List ℕ) → Ordered file a → Ordered file b → a ≡ b
  ordered_once a b p q = order_once (needs file) [] a b p.0 q.0

  -- what is told in one order is told in the other
  tells_in : (order : List ℕ) (told : Broken) → Ordered file order → TellsDecls file told → TellsIn file order told
  tells_in order told o (other, p, t) = subst (λ os. TellsIn file os told) (ordered_once other order p o) t

  pub decls_apart : (told : Broken) → KeepsDecls file → TellsDecls file told → ⊥
  decls_apart told (order, o, e) t = go (tells_in order told o t)
    where
      go : TellsIn file order told → ⊥
      go (b, h, at) = (subst (λ ms. Told ms b) e h).1

  module _ (order : List ℕ) (alone : (b c : Breach) → Told (broken file order) b → Told (broken file order) c → b ≡ c) where
    told_once : (t u : Broken) → TellsIn file order t → TellsIn file order u → t ≡ u
    told_once t u (b, p, at) (c, q, at') = at ∙ ap (λ (x : Breach). told_at file.text x.rule x.span.start) (alone b c p q) ∙ sym at'

  abbrev answered : Result Decls Stop → Broken → Type 0
  answered r t = (r ≡ Err (stop.Broken t)) ⊎ (r ≡ Err stop.NoMemory)

  -- what is told is the answer, or there was no memory
  pub decls_only : (names : Names) → Ordered file names.order → ((b c : Breach) → Told (broken file names.order) b → Told (broken file names.order) c → b ≡ c)
      → (r : Result Decls Stop) → Declares file names r → (t : Broken) → TellsDecls file t → answered r t
  decls_only names o alone (Ok decls) (e, a) t told = absurd (decls_apart t (names.order, o, e) told)
  decls_only names o alone (Err (stop.Broken u)) made t told =
      inl (ap (λ x. Err (stop.Broken x)) (told_once names.order alone u t made (tells_in names.order t o told)))
  decls_only names o alone (Err stop.NoMemory) made t told = inr refl
