-- The test of sameness tells one value from others.
use Rattle.std.proofs.Common.{◌≡◌, ℕ, eqb, Bool, true, false, ◌&&◌, List, [], ◌∷◌, inl, inr, map, refl, ap, sym, subst, ◌∙◌, rules}
use Rattle.std.proofs.lemmas.Bool.Decides.{Decides-int_eq, Decides-eqb}
use Rattle.std.specs.Bool.{Decides}
use Rattle.std.specs.Ordering.{int_eq}
use Rattle.std.specs.Prelude.{ℤ, not, Result, Ok, Err}
use Rattle.hs_words.specs.declared.kinds.IntTy.{IntTy}
use Rattle.hs_words.specs.Word.{Integer}
use Rattle.hs_values.specs.Kinds.{is_kind, is_kind-equal, is_kind-refl}
use Rattle.hs_values.specs.declared.value.Sort.{Sort}
use Rattle.hs_values.specs.declared.value.Sort.TheVariants as sort
use Rattle.hs_values.specs.declared.value.Value.{Value, out-Value, the_lemmas}
use Rattle.hs_values.specs.declared.value.Value.TheOpen.{Value-F}
use Rattle.hs_values.specs.declared.value.Value.TheOpen as layer
use Rattle.hs_values.specs.declared.value.Value.TheFolds.{map-Value, fold-roll-Value, ind-Value}
use Rattle.hs_values.specs.declared.value.Value.TheViews.{roll-Value}
use Rattle.hs_ops.specs.declared.row.OpStop.{OpStop}
use Rattle.hs_ops.specs.declared.row.OpStop.TheVariants as stop
use Rattle.hs_ops.specs.Answer.{Tells, TellsWhether, truth}
use Rattle.hs_ops.specs.Parts.{is_same, same_each, same_layer, same_sort, same_truth}

abbrev Told : Value → Type 0
Told v = (w : Value) → Decides (is_same v w) (v ≡ w)

abbrev Known : Type 0
Known = (v : Value) × Told v

truth_decides : (a b : Bool) → Decides (same_truth a b) (a ≡ b)
truth_decides true true = (λ e. refl, λ e. refl)
truth_decides true false = (λ e. cc e, λ e. cc e)
truth_decides false true = (λ e. cc e, λ e. cc e)
truth_decides false false = (λ e. refl, λ e. refl)

both : (a b : Bool) → a && b ≡ true → (a ≡ true) × (b ≡ true)
both true true e = (refl, refl)
both true false e = cc e
both false b e = cc e

number_decides : (a b : Integer) → Decides (is_kind a.kind b.kind && int_eq a.number b.number) (a ≡ b)
number_decides a b = (
  (λ e. let h = both (is_kind a.kind b.kind) (int_eq a.number b.number) e in
      let k : a.kind ≡ b.kind = is_kind-equal a.kind b.kind h.0 in
      let n : a.number ≡ b.number = (Decides-int_eq a.number b.number).0 h.1 in
      let made : IntTy → ℤ → Integer = λ k n. record { kind = k; number = n } in
      ap (λ k. made k a.number) k ∙ ap (made b.kind) n),
  (λ e. let k : is_kind a.kind b.kind ≡ true = subst (λ (x : Integer). is_kind a.kind x.kind ≡ true) e (is_kind-refl a.kind) in
      let n : int_eq a.number b.number ≡ true = (Decides-int_eq a.number b.number).1 (ap (λ (x : Integer). x.number) e) in cc (k, n)),
)

sort_decides : (a b : Sort) → Decides (same_sort a b) (a ≡ b)
sort_decides sort.Option sort.Option = (λ e. refl, λ e. refl)
sort_decides sort.Option sort.Result = (λ e. cc e, λ e. cc e)
sort_decides sort.Option (sort.Named n) = (λ e. cc e, λ e. cc e)
sort_decides sort.Result sort.Option = (λ e. cc e, λ e. cc e)
sort_decides sort.Result sort.Result = (λ e. refl, λ e. refl)
sort_decides sort.Result (sort.Named n) = (λ e. cc e, λ e. cc e)
sort_decides (sort.Named m) sort.Option = (λ e. cc e, λ e. cc e)
sort_decides (sort.Named m) sort.Result = (λ e. cc e, λ e. cc e)
sort_decides (sort.Named m) (sort.Named n) = (λ e. ap sort.Named ((Decides-eqb m n).0 e), λ e. (Decides-eqb m n).1 (cc e))

abbrev values : List Known → List Value
values = map (λ k. k.0)

each_decides : (xs : List Known) (vs : List Value) → Decides (same_each (map is_same (values xs)) vs) (values xs ≡ vs)
each_decides [] [] = (λ e. refl, λ e. refl)
each_decides [] (v ∷ vs) = (λ e. cc e, λ e. cc e)
each_decides (x ∷ xs) [] = (λ e. cc e, λ e. cc e)
each_decides (x ∷ xs) (v ∷ vs) = (
  (λ e. let h = both (is_same x.0 v) (same_each (map is_same (values xs)) vs) e in
      let first : x.0 ≡ v = (x.1 v).0 h.0 in
      let rest : values xs ≡ vs = (each_decides xs vs).0 h.1 in cc (first, rest)),
  (λ e. let first : is_same x.0 v ≡ true = (x.1 v).1 (cc e) in
      let rest : same_each (map is_same (values xs)) vs ≡ true = (each_decides xs vs).1 (cc e) in cc (first, rest)),
)

abbrev below : Value-F Known → Value-F Value
below = map-Value Known Value (λ k. k.0)

ctor_decides : (s t : Sort) (m n : ℕ) (xs : List Known) (vs : List Value) → Decides (same_sort s t && (eqb m n && same_each (map is_same (values xs)) vs)) (layer.Ctor s m (values xs) ≡ layer.Ctor t n vs)
ctor_decides s t m n xs vs = (
  (λ e. let h = both (same_sort s t) (eqb m n && same_each (map is_same (values xs)) vs) e in
      let i = both (eqb m n) (same_each (map is_same (values xs)) vs) h.1 in
      let first : s ≡ t = (sort_decides s t).0 h.0 in
      let second : m ≡ n = (Decides-eqb m n).0 i.0 in
      let third : values xs ≡ vs = (each_decides xs vs).0 i.1 in cc (first, second, third)),
  (λ e. let first : same_sort s t ≡ true = (sort_decides s t).1 (cc e) in
      let second : eqb m n ≡ true = (Decides-eqb m n).1 (cc e) in
      let third : same_each (map is_same (values xs)) vs ≡ true = (each_decides xs vs).1 (cc e) in cc (first, second, third)),
)

layer_decides : (y : Value-F Known) (l : Value-F Value) → Decides (same_layer (map-Value Value (Value → Bool) is_same (below y)) l) (below y ≡ l)
layer_decides layer.Unit layer.Unit = (λ e. refl, λ e. refl)
layer_decides layer.Unit (layer.Bool b) = (λ e. cc e, λ e. cc e)
layer_decides layer.Unit (layer.Int b) = (λ e. cc e, λ e. cc e)
layer_decides layer.Unit (layer.Seq vs) = (λ e. cc e, λ e. cc e)
layer_decides layer.Unit (layer.Tuple vs) = (λ e. cc e, λ e. cc e)
layer_decides layer.Unit (layer.Ctor t n vs) = (λ e. cc e, λ e. cc e)
layer_decides (layer.Bool a) layer.Unit = (λ e. cc e, λ e. cc e)
layer_decides (layer.Bool a) (layer.Bool b) = (λ e. ap layer.Bool ((truth_decides a b).0 e), λ e. (truth_decides a b).1 (cc e))
layer_decides (layer.Bool a) (layer.Int b) = (λ e. cc e, λ e. cc e)
layer_decides (layer.Bool a) (layer.Seq vs) = (λ e. cc e, λ e. cc e)
layer_decides (layer.Bool a) (layer.Tuple vs) = (λ e. cc e, λ e. cc e)
layer_decides (layer.Bool a) (layer.Ctor t n vs) = (λ e. cc e, λ e. cc e)
layer_decides (layer.Int a) layer.Unit = (λ e. cc e, λ e. cc e)
layer_decides (layer.Int a) (layer.Bool b) = (λ e. cc e, λ e. cc e)
layer_decides (layer.Int a) (layer.Int b) = (λ e. ap layer.Int ((number_decides a b).0 e), λ e. (number_decides a b).1 (cc e))
layer_decides (layer.Int a) (layer.Seq vs) = (λ e. cc e, λ e. cc e)
layer_decides (layer.Int a) (layer.Tuple vs) = (λ e. cc e, λ e. cc e)
layer_decides (layer.Int a) (layer.Ctor t n vs) = (λ e. cc e, λ e. cc e)
layer_decides (layer.Seq xs) layer.Unit = (λ e. cc e, λ e. cc e)
layer_decides (layer.Seq xs) (layer.Bool b) = (λ e. cc e, λ e. cc e)
layer_decides (layer.Seq xs) (layer.Int b) = (λ e. cc e, λ e. cc e)
layer_decides (layer.Seq xs) (layer.Seq vs) = (λ e. ap layer.Seq ((each_decides xs vs).0 e), λ e. (each_decides xs vs).1 (cc e))
layer_decides (layer.Seq xs) (layer.Tuple vs) = (λ e. cc e, λ e. cc e)
layer_decides (layer.Seq xs) (layer.Ctor t n vs) = (λ e. cc e, λ e. cc e)
layer_decides (layer.Tuple xs) layer.Unit = (λ e. cc e, λ e. cc e)
layer_decides (layer.Tuple xs) (layer.Bool b) = (λ e. cc e, λ e. cc e)
layer_decides (layer.Tuple xs) (layer.Int b) = (λ e. cc e, λ e. cc e)
layer_decides (layer.Tuple xs) (layer.Seq vs) = (λ e. cc e, λ e. cc e)
layer_decides (layer.Tuple xs) (layer.Tuple vs) = (λ e. ap layer.Tuple ((each_decides xs vs).0 e), λ e. (each_decides xs vs).1 (cc e))
layer_decides (layer.Tuple xs) (layer.Ctor t n vs) = (λ e. cc e, λ e. cc e)
layer_decides (layer.Ctor s m xs) layer.Unit = (λ e. cc e, λ e. cc e)
layer_decides (layer.Ctor s m xs) (layer.Bool b) = (λ e. cc e, λ e. cc e)
layer_decides (layer.Ctor s m xs) (layer.Int b) = (λ e. cc e, λ e. cc e)
layer_decides (layer.Ctor s m xs) (layer.Seq vs) = (λ e. cc e, λ e. cc e)
layer_decides (layer.Ctor s m xs) (layer.Tuple vs) = (λ e. cc e, λ e. cc e)
layer_decides (layer.Ctor s m xs) (layer.Ctor t n vs) = ctor_decides s t m n xs vs

out_roll : (z : Value-F Value) → out-Value (roll-Value z) ≡ z
out_roll z = search (rules, the_lemmas)

roll_out : (w : Value) → roll-Value (out-Value w) ≡ w
roll_out w = search (rules, the_lemmas)

abbrev step : Value-F (Value → Bool) → Value → Bool
step layer v = same_layer layer (out-Value v)

level : (y : Value-F Known) → Told (roll-Value (below y))
level y w =
    let told : is_same (roll-Value (below y)) w ≡ same_layer (map-Value Value (Value → Bool) is_same (below y)) (out-Value w) =
    ap (λ (f : Value → Bool). f w) (fold-roll-Value (Value → Bool) step (below y)) in
    let h = layer_decides y (out-Value w) in (
      λ e. ap roll-Value (h.0 (sym told ∙ e)) ∙ roll_out w,
      λ e. told ∙ h.1 (sym (out_roll (below y)) ∙ ap out-Value e),
    )

-- the test tells whether two values are one value
pub is_same-Decides : (v w : Value) → Decides (is_same v w) (v ≡ w)
is_same-Decides = ind-Value Told (λ x y is. subst (λ z. Told (roll-Value z)) is (level y))

clash : (b : Bool) → b ≡ true → b ≡ false → ⊥
clash b t f = cc (t, f)

-- what `same` and `differ` give is told by whether two values are one
pub same_tells : (r : Result Value OpStop) (a b : Value) → Tells r (truth (is_same a b)) → TellsWhether r (a ≡ b)
same_tells r a b = by r (is_same a b) refl
  where
    by : (r : Result Value OpStop) (t : Bool) → is_same a b ≡ t → Tells r (truth t) → TellsWhether r (a ≡ b)
    by (Ok v) true e h = inl (cc h, (is_same-Decides a b).0 e)
    by (Ok v) false e h = inr (cc h, λ s. clash (is_same a b) ((is_same-Decides a b).1 s) e)
    by (Err (stop.Panic p)) t e h = cc h
    by (Err stop.Kind) t e h = cc h
    by (Err stop.NoMemory) t e h = tt

pub differ_tells : (r : Result Value OpStop) (a b : Value) → Tells r (truth (not (is_same a b))) → TellsWhether r (a ≡ b → ⊥)
differ_tells r a b = by r (is_same a b) refl
  where
    by : (r : Result Value OpStop) (t : Bool) → is_same a b ≡ t → Tells r (truth (not t)) → TellsWhether r (a ≡ b → ⊥)
    by (Ok v) true e h = inr (cc h, λ no. no ((is_same-Decides a b).0 e))
    by (Ok v) false e h = inl (cc h, λ s. clash (is_same a b) ((is_same-Decides a b).1 s) e)
    by (Err (stop.Panic p)) t e h = cc h
    by (Err stop.Kind) t e h = cc h
    by (Err stop.NoMemory) t e h = tt
