-- What is asked of a written type is what is asked of the type that it means, as far as 32 bits hold it.
use Rattle.std.proofs.Common.{ℕ, ◌+◌, ◌≡◌, ◌≤◌, ◌<◌, ◌⊎◌, inl, inr, refl, sym, ◌∙◌, ap, ap₂, subst, max, Bool, ltb, ◌&&◌, ◌||◌, List, [], ◌∷◌, map, length, Option, Some, None, arith}
use Rattle.std.proofs.lemmas.List.{length-map}
use Rattle.std.proofs.lemmas.Bool.{cases_lt}
use Rattle.std.proofs.lemmas.Bool.Decides.{nat_tests}
use Rattle.hs_base.specs.declared.rule.Rule.TheVariants.{S2}
use Rattle.hs_words.specs.declared.kinds.IntTy.{IntTy}
use Rattle.hs_syntax.specs.declared.span.Span.{Span}
use Rattle.hs_syntax.specs.declared.ty.Ty.{Ty, roll-Ty}
use Rattle.hs_syntax.specs.declared.ty.Ty.TheOpen.{Ty-F}
use Rattle.hs_syntax.specs.declared.ty.Ty.TheOpen as ty
use Rattle.hs_syntax.specs.declared.ty.Ty.TheFolds.{map-Ty, fold-roll-Ty, ind-Ty}
use Rattle.hs_syntax.specs.declared.file.File.{File}
use Rattle.hs_syntax.specs.Height.{capped}
use Rattle.hs_syntax.specs.Texts.{bytes_at}
use Rattle.hs_marks.specs.Marked.{Marked, node}
use Rattle.hs_symbols.specs.declared.referent.BuiltIn.{BuiltIn}
use Rattle.hs_symbols.specs.declared.referent.BuiltIn.TheVariants as b
use Rattle.hs_symbols.specs.declared.referent.Referent.{Referent}
use Rattle.hs_symbols.specs.declared.referent.Referent.TheVariants as r
use Rattle.hs_resolver.specs.Rules.{type_of}
use Rattle.hs_values.specs.declared.types.ValType.{ValType, roll-ValType}
use Rattle.hs_values.specs.declared.types.ValType.TheOpen as type
use Rattle.hs_values.specs.declared.types.ValType.TheFolds.{fold-roll-ValType}
use Rattle.hs_values.specs.declared.types.TypeDef.{TypeDef}
use Rattle.hs_items.specs.declared.facts.Facts.{Facts}
use Rattle.hs_items.specs.declared.shape.Shape.{Shape}
use Rattle.hs_items.specs.declared.shape.Shape.TheVariants as shape
use Rattle.hs_items.specs.Whole.{Whole, none, join, entry, expand_layer, expanded, facts_of, height, nodes, items, copied, has_zero}
use Rattle.hs_items.specs.Whole as whole
use Rattle.hs_items.specs.Rules.{too_great}
use Rattle.hs_items.specs.Meaning.{stands, known, unit, tuple, built_type, named_type, meaning_layer}
use Rattle.hs_items.specs.Nodes.{row}
use Rattle.hs_items.specs.Marks.{when, Written, asked_of, means_of, parts_mean, written, written_layer}
use Rattle.hs_items.specs.Walk.{limited, nothing, over, single, of_row, built_facts, named_facts, Measured, marked_of, of_parts, measured, measured_layer, facts_of_ty, nodes_of_ty}
use Rattle.hs_items.proofs.Asking.{nothing_is, join_none, over_is, of_row_is, below_cap, above_cap}

-- ---- rules do not see the limit

keeps_by : (m n : ℕ) → m < 4294967295 → (4294967295 < n) ⊎ (n ≤ 4294967295) → ltb m (capped n) ≡ ltb m n
keeps_by m n h (inl k) = let e : capped n ≡ 4294967295 = above_cap n (omega arith) in rw e (grind (arith, nat_tests))
keeps_by m n h (inr k) = ap (ltb m) (below_cap n k)

keeps : (m n : ℕ) → m < 4294967295 → ltb m (capped n) ≡ ltb m n
keeps m n h = keeps_by m n h (cases_lt 4294967295 n)

pub great_is : (f : Facts) → too_great (limited f) ≡ too_great f
great_is f = ap₂ (λ a b. a || b) (keeps 48 f.height (omega arith)) (keeps 4096 f.nodes (omega arith))

-- ---- types with all names expanded

-- of a type without parts
pub single_is : single ≡ limited (facts_of whole.single)
single_is = ap (over shape.Single) nothing_is ∙ over_is shape.Single none

join_right : (v w u : Whole) → facts_of w ≡ facts_of u → facts_of (join v w) ≡ facts_of (join v u)
join_right v w u e =
    ap (λ (f : Facts). record { height = max (height v) f.height; nodes = nodes v + f.nodes; items = items v + f.items; copied = copied v && f.copied; has_zero = has_zero v && f.has_zero }) e

-- of a type over a row of one or two
pub over_one : (s : Shape) (w : Whole) (f : Facts) → f ≡ limited (facts_of (whole.row (w ∷ []))) → over s f ≡ limited (facts_of (whole.node s w))
over_one s w f h = ap (over s) (h ∙ ap limited (join_none w)) ∙ over_is s w

over_two : (s : Shape) (v w : Whole) (f : Facts) → f ≡ limited (facts_of (whole.row (v ∷ w ∷ []))) → over s f ≡ limited (facts_of (whole.node s (join v w)))
over_two s v w f h = ap (over s) (h ∙ ap limited (join_right v (join w none) w (join_none w))) ∙ over_is s (join v w)

module _ (table : List TypeDef) where
  abbrev asked : ValType → Facts
  asked t = limited (facts_of (expanded table t))

  expands : (y : type.ValType-F ValType) (w : Whole) → expanded table (roll-ValType y) ≡ w → limited (facts_of w) ≡ asked (roll-ValType y)
  expands y w e = ap (λ (w : Whole). limited (facts_of w)) (sym e)

  pub unit_is : single ≡ asked unit
  unit_is = single_is ∙ expands type.Unit whole.single (fold-roll-ValType Whole (expand_layer (entry table)) type.Unit)

  pub int_is : (k : IntTy) → single ≡ asked (roll-ValType (type.Int k))
  int_is k = single_is ∙ expands (type.Int k) whole.single (fold-roll-ValType Whole (expand_layer (entry table)) (type.Int k))

  bool_is : single ≡ asked (roll-ValType type.Bool)
  bool_is = single_is ∙ expands type.Bool whole.single (fold-roll-ValType Whole (expand_layer (entry table)) type.Bool)

  seq_is : (t : ValType) (f : Facts) → f ≡ limited (facts_of (whole.row (expanded table t ∷ []))) → over shape.Sequence f ≡ asked (roll-ValType (type.Seq t))
  seq_is t f h =
      over_one shape.Sequence (expanded table t) f h
      ∙ expands (type.Seq t) (whole.node shape.Sequence (expanded table t)) (fold-roll-ValType Whole (expand_layer (entry table)) (type.Seq t))

  option_is : (t : ValType) (f : Facts) → f ≡ limited (facts_of (whole.row (expanded table t ∷ []))) → over shape.Choice f ≡ asked (roll-ValType (type.Option t))
  option_is t f h =
      over_one shape.Choice (expanded table t) f h
      ∙ expands (type.Option t) (whole.node shape.Choice (expanded table t)) (fold-roll-ValType Whole (expand_layer (entry table)) (type.Option t))

  result_is : (t u : ValType) (f : Facts) → f ≡ limited (facts_of (whole.row (expanded table t ∷ expanded table u ∷ []))) → over shape.Choice f ≡ asked (roll-ValType (type.Result t u))
  result_is t u f h =
      over_two shape.Choice (expanded table t) (expanded table u) f h
      ∙ expands (type.Result t u) (whole.node shape.Choice (join (expanded table t) (expanded table u))) (fold-roll-ValType Whole (expand_layer (entry table)) (type.Result t u))

  tuple_is : (ts : List ValType) (f : Facts) → f ≡ limited (facts_of (whole.row (map (expanded table) ts))) → over shape.Tuple f ≡ asked (tuple ts)
  tuple_is ts f h =
      ap (over shape.Tuple) h ∙ over_is shape.Tuple (whole.row (map (expanded table) ts))
      ∙ expands (type.Tuple ts) (whole.node shape.Tuple (whole.row (map (expanded table) ts))) (fold-roll-ValType Whole (expand_layer (entry table)) (type.Tuple ts))

  built_is : (x : BuiltIn) (ts : List ValType) (f : Facts) → f ≡ limited (facts_of (whole.row (map (expanded table) ts))) → built_facts x (length ts) f ≡ asked (built_type x ts)
  built_is (b.Int k) ts f h = int_is k
  built_is b.Bool ts f h = bool_is
  built_is b.Seq [] f h = unit_is
  built_is b.Seq (t ∷ []) f h = seq_is t f h
  built_is b.Seq (t ∷ (u ∷ ts)) f h = unit_is
  built_is b.Option [] f h = unit_is
  built_is b.Option (t ∷ []) f h = option_is t f h
  built_is b.Option (t ∷ (u ∷ ts)) f h = unit_is
  built_is b.Result [] f h = unit_is
  built_is b.Result (t ∷ []) f h = unit_is
  built_is b.Result (t ∷ (u ∷ [])) f h = result_is t u f h
  built_is b.Result (t ∷ (u ∷ (v ∷ ts))) f h = unit_is
  built_is b.Some ts f h = unit_is
  built_is b.None ts f h = unit_is
  built_is b.Ok ts f h = unit_is
  built_is b.Err ts f h = unit_is
  built_is (b.Convert k l) ts f h = unit_is

  module _ (stand : ℕ → ValType) (of_item : ℕ → Facts) (agree : (k : ℕ) → of_item k ≡ asked (stand k)) where
    named_is : (x : Option Referent) (ts : List ValType) (f : Facts) → f ≡ limited (facts_of (whole.row (map (expanded table) ts)))
        → named_facts of_item x (length ts) f ≡ asked (named_type stand x ts)
    named_is None ts f h = unit_is
    named_is (Some (r.Local k)) ts f h = unit_is
    named_is (Some (r.Item k)) ts f h = agree k
    named_is (Some (r.Ctor k c)) ts f h = unit_is
    named_is (Some (r.BuiltIn x)) ts f h = built_is x ts f h

-- ---- written types

module _ (file : File) (order : List ℕ) (of_item : ℕ → Facts) (agree : (k : ℕ) → of_item k ≡ limited (asked_of file order (stands (known file order) k))) where
  abbrev table : List TypeDef
  table = (known file order).table

  abbrev AgreesOn : Measured → Written → ValType → Type 0
  AgreesOn m w t = (m.facts ≡ limited (asked_of file order t)) × (marked_of m ≡ w.nodes) × (w.means ≡ t)

  abbrev Agrees : Ty → Type 0
  Agrees t = AgreesOn (measured file of_item t) (written file order t) (means_of file order t)

  abbrev AgreeingTy : Type 0
  AgreeingTy = (t : Ty) × Agrees t

  abbrev inside : Ty-F AgreeingTy → Ty-F Ty
  inside y = map-Ty AgreeingTy Ty (λ x. x.0) y

  abbrev firsts : List AgreeingTy → List Ty
  firsts ts = map (λ (x : AgreeingTy). x.0) ts

  abbrev stand : ℕ → ValType
  stand = stands (known file order)

  abbrev measures : List AgreeingTy → List Measured
  measures ts = map (measured file of_item) (firsts ts)

  abbrev writtens : List AgreeingTy → List Written
  writtens ts = map (written file order) (firsts ts)

  abbrev means : List AgreeingTy → List ValType
  means ts = map (means_of file order) (firsts ts)

  facts_list : (ts : List AgreeingTy) → map (λ (m : Measured). m.facts) (map (measured file of_item) (firsts ts)) ≡ map (λ (w : Whole). limited (facts_of w)) (map (expanded table) (map (means_of file order) (firsts ts)))
  facts_list [] = refl
  facts_list (t ∷ ts) = ap₂ (λ (f : Facts) (fs : List Facts). f ∷ fs) t.1.0 (facts_list ts)

  facts_row : (ts : List AgreeingTy) → of_parts (map (measured file of_item) (firsts ts)) ≡ limited (facts_of (whole.row (map (expanded table) (map (means_of file order) (firsts ts)))))
  facts_row ts = ap of_row (facts_list ts) ∙ of_row_is (map (expanded table) (map (means_of file order) (firsts ts)))

  nodes_list : (ts : List AgreeingTy) → map marked_of (map (measured file of_item) (firsts ts)) ≡ map (λ (w : Written). w.nodes) (map (written file order) (firsts ts))
  nodes_list [] = refl
  nodes_list (t ∷ ts) = ap₂ (λ (m : Marked) (ms : List Marked). m ∷ ms) t.1.1 (nodes_list ts)

  means_list : (ts : List AgreeingTy) → parts_mean file order (map (written file order) (firsts ts)) ≡ map (means_of file order) (firsts ts)
  means_list [] = refl
  means_list (t ∷ ts) = ap₂ (λ (u : ValType) (us : List ValType). u ∷ us) t.1.2 (means_list ts)

  counts : (ts : List AgreeingTy) → length (map (measured file of_item) (firsts ts)) ≡ length (map (means_of file order) (firsts ts))
  counts ts = length-map (firsts ts) (measured file of_item) ∙ sym (length-map (firsts ts) (means_of file order))

  written_counts : (ts : List AgreeingTy) → length (map (written file order) (firsts ts)) ≡ length (map (means_of file order) (firsts ts))
  written_counts ts = length-map (firsts ts) (written file order) ∙ sym (length-map (firsts ts) (means_of file order))

  -- one type by what is asked of it, what it means, and its parts
  one_agrees : (s : Span) (f : Facts) (t u : ValType) (x y : Marked) → f ≡ limited (asked_of file order t) → u ≡ t → x ≡ y
      → AgreesOn (record { at = s; facts = f; inside = x }) (record { means = u; nodes = node s (when (too_great (asked_of file order u)) S2) y }) t
  one_agrees s f t u x y e m p =
      let same : too_great f ≡ too_great (asked_of file order u) = ap too_great e ∙ great_is (asked_of file order t) ∙ ap (λ (t : ValType). too_great (asked_of file order t)) (sym m) in
      (e, ap₂ (λ (c : Bool) (z : Marked). node s (when c S2) z) same p, m)

  layer_agrees : (y : Ty-F AgreeingTy)
      → AgreesOn (measured_layer file of_item (map-Ty Ty Measured (measured file of_item) (inside y))) (written_layer file order (map-Ty Ty Written (written file order) (inside y))) (meaning_layer file (stands (known file order)) (map-Ty Ty ValType (means_of file order) (inside y)))
  layer_agrees (ty.Name n) =
      one_agrees n (named_facts of_item (type_of file (bytes_at file.text n) 0) 0 nothing)
      (named_type stand (type_of file (bytes_at file.text n) 0) []) (named_type stand (type_of file (bytes_at file.text n) 0) []) (row []) (row [])
      (named_is table stand of_item agree (type_of file (bytes_at file.text n) 0) [] nothing nothing_is) refl refl
  layer_agrees (ty.Unit s) = one_agrees s single unit unit (row []) (row []) (unit_is table) refl refl
  layer_agrees (ty.Tuple s ts) =
      one_agrees s (over shape.Tuple (of_parts (measures ts))) (tuple (means ts)) (tuple (parts_mean file order (writtens ts))) (row (map marked_of (measures ts))) (row (map (λ (w : Written). w.nodes) (writtens ts)))
      (tuple_is table (means ts) (of_parts (measures ts)) (facts_row ts)) (ap tuple (means_list ts)) (ap row (nodes_list ts))
  layer_agrees (ty.Applied s n ts) =
      one_agrees s (named_facts of_item (type_of file (bytes_at file.text n) (length (measures ts))) (length (measures ts)) (of_parts (measures ts)))
      (named_type stand (type_of file (bytes_at file.text n) (length (means ts))) (means ts))
      (named_type stand (type_of file (bytes_at file.text n) (length (writtens ts))) (parts_mean file order (writtens ts)))
      (row (map marked_of (measures ts))) (row (map (λ (w : Written). w.nodes) (writtens ts)))
      (ap (λ (k : ℕ). named_facts of_item (type_of file (bytes_at file.text n) k) k (of_parts (measures ts))) (counts ts)
      ∙ named_is table stand of_item agree (type_of file (bytes_at file.text n) (length (means ts))) (means ts) (of_parts (measures ts)) (facts_row ts))
      (ap₂ (λ (k : ℕ) (us : List ValType). named_type stand (type_of file (bytes_at file.text n) k) us) (written_counts ts) (means_list ts))
      (ap row (nodes_list ts))

  level_agrees : (y : Ty-F AgreeingTy) → Agrees (roll-Ty (inside y))
  level_agrees y =
      subst (λ (m : Measured). AgreesOn m (written file order (roll-Ty (inside y))) (means_of file order (roll-Ty (inside y)))) (sym (fold-roll-Ty Measured (measured_layer file of_item) (inside y)))
      (subst (λ (w : Written). AgreesOn (measured_layer file of_item (map-Ty Ty Measured (measured file of_item) (inside y))) w (means_of file order (roll-Ty (inside y)))) (sym (fold-roll-Ty Written (written_layer file order) (inside y)))
      (subst (λ (t : ValType). AgreesOn (measured_layer file of_item (map-Ty Ty Measured (measured file of_item) (inside y))) (written_layer file order (map-Ty Ty Written (written file order) (inside y))) t) (sym (fold-roll-Ty ValType (meaning_layer file (stands (known file order))) (inside y)))
      (layer_agrees y)))

  pub ty_agrees : (t : Ty) → Agrees t
  ty_agrees = ind-Ty Agrees (λ x y is. subst (λ z. Agrees (roll-Ty z)) is (level_agrees y))

  pub facts_agree : (t : Ty) → facts_of_ty file of_item t ≡ limited (asked_of file order (means_of file order t))
  facts_agree t = (ty_agrees t).0

  pub nodes_agree : (t : Ty) → nodes_of_ty file of_item t ≡ (written file order t).nodes
  nodes_agree t = (ty_agrees t).1
