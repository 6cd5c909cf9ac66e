-- The names of types: a type whose names are among the first entries of a table is expanded alike by all tables that begin so.
use Rattle.std.proofs.Common.{ℕ, ◌+◌, ◌≡◌, ◌<◌, ◌≤◌, refl, sym, ◌∙◌, ap, ap₂, subst, Bool, true, false, cond, ltb, ◌&&◌, nat_eq, List, [], ◌∷◌, ◌++◌, map, length, reverse, append_assoc, append-nil, Option, Some, None, arith}
use Rattle.std.specs.List.{list_all}
use Rattle.std.proofs.lemmas.List.{length-append, length-reverse, reverse-append}
use Rattle.std.proofs.lemmas.Bool.Decides.{nat_tests}
use Rattle.hs_words.specs.declared.kinds.IntTy.{IntTy}
use Rattle.hs_syntax.specs.declared.ty.Ty.{Ty, roll-Ty}
use Rattle.hs_syntax.specs.declared.ty.Ty.TheOpen.{Ty-F}
use Rattle.hs_syntax.specs.declared.ty.Ty.TheOpen as ty
use Rattle.hs_syntax.specs.declared.ty.Ty.TheFolds.{map-Ty, fold-roll-Ty, ind-Ty}
use Rattle.hs_syntax.specs.declared.file.File.{File}
use Rattle.hs_syntax.specs.Texts.{bytes_at}
use Rattle.hs_resolver.specs.Rules.{type_of}
use Rattle.hs_symbols.specs.declared.referent.BuiltIn.{BuiltIn}
use Rattle.hs_symbols.specs.declared.referent.BuiltIn.TheVariants as b
use Rattle.hs_symbols.specs.declared.referent.Referent.{Referent}
use Rattle.hs_symbols.specs.declared.referent.Referent.TheVariants as r
use Rattle.hs_values.specs.declared.types.ValType.{ValType, roll-ValType}
use Rattle.hs_values.specs.declared.types.ValType.TheOpen.{ValType-F}
use Rattle.hs_values.specs.declared.types.ValType.TheOpen as type
use Rattle.hs_values.specs.declared.types.ValType.TheFolds.{map-ValType, fold-roll-ValType, ind-ValType}
use Rattle.hs_values.specs.declared.types.TypeDef.{TypeDef}
use Rattle.hs_items.specs.declared.shape.Shape.TheVariants as shape
use Rattle.hs_items.specs.Whole.{Whole, node, join, row, expand_layer, expand, expand_def, numbered, entry, expanded}
use Rattle.hs_items.specs.Meaning.{unit, tuple, built_type, named_type, meaning, meaning_layer}
use Rattle.hs_items.specs.Declares.{below_layer, below, all_below}

pub and_left : (a b : Bool) → (a && b) ≡ true → a ≡ true
and_left true b h = refl
and_left false b h = h

pub and_right : (a b : Bool) → (a && b) ≡ true → b ≡ true
and_right true b h = h
and_right false b h = cc

pub both : (a b : Bool) → a ≡ true → b ≡ true → (a && b) ≡ true
both true b h k = k
both false b h k = h

-- the same of three
pub three : (a b c : Bool) → a ≡ true → b ≡ true → c ≡ true → (a && b && c) ≡ true
three a b c h k l = rw (h, k, l) refl

pub first_of : (a b c : Bool) → (a && b && c) ≡ true → a ≡ true
first_of true b c h = refl
first_of false b c h = h

pub second_of : (a b c : Bool) → (a && b && c) ≡ true → b ≡ true
second_of true true c h = refl
second_of true false c h = h
second_of false b c h = cc

pub third_of : (a b c : Bool) → (a && b && c) ≡ true → c ≡ true
third_of true true c h = h
third_of true false c h = cc
third_of false b c h = cc

pub lt_of_test : (k n : ℕ) → ltb k n ≡ true → k < n
lt_of_test k n h = grind (arith, nat_tests)

pub test_of_lt : (k n : ℕ) → k < n → ltb k n ≡ true
test_of_lt k n h = grind (arith, nat_tests)

-- ---- types that two ways to expand names agree on

module _ (f g : ℕ → Whole) (count : ℕ) (same : (k : ℕ) → k < count → f k ≡ g k) where
  abbrev Same : ValType → Type 0
  Same t = below count t ≡ true → expand f t ≡ expand g t

  abbrev SameType : Type 0
  SameType = (t : ValType) × Same t

  abbrev inside : ValType-F SameType → ValType-F ValType
  inside y = map-ValType SameType ValType (λ x. x.0) y

  abbrev firsts : List SameType → List ValType
  firsts ts = map (λ (x : SameType). x.0) ts

  same_list : (ts : List SameType) → list_all (λ b. b) (map (below count) (firsts ts)) ≡ true → row (map (expand f) (firsts ts)) ≡ row (map (expand g) (firsts ts))
  same_list [] h = refl
  same_list (t ∷ ts) h = ap₂ join (t.1 (and_left (below count t.0) (list_all (λ b. b) (map (below count) (firsts ts))) h)) (same_list ts (and_right (below count t.0) (list_all (λ b. b) (map (below count) (firsts ts))) h))

  same_layer : (y : ValType-F SameType) → below_layer count (map-ValType ValType Bool (below count) (inside y)) ≡ true
      → expand_layer f (map-ValType ValType Whole (expand f) (inside y)) ≡ expand_layer g (map-ValType ValType Whole (expand g) (inside y))
  same_layer type.Unit h = refl
  same_layer type.Bool h = refl
  same_layer (type.Int k) h = refl
  same_layer (type.Seq t) h = ap (node shape.Sequence) (t.1 h)
  same_layer (type.Named k) h = same k (lt_of_test k count h)
  same_layer (type.Tuple ts) h = ap (node shape.Tuple) (same_list ts h)
  same_layer (type.Option t) h = ap (node shape.Choice) (t.1 h)
  same_layer (type.Result t u) h = ap₂ (λ (v w : Whole). node shape.Choice (join v w)) (t.1 (and_left (below count t.0) (below count u.0) h)) (u.1 (and_right (below count t.0) (below count u.0) h))

  same_level : (y : ValType-F SameType) → Same (roll-ValType (inside y))
  same_level y h =
      fold-roll-ValType Whole (expand_layer f) (inside y)
      ∙ same_layer y (sym (fold-roll-ValType Bool (below_layer count) (inside y)) ∙ h)
      ∙ sym (fold-roll-ValType Whole (expand_layer g) (inside y))

  pub same_expanded : (t : ValType) → Same t
  same_expanded = ind-ValType Same (λ x y is. subst (λ z. Same (roll-ValType z)) is (same_level y))

-- ---- more entries

-- what has names among the first entries has them among more
module _ (few many : ℕ) (more : few ≤ many) where
  abbrev Wider : ValType → Type 0
  Wider t = below few t ≡ true → below many t ≡ true

  abbrev WideType : Type 0
  WideType = (t : ValType) × Wider t

  abbrev within : ValType-F WideType → ValType-F ValType
  within y = map-ValType WideType ValType (λ x. x.0) y

  abbrev types : List WideType → List ValType
  types ts = map (λ (x : WideType). x.0) ts

  wider_list : (ts : List WideType) → list_all (λ b. b) (map (below few) (types ts)) ≡ true → list_all (λ b. b) (map (below many) (types ts)) ≡ true
  wider_list [] h = refl
  wider_list (t ∷ ts) h = both (below many t.0) (list_all (λ b. b) (map (below many) (types ts))) (t.1 (and_left (below few t.0) (list_all (λ b. b) (map (below few) (types ts))) h)) (wider_list ts (and_right (below few t.0) (list_all (λ b. b) (map (below few) (types ts))) h))

  wider_number : (k : ℕ) → ltb k few ≡ true → ltb k many ≡ true
  wider_number k h = let l = lt_of_test k few h in test_of_lt k many (omega (arith, l))

  wider_layer : (y : ValType-F WideType) → below_layer few (map-ValType ValType Bool (below few) (within y)) ≡ true → below_layer many (map-ValType ValType Bool (below many) (within y)) ≡ true
  wider_layer type.Unit h = refl
  wider_layer type.Bool h = refl
  wider_layer (type.Int k) h = refl
  wider_layer (type.Seq t) h = t.1 h
  wider_layer (type.Named k) h = wider_number k h
  wider_layer (type.Tuple ts) h = wider_list ts h
  wider_layer (type.Option t) h = t.1 h
  wider_layer (type.Result t u) h = both (below many t.0) (below many u.0) (t.1 (and_left (below few t.0) (below few u.0) h)) (u.1 (and_right (below few t.0) (below few u.0) h))

  wider_level : (y : ValType-F WideType) → Wider (roll-ValType (within y))
  wider_level y h =
      fold-roll-ValType Bool (below_layer many) (within y) ∙ wider_layer y (sym (fold-roll-ValType Bool (below_layer few) (within y)) ∙ h)

  pub wider : (t : ValType) → Wider t
  wider = ind-ValType Wider (λ x y is. subst (λ z. Wider (roll-ValType z)) is (wider_level y))

-- one entry more
last_entry : (table : List TypeDef) (d : TypeDef) (k : ℕ) → entry (table ++ d ∷ []) k ≡ numbered (d ∷ reverse table) k
last_entry table d k = ap (λ (ds : List TypeDef). numbered ds k) (reverse-append table (d ∷ []))

pub entry_new : (table : List TypeDef) (d : TypeDef) → entry (table ++ d ∷ []) (length table) ≡ expand_def (entry table) d
entry_new table d =
    last_entry table d (length table)
    ∙ (let e : nat_eq (length table) (length (reverse table)) ≡ true = let l = length-reverse table in grind (arith, nat_tests, l) in
    ap (λ (b : Bool). cond b (expand_def (entry table) d) (entry table (length table))) e)

entry_old : (table : List TypeDef) (d : TypeDef) (k : ℕ) → k < length table → entry (table ++ d ∷ []) k ≡ entry table k
entry_old table d k h =
    last_entry table d k
    ∙ (let e : nat_eq k (length (reverse table)) ≡ false = let l = length-reverse table in grind (arith, nat_tests, l, h) in
    ap (λ (b : Bool). cond b (expand_def (entry table) d) (entry table k)) e)

-- entries stay as they are
pub entry_stays : (ds : List TypeDef) (table : List TypeDef) (k : ℕ) → k < length table → entry (table ++ ds) k ≡ entry table k
entry_stays [] table k h = ap (λ (t : List TypeDef). entry t k) (append-nil table)
entry_stays (d ∷ ds) table k h =
    let l = length-append table (d ∷ []) in
    ap (λ (t : List TypeDef). entry t k) (sym (append_assoc table (d ∷ []) ds))
    ∙ entry_stays ds (table ++ d ∷ []) k (omega (arith, l, h)) ∙ entry_old table d k h

pub expanded_stays : (ds : List TypeDef) (table : List TypeDef) (t : ValType) → below (length table) t ≡ true → expanded (table ++ ds) t ≡ expanded table t
expanded_stays ds table t h = same_expanded (entry (table ++ ds)) (entry table) (length table) (λ k l. entry_stays ds table k l) t h

-- ---- what written types mean

module _ (count : ℕ) where
  pub unit_below : below count unit ≡ true
  unit_below = fold-roll-ValType Bool (below_layer count) type.Unit

  pub int_below : (k : IntTy) → below count (roll-ValType (type.Int k)) ≡ true
  int_below k = fold-roll-ValType Bool (below_layer count) (type.Int k)

  pub number_below : (k : ℕ) → k < count → below count (roll-ValType (type.Named k)) ≡ true
  number_below k h = fold-roll-ValType Bool (below_layer count) (type.Named k) ∙ test_of_lt k count h

  -- of a list, one by one or as the parts of a tuple
  each_below : (ts : List ValType) → list_all (λ b. b) (map (below count) ts) ≡ all_below count ts
  each_below [] = refl
  each_below (t ∷ ts) = ap (λ (b : Bool). below count t && b) (each_below ts)

  pub tuple_below : (ts : List ValType) → all_below count ts ≡ true → below count (tuple ts) ≡ true
  tuple_below ts h = fold-roll-ValType Bool (below_layer count) (type.Tuple ts) ∙ each_below ts ∙ h

  built_below : (x : BuiltIn) (ts : List ValType) → all_below count ts ≡ true → below count (built_type x ts) ≡ true
  built_below (b.Int k) ts h = fold-roll-ValType Bool (below_layer count) (type.Int k)
  built_below b.Bool ts h = fold-roll-ValType Bool (below_layer count) type.Bool
  built_below b.Seq [] h = unit_below
  built_below b.Seq (t ∷ []) h = fold-roll-ValType Bool (below_layer count) (type.Seq t) ∙ and_left (below count t) true h
  built_below b.Seq (t ∷ (u ∷ ts)) h = unit_below
  built_below b.Option [] h = unit_below
  built_below b.Option (t ∷ []) h = fold-roll-ValType Bool (below_layer count) (type.Option t) ∙ and_left (below count t) true h
  built_below b.Option (t ∷ (u ∷ ts)) h = unit_below
  built_below b.Result [] h = unit_below
  built_below b.Result (t ∷ []) h = unit_below
  built_below b.Result (t ∷ (u ∷ [])) h = fold-roll-ValType Bool (below_layer count) (type.Result t u) ∙ both (below count t) (below count u) (and_left (below count t) (below count u && true) h) (and_left (below count u) true (and_right (below count t) (below count u && true) h))
  built_below b.Result (t ∷ (u ∷ (v ∷ ts))) h = unit_below
  built_below b.Some ts h = unit_below
  built_below b.None ts h = unit_below
  built_below b.Ok ts h = unit_below
  built_below b.Err ts h = unit_below
  built_below (b.Convert k l) ts h = unit_below

  module _ (stand : ℕ → ValType) (are : (k : ℕ) → below count (stand k) ≡ true) where
    named_below : (x : Option Referent) (ts : List ValType) → all_below count ts ≡ true → below count (named_type stand x ts) ≡ true
    named_below None ts h = unit_below
    named_below (Some (r.Local k)) ts h = unit_below
    named_below (Some (r.Item k)) ts h = are k
    named_below (Some (r.Ctor k c)) ts h = unit_below
    named_below (Some (r.BuiltIn x)) ts h = built_below x ts h

    module _ (file : File) where
      abbrev Means : Ty → Type 0
      Means t = below count (meaning file stand t) ≡ true

      abbrev MeantTy : Type 0
      MeantTy = (t : Ty) × Means t

      abbrev inner : Ty-F MeantTy → Ty-F Ty
      inner y = map-Ty MeantTy Ty (λ x. x.0) y

      abbrev meant : List MeantTy → List ValType
      meant ts = map (meaning file stand) (map (λ (x : MeantTy). x.0) ts)

      list_below : (ts : List MeantTy) → all_below count (meant ts) ≡ true
      list_below [] = refl
      list_below (t ∷ ts) = both (below count (meaning file stand t.0)) (all_below count (meant ts)) t.1 (list_below ts)

      layer_below : (y : Ty-F MeantTy) → below count (meaning_layer file stand (map-Ty Ty ValType (meaning file stand) (inner y))) ≡ true
      layer_below (ty.Name n) = named_below (type_of file (bytes_at file.text n) 0) [] refl
      layer_below (ty.Unit s) = unit_below
      layer_below (ty.Tuple s ts) = tuple_below (meant ts) (list_below ts)
      layer_below (ty.Applied s n ts) = named_below (type_of file (bytes_at file.text n) (length (meant ts))) (meant ts) (list_below ts)

      level_below : (y : Ty-F MeantTy) → Means (roll-Ty (inner y))
      level_below y = ap (below count) (fold-roll-Ty ValType (meaning_layer file stand) (inner y)) ∙ layer_below y

      pub meaning_below : (t : Ty) → Means t
      meaning_below = ind-Ty Means (λ x y is. subst (λ z. Means (roll-Ty z)) is (level_below y))

      pub meanings_below : (ts : List Ty) → all_below count (map (meaning file stand) ts) ≡ true
      meanings_below [] = refl
      meanings_below (t ∷ ts) = both (below count (meaning file stand t)) (all_below count (map (meaning file stand) ts)) (meaning_below t) (meanings_below ts)
