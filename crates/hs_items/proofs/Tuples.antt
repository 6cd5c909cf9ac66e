-- Tuples in the types that a file declares, which is well formed and passes no limit, have 2 to 12 parts.
use Rattle.std.proofs.Common.{ℕ, zero, suc, ◌≡◌, ◌≤◌, refl, sym, ◌∙◌, ap, subst, Bool, true, false, cond, ◌&&◌, leb, nat_eq, List, [], ◌∷◌, ◌++◌, map, length, reverse, slice_get, Option, Some, None, arith}
use Rattle.std.specs.List.{list_all}
use Rattle.std.proofs.lemmas.List.{length-map, length-append}
use Rattle.std.proofs.lemmas.Bool.Decides.{nat_tests}
use Rattle.hs_words.specs.declared.kinds.IntTy.{IntTy}
use Rattle.hs_words.specs.declared.kinds.IntTy.TheVariants as int
use Rattle.hs_syntax.specs.declared.ty.Ty.{Ty, roll-Ty}
use Rattle.hs_syntax.specs.declared.ty.Ty.TheOpen.{Ty-F}
use Rattle.hs_syntax.specs.declared.ty.Ty.TheOpen as ty
use Rattle.hs_syntax.specs.declared.ty.Ty.TheFolds.{map-Ty, fold-roll-Ty, ind-Ty}
use Rattle.hs_syntax.specs.declared.file.File.{File}
use Rattle.hs_syntax.specs.declared.item.Item.{Item}
use Rattle.hs_syntax.specs.declared.item.Ctor.{Ctor}
use Rattle.hs_syntax.specs.declared.item.Param.{Param}
use Rattle.hs_syntax.specs.declared.item.Mode.{Mode}
use Rattle.hs_syntax.specs.declared.item.Mode.TheVariants as written
use Rattle.hs_syntax.specs.declared.item.ItemKind.{ItemKind}
use Rattle.hs_syntax.specs.declared.item.ItemKind.TheVariants as item
use Rattle.hs_syntax.specs.Texts.{bytes_at}
use Rattle.hs_syntax.specs.WellFormed as well
use Rattle.hs_syntax.specs.WellFormed.{named, at_least_two, each, well_ty, well_tys, well_optional_ty, well_ctor, well_param, well_kind, well_item, well_exp, well_block, WellFormed}
use Rattle.hs_limits.specs.Outline.{Node, parameter, part, one}
use Rattle.hs_limits.specs.Breaks.{marks_of}
use Rattle.hs_limits.specs.Nodes as nodes
use Rattle.hs_limits.specs.Nodes.{node_of_ty, node_of_ctor, node_of_param, optional_ty, kind_outline}
use Rattle.hs_symbols.specs.declared.referent.BuiltIn.{BuiltIn}
use Rattle.hs_symbols.specs.declared.referent.BuiltIn.TheVariants as b
use Rattle.hs_symbols.specs.declared.referent.Referent.{Referent}
use Rattle.hs_symbols.specs.declared.referent.Referent.TheVariants as r
use Rattle.hs_resolver.specs.Rules.{type_of}
use Rattle.hs_values.specs.declared.types.ValType.{ValType, roll-ValType, fold-ValType}
use Rattle.hs_values.specs.declared.types.ValType.TheOpen.{ValType-F}
use Rattle.hs_values.specs.declared.types.ValType.TheOpen as type
use Rattle.hs_values.specs.declared.types.ValType.TheFolds.{map-ValType, fold-roll-ValType, ind-ValType}
use Rattle.hs_values.specs.declared.types.TypeKind.{TypeKind}
use Rattle.hs_values.specs.declared.types.TypeKind.TheVariants as kind
use Rattle.hs_values.specs.declared.types.TypeDef.{TypeDef}
use Rattle.hs_items.specs.declared.decls.Declaration.{Declaration}
use Rattle.hs_items.specs.declared.decls.Declaration.TheVariants as d
use Rattle.hs_items.specs.Meaning.{unit, tuple, built_type, named_type, given, meaning, meaning_layer, meanings, result_type, lent_type, lent_types, ctors, definitions, declaration, type_in, Listed, stands, with_item, listed, known}
use Rattle.hs_items.specs.Declares.{below_layer, below, all_below, kind_below, declaration_below}
use Rattle.hs_items.specs.Promises.{few_parts, made_layer, well_made, kind_made, declaration_made}
use Rattle.hs_items.proofs.Below.{and_left, and_right, both, first_of, second_of, third_of}
use Rattle.hs_items.proofs.Clear.{clear_first, clear_second, clear_inside}
use Rattle.hs_items.proofs.Limits.{Within, Insides, numbered_insides, all_insides, upto_few, kind_within}

-- ---- the tuples of a type

module _ (source : Bool) where
  abbrev pub tuples_layer : ValType-F Bool → Bool
  tuples_layer type.Unit = true
  tuples_layer type.Bool = true
  tuples_layer (type.Int k) = true
  tuples_layer (type.Seq t) = t
  tuples_layer (type.Named n) = true
  tuples_layer (type.Tuple ts) = few_parts source (length ts) && list_all (λ t. t) ts
  tuples_layer (type.Option t) = t
  tuples_layer (type.Result good bad) = good && bad

  -- each has not too few parts or too many
  abbrev pub tuples : ValType → Bool
  tuples = fold-ValType Bool tuples_layer

  abbrev pub all_tuples : List ValType → Bool
  all_tuples ts = list_all tuples ts

  -- of a list, one by one or as the parts of a tuple
  pub each_tuples : (ts : List ValType) → list_all (λ b. b) (map tuples ts) ≡ all_tuples ts
  each_tuples [] = refl
  each_tuples (t ∷ ts) = ap (λ (b : Bool). tuples t && b) (each_tuples ts)

  pub tuple_tuples : (ts : List ValType) → few_parts source (length ts) ≡ true → all_tuples ts ≡ true → tuples (tuple ts) ≡ true
  tuple_tuples ts few h =
      fold-roll-ValType Bool tuples_layer (type.Tuple ts)
      ∙ both (few_parts source (length (map tuples ts))) (list_all (λ b. b) (map tuples ts)) (ap (few_parts source) (length-map ts tuples) ∙ few) (each_tuples ts ∙ h)

  -- a type whose names are among the first and whose tuples are so is well made
  module _ (count : ℕ) where
    abbrev Splits : ValType → Type 0
    Splits t = below count t ≡ true → tuples t ≡ true → well_made source count t ≡ true

    abbrev SplitType : Type 0
    SplitType = (t : ValType) × Splits t

    abbrev inside : ValType-F SplitType → ValType-F ValType
    inside y = map-ValType SplitType ValType (λ x. x.0) y

    abbrev firsts : List SplitType → List ValType
    firsts ts = map (λ (x : SplitType). x.0) ts

    split_list : (ts : List SplitType) → list_all (λ b. b) (map (below count) (firsts ts)) ≡ true → list_all (λ b. b) (map tuples (firsts ts)) ≡ true
        → list_all (λ b. b) (map (well_made source count) (firsts ts)) ≡ true
    split_list [] h k = refl
    split_list (t ∷ ts) h k =
        both (well_made source count t.0) (list_all (λ b. b) (map (well_made source count) (firsts ts)))
        (t.1 (and_left (below count t.0) (list_all (λ b. b) (map (below count) (firsts ts))) h) (and_left (tuples t.0) (list_all (λ b. b) (map tuples (firsts ts))) k))
        (split_list ts (and_right (below count t.0) (list_all (λ b. b) (map (below count) (firsts ts))) h) (and_right (tuples t.0) (list_all (λ b. b) (map tuples (firsts ts))) k))

    split_layer : (y : ValType-F SplitType) → below_layer count (map-ValType ValType Bool (below count) (inside y)) ≡ true → tuples_layer (map-ValType ValType Bool tuples (inside y)) ≡ true
        → made_layer source count (map-ValType ValType Bool (well_made source count) (inside y)) ≡ true
    split_layer type.Unit h k = refl
    split_layer type.Bool h k = refl
    split_layer (type.Int i) h k = refl
    split_layer (type.Seq t) h k = t.1 h k
    split_layer (type.Named n) h k = h
    split_layer (type.Tuple ts) h k =
        let few = few_parts source (length (map tuples (firsts ts))) in
        let rest = list_all (λ b. b) (map tuples (firsts ts)) in
        both (few_parts source (length (map (well_made source count) (firsts ts)))) (list_all (λ b. b) (map (well_made source count) (firsts ts)))
        (ap (few_parts source) (length-map (firsts ts) (well_made source count) ∙ sym (length-map (firsts ts) tuples)) ∙ and_left few rest k)
        (split_list ts h (and_right few rest k))
    split_layer (type.Option t) h k = t.1 h k
    split_layer (type.Result t u) h k =
        both (well_made source count t.0) (well_made source count u.0)
        (t.1 (and_left (below count t.0) (below count u.0) h) (and_left (tuples t.0) (tuples u.0) k)) (u.1 (and_right (below count t.0) (below count u.0) h) (and_right (tuples t.0) (tuples u.0) k))

    split_level : (y : ValType-F SplitType) → Splits (roll-ValType (inside y))
    split_level y h k =
        fold-roll-ValType Bool (made_layer source count) (inside y)
        ∙ split_layer y (sym (fold-roll-ValType Bool (below_layer count) (inside y)) ∙ h) (sym (fold-roll-ValType Bool tuples_layer (inside y)) ∙ k)

    pub is_made : (t : ValType) → Splits t
    is_made = ind-ValType Splits (λ x y is. subst (λ z. Splits (roll-ValType z)) is (split_level y))

    pub all_made : (ts : List ValType) → all_below count ts ≡ true → all_tuples ts ≡ true → list_all (well_made source count) ts ≡ true
    all_made [] h k = refl
    all_made (t ∷ ts) h k =
        both (well_made source count t) (list_all (well_made source count) ts)
        (is_made t (and_left (below count t) (all_below count ts) h) (and_left (tuples t) (all_tuples ts) k))
        (all_made ts (and_right (below count t) (all_below count ts) h) (and_right (tuples t) (all_tuples ts) k))

-- tuples of a source are tuples of a later stage
few_later : (n : ℕ) → few_parts true n ≡ true → few_parts false n ≡ true
few_later n h = both (leb 2 n) true (and_left (leb 2 n) (leb n 12) h) refl

abbrev Later : ValType → Type 0
Later t = tuples true t ≡ true → tuples false t ≡ true

abbrev LaterType : Type 0
LaterType = (t : ValType) × Later t

abbrev within : ValType-F LaterType → ValType-F ValType
within y = map-ValType LaterType ValType (λ x. x.0) y

abbrev types : List LaterType → List ValType
types ts = map (λ (x : LaterType). x.0) ts

later_list : (ts : List LaterType) → list_all (λ b. b) (map (tuples true) (types ts)) ≡ true → list_all (λ b. b) (map (tuples false) (types ts)) ≡ true
later_list [] h = refl
later_list (t ∷ ts) h =
    both (tuples false t.0) (list_all (λ b. b) (map (tuples false) (types ts))) (t.1 (and_left (tuples true t.0) (list_all (λ b. b) (map (tuples true) (types ts))) h))
    (later_list ts (and_right (tuples true t.0) (list_all (λ b. b) (map (tuples true) (types ts))) h))

later_layer : (y : ValType-F LaterType) → tuples_layer true (map-ValType ValType Bool (tuples true) (within y)) ≡ true → tuples_layer false (map-ValType ValType Bool (tuples false) (within y)) ≡ true
later_layer type.Unit h = refl
later_layer type.Bool h = refl
later_layer (type.Int k) h = refl
later_layer (type.Seq t) h = t.1 h
later_layer (type.Named k) h = refl
later_layer (type.Tuple ts) h =
    let few = few_parts true (length (map (tuples true) (types ts))) in
    let rest = list_all (λ b. b) (map (tuples true) (types ts)) in
    both (few_parts false (length (map (tuples false) (types ts)))) (list_all (λ b. b) (map (tuples false) (types ts)))
    (ap (few_parts false) (length-map (types ts) (tuples false) ∙ sym (length-map (types ts) (tuples true))) ∙ few_later (length (map (tuples true) (types ts))) (and_left few rest h))
    (later_list ts (and_right few rest h))
later_layer (type.Option t) h = t.1 h
later_layer (type.Result t u) h = both (tuples false t.0) (tuples false u.0) (t.1 (and_left (tuples true t.0) (tuples true u.0) h)) (u.1 (and_right (tuples true t.0) (tuples true u.0) h))

later_level : (y : ValType-F LaterType) → Later (roll-ValType (within y))
later_level y h =
    fold-roll-ValType Bool (tuples_layer false) (within y) ∙ later_layer y (sym (fold-roll-ValType Bool (tuples_layer true) (within y)) ∙ h)

later : (t : ValType) → Later t
later = ind-ValType Later (λ x y is. subst (λ z. Later (roll-ValType z)) is (later_level y))

all_later : (ts : List ValType) → all_tuples true ts ≡ true → all_tuples false ts ≡ true
all_later [] h = refl
all_later (t ∷ ts) h = both (tuples false t) (all_tuples false ts) (later t (and_left (tuples true t) (all_tuples true ts) h)) (all_later ts (and_right (tuples true t) (all_tuples true ts) h))

-- of what a type with a name is made, and of what an item declares
abbrev pub kind_tuples : TypeKind → Bool
kind_tuples (kind.Array n t) = tuples true t
kind_tuples (kind.Ctors cs) = list_all (λ (c : List ℕ × List ValType). all_tuples true c.1) cs

abbrev pub declaration_tuples : Declaration → Bool
declaration_tuples d.Nothing = true
declaration_tuples (d.Named t) = tuples true t
declaration_tuples (d.Constant t) = tuples true t
declaration_tuples (d.Function f) = all_tuples true f.header.params && (tuples false f.header.result && tuples true f.result)

ctors_are_made : (n : ℕ) (cs : List (List ℕ × List ValType)) → list_all (λ (c : List ℕ × List ValType). all_below n c.1) cs ≡ true → list_all (λ (c : List ℕ × List ValType). all_tuples true c.1) cs ≡ true
    → list_all (λ (c : List ℕ × List ValType). list_all (well_made true n) c.1) cs ≡ true
ctors_are_made n [] h k = refl
ctors_are_made n (c ∷ cs) h k =
    let below_rest = list_all (λ (c : List ℕ × List ValType). all_below n c.1) cs in
    let tuples_rest = list_all (λ (c : List ℕ × List ValType). all_tuples true c.1) cs in
    both (list_all (well_made true n) c.1) (list_all (λ (c : List ℕ × List ValType). list_all (well_made true n) c.1) cs)
    (all_made true n c.1 (and_left (all_below n c.1) below_rest h) (and_left (all_tuples true c.1) tuples_rest k))
    (ctors_are_made n cs (and_right (all_below n c.1) below_rest h) (and_right (all_tuples true c.1) tuples_rest k))

pub kind_is_made : (n : ℕ) (k : TypeKind) → kind_below n k ≡ true → kind_tuples k ≡ true → kind_made n k ≡ true
kind_is_made n (kind.Array m t) h k = is_made true n t h k
kind_is_made n (kind.Ctors cs) h k = ctors_are_made n cs h k

pub declaration_is_made : (n : ℕ) (one : Declaration) → declaration_below n one ≡ true → declaration_tuples one ≡ true → declaration_made n one ≡ true
declaration_is_made n d.Nothing h k = refl
declaration_is_made n (d.Named t) h k = is_made true n t h k
declaration_is_made n (d.Constant t) h k = is_made true n t h k
declaration_is_made n (d.Function f) h k =
    let p = all_below n f.header.params in
    let q = below n f.header.result in
    let r = below n f.result in
    let u = all_tuples true f.header.params in
    let v = tuples false f.header.result in
    let w = tuples true f.result in
    both (list_all (well_made true n) f.header.params) (well_made false n f.header.result && well_made true n f.result)
    (all_made true n f.header.params (first_of p q r h) (and_left u (v && w) k))
    (both (well_made false n f.header.result) (well_made true n f.result)
    (is_made false n f.header.result (second_of p q r h) (and_left v w (and_right u (v && w) k))) (is_made true n f.result (third_of p q r h) (and_right v w (and_right u (v && w) k))))

-- ---- what written types mean

unit_tuples : tuples true unit ≡ true
unit_tuples = fold-roll-ValType Bool (tuples_layer true) type.Unit

pub number_tuples : (k : ℕ) → tuples true (roll-ValType (type.Named k)) ≡ true
number_tuples k = fold-roll-ValType Bool (tuples_layer true) (type.Named k)

int_tuples : (k : IntTy) → tuples true (roll-ValType (type.Int k)) ≡ true
int_tuples k = fold-roll-ValType Bool (tuples_layer true) (type.Int k)

built_tuples : (x : BuiltIn) (ts : List ValType) → all_tuples true ts ≡ true → tuples true (built_type x ts) ≡ true
built_tuples (b.Int k) ts h = int_tuples k
built_tuples b.Bool ts h = fold-roll-ValType Bool (tuples_layer true) type.Bool
built_tuples b.Seq [] h = unit_tuples
built_tuples b.Seq (t ∷ []) h = fold-roll-ValType Bool (tuples_layer true) (type.Seq t) ∙ and_left (tuples true t) true h
built_tuples b.Seq (t ∷ (u ∷ ts)) h = unit_tuples
built_tuples b.Option [] h = unit_tuples
built_tuples b.Option (t ∷ []) h = fold-roll-ValType Bool (tuples_layer true) (type.Option t) ∙ and_left (tuples true t) true h
built_tuples b.Option (t ∷ (u ∷ ts)) h = unit_tuples
built_tuples b.Result [] h = unit_tuples
built_tuples b.Result (t ∷ []) h = unit_tuples
built_tuples b.Result (t ∷ (u ∷ [])) h =
    fold-roll-ValType Bool (tuples_layer true) (type.Result t u)
    ∙ both (tuples true t) (tuples true u) (and_left (tuples true t) (tuples true u && true) h) (and_left (tuples true u) true (and_right (tuples true t) (tuples true u && true) h))
built_tuples b.Result (t ∷ (u ∷ (v ∷ ts))) h = unit_tuples
built_tuples b.Some ts h = unit_tuples
built_tuples b.None ts h = unit_tuples
built_tuples b.Ok ts h = unit_tuples
built_tuples b.Err ts h = unit_tuples
built_tuples (b.Convert k l) ts h = unit_tuples

head_is : {A : Type 0} (x y : A) → x ∷ [] ≡ y ∷ [] → x ≡ y
head_is x y e = cc

append_tuples : (ts us : List ValType) → all_tuples false ts ≡ true → all_tuples false us ≡ true → all_tuples false (ts ++ us) ≡ true
append_tuples [] us h k = k
append_tuples (t ∷ ts) us h k = both (tuples false t) (all_tuples false (ts ++ us)) (and_left (tuples false t) (all_tuples false ts) h) (append_tuples ts us (and_right (tuples false t) (all_tuples false ts) h) k)

given_tuples : (ts : List ValType) (own : ValType) → all_tuples true ts ≡ true → tuples true own ≡ true → tuples false (given ts own) ≡ true
given_tuples [] own h k = later own k
given_tuples (t ∷ ts) own h k =
    let l = length-append (t ∷ ts) (own ∷ []) in
    let low : leb 2 (length ((t ∷ ts) ++ own ∷ [])) ≡ true = grind (arith, nat_tests, l) in
    tuple_tuples false ((t ∷ ts) ++ own ∷ []) (both (leb 2 (length ((t ∷ ts) ++ own ∷ []))) true low refl)
    (append_tuples (t ∷ ts) (own ∷ []) (all_later (t ∷ ts) h) (both (tuples false own) true (later own k) refl))

module _ (file : File) (stand : ℕ → ValType) (are : (k : ℕ) → tuples true (stand k) ≡ true) where
  named_tuples : (x : Option Referent) (ts : List ValType) → all_tuples true ts ≡ true → tuples true (named_type stand x ts) ≡ true
  named_tuples None ts h = unit_tuples
  named_tuples (Some (r.Local k)) ts h = unit_tuples
  named_tuples (Some (r.Item k)) ts h = are k
  named_tuples (Some (r.Ctor k c)) ts h = unit_tuples
  named_tuples (Some (r.BuiltIn x)) ts h = built_tuples x ts h

  abbrev Means : Ty → Type 0
  Means t = well_ty file.text t ≡ true → Within (node_of_ty t).parts → tuples true (meaning file stand t) ≡ true

  abbrev MeantTy : Type 0
  MeantTy = (t : Ty) × Means t

  abbrev inner : Ty-F MeantTy → Ty-F Ty
  inner y = map-Ty MeantTy Ty (λ x. x.0) y

  abbrev written_types : List MeantTy → List Ty
  written_types ts = map (λ (x : MeantTy). x.0) ts

  list_means : (ts : List MeantTy) → each (map (well_ty file.text) (written_types ts)) ≡ true → Insides (map node_of_ty (written_types ts)) → all_tuples true (map (meaning file stand) (written_types ts)) ≡ true
  list_means [] h c = refl
  list_means (t ∷ ts) h c =
      both (tuples true (meaning file stand t.0)) (all_tuples true (map (meaning file stand) (written_types ts)))
      (t.1 (and_left (well_ty file.text t.0) (each (map (well_ty file.text) (written_types ts))) h) c.0)
      (list_means ts (and_right (well_ty file.text t.0) (each (map (well_ty file.text) (written_types ts))) h) c.1)

  two_of : {A : Type 0} (xs : List A) → at_least_two xs ≡ true → 2 ≤ length xs
  two_of [] h = absurd cc
  two_of (x ∷ []) h = absurd cc
  two_of (x ∷ (y ∷ xs)) h = omega arith

  few_written : (n : ℕ) → 2 ≤ n → n ≤ 12 → few_parts true n ≡ true
  few_written n l h =
      let low : leb 2 n ≡ true = grind (arith, nat_tests) in
      let high : leb n 12 ≡ true = grind (arith, nat_tests) in
      both (leb 2 n) (leb n 12) low high

  layer_means : (y : Ty-F MeantTy) → well.ty_layer file.text (map-Ty Ty Bool (well_ty file.text) (inner y)) ≡ true → Within (nodes.ty_layer (map-Ty Ty Node node_of_ty (inner y))).parts
      → tuples true (meaning_layer file stand (map-Ty Ty ValType (meaning file stand) (inner y))) ≡ true
  layer_means (ty.Name n) h c = named_tuples (type_of file (bytes_at file.text n) 0) [] refl
  layer_means (ty.Unit s) h c = unit_tuples
  layer_means (ty.Tuple s ts) h c =
      let wells = map (well_ty file.text) (written_types ts) in
      let us = map (meaning file stand) (written_types ts) in
      let low = two_of wells (and_left (at_least_two wells) (each wells) h) in
      let most = upto_few node_of_ty 12 part (written_types ts) c in
      let l = length-map (written_types ts) (well_ty file.text) in
      let m = length-map (written_types ts) (meaning file stand) in
      tuple_tuples true us (few_written (length us) (omega (arith, low, l, m)) (omega (arith, most, m)))
      (list_means ts (and_right (at_least_two wells) (each wells) h) (numbered_insides 12 part (map node_of_ty (written_types ts)) 0 c))
  layer_means (ty.Applied s n ts) h c =
      let wells = map (well_ty file.text) (written_types ts) in
      let us = map (meaning file stand) (written_types ts) in
      named_tuples (type_of file (bytes_at file.text n) (length us)) us
      (list_means ts (and_right (well.at_least_one wells) (each wells) (and_right (named file.text n) (well.at_least_one wells && each wells) h)) (all_insides (map node_of_ty (written_types ts)) (clear_second c)))

  level_means : (y : Ty-F MeantTy) → Means (roll-Ty (inner y))
  level_means y h c =
      ap (tuples true) (fold-roll-Ty ValType (meaning_layer file stand) (inner y))
      ∙ layer_means y (sym (fold-roll-Ty Bool (well.ty_layer file.text) (inner y)) ∙ h)
      (subst (λ (n : Node). Within n.parts) (fold-roll-Ty Node nodes.ty_layer (inner y)) c)

  pub ty_tuples : (t : Ty) → Means t
  ty_tuples = ind-Ty Means (λ x y is. subst (λ z. Means (roll-Ty z)) is (level_means y))

  tys_tuples : (ts : List Ty) → each (map (well_ty file.text) ts) ≡ true → Insides (map node_of_ty ts) → all_tuples true (meanings file stand ts) ≡ true
  tys_tuples [] h c = refl
  tys_tuples (t ∷ ts) h c =
      both (tuples true (meaning file stand t)) (all_tuples true (meanings file stand ts))
      (ty_tuples t (and_left (well_ty file.text t) (each (map (well_ty file.text) ts)) h) c.0) (tys_tuples ts (and_right (well_ty file.text t) (each (map (well_ty file.text) ts)) h) c.1)

  own_tuples : (t : Option Ty) → well_optional_ty file.text t ≡ true → Within (optional_ty t) → tuples true (result_type file stand t) ≡ true
  own_tuples None h c = unit_tuples
  own_tuples (Some t) h c = ty_tuples t h (clear_inside c)

  -- ---- items

  ctors_tuples : (cs : List Ctor) → each (map (well_ctor file.text) cs) ≡ true → Insides (map node_of_ctor cs) → list_all (λ (c : List ℕ × List ValType). all_tuples true c.1) (ctors file stand cs) ≡ true
  ctors_tuples [] h c = refl
  ctors_tuples (x ∷ xs) h c =
      let rest = each (map (well_ctor file.text) xs) in
      both (all_tuples true (meanings file stand x.parts)) (list_all (λ (c : List ℕ × List ValType). all_tuples true c.1) (ctors file stand xs))
      (tys_tuples x.parts (and_right (named file.text x.name) (well_tys file.text x.parts) (and_left (well_ctor file.text x) rest h)) (numbered_insides 12 part (map node_of_ty x.parts) 0 (clear_second c.0)))
      (ctors_tuples xs (and_right (well_ctor file.text x) rest h) c.1)

  pub definition_tuples : (copies : Bool) (k : ItemKind) (t : TypeDef) → definitions file stand copies k ≡ t ∷ [] → well_kind file.text k ≡ true → Within (kind_outline k) → kind_tuples t.kind ≡ true
  definition_tuples copies item.Use t e h c = absurd cc
  definition_tuples copies (item.Const n u x) t e h c = absurd cc
  definition_tuples copies (item.Alias n u) t e h c = absurd cc
  definition_tuples copies (item.Struct n ts) t e h c =
      subst (λ (t : TypeDef). kind_tuples t.kind ≡ true) (head_is _ t e)
      (both (all_tuples true (meanings file stand ts)) true
      (tys_tuples ts (and_right (well.at_least_one ts) (well_tys file.text ts) (and_right (named file.text n) (well.at_least_one ts && well_tys file.text ts) h)) (numbered_insides 12 part (map node_of_ty ts) 0 (clear_second c))) refl)
  definition_tuples copies (item.Enum n cs) t e h c =
      subst (λ (t : TypeDef). kind_tuples t.kind ≡ true) (head_is _ t e)
      (ctors_tuples cs (and_right (well.at_least_one cs) (each (map (well_ctor file.text) cs)) (and_right (named file.text n) (well.at_least_one cs && each (map (well_ctor file.text) cs)) h)) (numbered_insides 256 part (map node_of_ctor cs) 0 (clear_second c)))
  definition_tuples copies (item.Fn n ps u x) t e h c = absurd cc
  definition_tuples copies (item.Array n i u) t e h c =
      subst (λ (t : TypeDef). kind_tuples t.kind ≡ true) (head_is _ t e)
      (ty_tuples u (and_right (named file.text n) (well_ty file.text u) h) (clear_inside (clear_second (clear_second c))))
  definition_tuples copies (item.Bytes n i) t e h c = subst (λ (t : TypeDef). kind_tuples t.kind ≡ true) (head_is _ t e) (int_tuples int.SU8)
  definition_tuples copies (item.NatMod n c' i m) t e h c = absurd cc

  params_tuples : (ps : List Param) → each (map (well_param file.text) ps) ≡ true → Insides (map node_of_param ps)
      → (all_tuples true (map (λ (p : Param). meaning file stand p.ty) ps) ≡ true) × (all_tuples true (lent_types file stand ps) ≡ true)
  params_tuples [] h c = (refl, refl)
  params_tuples (p ∷ ps) h c =
      let rest = each (map (well_param file.text) ps) in
      let one = ty_tuples p.ty (and_right (named file.text p.name) (well_ty file.text p.ty) (and_left (well_param file.text p) rest h)) (clear_inside (clear_second c.0)) in
      let more = params_tuples ps (and_right (well_param file.text p) rest h) c.1 in (
        both (tuples true (meaning file stand p.ty)) (all_tuples true (map (λ (p : Param). meaning file stand p.ty) ps)) one more.0,
        by p.mode (meaning file stand p.ty) one more.1,
      )
    where
      by : (m : Mode) (t : ValType) → tuples true t ≡ true → all_tuples true (lent_types file stand ps) ≡ true → all_tuples true (lent_type m t ++ lent_types file stand ps) ≡ true
      by written.Value t h k = k
      by written.Mut t h k = k
      by written.Shared t h k = k
      by written.Lent t h k = both (tuples true t) (all_tuples true (lent_types file stand ps)) h k

  pub declared_tuples : (n : ℕ) (k : ItemKind) → well_kind file.text k ≡ true → Within (kind_outline k) → declaration_tuples (declaration file stand n k) ≡ true
  declared_tuples n item.Use h c = refl
  declared_tuples n (item.Const m u x) h c =
      ty_tuples u (and_left (well_ty file.text u) (well_exp file.text x) (and_right (named file.text m) (well_ty file.text u && well_exp file.text x) h)) (clear_inside (clear_first (clear_second c)))
  declared_tuples n (item.Alias m u) h c = ty_tuples u (and_right (named file.text m) (well_ty file.text u) h) (clear_inside (clear_second c))
  declared_tuples n (item.Struct m ts) h c = number_tuples n
  declared_tuples n (item.Enum m cs) h c = number_tuples n
  declared_tuples n (item.Fn m ps t x) h c =
      let rest = well_optional_ty file.text t && well_block file.text x in
      let behind = each (map (well_param file.text) ps) && rest in
      let own = own_tuples t (and_left (well_optional_ty file.text t) (well_block file.text x) (and_right (each (map (well_param file.text) ps)) rest (and_right (named file.text m) behind h))) (clear_first (clear_second (clear_second c))) in
      let params = params_tuples ps (and_left (each (map (well_param file.text) ps)) rest (and_right (named file.text m) behind h)) (numbered_insides 32 parameter (map node_of_param ps) 0 (clear_first (clear_second c))) in
      both (all_tuples true (map (λ (p : Param). meaning file stand p.ty) ps)) (tuples false (given (lent_types file stand ps) (result_type file stand t)) && tuples true (result_type file stand t)) params.0
      (both (tuples false (given (lent_types file stand ps) (result_type file stand t))) (tuples true (result_type file stand t)) (given_tuples (lent_types file stand ps) (result_type file stand t) params.1 own) own)
  declared_tuples n (item.Array m i u) h c = number_tuples n
  declared_tuples n (item.Bytes m i) h c = number_tuples n
  declared_tuples n (item.NatMod m c' i x) h c = refl

  -- what the name of an item stands for
  stand_tuples : (n : ℕ) (k : ItemKind) → well_kind file.text k ≡ true → Within (kind_outline k) → tuples true (type_in (declaration file stand n k)) ≡ true
  stand_tuples n item.Use h c = unit_tuples
  stand_tuples n (item.Const m u x) h c = unit_tuples
  stand_tuples n (item.Alias m u) h c = ty_tuples u (and_right (named file.text m) (well_ty file.text u) h) (clear_inside (clear_second c))
  stand_tuples n (item.Struct m ts) h c = number_tuples n
  stand_tuples n (item.Enum m cs) h c = number_tuples n
  stand_tuples n (item.Fn m ps t x) h c = unit_tuples
  stand_tuples n (item.Array m i u) h c = number_tuples n
  stand_tuples n (item.Bytes m i) h c = number_tuples n
  stand_tuples n (item.NatMod m c' i x) h c = unit_tuples

-- ---- files

each_at : {A : Type 0} (f : A → Bool) (xs : List A) (k : ℕ) (x : A) → each (map f xs) ≡ true → slice_get xs k ≡ Some x → f x ≡ true
each_at f [] k x h e = absurd cc
each_at f (y ∷ ys) zero x h e = let same : y ≡ x = cc in ap f (sym same) ∙ and_left (f y) (each (map f ys)) h
each_at f (y ∷ ys) (suc k) x h e = each_at f ys k x (and_right (f y) (each (map f ys)) h) e

pub kind_well : (file : File) → WellFormed file.text file.items → (k : ℕ) (i : Item) → slice_get file.items k ≡ Some i → well_kind file.text i.kind ≡ true
kind_well file w k i e = and_right (well.all_named file.text i.derives) (well_kind file.text i.kind) (each_at (well_item file.text) file.items k i w e)

module _ (file : File) (wells : WellFormed file.text file.items) (limits : marks_of file ≡ []) where
  abbrev Stand : Listed → Type 0
  Stand known = (k : ℕ) → tuples true (stands known k) ≡ true

  item_tuples : (i : ℕ) (o : Option Item) → slice_get file.items i ≡ o → (before : Listed) → Stand before → Stand (with_item file i o before)
  item_tuples i None e before f k = f k
  item_tuples i (Some it) e before f k = by (nat_eq i k)
    where
      by : (c : Bool) → tuples true (type_in (cond c (declaration file (stands before) (length before.table) it.kind) (before.declares k))) ≡ true
      by true = stand_tuples file (stands before) f (length before.table) it.kind (kind_well file wells i it e) (kind_within file limits i it e)
      by false = f k

  listed_tuples : (os : List ℕ) → Stand (listed file os)
  listed_tuples [] = λ k. unit_tuples
  listed_tuples (i ∷ os) = item_tuples i (slice_get file.items i) refl (listed file os) (listed_tuples os)

  pub known_tuples : (order : List ℕ) → Stand (known file order)
  known_tuples order = listed_tuples (reverse order)
