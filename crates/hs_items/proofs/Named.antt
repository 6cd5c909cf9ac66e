-- The names of what is declared: they are names, and no two are one.
use Rattle.std.proofs.Common.{ℕ, suc, ◌≡◌, ◌≤◌, refl, sym, ◌∙◌, ap, subst, Bool, true, ◌&&◌, List, [], ◌∷◌, ◌++◌, map, length, slice_get, append_assoc, append-nil, Option, Some, None, option_map, arith}
use Rattle.std.specs.Prelude.{bytes_eq}
use Rattle.std.specs.List.{AllByRecursion, IsDistinct, filter_map, cons_option}
use Rattle.std.proofs.lemmas.List.{length-map, map-append}
use Rattle.std.proofs.lemmas.List.Elements.{filter_map-append}
use Rattle.hs_base.specs.Names.{is_name}
use Rattle.hs_syntax.specs.declared.ty.Ty.{Ty}
use Rattle.hs_syntax.specs.declared.file.File.{File}
use Rattle.hs_syntax.specs.declared.item.Item.{Item}
use Rattle.hs_syntax.specs.declared.item.Ctor.{Ctor}
use Rattle.hs_syntax.specs.declared.item.Param.{Param}
use Rattle.hs_syntax.specs.declared.item.ItemKind.{ItemKind}
use Rattle.hs_syntax.specs.declared.item.ItemKind.TheVariants as item
use Rattle.hs_syntax.specs.Texts.{bytes_at}
use Rattle.hs_syntax.specs.WellFormed as well
use Rattle.hs_syntax.specs.WellFormed.{named, each, well_ty, well_tys, well_ctor, well_param, well_optional_ty, well_kind, well_exp, well_block}
use Rattle.hs_limits.specs.Outline.{parameter, part}
use Rattle.hs_limits.specs.Nodes.{node_of_ty, node_of_ctor, node_of_param, kind_outline}
use Rattle.hs_resolver.specs.Names.{fresh, kind_part, names_by}
use Rattle.hs_resolver.specs.Order as resolver
use Rattle.hs_values.specs.declared.types.ValType.{ValType}
use Rattle.hs_values.specs.declared.types.TypeDef.{TypeDef}
use Rattle.hs_items.specs.declared.decls.Decls.{Decls}
use Rattle.hs_items.specs.Meaning.{meaning, meanings, ctors, definitions, declaration, derives_copy, Listed, stands, with_item, known}
use Rattle.hs_items.specs.Declares.{AreDecls}
use Rattle.hs_items.specs.Walk.{EachOnce}
use Rattle.hs_items.specs.Promises.{IsCtor, HasCtors, FewParams, name_if_constant, constant_name, function_name, NamesApart}
use Rattle.hs_items.proofs.Below.{and_left, and_right}
use Rattle.hs_items.proofs.Known.{known_more}
use Rattle.hs_items.proofs.Clear.{Clear, clear_first, clear_second}
use Rattle.hs_items.proofs.Limits.{Within, Insides, numbered_insides, upto_few}
use Rattle.hs_items.proofs.Apart.{distinct_cons, none_distinct, titles, ctors_apart, first_name, own_name, three_apart}

-- ---- constructors and functions

module _ (file : File) (stand : ℕ → ValType) where
  titles_are : (cs : List Ctor) → titles file cs ≡ map (λ (c : List ℕ × List ValType). c.0) (ctors file stand cs)
  titles_are [] = refl
  titles_are (c ∷ cs) = ap (λ (ns : List (List ℕ)). bytes_at file.text c.name ∷ ns) (titles_are cs)

  one_at_least : {A : Type 0} (xs : List A) → well.at_least_one xs ≡ true → 1 ≤ length xs
  one_at_least [] h = absurd cc
  one_at_least (x ∷ xs) h = omega arith

  few_parts : (ts : List Ty) → length ts ≤ 12 → length (meanings file stand ts) ≤ 12
  few_parts ts l = let m = length-map ts (meaning file stand) in omega (arith, l, m)

  are_ctors : (cs : List Ctor) → each (map (well_ctor file.text) cs) ≡ true → Insides (map node_of_ctor cs) → AllByRecursion IsCtor (ctors file stand cs)
  are_ctors [] h c = tt
  are_ctors (x ∷ xs) h c =
      let rest = each (map (well_ctor file.text) xs) in (
        (and_left (named file.text x.name) (well_tys file.text x.parts) (and_left (well_ctor file.text x) rest h), few_parts x.parts (upto_few node_of_ty 12 part x.parts (clear_second c.0))),
        are_ctors xs (and_right (well_ctor file.text x) rest h) c.1,
      )

  abbrev IsNamed : TypeDef → Type 0
  IsNamed t = (is_name t.name ≡ true) × HasCtors t.kind

  head_is : (x y : TypeDef) → x ∷ [] ≡ y ∷ [] → x ≡ y
  head_is x y e = cc

  pub type_named : (copies : Bool) (k : ItemKind) (t : TypeDef) (bs : List (List ℕ)) → definitions file stand copies k ≡ t ∷ [] → well_kind file.text k ≡ true → Within (kind_outline k) → Clear (kind_part file k bs fresh).nodes → IsNamed t
  type_named copies item.Use t bs e h c q = absurd cc
  type_named copies (item.Const n u x) t bs e h c q = absurd cc
  type_named copies (item.Alias n u) t bs e h c q = absurd cc
  type_named copies (item.Struct n ts) t bs e h c q =
      let name = and_left (named file.text n) (well.at_least_one ts && well_tys file.text ts) h in
      subst IsNamed (head_is _ t e)
      (name, (omega arith, omega arith, distinct_cons (bytes_at file.text n) [] tt none_distinct, ((name, few_parts ts (upto_few node_of_ty 12 part ts (clear_second c))), tt)))
  type_named copies (item.Enum n cs) t bs e h c q =
      let behind = well.at_least_one cs && each (map (well_ctor file.text) cs) in
      let wells = and_right (named file.text n) behind h in
      let low = one_at_least cs (and_left (well.at_least_one cs) (each (map (well_ctor file.text) cs)) wells) in
      let most = upto_few node_of_ctor 256 part cs (clear_second c) in
      let count : length (ctors file stand cs) ≡ length cs = length-map cs (λ (c : Ctor). (bytes_at file.text c.name, meanings file stand c.parts)) in
      subst IsNamed (head_is _ t e) (
        and_left (named file.text n) behind h,
        (
          omega (arith, low, count),
          omega (arith, most, count),
          subst (IsDistinct bytes_eq) (titles_are cs) (ctors_apart file cs [] fresh (clear_second q) none_distinct),
          are_ctors cs (and_right (well.at_least_one cs) (each (map (well_ctor file.text) cs)) wells) (numbered_insides 256 part (map node_of_ctor cs) 0 (clear_second c)),
        ),
      )
  type_named copies (item.Fn n ps u x) t bs e h c q = absurd cc
  type_named copies (item.Array n i u) t bs e h c q = subst IsNamed (head_is _ t e) (and_left (named file.text n) (well_ty file.text u) h, tt {0})
  type_named copies (item.Bytes n i) t bs e h c q = subst IsNamed (head_is _ t e) (h, tt {0})
  type_named copies (item.NatMod n v i m) t bs e h c q = absurd cc

  pub function_few : (n : ℕ) (k : ItemKind) → well_kind file.text k ≡ true → Within (kind_outline k) → FewParams (declaration file stand n k)
  function_few n item.Use h c = tt {0}
  function_few n (item.Const m u x) h c = tt {0}
  function_few n (item.Alias m u) h c = tt {0}
  function_few n (item.Struct m ts) h c = tt {0}
  function_few n (item.Enum m cs) h c = tt {0}
  function_few n (item.Fn m ps t b) h c =
      let most = upto_few node_of_param 32 parameter ps (clear_first (clear_second c)) in
      let count = length-map ps (λ (p : Param). meaning file stand p.ty) in
      (and_left (named file.text m) (each (map (well_param file.text) ps) && (well_optional_ty file.text t && well_block file.text b)) h, omega (arith, most, count))
  function_few n (item.Array m i u) h c = tt {0}
  function_few n (item.Bytes m i) h c = tt {0}
  function_few n (item.NatMod m v i x) h c = tt {0}

pub constant_named : (text : List ℕ) (k : ItemKind) (n : List ℕ) → name_if_constant text k ≡ Some n → well_kind text k ≡ true → is_name n ≡ true
constant_named text item.Use n e h = absurd cc
constant_named text (item.Const m t x) n e h =
    let same : bytes_at text m ≡ n = cc in
    ap is_name (sym same) ∙ and_left (named text m) (well_ty text t && well_exp text x) h
constant_named text (item.Alias m t) n e h = absurd cc
constant_named text (item.Struct m ts) n e h = absurd cc
constant_named text (item.Enum m cs) n e h = absurd cc
constant_named text (item.Fn m ps t b) n e h = absurd cc
constant_named text (item.Array m i t) n e h = absurd cc
constant_named text (item.Bytes m i) n e h = absurd cc
constant_named text (item.NatMod m v i x) n e h = absurd cc

-- ---- names of items

abbrev name_if_type : List ℕ → ItemKind → Option (List ℕ)
name_if_type text (item.Struct n ts) = Some (bytes_at text n)
name_if_type text (item.Enum n cs) = Some (bytes_at text n)
name_if_type text (item.Array n i t) = Some (bytes_at text n)
name_if_type text (item.Bytes n i) = Some (bytes_at text n)
name_if_type text _ = None

abbrev type_name : List ℕ → Option Item → Option (List ℕ)
type_name text None = None
type_name text (Some i) = name_if_type text i.kind

abbrev names : List TypeDef → List (List ℕ)
names ts = map (λ (t : TypeDef). t.name) ts

module _ (file : File) where
  abbrev types : ℕ → Option (List ℕ)
  types k = type_name file.text (slice_get file.items k)

  abbrev constants : ℕ → Option (List ℕ)
  constants k = constant_name file.text (slice_get file.items k)

  made_names : (stand : ℕ → ValType) (copies : Bool) (k : ItemKind) → names (definitions file stand copies k) ≡ cons_option (name_if_type file.text k) []
  made_names stand copies item.Use = refl
  made_names stand copies (item.Const n t e) = refl
  made_names stand copies (item.Alias n t) = refl
  made_names stand copies (item.Struct n ts) = refl
  made_names stand copies (item.Enum n cs) = refl
  made_names stand copies (item.Fn n ps t b) = refl
  made_names stand copies (item.Array n i t) = refl
  made_names stand copies (item.Bytes n i) = refl
  made_names stand copies (item.NatMod n v i m) = refl

  item_adds : (x : ℕ) (o : Option Item) (before : Listed) → names (with_item file x o before).table ≡ names before.table ++ cons_option (type_name file.text o) []
  item_adds x None before = sym (append-nil (names before.table))
  item_adds x (Some it) before =
      map-append (λ (t : TypeDef). t.name) before.table (definitions file (stands before) (derives_copy file it.derives) it.kind)
      ∙ ap (λ (ns : List (List ℕ)). names before.table ++ ns) (made_names (stands before) (derives_copy file it.derives) it.kind)

  names_from : (after before : List ℕ) → names (known file before).table ≡ filter_map types before → names (known file (before ++ after)).table ≡ filter_map types (before ++ after)
  names_from [] before h = subst (λ (order : List ℕ). names (known file order).table ≡ filter_map types order) (sym (append-nil before)) h
  names_from (x ∷ after) before h =
      subst (λ (order : List ℕ). names (known file order).table ≡ filter_map types order) (append_assoc before (x ∷ []) after)
      (names_from after (before ++ x ∷ [])
      (ap (λ (k : Listed). names k.table) (known_more file before x) ∙ item_adds x (slice_get file.items x) (known file before)
      ∙ ap (λ (ns : List (List ℕ)). ns ++ cons_option (types x) []) h ∙ sym (filter_map-append types before (x ∷ []))))

  known_names : (order : List ℕ) → names (known file order).table ≡ filter_map types order
  known_names order = names_from order [] refl

  filter_few : (f : ℕ → Option (List ℕ)) (ks : List ℕ) → length (filter_map f ks) ≤ length ks
  filter_few f [] = omega arith
  filter_few f (k ∷ ks) = by (f k) (filter_few f ks)
    where
      by : (o : Option (List ℕ)) → length (filter_map f ks) ≤ length ks → length (cons_option o (filter_map f ks)) ≤ suc (length ks)
      by None h = omega (arith, h)
      by (Some n) h = omega (arith, h)

  -- there are no more types with names than items in their order
  pub table_few : (order : List ℕ) → length (known file order).table ≤ length order
  table_few order =
      let l = length-map (known file order).table (λ (t : TypeDef). t.name) in
      let e = ap (λ (ns : List (List ℕ)). length ns) (known_names order) in
      let f = filter_few types order in
      omega (arith, l, e, f)

  -- ---- what is selected

  own_type : (k : ItemKind) (a : List ℕ) → name_if_type file.text k ≡ Some a → first_name file (names_by file k) ≡ Some a
  own_type item.Use a e = absurd cc
  own_type (item.Const n t x) a e = absurd cc
  own_type (item.Alias n t) a e = absurd cc
  own_type (item.Struct n ts) a e = e
  own_type (item.Enum n cs) a e = e
  own_type (item.Fn n ps t b) a e = absurd cc
  own_type (item.Array n i t) a e = e
  own_type (item.Bytes n i) a e = e
  own_type (item.NatMod n v i m) a e = absurd cc

  own_constant : (k : ItemKind) (a : List ℕ) → name_if_constant file.text k ≡ Some a → first_name file (names_by file k) ≡ Some a
  own_constant item.Use a e = absurd cc
  own_constant (item.Const n t x) a e = e
  own_constant (item.Alias n t) a e = absurd cc
  own_constant (item.Struct n ts) a e = absurd cc
  own_constant (item.Enum n cs) a e = absurd cc
  own_constant (item.Fn n ps t b) a e = absurd cc
  own_constant (item.Array n i t) a e = absurd cc
  own_constant (item.Bytes n i) a e = absurd cc
  own_constant (item.NatMod n v i m) a e = absurd cc

  not_both : (k : ItemKind) (a b : List ℕ) → name_if_type file.text k ≡ Some a → name_if_constant file.text k ≡ Some b → ⊥
  not_both item.Use a b e f = cc
  not_both (item.Const n t x) a b e f = cc
  not_both (item.Alias n t) a b e f = cc
  not_both (item.Struct n ts) a b e f = cc
  not_both (item.Enum n cs) a b e f = cc
  not_both (item.Fn n ps t x) a b e f = cc
  not_both (item.Array n i t) a b e f = cc
  not_both (item.Bytes n i) a b e f = cc
  not_both (item.NatMod n v i m) a b e f = cc

  module _ (stand : ℕ → ValType) (n : ℕ) where
    -- a function is no type and no constant
    abbrev IsFunction : ItemKind → List ℕ → Type 0
    IsFunction k a = (first_name file (names_by file k) ≡ Some a) × (name_if_type file.text k ≡ None) × (name_if_constant file.text k ≡ None)

    own_function : (k : ItemKind) (a : List ℕ) → function_name (Some (declaration file stand n k)) ≡ Some a → IsFunction k a
    own_function item.Use a e = absurd cc
    own_function (item.Const m t x) a e = absurd cc
    own_function (item.Alias m t) a e = absurd cc
    own_function (item.Struct m ts) a e = absurd cc
    own_function (item.Enum m cs) a e = absurd cc
    own_function (item.Fn m ps t b) a e = (e, refl, refl)
    own_function (item.Array m i t) a e = absurd cc
    own_function (item.Bytes m i) a e = absurd cc
    own_function (item.NatMod m v i x) a e = absurd cc

  module _ (order : List ℕ) (decls : Decls) (are : AreDecls file order decls) (unbroken : resolver.broken file ≡ []) (once : EachOnce order)
      (says : (k : ℕ) (i : Item) → slice_get file.items k ≡ Some i → (n : ℕ) × (slice_get decls.items k ≡ Some (declaration file (stands (known file order)) n i.kind))) where
    abbrev functions : ℕ → Option (List ℕ)
    functions k = function_name (slice_get decls.items k)

    sure_type : (k : ℕ) (a : List ℕ) → types k ≡ Some a → own_name file (slice_get file.items k) ≡ Some a
    sure_type k a e = by (slice_get file.items k) e
      where
        by : (o : Option Item) → type_name file.text o ≡ Some a → own_name file o ≡ Some a
        by None e = absurd cc
        by (Some i) e = own_type i.kind a e

    sure_constant : (k : ℕ) (a : List ℕ) → constants k ≡ Some a → own_name file (slice_get file.items k) ≡ Some a
    sure_constant k a e = by (slice_get file.items k) e
      where
        by : (o : Option Item) → constant_name file.text o ≡ Some a → own_name file o ≡ Some a
        by None e = absurd cc
        by (Some i) e = own_constant i.kind a e

    abbrev SureFunction : ℕ → List ℕ → Type 0
    SureFunction k a = (own_name file (slice_get file.items k) ≡ Some a) × (types k ≡ None) × (constants k ≡ None)

    function_at : (k : ℕ) (a : List ℕ) → functions k ≡ Some a → SureFunction k a
    function_at k a e = by (slice_get file.items k) refl
      where
        by : (o : Option Item) → slice_get file.items k ≡ o → SureFunction k a
        by None h =
            let none : slice_get decls.items k ≡ None = are.items k ∙ ap (option_map (λ (i : Item). (known file order).declares k)) h in
            let clash : None ≡ Some a = ap function_name (sym none) ∙ e in
            absurd cc
        by (Some i) h =
            let (n, at) = says k i h in
            let is = own_function (stands (known file order)) n i.kind a (ap function_name (sym at) ∙ e) in
            (ap (own_name file) h ∙ is.0, ap (type_name file.text) h ∙ is.1, ap (constant_name file.text) h ∙ is.2)

    type_no_constant : (k : ℕ) (a b : List ℕ) → types k ≡ Some a → constants k ≡ Some b → ⊥
    type_no_constant k a b e f = by (slice_get file.items k) e f
      where
        by : (o : Option Item) → type_name file.text o ≡ Some a → constant_name file.text o ≡ Some b → ⊥
        by None e f = cc
        by (Some i) e f = not_both i.kind a b e f

    none_some : {A : Type 0} (o : Option A) (a : A) → o ≡ None → o ≡ Some a → ⊥
    none_some o a e f = let g : None ≡ Some a = sym e ∙ f in cc

    pub names_apart : NamesApart file order decls
    names_apart =
        subst (λ (ns : List (List ℕ)). IsDistinct bytes_eq (ns ++ filter_map constants order ++ filter_map functions order))
        (sym (ap names are.table ∙ known_names order))
        (three_apart file unbroken types constants functions sure_type sure_constant (λ k a e. (function_at k a e).0) type_no_constant
        (λ k a b e f. none_some (types k) a (function_at k b f).1 e) (λ k a b e f. none_some (constants k) a (function_at k b f).2 e) order once)
