-- What an item declares is what is written there, by what all names stand for: the items that it names stand before it.
use Rattle.std.proofs.Common.{ℕ, zero, suc, ◌+◌, ◌≡◌, ◌<◌, ◌≤◌, ◌⊎◌, inl, inr, refl, sym, ◌∙◌, ap, ap₂, subst, Bool, true, false, cond, not, ◌&&◌, ◌||◌, nat_eq, List, [], ◌∷◌, ◌++◌, map, length, reverse, slice_get, slice_index_or, append_assoc, append-nil, Option, Some, None, arith}
use Rattle.std.specs.List.{list_all}
use Rattle.std.proofs.lemmas.List.{length-map}
use Rattle.std.proofs.lemmas.Bool.Decides.{nat_tests}
use Rattle.hs_order.specs.Order.{has, is_ready, ready, ready_from, IsOrder}
use Rattle.hs_syntax.specs.declared.span.Span.{Span}
use Rattle.hs_syntax.specs.declared.ty.Ty.{Ty, roll-Ty}
use Rattle.hs_syntax.specs.declared.ty.Ty.TheOpen.{Ty-F}
use Rattle.hs_syntax.specs.declared.ty.Ty.TheOpen as ty
use Rattle.hs_syntax.specs.declared.ty.Ty.TheFolds.{map-Ty, fold-roll-Ty, ind-Ty}
use Rattle.hs_syntax.specs.declared.file.File.{File}
use Rattle.hs_syntax.specs.declared.item.Item.{Item}
use Rattle.hs_syntax.specs.declared.item.Ctor.{Ctor}
use Rattle.hs_syntax.specs.declared.item.Param.{Param}
use Rattle.hs_syntax.specs.declared.item.ItemKind.{ItemKind}
use Rattle.hs_syntax.specs.declared.item.ItemKind.TheVariants as item
use Rattle.hs_syntax.specs.Texts.{bytes_at}
use Rattle.hs_symbols.specs.declared.referent.Referent.{Referent}
use Rattle.hs_symbols.specs.declared.referent.Referent.TheVariants as r
use Rattle.hs_resolver.specs.declared.known.Known.{Known}
use Rattle.hs_resolver.specs.declared.known.Use.{Use}
use Rattle.hs_resolver.specs.Rules.{type_of}
use Rattle.hs_resolver.specs.Parts.{Seen, Part, all}
use Rattle.hs_resolver.specs.Parts as parts
use Rattle.hs_resolver.specs.Names.{fresh, is_function, names_by, ty_layer, names_of_ty, names_of_tys, optional_ty, ctors_behind, names_of_param, parameters, kind_part, items_behind}
use Rattle.hs_resolver.specs.Order.{item_of, items_of, needs, Ordered}
use Rattle.hs_values.specs.declared.types.ValType.{ValType, roll-ValType}
use Rattle.hs_values.specs.declared.types.ValType.TheOpen as type
use Rattle.hs_values.specs.declared.types.TypeKind.TheVariants as kind
use Rattle.hs_values.specs.declared.types.TypeDef.{TypeDef}
use Rattle.hs_items.specs.declared.decls.Declaration.{Declaration}
use Rattle.hs_items.specs.declared.decls.Declaration.TheVariants as d
use Rattle.hs_items.specs.Meaning.{tuple, built_type, named_type, passing_of, given, meaning, meaning_layer, meanings, result_type, lent_type, lent_types, ctors, definition, definitions, declaration, derives_copy, Listed, stands, with_item, listed, type_in, known}
use Rattle.hs_items.specs.Walk.{EachOnce}
use Rattle.hs_items.proofs.Grows.{all_grows, ty_grows, tys_grow, optional_grows, binder_grows, exp_grows, block_grows, Grows}
use Rattle.hs_items.proofs.Known.{known_more}
use Rattle.hs_items.proofs.Once.{needs_count}
use Rattle.hs_items.proofs.Listed.{declares_stays, known_item, known_none}

-- ---- lists of numbers

has_behind : (is us : List ℕ) (x : ℕ) → has us x ≡ true → has (is ++ us) x ≡ true
has_behind [] us x h = h
has_behind (i ∷ is) us x h = by (nat_eq x i) (has_behind is us x h)
  where
    by : (b : Bool) → has (is ++ us) x ≡ true → (b || has (is ++ us) x) ≡ true
    by true h = refl
    by false h = h

last_use : (us : List Use) (n : Span) (j : ℕ) → has (items_of (us ++ record { name = n; referent = r.Item j } ∷ [])) j ≡ true
last_use [] n j = let e : nat_eq j j ≡ true = grind (arith, nat_tests) in ap (λ (b : Bool). b || false) e
last_use (u ∷ us) n j = has_behind (item_of u.referent) (items_of (us ++ record { name = n; referent = r.Item j } ∷ [])) j (last_use us n j)

has_last_by : (listed : List ℕ) (i k : ℕ) → has (listed ++ i ∷ []) k ≡ true → (has listed k ≡ true) ⊎ (k ≡ i)
has_last_by [] i k h = inr (by (nat_eq k i) refl h)
  where
    by : (b : Bool) → nat_eq k i ≡ b → (b || false) ≡ true → k ≡ i
    by true e h = grind (arith, nat_tests)
    by false e h = cc
has_last_by (y ∷ listed) i k h = by (nat_eq k y) (has_last_by listed i k) h
  where
    by : (b : Bool) → (has (listed ++ i ∷ []) k ≡ true → (has listed k ≡ true) ⊎ (k ≡ i)) → (b || has (listed ++ i ∷ []) k) ≡ true → ((b || has listed k) ≡ true) ⊎ (k ≡ i)
    by true f h = inl refl
    by false f h = f h

all_have : (listed xs : List ℕ) (x : ℕ) → list_all (has listed) xs ≡ true → has xs x ≡ true → has listed x ≡ true
all_have listed [] x a h = cc
all_have listed (y ∷ xs) x a h = by (all_have listed xs x) (nat_eq x y) (has listed y) refl refl a h
  where
    by : (list_all (has listed) xs ≡ true → has xs x ≡ true → has listed x ≡ true) → (b c : Bool) → nat_eq x y ≡ b → has listed y ≡ c
        → (c && list_all (has listed) xs) ≡ true → (b || has xs x) ≡ true → has listed x ≡ true
    by f true true e g a h = let same : x ≡ y = grind (arith, nat_tests) in ap (has listed) same ∙ g
    by f false true e g a h = f a h
    by f b false e g a h = cc

-- ---- what is ready

needs_met : (a b : Bool) → (not a && b) ≡ true → b ≡ true
needs_met true b h = cc
needs_met false b h = h

abbrev ReadyAt : List ℕ → List (List ℕ) → ℕ → ℕ → Type 0
ReadyAt listed items n k = (m : ℕ) × (k ≡ n + m) × (list_all (has listed) (slice_index_or items m []) ≡ true)

ready_at : (listed : List ℕ) (n : ℕ) (items : List (List ℕ)) (k : ℕ) → ready_from listed n items ≡ Some k → ReadyAt listed items n k
ready_at listed n [] k e = absurd cc
ready_at listed n (x ∷ items) k e = by (ready_at listed (suc n) items k) (is_ready listed n x) refl e
  where
    by : (ready_from listed (suc n) items ≡ Some k → ReadyAt listed items (suc n) k) → (b : Bool) → is_ready listed n x ≡ b → cond b (Some n) (ready_from listed (suc n) items) ≡ Some k
        → ReadyAt listed (x ∷ items) n k
    by f true i e = let same : n ≡ k = cc in (0, omega (arith, same), needs_met (has listed n) (list_all (has listed) x) i)
    by f false i e = let (m, same, a) = f e in (suc m, omega (arith, same), a)

-- all that the next item needs is listed
pub needs_listed : (listed : List ℕ) (items : List (List ℕ)) (i : ℕ) → ready listed items ≡ Some i → list_all (has listed) (slice_index_or items i []) ≡ true
needs_listed listed items i e =
    let at = ready_at listed 0 items i e in
    let same : at.0 ≡ i = let s = at.1 in omega (arith, s) in
    ap (λ (m : ℕ). list_all (has listed) (slice_index_or items m [])) (sym same) ∙ at.2

-- ---- types

module _ (file : File) (f g : ℕ → ValType) where
  -- the items that are named there stand for the same
  abbrev pub SameOn : List Use → Type 0
  SameOn us = (x : ℕ) → has (items_of us) x ≡ true → f x ≡ g x

  fewer : (us vs : List Use) → ((x : ℕ) → has (items_of us) x ≡ true → has (items_of vs) x ≡ true) → SameOn vs → SameOn us
  fewer us vs sub s x h = s x (sub x h)

  name_means : (n : Span) (to : Option Referent) (k : Known) → SameOn (parts.meaning n to k).uses → (ts us : List ValType) → ts ≡ us → named_type f to ts ≡ named_type g to us
  name_means n None k s ts us e = refl
  name_means n (Some (r.Local j)) k s ts us e = refl
  name_means n (Some (r.Item j)) k s ts us e = s j (last_use k.uses n j)
  name_means n (Some (r.Ctor j c)) k s ts us e = refl
  name_means n (Some (r.BuiltIn x)) k s ts us e = ap (built_type x) e

  abbrev TyMeans : Ty → Type 0
  TyMeans t = (k : Known) → SameOn (names_of_ty file t k).behind.uses → meaning file f t ≡ meaning file g t

  abbrev MeantTy : Type 0
  MeantTy = (t : Ty) × TyMeans t

  abbrev inside : Ty-F MeantTy → Ty-F Ty
  inside y = map-Ty MeantTy Ty (λ x. x.0) y

  abbrev firsts : List MeantTy → List Ty
  firsts ts = map (λ (x : MeantTy). x.0) ts

  list_means : (ts : List MeantTy) (k : Known) → SameOn (all (map (names_of_ty file) (firsts ts)) k).behind.uses → map (meaning file f) (firsts ts) ≡ map (meaning file g) (firsts ts)
  list_means [] k s = refl
  list_means (t ∷ ts) k s =
      ap₂ (λ (u : ValType) (us : List ValType). u ∷ us)
      (t.1 k (λ x h. s x (all_grows Ty (names_of_ty file) (ty_grows file) (firsts ts) (names_of_ty file t.0 k).behind x h)))
      (list_means ts (names_of_ty file t.0 k).behind s)

  counts : (h : ℕ → ValType) (ts : List Ty) → length (map (meaning file h) ts) ≡ length (map (names_of_ty file) ts)
  counts h ts = length-map ts (meaning file h) ∙ sym (length-map ts (names_of_ty file))

  layer_means : (y : Ty-F MeantTy) (k : Known) → SameOn (ty_layer file (map-Ty Ty Part (names_of_ty file) (inside y)) k).behind.uses
      → meaning_layer file f (map-Ty Ty ValType (meaning file f) (inside y)) ≡ meaning_layer file g (map-Ty Ty ValType (meaning file g) (inside y))
  layer_means (ty.Name n) k s = name_means n (type_of file (bytes_at file.text n) 0) k s [] [] refl
  layer_means (ty.Unit b) k s = refl
  layer_means (ty.Tuple b ts) k s = ap tuple (list_means ts k s)
  layer_means (ty.Applied b n ts) k s =
      let count = length (map (names_of_ty file) (firsts ts)) in
      let to = type_of file (bytes_at file.text n) count in
      let at = parts.meaning n to k in
      ap (λ (c : ℕ). named_type f (type_of file (bytes_at file.text n) c) (map (meaning file f) (firsts ts))) (counts f (firsts ts))
      ∙ name_means n to k (λ x h. s x (all_grows Ty (names_of_ty file) (ty_grows file) (firsts ts) at x h)) (map (meaning file f) (firsts ts)) (map (meaning file g) (firsts ts)) (list_means ts at s)
      ∙ ap (λ (c : ℕ). named_type g (type_of file (bytes_at file.text n) c) (map (meaning file g) (firsts ts))) (sym (counts g (firsts ts)))

  level_means : (y : Ty-F MeantTy) → TyMeans (roll-Ty (inside y))
  level_means y k s =
      fold-roll-Ty ValType (meaning_layer file f) (inside y)
      ∙ layer_means y k (subst (λ (p : Part). SameOn (p k).behind.uses) (fold-roll-Ty Part (ty_layer file) (inside y)) s)
      ∙ sym (fold-roll-Ty ValType (meaning_layer file g) (inside y))

  ty_means : (t : Ty) → TyMeans t
  ty_means = ind-Ty TyMeans (λ x y is. subst (λ z. TyMeans (roll-Ty z)) is (level_means y))

  tys_mean : (ts : List Ty) (k : Known) → SameOn (names_of_tys file ts k).behind.uses → meanings file f ts ≡ meanings file g ts
  tys_mean [] k s = refl
  tys_mean (t ∷ ts) k s =
      ap₂ (λ (u : ValType) (us : List ValType). u ∷ us) (ty_means t k (λ x h. s x (tys_grow file ts (names_of_ty file t k).behind x h))) (tys_mean ts (names_of_ty file t k).behind s)

  result_means : (t : Option Ty) (k : Known) → SameOn (optional_ty file t k).behind.uses → result_type file f t ≡ result_type file g t
  result_means None k s = refl
  result_means (Some t) k s = ty_means t k s

  -- ---- items

  ctors_grow : (cs : List Ctor) (before : List (List ℕ)) → Grows (ctors_behind file cs before)
  ctors_grow [] before k x h = h
  ctors_grow (c ∷ cs) before k x h = ctors_grow cs _ (names_of_tys file c.parts k).behind x (tys_grow file c.parts k x h)

  ctors_mean : (cs : List Ctor) (before : List (List ℕ)) (k : Known) → SameOn (ctors_behind file cs before k).behind.uses → ctors file f cs ≡ ctors file g cs
  ctors_mean [] before k s = refl
  ctors_mean (c ∷ cs) before k s =
      ap₂ (λ (ts : List ValType) (rest : List (List ℕ × List ValType)). (bytes_at file.text c.name, ts) ∷ rest)
      (tys_mean c.parts k (λ x h. s x (ctors_grow cs (before ++ bytes_at file.text c.name ∷ []) (names_of_tys file c.parts k).behind x h)))
      (ctors_mean cs (before ++ bytes_at file.text c.name ∷ []) (names_of_tys file c.parts k).behind s)

  param_grows : (p : Param) → Grows (names_of_param file p)
  param_grows p k x h = ty_grows file p.ty _ x (binder_grows file true 0 p.name k x h)

  params_grow : (ps : List Param) → Grows (all (map (names_of_param file) ps))
  params_grow ps = all_grows Param (names_of_param file) param_grows ps

  abbrev types_of : (ℕ → ValType) → List Param → List ValType
  types_of h ps = map (λ (p : Param). meaning file h p.ty) ps

  -- what the types of parameters mean, and of those that are mutable
  params_mean : (ps : List Param) (k : Known) → SameOn (all (map (names_of_param file) ps) k).behind.uses → (types_of f ps ≡ types_of g ps) × (lent_types file f ps ≡ lent_types file g ps)
  params_mean [] k s = (refl, refl)
  params_mean (p ∷ ps) k s =
      let at = (names_of_param file p k).behind in
      let one : meaning file f p.ty ≡ meaning file g p.ty = ty_means p.ty _ (λ x h. s x (params_grow ps at x h)) in
      let rest = params_mean ps at s in (
        ap₂ (λ (u : ValType) (us : List ValType). u ∷ us) one rest.0,
        ap₂ (λ (u : ValType) (us : List ValType). lent_type p.mode u ++ us) one rest.1,
      )

  abbrev made_of : Span → List Param → List ValType → List ValType → ValType → Declaration
  made_of n ps params lent own = d.Function (record {
    header = record { name = bytes_at file.text n; params = params; result = given lent own };
    modes = map (λ (p : Param). passing_of p.mode) ps;
    result = own;
  })

  made_alike : (n : Span) (ps : List Param) (params params' lent lent' : List ValType) (own own' : ValType) → params ≡ params' → lent ≡ lent' → own ≡ own'
      → made_of n ps params lent own ≡ made_of n ps params' lent' own'
  made_alike n ps params params' lent lent' own own' e h i =
      ap₂ (λ (us vs : List ValType). made_of n ps us vs own) e h ∙ ap (λ (t : ValType). made_of n ps params' lent' t) i

  definitions_mean : (copies : Bool) (k : ItemKind) (before : List (List ℕ)) (at : Known) → SameOn (kind_part file k before at).behind.uses → definitions file f copies k ≡ definitions file g copies k
  definitions_mean copies item.Use before at s = refl
  definitions_mean copies (item.Const n t e) before at s = refl
  definitions_mean copies (item.Alias n t) before at s = refl
  definitions_mean copies (item.Struct n ts) before at s = ap (λ (us : List ValType). definition file f n copies (kind.Ctors ((bytes_at file.text n, us) ∷ []))) (tys_mean ts at s)
  definitions_mean copies (item.Enum n cs) before at s = ap (λ (us : List (List ℕ × List ValType)). definition file f n copies (kind.Ctors us)) (ctors_mean cs [] at s)
  definitions_mean copies (item.Fn n ps t b) before at s = refl
  definitions_mean copies (item.Array n i t) before at s = ap (λ (u : ValType). definition file f n true (kind.Array i.value u)) (ty_means t at s)
  definitions_mean copies (item.Bytes n i) before at s = refl
  definitions_mean copies (item.NatMod n c i m) before at s = refl

  declaration_means : (next : ℕ) (k : ItemKind) (before : List (List ℕ)) (at : Known) → SameOn (kind_part file k before at).behind.uses → declaration file f next k ≡ declaration file g next k
  declaration_means next item.Use before at s = refl
  declaration_means next (item.Const n t e) before at s = ap d.Constant (ty_means t at (λ x h. s x (exp_grows file false e [] (names_of_ty file t at).behind x h)))
  declaration_means next (item.Alias n t) before at s = ap d.Named (ty_means t at s)
  declaration_means next (item.Struct n ts) before at s = refl
  declaration_means next (item.Enum n cs) before at s = refl
  declaration_means next (item.Fn n ps t b) before at s =
      let params = (all (map (names_of_param file) ps) at).behind in
      let own = (optional_ty file t params).behind in
      let of_own : SameOn own.uses = λ x h. s x (block_grows file true b (parameters file ps) own x h) in
      let of_params : SameOn params.uses = λ x h. of_own x (optional_grows file t params x h) in
      let mean = params_mean ps at of_params in
      made_alike n ps (types_of f ps) (types_of g ps) (lent_types file f ps) (lent_types file g ps) (result_type file f t) (result_type file g t) mean.0 mean.1 (result_means t params of_own)
  declaration_means next (item.Array n i t) before at s = refl
  declaration_means next (item.Bytes n i) before at s = refl
  declaration_means next (item.NatMod n c i m) before at s = refl

-- what an item needs is what it names
needs_from : (file : File) (is : List Item) (functions : ℕ) (before : List (List ℕ)) (i : ℕ) (it : Item) → slice_get is i ≡ Some it
    → (bs : List (List ℕ)) × (slice_index_or (map (λ (a : Seen). items_of a.behind.uses) (items_behind file is functions before)) i [] ≡ items_of (kind_part file it.kind bs fresh).behind.uses)
needs_from file [] functions before i it e = absurd cc
needs_from file (j ∷ is) functions before zero it e =
    let same : j ≡ it = cc in (before, ap (λ (j : Item). items_of (kind_part file j.kind before fresh).behind.uses) same)
needs_from file (j ∷ is) functions before (suc i) it e = needs_from file is (cond (is_function j.kind) (suc functions) functions) (before ++ names_by file j.kind) i it e

-- ---- tables that begin alike

slice_left : {X : Type 0} (xs ys : List X) (n : ℕ) (x : X) → slice_get xs n ≡ Some x → slice_get (xs ++ ys) n ≡ Some x
slice_left [] ys n x e = absurd cc
slice_left (y ∷ xs) ys zero x e = e
slice_left (y ∷ xs) ys (suc n) x e = slice_left xs ys n x e

slice_end : {X : Type 0} (xs : List X) (x : X) → slice_get (xs ++ x ∷ []) (length xs) ≡ Some x
slice_end [] x = refl
slice_end (y ∷ xs) x = slice_end xs x

slice_more : {X : Type 0} (xs ys : List X) (n : ℕ) (x : X) → slice_get (xs ++ ys) n ≡ Some x → (slice_get xs n ≡ Some x) ⊎ ((m : ℕ) × (n ≡ length xs + m) × (slice_get ys m ≡ Some x))
slice_more [] ys n x e = inr (n, omega arith, e)
slice_more (y ∷ xs) ys zero x e = inl e
slice_more (y ∷ xs) ys (suc n) x e = by (slice_more xs ys n x e)
  where
    by : (slice_get xs n ≡ Some x) ⊎ ((m : ℕ) × (n ≡ length xs + m) × (slice_get ys m ≡ Some x)) → (slice_get xs n ≡ Some x) ⊎ ((m : ℕ) × (suc n ≡ suc (length xs) + m) × (slice_get ys m ≡ Some x))
    by (inl h) = inl h
    by (inr (m, h, i)) = inr (m, omega (arith, h), i)

table_item : (file : File) (before : Listed) (x : ℕ) (it : Option Item) (n : ℕ) (t : TypeDef) → slice_get before.table n ≡ Some t → slice_get (with_item file x it before).table n ≡ Some t
table_item file before x None n t e = e
table_item file before x (Some it) n t e = slice_left before.table (definitions file (stands before) (derives_copy file it.derives) it.kind) n t e

table_stays : (file : File) (after before : List ℕ) (n : ℕ) (t : TypeDef) → slice_get (known file before).table n ≡ Some t → slice_get (known file (before ++ after)).table n ≡ Some t
table_stays file [] before n t e = ap (λ (order : List ℕ). slice_get (known file order).table n) (append-nil before) ∙ e
table_stays file (x ∷ after) before n t e =
    ap (λ (order : List ℕ). slice_get (known file order).table n) (sym (append_assoc before (x ∷ []) after))
    ∙ table_stays file after (before ++ x ∷ []) n t (ap (λ (k : Listed). slice_get k.table n) (known_more file before x) ∙ table_item file (known file before) x (slice_get file.items x) n t e)

-- ---- what an item makes

only_new : (ds : List TypeDef) (m : ℕ) (t : TypeDef) → length ds ≤ 1 → slice_get ds m ≡ Some t → (m ≡ 0) × (ds ≡ t ∷ [])
only_new [] m t l e = absurd cc
only_new (one ∷ []) zero t l e = let same : one ≡ t = cc in (refl, ap (λ (t : TypeDef). t ∷ []) same)
only_new (one ∷ []) (suc m) t l e = absurd cc
only_new (one ∷ (two ∷ ds)) m t l e = absurd (omega (arith, l))

module _ (file : File) (stand : ℕ → ValType) (copies : Bool) where
  few_made : (k : ItemKind) → length (definitions file stand copies k) ≤ 1
  few_made item.Use = omega arith
  few_made (item.Const n t e) = omega arith
  few_made (item.Alias n t) = omega arith
  few_made (item.Struct n ts) = omega arith
  few_made (item.Enum n cs) = omega arith
  few_made (item.Fn n ps t b) = omega arith
  few_made (item.Array n i t) = omega arith
  few_made (item.Bytes n i) = omega arith
  few_made (item.NatMod n c i m) = omega arith

  named_next : (k : ItemKind) (n : ℕ) (t : TypeDef) → definitions file stand copies k ≡ t ∷ [] → declaration file stand n k ≡ d.Named (roll-ValType (type.Named n))
  named_next item.Use n t e = absurd cc
  named_next (item.Const m u x) n t e = absurd cc
  named_next (item.Alias m u) n t e = absurd cc
  named_next (item.Struct m ts) n t e = refl
  named_next (item.Enum m cs) n t e = refl
  named_next (item.Fn m ps u b) n t e = absurd cc
  named_next (item.Array m i u) n t e = refl
  named_next (item.Bytes m i) n t e = refl
  named_next (item.NatMod m c i x) n t e = absurd cc

-- ---- past the items nothing is declared

nothing_listed : (file : File) (os : List ℕ) (k : ℕ) → slice_get file.items k ≡ None → (listed file os).declares k ≡ d.Nothing
nothing_listed file [] k e = refl
nothing_listed file (i ∷ os) k e = by (nothing_listed file os k e) (slice_get file.items i) refl
  where
    other : (listed file os).declares k ≡ d.Nothing → (it : Item) (b : Bool) → nat_eq i k ≡ b → slice_get file.items i ≡ Some it → cond b (declaration file (stands (listed file os)) (length (listed file os).table) it.kind) ((listed file os).declares k) ≡ d.Nothing
    other f it true h here =
        let same : i ≡ k = grind (arith, nat_tests) in
        let clash : Some it ≡ None = sym here ∙ ap (slice_get file.items) same ∙ e in
        absurd cc
    other f it false h here = f

    by : (listed file os).declares k ≡ d.Nothing → (it : Option Item) → slice_get file.items i ≡ it → (with_item file i it (listed file os)).declares k ≡ d.Nothing
    by f None here = f
    by f (Some it) here = other f it (nat_eq i k) refl here

pub nothing_past : (file : File) (order : List ℕ) (k : ℕ) → slice_get file.items k ≡ None → (known file order).declares k ≡ d.Nothing
nothing_past file order k e = nothing_listed file (reverse order) k e

-- ---- all items

lacks_behind : (xs ys : List ℕ) (k : ℕ) → has (xs ++ ys) k ≡ false → has ys k ≡ false
lacks_behind [] ys k h = h
lacks_behind (x ∷ xs) ys k h = by (lacks_behind xs ys k) (nat_eq k x) h
  where
    by : (has (xs ++ ys) k ≡ false → has ys k ≡ false) → (b : Bool) → (b || has (xs ++ ys) k) ≡ false → has ys k ≡ false
    by f true h = cc
    by f false h = f h

rest_lacks : (before after : List ℕ) (k : ℕ) → EachOnce (before ++ after) → has before k ≡ true → has after k ≡ false
rest_lacks [] after k o h = cc
rest_lacks (x ∷ before) after k o h = by (rest_lacks before after k o.1) (nat_eq k x) refl h
  where
    by : (has before k ≡ true → has after k ≡ false) → (b : Bool) → nat_eq k x ≡ b → (b || has before k) ≡ true → has after k ≡ false
    by f true e h = let same : k ≡ x = grind (arith, nat_tests) in ap (has after) same ∙ lacks_behind before after x o.0
    by f false e h = f h

get_within : {X : Type 0} (xs : List X) (i : ℕ) (x : X) → slice_get xs i ≡ Some x → i < length xs
get_within [] i x e = absurd cc
get_within (y ∷ xs) zero x e = omega arith
get_within (y ∷ xs) (suc i) x e = let h = get_within xs i x e in omega (arith, h)

module _ (file : File) (order : List ℕ) (once : EachOnce order) where
  abbrev final : Listed
  final = known file order

  agrees : (before after : List ℕ) → order ≡ before ++ after → (k : ℕ) → has before k ≡ true → final.declares k ≡ (known file before).declares k
  agrees before after e k h =
      ap (λ (os : List ℕ). (known file os).declares k) e ∙ declares_stays file after before k (rest_lacks before after k (subst EachOnce e once) h)

  -- an item declares what is written there, by what all names stand for, and the type that it makes has the next number
  abbrev pub ItemDone : ℕ → Item → Type 0
  ItemDone k it =
      (n : ℕ) × (final.declares k ≡ declaration file (stands final) n it.kind)
      × ((t : TypeDef) → definitions file (stands final) (derives_copy file it.derives) it.kind ≡ t ∷ [] → slice_get final.table n ≡ Some t)

  -- a type with a name is the one that an item makes
  abbrev pub TypeDone : ℕ → TypeDef → Type 0
  TypeDone n t =
      (k : ℕ) × (it : Item) × (slice_get file.items k ≡ Some it) × (definitions file (stands final) (derives_copy file it.derives) it.kind ≡ t ∷ [])
      × (final.declares k ≡ d.Named (roll-ValType (type.Named n)))

  record Done (before : List ℕ) : Type 0 where
    items : (k : ℕ) (it : Item) → slice_get file.items k ≡ Some it → has before k ≡ true → ItemDone k it
    types : (n : ℕ) (t : TypeDef) → slice_get (known file before).table n ≡ Some t → TypeDone n t

  module _ (before after : List ℕ) (i : ℕ) (split : order ≡ before ++ i ∷ after) (met : list_all (has before) (slice_index_or (needs file) i []) ≡ true) (done : Done before) where
    abbrev was : Listed
    was = known file before

    split_more : order ≡ (before ++ i ∷ []) ++ after
    split_more = split ∙ sym (append_assoc before (i ∷ []) after)

    last_has : has (before ++ i ∷ []) i ≡ true
    last_has = let e : nat_eq i i ≡ true = grind (arith, nat_tests) in has_behind before (i ∷ []) i (ap (λ (b : Bool). b || false) e)

    module _ (it : Item) (here : slice_get file.items i ≡ Some it) where
      abbrev copies : Bool
      copies = derives_copy file it.derives

      abbrev next : ℕ
      next = length was.table

      needed : (bs : List (List ℕ)) × (slice_index_or (needs file) i [] ≡ items_of (kind_part file it.kind bs fresh).behind.uses)
      needed = needs_from file file.items 0 [] i it here

      same_on : SameOn file (stands was) (stands final) (kind_part file it.kind needed.0 fresh).behind.uses
      same_on x h =
          ap type_in (sym (agrees before (i ∷ after) split x
          (all_have before (slice_index_or (needs file) i []) x met (ap (λ (xs : List ℕ). has xs x) needed.1 ∙ h))))

      same_definitions : definitions file (stands was) copies it.kind ≡ definitions file (stands final) copies it.kind
      same_definitions = definitions_mean file (stands was) (stands final) copies it.kind needed.0 fresh same_on

      same_declaration : declaration file (stands was) next it.kind ≡ declaration file (stands final) next it.kind
      same_declaration = declaration_means file (stands was) (stands final) next it.kind needed.0 fresh same_on

      behind : known file (before ++ i ∷ []) ≡ with_item file i (Some it) was
      behind = known_item file before i it here

      declared : final.declares i ≡ declaration file (stands final) next it.kind
      declared =
          let itself : nat_eq i i ≡ true = grind (arith, nat_tests) in
          agrees (before ++ i ∷ []) after split_more i last_has ∙ ap (λ (l : Listed). l.declares i) behind
          ∙ ap (λ (b : Bool). cond b (declaration file (stands was) next it.kind) (was.declares i)) itself ∙ same_declaration

      in_table : (n : ℕ) (t : TypeDef) → slice_get (was.table ++ definitions file (stands was) copies it.kind) n ≡ Some t → slice_get final.table n ≡ Some t
      in_table n t e =
          ap (λ (os : List ℕ). slice_get (known file os).table n) split_more
          ∙ table_stays file after (before ++ i ∷ []) n t (ap (λ (l : Listed). slice_get l.table n) behind ∙ e)

      made : (t : TypeDef) → definitions file (stands final) copies it.kind ≡ t ∷ [] → slice_get final.table next ≡ Some t
      made t e = in_table next t (ap (λ (ds : List TypeDef). slice_get (was.table ++ ds) next) (same_definitions ∙ e) ∙ slice_end was.table t)

      item_done : (k : ℕ) (other : Item) → slice_get file.items k ≡ Some other → (has before k ≡ true) ⊎ (k ≡ i) → ItemDone k other
      item_done k other e (inl h) = done.items k other e h
      item_done k other e (inr same) =
          let clash : Some other ≡ Some it = sym e ∙ ap (slice_get file.items) same ∙ here in
          let one : it ≡ other = cc in
          subst (λ (j : ℕ). ItemDone j other) (sym same) (subst (λ (other : Item). ItemDone i other) one (next, declared, made))

      type_done : (n : ℕ) (t : TypeDef) → (slice_get was.table n ≡ Some t) ⊎ ((m : ℕ) × (n ≡ next + m) × (slice_get (definitions file (stands was) copies it.kind) m ≡ Some t)) → TypeDone n t
      type_done n t (inl e) = done.types n t e
      type_done n t (inr (m, at, e)) =
          let new = only_new (definitions file (stands was) copies it.kind) m t (few_made file (stands was) copies it.kind) e in
          let number : next ≡ n = let z = new.0 in omega (arith, at, z) in
          let makes = sym same_definitions ∙ new.1 in
          (i, it, here, makes, declared ∙ named_next file (stands final) copies it.kind next t makes ∙ ap (λ (n : ℕ). d.Named (roll-ValType (type.Named n))) number)

      some_done : Done (before ++ i ∷ [])
      some_done =
          record {
            items = λ k other e h. item_done k other e (has_last_by before i k h);
            types = λ n t e. type_done n t (slice_more was.table (definitions file (stands was) copies it.kind) n t (sym (ap (λ (l : Listed). slice_get l.table n) behind) ∙ e));
          }

    none_item : slice_get file.items i ≡ None → (k : ℕ) (other : Item) → slice_get file.items k ≡ Some other → (has before k ≡ true) ⊎ (k ≡ i) → ItemDone k other
    none_item here k other e (inl h) = done.items k other e h
    none_item here k other e (inr same) = let clash : Some other ≡ None = sym e ∙ ap (slice_get file.items) same ∙ here in absurd cc

    one_done : (o : Option Item) → slice_get file.items i ≡ o → Done (before ++ i ∷ [])
    one_done None here =
        record {
          items = λ k other e h. none_item here k other e (has_last_by before i k h);
          types = λ n t e. done.types n t (sym (ap (λ (l : Listed). slice_get l.table n) (known_none file before i here)) ∙ e);
        }
    one_done (Some it) here = some_done it here

  walk : (before after : List ℕ) → IsOrder (needs file) before after → order ≡ before ++ after → Done before → Done order
  walk before [] o e done = subst Done (sym (e ∙ append-nil before)) done
  walk before (i ∷ after) o e done =
      walk (before ++ i ∷ []) after o.1 (e ∙ sym (append_assoc before (i ∷ []) after))
      (one_done before after i e (needs_listed before (needs file) i o.0) done (slice_get file.items i) refl)

  none_done : Done []
  none_done = record { items = λ k it e h. absurd cc; types = λ n t e. absurd cc }

  module _ (ordered : Ordered file order) where
    all_done : Done order
    all_done = walk [] order ordered.0 refl none_done

    pub items_written : (k : ℕ) (it : Item) → slice_get file.items k ≡ Some it → ItemDone k it
    items_written k it e =
        all_done.items k it e
        (ordered.1 k (let w = get_within file.items k it e in let c = needs_count file in omega (arith, w, c)))

    pub types_written : (n : ℕ) (t : TypeDef) → slice_get final.table n ≡ Some t → TypeDone n t
    types_written n t e = all_done.types n t e
