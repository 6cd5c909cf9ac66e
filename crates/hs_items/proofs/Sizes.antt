-- The height of a type and whether it is copied are those of the type with all names expanded.
use Rattle.std.proofs.Common.{ℕ, zero, suc, ◌≡◌, ◌<◌, ◌≤◌, ◌⊎◌, inl, inr, max, refl, sym, ◌∙◌, ap, ap₂, subst, Bool, true, false, cond, ◌&&◌, nat_eq, List, [], ◌∷◌, ◌++◌, map, length, reverse, slice_get, append_assoc, append-nil, Some, arith, not, leb, ◌||◌, ltb}
use Rattle.std.specs.List.{list_all}
use Rattle.std.proofs.Math.Nat.{max-le}
use Rattle.std.proofs.lemmas.Bool.{cases_lt}
use Rattle.std.proofs.lemmas.List.{length-append, length-reverse, reverse-append, reverse-reverse}
use Rattle.std.proofs.lemmas.Bool.Decides.{nat_tests}
use Rattle.hs_values.specs.declared.types.ValType.{ValType, roll-ValType}
use Rattle.hs_values.specs.declared.types.ValType.TheOpen.{ValType-F}
use Rattle.hs_values.specs.declared.types.ValType.TheOpen as type
use Rattle.hs_values.specs.declared.types.ValType.TheFolds.{map-ValType, fold-roll-ValType, ind-ValType}
use Rattle.hs_values.specs.declared.types.TypeKind.{TypeKind}
use Rattle.hs_values.specs.declared.types.TypeKind.TheVariants.{Array, Ctors}
use Rattle.hs_values.specs.declared.types.TypeDef.{TypeDef}
use Rattle.hs_items.specs.declared.shape.Shape.TheVariants as shape
use Rattle.hs_items.specs.Whole.{Whole, join, node, row, expand_layer, expand, expand_ctors, expand_kind, expand_def, numbered, entry, expanded}
use Rattle.hs_items.specs.Whole as whole
use Rattle.hs_items.specs.Declares.{below_layer, below, all_below, kind_below, NamesEarlier}
use Rattle.hs_items.specs.Sizes.{greatest, number_at, height_level, height_in, height_kind, heights_from, height, copies_kind, copies_named, copies_level, copied, HeightsAgree, CopiesAgree, EntriesExpand, LimitsAgree, EntriesFit}
use Rattle.hs_items.specs.Promises.{fits_limits, parts_fit}
use Rattle.hs_items.proofs.Below.{and_left, and_right, entry_new, entry_stays, lt_of_test, number_below, same_expanded}

-- ---- heights, where those of the first types are known

module _ (named : List ℕ) (f : ℕ → Whole) (count : ℕ) (same : (k : ℕ) → k < count → number_at (slice_get named k) ≡ whole.height (f k)) where
  abbrev Agrees : ValType → Type 0
  Agrees t = below count t ≡ true → height_in named t ≡ whole.height (expand f t)

  abbrev AgreeingType : Type 0
  AgreeingType = (t : ValType) × Agrees t

  abbrev inside : ValType-F AgreeingType → ValType-F ValType
  inside y = map-ValType AgreeingType ValType (λ x. x.0) y

  abbrev firsts : List AgreeingType → List ValType
  firsts ts = map (λ (x : AgreeingType). x.0) ts

  list_agrees : (ts : List AgreeingType) → list_all (λ b. b) (map (below count) (firsts ts)) ≡ true → greatest (map (height_in named) (firsts ts)) ≡ whole.height (row (map (expand f) (firsts ts)))
  list_agrees [] h = refl
  list_agrees (t ∷ ts) h =
      ap₂ (λ (a b : ℕ). max a b) (t.1 (and_left (below count t.0) (list_all (λ b. b) (map (below count) (firsts ts))) h))
      (list_agrees ts (and_right (below count t.0) (list_all (λ b. b) (map (below count) (firsts ts))) h))

  layer_agrees : (y : ValType-F AgreeingType) → below_layer count (map-ValType ValType Bool (below count) (inside y)) ≡ true
      → height_level named (map-ValType ValType ℕ (height_in named) (inside y)) ≡ whole.height (expand_layer f (map-ValType ValType Whole (expand f) (inside y)))
  layer_agrees type.Unit h = refl
  layer_agrees type.Bool h = refl
  layer_agrees (type.Int k) h = refl
  layer_agrees (type.Seq t) h = ap suc (t.1 h)
  layer_agrees (type.Named k) h = same k (lt_of_test k count h)
  layer_agrees (type.Tuple ts) h = ap suc (list_agrees ts h)
  layer_agrees (type.Option t) h = ap suc (t.1 h)
  layer_agrees (type.Result t u) h =
      ap₂ (λ (a b : ℕ). suc (max a b)) (t.1 (and_left (below count t.0) (below count u.0) h)) (u.1 (and_right (below count t.0) (below count u.0) h))

  level_agrees : (y : ValType-F AgreeingType) → Agrees (roll-ValType (inside y))
  level_agrees y h =
      fold-roll-ValType ℕ (height_level named) (inside y)
      ∙ layer_agrees y (sym (fold-roll-ValType Bool (below_layer count) (inside y)) ∙ h)
      ∙ ap whole.height (sym (fold-roll-ValType Whole (expand_layer f) (inside y)))

  type_agrees : (t : ValType) → Agrees t
  type_agrees = ind-ValType Agrees (λ x y is. subst (λ z. Agrees (roll-ValType z)) is (level_agrees y))

  types_agree : (ts : List ValType) → all_below count ts ≡ true → greatest (map (height_in named) ts) ≡ whole.height (row (map (expand f) ts))
  types_agree [] h = refl
  types_agree (t ∷ ts) h = ap₂ (λ (a b : ℕ). max a b) (type_agrees t (and_left (below count t) (all_below count ts) h)) (types_agree ts (and_right (below count t) (all_below count ts) h))

  ctors_agree : (cs : List (List ℕ × List ValType)) → list_all (λ (c : List ℕ × List ValType). all_below count c.1) cs ≡ true
      → greatest (map (λ (c : List ℕ × List ValType). greatest (map (height_in named) c.1)) cs) ≡ whole.height (expand_ctors f cs)
  ctors_agree [] h = refl
  ctors_agree (c ∷ cs) h =
      let rest = list_all (λ (c : List ℕ × List ValType). all_below count c.1) cs in
      ap₂ (λ (a b : ℕ). max a b) (types_agree c.1 (and_left (all_below count c.1) rest h)) (ctors_agree cs (and_right (all_below count c.1) rest h))

  kind_agrees : (copies : Bool) (k : TypeKind) → kind_below count k ≡ true → height_kind named k ≡ whole.height (expand_kind f copies k)
  kind_agrees copies (Array n t) h = ap suc (type_agrees t h)
  kind_agrees copies (Ctors cs) h = ap suc (ctors_agree cs h)

-- ---- tables

slice_old : {A : Type 0} (xs : List A) (x : A) (k : ℕ) → k < length xs → slice_get (xs ++ x ∷ []) k ≡ slice_get xs k
slice_old [] x k l = absurd (omega (arith, l))
slice_old (y ∷ xs) x zero l = refl
slice_old (y ∷ xs) x (suc k) l = slice_old xs x k (omega (arith, l))

slice_new : {A : Type 0} (xs : List A) (x : A) → slice_get (xs ++ x ∷ []) (length xs) ≡ Some x
slice_new [] x = refl
slice_new (y ∷ xs) x = slice_new xs x

slice_there : {A : Type 0} (xs ys : List A) (x : A) → slice_get (xs ++ x ∷ ys) (length xs) ≡ Some x
slice_there [] ys x = refl
slice_there (y ∷ xs) ys x = slice_there xs ys x

-- the heights of the types of a table
record Heights (named : List ℕ) (table : List TypeDef) : Type 0 where
  many : length named ≡ length table
  each : (k : ℕ) → k < length table → number_at (slice_get named k) ≡ whole.height (entry table k)

heights_more : (named : List ℕ) (table : List TypeDef) (t : TypeDef) → Heights named table → kind_below (length table) t.kind ≡ true → Heights (named ++ height_kind named t.kind ∷ []) (table ++ t ∷ [])
heights_more named table t h below =
    record {
      many = let l = length-append named (height_kind named t.kind ∷ []) in let m = length-append table (t ∷ []) in let n = h.many in omega (arith, l, m, n);
      each = λ k l. by k (let m = length-append table (t ∷ []) in let c : k < suc (length table) = omega (arith, l, m) in c) (cases_lt k (length table));
    }
  where
    by : (k : ℕ) → k < suc (length table) → (k < length table) ⊎ (length table ≤ k) → number_at (slice_get (named ++ height_kind named t.kind ∷ []) k) ≡ whole.height (entry (table ++ t ∷ []) k)
    by k l (inl less) =
        ap number_at (slice_old named (height_kind named t.kind) k (let n = h.many in omega (arith, less, n))) ∙ h.each k less
        ∙ ap whole.height (sym (entry_stays (t ∷ []) table k less))
    by k l (inr least) =
        let same : k ≡ length table = omega (arith, l, least) in
        let at : k ≡ length named = let n = h.many in omega (arith, same, n) in
        ap (λ (k : ℕ). number_at (slice_get (named ++ height_kind named t.kind ∷ []) k)) at
        ∙ ap number_at (slice_new named (height_kind named t.kind))
        ∙ kind_agrees named (entry table) (length table) h.each t.copies t.kind below
        ∙ ap whole.height (sym (entry_new table t))
        ∙ ap (λ (k : ℕ). whole.height (entry (table ++ t ∷ []) k)) (sym same)

heights_all : (rest table : List TypeDef) (named : List ℕ) → NamesEarlier (table ++ rest) → Heights named table → Heights (heights_from named rest) (table ++ rest)
heights_all [] table named e h = subst (Heights named) (sym (append-nil table)) h
heights_all (t ∷ rest) table named e h =
    subst (Heights (heights_from (named ++ height_kind named t.kind ∷ []) rest)) (append_assoc table (t ∷ []) rest)
    (heights_all rest (table ++ t ∷ []) (named ++ height_kind named t.kind ∷ [])
    (subst NamesEarlier (sym (append_assoc table (t ∷ []) rest)) e)
    (heights_more named table t h (e (length table) t (slice_there table rest t))))

pub heights_agree : HeightsAgree
heights_agree table t e h =
    let all : Heights (heights_from [] table) table = heights_all table [] [] e (record { many = refl; each = λ k l. absurd (omega (arith, l)) }) in
    type_agrees (heights_from [] table) (entry table) (length table) all.each t h

-- ---- copies

-- the entry of a number is what its definition says, over some other entries
numbered_is : (ds : List TypeDef) (k : ℕ) → k < length ds → (f : ℕ → Whole) × (d : TypeDef) × (slice_get (reverse ds) k ≡ Some d) × (numbered ds k ≡ expand_def f d)
numbered_is [] k l = absurd (omega (arith, l))
numbered_is (d ∷ before) k l =
    let (f, e, at, is) = by (nat_eq k (length before)) refl (numbered_is before k) in
    (f, e, ap (λ (ds : List TypeDef). slice_get ds k) (reverse-append (d ∷ []) before) ∙ at, is)
  where
    last : slice_get (reverse before ++ d ∷ []) (length before) ≡ Some d
    last = ap (slice_get (reverse before ++ d ∷ [])) (sym (length-reverse before)) ∙ slice_new (reverse before) d

    by : (b : Bool) → nat_eq k (length before) ≡ b → (k < length before → (f : ℕ → Whole) × (d : TypeDef) × (slice_get (reverse before) k ≡ Some d) × (numbered before k ≡ expand_def f d))
        → (f : ℕ → Whole) × (e : TypeDef) × (slice_get (reverse before ++ d ∷ []) k ≡ Some e) × (cond b (expand_def (numbered before) d) (numbered before k) ≡ expand_def f e)
    by true e g = let same : k ≡ length before = grind (arith, nat_tests) in (numbered before, d, ap (slice_get (reverse before ++ d ∷ [])) same ∙ last, refl)
    by false e g =
        let less : k < length before = grind (arith, nat_tests) in
        let (f, one, at, is) = g less in
        (f, one, slice_old (reverse before) d k (let r = length-reverse before in omega (arith, less, r)) ∙ at, is)

numbered_entry : (table : List TypeDef) (k : ℕ) → k < length table → (f : ℕ → Whole) × (d : TypeDef) × (slice_get table k ≡ Some d) × (entry table k ≡ expand_def f d)
numbered_entry table k l =
    let (f, d, at, is) = numbered_is (reverse table) k (let r = length-reverse table in omega (arith, l, r)) in
    (f, d, ap (λ (ds : List TypeDef). slice_get ds k) (sym (reverse-reverse table)) ∙ at, is)

kind_copied : (f : ℕ → Whole) (d : TypeDef) → copies_kind d.copies d.kind ≡ whole.copied (expand_def f d)
kind_copied f d = by d.copies d.kind
  where
    by : (copies : Bool) (k : TypeKind) → copies_kind copies k ≡ whole.copied (expand_kind f copies k)
    by copies (Array n t) = refl
    by copies (Ctors cs) = refl

module _ (table : List TypeDef) where
  abbrev Copies : ValType → Type 0
  Copies t = below (length table) t ≡ true → copied table t ≡ whole.copied (expanded table t)

  abbrev CopiesType : Type 0
  CopiesType = (t : ValType) × Copies t

  abbrev within : ValType-F CopiesType → ValType-F ValType
  within y = map-ValType CopiesType ValType (λ x. x.0) y

  abbrev types : List CopiesType → List ValType
  types ts = map (λ (x : CopiesType). x.0) ts

  entry_copies : (k : ℕ) → k < length table → copies_named (slice_get table k) ≡ whole.copied (entry table k)
  entry_copies k l =
      let (f, d, at, is) = numbered_entry table k l in
      ap copies_named at ∙ kind_copied f d ∙ ap whole.copied (sym is)

  list_copies : (ts : List CopiesType) → list_all (λ b. b) (map (below (length table)) (types ts)) ≡ true → list_all (λ b. b) (map (copied table) (types ts)) ≡ whole.copied (row (map (expanded table) (types ts)))
  list_copies [] h = refl
  list_copies (t ∷ ts) h =
      ap₂ (λ (a b : Bool). a && b) (t.1 (and_left (below (length table) t.0) (list_all (λ b. b) (map (below (length table)) (types ts))) h))
      (list_copies ts (and_right (below (length table) t.0) (list_all (λ b. b) (map (below (length table)) (types ts))) h))

  layer_copies : (y : ValType-F CopiesType) → below_layer (length table) (map-ValType ValType Bool (below (length table)) (within y)) ≡ true
      → copies_level table (map-ValType ValType Bool (copied table) (within y)) ≡ whole.copied (expand_layer (entry table) (map-ValType ValType Whole (expanded table) (within y)))
  layer_copies type.Unit h = refl
  layer_copies type.Bool h = refl
  layer_copies (type.Int k) h = refl
  layer_copies (type.Seq t) h = refl
  layer_copies (type.Named k) h = entry_copies k (lt_of_test k (length table) h)
  layer_copies (type.Tuple ts) h = list_copies ts h
  layer_copies (type.Option t) h = t.1 h
  layer_copies (type.Result t u) h =
      ap₂ (λ (a b : Bool). a && b) (t.1 (and_left (below (length table) t.0) (below (length table) u.0) h)) (u.1 (and_right (below (length table) t.0) (below (length table) u.0) h))

  level_copies : (y : ValType-F CopiesType) → Copies (roll-ValType (within y))
  level_copies y h =
      fold-roll-ValType Bool (copies_level table) (within y)
      ∙ layer_copies y (sym (fold-roll-ValType Bool (below_layer (length table)) (within y)) ∙ h)
      ∙ ap whole.copied (sym (fold-roll-ValType Whole (expand_layer (entry table)) (within y)))

  type_copies : (t : ValType) → Copies t
  type_copies = ind-ValType Copies (λ x y is. subst (λ z. Copies (roll-ValType z)) is (level_copies y))

pub copies_agree : CopiesAgree
copies_agree table t h = type_copies table t h

-- ---- what entries expand to

module _ (f g : ℕ → Whole) (count : ℕ) (same : (k : ℕ) → k < count → f k ≡ g k) where
  types_expand : (ts : List ValType) → all_below count ts ≡ true → row (map (expand f) ts) ≡ row (map (expand g) ts)
  types_expand [] h = refl
  types_expand (t ∷ ts) h =
      ap₂ (λ (v w : Whole). join v w) (same_expanded f g count same t (and_left (below count t) (all_below count ts) h)) (types_expand ts (and_right (below count t) (all_below count ts) h))

  ctors_expand : (cs : List (List ℕ × List ValType)) → list_all (λ (c : List ℕ × List ValType). all_below count c.1) cs ≡ true → expand_ctors f cs ≡ expand_ctors g cs
  ctors_expand [] h = refl
  ctors_expand (c ∷ cs) h =
      let rest = list_all (λ (c : List ℕ × List ValType). all_below count c.1) cs in
      ap₂ (λ (v w : Whole). join v w) (types_expand c.1 (and_left (all_below count c.1) rest h)) (ctors_expand cs (and_right (all_below count c.1) rest h))

  kind_expands : (copies : Bool) (k : TypeKind) → kind_below count k ≡ true → expand_kind f copies k ≡ expand_kind g copies k
  kind_expands copies (Array n t) h = ap (node (shape.Array n)) (same_expanded f g count same t h)
  kind_expands copies (Ctors cs) h = ap (node (shape.Declared copies)) (ctors_expand cs h)

slice_split : {A : Type 0} (xs : List A) (n : ℕ) (x : A) → slice_get xs n ≡ Some x → (before : List A) × (after : List A) × (xs ≡ before ++ x ∷ after) × (n ≡ length before)
slice_split [] n x e = absurd cc
slice_split (y ∷ ys) zero x e = let same : y ≡ x = cc in ([], ys, ap (λ z. z ∷ ys) same, refl)
slice_split (y ∷ ys) (suc n) x e = let (before, after, whole, place) = slice_split ys n x e in (y ∷ before, after, ap (λ zs. y ∷ zs) whole, ap suc place)

entry_there : (before after : List TypeDef) (d : TypeDef) → NamesEarlier (before ++ d ∷ after) → entry (before ++ d ∷ after) (length before) ≡ expand_def (entry (before ++ d ∷ after)) d
entry_there before after d e =
    let more = length-append before (d ∷ []) in
    ap (λ (t : List TypeDef). entry t (length before)) (sym (append_assoc before (d ∷ []) after))
    ∙ entry_stays after (before ++ d ∷ []) (length before) (omega (arith, more))
    ∙ entry_new before d
    ∙ kind_expands (entry before) (entry (before ++ d ∷ after)) (length before) (λ k l. sym (entry_stays (d ∷ after) before k l)) d.copies d.kind (e (length before) d (slice_there before after d))

pub entries_expand : EntriesExpand
entries_expand table n d e at =
    let (before, after, whole, place) = slice_split table n d at in
    subst (λ (t : List TypeDef). entry t n ≡ expand_def (entry t) d) (sym whole)
    (subst (λ (n : ℕ). entry (before ++ d ∷ after) n ≡ expand_def (entry (before ++ d ∷ after)) d) (sym place) (entry_there before after d (subst NamesEarlier whole e)))

-- ---- limits

low_by : (h : ℕ) (a b : Bool) → ltb 48 h ≡ a → not (a || b) ≡ true → h ≤ 48
low_by h true b e f = absurd cc
low_by h false b e f = grind (arith, nat_tests)

within_low : (table : List TypeDef) (t : ValType) → fits_limits table t ≡ true → whole.height (expanded table t) ≤ 48
within_low table t f = low_by (whole.height (expanded table t)) (ltb 48 (whole.height (expanded table t))) (ltb 4096 (whole.nodes (expanded table t))) refl f

pub limits_agree : LimitsAgree
limits_agree table t e h f =
    let low : height table t ≤ 48 = subst (λ (n : ℕ). n ≤ 48) (sym (heights_agree table t e h)) (within_low table t f) in
    by (height table t) low
  where
    by : (n : ℕ) → n ≤ 48 → leb n 48 ≡ true
    by n l = grind (arith, nat_tests)

types_low : (table : List TypeDef) (ts : List ValType) → list_all (fits_limits table) ts ≡ true → whole.height (row (map (expanded table) ts)) ≤ 48
types_low table [] h = omega arith
types_low table (t ∷ ts) h =
    max-le (within_low table t (and_left (fits_limits table t) (list_all (fits_limits table) ts) h)) (types_low table ts (and_right (fits_limits table t) (list_all (fits_limits table) ts) h))

ctors_low : (table : List TypeDef) (cs : List (List ℕ × List ValType)) → list_all (λ (c : List ℕ × List ValType). list_all (fits_limits table) c.1) cs ≡ true → whole.height (expand_ctors (entry table) cs) ≤ 48
ctors_low table [] h = omega arith
ctors_low table (c ∷ cs) h =
    let rest = list_all (λ (c : List ℕ × List ValType). list_all (fits_limits table) c.1) cs in
    max-le (types_low table c.1 (and_left (list_all (fits_limits table) c.1) rest h)) (ctors_low table cs (and_right (list_all (fits_limits table) c.1) rest h))

kind_low : (table : List TypeDef) (copies : Bool) (k : TypeKind) → parts_fit table k ≡ true → whole.height (expand_kind (entry table) copies k) ≤ 49
kind_low table copies (Array n t) h = let l = within_low table t h in omega (arith, l)
kind_low table copies (Ctors cs) h = let l = ctors_low table cs h in omega (arith, l)

there_within : {A : Type 0} (xs : List A) (i : ℕ) (x : A) → slice_get xs i ≡ Some x → i < length xs
there_within [] i x e = absurd cc
there_within (y ∷ xs) zero x e = omega arith
there_within (y ∷ xs) (suc i) x e = let h = there_within xs i x e in omega (arith, h)

pub entries_fit : EntriesFit
entries_fit table n d e fit at =
    let named = roll-ValType (type.Named n) in
    let below_table = number_below (length table) n (there_within table n d at) in
    let same : height table named ≡ whole.height (expand_def (entry table) d) =
    heights_agree table named e below_table
    ∙ ap whole.height (fold-roll-ValType Whole (expand_layer (entry table)) (type.Named n) ∙ entries_expand table n d e at) in
    subst (λ (h : ℕ). h ≤ 49) (sym same) (kind_low table d.copies d.kind (fit n d at))
