-- What is known of items that are listed, one item more at a time.
use Rattle.std.proofs.Common.{ℕ, zero, suc, ◌+◌, ◌≡◌, ◌≢◌, ◌<◌, ◌≤◌, ◌⊎◌, inl, inr, refl, sym, ◌∙◌, ap, ap₂, subst, Bool, true, false, cond, nat_eq, List, [], ◌∷◌, ◌++◌, map, length, reverse, get_or, set, slice_get, append-nil, Option, Some, None, arith}
use Rattle.std.specs.List.{list_all}
use Rattle.std.proofs.lemmas.List.{length-append, reverse-append, get_or-set_same, get_or-set_other}
use Rattle.std.proofs.lemmas.Bool.Decides.{nat_tests}
use Rattle.hs_words.specs.declared.kinds.IntTy.TheVariants as int
use Rattle.hs_syntax.specs.declared.span.Span.{Span}
use Rattle.hs_syntax.specs.declared.ty.Ty.{Ty}
use Rattle.hs_syntax.specs.declared.file.File.{File}
use Rattle.hs_syntax.specs.declared.item.Item.{Item}
use Rattle.hs_syntax.specs.declared.item.Ctor.{Ctor}
use Rattle.hs_syntax.specs.declared.item.Param.{Param}
use Rattle.hs_syntax.specs.declared.item.Mode.{Mode}
use Rattle.hs_syntax.specs.declared.item.Mode.TheVariants as written
use Rattle.hs_syntax.specs.declared.item.ItemKind.{ItemKind}
use Rattle.hs_syntax.specs.declared.item.ItemKind.TheVariants as item
use Rattle.hs_syntax.specs.Texts.{bytes_at}
use Rattle.hs_values.specs.declared.types.ValType.{ValType, roll-ValType}
use Rattle.hs_values.specs.declared.types.ValType.TheOpen as type
use Rattle.hs_values.specs.declared.types.ValType.TheFolds.{fold-roll-ValType}
use Rattle.hs_values.specs.declared.types.TypeKind.TheVariants as kind
use Rattle.hs_values.specs.declared.types.TypeDef.{TypeDef}
use Rattle.hs_items.specs.declared.facts.Facts.{Facts}
use Rattle.hs_items.specs.declared.shape.Shape.{Shape}
use Rattle.hs_items.specs.declared.shape.Shape.TheVariants as shape
use Rattle.hs_items.specs.declared.decls.Declaration.{Declaration}
use Rattle.hs_items.specs.declared.decls.Declaration.TheVariants as d
use Rattle.hs_items.specs.Whole.{Whole, none, join, node, row, expand_ctors, expand_layer, expand_def, entry, expanded, facts_of}
use Rattle.hs_items.specs.Meaning.{meaning, meanings, result_type, lent_type, lent_types, given, function, ctors, definitions, declaration, derives_copy, type_in, Listed, stands, with_item, listed, known}
use Rattle.hs_items.specs.Declares.{below, all_below, kind_below, declaration_below, NamesEarlier}
use Rattle.hs_items.specs.Walk.{limited, single, over, of_row, at, facts_of_ty, facts_of_tys, facts_of_ctors, facts_of_kind, AgreeWith, AllSingle}
use Rattle.hs_items.proofs.Asking.{join_none, over_is, of_row_is}
use Rattle.hs_items.proofs.Agree.{unit_is, int_is, facts_agree}
use Rattle.hs_items.proofs.Below.{both, and_left, and_right, three, first_of, second_of, third_of, wider, expanded_stays, entry_new, unit_below, int_below, number_below, tuple_below, meaning_below, meanings_below}

-- ---- names of earlier entries

slice_push : {X : Type 0} (xs : List X) (d : X) (k : ℕ) (x : X) → slice_get (xs ++ d ∷ []) k ≡ Some x → (slice_get xs k ≡ Some x) ⊎ ((k ≡ length xs) × (x ≡ d))
slice_push [] d zero x h = inr (refl, cc)
slice_push [] d (suc k) x h = absurd cc
slice_push (y ∷ xs) d zero x h = inl h
slice_push (y ∷ xs) d (suc k) x h = more (slice_push xs d k x h)
  where
    more : (slice_get xs k ≡ Some x) ⊎ ((k ≡ length xs) × (x ≡ d)) → (slice_get xs k ≡ Some x) ⊎ ((suc k ≡ suc (length xs)) × (x ≡ d))
    more (inl e) = inl e
    more (inr e) = inr (ap suc e.0, e.1)

earlier_push : (table : List TypeDef) (new : TypeDef) → NamesEarlier table → kind_below (length table) new.kind ≡ true → NamesEarlier (table ++ new ∷ [])
earlier_push table new h n k t e = by (slice_push table new k t e)
  where
    by : (slice_get table k ≡ Some t) ⊎ ((k ≡ length table) × (t ≡ new)) → kind_below k t.kind ≡ true
    by (inl e) = h k t e
    by (inr e) = ap₂ (λ (k : ℕ) (t : TypeDef). kind_below k t.kind) e.0 e.1 ∙ n

abbrev pub Stands : Listed → Type 0
Stands known = (k : ℕ) → declaration_below (length known.table) (known.declares k) ≡ true

-- each name is that of an earlier entry
pub record Fine (known : Listed) : Type 0 where
  pub declared : Stands known
  pub earlier : NamesEarlier known.table

stand_below : (n : ℕ) (one : Declaration) → declaration_below n one ≡ true → below n (type_in one) ≡ true
stand_below n d.Nothing h = unit_below n
stand_below n (d.Named t) h = h
stand_below n (d.Constant t) h = unit_below n
stand_below n (d.Function f) h = unit_below n

pub stands_below : (known : Listed) → Fine known → (k : ℕ) → below (length known.table) (stands known k) ≡ true
stands_below known fine k = stand_below (length known.table) (known.declares k) (fine.declared k)

wider_all : (few many : ℕ) (more : few ≤ many) (ts : List ValType) → all_below few ts ≡ true → all_below many ts ≡ true
wider_all few many more [] h = refl
wider_all few many more (t ∷ ts) h =
    both (below many t) (all_below many ts) (wider few many more t (and_left (below few t) (all_below few ts) h)) (wider_all few many more ts (and_right (below few t) (all_below few ts) h))

wider_one : (few many : ℕ) (more : few ≤ many) (one : Declaration) → declaration_below few one ≡ true → declaration_below many one ≡ true
wider_one few many more d.Nothing h = refl
wider_one few many more (d.Named t) h = wider few many more t h
wider_one few many more (d.Constant t) h = wider few many more t h
wider_one few many more (d.Function f) h =
    let p = all_below few f.header.params in
    let q = below few f.header.result in
    let r = below few f.result in
    three (all_below many f.header.params) (below many f.header.result) (below many f.result)
    (wider_all few many more f.header.params (first_of p q r h)) (wider few many more f.header.result (second_of p q r h)) (wider few many more f.result (third_of p q r h))

module _ (file : File) (count : ℕ) (stand : ℕ → ValType) (are : (k : ℕ) → below count (stand k) ≡ true) where
  means_below : (t : Ty) → below count (meaning file stand t) ≡ true
  means_below t = meaning_below count stand are file t

  all_mean : (ts : List Ty) → all_below count (meanings file stand ts) ≡ true
  all_mean ts = meanings_below count stand are file ts

  ctors_below : (cs : List Ctor) → list_all (λ (c : List ℕ × List ValType). all_below count c.1) (ctors file stand cs) ≡ true
  ctors_below [] = refl
  ctors_below (c ∷ cs) = both (all_below count (meanings file stand c.parts)) (list_all (λ (c : List ℕ × List ValType). all_below count c.1) (ctors file stand cs)) (all_mean c.parts) (ctors_below cs)

  params_below : (ps : List Param) → all_below count (map (λ (p : Param). meaning file stand p.ty) ps) ≡ true
  params_below [] = refl
  params_below (p ∷ ps) = both (below count (meaning file stand p.ty)) (all_below count (map (λ (p : Param). meaning file stand p.ty) ps)) (means_below p.ty) (params_below ps)

  append_below : (ts us : List ValType) → all_below count ts ≡ true → all_below count us ≡ true → all_below count (ts ++ us) ≡ true
  append_below [] us h k = k
  append_below (t ∷ ts) us h k = both (below count t) (all_below count (ts ++ us)) (and_left (below count t) (all_below count ts) h) (append_below ts us (and_right (below count t) (all_below count ts) h) k)

  lent_below : (m : Mode) (t : ValType) → below count t ≡ true → all_below count (lent_type m t) ≡ true
  lent_below written.Value t h = refl
  lent_below written.Mut t h = refl
  lent_below written.Shared t h = refl
  lent_below written.Lent t h = both (below count t) true h refl

  all_lent : (ps : List Param) → all_below count (lent_types file stand ps) ≡ true
  all_lent [] = refl
  all_lent (p ∷ ps) = append_below (lent_type p.mode (meaning file stand p.ty)) (lent_types file stand ps) (lent_below p.mode (meaning file stand p.ty) (means_below p.ty)) (all_lent ps)

  own_below : (t : Option Ty) → below count (result_type file stand t) ≡ true
  own_below None = unit_below count
  own_below (Some t) = means_below t

  given_below : (ts : List ValType) (own : ValType) → all_below count ts ≡ true → below count own ≡ true → below count (given ts own) ≡ true
  given_below [] own h k = k
  given_below (t ∷ ts) own h k = tuple_below count ((t ∷ ts) ++ own ∷ []) (append_below (t ∷ ts) (own ∷ []) h (both (below count own) true k refl))

  function_below : (n : Span) (ps : List Param) (t : Option Ty) → declaration_below count (d.Function (function file stand n ps t)) ≡ true
  function_below n ps t =
      three (all_below count (map (λ (p : Param). meaning file stand p.ty) ps)) (below count (given (lent_types file stand ps) (result_type file stand t))) (below count (result_type file stand t))
      (params_below ps) (given_below (lent_types file stand ps) (result_type file stand t) (all_lent ps) (own_below t)) (own_below t)

-- the entries that items make
module _ (file : File) (stand : ℕ → ValType) where
  abbrev struct_entry : Span → Bool → List Ty → TypeDef
  struct_entry n copies ts = record { name = bytes_at file.text n; copies = copies; kind = kind.Ctors ((bytes_at file.text n, meanings file stand ts) ∷ []) }

  abbrev enum_entry : Span → Bool → List Ctor → TypeDef
  enum_entry n copies cs = record { name = bytes_at file.text n; copies = copies; kind = kind.Ctors (ctors file stand cs) }

  abbrev array_entry : Span → ℕ → ValType → TypeDef
  array_entry n count t = record { name = bytes_at file.text n; copies = true; kind = kind.Array count t }

abbrev secret : ValType
secret = roll-ValType (type.Int int.SU8)

-- one item more
module _ (file : File) (table : List TypeDef) (stand : ℕ → ValType) (are : (k : ℕ) → below (length table) (stand k) ≡ true) (earlier : NamesEarlier table) where
  pub earlier_more : (copies : Bool) (k : ItemKind) → NamesEarlier (table ++ definitions file stand copies k)
  earlier_more copies item.Use = subst NamesEarlier (sym (append-nil table)) earlier
  earlier_more copies (item.Const n t e) = subst NamesEarlier (sym (append-nil table)) earlier
  earlier_more copies (item.Alias n t) = subst NamesEarlier (sym (append-nil table)) earlier
  earlier_more copies (item.Struct n ts) = earlier_push table (struct_entry file stand n copies ts) earlier (both (all_below (length table) (meanings file stand ts)) true (all_mean file (length table) stand are ts) refl)
  earlier_more copies (item.Enum n cs) = earlier_push table (enum_entry file stand n copies cs) earlier (ctors_below file (length table) stand are cs)
  earlier_more copies (item.Fn n ps t b) = subst NamesEarlier (sym (append-nil table)) earlier
  earlier_more copies (item.Array n i t) = earlier_push table (array_entry file stand n i.value (meaning file stand t)) earlier (means_below file (length table) stand are t)
  earlier_more copies (item.Bytes n i) = earlier_push table (array_entry file stand n i.value secret) earlier (int_below (length table) int.SU8)
  earlier_more copies (item.NatMod n c i m) = subst NamesEarlier (sym (append-nil table)) earlier

  next_below : (new : TypeDef) → below (length (table ++ new ∷ [])) (roll-ValType (type.Named (length table))) ≡ true
  next_below new = number_below (length (table ++ new ∷ [])) (length table) (let l = length-append table (new ∷ []) in omega (arith, l))

  more_stand : (ds : List TypeDef) (k : ℕ) → below (length (table ++ ds)) (stand k) ≡ true
  more_stand ds k = wider (length table) (length (table ++ ds)) (let l = length-append table ds in omega (arith, l)) (stand k) (are k)

  pub declared_more : (copies : Bool) (k : ItemKind) → declaration_below (length (table ++ definitions file stand copies k)) (declaration file stand (length table) k) ≡ true
  declared_more copies item.Use = refl
  declared_more copies (item.Const n t e) = means_below file (length (table ++ [])) stand (more_stand []) t
  declared_more copies (item.Alias n t) = means_below file (length (table ++ [])) stand (more_stand []) t
  declared_more copies (item.Struct n ts) = next_below (struct_entry file stand n copies ts)
  declared_more copies (item.Enum n cs) = next_below (enum_entry file stand n copies cs)
  declared_more copies (item.Fn n ps t b) = function_below file (length (table ++ [])) stand (more_stand []) n ps t
  declared_more copies (item.Array n i t) = next_below (array_entry file stand n i.value (meaning file stand t))
  declared_more copies (item.Bytes n i) = next_below (array_entry file stand n i.value secret)
  declared_more copies (item.NatMod n c i m) = refl

fine_item : (file : File) (i : ℕ) (it : Option Item) (known : Listed) → Fine known → Fine (with_item file i it known)
fine_item file i None known fine = fine
fine_item file i (Some it) known fine =
    record {
      declared = λ k. by k (nat_eq i k);
      earlier = earlier_more file known.table (stands known) (stands_below known fine) fine.earlier (derives_copy file it.derives) it.kind;
    }
  where
    by : (k : ℕ) (b : Bool) → declaration_below (length (known.table ++ definitions file (stands known) (derives_copy file it.derives) it.kind)) (cond b (declaration file (stands known) (length known.table) it.kind) (known.declares k)) ≡ true
    by k true = declared_more file known.table (stands known) (stands_below known fine) fine.earlier (derives_copy file it.derives) it.kind
    by k false =
        wider_one (length known.table) (length (known.table ++ definitions file (stands known) (derives_copy file it.derives) it.kind))
        (let l = length-append known.table (definitions file (stands known) (derives_copy file it.derives) it.kind) in omega (arith, l)) (known.declares k) (fine.declared k)

pub fine_listed : (file : File) (before : List ℕ) → Fine (listed file before)
fine_listed file [] = record { declared = λ k. refl; earlier = λ k t e. cc }
fine_listed file (i ∷ before) = fine_item file i (slice_get file.items i) (listed file before) (fine_listed file before)

pub fine : (file : File) (order : List ℕ) → Fine (known file order)
fine file order = fine_listed file (reverse order)

-- what is known behind one item more
pub known_more : (file : File) (order : List ℕ) (i : ℕ) → known file (order ++ i ∷ []) ≡ with_item file i (slice_get file.items i) (known file order)
known_more file order i = ap (listed file) (reverse-append order (i ∷ []))

-- ---- what is asked of the name of one item more

over_row : (s : Shape) (w : Whole) (f : Facts) → f ≡ limited (facts_of w) → over s f ≡ limited (facts_of (node s (join w none)))
over_row s w f h = ap (over s) (h ∙ ap limited (sym (join_none w))) ∙ over_is s (join w none)

over_whole : (s : Shape) (w : Whole) (f : Facts) → f ≡ limited (facts_of w) → over s f ≡ limited (facts_of (node s w))
over_whole s w f h = ap (over s) h ∙ over_is s w

module _ (file : File) (order : List ℕ) (all : List Facts) (agree : AgreeWith file (known file order) all) where
  abbrev table : List TypeDef
  table = (known file order).table

  abbrev stand : ℕ → ValType
  stand = stands (known file order)

  abbrev asked : Ty → Facts
  asked = facts_of_ty file (at all)

  abbrev whole_of : Ty → Whole
  whole_of t = expanded table (meaning file stand t)

  one_agrees : (t : Ty) → asked t ≡ limited (facts_of (whole_of t))
  one_agrees t = facts_agree file order (at all) agree t

  list_agrees : (ts : List Ty) → map asked ts ≡ map (λ (w : Whole). limited (facts_of w)) (map (expanded table) (meanings file stand ts))
  list_agrees [] = refl
  list_agrees (t ∷ ts) = ap₂ (λ (f : Facts) (fs : List Facts). f ∷ fs) (one_agrees t) (list_agrees ts)

  tys_agree : (ts : List Ty) → facts_of_tys file (at all) ts ≡ limited (facts_of (row (map (expanded table) (meanings file stand ts))))
  tys_agree ts = ap of_row (list_agrees ts) ∙ of_row_is (map (expanded table) (meanings file stand ts))

  abbrev ctor_rows : List Ctor → List Whole
  ctor_rows cs = map (λ (c : Ctor). row (map (expanded table) (meanings file stand c.parts))) cs

  ctor_row : (cs : List Ctor) → expand_ctors (entry table) (ctors file stand cs) ≡ row (ctor_rows cs)
  ctor_row [] = refl
  ctor_row (c ∷ cs) = ap (join (row (map (expanded table) (meanings file stand c.parts)))) (ctor_row cs)

  ctor_list : (cs : List Ctor) → map (λ (c : Ctor). facts_of_tys file (at all) c.parts) cs ≡ map (λ (w : Whole). limited (facts_of w)) (ctor_rows cs)
  ctor_list [] = refl
  ctor_list (c ∷ cs) = ap₂ (λ (f : Facts) (fs : List Facts). f ∷ fs) (tys_agree c.parts) (ctor_list cs)

  ctors_agree : (cs : List Ctor) → facts_of_ctors file (at all) cs ≡ limited (facts_of (expand_ctors (entry table) (ctors file stand cs)))
  ctors_agree cs = ap of_row (ctor_list cs) ∙ of_row_is (ctor_rows cs) ∙ ap (λ (w : Whole). limited (facts_of w)) (sym (ctor_row cs))

  -- the type of a new entry
  new_is : (new : TypeDef) (f : Facts) → f ≡ limited (facts_of (expand_def (entry table) new)) → f ≡ limited (facts_of (expanded (table ++ new ∷ []) (roll-ValType (type.Named (length table)))))
  new_is new f h =
      h ∙ ap (λ (w : Whole). limited (facts_of w)) (sym (fold-roll-ValType Whole (expand_layer (entry (table ++ new ∷ []))) (type.Named (length table)) ∙ entry_new table new))

  pub kind_agrees : (copies : Bool) (k : ItemKind)
      → facts_of_kind file (at all) copies k ≡ limited (facts_of (expanded (table ++ definitions file stand copies k) (type_in (declaration file stand (length table) k))))
  kind_agrees copies item.Use = unit_is (table ++ [])
  kind_agrees copies (item.Const n t e) = unit_is (table ++ [])
  kind_agrees copies (item.Alias n t) = one_agrees t ∙ ap (λ (ds : List TypeDef). limited (facts_of (expanded ds (meaning file stand t)))) (sym (append-nil table))
  kind_agrees copies (item.Struct n ts) = new_is (struct_entry file stand n copies ts) (over (shape.Declared copies) (facts_of_tys file (at all) ts)) (over_row (shape.Declared copies) (row (map (expanded table) (meanings file stand ts))) (facts_of_tys file (at all) ts) (tys_agree ts))
  kind_agrees copies (item.Enum n cs) = new_is (enum_entry file stand n copies cs) (over (shape.Declared copies) (facts_of_ctors file (at all) cs)) (over_whole (shape.Declared copies) (expand_ctors (entry table) (ctors file stand cs)) (facts_of_ctors file (at all) cs) (ctors_agree cs))
  kind_agrees copies (item.Fn n ps t b) = unit_is (table ++ [])
  kind_agrees copies (item.Array n i t) = new_is (array_entry file stand n i.value (meaning file stand t)) (over (shape.Array i.value) (asked t)) (over_whole (shape.Array i.value) (whole_of t) (asked t) (one_agrees t))
  kind_agrees copies (item.Bytes n i) = new_is (array_entry file stand n i.value secret) (over (shape.Array i.value) single) (over_whole (shape.Array i.value) (expanded table (roll-ValType (type.Int int.SU8))) single (int_is table int.SU8))
  kind_agrees copies (item.NatMod n c i m) = unit_is (table ++ [])

  module _ (i : ℕ) (it : Item) (here : i < length all) where
    abbrev new_table : List TypeDef
    new_table = table ++ definitions file stand (derives_copy file it.derives) it.kind

    abbrev new_facts : Facts
    new_facts = facts_of_kind file (at all) (derives_copy file it.derives) it.kind

    by : (k : ℕ) (b : Bool) → nat_eq i k ≡ b
        → at (set all i new_facts) k ≡ limited (facts_of (expanded new_table (type_in (cond b (declaration file stand (length table) it.kind) ((known file order).declares k)))))
    by k true e =
        let same : k ≡ i = grind (arith, nat_tests) in
        ap (at (set all i new_facts)) same ∙ get_or-set_same all i new_facts single here ∙ kind_agrees (derives_copy file it.derives) it.kind
    by k false e =
        let other : k ≢ i = λ q. grind (arith, nat_tests) in
        get_or-set_other all i k new_facts single other ∙ agree k
        ∙ ap (λ (w : Whole). limited (facts_of w)) (sym (expanded_stays (definitions file stand (derives_copy file it.derives) it.kind) table (stand k) (stands_below (known file order) (fine file order) k)))

    pub item_agrees : slice_get file.items i ≡ Some it → AgreeWith file (known file (order ++ i ∷ [])) (set all i new_facts)
    item_agrees e =
        subst (λ (more : Listed). AgreeWith file more (set all i new_facts)) (sym (known_more file order i ∙ ap (λ (o : Option Item). with_item file i o (known file order)) e))
        (λ k. by k (nat_eq i k) refl)

  pub no_item_agrees : (i : ℕ) → slice_get file.items i ≡ None → AgreeWith file (known file (order ++ i ∷ [])) all
  no_item_agrees i e =
      subst (λ (more : Listed). AgreeWith file more all) (sym (known_more file order i ∙ ap (λ (o : Option Item). with_item file i o (known file order)) e)) agree

-- where nothing is listed
pub none_agrees : (file : File) (all : List Facts) → AllSingle all → AgreeWith file (known file []) all
none_agrees file all h k = h k ∙ unit_is []
