-- What is sure of what the items of an accepted file declare.
use Rattle.std.proofs.Common.{ℕ, zero, suc, ◌≡◌, refl, sym, ◌∙◌, ap, subst, true, List, [], ◌∷◌, length, slice_get, slice_index_or, Option, Some, None, option_map}
use Rattle.std.proofs.Math.Path.{fun_ext}
use Rattle.hs_syntax.specs.declared.file.File.{File}
use Rattle.hs_syntax.specs.declared.item.Item.{Item}
use Rattle.hs_resolver.specs.Order.{Ordered}
use Rattle.hs_values.specs.declared.types.ValType.{ValType}
use Rattle.hs_values.specs.declared.types.TypeDef.{TypeDef}
use Rattle.hs_items.specs.declared.decls.Decls.{Decls}
use Rattle.hs_items.specs.declared.decls.Declaration.{Declaration}
use Rattle.hs_items.specs.declared.decls.Declaration.TheVariants as d
use Rattle.hs_items.specs.Whole.{entry, facts_of}
use Rattle.hs_items.specs.Meaning.{type_in, definitions, declaration, derives_copy, Listed, stands, known}
use Rattle.hs_items.specs.Marks.{broken}
use Rattle.hs_items.specs.Declares.{AreDecls}
use Rattle.hs_items.specs.Walk.{EachOnce, limited, stands_in}
use Rattle.hs_items.specs.Promises.{AsMany, AsKnown, ItemWritten, TypeWritten, AsWritten, ArraysCounted, array_counted, PartsFit, parts_fit, CopiesWell, copies_well, DeclarationsFit, declaration_fits, HeadersGiven, HeaderGiven}
use Rattle.hs_items.proofs.Written.{items_written, types_written, nothing_past}
use Rattle.hs_items.proofs.Clear.{item_keeps, inside_keeps}
use Rattle.hs_items.proofs.Kept.{counted, sized, declared_sized, copied_well, header_given}

pub index_some : {A : Type 0} (xs : List A) (k : ℕ) (e x : A) → slice_get xs k ≡ Some x → slice_index_or xs k e ≡ x
index_some [] k e x h = absurd cc
index_some (y ∷ xs) zero e x h = cc
index_some (y ∷ xs) (suc k) e x h = index_some xs k e x h

pub index_none : {A : Type 0} (xs : List A) (k : ℕ) (e : A) → slice_get xs k ≡ None → slice_index_or xs k e ≡ e
index_none [] k e h = refl
index_none (y ∷ xs) zero e h = absurd cc
index_none (y ∷ xs) (suc k) e h = index_none xs k e h

same_length : {A B : Type 0} (xs : List A) (ys : List B) (f : ℕ → B → A) → ((k : ℕ) → slice_get xs k ≡ option_map (f k) (slice_get ys k)) → length xs ≡ length ys
same_length [] [] f h = refl
same_length [] (y ∷ ys) f h = let e = h 0 in absurd cc
same_length (x ∷ xs) [] f h = let e = h 0 in absurd cc
same_length (x ∷ xs) (y ∷ ys) f h = ap suc (same_length xs ys (λ k. f (suc k)) (λ k. h (suc k)))

module _ (file : File) (order : List ℕ) (decls : Decls) (are : AreDecls file order decls) where
  abbrev final : Listed
  final = known file order

  pub as_many : AsMany file decls
  as_many = (
    same_length decls.items file.items (λ k i. final.declares k) are.items,
    same_length decls.facts final.table (λ k t. limited (facts_of (entry final.table k))) are.facts ∙ sym (ap (λ (t : List TypeDef). length t) are.table),
  )

  declared_by : (k : ℕ) (o : Option Item) → slice_get file.items k ≡ o → slice_index_or decls.items k d.Nothing ≡ final.declares k
  declared_by k None e = index_none decls.items k d.Nothing (are.items k ∙ ap (option_map (λ (i : Item). final.declares k)) e) ∙ sym (nothing_past file order k e)
  declared_by k (Some i) e = index_some decls.items k d.Nothing (final.declares k) (are.items k ∙ ap (option_map (λ (i : Item). final.declares k)) e)

  declared_is : (k : ℕ) → slice_index_or decls.items k d.Nothing ≡ final.declares k
  declared_is k = declared_by k (slice_get file.items k) refl

  stand_is : stands_in decls.items ≡ stands final
  stand_is = fun_ext (λ k. ap type_in (declared_is k))

  pub as_known : AsKnown file order decls
  as_known = record { declares = declared_is; stands = stand_is }

  pub declares_at : (k : ℕ) (i : Item) → slice_get file.items k ≡ Some i → slice_get decls.items k ≡ Some (final.declares k)
  declares_at k i e = are.items k ∙ ap (option_map (λ (i : Item). final.declares k)) e

  module _ (once : EachOnce order) (ordered : Ordered file order) where
    item_is : (k : ℕ) (i : Item) → slice_get file.items k ≡ Some i → ItemWritten file decls k i
    item_is k i e =
        let (n, says, makes) = items_written file order once ordered k i e in (
          n,
          declares_at k i e ∙ ap Some says ∙ ap (λ (st : ℕ → ValType). Some (declaration file st n i.kind)) (sym stand_is),
          λ t h. ap (λ (ts : List TypeDef). slice_get ts n) are.table
              ∙ makes t (ap (λ (st : ℕ → ValType). definitions file st (derives_copy file i.derives) i.kind) (sym stand_is) ∙ h),
        )

    type_is : (n : ℕ) (t : TypeDef) → slice_get decls.table n ≡ Some t → TypeWritten file decls n t
    type_is n t e =
        let (k, i, at, makes, says) = types_written file order once ordered n t (ap (λ (ts : List TypeDef). slice_get ts n) (sym are.table) ∙ e) in
        (k, i, at, ap (λ (st : ℕ → ValType). definitions file st (derives_copy file i.derives) i.kind) stand_is ∙ makes, declares_at k i at ∙ ap Some says)

    pub as_written : AsWritten file decls
    as_written = record { items = item_is; types = type_is }

    -- what each item makes has what it has where names stand for what is known
    pub each_type : (P : List TypeDef → TypeDef → Type 0)
        → ((k : ℕ) (i : Item) (t : TypeDef) → slice_get file.items k ≡ Some i → definitions file (stands final) (derives_copy file i.derives) i.kind ≡ t ∷ [] → P final.table t)
        → (n : ℕ) (t : TypeDef) → slice_get decls.table n ≡ Some t → P decls.table t
    each_type P f n t e =
        let (k, i, at, makes, says) = types_written file order once ordered n t (ap (λ (ts : List TypeDef). slice_get ts n) (sym are.table) ∙ e) in
        subst (λ (ts : List TypeDef). P ts t) (sym are.table) (f k i t at makes)

    pub each_item : (P : List TypeDef → Declaration → Type 0)
        → ((k : ℕ) (i : Item) (n : ℕ) → slice_get file.items k ≡ Some i → P final.table (declaration file (stands final) n i.kind))
        → (k : ℕ) (one : Declaration) → slice_get decls.items k ≡ Some one → P decls.table one
    each_item P f k one e = by (slice_get file.items k) refl
      where
        by : (o : Option Item) → slice_get file.items k ≡ o → P decls.table one
        by None h = let clash : Some one ≡ None = sym e ∙ are.items k ∙ ap (option_map (λ (i : Item). final.declares k)) h in absurd cc
        by (Some i) h =
            let (n, says, makes) = items_written file order once ordered k i h in
            let same : Some (declaration file (stands final) n i.kind) ≡ Some one = sym (declares_at k i h ∙ ap Some says) ∙ e in
            let is : declaration file (stands final) n i.kind ≡ one = cc in
            subst (P decls.table) is (subst (λ (ts : List TypeDef). P ts (declaration file (stands final) n i.kind)) (sym are.table) (f k i n h))

    pub headers_given : HeadersGiven decls
    headers_given = each_item (λ ts one. HeaderGiven one) (λ k i n h. header_given file order n i.kind)

    module _ (unbroken : broken file order ≡ []) where
      pub arrays_counted : ArraysCounted decls.table
      arrays_counted = each_type (λ ts t. array_counted t.kind ≡ true) (λ k i t at makes. counted file order (derives_copy file i.derives) i.kind t makes (item_keeps file order unbroken k i at))

      pub all_parts_fit : PartsFit decls.table
      all_parts_fit = each_type (λ ts t. parts_fit ts t.kind ≡ true) (λ k i t at makes. sized file order (derives_copy file i.derives) i.kind t makes (inside_keeps file order unbroken k i at))

      pub all_copy_well : CopiesWell decls.table
      all_copy_well = each_type (λ ts t. copies_well ts t.copies t.kind ≡ true) (λ k i t at makes. copied_well file order (derives_copy file i.derives) i.kind t makes (item_keeps file order unbroken k i at))

      pub declarations_fit : DeclarationsFit decls
      declarations_fit = each_item (λ ts one. declaration_fits ts one ≡ true) (λ k i n at. declared_sized file order n i.kind (inside_keeps file order unbroken k i at))
