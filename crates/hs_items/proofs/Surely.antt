-- All that is sure of what the items of an accepted file declare.
use Rattle.std.proofs.Common.{ℕ, ◌≡◌, ◌<◌, ◌^◌, refl, ◌∙◌, ap, subst, true, List, [], length, slice_get, Option, Some, None, Ok, arith}
use Rattle.hs_syntax.specs.declared.file.File.{File}
use Rattle.hs_syntax.specs.declared.item.Item.{Item}
use Rattle.hs_resolver.specs.declared.names.Names.{Names}
use Rattle.hs_resolver.specs.Order as resolver
use Rattle.hs_resolver.specs.Order.{Ordered, Resolves}
use Rattle.hs_values.specs.declared.types.TypeDef.{TypeDef}
use Rattle.hs_items.specs.declared.decls.Decls.{Decls}
use Rattle.hs_items.specs.declared.decls.Declaration.{Declaration}
use Rattle.hs_items.specs.Meaning.{declaration, derives_copy, stands, known}
use Rattle.hs_items.specs.Marks.{broken}
use Rattle.hs_items.specs.Declares.{AreDecls}
use Rattle.hs_items.specs.Walk.{EachOnce}
use Rattle.hs_items.specs.Promises.{IsReadWell, HasCtors, FewParams, TypesMade, DeclarationsMade, CtorsNamed, ConstantsNamed, constant_name, HeadersFew, Few, Sure, SureWhole}
use Rattle.hs_base.specs.Names.{is_name}
use Rattle.hs_items.proofs.Apart.{item_clear}
use Rattle.hs_items.proofs.Limits.{kind_within}
use Rattle.hs_items.proofs.Named.{type_named, function_few, constant_named, names_apart, table_few}
use Rattle.hs_items.proofs.Promised.{as_many, as_known, as_written, declares_at, arrays_counted, all_parts_fit, all_copy_well, headers_given, declarations_fit, each_type, each_item}
use Rattle.hs_items.proofs.Told.{earlier_of, entries_of, once_of, few_order}
use Rattle.hs_items.proofs.Tuples.{kind_tuples, declaration_tuples, kind_is_made, declaration_is_made, definition_tuples, declared_tuples, kind_well, known_tuples}
use Rattle.hs_items.proofs.Written.{items_written}

module _ (file : File) (order : List ℕ) (decls : Decls) (are : AreDecls file order decls) (once : EachOnce order) (ordered : Ordered file order) (keeps_names : resolver.broken file ≡ []) where
  says : (k : ℕ) (i : Item) → slice_get file.items k ≡ Some i → (n : ℕ) × (slice_get decls.items k ≡ Some (declaration file (stands (known file order)) n i.kind))
  says k i e = let (n, is, makes) = items_written file order once ordered k i e in (n, declares_at file order decls are k i e ∙ ap Some is)

  pub is_sure : broken file order ≡ [] → Sure file order decls
  is_sure unbroken =
      record {
        many = as_many file order decls are;
        known = as_known file order decls are;
        written = as_written file order decls are once ordered;
        arrays = arrays_counted file order decls are once ordered unbroken;
        parts = all_parts_fit file order decls are once ordered unbroken;
        copies = all_copy_well file order decls are once ordered unbroken;
        headers = headers_given file order decls are once ordered;
        types = declarations_fit file order decls are once ordered unbroken;
        names = names_apart file order decls are keeps_names once says;
      }

  module _ (read : IsReadWell file) where
    types_tuples : (n : ℕ) (t : TypeDef) → slice_get decls.table n ≡ Some t → kind_tuples t.kind ≡ true
    types_tuples = each_type file order decls are once ordered (λ ts t. kind_tuples t.kind ≡ true) (λ k i t at makes.
        definition_tuples file (stands (known file order)) (known_tuples file read.0 read.1 order) (derives_copy file i.derives) i.kind t makes (kind_well file read.0 k i at) (kind_within file read.1 k i at))

    types_made : TypesMade decls.table
    types_made n t e = kind_is_made n t.kind (earlier_of file order decls are n t e) (types_tuples n t e)

    items_tuples : (k : ℕ) (one : Declaration) → slice_get decls.items k ≡ Some one → declaration_tuples one ≡ true
    items_tuples = each_item file order decls are once ordered (λ ts one. declaration_tuples one ≡ true) (λ k i n at.
        declared_tuples file (stands (known file order)) (known_tuples file read.0 read.1 order) n i.kind (kind_well file read.0 k i at) (kind_within file read.1 k i at))

    items_made : DeclarationsMade decls
    items_made k one e = declaration_is_made (length decls.table) one (entries_of file order decls are k one e) (items_tuples k one e)

    ctors_named : CtorsNamed decls.table
    ctors_named = each_type file order decls are once ordered (λ ts t. (is_name t.name ≡ true) × HasCtors t.kind) (λ k i t at makes.
        let (bs, c) = item_clear file keeps_names k i at in
        type_named file (stands (known file order)) (derives_copy file i.derives) i.kind t bs makes (kind_well file read.0 k i at) (kind_within file read.1 k i at) c)

    headers_few : HeadersFew decls
    headers_few = each_item file order decls are once ordered (λ ts one. FewParams one) (λ k i n at. function_few file (stands (known file order)) n i.kind (kind_well file read.0 k i at) (kind_within file read.1 k i at))

    constants_named : ConstantsNamed file
    constants_named k n e = by (slice_get file.items k) refl e
      where
        by : (o : Option Item) → slice_get file.items k ≡ o → constant_name file.text o ≡ Some n → is_name n ≡ true
        by None at e = absurd cc
        by (Some i) at e = constant_named file.text i.kind n e (kind_well file read.0 k i at)

    pub is_sure_whole : SureWhole file decls
    is_sure_whole = record { made = types_made; types = items_made; ctors = ctors_named; constants = constants_named; functions = headers_few }

-- what is declared by the symbols of a file is what the file declares
pub of_file : (symbols file : File) (os order : List ℕ) (decls : Decls) → symbols ≡ file → os ≡ order → (broken symbols os ≡ []) × AreDecls symbols os decls → (broken file order ≡ []) × AreDecls file order decls
of_file symbols file os order decls same e d =
    subst (λ (f : File). (broken f order ≡ []) × AreDecls f order decls) same (subst (λ (os : List ℕ). (broken symbols os ≡ []) × AreDecls symbols os decls) e d)

-- by what is known of the names of the file
module _ (file : File) (names : Names) (decls : Decls) (resolves : Resolves file (Ok names)) (declares : (broken file names.order ≡ []) × AreDecls file names.order decls) where
  pub sure : Sure file names.order decls
  sure = is_sure file names.order decls declares.1 (once_of file names resolves) resolves.1.order resolves.0 declares.0

  pub few_declared : length file.items < 2 ^ 32 → Few decls
  few_declared l =
      let many = (as_many file names.order decls declares.1).0 in
      let table = ap (λ (ts : List TypeDef). length ts) declares.1.table in
      let few = table_few file names.order in
      let once = few_order file names resolves in
      (omega (arith, l, many), omega (arith, many, table, few, once))

  pub sure_whole : IsReadWell file → SureWhole file decls
  sure_whole = is_sure_whole file names.order decls declares.1 (once_of file names resolves) resolves.1.order resolves.0
