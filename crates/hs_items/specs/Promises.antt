-- What is sure of what the items of an accepted file declare.
use Rattle.std.specs.Prelude.{ℕ, ◌≡◌, ◌≤◌, ◌<◌, ◌^◌, Bool, true, false, not, ◌&&◌, ◌||◌, leb, ltb, List, [], ◌∷◌, ◌++◌, map, length, slice_get, slice_index_or, Option, Some, None, bytes_eq}
use Rattle.std.specs.List.{list_all, filter_map, AllByRecursion, IsDistinct}
use Rattle.hs_base.specs.Names.{is_name}
use Rattle.hs_syntax.specs.declared.file.File.{File}
use Rattle.hs_syntax.specs.declared.item.Item.{Item}
use Rattle.hs_syntax.specs.declared.item.ItemKind.{ItemKind}
use Rattle.hs_syntax.specs.declared.item.ItemKind.TheVariants as item
use Rattle.hs_syntax.specs.Texts.{bytes_at}
use Rattle.hs_syntax.specs.WellFormed.{WellFormed}
use Rattle.hs_limits.specs.Breaks.{marks_of}
use Rattle.hs_values.specs.declared.types.ValType.{ValType, roll-ValType, fold-ValType}
use Rattle.hs_values.specs.declared.types.ValType.TheOpen.{ValType-F}
use Rattle.hs_values.specs.declared.types.ValType.TheOpen as type
use Rattle.hs_values.specs.declared.types.TypeKind.{TypeKind}
use Rattle.hs_values.specs.declared.types.TypeKind.TheVariants as kind
use Rattle.hs_values.specs.declared.types.TypeDef.{TypeDef}
use Rattle.hs_items.specs.declared.decls.Decls.{Decls}
use Rattle.hs_items.specs.declared.decls.Passing.{Passing}
use Rattle.hs_items.specs.declared.decls.Passing.TheVariants as passing
use Rattle.hs_items.specs.declared.decls.Declaration.{Declaration}
use Rattle.hs_items.specs.declared.decls.Declaration.TheVariants as d
use Rattle.hs_items.specs.Whole.{copied, expanded, facts_of}
use Rattle.hs_items.specs.Rules.{unfit, too_great}
use Rattle.hs_items.specs.Meaning.{given, definitions, declaration, derives_copy, stands, known}
use Rattle.hs_items.specs.Walk.{stands_in}

-- a file as it is read: well formed, and within the limits on heights and lengths
abbrev pub IsReadWell : File → Type 0
IsReadWell file = WellFormed file.text file.items × (marks_of file ≡ [])

-- a condition on each type with a name, by its number
abbrev pub EachType : List TypeDef → (ℕ → TypeDef → Type 0) → Type 0
EachType table P = (n : ℕ) (t : TypeDef) → slice_get table n ≡ Some t → P n t

-- a condition on what each item declares
abbrev pub EachItem : List Declaration → (Declaration → Type 0) → Type 0
EachItem items P = (k : ℕ) (one : Declaration) → slice_get items k ≡ Some one → P one

-- ---- items and what they declare

-- there is a declaration for each item, and what is asked of each type with a name
abbrev pub AsMany : File → Decls → Type 0
AsMany file decls = (length decls.items ≡ length file.items) × (length decls.facts ≡ length decls.table)

-- they number less than 2^32, and the types with names no more
abbrev pub Few : Decls → Type 0
Few decls = (length decls.items < 2 ^ 32) × (length decls.table ≤ length decls.items)

-- what each item declares, and what its name stands for, is what is known of the items in their order
pub record AsKnown (file : File) (order : List ℕ) (decls : Decls) : Type 0 where
  pub declares : (k : ℕ) → slice_index_or decls.items k d.Nothing ≡ (known file order).declares k
  pub stands : stands_in decls.items ≡ stands (known file order)

-- what an item declares is what is written there, where names stand for what all items declare; a type that it makes has its number
abbrev pub ItemWritten : File → Decls → ℕ → Item → Type 0
ItemWritten file decls k i =
    (n : ℕ) × (slice_get decls.items k ≡ Some (declaration file (stands_in decls.items) n i.kind))
    × ((t : TypeDef) → definitions file (stands_in decls.items) (derives_copy file i.derives) i.kind ≡ t ∷ [] → slice_get decls.table n ≡ Some t)

-- a type with a name is the one that an item makes, where names stand for what all items declare
abbrev pub TypeWritten : File → Decls → ℕ → TypeDef → Type 0
TypeWritten file decls n t =
    (k : ℕ) × (i : Item) × (slice_get file.items k ≡ Some i) × (definitions file (stands_in decls.items) (derives_copy file i.derives) i.kind ≡ t ∷ [])
    × (slice_get decls.items k ≡ Some (d.Named (roll-ValType (type.Named n))))

-- so it is of all items, and of all types with names
pub record AsWritten (file : File) (decls : Decls) : Type 0 where
  pub items : (k : ℕ) (i : Item) → slice_get file.items k ≡ Some i → ItemWritten file decls k i
  pub types : EachType decls.table (TypeWritten file decls)

-- ---- types with names

abbrev pub array_counted : TypeKind → Bool
array_counted (kind.Array n t) = leb 1 n && leb n 65536
array_counted (kind.Ctors cs) = true

-- an array has 1 to 65,536 items
abbrev pub ArraysCounted : List TypeDef → Type 0
ArraysCounted table = EachType table (λ n t. array_counted t.kind ≡ true)

-- a type has height at most 48 and at most 4,096 nodes, with all names expanded
abbrev pub fits_limits : List TypeDef → ValType → Bool
fits_limits table t = not (too_great (facts_of (expanded table t)))

abbrev pub parts_fit : List TypeDef → TypeKind → Bool
parts_fit table (kind.Array n t) = fits_limits table t
parts_fit table (kind.Ctors cs) = list_all (λ (c : List ℕ × List ValType). list_all (fits_limits table) c.1) cs

-- so has the type of an array's items, and of a part of a constructor
abbrev pub PartsFit : List TypeDef → Type 0
PartsFit table = EachType table (λ n t. parts_fit table t.kind ≡ true)

-- a type is copied, with all names expanded
abbrev pub is_copied : List TypeDef → ValType → Bool
is_copied table t = copied (expanded table t)

abbrev pub copies_well : List TypeDef → Bool → TypeKind → Bool
copies_well table copies (kind.Array n t) = copies && not (unfit (facts_of (expanded table t)))
copies_well table copies (kind.Ctors cs) = not copies || list_all (λ (c : List ℕ × List ValType). list_all (is_copied table) c.1) cs

-- an array is copied, and its items are of a copied type with a zero value; what else is copied has copied parts alone
abbrev pub CopiesWell : List TypeDef → Type 0
CopiesWell table = EachType table (λ n t. copies_well table t.copies t.kind ≡ true)

-- ---- well made types

-- the number of parts of a tuple: at least 2, and in a source at most 12
abbrev pub few_parts : Bool → ℕ → Bool
few_parts source n = leb 2 n && (not source || leb n 12)

abbrev pub made_layer : Bool → ℕ → ValType-F Bool → Bool
made_layer source count type.Unit = true
made_layer source count type.Bool = true
made_layer source count (type.Int k) = true
made_layer source count (type.Seq t) = t
made_layer source count (type.Named n) = ltb n count
made_layer source count (type.Tuple ts) = few_parts source (length ts) && list_all (λ t. t) ts
made_layer source count (type.Option t) = t
made_layer source count (type.Result good bad) = good && bad

-- a type's names are of the first types, so many as is said, and each tuple has not too few parts or too many
abbrev pub well_made : Bool → ℕ → ValType → Bool
well_made source count = fold-ValType Bool (made_layer source count)

abbrev pub kind_made : ℕ → TypeKind → Bool
kind_made count (kind.Array n t) = well_made true count t
kind_made count (kind.Ctors cs) = list_all (λ (c : List ℕ × List ValType). list_all (well_made true count) c.1) cs

-- the types of items and parts are well made over earlier types
abbrev pub TypesMade : List TypeDef → Type 0
TypesMade table = EachType table (λ n t. kind_made n t.kind ≡ true)

abbrev pub declaration_made : ℕ → Declaration → Bool
declaration_made count d.Nothing = true
declaration_made count (d.Named t) = well_made true count t
declaration_made count (d.Constant t) = well_made true count t
declaration_made count (d.Function f) =
    list_all (well_made true count) f.header.params && (well_made false count f.header.result && well_made true count f.result)

-- so are the types that names stand for, of constants, of parameters and of what functions give
abbrev pub DeclarationsMade : Decls → Type 0
DeclarationsMade decls = EachItem decls.items (λ one. declaration_made (length decls.table) one ≡ true)

-- ---- constructors

abbrev pub IsCtor : List ℕ × List ValType → Type 0
IsCtor c = (is_name c.0 ≡ true) × (length c.1 ≤ 12)

abbrev pub HasCtors : TypeKind → Type 0
HasCtors (kind.Array n t) = Unit {0}
HasCtors (kind.Ctors cs) = (1 ≤ length cs) × (length cs ≤ 256) × IsDistinct bytes_eq (map (λ (c : List ℕ × List ValType). c.0) cs) × AllByRecursion IsCtor cs

-- a type with a name has a name; what is no array has 1 to 256 constructors of different names, with at most 12 parts each
abbrev pub CtorsNamed : List TypeDef → Type 0
CtorsNamed table = EachType table (λ n t. (is_name t.name ≡ true) × HasCtors t.kind)

-- ---- constants and functions

abbrev pub declaration_fits : List TypeDef → Declaration → Bool
declaration_fits table d.Nothing = true
declaration_fits table (d.Named t) = true
declaration_fits table (d.Constant t) = fits_limits table t
declaration_fits table (d.Function f) = list_all (fits_limits table) f.header.params && fits_limits table f.result

-- the types of constants and parameters, and what functions give themselves, have height at most 48 and at most 4,096 nodes
abbrev pub DeclarationsFit : Decls → Type 0
DeclarationsFit decls = EachItem decls.items (λ one. declaration_fits decls.table one ≡ true)

-- the types of the mutable parameters
abbrev pub lent : List Passing → List ValType → List ValType
lent (passing.Mutable ∷ ms) (t ∷ ts) = t ∷ lent ms ts
lent (passing.Value ∷ ms) (t ∷ ts) = lent ms ts
lent (passing.Shared ∷ ms) (t ∷ ts) = lent ms ts
lent _ _ = []

abbrev pub HeaderGiven : Declaration → Type 0
HeaderGiven (d.Function f) = (length f.modes ≡ length f.header.params) × (f.header.result ≡ given (lent f.modes f.header.params) f.result)
HeaderGiven _ = Unit {0}

-- a function has a mode for each parameter, and a call gives the final values of the mutable ones and then its own result
abbrev pub HeadersGiven : Decls → Type 0
HeadersGiven decls = EachItem decls.items HeaderGiven

abbrev pub FewParams : Declaration → Type 0
FewParams (d.Function f) = (is_name f.header.name ≡ true) × (length f.header.params ≤ 32)
FewParams _ = Unit {0}

-- a function has a name, and at most 32 parameters
abbrev pub HeadersFew : Decls → Type 0
HeadersFew decls = EachItem decls.items FewParams

-- ---- names

abbrev pub name_if_constant : List ℕ → ItemKind → Option (List ℕ)
name_if_constant text (item.Const n t e) = Some (bytes_at text n)
name_if_constant text _ = None

abbrev pub constant_name : List ℕ → Option Item → Option (List ℕ)
constant_name text None = None
constant_name text (Some i) = name_if_constant text i.kind

-- a constant has a name
abbrev pub ConstantsNamed : File → Type 0
ConstantsNamed file = (k : ℕ) (n : List ℕ) → constant_name file.text (slice_get file.items k) ≡ Some n → is_name n ≡ true

abbrev pub function_name : Option Declaration → Option (List ℕ)
function_name (Some (d.Function f)) = Some f.header.name
function_name _ = None

-- the names of types, constants and functions, each in the order of items
abbrev pub item_names : File → List ℕ → Decls → List (List ℕ)
item_names file order decls =
    map (λ (t : TypeDef). t.name) decls.table ++ filter_map (λ k. constant_name file.text (slice_get file.items k)) order
    ++ filter_map (λ k. function_name (slice_get decls.items k)) order

-- no two of them are one
abbrev pub NamesApart : File → List ℕ → Decls → Type 0
NamesApart file order decls = IsDistinct bytes_eq (item_names file order decls)

-- ---- all of this

-- what is sure of what the items of a file declare that break no rule on names and none of the stage
pub record Sure (file : File) (order : List ℕ) (decls : Decls) : Type 0 where
  pub many : AsMany file decls
  pub known : AsKnown file order decls
  pub written : AsWritten file decls
  pub arrays : ArraysCounted decls.table
  pub parts : PartsFit decls.table
  pub copies : CopiesWell decls.table
  pub headers : HeadersGiven decls
  pub types : DeclarationsFit decls
  pub names : NamesApart file order decls

-- and where the file is well formed, and within the limits
pub record SureWhole (file : File) (decls : Decls) : Type 0 where
  pub made : TypesMade decls.table
  pub types : DeclarationsMade decls
  pub ctors : CtorsNamed decls.table
  pub constants : ConstantsNamed file
  pub functions : HeadersFew decls
