-- What is answered: what the items of a file declare, or the rule that is told.
use Rattle.std.specs.Prelude.{ℕ, ◌≡◌, Bool, true, ltb, ◌&&◌, List, [], length, slice_get, Some, option_map, Result, Ok, Err}
use Rattle.std.specs.List.{list_all}
use Rattle.hs_base.specs.declared.place.Broken.{Broken}
use Rattle.hs_base.specs.declared.place.Stop.{Stop}
use Rattle.hs_base.specs.declared.place.Stop.TheVariants as stop
use Rattle.hs_base.specs.Positions.{told_at}
use Rattle.hs_syntax.specs.declared.file.File.{File}
use Rattle.hs_syntax.specs.declared.item.Item.{Item}
use Rattle.hs_marks.specs.declared.breach.Breach.{Breach}
use Rattle.hs_marks.specs.declared.halt.Halt.{Halt}
use Rattle.hs_marks.specs.declared.halt.Halt.TheVariants as halt
use Rattle.hs_marks.specs.Told.{Told}
use Rattle.hs_resolver.specs.declared.names.Names.{Names}
use Rattle.hs_resolver.specs.Order.{Ordered}
use Rattle.hs_values.specs.declared.types.ValType.{ValType, fold-ValType}
use Rattle.hs_values.specs.declared.types.ValType.TheOpen.{ValType-F}
use Rattle.hs_values.specs.declared.types.ValType.TheOpen as type
use Rattle.hs_values.specs.declared.types.TypeKind.{TypeKind}
use Rattle.hs_values.specs.declared.types.TypeKind.TheVariants as kind
use Rattle.hs_values.specs.declared.types.TypeDef.{TypeDef}
use Rattle.hs_items.specs.declared.decls.Decls.{Decls}
use Rattle.hs_items.specs.declared.decls.Declaration.{Declaration}
use Rattle.hs_items.specs.declared.decls.Declaration.TheVariants as d
use Rattle.hs_items.specs.Whole.{entry, facts_of}
use Rattle.hs_items.specs.Meaning.{known}
use Rattle.hs_items.specs.Walk.{limited}
use Rattle.hs_items.specs.Marks.{broken}

-- ---- the names of types

-- each name of a type is one of the first so many
abbrev pub below_layer : ℕ → ValType-F Bool → Bool
below_layer count type.Unit = true
below_layer count type.Bool = true
below_layer count (type.Int k) = true
below_layer count (type.Seq t) = t
below_layer count (type.Named k) = ltb k count
below_layer count (type.Tuple ts) = list_all (λ b. b) ts
below_layer count (type.Option t) = t
below_layer count (type.Result t u) = t && u

abbrev pub below : ℕ → ValType → Bool
below count = fold-ValType Bool (below_layer count)

abbrev pub all_below : ℕ → List ValType → Bool
all_below count ts = list_all (below count) ts

abbrev pub kind_below : ℕ → TypeKind → Bool
kind_below count (kind.Array n t) = below count t
kind_below count (kind.Ctors cs) = list_all (λ (c : List ℕ × List ValType). all_below count c.1) cs

abbrev pub declaration_below : ℕ → Declaration → Bool
declaration_below count d.Nothing = true
declaration_below count (d.Named t) = below count t
declaration_below count (d.Constant t) = below count t
declaration_below count (d.Function f) = all_below count f.header.params && below count f.header.result && below count f.result

-- each entry of a table has names of entries before it alone
abbrev pub NamesEarlier : List TypeDef → Type 0
NamesEarlier table = (k : ℕ) (t : TypeDef) → slice_get table k ≡ Some t → kind_below k t.kind ≡ true

-- each type of a declaration has names of entries of the table alone
abbrev pub NamesEntries : List TypeDef → List Declaration → Type 0
NamesEntries table all = (k : ℕ) (one : Declaration) → slice_get all k ≡ Some one → declaration_below (length table) one ≡ true

-- ---- what is answered

-- what the items of a file declare: the types with names in the order of their items, what each item declares by its place in
-- the file, and what is asked of each type with a name
pub record AreDecls (file : File) (order : List ℕ) (decls : Decls) : Type 0 where
  pub table : decls.table ≡ (known file order).table
  pub items : (k : ℕ) → slice_get decls.items k ≡ option_map (λ (i : Item). (known file order).declares k) (slice_get file.items k)
  pub facts : (k : ℕ) → slice_get decls.facts k ≡ option_map (λ (t : TypeDef). limited (facts_of (entry (known file order).table k))) (slice_get (known file order).table k)

-- the same before a broken rule has its place in the text, where the items have this order
abbrev pub DeclaresIn : File → List ℕ → Result Decls Halt → Type 0
DeclaresIn file order (Ok decls) = (broken file order ≡ []) × AreDecls file order decls
DeclaresIn file order (Err (halt.Breach b)) = Told (broken file order) b
DeclaresIn file order (Err halt.NoMemory) = Unit {0}

-- the items of the file have an order, and their declarations and written types break no rule of the stage
abbrev pub KeepsDecls : File → Type 0
KeepsDecls file = (order : List ℕ) × Ordered file order × (broken file order ≡ [])

-- this is told of the declarations and the written types of the file, whose items have this order
abbrev pub TellsIn : File → List ℕ → Broken → Type 0
TellsIn file order told = (b : Breach) × Told (broken file order) b × (told ≡ told_at file.text b.rule b.span.start)

-- this is told of the declarations and the written types of the file
abbrev pub TellsDecls : File → Broken → Type 0
TellsDecls file told = (order : List ℕ) × Ordered file order × TellsIn file order told

-- declarations where no rule of the stage is broken, else the told one
abbrev pub Declares : File → Names → Result Decls Stop → Type 0
Declares file names (Ok decls) = (broken file names.order ≡ []) × AreDecls file names.order decls
Declares file names (Err (stop.Broken told)) = TellsIn file names.order told
Declares file names (Err stop.NoMemory) = Unit {0}
