-- What written types mean, and what items declare.
use Rattle.std.specs.Prelude.{ℕ, Bool, true, nat_eq, bytes_eq, codes, List, [], ◌∷◌, ◌++◌, map, length, reverse, slice_get, Option, Some, None, if◌then◌else◌}
use Rattle.std.specs.List.{list_any}
use Rattle.hs_words.specs.declared.kinds.IntTy.TheVariants as int
use Rattle.hs_syntax.specs.declared.span.Span.{Span}
use Rattle.hs_syntax.specs.declared.ty.Ty.{Ty, fold-Ty}
use Rattle.hs_syntax.specs.declared.ty.Ty.TheOpen.{Ty-F}
use Rattle.hs_syntax.specs.declared.ty.Ty.TheOpen as ty
use Rattle.hs_syntax.specs.declared.file.File.{File}
use Rattle.hs_syntax.specs.Texts.{bytes_at}
use Rattle.hs_syntax.specs.declared.item.Item.{Item}
use Rattle.hs_syntax.specs.declared.item.Ctor.{Ctor}
use Rattle.hs_syntax.specs.declared.item.Param.{Param}
use Rattle.hs_syntax.specs.declared.item.Mode.{Mode}
use Rattle.hs_syntax.specs.declared.item.Mode.TheVariants as written
use Rattle.hs_syntax.specs.declared.item.ItemKind.{ItemKind}
use Rattle.hs_syntax.specs.declared.item.ItemKind.TheVariants as item
use Rattle.hs_symbols.specs.declared.referent.BuiltIn.{BuiltIn}
use Rattle.hs_symbols.specs.declared.referent.BuiltIn.TheVariants as b
use Rattle.hs_symbols.specs.declared.referent.Referent.{Referent}
use Rattle.hs_symbols.specs.declared.referent.Referent.TheVariants as r
use Rattle.hs_resolver.specs.Rules.{type_of}
use Rattle.hs_values.specs.declared.types.ValType.{ValType, roll-ValType}
use Rattle.hs_values.specs.declared.types.ValType.TheOpen as type
use Rattle.hs_values.specs.declared.types.TypeKind.{TypeKind}
use Rattle.hs_values.specs.declared.types.TypeKind.TheVariants as kind
use Rattle.hs_values.specs.declared.types.TypeDef.{TypeDef}
use Rattle.hs_items.specs.declared.decls.Passing.{Passing}
use Rattle.hs_items.specs.declared.decls.Passing.TheVariants as passing
use Rattle.hs_items.specs.declared.decls.Function.{Function}
use Rattle.hs_items.specs.declared.decls.Declaration.{Declaration}
use Rattle.hs_items.specs.declared.decls.Declaration.TheVariants as d

-- ---- types

abbrev pub unit : ValType
unit = roll-ValType type.Unit

abbrev pub tuple : List ValType → ValType
tuple ts = roll-ValType (type.Tuple ts)

-- a type that is made of one
abbrev pub of_one : (ValType → ValType) → List ValType → ValType
of_one make [] = unit
of_one make (t ∷ []) = make t
of_one make (t ∷ (u ∷ ts)) = unit

-- a type that is made of two
abbrev pub of_two : (ValType → ValType → ValType) → List ValType → ValType
of_two make [] = unit
of_two make (t ∷ []) = unit
of_two make (t ∷ (u ∷ [])) = make t u
of_two make (t ∷ (u ∷ (v ∷ ts))) = unit

-- a built-in name with these types behind it; `()` where it is no type
abbrev pub built_type : BuiltIn → List ValType → ValType
built_type (b.Int k) ts = roll-ValType (type.Int k)
built_type b.Bool ts = roll-ValType type.Bool
built_type b.Seq ts = of_one (λ t. roll-ValType (type.Seq t)) ts
built_type b.Option ts = of_one (λ t. roll-ValType (type.Option t)) ts
built_type b.Result ts = of_two (λ t u. roll-ValType (type.Result t u)) ts
built_type b.Some ts = unit
built_type b.None ts = unit
built_type b.Ok ts = unit
built_type b.Err ts = unit
built_type (b.Convert k l) ts = unit

-- a name that stands for this, where the names of items are these types
abbrev pub named_type : (ℕ → ValType) → Option Referent → List ValType → ValType
named_type stands None ts = unit
named_type stands (Some (r.Local k)) ts = unit
named_type stands (Some (r.Item k)) ts = stands k
named_type stands (Some (r.Ctor k c)) ts = unit
named_type stands (Some (r.BuiltIn x)) ts = built_type x ts

-- ---- how arguments are passed, and what a call gives

abbrev pub passing_of : Mode → Passing
passing_of written.Value = passing.Value
passing_of written.Mut = passing.Value
passing_of written.Shared = passing.Shared
passing_of written.Lent = passing.Mutable

abbrev pub lent_type : Mode → ValType → List ValType
lent_type written.Value t = []
lent_type written.Mut t = []
lent_type written.Shared t = []
lent_type written.Lent t = t ∷ []

-- what a call gives: with mutable parameters their final values and then the function's own result, as a tuple
abbrev pub given : List ValType → ValType → ValType
given [] own = own
given (t ∷ ts) own = tuple ((t ∷ ts) ++ own ∷ [])

module _ (file : File) where
  abbrev spell : Span → List ℕ
  spell = bytes_at file.text

  module _ (stands : ℕ → ValType) where
    abbrev pub meaning_layer : Ty-F ValType → ValType
    meaning_layer (ty.Name n) = named_type stands (type_of file (spell n) 0) []
    meaning_layer (ty.Unit s) = unit
    meaning_layer (ty.Tuple s ts) = tuple ts
    meaning_layer (ty.Applied s n ts) = named_type stands (type_of file (spell n) (length ts)) ts

    -- the type that a written type means
    abbrev pub meaning : Ty → ValType
    meaning = fold-Ty ValType meaning_layer

    abbrev pub meanings : List Ty → List ValType
    meanings ts = map meaning ts

    -- the type of what a function without `->` gives is `()`
    abbrev pub result_type : Option Ty → ValType
    result_type None = unit
    result_type (Some t) = meaning t

    -- ---- functions

    -- the types of the mutable parameters
    abbrev pub lent_types : List Param → List ValType
    lent_types [] = []
    lent_types (p ∷ ps) = lent_type p.mode (meaning p.ty) ++ lent_types ps

    abbrev pub function : Span → List Param → Option Ty → Function
    function n ps t = record {
      header = record { name = spell n; params = map (λ (p : Param). meaning p.ty) ps; result = given (lent_types ps) (result_type t) };
      modes = map (λ (p : Param). passing_of p.mode) ps;
      result = result_type t;
    }

    -- ---- types with names

    abbrev pub ctors : List Ctor → List (List ℕ × List ValType)
    ctors cs = map (λ (c : Ctor). (spell c.name, meanings c.parts)) cs

    abbrev pub definition : Span → Bool → TypeKind → List TypeDef
    definition n copies k = record { name = spell n; copies = copies; kind = k } ∷ []

    -- the entry of the table that an item makes, if it makes one: an array type, a struct or an enum, which may be copied
    abbrev pub definitions : Bool → ItemKind → List TypeDef
    definitions copies item.Use = []
    definitions copies (item.Const n t e) = []
    definitions copies (item.Alias n t) = []
    definitions copies (item.Struct n ts) = definition n copies (kind.Ctors ((spell n, meanings ts) ∷ []))
    definitions copies (item.Enum n cs) = definition n copies (kind.Ctors (ctors cs))
    definitions copies (item.Fn n ps t e) = []
    definitions copies (item.Array n i t) = definition n true (kind.Array i.value (meaning t))
    definitions copies (item.Bytes n i) = definition n true (kind.Array i.value (roll-ValType (type.Int int.SU8)))
    definitions copies (item.NatMod n c i m) = []

    -- what an item declares behind so many entries of the table. The names of a `nat_mod!` stand for no type yet
    abbrev pub declaration : ℕ → ItemKind → Declaration
    declaration next item.Use = d.Nothing
    declaration next (item.Const n t e) = d.Constant (meaning t)
    declaration next (item.Alias n t) = d.Named (meaning t)
    declaration next (item.Struct n ts) = d.Named (roll-ValType (type.Named next))
    declaration next (item.Enum n cs) = d.Named (roll-ValType (type.Named next))
    declaration next (item.Fn n ps t e) = d.Function (function n ps t)
    declaration next (item.Array n i t) = d.Named (roll-ValType (type.Named next))
    declaration next (item.Bytes n i) = d.Named (roll-ValType (type.Named next))
    declaration next (item.NatMod n c i m) = d.Nothing

  -- a derive list names `Copy`
  abbrev pub derives_copy : List Span → Bool
  derives_copy names = list_any (λ (s : Span). bytes_eq (spell s) (codes "Copy")) names

-- the type that the name of an item stands for
abbrev pub type_in : Declaration → ValType
type_in d.Nothing = unit
type_in (d.Named t) = t
type_in (d.Constant t) = unit
type_in (d.Function f) = unit

-- ---- the order of items

-- what is known of listed items: what each declares, and the types with names in their order
pub record Listed : Type 0 where
  pub declares : ℕ → Declaration
  pub table : List TypeDef

-- the type that each name of an item stands for
abbrev pub stands : Listed → ℕ → ValType
stands known k = type_in (known.declares k)

module _ (file : File) where
  -- one item more, which needs none but those that are known
  abbrev pub with_item : ℕ → Option Item → Listed → Listed
  with_item i None known = known
  with_item i (Some it) known = record {
    declares = λ k. if nat_eq i k then declaration file (stands known) (length known.table) it.kind else known.declares k;
    table = known.table ++ definitions file (stands known) (derives_copy file it.derives) it.kind;
  }

  -- what is known of items that are listed, the last first
  abbrev pub listed : List ℕ → Listed
  listed [] = record { declares = λ k. d.Nothing; table = [] }
  listed (i ∷ before) = with_item i (slice_get file.items i) (listed before)

  -- what is known of items in this order
  abbrev pub known : List ℕ → Listed
  known order = listed (reverse order)
