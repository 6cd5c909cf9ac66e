-- What the items of a file declare, and what a name stands for.
use Rattle.std.specs.Prelude.{ℕ, zero, suc, ◌+◌, List, [], ◌∷◌, ◌++◌, Bool, true, false, bytes_eq, slice_get, Option, Some, None, option_map, map, is_some, if◌then◌else◌}
use Rattle.hs_syntax.specs.declared.span.Span.{Span}
use Rattle.hs_syntax.specs.Texts.{bytes_at}
use Rattle.hs_syntax.specs.declared.ty.Ty.{Ty, out-Ty}
use Rattle.hs_syntax.specs.declared.ty.Ty.TheOpen.{Ty-F}
use Rattle.hs_syntax.specs.declared.ty.Ty.TheOpen as ty
use Rattle.hs_syntax.specs.declared.item.Ctor.{Ctor}
use Rattle.hs_syntax.specs.declared.item.Item.{Item}
use Rattle.hs_syntax.specs.declared.item.ItemKind.{ItemKind}
use Rattle.hs_syntax.specs.declared.item.ItemKind.TheVariants as item
use Rattle.hs_symbols.specs.declared.referent.BuiltIn.{BuiltIn}
use Rattle.hs_symbols.specs.declared.referent.Referent.{Referent}
use Rattle.hs_symbols.specs.declared.referent.Referent.TheVariants as r
use Rattle.hs_symbols.specs.declared.declared.Declared.{Declared}
use Rattle.hs_symbols.specs.declared.declared.Sort.{Sort}
use Rattle.hs_symbols.specs.declared.declared.Sort.TheVariants as s
use Rattle.hs_symbols.specs.declared.way.Way.{Way}
use Rattle.hs_symbols.specs.declared.way.Way.TheVariants as way
use Rattle.hs_scope.specs.Scope.{Binding, look}
use Rattle.hs_scope.specs.Names.{number_of}
use Rattle.hs_symbols.specs.Words.{or_else, listed, empty_ctor, type_word, called_word, ctor_word, built_in}

-- a name that an item declares: the item's number, and what the name is declared as
abbrev pub declare : ℕ → Sort → Span → Declared
declare k sort n = record { name = n; item = k; sort = sort }

-- what an item of this number declares. `nat_mod!` declares two names, `use` none
abbrev pub declared_by : ℕ → ItemKind → List Declared
declared_by k item.Use = []
declared_by k (item.Const n t e) = declare k s.Constant n ∷ []
declared_by k (item.Alias n t) = declare k s.Alias n ∷ []
declared_by k (item.Struct n ts) = declare k s.Struct n ∷ []
declared_by k (item.Enum n cs) = declare k s.Enum n ∷ []
declared_by k (item.Fn n ps t b) = declare k s.Function n ∷ []
declared_by k (item.Array n i t) = declare k s.Array n ∷ []
declared_by k (item.Bytes n i) = declare k s.Array n ∷ []
declared_by k (item.NatMod n c i m) = declare k s.Field n ∷ declare k s.Canvas c ∷ []

-- what items declare that are numbered from this number on
abbrev pub declared_from : ℕ → List Item → List Declared
declared_from k [] = []
declared_from k (i ∷ is) = declared_by k i.kind ++ declared_from (k + 1) is

-- what a built-in name stands for
abbrev pub built : Option BuiltIn → Option Referent
built None = None
built (Some b) = Some (r.BuiltIn b)

-- what stands for a type. The canvas of a field is none
abbrev pub is_type : Sort → Bool
is_type s.Alias = true
is_type s.Struct = true
is_type s.Enum = true
is_type s.Array = true
is_type s.Field = true
is_type _ = false

-- what can stand before `(`. An alias and an enum cannot
abbrev pub is_called : Sort → Bool
is_called s.Function = true
is_called s.Struct = true
is_called s.Array = true
is_called _ = false

-- a constant
abbrev pub is_constant : Sort → Bool
is_constant s.Constant = true
is_constant _ = false

-- a struct
abbrev pub is_struct : Sort → Bool
is_struct s.Struct = true
is_struct _ = false

-- the item that declares it, where it is declared as such a sort
abbrev pub item_if : (Sort → Bool) → Option Declared → Option ℕ
item_if holds None = None
item_if holds (Some d) = if holds d.sort then Some d.item else None

-- the name that a form of types is
abbrev pub name_of_layer : {T : Type 0} → Ty-F T → Option Span
name_of_layer (ty.Name n) = Some n
name_of_layer _ = None

-- the name that a type is, where it is one alone
abbrev pub name_of_ty : Ty → Option Span
name_of_ty t = name_of_layer (out-Ty t)

-- the name that an alias gives another name
abbrev pub target : ItemKind → Option Span
target (item.Alias n t) = name_of_ty t
target _ = None

-- where the name of an item of this number leads as a type: to the struct or the enum, or to the alias; else nowhere
abbrev pub way_in : ℕ → ItemKind → Way
way_in k (item.Struct n ts) = way.Data k
way_in k (item.Enum n cs) = way.Data k
way_in k (item.Alias n t) = way.Alias k
way_in k _ = way.Nowhere

-- the name that an alias gives another name, where the item is there
abbrev pub target_at : Option Item → Option Span
target_at None = None
target_at (Some i) = target i.kind

-- the struct or the enum to which a way leads
abbrev pub data_on : Way → Option ℕ
data_on (way.Data k) = Some k
data_on _ = None

module _ (text : List ℕ) (items : List Item) where
  -- all that the items declare
  abbrev pub declared : List Declared
  declared = declared_from 0 items

  -- the names under which it is declared, in the same order
  abbrev pub titles : List (List ℕ)
  titles = map (λ (d : Declared). bytes_at text d.name) declared

  -- what is declared at a place of that list
  abbrev pub declared_at : Option ℕ → Option Declared
  declared_at None = None
  declared_at (Some k) = slice_get declared k

  -- what a name stands for among items: the first that is declared under it. What is built in is no item's name
  abbrev pub named : List ℕ → Option Declared
  named w = if is_some (built_in w) then None else declared_at (number_of w titles)

  -- the item that declares a name as such a sort
  abbrev pub item_named : (Sort → Bool) → List ℕ → Option Referent
  item_named holds w = option_map (λ k. r.Item k) (item_if holds (named w))

  -- what a name stands for as a type, without types behind it: a built-in type, else an item's
  abbrev pub type_named : List ℕ → Option Referent
  type_named w = or_else (built (type_word w)) (item_named is_type w)

  -- what a name before `(` stands for: what is built in and can stand there, else an item
  abbrev pub callee_named : List ℕ → Option Referent
  callee_named w = or_else (built (called_word w)) (item_named is_called w)

  -- what a name alone stands for: the local in scope, else `None`, else a constant
  abbrev pub value_named : List Binding → List ℕ → Option Referent
  value_named scope w =
      or_else (option_map (λ k. r.Local k) (look w scope)) (or_else (built (listed empty_ctor w)) (item_named is_constant w))

  -- what a constructor's name in a pattern stands for: a built-in constructor, else that of a struct
  abbrev pub ctor_named : List ℕ → Option Referent
  ctor_named w = or_else (built (ctor_word w)) (option_map (λ k. r.Ctor k 0) (item_if is_struct (named w)))

  -- whether a name is a constant's
  abbrev pub is_constant_name : List ℕ → Bool
  is_constant_name w = is_some (item_if is_constant (named w))

  -- where the name of an item leads as a type, where the item is there
  abbrev pub way_at : ℕ → Option Item → Way
  way_at k None = way.Nowhere
  way_at k (Some i) = way_in k i.kind

  -- where a name leads that stands for this as a type
  abbrev pub way_by : Option Referent → Way
  way_by (Some (r.Item k)) = way_at k (slice_get items k)
  way_by _ = way.Nowhere

  -- where a name leads as a type
  abbrev pub way_named : List ℕ → Way
  way_named w = way_by (type_named w)

  -- where the name leads that an alias gives another name
  abbrev pub way_from : Option Span → Way
  way_from None = way.Nowhere
  way_from (Some name) = way_named (bytes_at text name)

  -- one hop: from an alias to where its name leads
  abbrev pub hop : Way → Way
  hop (way.Alias k) = way_from (target_at (slice_get items k))
  hop (way.Data k) = way.Data k
  hop way.Nowhere = way.Nowhere

  -- so many hops
  unfoldable pub hops : ℕ → Way → Way
  hops zero w = w
  hops (suc n) w = hops n (hop w)

  -- the struct or the enum that a name of a type stands for, behind any number of aliases: a file has fewer than 262,144
  abbrev pub data_of : List ℕ → Option ℕ
  data_of w = data_on (hops 262144 (way_named w))

  -- the place of the first constructor of this name, from a number on
  abbrev pub ctor_place : ℕ → List ℕ → List Ctor → Option ℕ
  ctor_place k w [] = None
  ctor_place k w (c ∷ cs) = if bytes_eq w (bytes_at text c.name) then Some k else ctor_place (k + 1) w cs

  -- the place of a constructor among those of an item; a struct has one, with its own name
  abbrev pub place_in : List ℕ → ItemKind → Option ℕ
  place_in w (item.Struct n ts) = if bytes_eq w (bytes_at text n) then Some 0 else None
  place_in w (item.Enum n cs) = ctor_place 0 w cs
  place_in w _ = None

  -- the constructor of this name of an item, where the item is there
  abbrev pub ctor_of : ℕ → List ℕ → Option Item → Option Referent
  ctor_of k w None = None
  ctor_of k w (Some i) = option_map (λ c. r.Ctor k c) (place_in w i.kind)

  -- the constructor of this name of a struct or an enum, where there is one
  abbrev pub ctor_in : List ℕ → Option ℕ → Option Referent
  ctor_in w None = None
  ctor_in w (Some k) = ctor_of k w (slice_get items k)

  -- what `T::x` stands for as a constructor: that of the name x of the struct or the enum to which T leads
  abbrev pub member : List ℕ → List ℕ → Option Referent
  member t x = ctor_in x (data_of t)
