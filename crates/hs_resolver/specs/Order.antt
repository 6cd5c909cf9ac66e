-- The order of a file's items, which broken rule is told of its names, and what is answered.
use Rattle.std.specs.Prelude.{ℕ, ◌≡◌, ◌<◌, ◌⊎◌, true, List, [], ◌∷◌, ◌++◌, map, length, slice_get, Option, Some, None, Result, Ok, Err}
use Rattle.hs_base.specs.declared.place.Broken.{Broken}
use Rattle.hs_base.specs.declared.place.Stop.{Stop}
use Rattle.hs_base.specs.declared.place.Stop.TheVariants as stop
use Rattle.hs_base.specs.Positions.{told_at}
use Rattle.hs_base.specs.declared.rule.Rule.TheVariants.{N7}
use Rattle.hs_syntax.specs.declared.span.Span.{Span}
use Rattle.hs_syntax.specs.declared.file.File.{File}
use Rattle.hs_syntax.specs.declared.item.Item.{Item}
use Rattle.hs_marks.specs.declared.breach.Breach.{Breach}
use Rattle.hs_marks.specs.Marked.{Mark, marks}
use Rattle.hs_marks.specs.Told.{Told}
use Rattle.hs_order.specs.Order.{has, IsOrder, IsLeftOut, StandBehindNeeds}
use Rattle.hs_symbols.specs.declared.declared.Declared.{Declared}
use Rattle.hs_symbols.specs.declared.referent.Referent.{Referent}
use Rattle.hs_symbols.specs.declared.referent.Referent.TheVariants as r
use Rattle.hs_symbols.specs.Symbols.{declared_by}
use Rattle.hs_resolver.specs.declared.known.Use.{Use}
use Rattle.hs_resolver.specs.declared.names.ItemNames.{ItemNames}
use Rattle.hs_resolver.specs.declared.names.Names.{Names}
use Rattle.hs_resolver.specs.Parts.{Seen}
use Rattle.hs_resolver.specs.Names.{names_of, marked}

-- the item that a name stands for, or of whose constructors one
abbrev pub item_of : Referent → List ℕ
item_of (r.Item k) = k ∷ []
item_of (r.Ctor k c) = k ∷ []
item_of _ = []

abbrev pub at_most_one : Option ℕ → List ℕ
at_most_one None = []
at_most_one (Some k) = k ∷ []

abbrev pub items_of : List Use → List ℕ
items_of [] = []
items_of (u ∷ us) = item_of u.referent ++ items_of us

-- the name of an item is the first that it declares; a `use` has none, and is never left out
abbrev pub first_name : Span → List Declared → Span
first_name s [] = s
first_name s (d ∷ ds) = d.name

abbrev pub name_of : Item → Span
name_of i = first_name i.span (declared_by 0 i.kind)

-- what is kept of what is known behind an item
abbrev pub kept : Seen → ItemNames
kept a = record { places = a.behind.places; uses = a.behind.uses }

module _ (file : File) where
  -- what each item needs: the items that its text names
  abbrev pub needs : List (List ℕ)
  needs = map (λ (a : Seen). items_of a.behind.uses) (names_of file)

  -- all that is broken but N7
  abbrev pub broken : List Mark
  broken = marks (marked file) 0

  -- the order of all items: each stands behind what it needs
  abbrev pub Ordered : List ℕ → Type 0
  Ordered listed = IsOrder needs [] listed × IsLeftOut listed (length needs) None

  -- each item stands in the order once, behind all that it needs
  abbrev pub EachBehindNeeds : List ℕ → Type 0
  EachBehindNeeds listed = ((item : ℕ) → item < length file.items → has listed item ≡ true) × StandBehindNeeds needs listed

  -- N7: this item needs itself. The name of the first item that is never listed
  abbrev pub NeedsItself : Span → Type 0
  NeedsItself n =
      (listed : List ℕ) × (k : ℕ) × (i : Item) × IsOrder needs [] listed × IsLeftOut listed (length needs) (Some k)
      × (slice_get file.items k ≡ Some i) × (n ≡ name_of i)

  -- what is told: N7 only where nothing else is broken
  abbrev pub IsTold : Breach → Type 0
  IsTold b = Told broken b ⊎ ((broken ≡ []) × (b.rule ≡ N7) × NeedsItself b.span)

-- what the names of a file stand for, and the order of its items
pub record AreNames (file : File) (names : Names) : Type 0 where
  pub items : names.items ≡ map kept (names_of file)
  pub order : Ordered file names.order

-- the names of the file break no rule of the stage
abbrev pub KeepsNames : File → Type 0
KeepsNames file = (broken file ≡ []) × (listed : List ℕ) × Ordered file listed

-- this is told of the names of the file
abbrev pub TellsNames : File → Broken → Type 0
TellsNames file told = (b : Breach) × IsTold file b × (told ≡ told_at file.text b.rule b.span.start)

-- names where no rule of the stage is broken, else the told one
abbrev pub Resolves : File → Result Names Stop → Type 0
Resolves file (Ok names) = (broken file ≡ []) × AreNames file names
Resolves file (Err (stop.Broken told)) = TellsNames file told
Resolves file (Err stop.NoMemory) = Unit {0}
