-- What is asked of written types, by what is asked of the names of items, as far as 32 bits hold it.
use Rattle.std.specs.Prelude.{ℕ, ◌≡◌, ◌≤◌, [], ◌∷◌, zero, suc, ◌+◌, ◌*◌, max, Bool, true, false, ◌&&◌, List, map, fold, length, slice_index_or, Option, Some, None}
use Rattle.hs_base.specs.declared.rule.Rule.TheVariants.{S2}
use Rattle.hs_syntax.specs.declared.span.Span.{Span}
use Rattle.hs_syntax.specs.declared.ty.Ty.{Ty, fold-Ty}
use Rattle.hs_syntax.specs.declared.ty.Ty.TheOpen.{Ty-F}
use Rattle.hs_syntax.specs.declared.ty.Ty.TheOpen as ty
use Rattle.hs_syntax.specs.declared.file.File.{File}
use Rattle.hs_syntax.specs.Texts.{bytes_at}
use Rattle.hs_syntax.specs.Height.{capped}
use Rattle.hs_limits.specs.Nested.{Nested}
use Rattle.hs_limits.specs.Nodes.{outline_of_items}
use Rattle.hs_marks.specs.Marked.{Marked, node}
use Rattle.hs_order.specs.Order.{has}
use Rattle.hs_symbols.specs.declared.referent.BuiltIn.{BuiltIn}
use Rattle.hs_symbols.specs.declared.referent.BuiltIn.TheVariants as b
use Rattle.hs_symbols.specs.declared.referent.Referent.{Referent}
use Rattle.hs_symbols.specs.declared.referent.Referent.TheVariants as r
use Rattle.hs_resolver.specs.Rules.{type_of}
use Rattle.hs_items.specs.declared.facts.Facts.{Facts}
use Rattle.hs_items.specs.declared.shape.Shape.{Shape}
use Rattle.hs_items.specs.declared.shape.Shape.TheVariants as shape
use Rattle.hs_syntax.specs.declared.item.Ctor.{Ctor}
use Rattle.hs_syntax.specs.declared.item.ItemKind.{ItemKind}
use Rattle.hs_syntax.specs.declared.item.ItemKind.TheVariants as item
use Rattle.hs_items.specs.Whole.{copied_over, zero_over, expanded, facts_of}
use Rattle.hs_syntax.specs.declared.item.Item.{Item}
use Rattle.hs_syntax.specs.declared.item.Param.{Param}
use Rattle.hs_values.specs.declared.types.ValType.{ValType}
use Rattle.hs_values.specs.declared.types.TypeDef.{TypeDef}
use Rattle.hs_items.specs.declared.decls.Passing.{Passing}
use Rattle.hs_items.specs.declared.decls.Declaration.{Declaration}
use Rattle.hs_items.specs.declared.decls.Declaration.TheVariants as d
use Rattle.hs_items.specs.Meaning.{Listed, stands, named_type, passing_of, meaning, meanings, type_in}
use Rattle.hs_items.specs.Rules.{too_great}
use Rattle.hs_items.specs.Marks.{when}
use Rattle.hs_items.specs.Nodes.{row}

-- numbers as far as 32 bits hold them
abbrev pub limited : Facts → Facts
limited f = record { height = capped f.height; nodes = capped f.nodes; items = capped f.items; copied = f.copied; has_zero = f.has_zero }

-- of no types
abbrev pub nothing : Facts
nothing = record { height = 0; nodes = 0; items = 0; copied = true; has_zero = true }

-- of the types of two rows
unfoldable pub joined : Facts → Facts → Facts
joined f g = record {
  height = max f.height g.height;
  nodes = capped (f.nodes + g.nodes);
  items = capped (f.items + g.items);
  copied = f.copied && g.copied;
  has_zero = f.has_zero && g.has_zero;
}

abbrev pub items_limited : Shape → ℕ → ℕ
items_limited (shape.Array n) i = capped (capped n * i)
items_limited shape.Tuple i = i
items_limited shape.Single i = 1
items_limited shape.Sequence i = 1
items_limited shape.Choice i = 1
items_limited (shape.Declared d) i = 1

-- of a type of this shape over the types of a row
unfoldable pub over : Shape → Facts → Facts
over s f = record {
  height = capped (suc f.height);
  nodes = capped (suc f.nodes);
  items = items_limited s f.items;
  copied = copied_over s f.copied;
  has_zero = zero_over s f.has_zero;
}

-- of the types of a row, one behind the other
abbrev pub of_row : List Facts → Facts
of_row fs = fold joined nothing fs

-- of a type without parts
abbrev pub single : Facts
single = over shape.Single nothing

-- a built-in name with so many types behind it, of which this is asked
abbrev pub built_facts : BuiltIn → ℕ → Facts → Facts
built_facts b.Seq (suc zero) f = over shape.Sequence f
built_facts b.Option (suc zero) f = over shape.Choice f
built_facts b.Result (suc (suc zero)) f = over shape.Choice f
built_facts _ n f = single

abbrev pub named_facts : (ℕ → Facts) → Option Referent → ℕ → Facts → Facts
named_facts of_item None n f = single
named_facts of_item (Some (r.Local k)) n f = single
named_facts of_item (Some (r.Item k)) n f = of_item k
named_facts of_item (Some (r.Ctor k c)) n f = single
named_facts of_item (Some (r.BuiltIn x)) n f = built_facts x n f

-- what is asked of the name of an item
abbrev pub at : List Facts → ℕ → Facts
at all k = slice_index_or all k single

-- a written type: its bytes, what is asked of it, and the nodes of its parts
pub record Measured : Type 0 where
  pub at : Span
  pub facts : Facts
  pub inside : Marked

-- its nodes
abbrev pub marked_of : Measured → Marked
marked_of m = node m.at (when (too_great m.facts) S2) m.inside

abbrev pub one_measured : Span → Facts → List Measured → Measured
one_measured s f parts = record { at = s; facts = f; inside = row (map marked_of parts) }

abbrev pub of_parts : List Measured → Facts
of_parts ms = of_row (map (λ (m : Measured). m.facts) ms)

module _ (file : File) (of_item : ℕ → Facts) where
  abbrev pub named_measured : Span → List Measured → Facts
  named_measured n ms = named_facts of_item (type_of file (bytes_at file.text n) (length ms)) (length ms) (of_parts ms)

  abbrev pub measured_layer : Ty-F Measured → Measured
  measured_layer (ty.Name n) = one_measured n (named_measured n []) []
  measured_layer (ty.Unit s) = one_measured s single []
  measured_layer (ty.Tuple s ms) = one_measured s (over shape.Tuple (of_parts ms)) ms
  measured_layer (ty.Applied s n ms) = one_measured s (named_measured n ms) ms

  abbrev pub measured : Ty → Measured
  measured = fold-Ty Measured measured_layer

  -- what is asked of a written type
  abbrev pub facts_of_ty : Ty → Facts
  facts_of_ty t = (measured t).facts

  -- the nodes of its parts
  abbrev pub inside_ty : Ty → Marked
  inside_ty t = (measured t).inside

  -- its nodes
  abbrev pub nodes_of_ty : Ty → Marked
  nodes_of_ty t = marked_of (measured t)

  abbrev pub facts_of_tys : List Ty → Facts
  facts_of_tys ts = of_row (map facts_of_ty ts)

  -- what is asked of the parts of constructors
  abbrev pub facts_of_ctors : List Ctor → Facts
  facts_of_ctors cs = of_row (map (λ (c : Ctor). facts_of_tys c.parts) cs)

  -- what is asked of the name of an item, which may be copied
  abbrev pub facts_of_kind : Bool → ItemKind → Facts
  facts_of_kind copies item.Use = single
  facts_of_kind copies (item.Const n t e) = single
  facts_of_kind copies (item.Alias n t) = facts_of_ty t
  facts_of_kind copies (item.Struct n ts) = over (shape.Declared copies) (facts_of_tys ts)
  facts_of_kind copies (item.Enum n cs) = over (shape.Declared copies) (facts_of_ctors cs)
  facts_of_kind copies (item.Fn n ps t b) = single
  facts_of_kind copies (item.Array n i t) = over (shape.Array i.value) (facts_of_ty t)
  facts_of_kind copies (item.Bytes n i) = over (shape.Array i.value) single
  facts_of_kind copies (item.NatMod n c i m) = single

-- of each item the name has what is asked of the type that it stands for
abbrev pub AgreeWith : File → Listed → List Facts → Type 0
AgreeWith file known all = (k : ℕ) → at all k ≡ limited (facts_of (expanded known.table (stands known k)))

-- ---- what code keeps and gives

-- the only type of a list, where it has one
abbrev pub only_one : List ValType → Option ValType
only_one [] = None
only_one (t ∷ []) = Some t
only_one (t ∷ (u ∷ ts)) = None

-- both types of a list, where it has two
abbrev pub only_two : List ValType → Option (ValType × ValType)
only_two [] = None
only_two (t ∷ []) = None
only_two (t ∷ (u ∷ [])) = Some (t, u)
only_two (t ∷ (u ∷ (v ∷ ts))) = None

-- the type that the name of an item stands for, by what each item declares
abbrev pub stands_in : List Declaration → ℕ → ValType
stands_in all k = type_in (slice_index_or all k d.Nothing)

-- a name with these types behind it
abbrev pub named_in : File → List Declaration → Span → List ValType → ValType
named_in file all n ts = named_type (stands_in all) (type_of file (bytes_at file.text n) (length ts)) ts

abbrev pub param_types : File → List Declaration → List Param → List ValType
param_types file all ps = map (λ (p : Param). meaning file (stands_in all) p.ty) ps

abbrev pub passings : List Param → List Passing
passings ps = map (λ (p : Param). passing_of p.mode) ps

-- the constructors of a struct
abbrev pub struct_ctors : File → List Declaration → Span → List Ty → List (List ℕ × List ValType)
struct_ctors file all n ts = (bytes_at file.text n, meanings file (stands_in all) ts) ∷ []

-- the length of an array is in bounds
abbrev pub LengthFits : ItemKind → Type 0
LengthFits (item.Array n i t) = i.value ≤ 65536
LengthFits (item.Bytes n i) = i.value ≤ 65536
LengthFits _ = Unit {0}

abbrev pub AllFit : List Item → Type 0
AllFit [] = Unit {0}
AllFit (i ∷ is) = LengthFits i.kind × AllFit is

-- each number stands in a list once
abbrev pub EachOnce : List ℕ → Type 0
EachOnce [] = Unit {0}
EachOnce (i ∷ is) = (has is i ≡ false) × EachOnce is

-- the nodes of items lie one behind the other
abbrev pub NestedItems : List Item → Type 0
NestedItems is = (end : ℕ) × Nested (outline_of_items is) 0 end

-- what is asked of an entry, if there is one
abbrev pub facts_if : List TypeDef → Facts → List Facts
facts_if [] f = []
facts_if (t ∷ ts) f = f ∷ []

-- each has no parts
abbrev pub AllSingle : List Facts → Type 0
AllSingle all = (k : ℕ) → at all k ≡ single
