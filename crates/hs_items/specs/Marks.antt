-- Which rules the items and the written types of a file break.
use Rattle.std.specs.Prelude.{ℕ, ◌*◌, Bool, cond, List, [], ◌∷◌, ◌++◌, map, length}
use Rattle.std.specs.List.{list_all}
use Rattle.hs_base.specs.declared.rule.Rule.{Rule}
use Rattle.hs_base.specs.declared.rule.Rule.TheVariants.{N8, N9, N11, N12, S2}
use Rattle.hs_syntax.specs.declared.span.Span.{Span}
use Rattle.hs_syntax.specs.declared.ty.Ty.{Ty, fold-Ty}
use Rattle.hs_syntax.specs.declared.ty.Ty.TheOpen.{Ty-F}
use Rattle.hs_syntax.specs.declared.ty.Ty.TheOpen as ty
use Rattle.hs_syntax.specs.declared.file.File.{File}
use Rattle.hs_syntax.specs.declared.item.Item.{Item}
use Rattle.hs_syntax.specs.declared.item.Ctor.{Ctor}
use Rattle.hs_syntax.specs.declared.item.ItemKind.{ItemKind}
use Rattle.hs_syntax.specs.declared.item.ItemKind.TheVariants as item
use Rattle.hs_syntax.specs.Texts.{bytes_at}
use Rattle.hs_marks.specs.Marked.{Marked, Mark, node, marks}
use Rattle.hs_resolver.specs.Rules.{type_of}
use Rattle.hs_values.specs.declared.types.ValType.{ValType}
use Rattle.hs_items.specs.declared.facts.Facts.{Facts}
use Rattle.hs_items.specs.Whole.{expanded, facts_of, single}
use Rattle.hs_items.specs.Rules.{wrong_count, part_moves, unfit, not_read, too_great}
use Rattle.hs_items.specs.Meaning.{stands, known, unit, tuple, named_type, meaning, derives_copy}
use Rattle.hs_items.specs.Nodes.{row, in_kind}

abbrev pub when : Bool → Rule → List Rule
when b rule = cond b (rule ∷ []) []

-- an array of so many items of a type of which this is asked
abbrev pub array_rules : ℕ → Facts → List Rule
array_rules count item = when (wrong_count (count * item.items)) N8 ++ when (unfit item) N11

-- a struct or an enum, which may be copied, and whose parts all are or not
abbrev pub data_rules : Bool → Bool → List Rule
data_rules copies parts_copied = when (part_moves copies parts_copied) N9

-- ---- items, of whose types this is asked, and which have these nodes

module _ (asked : Ty → Facts) (in_type : Ty → Marked) where
  abbrev pub all_copied : List Ty → Bool
  all_copied ts = list_all (λ (t : Ty). (asked t).copied) ts

  abbrev pub ctors_copied : List Ctor → Bool
  ctors_copied cs = list_all (λ (c : Ctor). all_copied c.parts) cs

  -- the rules that an item breaks, which may be copied
  abbrev pub broken_by : Bool → ItemKind → List Rule
  broken_by copies item.Use = []
  broken_by copies (item.Const n t e) = []
  broken_by copies (item.Alias n t) = []
  broken_by copies (item.Struct n ts) = data_rules copies (all_copied ts)
  broken_by copies (item.Enum n cs) = data_rules copies (ctors_copied cs)
  broken_by copies (item.Fn n ps t b) = []
  broken_by copies (item.Array n i t) = array_rules i.value (asked t)
  broken_by copies (item.Bytes n i) = array_rules i.value (facts_of single)
  broken_by copies (item.NatMod n c i m) = when not_read N12

  abbrev pub item_nodes : File → Item → Marked
  item_nodes file i = node i.span (broken_by (derives_copy file i.derives) i.kind) (in_kind in_type i.kind)

  abbrev pub items_nodes : File → List Item → Marked
  items_nodes file is = row (map (item_nodes file) is)

-- ---- the written types of a file

-- a written type: what it means, and its nodes
pub record Written : Type 0 where
  pub means : ValType
  pub nodes : Marked

module _ (file : File) (order : List ℕ) where
  -- what is asked of a type
  abbrev pub asked_of : ValType → Facts
  asked_of t = facts_of (expanded (known file order).table t)

  abbrev pub means_of : Ty → ValType
  means_of = meaning file (stands (known file order))

  -- a node of a written type
  abbrev pub one_written : Span → ValType → List Written → Written
  one_written s t parts = record { means = t; nodes = node s (when (too_great (asked_of t)) S2) (row (map (λ (w : Written). w.nodes) parts)) }

  abbrev pub parts_mean : List Written → List ValType
  parts_mean ws = map (λ (w : Written). w.means) ws

  abbrev pub named_written : Span → List Written → ValType
  named_written n ws = named_type (stands (known file order)) (type_of file (bytes_at file.text n) (length ws)) (parts_mean ws)

  abbrev pub written_layer : Ty-F Written → Written
  written_layer (ty.Name n) = one_written n (named_written n []) []
  written_layer (ty.Unit s) = one_written s unit []
  written_layer (ty.Tuple s ws) = one_written s (tuple (parts_mean ws)) ws
  written_layer (ty.Applied s n ws) = one_written s (named_written n ws) ws

  abbrev pub written : Ty → Written
  written = fold-Ty Written written_layer

  -- the nodes of a file, with the rules that each breaks
  abbrev pub marked : Marked
  marked = items_nodes (λ t. asked_of (means_of t)) (λ t. (written t).nodes) file file.items

  -- all that is broken
  abbrev pub broken : List Mark
  broken = marks marked 0
