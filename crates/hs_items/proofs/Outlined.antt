-- The nodes of a file that declarations are asked of lie as those of its outline, and what is broken first in them is the same by
-- what is asked as far as 32 bits hold it.
use Rattle.std.proofs.Common.{ℕ, ◌+◌, ◌*◌, ◌≡◌, refl, sym, ◌∙◌, ap, ap₂, subst, Bool, List, [], ◌∷◌, ◌++◌, map, ◌&&◌, not}
use Rattle.std.proofs.Math.Path.{fun_ext}
use Rattle.hs_base.specs.declared.rule.Rule.{Rule}
use Rattle.hs_base.specs.declared.rule.Rule.TheVariants.{N8, N9, N11, N12}
use Rattle.hs_syntax.specs.declared.ty.Ty.{Ty, roll-Ty}
use Rattle.hs_syntax.specs.declared.ty.Ty.TheOpen.{Ty-F}
use Rattle.hs_syntax.specs.declared.ty.Ty.TheOpen as ty
use Rattle.hs_syntax.specs.declared.ty.Ty.TheFolds.{map-Ty, fold-roll-Ty, ind-Ty}
use Rattle.hs_syntax.specs.declared.file.File.{File}
use Rattle.hs_syntax.specs.declared.item.Item.{Item}
use Rattle.hs_syntax.specs.declared.item.Ctor.{Ctor}
use Rattle.hs_syntax.specs.declared.item.Param.{Param}
use Rattle.hs_syntax.specs.declared.item.ItemKind.{ItemKind}
use Rattle.hs_syntax.specs.declared.item.ItemKind.TheVariants as item
use Rattle.hs_marks.specs.Marked.{Marked, node}
use Rattle.hs_marks.specs.Told.{Lies, Rising, RisesFrom}
use Rattle.hs_limits.specs.Outline.{Node, part, parameter, numbered}
use Rattle.hs_limits.specs.Outline as outline
use Rattle.hs_limits.specs.Nodes.{node_of_ty, node_of_ctor, node_of_param, kind_outline, outline_of_items}
use Rattle.hs_limits.specs.Nodes as nodes
use Rattle.hs_limits.specs.Nested.{NestedFile}
use Rattle.hs_items.specs.declared.facts.Facts.{Facts}
use Rattle.hs_items.specs.Whole.{facts_of, single}
use Rattle.hs_items.specs.Rules.{wrong_count, unfit, not_read}
use Rattle.hs_items.specs.Meaning.{stands, known, derives_copy}
use Rattle.hs_items.specs.Nodes.{row, in_types, in_ctor, in_param, in_kind}
use Rattle.hs_items.specs.Marks.{when, array_rules, broken_by, item_nodes, items_nodes, Written, asked_of, means_of, written, written_layer, marked}
use Rattle.hs_items.specs.Walk.{limited, facts_of_ty, nodes_of_ty}
use Rattle.hs_items.proofs.Counts.{wrong_product}
use Rattle.hs_items.proofs.Agree.{facts_agree, nodes_agree}
use Rattle.hs_items.proofs.Good.{Good, Fits, good_none, good_join, good_right, good_node, good_inside, good_over, one_rises, array_rises, numbered_fits}
use Rattle.hs_items.proofs.Lies.{optional_fits, exp_fits, block_fits}

-- ---- what an item breaks, as far as 32 bits hold what is asked

array_limited : (n : ℕ) (f : Facts) → array_rules n (limited f) ≡ array_rules n f
array_limited n f = ap (λ (b : Bool). when b N8 ++ when (not (f.copied && f.has_zero)) N11) (wrong_product n f.items)

module _ (asked : Ty → Facts) (in_type : Ty → Marked) where
  rules_limited : (copies : Bool) (kind : ItemKind) → broken_by (λ t. limited (asked t)) in_type copies kind ≡ broken_by asked in_type copies kind
  rules_limited copies item.Use = refl
  rules_limited copies (item.Const n t e) = refl
  rules_limited copies (item.Alias n t) = refl
  rules_limited copies (item.Struct n ts) = refl
  rules_limited copies (item.Enum n cs) = refl
  rules_limited copies (item.Fn n ps t b) = refl
  rules_limited copies (item.Array n i t) = array_limited i.value (asked t)
  rules_limited copies (item.Bytes n i) = refl
  rules_limited copies (item.NatMod n c i m) = refl

  list_limited : (file : File) (is : List Item) → map (item_nodes (λ t. limited (asked t)) in_type file) is ≡ map (item_nodes asked in_type file) is
  list_limited file [] = refl
  list_limited file (i ∷ is) =
      ap₂ (λ (rules : List Rule) (ms : List Marked). node i.span rules (in_kind in_type i.kind) ∷ ms) (rules_limited (derives_copy file i.derives) i.kind) (list_limited file is)

  items_limited : (file : File) (is : List Item) → items_nodes (λ t. limited (asked t)) in_type file is ≡ items_nodes asked in_type file is
  items_limited file is = ap row (list_limited file is)

-- the nodes by what is asked of the names of items
pub same_nodes : (file : File) (order : List ℕ) (of_item : ℕ → Facts) → ((k : ℕ) → of_item k ≡ limited (asked_of file order (stands (known file order) k)))
    → items_nodes (facts_of_ty file of_item) (nodes_of_ty file of_item) file file.items ≡ marked file order
same_nodes file order of_item agree =
    ap₂ (λ (f : Ty → Facts) (g : Ty → Marked). items_nodes f g file file.items) (fun_ext (facts_agree file order of_item agree)) (fun_ext (nodes_agree file order of_item agree))
    ∙ items_limited (λ t. asked_of file order (means_of file order t)) (λ t. (written file order t).nodes) file file.items

-- ---- where nodes lie

module _ (file : File) (order : List ℕ) where
  abbrev in_type : Ty → Marked
  in_type t = (written file order t).nodes

  abbrev TyFits : Ty → Type 0
  TyFits t = Fits (node_of_ty t) (in_type t)

  abbrev FitTy : Type 0
  FitTy = (t : Ty) × TyFits t

  abbrev inside : Ty-F FitTy → Ty-F Ty
  inside y = map-Ty FitTy Ty (λ x. x.0) y

  abbrev firsts : List FitTy → List Ty
  firsts ts = map (λ (x : FitTy). x.0) ts

  abbrev nodes_of : List FitTy → Marked
  nodes_of ts = row (map (λ (w : Written). w.nodes) (map (written file order) (firsts ts)))

  tuple_fits : (i : ℕ) (ts : List FitTy) → Good (numbered 12 part i (map node_of_ty (firsts ts))) (nodes_of ts)
  tuple_fits i [] = good_none
  tuple_fits i (t ∷ ts) = good_join (good_over t.1) (tuple_fits (i + 1) ts)

  applied_fits : (ts : List FitTy) → Good (outline.all (map node_of_ty (firsts ts))) (nodes_of ts)
  applied_fits [] = good_none
  applied_fits (t ∷ ts) = good_join t.1 (applied_fits ts)

  ty_layer_fits : (y : Ty-F FitTy) → Fits (nodes.ty_layer (map-Ty Ty Node node_of_ty (inside y))) (written_layer file order (map-Ty Ty Written (written file order) (inside y))).nodes
  ty_layer_fits (ty.Name n) = good_node (one_rises _ _) good_none
  ty_layer_fits (ty.Unit s) = good_node (one_rises _ _) good_none
  ty_layer_fits (ty.Tuple s ts) = good_node (one_rises _ _) (tuple_fits 0 ts)
  ty_layer_fits (ty.Applied s n ts) = good_node (one_rises _ _) (good_right (applied_fits ts))

  ty_level : (y : Ty-F FitTy) → TyFits (roll-Ty (inside y))
  ty_level y =
      subst (λ (n : Node). Fits n (in_type (roll-Ty (inside y)))) (sym (fold-roll-Ty Node nodes.ty_layer (inside y)))
      (subst (λ (w : Written). Fits (nodes.ty_layer (map-Ty Ty Node node_of_ty (inside y))) w.nodes) (sym (fold-roll-Ty Written (written_layer file order) (inside y))) (ty_layer_fits y))

  ty_fits : (t : Ty) → TyFits t
  ty_fits = ind-Ty TyFits (λ x y is. subst (λ z. TyFits (roll-Ty z)) is (ty_level y))

  tys_fit : (ts : List Ty) → Good (numbered 12 part 0 (map node_of_ty ts)) (in_types in_type ts)
  tys_fit ts = numbered_fits Ty node_of_ty in_type ty_fits 12 part 0 ts

  ctor_fits : (c : Ctor) → Fits (node_of_ctor c) (in_ctor in_type c)
  ctor_fits c = good_inside (good_right (tys_fit c.parts))

  param_fits : (p : Param) → Fits (node_of_param p) (in_param in_type p)
  param_fits p = good_inside (good_right (ty_fits p.ty))

  kind_fits : (kind : ItemKind) → Good (kind_outline kind) (in_kind in_type kind)
  kind_fits item.Use = good_none
  kind_fits (item.Const n t e) = good_right (good_join (ty_fits t) (exp_fits in_type ty_fits e))
  kind_fits (item.Alias n t) = good_right (ty_fits t)
  kind_fits (item.Struct n ts) = good_right (tys_fit ts)
  kind_fits (item.Enum n cs) = good_right (numbered_fits Ctor node_of_ctor (in_ctor in_type) ctor_fits 256 part 0 cs)
  kind_fits (item.Fn n ps t b) =
      good_right (good_join (numbered_fits Param node_of_param (in_param in_type) param_fits 32 parameter 0 ps)
      (good_join (optional_fits in_type ty_fits t) (block_fits in_type ty_fits b)))
  kind_fits (item.Array n i t) = good_right (good_right (ty_fits t))
  kind_fits (item.Bytes n i) = good_none
  kind_fits (item.NatMod n c i m) = good_none

  abbrev asked : Ty → Facts
  asked t = asked_of file order (means_of file order t)

  rules_rise : (copies : Bool) (kind : ItemKind) → RisesFrom 0 (broken_by asked in_type copies kind)
  rules_rise copies item.Use = tt {0}
  rules_rise copies (item.Const n t e) = tt {0}
  rules_rise copies (item.Alias n t) = tt {0}
  rules_rise copies (item.Struct n ts) = one_rises _ N9
  rules_rise copies (item.Enum n cs) = one_rises _ N9
  rules_rise copies (item.Fn n ps t b) = tt {0}
  rules_rise copies (item.Array n i t) = array_rises _ _
  rules_rise copies (item.Bytes n i) = array_rises (wrong_count (i.value * (facts_of single).items)) (unfit (facts_of single))
  rules_rise copies (item.NatMod n c i m) = one_rises not_read N12

  items_fit : (is : List Item) → Good (outline_of_items is) (items_nodes asked in_type file is)
  items_fit [] = good_none
  items_fit (i ∷ is) = good_join (good_node (rules_rise (derives_copy file i.derives) i.kind) (good_right (kind_fits i.kind))) (items_fit is)

  file_fits : Good (outline_of_items file.items) (marked file order)
  file_fits = items_fit file.items

  -- the nodes of a file lie as in a text
  pub marked_lies : (nested : NestedFile file) → Lies (marked file order) 0 nested.0
  marked_lies nested = file_fits.lies 0 nested.0 nested.1

  pub marked_rises : Rising (marked file order)
  marked_rises = file_fits.rising
