-- Items: their nodes lie as in the outline of a file, and their names and binding places stand in the order of the text.
use Rattle.std.proofs.Common.{ℕ, zero, suc, ◌+◌, sym, subst, List, [], ◌∷◌, map, length, false, true, Result, Ok, Err, IfOk, arith}
use Rattle.std.proofs.lemmas.Option.{none-some, same_Some}
use Rattle.hs_base.specs.declared.place.Stop.{Stop}
use Rattle.hs_syntax.specs.declared.ty.Ty.{Ty}
use Rattle.hs_syntax.specs.declared.file.File.{File}
use Rattle.hs_syntax.specs.declared.item.Item.{Item}
use Rattle.hs_syntax.specs.declared.item.Ctor.{Ctor}
use Rattle.hs_syntax.specs.declared.item.Param.{Param}
use Rattle.hs_syntax.specs.declared.item.ItemKind.{ItemKind}
use Rattle.hs_syntax.specs.declared.item.ItemKind.TheVariants as item
use Rattle.hs_limits.specs.Outline.{part, parameter, one, numbered}
use Rattle.hs_limits.specs.Nodes.{node_of_ty, node_of_ctor, node_of_param, node_of_item, kind_outline, outline_of_items}
use Rattle.hs_limits.specs.Nested.{Nested, NestedFile}
use Rattle.hs_marks.specs.Told.{Lies, Rising}
use Rattle.hs_resolver.specs.declared.known.Known.{Known}
use Rattle.hs_symbols.specs.declared.referent.Referent.TheVariants as r
use Rattle.hs_resolver.specs.declared.names.Names.{Names}
use Rattle.hs_resolver.specs.Names.{names_of_ty, names_of_tys, names_of_param, fresh, ctors_behind, kind_part, item_part, items_behind, names_of, rows, marked}
use Rattle.hs_resolver.specs.Order.{kept, Resolves}
use Rattle.hs_resolver.specs.InOrder.{spans_of, ItemInOrder, EachInOrder}
use Rattle.hs_resolver.proofs.Good.{Good, good_none, good_join, good_left, good_right, good_apart, good_node, good_leaf, good_inside, good_bound, one_rises, both_rise}
use Rattle.hs_resolver.proofs.Kept.{Kept, row_in_order}
use Rattle.hs_resolver.proofs.Patterns.{Fits, ty_fits, numbered_fits, optional_fits}
use Rattle.hs_resolver.proofs.Lies.{exp_fits, block_fits}

module _ (file : File) where
  tys_fit : (ts : List Ty) (k : Known) → Good (numbered 12 part 0 (map node_of_ty ts)) (names_of_tys file ts k).nodes k (names_of_tys file ts k).behind
  tys_fit ts k = numbered_fits Ty node_of_ty (names_of_ty file) (ty_fits file) 12 part 0 ts k

  ctors_fit : (i : ℕ) (cs : List Ctor) (before : List (List ℕ)) (k : Known) → Good (numbered 256 part i (map node_of_ctor cs)) (ctors_behind file cs before k).nodes k (ctors_behind file cs before k).behind
  ctors_fit i [] before k = good_none
  ctors_fit i (c ∷ cs) before k = good_apart (good_leaf (one_rises _ _)) (tys_fit c.parts _) (ctors_fit (i + 1) cs _ _)

  param_fits : (p : Param) → Fits (node_of_param p) (names_of_param file p)
  param_fits p k = good_inside (good_join (good_bound (r.Local (length k.places)) (both_rise _ _)) (ty_fits file p.ty _))

  kind_fits : (kind : ItemKind) (before : List (List ℕ)) (k : Known) → Good (kind_outline kind) (kind_part file kind before k).nodes k (kind_part file kind before k).behind
  kind_fits item.Use before k = good_none
  kind_fits (item.Const n t e) before k = good_join (good_leaf (one_rises _ _)) (good_join (ty_fits file t _) (exp_fits file false e [] _))
  kind_fits (item.Alias n t) before k = good_join (good_leaf (one_rises _ _)) (ty_fits file t _)
  kind_fits (item.Struct n ts) before k = good_join (good_leaf (one_rises _ _)) (tys_fit ts _)
  kind_fits (item.Enum n cs) before k = good_join (good_leaf (one_rises _ _)) (ctors_fit 0 cs [] _)
  kind_fits (item.Fn n ps t b) before k =
      good_join (good_leaf (one_rises _ _))
      (good_join (numbered_fits Param node_of_param (names_of_param file) param_fits 32 parameter 0 ps _)
      (good_join (optional_fits file t _) (block_fits file true b _ _)))
  kind_fits (item.Array n i t) before k = good_join (good_leaf (one_rises _ _)) (good_right (ty_fits file t _))
  kind_fits (item.Bytes n i) before k = good_left (good_leaf (one_rises _ _))
  kind_fits (item.NatMod n c i m) before k = good_join (good_leaf (one_rises _ _)) (good_left (good_leaf (one_rises _ _)))

  item_fits : (i : Item) (functions : ℕ) (before : List (List ℕ)) (k : Known) → Good (one (node_of_item i)) (item_part file i functions before k).nodes k (item_part file i functions before k).behind
  item_fits i functions before k = good_node (one_rises _ _) (good_right (kind_fits i.kind before k))

  items_rise : (items : List Item) (functions : ℕ) (before : List (List ℕ)) → Rising (rows file (items_behind file items functions before))
  items_rise [] functions before = tt {0}
  items_rise (i ∷ is) functions before = ((item_fits i functions before fresh).rising, items_rise is _ _)

  items_lie : (items : List Item) (functions : ℕ) (before : List (List ℕ)) (low high : ℕ) → Nested (outline_of_items items) low high → Lies (rows file (items_behind file items functions before)) low high
  items_lie [] functions before low high n = n
  items_lie (i ∷ is) functions before low high n = (n.0, (item_fits i functions before fresh).lies low n.0 n.1, items_lie is _ _ n.0 high n.2)

  -- the nodes of a file lie as in a text
  pub marked_lies : (nested : NestedFile file) → Lies (marked file) 0 nested.0
  marked_lies nested = items_lie file.items 0 [] 0 nested.0 nested.1

  pub marked_rises : Rising (marked file)
  marked_rises = items_rise file.items 0 []

  -- ---- in the order of the text

  item_in_order : (i : Item) (functions : ℕ) (before : List (List ℕ)) (low high : ℕ) → Nested (one (node_of_item i)) low high → ItemInOrder (kept (item_part file i functions before fresh))
  item_in_order i functions before low high n =
      let new : Known = (item_part file i functions before fresh).behind in
      let r : Kept high new = (item_fits i functions before fresh).grows low high n (record { uses = omega arith; places = omega arith }) in
      (row_in_order 0 high new.places r.places, row_in_order 0 high (spans_of new.uses) r.uses)

  items_in_order : (items : List Item) (functions : ℕ) (before : List (List ℕ)) (low high : ℕ) → Nested (outline_of_items items) low high → EachInOrder (map kept (items_behind file items functions before))
  items_in_order [] functions before low high n k item e = absurd (none-some item e)
  items_in_order (i ∷ is) functions before low high n zero item e =
      subst ItemInOrder (same_Some (kept (item_part file i functions before fresh)) item e) (item_in_order i functions before low n.0 n.1)
  items_in_order (i ∷ is) functions before low high n (suc k) item e = items_in_order is _ _ n.0 high n.2 k item e

  pub names_are_in_order : NestedFile file → EachInOrder (map kept (names_of file))
  names_are_in_order nested = items_in_order file.items 0 [] 0 nested.0 nested.1

  -- what is answered stands in order
  pub answers_in_order : NestedFile file → (result : Result Names Stop) → Resolves file result → IfOk result (λ names. EachInOrder names.items)
  answers_in_order nested (Ok names) r = subst EachInOrder (sym r.1.items) (names_are_in_order nested)
  answers_in_order nested (Err e) r = tt {0}
