-- Items: a name that stands for a local is spelled as its binding place.
use Rattle.std.proofs.Common.{ℕ, zero, suc, ◌≡◌, sym, ◌∙◌, ap, subst, true, false, List, [], ◌∷◌, ◌++◌, map, append_assoc}
use Rattle.std.proofs.lemmas.List.{append-nil}
use Rattle.std.proofs.lemmas.Option.{none-some, same_Some}
use Rattle.hs_syntax.specs.declared.span.Span.{Span}
use Rattle.hs_syntax.specs.declared.ty.Ty.{Ty}
use Rattle.hs_syntax.specs.declared.file.File.{File}
use Rattle.hs_syntax.specs.declared.item.Item.{Item}
use Rattle.hs_syntax.specs.declared.item.Ctor.{Ctor}
use Rattle.hs_syntax.specs.declared.item.Param.{Param}
use Rattle.hs_syntax.specs.declared.item.ItemKind.{ItemKind}
use Rattle.hs_syntax.specs.declared.item.ItemKind.TheVariants as item
use Rattle.hs_resolver.specs.declared.known.Known.{Known}
use Rattle.hs_resolver.specs.declared.names.Names.{Names}
use Rattle.hs_resolver.specs.Parts.{all}
use Rattle.hs_resolver.specs.Names.{fresh, names_of_ty, names_of_tys, names_of_param, optional_ty, ctors_behind, parameters, kind_part, items_behind}
use Rattle.hs_resolver.specs.Order.{kept, AreNames}
use Rattle.hs_resolver.specs.Spelled.{ItemSpelled, EachSpelled}
use Rattle.hs_resolver.proofs.Holds.{InScope, scope_longer, bound_in_scope, spelled_at, Keeps, keeps, keeps_then, keeps_bound}
use Rattle.hs_resolver.proofs.Patterns.{ty_keeps}
use Rattle.hs_resolver.proofs.Leaves.{all_keeps, ty_keeps_names, optional_keeps}
use Rattle.hs_resolver.proofs.Locals.{exp_keeps, block_keeps}

module _ (file : File) where
  abbrev KeepsIn : Known → Known → Type 0
  KeepsIn k m = Keeps file.text k m

  tys_keep : (ts : List Ty) (k : Known) → KeepsIn k (names_of_tys file ts k).behind
  tys_keep ts k = all_keeps file Ty (names_of_ty file) (ty_keeps_names file) ts k

  ctors_keep : (cs : List Ctor) (before : List (List ℕ)) (k : Known) → KeepsIn k (ctors_behind file cs before k).behind
  ctors_keep [] before k = keeps file.text
  ctors_keep (c ∷ cs) before k = keeps_then file.text (tys_keep c.parts k) (ctors_keep cs _ _)

  param_keeps : (p : Param) (k : Known) → KeepsIn k (names_of_param file p k).behind
  param_keeps p k = keeps_then file.text (keeps_bound file.text p.name) (ty_keeps_names file p.ty _)

  abbrev titles : List Param → List Span
  titles ps = map (λ (p : Param). p.name) ps

  -- the binding places of parameters are their names
  params_bind : (ps : List Param) (k : Known) → (all (map (names_of_param file) ps) k).behind.places ≡ k.places ++ titles ps
  params_bind [] k = sym (append-nil k.places)
  params_bind (p ∷ ps) k =
      params_bind ps (names_of_param file p k).behind
      ∙ ap (λ (ns : List Span). ns ++ titles ps) (ty_keeps file p.ty _)
      ∙ append_assoc k.places (p.name ∷ []) (titles ps)

  kind_keeps : (kind : ItemKind) (before : List (List ℕ)) → KeepsIn fresh (kind_part file kind before fresh).behind
  kind_keeps item.Use before = keeps file.text
  kind_keeps (item.Const n t e) before = keeps_then file.text (ty_keeps_names file t fresh) (exp_keeps file false e [] _ (tt {0}))
  kind_keeps (item.Alias n t) before = ty_keeps_names file t fresh
  kind_keeps (item.Struct n ts) before = tys_keep ts fresh
  kind_keeps (item.Enum n cs) before = ctors_keep cs [] fresh
  kind_keeps (item.Fn n ps t b) before =
      let first = all_keeps file Param (names_of_param file) param_keeps ps fresh in
      let middle : Known = (all (map (names_of_param file) ps) fresh).behind in
      let named : InScope file.text middle.places (parameters file ps) =
      subst (λ (places : List Span). InScope file.text places (parameters file ps)) (sym (params_bind ps fresh)) (bound_in_scope file.text (titles ps) [] [] (tt {0})) in
      let typed = optional_keeps file t middle in
      keeps_then file.text first
      (keeps_then file.text typed (block_keeps file true b (parameters file ps) _ (scope_longer file.text middle.places (optional_ty file t middle).behind.places (parameters file ps) typed.longer named)))
  kind_keeps (item.Array n i t) before = ty_keeps_names file t fresh
  kind_keeps (item.Bytes n i) before = keeps file.text
  kind_keeps (item.NatMod n c i m) before = keeps file.text

  kind_spelled : (kind : ItemKind) (before : List (List ℕ)) → ItemSpelled file.text (record { places = (kind_part file kind before fresh).behind.places; uses = (kind_part file kind before fresh).behind.uses })
  kind_spelled kind before =
      spelled_at file.text (kind_part file kind before fresh).behind.places (kind_part file kind before fresh).behind.uses ((kind_keeps kind before).spelled (tt {0}))

  items_spelled : (items : List Item) (functions : ℕ) (before : List (List ℕ)) → EachSpelled file.text (map kept (items_behind file items functions before))
  items_spelled [] functions before k one e = absurd (none-some one e)
  items_spelled (i ∷ is) functions before zero one e =
      subst (ItemSpelled file.text) (same_Some (record { places = (kind_part file i.kind before fresh).behind.places; uses = (kind_part file i.kind before fresh).behind.uses }) one e) (kind_spelled i.kind before)
  items_spelled (i ∷ is) functions before (suc k) one e = items_spelled is _ _ k one e

  pub each_spelled : (names : Names) → AreNames file names → EachSpelled file.text names.items
  each_spelled names are = subst (EachSpelled file.text) (sym are.items) (items_spelled file.items 0 [])
