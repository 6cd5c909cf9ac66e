-- Types, paths and patterns: their nodes lie as in the outline, and what they bind.
use Rattle.std.proofs.Common.{ℕ, ◌+◌, ◌≤◌, drop, ◌≡◌, refl, sym, ◌∙◌, ap, subst, Bool, Option, Some, None, List, [], ◌∷◌, ◌++◌, map, length, append_assoc, length-append}
use Rattle.std.proofs.lemmas.List.{append-nil}
use Rattle.hs_base.specs.declared.rule.Rule.TheVariants.{N4}
use Rattle.hs_syntax.specs.declared.span.Span.{Span}
use Rattle.hs_syntax.specs.declared.file.File.{File}
use Rattle.hs_syntax.specs.declared.ty.Ty.{Ty, roll-Ty}
use Rattle.hs_syntax.specs.declared.ty.Ty.TheOpen.{Ty-F}
use Rattle.hs_syntax.specs.declared.ty.Ty.TheOpen as ty
use Rattle.hs_syntax.specs.declared.ty.Ty.TheFolds.{map-Ty, fold-roll-Ty, ind-Ty}
use Rattle.hs_syntax.specs.declared.pat.Pat.{Pat, roll-Pat}
use Rattle.hs_syntax.specs.declared.pat.Pat.TheOpen.{Pat-F}
use Rattle.hs_syntax.specs.declared.pat.Pat.TheOpen as pat
use Rattle.hs_syntax.specs.declared.pat.Pat.TheFolds.{map-Pat, fold-roll-Pat, ind-Pat}
use Rattle.hs_syntax.specs.declared.pat.ArmPat.{ArmPat}
use Rattle.hs_syntax.specs.declared.pat.ArmPat.TheVariants as arm_pat
use Rattle.hs_syntax.specs.declared.exp.Path.{Path}
use Rattle.hs_syntax.specs.declared.exp.Path.TheVariants as path
use Rattle.hs_syntax.specs.declared.exp.Variable.{Variable}
use Rattle.hs_syntax.specs.declared.exp.Variable.TheVariants as variable
use Rattle.hs_syntax.specs.Texts.{bytes_at}
use Rattle.hs_syntax.specs.Spans.{span_of_variable}
use Rattle.hs_limits.specs.Outline.{Node, Surplus, part, one, numbered}
use Rattle.hs_limits.specs.Outline as outline
use Rattle.hs_limits.specs.Nodes.{word, node_of_ty, node_of_pat, node_of_arm_pat, node_of_path}
use Rattle.hs_limits.specs.Nodes as nodes
use Rattle.hs_scope.specs.Scope.{Binding}
use Rattle.hs_symbols.specs.declared.referent.Referent.{Referent}
use Rattle.hs_symbols.specs.declared.referent.Referent.TheVariants as r
use Rattle.hs_symbols.specs.Symbols.{callee_named, value_named, ctor_named}
use Rattle.hs_resolver.specs.declared.known.Known.{Known}
use Rattle.hs_resolver.specs.Parts.{Part, all, every, meaning}
use Rattle.hs_resolver.specs.Rules.{type_of, path_maker, unknown_of}
use Rattle.hs_resolver.specs.Names.{names_of_ty, ty_layer, optional_ty, names_of_pat, names_of_pats, pat_layer, names_of_arm_pat, binds, binds_all, binds_layer, binds_of_arm, value_path, called_path, member_of, ctor_path, variable_place}
use Rattle.hs_resolver.specs.Walks.{Began}
use Rattle.hs_resolver.proofs.Good.{Good, good_none, good_join, good_left, good_node, good_inside, good_over, good_known, good_bound, good_place, good_path, good_behind, good_across, one_rises, both_rise}

abbrev pub Fits : Node → Part → Type 0
Fits n p = (k : Known) → Good (one n) (p k).nodes k (p k).behind

-- in a row, where it holds of each
module _ (C : Type 0) (f : C → Node) (g : C → Part) where
  abbrev pub EachFits : Type 0
  EachFits = (x : C) × Fits (f x) (g x)

  pub all_fit : (xs : List EachFits) (k : Known) → Good (outline.all (map f (map (λ x. x.0) xs))) (all (map g (map (λ x. x.0) xs)) k).nodes k (all (map g (map (λ x. x.0) xs)) k).behind
  all_fit [] k = good_none
  all_fit (x ∷ xs) k = good_join (x.1 k) (all_fit xs (g x.0 k).behind)

  pub numbered_fit : (limit : ℕ) (what : Surplus) (i : ℕ) (xs : List EachFits) (k : Known)
      → Good (numbered limit what i (map f (map (λ x. x.0) xs))) (all (map g (map (λ x. x.0) xs)) k).nodes k (all (map g (map (λ x. x.0) xs)) k).behind
  numbered_fit limit what i [] k = good_none
  numbered_fit limit what i (x ∷ xs) k = good_join (good_over (x.1 k)) (numbered_fit limit what (i + 1) xs (g x.0 k).behind)

  -- where it holds of all
  pub all_fits : ((x : C) → Fits (f x) (g x)) → (xs : List C) (k : Known) → Good (outline.all (map f xs)) (all (map g xs) k).nodes k (all (map g xs) k).behind
  all_fits h [] k = good_none
  all_fits h (x ∷ xs) k = good_join (h x k) (all_fits h xs (g x k).behind)

  pub numbered_fits : ((x : C) → Fits (f x) (g x)) → (limit : ℕ) (what : Surplus) (i : ℕ) (xs : List C) (k : Known)
      → Good (numbered limit what i (map f xs)) (all (map g xs) k).nodes k (all (map g xs) k).behind
  numbered_fits h limit what i [] k = good_none
  numbered_fits h limit what i (x ∷ xs) k = good_join (good_over (h x k)) (numbered_fits h limit what (i + 1) xs (g x k).behind)

-- what a name stands for changes no places
means_places : (n : Span) (to : Option Referent) (k : Known) → (meaning n to k).places ≡ k.places
means_places n None k = refl
means_places n (Some to) k = refl

module _ (file : File) where
  -- ---- types

  abbrev TyFits : Ty → Type 0
  TyFits t = Fits (node_of_ty t) (names_of_ty file t)

  abbrev FitTy : Type 0
  FitTy = (t : Ty) × TyFits t

  abbrev inside : Ty-F FitTy → Ty-F Ty
  inside y = map-Ty FitTy Ty (λ x. x.0) y

  abbrev LayerFits : Ty-F FitTy → Type 0
  LayerFits y = Fits (nodes.ty_layer (map-Ty Ty Node node_of_ty (inside y))) (ty_layer file (map-Ty Ty Part (names_of_ty file) (inside y)))

  ty_layer_fits : (y : Ty-F FitTy) → LayerFits y
  ty_layer_fits (ty.Name n) k = good_known (type_of file (bytes_at file.text n) 0) (one_rises _ _)
  ty_layer_fits (ty.Unit s) k = good_none
  ty_layer_fits (ty.Tuple s ts) k = good_inside (numbered_fit Ty node_of_ty (names_of_ty file) 12 part 0 ts k)
  ty_layer_fits (ty.Applied s n ts) k = good_inside (good_join (good_known (type_of file (bytes_at file.text n) (length (map (names_of_ty file) (map (λ (x : FitTy). x.0) ts)))) (one_rises _ _)) (all_fit Ty node_of_ty (names_of_ty file) ts _))

  ty_level : (y : Ty-F FitTy) → TyFits (roll-Ty (inside y))
  ty_level y =
      subst (λ (n : Node). Fits n (names_of_ty file (roll-Ty (inside y)))) (sym (fold-roll-Ty Node nodes.ty_layer (inside y)))
      (subst (λ (p : Part). Fits (nodes.ty_layer (map-Ty Ty Node node_of_ty (inside y))) p) (sym (fold-roll-Ty Part (ty_layer file) (inside y))) (ty_layer_fits y))

  pub ty_fits : (t : Ty) → TyFits t
  ty_fits = ind-Ty TyFits (λ x y is. subst (λ z. TyFits (roll-Ty z)) is (ty_level y))

  pub optional_fits : (t : Option Ty) (k : Known) → Good (nodes.optional_ty t) (optional_ty file t k).nodes k (optional_ty file t k).behind
  optional_fits None k = good_none
  optional_fits (Some t) k = ty_fits t k

  -- types leave the binding places as they are
  abbrev TyKeeps : Ty → Type 0
  TyKeeps t = (k : Known) → (names_of_ty file t k).behind.places ≡ k.places

  abbrev KeptTy : Type 0
  KeptTy = (t : Ty) × TyKeeps t

  abbrev within : Ty-F KeptTy → Ty-F Ty
  within y = map-Ty KeptTy Ty (λ x. x.0) y

  all_keep : (ts : List KeptTy) (k : Known) → (all (map (names_of_ty file) (map (λ x. x.0) ts)) k).behind.places ≡ k.places
  all_keep [] k = refl
  all_keep (t ∷ ts) k = all_keep ts (names_of_ty file t.0 k).behind ∙ t.1 k

  ty_layer_keeps : (y : Ty-F KeptTy) (k : Known) → (ty_layer file (map-Ty Ty Part (names_of_ty file) (within y)) k).behind.places ≡ k.places
  ty_layer_keeps (ty.Name n) k = means_places n _ k
  ty_layer_keeps (ty.Unit s) k = refl
  ty_layer_keeps (ty.Tuple s ts) k = all_keep ts k
  ty_layer_keeps (ty.Applied s n ts) k = all_keep ts _ ∙ means_places n _ k

  ty_keeps_level : (y : Ty-F KeptTy) → TyKeeps (roll-Ty (within y))
  ty_keeps_level y =
      subst (λ (p : Part). (k : Known) → (p k).behind.places ≡ k.places) (sym (fold-roll-Ty Part (ty_layer file) (within y))) (ty_layer_keeps y)

  pub ty_keeps : (t : Ty) → TyKeeps t
  ty_keeps = ind-Ty TyKeeps (λ x y is. subst (λ z. TyKeeps (roll-Ty z)) is (ty_keeps_level y))

  -- ---- paths

  pub value_path_fits : (p : Path) (scope : List Binding) → Fits (node_of_path p) (value_path file p scope)
  value_path_fits (path.Name s) scope k = good_known (value_named file.text file.items scope (bytes_at file.text s)) (one_rises _ _)
  value_path_fits (path.Member s t x) scope k = good_path (type_of file (bytes_at file.text t) 0) (member_of file t x) (one_rises _ _)
  value_path_fits (path.Of s n t x) scope k =
      good_node (one_rises (unknown_of file (bytes_at file.text n)) N4) (good_behind (path_maker (bytes_at file.text n)) (good_left (ty_fits t _)))

  pub called_path_fits : (p : Path) → Fits (node_of_path p) (called_path file p)
  called_path_fits (path.Name s) k = good_known (callee_named file.text file.items (bytes_at file.text s)) (one_rises _ _)
  called_path_fits (path.Member s t x) k = good_path (type_of file (bytes_at file.text t) 0) (member_of file t x) (one_rises _ _)
  called_path_fits (path.Of s n t x) k = good_node (one_rises _ _) (good_behind (path_maker (bytes_at file.text n)) (good_left (ty_fits t _)))

  -- a path binds nothing
  pub path_began : (s t n : Span) (names : List (List ℕ)) (start : ℕ) (k new : Known) → new ≡ (ctor_path file s t n k).behind → Began file.text names start k
      → Began file.text names start new
  path_began s t n names start k new e (f, l) =
      let same : new.places ≡ k.places = ap (λ (k : Known). k.places) e ∙ means_places n _ _ ∙ means_places t _ k in
      subst (λ (ps : List Span). (names ≡ map (bytes_at file.text) (drop start ps)) × (start ≤ length ps)) (sym same) (f, l)

  module _ (in_function : Bool) where
    -- ---- patterns

    abbrev PatFits : Pat → Type 0
    PatFits p = (start : ℕ) → Fits (node_of_pat p) (names_of_pat file in_function p start)

    abbrev FitPat : Type 0
    FitPat = (p : Pat) × PatFits p

    abbrev pats_inside : Pat-F FitPat → Pat-F Pat
    pats_inside y = map-Pat FitPat Pat (λ x. x.0) y

    pats_fit : (ps : List FitPat) (start : ℕ) (k : Known) → Good (outline.all (map node_of_pat (map (λ x. x.0) ps))) (every (map (names_of_pat file in_function) (map (λ x. x.0) ps)) start k).nodes k (every (map (names_of_pat file in_function) (map (λ x. x.0) ps)) start k).behind
    pats_fit [] start k = good_none
    pats_fit (p ∷ ps) start k = good_join (p.1 start k) (pats_fit ps start (names_of_pat file in_function p.0 start k).behind)

    numbered_pats_fit : (i : ℕ) (ps : List FitPat) (start : ℕ) (k : Known)
        → Good (numbered 12 part i (map node_of_pat (map (λ x. x.0) ps))) (every (map (names_of_pat file in_function) (map (λ x. x.0) ps)) start k).nodes k (every (map (names_of_pat file in_function) (map (λ x. x.0) ps)) start k).behind
    numbered_pats_fit i [] start k = good_none
    numbered_pats_fit i (p ∷ ps) start k = good_join (good_over (p.1 start k)) (numbered_pats_fit (i + 1) ps start (names_of_pat file in_function p.0 start k).behind)

    pat_layer_fits : (y : Pat-F FitPat) (start : ℕ)
        → Fits (nodes.pat_layer (map-Pat Pat Node node_of_pat (pats_inside y))) (pat_layer file in_function (map-Pat Pat (ℕ → Part) (names_of_pat file in_function) (pats_inside y)) start)
    pat_layer_fits (pat.Name s m n) start k = good_inside (good_bound (r.Local (length k.places)) (both_rise _ _))
    pat_layer_fits (pat.Any s) start k = good_none
    pat_layer_fits (pat.Tuple s ps) start k = good_inside (numbered_pats_fit 0 ps start k)
    pat_layer_fits (pat.Struct s n ps) start k = good_inside (good_join (good_known (ctor_named file.text file.items (bytes_at file.text n)) (one_rises _ _)) (pats_fit ps start _))

    pat_level : (y : Pat-F FitPat) → PatFits (roll-Pat (pats_inside y))
    pat_level y =
        subst (λ (n : Node). (start : ℕ) → Fits n (names_of_pat file in_function (roll-Pat (pats_inside y)) start)) (sym (fold-roll-Pat Node nodes.pat_layer (pats_inside y)))
        (subst (λ (p : ℕ → Part). (start : ℕ) → Fits (nodes.pat_layer (map-Pat Pat Node node_of_pat (pats_inside y))) (p start)) (sym (fold-roll-Pat (ℕ → Part) (pat_layer file in_function) (pats_inside y)))
        (pat_layer_fits y))

    pub pat_fits : (p : Pat) → PatFits p
    pat_fits = ind-Pat PatFits (λ x y is. subst (λ z. PatFits (roll-Pat z)) is (pat_level y))

    names_of_pats_fit : (ps : List Pat) (start : ℕ) (k : Known) → Good (outline.all (map node_of_pat ps)) (names_of_pats file in_function ps start k).nodes k (names_of_pats file in_function ps start k).behind
    names_of_pats_fit [] start k = good_none
    names_of_pats_fit (p ∷ ps) start k = good_join (pat_fits p start k) (names_of_pats_fit ps start (names_of_pat file in_function p start k).behind)

    pub arm_pat_fits : (p : ArmPat) (start : ℕ) → Fits (node_of_arm_pat p) (names_of_arm_pat file in_function p start)
    arm_pat_fits (arm_pat.Any s) start k = good_none
    arm_pat_fits (arm_pat.Ctor s n ps) start k = good_inside (good_join (good_known (ctor_named file.text file.items (bytes_at file.text n)) (one_rises _ _)) (names_of_pats_fit ps start _))
    arm_pat_fits (arm_pat.Member s t n ps) start k = good_inside (good_across (type_of file (bytes_at file.text t) 0) (member_of file t n) (one_rises _ _) (names_of_pats_fit ps start _))

    pub variable_fits : (x : Variable) → Fits (word (span_of_variable x)) (variable_place file in_function x)
    unfolding span_of_variable
    variable_fits (variable.Name n) k = good_bound (r.Local (length k.places)) (one_rises _ _)
    variable_fits (variable.Any s) k = good_place (one_rises _ _)

    -- ---- what patterns bind

    abbrev PatBinds : Pat → Type 0
    PatBinds p = (start : ℕ) (k : Known) → (names_of_pat file in_function p start k).behind.places ≡ k.places ++ binds p

    abbrev BoundPat : Type 0
    BoundPat = (p : Pat) × PatBinds p

    abbrev pats_within : Pat-F BoundPat → Pat-F Pat
    pats_within y = map-Pat BoundPat Pat (λ x. x.0) y

    pats_bind : (ps : List BoundPat) (start : ℕ) (k : Known) → (every (map (names_of_pat file in_function) (map (λ x. x.0) ps)) start k).behind.places ≡ k.places ++ binds_all (map binds (map (λ x. x.0) ps))
    pats_bind [] start k = sym (append-nil k.places)
    pats_bind (p ∷ ps) start k =
        pats_bind ps start (names_of_pat file in_function p.0 start k).behind
        ∙ ap (λ (ns : List Span). ns ++ binds_all (map binds (map (λ x. x.0) ps))) (p.1 start k)
        ∙ append_assoc k.places (binds p.0) (binds_all (map binds (map (λ x. x.0) ps)))

    pat_layer_binds : (y : Pat-F BoundPat) (start : ℕ) (k : Known)
        → (pat_layer file in_function (map-Pat Pat (ℕ → Part) (names_of_pat file in_function) (pats_within y)) start k).behind.places ≡ k.places ++ binds_layer (map-Pat Pat (List Span) binds (pats_within y))
    pat_layer_binds (pat.Name s m n) start k = refl
    pat_layer_binds (pat.Any s) start k = sym (append-nil k.places)
    pat_layer_binds (pat.Tuple s ps) start k = pats_bind ps start k
    pat_layer_binds (pat.Struct s n ps) start k =
        pats_bind ps start _ ∙ ap (λ (ns : List Span). ns ++ binds_all (map binds (map (λ x. x.0) ps))) (means_places n _ k)

    pat_binds_level : (y : Pat-F BoundPat) → PatBinds (roll-Pat (pats_within y))
    pat_binds_level y =
        subst (λ (p : ℕ → Part). (start : ℕ) (k : Known) → (p start k).behind.places ≡ k.places ++ binds (roll-Pat (pats_within y))) (sym (fold-roll-Pat (ℕ → Part) (pat_layer file in_function) (pats_within y)))
        (subst (λ (ns : List Span). (start : ℕ) (k : Known) → (pat_layer file in_function (map-Pat Pat (ℕ → Part) (names_of_pat file in_function) (pats_within y)) start k).behind.places ≡ k.places ++ ns)
        (sym (fold-roll-Pat (List Span) binds_layer (pats_within y))) (pat_layer_binds y))

    pub pat_binds : (p : Pat) → PatBinds p
    pat_binds = ind-Pat PatBinds (λ x y is. subst (λ z. PatBinds (roll-Pat z)) is (pat_binds_level y))

    names_of_pats_bind : (ps : List Pat) (start : ℕ) (k : Known) → (names_of_pats file in_function ps start k).behind.places ≡ k.places ++ binds_all (map binds ps)
    names_of_pats_bind [] start k = sym (append-nil k.places)
    names_of_pats_bind (p ∷ ps) start k =
        names_of_pats_bind ps start (names_of_pat file in_function p start k).behind
        ∙ ap (λ (ns : List Span). ns ++ binds_all (map binds ps)) (pat_binds p start k)
        ∙ append_assoc k.places (binds p) (binds_all (map binds ps))

    pub arm_pat_binds : (p : ArmPat) (start : ℕ) (k : Known) → (names_of_arm_pat file in_function p start k).behind.places ≡ k.places ++ binds_of_arm p
    arm_pat_binds (arm_pat.Any s) start k = sym (append-nil k.places)
    arm_pat_binds (arm_pat.Ctor s n ps) start k =
        names_of_pats_bind ps start _ ∙ ap (λ (ns : List Span). ns ++ binds_all (map binds ps)) (means_places n _ k)
    arm_pat_binds (arm_pat.Member s t n ps) start k =
        names_of_pats_bind ps start _ ∙ ap (λ (ns : List Span). ns ++ binds_all (map binds ps)) (means_places n _ _ ∙ means_places t _ k)

    pub pat_count : (p : Pat) (start : ℕ) (k : Known) → length (names_of_pat file in_function p start k).behind.places ≡ length k.places + length (binds p)
    pat_count p start k = ap length (pat_binds p start k) ∙ length-append k.places (binds p)

    pub arm_pat_count : (p : ArmPat) (start : ℕ) (k : Known) → length (names_of_arm_pat file in_function p start k).behind.places ≡ length k.places + length (binds_of_arm p)
    arm_pat_count p start k = ap length (arm_pat_binds p start k) ∙ length-append k.places (binds_of_arm p)
