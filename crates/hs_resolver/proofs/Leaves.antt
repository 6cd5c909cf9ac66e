-- Types, paths, patterns and variables: a name that stands for a local is spelled as its binding place.
use Rattle.std.proofs.Common.{ℕ, zero, suc, ◌≡◌, refl, sym, subst, Bool, Option, Some, None, List, [], ◌∷◌, ◌++◌, map, length, slice_get}
use Rattle.hs_syntax.specs.declared.span.Span.{Span}
use Rattle.hs_syntax.specs.declared.file.File.{File}
use Rattle.hs_syntax.specs.declared.item.Item.{Item}
use Rattle.hs_syntax.specs.declared.ty.Ty.{Ty, roll-Ty}
use Rattle.hs_syntax.specs.declared.ty.Ty.TheOpen.{Ty-F}
use Rattle.hs_syntax.specs.declared.ty.Ty.TheOpen as ty
use Rattle.hs_syntax.specs.declared.ty.Ty.TheFolds.{map-Ty, fold-roll-Ty, ind-Ty}
use Rattle.hs_syntax.specs.declared.pat.Pat.{Pat, roll-Pat}
use Rattle.hs_syntax.specs.declared.pat.Pat.TheOpen.{Pat-F}
use Rattle.hs_syntax.specs.declared.pat.Pat.TheOpen as pat
use Rattle.hs_syntax.specs.declared.pat.Pat.TheFolds.{map-Pat, fold-roll-Pat, ind-Pat}
use Rattle.hs_syntax.specs.declared.pat.ArmPat.{ArmPat}
use Rattle.hs_syntax.specs.declared.pat.ArmPat.TheVariants as arm_pat
use Rattle.hs_syntax.specs.declared.exp.Path.{Path}
use Rattle.hs_syntax.specs.declared.exp.Path.TheVariants as path
use Rattle.hs_syntax.specs.declared.exp.Variable.{Variable}
use Rattle.hs_syntax.specs.declared.exp.Variable.TheVariants as variable
use Rattle.hs_syntax.specs.Texts.{bytes_at}
use Rattle.hs_scope.specs.Scope.{Binding, look}
use Rattle.hs_symbols.specs.Words.{listed, type_word, called_word, ctor_word, maker_word, empty_ctor, or_else}
use Rattle.hs_symbols.specs.Symbols.{built, is_type, is_called, is_constant, is_struct, item_if, item_named, named, place_in, ctor_of, ctor_in, callee_named, ctor_named, data_of}
use Rattle.hs_resolver.specs.declared.known.Known.{Known}
use Rattle.hs_resolver.specs.Parts.{Part, all, every}
use Rattle.hs_resolver.specs.Rules.{type_of}
use Rattle.hs_resolver.specs.Names.{names_of_ty, ty_layer, optional_ty, names_of_pat, names_of_pats, pat_layer, names_of_arm_pat, value_path, called_path, member_of, variable_place, with_variable}
use Rattle.hs_resolver.proofs.Holds.{local_in, built_other, either_other, item_other, ctor_other, struct_other, found_before, longer_more, InScope, scope_longer, bound_in_scope, look_place, Keeps, keeps, keeps_then, keeps_means, keeps_other, keeps_place, keeps_bound}

module _ (file : File) where
  -- ---- what names of items stand for

  pub type_other : (w : List ℕ) (types : ℕ) → local_in (type_of file w types) ≡ None
  type_other w zero = either_other (built (type_word w)) (item_named file.text file.items is_type w) (built_other (type_word w)) (item_other (item_if is_type (named file.text file.items w)))
  type_other w (suc n) = built_other (maker_word w (suc n))

  callee_other : (w : List ℕ) → local_in (callee_named file.text file.items w) ≡ None
  callee_other w = either_other (built (called_word w)) (item_named file.text file.items is_called w) (built_other (called_word w)) (item_other (item_if is_called (named file.text file.items w)))

  ctor_named_other : (w : List ℕ) → local_in (ctor_named file.text file.items w) ≡ None
  ctor_named_other w = either_other (built (ctor_word w)) _ (built_other (ctor_word w)) (struct_other (item_if is_struct (named file.text file.items w)))

  ctor_of_other : (k : ℕ) (w : List ℕ) (i : Option Item) → local_in (ctor_of file.text file.items k w i) ≡ None
  ctor_of_other k w None = refl
  ctor_of_other k w (Some i) = ctor_other k (place_in file.text file.items w i.kind)

  ctor_in_other : (w : List ℕ) (o : Option ℕ) → local_in (ctor_in file.text file.items w o) ≡ None
  ctor_in_other w None = refl
  ctor_in_other w (Some k) = ctor_of_other k w (slice_get file.items k)

  member_other : (t x : Span) → local_in (member_of file t x) ≡ None
  member_other t x = ctor_in_other (bytes_at file.text x) (data_of file.text file.items (bytes_at file.text t))

  -- ---- types

  abbrev KeepsIn : Known → Known → Type 0
  KeepsIn k m = Keeps file.text k m

  abbrev PartKeeps : Part → Type 0
  PartKeeps p = (k : Known) → KeepsIn k (p k).behind

  module _ (C : Type 0) (g : C → Part) where
    all_keep : (xs : List ((x : C) × PartKeeps (g x))) (k : Known) → KeepsIn k (all (map g (map (λ x. x.0) xs)) k).behind
    all_keep [] k = keeps file.text
    all_keep (x ∷ xs) k = keeps_then file.text (x.1 k) (all_keep xs (g x.0 k).behind)

    pub all_keeps : ((x : C) → PartKeeps (g x)) → (xs : List C) (k : Known) → KeepsIn k (all (map g xs) k).behind
    all_keeps h [] k = keeps file.text
    all_keeps h (x ∷ xs) k = keeps_then file.text (h x k) (all_keeps h xs (g x k).behind)

  abbrev TyKeeps : Ty → Type 0
  TyKeeps t = PartKeeps (names_of_ty file t)

  abbrev KeptTy : Type 0
  KeptTy = (t : Ty) × TyKeeps t

  abbrev tys_inside : Ty-F KeptTy → Ty-F Ty
  tys_inside y = map-Ty KeptTy Ty (λ x. x.0) y

  ty_layer_keeps : (y : Ty-F KeptTy) → PartKeeps (ty_layer file (map-Ty Ty Part (names_of_ty file) (tys_inside y)))
  ty_layer_keeps (ty.Name n) k = keeps_other file.text n _ (type_other (bytes_at file.text n) 0)
  ty_layer_keeps (ty.Unit s) k = keeps file.text
  ty_layer_keeps (ty.Tuple s ts) k = all_keep Ty (names_of_ty file) ts k
  ty_layer_keeps (ty.Applied s n ts) k =
      keeps_then file.text (keeps_other file.text n _ (type_other (bytes_at file.text n) (length (map (names_of_ty file) (map (λ (x : KeptTy). x.0) ts)))))
      (all_keep Ty (names_of_ty file) ts _)

  ty_level : (y : Ty-F KeptTy) → TyKeeps (roll-Ty (tys_inside y))
  ty_level y = subst PartKeeps (sym (fold-roll-Ty Part (ty_layer file) (tys_inside y))) (ty_layer_keeps y)

  pub ty_keeps_names : (t : Ty) → TyKeeps t
  ty_keeps_names = ind-Ty TyKeeps (λ x y is. subst (λ z. TyKeeps (roll-Ty z)) is (ty_level y))

  pub optional_keeps : (t : Option Ty) → PartKeeps (optional_ty file t)
  optional_keeps None k = keeps file.text
  optional_keeps (Some t) k = ty_keeps_names t k

  -- ---- paths

  -- a name alone is that of a local in scope, or no local's
  value_other : (w : List ℕ) → local_in (or_else (built (listed empty_ctor w)) (item_named file.text file.items is_constant w)) ≡ None
  value_other w = either_other (built (listed empty_ctor w)) (item_named file.text file.items is_constant w) (built_other (listed empty_ctor w)) (item_other (item_if is_constant (named file.text file.items w)))

  pub value_path_keeps : (p : Path) (scope : List Binding) (k : Known) → InScope file.text k.places scope → KeepsIn k (value_path file p scope k).behind
  value_path_keeps (path.Name s) scope k h =
      keeps_means file.text s _
      (λ number e. look_place file.text k.places scope (bytes_at file.text s) h number (found_before (look (bytes_at file.text s) scope) (or_else (built (listed empty_ctor (bytes_at file.text s))) (item_named file.text file.items is_constant (bytes_at file.text s))) number (value_other (bytes_at file.text s)) e))
  value_path_keeps (path.Member s t x) scope k h =
      keeps_then file.text (keeps_other file.text t _ (type_other (bytes_at file.text t) 0)) (keeps_other file.text x _ (member_other t x))
  value_path_keeps (path.Of s n t x) scope k h =
      keeps_then file.text (keeps_other file.text n _ (built_other _)) (ty_keeps_names t _)

  pub called_path_keeps : (p : Path) → PartKeeps (called_path file p)
  called_path_keeps (path.Name s) k = keeps_other file.text s _ (callee_other (bytes_at file.text s))
  called_path_keeps (path.Member s t x) k =
      keeps_then file.text (keeps_other file.text t _ (type_other (bytes_at file.text t) 0)) (keeps_other file.text x _ (member_other t x))
  called_path_keeps (path.Of s n t x) k = keeps_then file.text (keeps_other file.text n _ (built_other _)) (ty_keeps_names t _)

  module _ (in_function : Bool) where
    -- ---- patterns

    abbrev PatKeeps : Pat → Type 0
    PatKeeps p = (start : ℕ) → PartKeeps (names_of_pat file in_function p start)

    abbrev KeptPat : Type 0
    KeptPat = (p : Pat) × PatKeeps p

    abbrev pats_inside : Pat-F KeptPat → Pat-F Pat
    pats_inside y = map-Pat KeptPat Pat (λ x. x.0) y

    pats_keep : (ps : List KeptPat) (start : ℕ) (k : Known) → KeepsIn k (every (map (names_of_pat file in_function) (map (λ x. x.0) ps)) start k).behind
    pats_keep [] start k = keeps file.text
    pats_keep (p ∷ ps) start k = keeps_then file.text (p.1 start k) (pats_keep ps start (names_of_pat file in_function p.0 start k).behind)

    pat_layer_keeps : (y : Pat-F KeptPat) (start : ℕ) → PartKeeps (pat_layer file in_function (map-Pat Pat (ℕ → Part) (names_of_pat file in_function) (pats_inside y)) start)
    pat_layer_keeps (pat.Name s m n) start k = keeps_bound file.text n
    pat_layer_keeps (pat.Any s) start k = keeps file.text
    pat_layer_keeps (pat.Tuple s ps) start k = pats_keep ps start k
    pat_layer_keeps (pat.Struct s n ps) start k = keeps_then file.text (keeps_other file.text n _ (ctor_named_other (bytes_at file.text n))) (pats_keep ps start _)

    pat_level : (y : Pat-F KeptPat) → PatKeeps (roll-Pat (pats_inside y))
    pat_level y =
        subst (λ (p : ℕ → Part). (start : ℕ) → PartKeeps (p start)) (sym (fold-roll-Pat (ℕ → Part) (pat_layer file in_function) (pats_inside y))) (pat_layer_keeps y)

    pub pat_keeps : (p : Pat) → PatKeeps p
    pat_keeps = ind-Pat PatKeeps (λ x y is. subst (λ z. PatKeeps (roll-Pat z)) is (pat_level y))

    names_of_pats_keep : (ps : List Pat) (start : ℕ) (k : Known) → KeepsIn k (names_of_pats file in_function ps start k).behind
    names_of_pats_keep [] start k = keeps file.text
    names_of_pats_keep (p ∷ ps) start k = keeps_then file.text (pat_keeps p start k) (names_of_pats_keep ps start (names_of_pat file in_function p start k).behind)

    pub arm_pat_keeps : (p : ArmPat) (start : ℕ) → PartKeeps (names_of_arm_pat file in_function p start)
    arm_pat_keeps (arm_pat.Any s) start k = keeps file.text
    arm_pat_keeps (arm_pat.Ctor s n ps) start k = keeps_then file.text (keeps_other file.text n _ (ctor_named_other (bytes_at file.text n))) (names_of_pats_keep ps start _)
    arm_pat_keeps (arm_pat.Member s t n ps) start k =
        keeps_then file.text (keeps_then file.text (keeps_other file.text t _ (type_other (bytes_at file.text t) 0)) (keeps_other file.text n _ (member_other t n)))
        (names_of_pats_keep ps start _)

    -- ---- variables

    pub variable_keeps : (x : Variable) → PartKeeps (variable_place file in_function x)
    variable_keeps (variable.Name n) k = keeps_bound file.text n
    variable_keeps (variable.Any s) k = keeps_place file.text s

    -- a variable is in scope behind its place
    pub variable_in_scope : (x : Variable) (scope : List Binding) (k : Known) → InScope file.text k.places scope
        → InScope file.text (variable_place file in_function x k).behind.places (with_variable file in_function x (length k.places) scope)
    variable_in_scope (variable.Name n) scope k h = bound_in_scope file.text (n ∷ []) k.places scope h
    variable_in_scope (variable.Any s) scope k h = scope_longer file.text k.places (k.places ++ s ∷ []) scope (longer_more k.places (s ∷ [])) h
