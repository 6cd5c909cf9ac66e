-- Nothing is told of a program exactly where its functions meet the conditions of sources.
use mathlib.Core.Path.{fun_ext}
use Rattle.std.proofs.Common.{◌≡◌, ◌↔◌, ℕ, Bool, false, not, ◌&&◌, ◌||◌, cond, eqb, List, [], ◌∷◌, ◌++◌, map, refl, ap, subst, ◌∙◌}
use Rattle.std.proofs.lemmas.Slice.Eq.{bytes_eq-Decides}
use Rattle.std.specs.Prelude.{IsTrue, bytes_eq, slice_get, flat_map}
use Rattle.std.specs.List.{AllByRecursion, IsDistinct, list_all, list_any}
use Rattle.hs_tree.specs.Plain as plain
use Rattle.hs_tree.specs.Plain.{is_lent}
use Rattle.hs_tree.specs.Types.{copied}
use Rattle.hs_tree.specs.Moves.{Holding, MovesBlock, also}
use Rattle.hs_tree.specs.Typing.{Value, BlockTyped}
use Rattle.hs_tree.specs.Call.{lent_at, modes}
use Rattle.hs_tree.specs.Sound.{lent_in}
use Rattle.hs_tree.specs.Of.{mode_of, param_of, function_of, program_of}
use Rattle.hs_tree.specs.Source.{type_at, types_in, types_of, block_keeps}
use Rattle.hs_tree.specs.declared.program.Param.{Param}
use Rattle.hs_tree.specs.declared.program.Function.{Function}
use Rattle.hs_tree.specs.declared.program.Program.{Program}
use Rattle.hs_linear.specs.Nodes as n
use Rattle.hs_linear.specs.Programs.{known, function_seen}
use Rattle.hs_linear.specs.Sources.{known_to, EachTyped, EachMoves, Agree}
use Rattle.hs_linear.proofs.Parts.{both_empty, both_true}
use Rattle.hs_linear.proofs.Agree.{block_good}

module _ (F Place Nested Quest MutArg Exit Assign Loop Cf Acc Fold : Type 0) (cf : Cf → ⊥) (acc : Acc → ⊥) (fold : Fold → ⊥) where
  -- the types of a function's locals are found by its name among these functions
  abbrev Found : List (Function F Place Nested Quest MutArg Exit Assign Loop Cf Acc Fold) → Function F Place Nested Quest MutArg Exit Assign Loop Cf Acc Fold → Type 0
  Found fs f = (k : ℕ) → types_in fs f.name k ≡ type_at (slice_get f.body.types k)

  found_behind : (f : Function F Place Nested Quest MutArg Exit Assign Loop Cf Acc Fold) (fs gs : List (Function F Place Nested Quest MutArg Exit Assign Loop Cf Acc Fold))
      → AllByRecursion (λ y. bytes_eq f.name y ≡ false) (map (λ x. x.name) gs) → AllByRecursion (Found fs) gs → AllByRecursion (Found (f ∷ fs)) gs
  found_behind f fs [] h i = tt
  found_behind f fs (x ∷ xs) h i = (
    λ k. ap (λ b. cond b (type_at (slice_get f.body.types k)) (types_in fs x.name k)) h.0 ∙ i.0 k,
    found_behind f fs xs h.1 i.1,
  )

  all_found : (fs : List (Function F Place Nested Quest MutArg Exit Assign Loop Cf Acc Fold)) → IsDistinct bytes_eq (map (λ x. x.name) fs) → AllByRecursion (Found fs) fs
  unfolding IsDistinct
  all_found [] h = tt
  all_found (f ∷ fs) h = (
    λ k. ap (λ b. cond b (type_at (slice_get f.body.types k)) (types_in fs f.name k)) ((bytes_eq-Decides f.name f.name).1 refl),
    found_behind f fs fs h.0 (all_found fs h.1),
  )

  numbers : (names : List plain.Name) (ps : List (Param F Place Nested Quest MutArg Exit Assign Loop Cf Acc Fold)) → map (λ x. x.local.number) (map (param_of names) ps) ≡ map (λ p. p.local) ps
  numbers names [] = refl
  numbers names (p ∷ ps) = ap (λ ks. p.local ∷ ks) (numbers names ps)

  references : (names : List plain.Name) (ps : List (Param F Place Nested Quest MutArg Exit Assign Loop Cf Acc Fold)) (k : ℕ)
      → list_any (λ p. eqb p.local.number k && is_lent p.mode) (map (param_of names) ps) ≡ list_any (λ p. eqb p.local k && is_lent (mode_of p.mode)) ps
  references names [] k = refl
  references names (p ∷ ps) k = ap (λ b. (eqb p.local k && is_lent (mode_of p.mode)) || b) (references names ps k)

  module _ (p : Program F Place Nested Quest MutArg Exit Assign Loop Cf Acc Fold) where
    -- what is known of a function, with the types of its locals by its name
    abbrev known_by_name : Function F Place Nested Quest MutArg Exit Assign Loop Cf Acc Fold → n.Known
    known_by_name f =
        record {
          table = p.types;
          moves = λ k. not (copied p.types (types_of p f.name k));
          reference = λ k. list_any (λ x. eqb x.local.number k && is_lent x.mode) (map (param_of f.body.locals) f.params);
          argument = λ h i. lent_at (slice_get (modes (map function_of p.functions) h) i);
        }

    same_known : (f : Function F Place Nested Quest MutArg Exit Assign Loop Cf Acc Fold) → Found p.functions f → known_by_name f ≡ known p.types p.functions f
    same_known f h =
        ap (λ (v : ℕ → Bool). record {
          table = p.types;
          moves = v;
          reference = λ k. list_any (λ x. eqb x.local.number k && is_lent x.mode) (map (param_of f.body.locals) f.params);
          argument = λ h i. lent_at (slice_get (modes (map function_of p.functions) h) i);
        }) (fun_ext (λ k. ap (λ u. not (copied p.types u)) (h k)))
        ∙ ap (λ (v : ℕ → Bool). record {
          table = p.types;
          moves = λ k. not (copied p.types (type_at (slice_get f.body.types k)));
          reference = v;
          argument = λ h i. lent_at (slice_get (modes (map function_of p.functions) h) i);
        }) (fun_ext (references f.body.locals f.params))

    abbrev keeps : Function F Place Nested Quest MutArg Exit Assign Loop Cf Acc Fold → Bool
    keeps f = block_keeps p.types (λ h i. lent_at (slice_get (modes (program_of p).functions h) i)) f.body.block

    abbrev first_set : Function F Place Nested Quest MutArg Exit Assign Loop Cf Acc Fold → Holding
    first_set f = also (map (λ x. x.local.number) (function_of f).params) (λ k. false)

    function_good : (before : List plain.Function) (f : Function F Place Nested Quest MutArg Exit Assign Loop Cf Acc Fold) → Found p.functions f
        → BlockTyped (known_to p before f) (function_of f).body (Value f.ty)
        → ((function_seen p.types p.functions f).broken ≡ []) ↔ (MovesBlock (known_to p before f) (lent_in (program_of p) (function_of f)) (function_of f).body (first_set f) × IsTrue (keeps f))
    function_good before f h i =
        let M = MovesBlock (known_to p before f) (lent_in (program_of p) (function_of f)) (function_of f).body (first_set f) × IsTrue (keeps f) in
        subst (λ ks. ((n.block_seen (known p.types p.functions f) f.body.block (also ks (λ k. false))).broken ≡ []) ↔ M) (numbers f.body.locals f.params)
        (subst (λ g. ((n.block_seen g f.body.block (first_set f)).broken ≡ []) ↔ M) (same_known f h)
        (block_good _ _ _ _ _ _ _ _ _ _ _ cf acc fold f.body.locals (known_to p before f) (lent_in (program_of p) (function_of f)) f.body.block (first_set f) (Value f.ty) i).clear)

    functions_good : (before : List plain.Function) (fs : List (Function F Place Nested Quest MutArg Exit Assign Loop Cf Acc Fold)) → AllByRecursion (Found p.functions) fs → EachTyped p before fs
        → (flat_map (λ f. (function_seen p.types p.functions f).broken) fs ≡ []) ↔ (EachMoves p before fs × IsTrue (list_all keeps fs))
    functions_good before [] h i = (λ e. (tt, refl), λ m. refl)
    functions_good before (f ∷ fs) h i =
        let one = function_good before f h.0 i.0 in
        let more = functions_good (before ++ function_of f ∷ []) fs h.1 i.1 in
        let mine = (function_seen p.types p.functions f).broken in
        let theirs = flat_map (λ x. (function_seen p.types p.functions x).broken) fs in (
          λ e.
              let e' = (both_empty mine theirs).0 e in
              let a = one.0 e'.0 in
              let b = more.0 e'.1 in
              ((a.0, b.0), (both_true (keeps f) (list_all keeps fs)).1 (a.1, b.1)),
          λ m.
              let k = (both_true (keeps f) (list_all keeps fs)).0 m.1 in
              (both_empty mine theirs).1 (one.1 (m.0.0, k.0), more.1 (m.0.1, k.1)),
        )

    pub agree : Agree p
    agree apart typed = functions_good [] p.functions (all_found p.functions apart) typed
