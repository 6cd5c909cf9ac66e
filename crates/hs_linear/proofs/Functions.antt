-- What is told of functions, one by one, and of a program.
use mathlib.Core.Path.{fun_ext}
use Rattle.std.proofs.Common.{◌≡◌, ℕ, ◌+◌, ◌<◌, ◌≤◌, Bool, true, false, not, ◌&&◌, eqb, List, [], map, length, get_or, drop, slice_get, Option, Some, None, option_map, refl, sym, ap, ap₂, ◌∙◌}
use Rattle.std.specs.Prelude.{flat_map}
use Rattle.std.specs.List.{list_any}
use Rattle.std.proofs.lemmas.Option.{slice_get-map}
use Rattle.hs_base.specs.declared.place.Broken.{Broken}
use Rattle.hs_base.specs.Positions.{told_at}
use Rattle.hs_values.specs.declared.types.TypeDef.{TypeDef}
use Rattle.hs_values.specs.declared.types.ValType.{ValType}
use Rattle.hs_values.specs.declared.types.ValType.TheVariants as type
use Rattle.hs_values.specs.declared.types.ValType.TheOpen.{ValType-F}
use Rattle.hs_values.specs.declared.types.ValType.TheViews.{roll-ValType}
use Rattle.hs_values.specs.declared.types.ValType.TheFolds.{fold-roll-ValType}
use Rattle.hs_tree.specs.Types.{copied, copies_level}
use Rattle.hs_tree.specs.Plain.{is_lent}
use Rattle.hs_tree.specs.Moves.{Holding, also}
use Rattle.hs_tree.specs.Call.{modes, lent_at}
use Rattle.hs_tree.specs.Of.{mode_of, function_of}
use Rattle.hs_tree.specs.Source.{type_at}
use Rattle.hs_tree.specs.declared.features.Src.{Src}
use Rattle.hs_tree.specs.declared.features.On.{On}
use Rattle.hs_tree.specs.declared.features.Off.{Off}
use Rattle.hs_tree.specs.declared.program.Param.{Param}
use Rattle.hs_tree.specs.declared.program.Function.{Function}
use Rattle.hs_tree.specs.declared.program.Program.{Program}
use Rattle.hs_linear.specs.Seen.{gives}
use Rattle.hs_linear.specs.Nodes.{Known, block_seen}
use Rattle.hs_linear.specs.Sets.{set_of, IsAt}
use Rattle.hs_linear.specs.Moments.{Notes, Passed}
use Rattle.hs_linear.specs.Told.{told_of}
use Rattle.hs_linear.specs.Known.{moves_at, known_of}
use Rattle.hs_linear.specs.Programs.{known, broken, TellsMoves}
use Rattle.hs_linear.specs.declared.told.Breach.{Breach}
use Rattle.hs_linear.specs.declared.state.State.{State}
use Rattle.hs_linear.specs.declared.world.World.{World}
use Rattle.hs_linear.proofs.Layers.{B}
use Rattle.hs_linear.proofs.Order.{only_told}
use Rattle.hs_linear.proofs.Steps.{told_append}
use Rattle.hs_linear.proofs.Rows.{next, all_gone}

unit_copied : (table : List TypeDef) → copied table type.Unit ≡ true
unfolding roll-ValType denote.Hole.Carrier.roll
unit_copied table = fold-roll-ValType Bool (copies_level table) ValType-F.Unit

-- a local that is not listed does not move
pub same_moves : (table : List TypeDef) (types : List ValType) (k : ℕ) → moves_at (slice_get (map (λ t. not (copied table t)) types) k) ≡ not (copied table (type_at (slice_get types k)))
same_moves table types k = ap moves_at (slice_get-map (λ t. not (copied table t)) types k) ∙ go (slice_get types k)
  where
    go : (o : Option ValType) → moves_at (option_map (λ t. not (copied table t)) o) ≡ not (copied table (type_at o))
    go None = sym (ap not (unit_copied table))
    go (Some t) = refl

abbrev pub F : Type 0
F = Function Src On On On On On On On Off Off Off

abbrev pub P : Type 0
P = Param Src On On On On On On On Off Off Off

-- what the walk knows, by what it holds
abbrev known_by : List TypeDef → (ℕ → Bool) → List P → List F → Known
known_by table moves params fs =
    record {
      table = table;
      moves = moves;
      reference = λ k. list_any (λ p. eqb p.local k && is_lent (mode_of p.mode)) params;
      argument = λ f i. lent_at (slice_get (modes (map function_of fs) f) i);
    }

-- what is known of the function that it walks
pub known_is : (w : World) (table : List TypeDef) (fs : List F) (f : F) → w.table.now ≡ table → w.callees.now.functions.now ≡ fs → w.params.now ≡ f.params
    → w.moves.items ≡ map (λ t. not (copied table t)) f.body.types → known_of w ≡ known table fs f
known_is w table fs f a b c d =
    ap (λ t. known_by t (known_of w).moves w.params.now w.callees.now.functions.now) a
    ∙ ap (λ m. known_by table m w.params.now w.callees.now.functions.now) (fun_ext (λ k. ap (λ ms. moves_at (slice_get ms k)) d ∙ same_moves table f.body.types k))
    ∙ ap (λ ps. known_by table (known table fs f).moves ps w.callees.now.functions.now) c
    ∙ ap (known_by table (known table fs f).moves f.params) b

-- what is told of a function whose body is walked behind its parameters
pub function_told : (o : Option Breach) (g h : Known) (b : B) (ks : List ℕ) (s0 s1 s2 : State) → IsAt (λ j. false) [] s0.held → s0.told ≡ o → Passed (gives ks) s0 s1
    → Notes (block_seen g b (set_of s1.held)) s1 s2 → g ≡ h → s2.told ≡ told_of o (block_seen h b (also ks (λ j. false))).broken
function_told o g h b ks s0 s1 s2 (e, c) t (f, (n, m), l) (u, v) is =
    let set : set_of s1.held ≡ also ks (λ j. false) = some_is (set_of s1.held) (also ks (λ j. false)) (sym f ∙ ap (λ d. Some (also ks d)) e) in
    u ∙ ap₂ told_of (n ∙ t) (ap (λ d. (block_seen g b d).broken) set ∙ ap (λ k. (block_seen k b (also ks (λ j. false))).broken) is)
  where
    some_is : (x y : Holding) → Some x ≡ Some y → x ≡ y
    some_is x y e = cc

-- what is told of one function more
pub told_more : {E : Type 0} (f : E → List Breach) (o now after : Option Breach) (i : ℕ) (xs : List E) (x : E) → i < length xs → x ≡ get_or xs i x
    → o ≡ told_of now (flat_map f (drop i xs)) → after ≡ told_of now (f x) → o ≡ told_of after (flat_map f (drop (i + 1) xs))
told_more f o now after i xs x h e t a =
    t ∙ ap (λ ys. told_of now (flat_map f ys)) (next i xs x h e) ∙ told_append now (f x) (flat_map f (drop (i + 1) xs))
    ∙ ap (λ y. told_of y (flat_map f (drop (i + 1) xs))) (sym a)

pub told_all : {E : Type 0} (f : E → List Breach) (o now : Option Breach) (i : ℕ) (xs : List E) → length xs ≤ i → o ≡ told_of now (flat_map f (drop i xs)) → o ≡ now
told_all f o now i xs h t = t ∙ ap (λ ys. told_of now (flat_map f ys)) (all_gone i xs h)

module _ {F Place Nested Quest MutArg Exit Assign Loop Cf Acc Fold : Type 0} (p : Program F Place Nested Quest MutArg Exit Assign Loop Cf Acc Fold) where
  pub same_one : (b : Breach) (told other : Broken) → Some b ≡ told_of None (broken p) → other ≡ told_at p.text.items b.rule b.span.start → TellsMoves p told → told ≡ other
  same_one b told other e o (a, t, u) =
      let same : Some a ≡ Some b = only_told (broken p) (Some a) t ∙ sym e in
      let one : a ≡ b = cc in
      u ∙ ap (λ (x : Breach). told_at p.text.items x.rule x.span.start) one ∙ sym o
