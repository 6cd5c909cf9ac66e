-- The module of a program without assignments keeps what the source's program is and gives.
use Rattle.std.proofs.Common.{◌≡◌, ◌↔◌, ℕ, List, [], ◌∷◌, map, true, Option, Some, None, option_map, slice_get, refl, sym, ap, ◌∙◌, subst}
use Rattle.std.proofs.lemmas.Option.{slice_get-map}
use Rattle.std.specs.List.{AllByRecursion}
use Rattle.hs_first_tree.specs.Value.{Value, FitsAll}
use Rattle.hs_first_tree.specs.Plain as tree
use Rattle.hs_first_tree.specs.Features.{no_assign}
use Rattle.hs_first_tree.specs.Sound.{Sound}
use Rattle.hs_first_tree.specs.Call as call
use Rattle.hs_first_tree.specs.Call.{Calls, SameResults, Header, header_of}
use Rattle.hs_first_tree.specs.Compute.{run_call, Ended}
use Rattle.hs_first_em.specs.Plain.{EmDef, EmPar, Module}
use Rattle.hs_first_em.specs.Spelled.{is_module_name, Spelled}
use Rattle.hs_first_em.specs.Scoped.{Scoped}
use Rattle.hs_first_em.specs.Means.{means}
use Rattle.hs_pipeline.specs.Lower.{lowered_function, lowered}
use Rattle.hs_pipeline.specs.Same.{types_of, Shape, Same}
use Rattle.hs_first_em.specs.Ended as Ends
use Rattle.hs_pipeline.proofs.Meanings.{Environments, EndsIn, lowered_runs}
use Rattle.hs_pipeline.specs.Counted.{Numbered}
use Rattle.hs_pipeline.proofs.Keeps.{lowered_shape, lowered_spelled, lowered_scoped, types_lowered}

-- equal headers make the same shape
shape_headers : (p q : List tree.Function) (ds : List EmDef) → map header_of q ≡ map header_of p → Shape q ds → Shape p ds
shape_headers [] [] ds e h = h
shape_headers [] (g ∷ q) ds e h = absurd (cc e)
shape_headers (f ∷ p) [] ds e h = absurd (cc e)
shape_headers (f ∷ p) (g ∷ q) [] e h = h
shape_headers (f ∷ p) (g ∷ q) (d ∷ ds) e (a, h) =
    let one : header_of g ≡ header_of f = cc e in
    let rest : map header_of q ≡ map header_of p = cc e in (
      record {
        name = a.name ∙ ap (λ (x : Header). x.name) one;
        params = a.params ∙ ap (λ (x : Header). x.params) one;
        returns = a.returns ∙ ap (λ (x : Header). x.returns) one;
      },
      shape_headers p q ds rest h,
    )

-- the function at a place has the header at that place
header_at : (q : List tree.Function) (i : ℕ) (h : Header) → slice_get (map header_of q) i ≡ Some h → (g : tree.Function) × (slice_get q i ≡ Some g) × (header_of g ≡ h)
header_at q i h e = go (slice_get q i) refl (sym (slice_get-map header_of q i) ∙ e)
  where
    go : (x : Option tree.Function) → slice_get q i ≡ x → option_map header_of x ≡ Some h → (g : tree.Function) × (slice_get q i ≡ Some g) × (header_of g ≡ h)
    go None d f = absurd (cc f)
    go (Some g) d f = (g, d, cc f)

-- the laws of runs
abbrev pub Computed : Type 0
Computed = (p : List tree.Function) (i : ℕ) (vs : List Value) (r : call.Result) (n : ℕ) → Calls p i vs r n ↔ (run_call p i vs ≡ Ended r n)

-- modules that are scoped and spelled end
abbrev pub Ending : Type 0
Ending = (m : Module) (i : ℕ) (d : EmDef) (vs : List Value) → Scoped m → Spelled m → slice_get m.defs i ≡ Some d
    → FitsAll vs (map (λ (p : EmPar). p.type) d.params) → Ends.Ended (means m i vs)

program_same : (name : List ℕ) (p q : List tree.Function) → Computed → Environments → Ending → Spelled (lowered name q) → Scoped (lowered name q) → map header_of q ≡ map header_of p → SameResults p q → Same p (lowered name q)
program_same name p q computed environments ending spelled scoped headers results i f vs at fitting = (λ v n. go (call.value v) n, λ k n. go (call.panic k) n)
  where
    there : slice_get (map header_of q) i ≡ Some (header_of f)
    there = ap (λ hs. slice_get hs i) headers ∙ (slice_get-map header_of p i ∙ ap (option_map header_of) at)

    go : (r : call.Result) (n : ℕ) → Calls p i vs r n ↔ (means (lowered name q) i vs ≡ EndsIn r n)
    go r n =
        let (g, found, same) = header_at q i (header_of f) (ap (λ hs. slice_get hs i) headers ∙ (slice_get-map header_of p i ∙ ap (option_map header_of) at)) in
        let types : map (λ (x : EmPar). x.type) (lowered_function g).params ≡ types_of f = types_lowered g.locals g.params ∙ ap (λ (x : Header). x.params) same in
        let def : slice_get (lowered name q).defs i ≡ Some (lowered_function g) = slice_get-map lowered_function q i ∙ ap (option_map lowered_function) found in
        let ends = ending (lowered name q) i (lowered_function g) vs scoped spelled def (subst (FitsAll vs) (sym types) fitting) in
        let (fore, back) = lowered_runs environments name q i g vs r n found ends in (
          λ c. fore ((computed q i vs r n).0 ((results i vs r n).0 c)),
          λ e. (results i vs r n).1 ((computed q i vs r n).1 (back e)),
        )

-- what a module keeps
pub record Keeps (name : List ℕ) (p : List tree.Function) (made : Module) : Type 0 where
  pub named : made.name ≡ name
  pub spelled : Spelled made
  pub scoped : Scoped made
  pub same : Same p made
  pub shape : Shape p made.defs

-- the module keeps it, of a program with the headers and the results of the source's
pub program_kept : (name : List ℕ) (p q : List tree.Function) (made : Module) → is_module_name name ≡ true → Computed → Environments → Ending → Sound no_assign q → AllByRecursion Numbered q
    → map header_of q ≡ map header_of p → SameResults p q → made ≡ lowered name q → Keeps name p made
program_kept name p q made is computed environments ending sound numbered headers results e =
    let spelled = lowered_spelled name q is sound.each numbered in
    let scoped = lowered_scoped name q sound.names sound.each numbered in
    subst (Keeps name p) (sym e)
    (record {
      named = refl;
      spelled = spelled;
      scoped = scoped;
      same = program_same name p q computed environments ending spelled scoped headers results;
      shape = shape_headers p q (map lowered_function q) headers (lowered_shape q);
    })
