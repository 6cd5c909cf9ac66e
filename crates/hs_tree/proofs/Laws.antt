-- Laws of runs and calls.
use Rattle.std.proofs.Common.{◌≡◌, ℕ, ◌+◌, List, [], ◌∷◌, refl, sym, ap, ◌∙◌, arith}
use Rattle.std.proofs.Math.Path.{fun_ext}
use Rattle.std.specs.Prelude.{bytes_eq, if◌then◌else◌}
use Rattle.hs_tree.specs.Plain.{Name, Function}
use Rattle.hs_control.specs.Control.{Val}
use Rattle.hs_tree.specs.Store.{Store, Gives, Stops, Out, Stuck, Ran, Back, Calls}
use Rattle.hs_tree.specs.World.{World}
use Rattle.hs_tree.specs.Steps.{more, follow}
use Rattle.hs_tree.specs.Call.{call_function, calls, world_of, results}
use Rattle.hs_tree.specs.Laws.{FollowsOn, FollowsGiven, SameFunctions, SameByFunctions}
use Rattle.hs_tree.proofs.Programs.{same_results}

pub more_none : (y : Out) → more 0 y ≡ y
more_none Stuck = refl
more_none (Ran o s n) = let e : 0 + n ≡ n = omega arith in ap (Ran o s) e

pub more_more : (a b : ℕ) (y : Out) → more (a + b) y ≡ more a (more b y)
more_more a b Stuck = refl
more_more a b (Ran o s n) = let e : (a + b) + n ≡ a + (b + n) = omega arith in ap (Ran o s) e

pub follow_more : (a : ℕ) (y : Out) (f : Val → Store → Out) → follow (more a y) f ≡ more a (follow y f)
follow_more a Stuck f = refl
follow_more a (Ran (Gives v) s n) f = more_more a n (f v s)
follow_more a (Ran (Stops w) s n) f = refl

pub follows_given : FollowsGiven
follows_given v s f = more_none (f v s)

pub follows_on : FollowsOn
follows_on Stuck f g = refl
follows_on (Ran (Gives v) s n) f g = follow_more n (f v s) g
follows_on (Ran (Stops w) s n) f g = refl

same_calls : (world other : Name → World) (fs gs : List Function) → SameFunctions world other fs gs → calls world fs ≡ calls other gs
same_calls world other [] [] h = refl
same_calls world other [] (g ∷ gs) h = absurd h
same_calls world other (f ∷ fs) [] h = absurd h
same_calls world other (f ∷ fs) (g ∷ gs) h = fun_ext (λ name. fun_ext (λ vs. at (same_calls world other fs gs h.2) name vs))
  where
    at : calls world fs ≡ calls other gs → (name : Name) (vs : List Val) → calls world (f ∷ fs) name vs ≡ calls other (g ∷ gs) name vs
    at before name vs =
        ap (λ (n : Name). if bytes_eq n name then call_function world f (calls world fs) vs else calls world fs name vs) h.0
        ∙ ap (λ (b : Back). if bytes_eq g.name name then b else calls world fs name vs) (h.1 (calls world fs) vs)
        ∙ ap (λ (c : Calls). if bytes_eq g.name name then call_function other g c vs else c name vs) before

pub same_by_functions : SameByFunctions
same_by_functions p q moves others h f vs r n =
    let e : results p moves f vs ≡ results q others f vs =
    ap (λ (c : Calls). c f vs) (same_calls (world_of p moves) (world_of q others) _ _ h) in
    let a = same_results p moves f vs r n in
    let b = same_results q others f vs r n in (
      λ x. b.1 (sym e ∙ a.0 x),
      λ y. a.1 (e ∙ b.0 y),
    )
