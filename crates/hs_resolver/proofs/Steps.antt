-- Steps behind an expression.
use Rattle.std.proofs.Common.{ℕ, ◌+◌, ◌<◌, ◌≡◌, refl, sym, ◌∙◌, ap, ap₂, subst, Bool, List, [], ◌∷◌, map, drop, get_or, length, Option, Some, None}
use Rattle.hs_marks.specs.declared.breach.Breach.{Breach}
use Rattle.hs_marks.specs.First.{first, breach, or_own, or_else}
use Rattle.hs_syntax.specs.declared.file.File.{File}
use Rattle.hs_scope.specs.Scope.{Binding}
use Rattle.hs_resolver.specs.declared.known.Known.{Known}
use Rattle.hs_resolver.specs.Parts.{Seen, nothing, exit_rules, exited}
use Rattle.hs_resolver.specs.Names.{Behind, question, inner, with_behind, steps}
use Rattle.hs_resolver.specs.Walks.{Alike}
use Rattle.hs_resolver.proofs.Binds.{next}

pub own_some : (b : Breach) (q : Option Breach) → or_own (Some b) q ≡ Some b
own_some b None = refl
own_some b (Some q) = refl

module _ (file : File) (in_function : Bool) (start : ℕ) (scope : List Binding) where
  broken_with : (x : Behind) (a : Seen) (b : Breach) → first a.nodes ≡ Some b → first (with_behind file in_function start x scope a).nodes ≡ Some b
  broken_with (question s) a b e =
      ap (λ (o : Option Breach). or_own o (breach (record { start = start; end = s.end }) (exit_rules in_function a.behind))) e ∙ own_some b _
  broken_with (inner q) a b e = ap (λ (o : Option Breach). or_else o (first (q scope a.behind).nodes)) e

  -- what is broken before the steps is broken first
  pub broken_before : (ss : List Behind) (a : Seen) (b : Breach) → first a.nodes ≡ Some b → first (steps file in_function start ss scope a).nodes ≡ Some b
  broken_before [] a b e = e
  broken_before (s ∷ ss) a b e = broken_before ss (with_behind file in_function start s scope a) b (broken_with s a b e)

  alike_with : (x : Behind) (a b : Seen) → first a.nodes ≡ first b.nodes → a.behind ≡ b.behind
      → Alike (with_behind file in_function start x scope a) (with_behind file in_function start x scope b)
  alike_with (question s) a b e k = (
    ap₂ (λ (o : Option Breach) (h : Known). or_own o (breach (record { start = start; end = s.end }) (exit_rules in_function h))) e k,
    ap (exited (record { start = start; end = s.end })) k,
  )
  alike_with (inner q) a b e k =
      (ap₂ (λ (o : Option Breach) (h : Known). or_else o (first (q scope h).nodes)) e k, ap (λ (h : Known). (q scope h).behind) k)

  -- steps go on alike from what is alike
  pub alike : (ss : List Behind) (a b : Seen) → first a.nodes ≡ first b.nodes → a.behind ≡ b.behind
      → Alike (steps file in_function start ss scope a) (steps file in_function start ss scope b)
  alike [] a b e k = (e, k)
  alike (s ∷ ss) a b e k = let i = alike_with s a b e k in alike ss (with_behind file in_function start s scope a) (with_behind file in_function start s scope b) i.0 i.1

  -- one step of a list more
  pub goes_on : {E : Type 0} (f : E → Behind) (i : ℕ) (xs : List E) (x : E) (whole : Seen) (k new : Known) (more : List Binding) → i < length xs → x ≡ get_or xs i x
      → Alike whole (steps file in_function start (map f (drop i xs)) scope (nothing k)) → first (with_behind file in_function start (f x) scope (nothing k)).nodes ≡ None
      → new ≡ (with_behind file in_function start (f x) scope (nothing k)).behind → more ≡ scope
      → Alike whole (steps file in_function start (map f (drop (i + 1) xs)) more (nothing new))
  goes_on f i xs x whole k new more h e w n b s =
      let here : Alike whole (steps file in_function start (f x ∷ map f (drop (i + 1) xs)) scope (nothing k)) =
      subst (λ (bs : List Behind). Alike whole (steps file in_function start bs scope (nothing k))) (next f i xs x h e) w in
      let on = alike (map f (drop (i + 1) xs)) (with_behind file in_function start (f x) scope (nothing k)) (nothing new) n (sym b) in
      subst (λ (o : List Binding). Alike whole (steps file in_function start (map f (drop (i + 1) xs)) o (nothing new))) (sym s) (here.0 ∙ on.0, here.1 ∙ on.1)

  -- a step of a list that breaks a rule
  pub ends_at : {E : Type 0} (f : E → Behind) (i : ℕ) (xs : List E) (x : E) (whole : Seen) (k : Known) (b : Breach) → i < length xs → x ≡ get_or xs i x
      → Alike whole (steps file in_function start (map f (drop i xs)) scope (nothing k)) → first (with_behind file in_function start (f x) scope (nothing k)).nodes ≡ Some b
      → first whole.nodes ≡ Some b
  ends_at f i xs x whole k b h e w n =
      w.0 ∙ ap (λ (bs : List Behind). first (steps file in_function start bs scope (nothing k)).nodes) (next f i xs x h e)
      ∙ broken_before (map f (drop (i + 1) xs)) (with_behind file in_function start (f x) scope (nothing k)) b n
