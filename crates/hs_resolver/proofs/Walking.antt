-- Walks through parts that stand one behind the other.
use Rattle.std.proofs.Common.{◌≡◌, ◌<◌, sym, ◌∙◌, ap, subst, Bool, Option, None, List, map, drop, get_or, length, Result, Ok, Err, ℕ}
use Rattle.hs_syntax.specs.declared.span.Span.{Span}
use Rattle.hs_syntax.specs.declared.file.File.{File}
use Rattle.hs_marks.specs.declared.breach.Breach.{Breach}
use Rattle.hs_marks.specs.declared.halt.Halt.{Halt}
use Rattle.hs_marks.specs.declared.halt.Halt.TheVariants as halt
use Rattle.hs_marks.specs.First.{first, breach, or_else, or_own}
use Rattle.hs_marks.specs.Says.{Makes}
use Rattle.hs_resolver.specs.declared.known.Known.{Known}
use Rattle.hs_scope.specs.Scope.{Binding}
use Rattle.hs_resolver.specs.Parts.{Part, Seen, nothing, ◌&◌, exit_around, exit_rules, exited}
use Rattle.hs_resolver.specs.Names.{Behind, with_behind, steps}
use Rattle.hs_resolver.specs.Walks.{Alike, Saw, Walks}
use Rattle.hs_resolver.proofs.Steps.{own_some, alike, broken_before, ends_at}

-- the second part, behind the first
pub goes : {A B : Type 0} (p q : Part) (old middle new : Known) (a : A) (result : Result B Halt) → Walks p old middle (Ok a) → Walks q middle new result
    → Walks (p & q) old new result
goes p q old middle new a result (e, f) w =
    subst (λ (o : Option Breach). Makes (or_else o (first (q (p old).behind).nodes)) (λ b. new ≡ (q (p old).behind).behind) result) (sym e)
    (subst (λ (m : Known). Makes (first (q m).nodes) (λ b. new ≡ (q m).behind) result) f w)

-- the first part, where it ends the walk
pub stops : (A B : Type 0) (p q : Part) (old middle new : Known) (h : Halt) → Walks {A = A} p old middle (Err h) → Walks {A = B} (p & q) old new (Err h)
stops A B p q old middle new (halt.Breach b) w = ap (λ (o : Option Breach). or_else o (first (q (p old).behind).nodes)) w
stops A B p q old middle new halt.NoMemory w = tt {0}

-- a walk that ends gives nothing, of whatever type
pub fails : (A B : Type 0) (a : Seen) (new more : Known) (h : Halt) → Saw {A = A} a new (Err h) → Saw {A = B} a more (Err h)
fails A B a new more (halt.Breach b) w = w
fails A B a new more halt.NoMemory w = tt {0}

-- an exit behind what breaks nothing
pub exits : {A : Type 0} (in_function : Bool) (s : Span) (a : Seen) (middle new : Known) (result : Result A Halt) → first a.nodes ≡ None → middle ≡ a.behind
    → Saw (exit_around in_function s (nothing middle)) new result → Saw (exit_around in_function s a) new result
exits in_function s a middle new result e f w =
    subst (λ (o : Option Breach). Makes (or_own o (breach s (exit_rules in_function a.behind))) (λ b. new ≡ exited s a.behind) result) (sym e)
    (subst (λ (m : Known). Makes (or_own None (breach s (exit_rules in_function m))) (λ b. new ≡ exited s m) result) f w)

-- what ends the walk in an exit
pub stops_exit : (A B : Type 0) (in_function : Bool) (s : Span) (a : Seen) (middle new : Known) (h : Halt) → Saw {A = A} a middle (Err h)
    → Saw {A = B} (exit_around in_function s a) new (Err h)
stops_exit A B in_function s a middle new (halt.Breach b) w =
    ap (λ (o : Option Breach). or_own o (breach s (exit_rules in_function a.behind))) w ∙ own_some b (breach s (exit_rules in_function a.behind))
stops_exit A B in_function s a middle new halt.NoMemory w = tt {0}

-- what stands behind an expression in which nothing is broken
pub goes_behind : {A : Type 0} (file : File) (in_function : Bool) (start : ℕ) (bs : List Behind) (scope : List Binding) (a : Seen) (middle new : Known) (result : Result A Halt)
    → first a.nodes ≡ None → middle ≡ a.behind → Saw (steps file in_function start bs scope (nothing middle)) new result → Saw (steps file in_function start bs scope a) new result
goes_behind file in_function start bs scope a middle new result e f w =
    let same = alike file in_function start scope bs (nothing middle) a (sym e) f in
    subst (λ (o : Option Breach). Makes o (λ b. new ≡ (steps file in_function start bs scope a).behind) result) same.0
    (subst (λ (k : Known). Makes (first (steps file in_function start bs scope (nothing middle)).nodes) (λ b. new ≡ k) result) same.1 w)

pub stops_before : (A B : Type 0) (file : File) (in_function : Bool) (start : ℕ) (bs : List Behind) (scope : List Binding) (a : Seen) (middle new : Known) (h : Halt)
    → Saw {A = A} a middle (Err h) → Saw {A = B} (steps file in_function start bs scope a) new (Err h)
stops_before A B file in_function start bs scope a middle new (halt.Breach b) w = broken_before file in_function start scope bs a b w
stops_before A B file in_function start bs scope a middle new halt.NoMemory w = tt {0}

-- a step of a list that ends the walk
pub stops_at : {E : Type 0} (A B : Type 0) (file : File) (in_function : Bool) (start : ℕ) (scope : List Binding) (f : E → Behind) (i : ℕ) (xs : List E) (x : E) (whole : Seen) (k middle new : Known) (h : Halt)
    → i < length xs → x ≡ get_or xs i x → Alike whole (steps file in_function start (map f (drop i xs)) scope (nothing k))
    → Saw {A = A} (with_behind file in_function start (f x) scope (nothing k)) middle (Err h) → Saw {A = B} whole new (Err h)
stops_at A B file in_function start scope f i xs x whole k middle new (halt.Breach b) l e w s = ends_at file in_function start scope f i xs x whole k b l e w s
stops_at A B file in_function start scope f i xs x whole k middle new halt.NoMemory l e w s = tt {0}
