-- What parts of a tree break, and what is known behind them.
use Rattle.std.specs.Prelude.{ℕ, suc, List, [], ◌∷◌, ◌++◌, Bool, map, drop, length, Option, Some, None, cond}
use Rattle.hs_base.specs.declared.rule.Rule.{Rule}
use Rattle.hs_base.specs.declared.rule.Rule.TheVariants.{N4, N6, S5, S7}
use Rattle.hs_syntax.specs.declared.span.Span.{Span}
use Rattle.hs_syntax.specs.declared.file.File.{File}
use Rattle.hs_syntax.specs.Texts.{bytes_at}
use Rattle.hs_marks.specs.Marked.{Marked, none, join, node}
use Rattle.hs_scope.specs.Scope.{Binding}
use Rattle.hs_symbols.specs.declared.referent.Referent.{Referent}
use Rattle.hs_symbols.specs.declared.referent.Referent.TheVariants as r
use Rattle.hs_resolver.specs.declared.known.Known.{Known}
use Rattle.hs_resolver.specs.Rules.{repeated, one_place_more, one_exit_more}

-- what a part breaks, and what is known behind it
pub record Seen : Type 0 where
  pub nodes : Marked
  pub behind : Known

abbrev pub Part : Type 0
Part = Known → Seen

abbrev pub nothing : Part
nothing k = record { nodes = none; behind = k }

-- one behind the other
infixr 5 ◌&◌
abbrev pub ◌&◌ : Part → Part → Part
p & q = λ k. record { nodes = join (p k).nodes (q (p k).behind).nodes; behind = (q (p k).behind).behind }

abbrev pub all : List Part → Part
all [] = nothing
all (p ∷ ps) = p & all ps

abbrev pub maybe : Option Part → Part
maybe None = nothing
maybe (Some p) = p

-- ---- names in scope

-- a part to which the names in scope matter
abbrev pub Scoped : Type 0
Scoped = List Binding → Part

-- parts at each of which the same is known, as the names in scope
abbrev pub every : {X : Type 0} → List (X → Part) → X → Part
every [] x = nothing
every (p ∷ ps) x = p x & every ps x

abbrev pub if_any : Option Scoped → Scoped
if_any None scope = nothing
if_any (Some p) scope = p scope

-- a statement, and what is in scope behind it, by what is in scope and known before it
pub record Line : Type 0 where
  pub part : Scoped
  pub after : List Binding → Known → List Binding

-- a statement that binds nothing
abbrev pub line : Scoped → Line
line p = record { part = p; after = λ scope k. scope }

-- statements, each with what those before it bind
abbrev pub in_order : List Line → Scoped
in_order [] scope k = nothing k
in_order (l ∷ ls) scope k = (l.part scope & in_order ls (l.after scope k)) k

-- what is in scope behind them
abbrev pub scope_behind : List Line → List Binding → Known → List Binding
scope_behind [] scope k = scope
scope_behind (l ∷ ls) scope k = scope_behind ls (l.after scope k) (l.part scope k).behind

-- with these names bound, whose numbers go on from one
abbrev pub bound : List ℕ → List Span → ℕ → List Binding → List Binding
bound text [] number scope = scope
bound text (n ∷ ns) number scope = bound text ns (suc number) (record { name = bytes_at text n; number = number } ∷ scope)

-- ---- single nodes

-- a name stands for something
abbrev pub used : Span → Referent → Known → Known
used n to k = record { places = k.places; exits = k.exits; uses = k.uses ++ record { name = n; referent = to } ∷ [] }

-- a name stands for something, or for nothing
abbrev pub meaning : Span → Option Referent → Known → Known
meaning n None k = k
meaning n (Some to) k = used n to k

abbrev pub when : Bool → Rule → List Rule
when b rule = cond b (rule ∷ []) []

-- a node without parts, which breaks these rules
abbrev pub leaf : Span → List Rule → Part
leaf s rules k = record { nodes = node s rules none; behind = k }

-- a name that stands for this, and may break a rule
abbrev pub known : Rule → Span → Bool → Option Referent → Part
known rule n broken to k = leaf n (when broken rule) (meaning n to k)

-- a path `T::x` with what both names stand for, which may break N4
abbrev pub known_path : Span → Span → Span → Bool → Option Referent → Option Referent → Part
known_path s t x broken first second k = leaf s (when broken N4) (meaning x second (meaning t first k))

-- a path `X::<T>::x` around its type, with what X stands for, which may break N4
abbrev pub known_of : Span → Span → Bool → Option Referent → Part → Part
known_of s n broken to p k = record { nodes = node s (when broken N4) (p (meaning n to k)).nodes; behind = (p (meaning n to k)).behind }

-- ---- binding places

abbrev pub placed : Span → Known → Known
placed s k = record { places = k.places ++ s ∷ []; exits = k.exits; uses = k.uses }

-- one more binding place, which is a local with the next number
abbrev pub place : Bool → Span → List Rule → Part
place in_function s rules k = leaf s (rules ++ when (one_place_more in_function (length k.places)) S5) (placed s k)

-- the names of the binding places behind the first so many
abbrev pub names_from : List ℕ → ℕ → Known → List (List ℕ)
names_from text start k = map (bytes_at text) (drop start k.places)

-- a name that is bound in a pattern or a list of parameters, which begins behind so many binding places
abbrev pub binder : File → Bool → ℕ → Span → Part
binder file in_function start n k =
    place in_function n (when (repeated file (bytes_at file.text n) (names_from file.text start k)) N6) (used n (r.Local (length k.places)) k)

-- ---- exits

abbrev pub exited : Span → Known → Known
exited s k = record { places = k.places; exits = k.exits ++ s ∷ []; uses = k.uses }

-- one more exit, with what it breaks
abbrev pub exit_rules : Bool → Known → List Rule
exit_rules in_function k = when (one_exit_more in_function (length k.exits)) S7

-- an exit around what was seen
abbrev pub exit_around : Bool → Span → Seen → Seen
exit_around in_function s a = record { nodes = node s (exit_rules in_function a.behind) a.nodes; behind = exited s a.behind }
