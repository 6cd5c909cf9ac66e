-- Rows of parts that are walked one behind the other in a loop.
use Rattle.std.proofs.Common.{ℕ, ◌+◌, ◌<◌, ◌≤◌, ◌≡◌, sym, ◌∙◌, ap, subst, List, [], ◌∷◌, ◌++◌, map, drop, get_or, length, Option, None, Result, Ok, Err, OnOk}
use Rattle.hs_syntax.specs.declared.span.Span.{Span}
use Rattle.hs_syntax.specs.Texts.{bytes_at}
use Rattle.hs_syntax.specs.declared.ty.Ty.{Ty}
use Rattle.hs_syntax.specs.declared.file.File.{File}
use Rattle.hs_syntax.specs.declared.item.Ctor.{Ctor}
use Rattle.hs_marks.specs.declared.breach.Breach.{Breach}
use Rattle.hs_marks.specs.declared.halt.Halt.{Halt}
use Rattle.hs_marks.specs.declared.halt.Halt.TheVariants as halt
use Rattle.hs_marks.specs.First.{first, or_else}
use Rattle.hs_resolver.specs.declared.known.Known.{Known}
use Rattle.hs_resolver.specs.Parts.{Part, Seen, ◌&◌, all}
use Rattle.hs_resolver.specs.Names.{names_of_ty, names_of_tys, ctor_title, ctors_behind}
use Rattle.hs_resolver.specs.Walks.{Alike, Saw, Walks, Began}
use Rattle.hs_resolver.proofs.Binds.{next}
use Rattle.hs_resolver.proofs.Left.{left}
use Rattle.hs_resolver.proofs.Patterns.{ty_keeps}

-- a part that breaks nothing
pub goes_past : (whole : Seen) (p q : Part) (k new : Known) → Alike whole ((p & q) k) → first (p k).nodes ≡ None → new ≡ (p k).behind → Alike whole (q new)
goes_past whole p q k new (a, b) e f = (
  a ∙ ap (λ (o : Option Breach). or_else o (first (q (p k).behind).nodes)) e ∙ ap (λ (m : Known). first (q m).nodes) (sym f),
  b ∙ ap (λ (m : Known). (q m).behind) (sym f),
)

-- a part that ends the walk
pub stops_row : (A B : Type 0) (whole : Seen) (p q : Part) (k middle new : Known) (h : Halt) → Alike whole ((p & q) k) → Walks {A = A} p k middle (Err h)
    → Saw {A = B} whole new (Err h)
stops_row A B whole p q k middle new (halt.Breach b) (a, same) w = a ∙ ap (λ (o : Option Breach). or_else o (first (q (p k).behind).nodes)) w
stops_row A B whole p q k middle new halt.NoMemory a w = tt {0}

-- a row of parts that are left
pub row_left : {E : Type 0} (f : E → Part) (i : ℕ) (xs : List E) (x : E) (whole : Seen) (k : Known) → i < length xs → x ≡ get_or xs i x → Alike whole (all (map f (drop i xs)) k)
    → Alike whole ((f x & all (map f (drop (i + 1) xs))) k)
row_left f i xs x whole k h e a = subst (λ (ps : List Part). Alike whole (all ps k)) (next f i xs x h e) a

-- a type leaves the names that a list of parameters has bound
pub ty_began : (file : File) (t : Ty) (names : List (List ℕ)) (start : ℕ) (k new : Known) → new ≡ (names_of_ty file t k).behind → Began file.text names start k
    → Began file.text names start new
ty_began file t names start k new e b =
    let same : new.places ≡ k.places = ap (λ (m : Known). m.places) e ∙ ty_keeps file t k in
    subst (λ (ps : List Span). (names ≡ map (bytes_at file.text) (drop start ps)) × (start ≤ length ps)) (sym same) b

pub ty_began_ok : {A : Type 0} (file : File) (t : Ty) (names : List (List ℕ)) (start : ℕ) (k new : Known) (result : Result A Halt) → Walks (names_of_ty file t) k new result
    → Began file.text names start k → OnOk result (Began file.text names start new)
ty_began_ok file t names start k new (Ok a) w b = ty_began file t names start k new w.1 b
ty_began_ok file t names start k new (Err h) w b = tt {0}

-- the constructors of an enum that are left
module _ (file : File) (i : ℕ) (cs : List Ctor) (c : Ctor) (before : List (List ℕ)) (whole : Seen) (k : Known) where
  abbrev pub parts_left : Part
  parts_left = names_of_tys file c.parts & ctors_behind file (drop (i + 1) cs) (before ++ bytes_at file.text c.name ∷ [])

  pub ctor_left : i < length cs → c ≡ get_or cs i c → Alike whole (ctors_behind file (drop i cs) before k) → Alike whole ((ctor_title file c.name before & parts_left) k)
  ctor_left h e a = subst (λ (ds : List Ctor). Alike whole (ctors_behind file ds before k)) (left i cs c h e) a
