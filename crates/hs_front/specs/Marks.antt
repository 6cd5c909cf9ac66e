-- The names that break a rule.
use Rattle.std.specs.Prelude.{◌≡◌, ◌⊎◌, ℕ, ◌≤◌, List, [], ◌∷◌, ◌++◌, Bool, false, bytes_eq, Option, Some, None, if◌then◌else◌}
use Rattle.std.specs.List.{list_any, AllByRecursion}
use Rattle.hs_base.specs.declared.rule.Rule.{Rule}
use Rattle.hs_base.specs.declared.rule.Rule.TheVariants.{N3, N6, N10, T11}
use Rattle.hs_front.specs.declared.syntax.Span.{Span}
use Rattle.hs_front.specs.declared.syntax.Prim.{Prim}
use Rattle.hs_front.specs.declared.syntax.Prim.TheVariants as prims
use Rattle.hs_front.specs.declared.syntax.Sum.{Sum}
use Rattle.hs_front.specs.declared.syntax.Stmt.{Stmt}
use Rattle.hs_front.specs.declared.syntax.Stmt.TheVariants as stmts
use Rattle.hs_front.specs.declared.syntax.File.{File}
use Rattle.hs_front.specs.Scope.{Scope, text_at, found, bound}

-- a rule, and the name that breaks it
pub record Mark : Type 0 where
  pub rule : Rule
  pub at : Span

abbrev pub mark : Rule → Span → Mark
mark rule at = record { rule = rule; at = at }

-- the mark, where there is no such local
abbrev pub where_none : Option (ℕ × Bool) → Mark → List Mark
where_none None m = m ∷ []
where_none (Some l) m = []

-- the mark, where there is such a local and it may not be assigned
abbrev pub where_fixed : Option (ℕ × Bool) → Mark → List Mark
where_fixed None m = []
where_fixed (Some l) m = if l.1 then [] else m ∷ []

module _ (text : List ℕ) where
  -- N3: a name in a sum that is no local's in scope
  abbrev pub prim_marks : Scope → Prim → List Mark
  prim_marks scope (prims.Name n) = where_none (found (text_at text n) scope) (mark N3 n)
  prim_marks scope (prims.Int n) = []

  abbrev pub parts_marks : Scope → List Prim → List Mark
  parts_marks scope [] = []
  parts_marks scope (p ∷ ps) = prim_marks scope p ++ parts_marks scope ps

  abbrev pub sum_marks : Scope → Sum → List Mark
  sum_marks scope s = prim_marks scope s.first ++ parts_marks scope s.more

  -- N10: an assigned name that is no local's in scope
  abbrev pub stmt_marks : Scope → Stmt → List Mark
  stmt_marks scope (stmts.Let m n s) = sum_marks scope s
  stmt_marks scope (stmts.Set n s) = where_none (found (text_at text n) scope) (mark N10 n) ++ sum_marks scope s

  -- the locals in scope behind a statement
  abbrev pub behind_stmt : Scope → Stmt → Scope
  behind_stmt scope (stmts.Let m n s) = bound m (text_at text n) scope
  behind_stmt scope (stmts.Set n s) = scope

  abbrev pub body_marks : Scope → List Stmt → Sum → List Mark
  body_marks scope [] v = sum_marks scope v
  body_marks scope (x ∷ xs) v = stmt_marks scope x ++ body_marks (behind_stmt scope x) xs v

  -- N6: a parameter's name that stands before
  abbrev pub param_marks : List (List ℕ) → List Span → List Mark
  param_marks before [] = []
  param_marks before (p ∷ ps) =
      (if list_any (bytes_eq (text_at text p)) before then mark N6 p ∷ [] else []) ++ param_marks (before ++ text_at text p ∷ []) ps

  -- the locals in scope, and then these parameters
  abbrev pub with_params : List Span → Scope → Scope
  with_params [] scope = scope
  with_params (p ∷ ps) scope = with_params ps (bound false (text_at text p) scope)

  -- the names that break a rule on names
  abbrev pub name_marks : File → List Mark
  name_marks f = param_marks [] f.parameters ++ body_marks (with_params f.parameters []) f.body.statements f.body.value

  -- T11: an assigned name whose local may not be assigned
  abbrev pub type_marks_from : Scope → List Stmt → List Mark
  type_marks_from scope [] = []
  type_marks_from scope (stmts.Let m n s ∷ xs) = type_marks_from (bound m (text_at text n) scope) xs
  type_marks_from scope (stmts.Set n s ∷ xs) = where_fixed (found (text_at text n) scope) (mark T11 n) ++ type_marks_from scope xs

  -- the names that break a rule on types
  abbrev pub type_marks : File → List Mark
  type_marks f = type_marks_from (with_params f.parameters []) f.body.statements

-- the mark is one of these
abbrev pub IsOneOf : Mark → List Mark → Type 0
IsOneOf m [] = ⊥
IsOneOf m (n ∷ ns) = (n ≡ m) ⊎ IsOneOf m ns

-- the first of the marks: none of the others ends before it. Each stands at a name, none breaks two rules of one stage, and none ends where another ends
abbrev pub IsFirst : Mark → List Mark → Type 0
IsFirst m ms = IsOneOf m ms × AllByRecursion (λ n. m.at.end ≤ n.at.end) ms
