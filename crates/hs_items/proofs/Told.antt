-- The whole stage: what is told, and what the declarations name.
use Rattle.std.proofs.Common.{ℕ, ◌≡◌, ◌≤◌, sym, ◌∙◌, ap, ap₂, subst, true, List, [], length, slice_get, option_map, Option, Some, None, Ok, arith}
use Rattle.hs_syntax.specs.declared.file.File.{File}
use Rattle.hs_syntax.specs.declared.item.Item.{Item}
use Rattle.hs_limits.specs.Nested.{NestedFile}
use Rattle.hs_marks.specs.declared.breach.Breach.{Breach}
use Rattle.hs_marks.specs.First.{first}
use Rattle.hs_marks.specs.Marked.{Marked, marks}
use Rattle.hs_marks.specs.Told.{Answers, Lies, Rising}
use Rattle.hs_resolver.specs.declared.names.Names.{Names}
use Rattle.hs_resolver.specs.Order.{Resolves, needs}
use Rattle.hs_values.specs.declared.types.TypeDef.{TypeDef}
use Rattle.hs_items.specs.declared.facts.Facts.{Facts}
use Rattle.hs_items.specs.declared.decls.Declaration.{Declaration}
use Rattle.hs_items.specs.declared.decls.Decls.{Decls}
use Rattle.hs_items.specs.Meaning.{known}
use Rattle.hs_items.specs.Marks.{items_nodes, marked, broken}
use Rattle.hs_items.specs.Declares.{AreDecls, NamesEarlier, NamesEntries, declaration_below}
use Rattle.hs_items.specs.Walk.{at, AgreeWith, EachOnce, facts_of_ty, nodes_of_ty}
use Rattle.hs_items.proofs.Known.{fine}
use Rattle.hs_items.proofs.Once.{once_from, few_of, needs_count}
use Rattle.hs_items.proofs.Outlined.{same_nodes, marked_lies, marked_rises}

-- what is broken first in the walk is told
pub answers : (file : File) (order : List ℕ) (facts : List Facts) → NestedFile file → AgreeWith file (known file order) facts
    → ((m : Marked) (low high : ℕ) → Lies m low high → Rising m → Answers (marks m 0) (first m))
    → (q : Option Breach) → first (items_nodes (facts_of_ty file (at facts)) (nodes_of_ty file (at facts)) file file.items) ≡ q → Answers (broken file order) q
answers file order facts nested agree law q e =
    subst (Answers (broken file order)) (ap first (sym (same_nodes file order (at facts) agree)) ∙ e)
    (law (marked file order) 0 nested.0 (marked_lies file order nested) (marked_rises file order))

pub earlier_of : (file : File) (order : List ℕ) (decls : Decls) → AreDecls file order decls → NamesEarlier decls.table
earlier_of file order decls a = subst NamesEarlier (sym a.table) (fine file order).earlier

pub entries_of : (file : File) (order : List ℕ) (decls : Decls) → AreDecls file order decls → NamesEntries decls.table decls.items
entries_of file order decls a k one e = by (slice_get file.items k) (sym (a.items k) ∙ e)
  where
    by : (it : Option Item) → option_map (λ (i : Item). (known file order).declares k) it ≡ Some one → declaration_below (length decls.table) one ≡ true
    by None h = cc
    by (Some i) h =
        let same : one ≡ (known file order).declares k = cc in
        ap₂ (λ (t : List TypeDef) (d : Declaration). declaration_below (length t) d) a.table same ∙ (fine file order).declared k

pub once_of : (file : File) (names : Names) → Resolves file (Ok names) → EachOnce names.order
once_of file names r = once_from (needs file) [] names.order r.1.order.0

pub few_order : (file : File) (names : Names) → Resolves file (Ok names) → length names.order ≤ length file.items
few_order file names r =
    let f = few_of (needs file) names.order r.1.order.0 in
    let n = needs_count file in
    omega (arith, f, n)
