use Rattle.std.proofs.Common.{ℕ, ◌≡◌, ◌∙◌, ap₂, sym, List, Option, Some, None}
use Rattle.hs_syntax.specs.declared.file.File.{File}
use Rattle.hs_syntax.specs.declared.item.Item.{Item}
use Rattle.hs_limits.specs.Nested.{NestedFile}
use Rattle.hs_marks.specs.declared.breach.Breach.{Breach}
use Rattle.hs_marks.specs.First.{first}
use Rattle.hs_marks.specs.Marked.{Marked, marks}
use Rattle.hs_marks.specs.Told.{Answers, Lies, Rising}
use Rattle.hs_items.specs.declared.facts.Facts.{Facts}
use Rattle.hs_items.specs.Meaning.{known}
use Rattle.hs_items.specs.Marks.{broken, items_nodes}
use Rattle.hs_items.specs.Walk.{at, AgreeWith, facts_of_ty, nodes_of_ty}
use Rattle.hs_items.proofs.Told.{answers}
use Rattle.hs_items.proofs.stage.declared.Goals as goal

-- what a walk by these facts over these items says is what is told
told_by : (file : File) (order : List ℕ) (facts seen : List Facts) (is : List Item) (q : Option Breach) → NestedFile file → AgreeWith file (known file order) facts
    → ((m : Marked) (low high : ℕ) → Lies m low high → Rising m → Answers (marks m 0) (first m)) → seen ≡ facts → is ≡ file.items
    → first (items_nodes (facts_of_ty file (at seen)) (nodes_of_ty file (at seen)) file is) ≡ q → Answers (broken file order) q
told_by file order facts seen is q nested agree law s e h =
    answers file order facts nested agree law q
    (ap₂ (λ (fs : List Facts) (is : List Item). first (items_nodes (facts_of_ty file (at fs)) (nodes_of_ty file (at fs)) file is)) (sym s) (sym e) ∙ h)

pub returns-in-Err : goal.returns-in-Err
returns-in-Err c =
    told_by c.args.symbols.now c.args.order.now c.in_ok-facts.facts c.as_slice.result.now c.items.result.now (Some c.in-Err.breach) c.requires.nested c.in_ok-facts.ensures c.first_is_told.ensures.told c.as_slice.ensures c.items.ensures
    c.in-Err.ensures.first

pub returns : goal.returns
returns c = (
  told_by c.args.symbols.now c.args.order.now c.in_ok-facts.facts c.as_slice.result.now c.items.result.now None c.requires.nested c.in_ok-facts.ensures c.first_is_told.ensures.told c.as_slice.ensures c.items.ensures c.in-Ok.ensures.first,
  c.in_ok-list_all-in-Ok.ensures,
)
