use Rattle.std.proofs.Common.{◌≡◌, subst, sym, ap, ◌∙◌, rules, Option, Some, None}
use Rattle.hs_marks.specs.declared.breach.Breach.{Breach}
use Rattle.hs_marks.specs.First.{first}
use Rattle.hs_marks.specs.Told.{Answers}
use Rattle.hs_limits.specs.Nodes.{outline_of}
use Rattle.hs_limits.specs.Breaks.{marked, marks_of}
use Rattle.hs_limits.specs.Walk.{first_in}
use Rattle.hs_limits.proofs.First.{walked_is}
use Rattle.hs_limits.proofs.Heights.{exp_agrees, stmt_agrees, block_agrees}
use Rattle.hs_limits.proofs.Order.{lies, rising}
use Rattle.hs_limits.proofs.items.limits.Goals as goal

pub returns-in-Ok : goal.returns-in-Ok
returns-in-Ok c =
    let o = outline_of c.args.file.now in
    let e : first_in o ≡ None = search rules in
    let same : first (marked o) ≡ None = ap first (sym (walked_is o)) ∙ e in
    let lie = lies o 0 c.requires.0 c.requires.1 in
    record {
      told = subst (λ (q : Option Breach). Answers (marks_of c.args.file.now) q) same (c.first_is_told.ensures.told (marked o) 0 c.requires.0 lie (rising o));
      only = λ b t. sym same ∙ c.first_is_told.ensures.only (marked o) 0 c.requires.0 lie (rising o) b t;
      heights = (exp_agrees, stmt_agrees, block_agrees);
    }

pub returns-in-Err : goal.returns-in-Err
returns-in-Err c =
    let o = outline_of c.args.file.now in
    let e : first_in o ≡ Some c.in-Err.breach = search rules in
    let same : first (marked o) ≡ Some c.in-Err.breach = ap first (sym (walked_is o)) ∙ e in
    let lie = lies o 0 c.requires.0 c.requires.1 in
    record {
      told = subst (λ (q : Option Breach). Answers (marks_of c.args.file.now) q) same (c.first_is_told.ensures.told (marked o) 0 c.requires.0 lie (rising o));
      only = λ b t. sym same ∙ c.first_is_told.ensures.only (marked o) 0 c.requires.0 lie (rising o) b t;
      heights = (exp_agrees, stmt_agrees, block_agrees);
    }
