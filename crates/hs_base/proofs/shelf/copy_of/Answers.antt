use Rattle.std.proofs.Common.{rules, ◌≡◌, ap, ◌∙◌, Some}
use Rattle.hs_base.proofs.Searching.{stands_under}
use Rattle.hs_base.proofs.shelf.copy_of.Goals as goal

pub returns-then-len-limit-clause-too_large : goal.returns-then-len-limit-clause-too_large
returns-then-len-limit-clause-too_large c =
    λ _. (
      c.index-held-at.result.bytes.items,
      stands_under c.args.name.now c.args.held.now c.in-Some.at c.index-held-at.result c.in-Some.ensures.found c.index-held-at.is,
      search rules,
    )

pub returns-clause-bytes : goal.returns-clause-bytes
returns-clause-bytes c =
    stands_under c.args.name.now c.args.held.now c.in-Some.at c.index-held-at.result c.in-Some.ensures.found c.index-held-at.is
    ∙ ap Some (let p : c.index-held-at.result.bytes.items ≡ c.in_ok-to_vec.field-0.items = search rules in p)
