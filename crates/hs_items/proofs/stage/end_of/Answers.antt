use Rattle.std.proofs.Common.{Some, rules, arith}
use Rattle.hs_items.proofs.Once.{count_last}
use Rattle.hs_items.proofs.stage.end_of.Goals as goal

pub returns-in-Some : goal.returns-in-Some
returns-in-Some c =
    let n = c.requires.1 in
    let k = count_last c.args.items.now c.in-Some.last.now 0 c.requires.0 n (search rules) in
    omega (arith, k)
