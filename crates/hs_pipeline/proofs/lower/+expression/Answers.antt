use Rattle.std.proofs.Common.{rules, ◌≡◌, sym, ap, ◌∙◌, map}
use Rattle.hs_first_tree.specs.Plain as tree
use Rattle.hs_first_tree.specs.declared.node.Exp as node
use Rattle.hs_first_tree.specs.Of.{exps_of, exp_of}
use Rattle.hs_first_em.specs.Of.{ems_of, em_of}
use Rattle.hs_first_em.specs.Plain as em
use Rattle.hs_first_em.specs.declared.module.Em.{the_lemmas}
use Rattle.hs_first_em.specs.declared.module.Em.TheVariants.{Op}
use Rattle.hs_pipeline.specs.Lower.{lowered_exp, lowered_exps}
use Rattle.hs_pipeline.proofs.OneByOne.{operands_lowered}
use Rattle.hs_pipeline.proofs.lower.+expression.Goals as goal

pub lower_exp-returns-in_ok-operands-in-Op : goal.lower_exp-returns-in_ok-operands-in-Op
lower_exp-returns-in_ok-operands-in-Op t c =
    let names = c.args.names.now in
    let made : em_of (Op c.in_ok-name-in-Op.name c.in_ok-operands-in-Op.operands) ≡ em.op c.in_ok-name-in-Op.name (ems_of (map em_of c.in_ok-operands-in-Op.operands)) = search (rules, the_lemmas) in
    let operands : ems_of (map em_of c.in_ok-operands-in-Op.operands) ≡ lowered_exps names (exps_of (map exp_of c.in-Op.operands)) =
    ap ems_of c.in_ok-operands-in-Op.ensures ∙ operands_lowered names (map exp_of c.in-Op.operands) in
    let shape : exp_of c.args.exp.now ≡ tree.op c.in-Op.name (exps_of (map exp_of c.in-Op.operands)) = rw c.in-Op.is (search (rules, node.the_lemmas)) in
    made ∙ (ap (em.op c.in_ok-name-in-Op.name) operands
    ∙ (ap (λ w. em.op w (lowered_exps names (exps_of (map exp_of c.in-Op.operands)))) c.in_ok-name-in-Op.ensures ∙ sym (ap (lowered_exp names) shape)))
