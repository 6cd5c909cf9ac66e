use Rattle.std.proofs.Common.{◌∷◌, [], length, ap, sym, ◌∙◌, arith, rules}
use Rattle.std.proofs.lemmas.Grind.{common_steps}
use Rattle.hs_values.specs.declared.types.ValType.{the_lemmas}
use Rattle.hs_values.specs.Fits.{fits}
use Rattle.hs_values.proofs.Fitting.{each_fits-apart, each_fits-one, each_fits-none}
use Rattle.hs_values.proofs.value.+fits.Goals as goal

pub ctor_of-returns-in-0 : goal.ctor_of-returns-in-0
ctor_of-returns-in-0 t c = let h = each_fits-none (fits c.args.table.now) c.args.parts.now c.is_empty.result c.is_empty.ensures in search (rules, the_lemmas, h)

pub each_of-returns-then-parts-types : goal.each_of-returns-then-parts-types
each_of-returns-then-parts-types t c = let h = each_fits-apart (fits c.args.table.now) c.args.parts.now c.args.types.now (λ e. c.if-parts-types.true (ap length c.as_slice-parts.ensures ∙ e ∙ sym (ap length c.as_slice-types.ensures))) in sym h

pub one_of-returns-then-len-eq1 : goal.one_of-returns-then-len-eq1
one_of-returns-then-len-eq1 t c = c.all_of.ensures ∙ each_fits-one (fits c.args.table.now) c.args.parts.now c.args.ty.now (sym c.len.ensures ∙ c.if-len-eq1.true)

pub one_of-returns-else-len-eq1 : goal.one_of-returns-else-len-eq1
one_of-returns-else-len-eq1 t c = let h = each_fits-apart (fits c.args.table.now) c.args.parts.now (c.args.ty.now ∷ []) (λ e. c.if-len-eq1.false (c.len.ensures ∙ e)) in grind (arith, common_steps, h)
