use Rattle.std.proofs.Common.{rules, ◌≡◌, sym, subst, ◌++◌}
use Rattle.hs_first_em.specs.declared.module.Em.{the_lemmas}
use Rattle.hs_first_em.specs.Plain.{bind}
use Rattle.hs_first_em.specs.Of.{em_of, var_of}
use Rattle.hs_first_em.specs.Spelled.{is_let}
use Rattle.hs_fstar.specs.Layout.{em_text}
use Rattle.hs_fstar.specs.Lines.{indent_of_bound, let_text, in_text}
use Rattle.hs_fstar.proofs.Pieces.{let_written}
use Rattle.hs_fstar.proofs.print.+expression.Goals as goal

pub write_em-returns-in_ok-write_em-in-Let-2 : goal.write_em-returns-in_ok-write_em-in-Let-2
write_em-returns-in_ok-write_em-in-Let-2 t c =
    let indent = c.args.indent in
    let inner = c.in_ok-inner-in-Let.inner in
    let before = c.args.text.now.items in
    let head = c.write_let.new.text.items in
    let bound = c.write_em.new.text.items in
    let behind = c.write_in.new.text.items in
    let whole = c.write_em-in-Let.new.text.items in
    let further = subst (λ e. inner ≡ indent_of_bound (is_let (em_of e)) indent) c.get.ensures c.in_ok-inner-in-Let.ensures in
    let first = subst (λ e. head ≡ before ++ let_text (var_of c.in-Let.local) (is_let (em_of e)) inner) c.get-in-Let.ensures c.in_ok-write_let-in-Let.ensures in
    let second = subst (λ e. bound ≡ head ++ em_text inner (em_of e)) c.get-in-Let-2.ensures c.in_ok-write_em-in-Let.ensures in
    let third = subst (λ e. behind ≡ bound ++ in_text (is_let (em_of e)) indent) c.get-in-Let-3.ensures c.in_ok-write_in-in-Let.ensures in
    let last = subst (λ e. whole ≡ behind ++ em_text indent (em_of e)) c.get-in-Let-4.ensures c.in_ok-write_em-in-Let-2.ensures in
    let shape : em_of c.args.em.now ≡ bind (var_of c.in-Let.local) (em_of c.in-Let.bound) (em_of c.in-Let.body) = rw c.in-Let.is (search (rules, the_lemmas)) in
    subst (λ e. whole ≡ before ++ em_text indent e) (sym shape)
    (let_written indent inner (var_of c.in-Let.local) (em_of c.in-Let.bound) (em_of c.in-Let.body) before head bound behind whole further first second third last)
