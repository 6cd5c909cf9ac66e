use Rattle.std.proofs.Common.{◌≡◌, ℕ, List, Some, sym, ap, ◌∙◌, subst, rules}
use Rattle.std.specs.Prelude.{bytes_eq, position, All, ◌≢◌}
use Rattle.hs_linear.specs.Called.{names_of, modes_of}
use Rattle.hs_linear.proofs.Called.{first_found, none_found}
use Rattle.hs_linear.proofs.callees.Callees.params.Goals as goal

pub returns-in-Some : goal.returns-in-Some
returns-in-Some c =
    let found : position (bytes_eq c.args.name.now) (names_of c.args.self.now.functions.now) ≡ Some c.in-Some.number =
    ap (position (bytes_eq c.args.name.now)) (sym c.args.self.now.named) ∙ sym c.find.ensures.number ∙ c.in-Some.is in
    ap modes_of (c.as_slice.ensures ∙ ap (λ f. f.params) (sym c.index-self-number.is))
    ∙ first_found c.args.self.now.functions.now c.args.name.now c.in-Some.number c.index-self-number.result found c.index-self-number.is

pub returns-in-None : goal.returns-in-None
returns-in-None c =
    let none : All (λ other. other ≢ c.args.name.now) (names_of c.args.self.now.functions.now) =
    subst (All (λ (other : List ℕ). other ≢ c.args.name.now)) c.args.self.now.named (c.in-None.ensures.absent.0 (search rules)) in
    sym (none_found c.args.self.now.functions.now c.args.name.now (λ k m. none k _ m))
