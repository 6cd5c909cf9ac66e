use Rattle.std.proofs.Common.{◌≡◌, ◌∙◌, ◌∷◌, [], ◌++◌, List, ℕ, cond, bytes_eq, Some, is_some, sym, ap}
use denote.Ref.{Bor}
use Rattle.std.proofs.lemmas.List.{map-append, length-map}
use Rattle.hs_scope.specs.Names.{number_of}
use Rattle.hs_scope.specs.Index.{bytes_of}
use Rattle.hs_scope.proofs.Meanings.{number_again, number_new}
use Rattle.hs_scope.proofs.Indexes.{answers_written}
use Rattle.hs_scope.proofs.names.Names.add.Goals as goal

-- the bytes of names with one more
one_more : (names more : List (Bor (List ℕ))) (name : Bor (List ℕ)) → more ≡ names ++ name ∷ [] → bytes_of more ≡ bytes_of names ++ name.now ∷ []
one_more names more name i = ap bytes_of i ∙ map-append (λ name. name.now) names (name ∷ [])

pub invariant_of-self-then-contains_key : goal.invariant_of-self-then-contains_key
invariant_of-self-then-contains_key c =
    let names = bytes_of c.self.inside.names in
    let there = sym (ap is_some (c.self.invariant c.args.name.now)) ∙ (sym c.contains_key.ensures ∙ c.if-contains_key.true) in
    λ w. c.self.invariant w ∙ sym (ap (number_of w) (one_more c.self.inside.names c.push.new.self c.args.name c.in_ok-push.ensures.ok) ∙ number_again names c.args.name.now w there)

pub invariant_of-self-in-Ok : goal.invariant_of-self-in-Ok
invariant_of-self-in-Ok c =
    let names = bytes_of c.self.inside.names in
    let absent = sym (ap is_some (c.self.invariant c.args.name.now)) ∙ (sym c.contains_key.ensures ∙ c.if-contains_key.false) in
    let count = c.len-number.ensures ∙ sym (length-map c.self.inside.names (λ name. name.now)) in
    answers_written c.self.inside.first c.insert.new.self (λ w. number_of w names) (λ w. number_of w (bytes_of c.push.new.self)) c.args.name (Some c.len-number.result) c.self.invariant
    c.in-Ok.ensures.updates
    (λ w. ap (number_of w) (one_more c.self.inside.names c.push.new.self c.args.name c.in_ok-push.ensures.ok)
    ∙ number_new names c.args.name.now w absent
    ∙ ap (λ (n : ℕ). cond (bytes_eq c.args.name.now w) (Some n) (number_of w names)) (sym count))
