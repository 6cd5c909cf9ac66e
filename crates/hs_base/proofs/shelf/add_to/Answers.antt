use Rattle.std.proofs.Common.{rules, ◌≡◌, refl, ap, ◌∙◌, subst, Some, None, bytes_eq, if◌then◌else◌}
use Rattle.hs_base.specs.Contents.{StandsAt, bytes_under}
use Rattle.hs_base.specs.Shelves.{entries_of}
use Rattle.hs_base.proofs.Searching.{replaced, added_last}
use Rattle.hs_base.proofs.shelf.add_to.Goals as goal

pub returns-in-Some-clause-ok : goal.returns-in-Some-clause-ok
returns-in-Some-clause-ok c =
    let name = c.args.name.now in
    let all = c.args.all.now.items in
    let found : StandsAt name (entries_of all) c.in-Some.at = subst (λ l. StandsAt name (entries_of l) c.in-Some.at) c.deref.ensures.value c.in-Some.ensures.found in
    let copied : c.in_ok-copy.copy.items ≡ c.args.bytes.now = search rules in
    λ other.
    replaced name all c.in-Some.at c.index_mut.result.now (record { name = c.index_mut.result.now.name; bytes = c.in_ok-copy.copy }) found c.index_mut.ensures.value refl other
    ∙ ap (λ b. if bytes_eq name other then Some b else bytes_under other (entries_of all)) copied

pub returns-clause-ok : goal.returns-clause-ok
returns-clause-ok c =
    let name = c.args.name.now in
    let all = c.args.all.now.items in
    let nowhere : bytes_under name (entries_of all) ≡ None = subst (λ l. bytes_under name (entries_of l) ≡ None) c.deref.ensures.value (c.in_default.ensures.not_found refl) in
    let copied : c.in_ok-copy.copy.items ≡ c.args.bytes.now = search rules in
    λ other.
    ap (λ l. bytes_under other (entries_of l)) c.in_ok-push.ensures.items
    ∙ added_last name all (record { name = c.in_ok-name.name; bytes = c.in_ok-copy.copy }) c.in_ok-name.ensures.ok nowhere other
    ∙ ap (λ b. if bytes_eq name other then Some b else bytes_under other (entries_of all)) copied
