use Rattle.std.proofs.Common.{◌≡◌, ◌∙◌, sym, ap, rules, negsuc}
use Rattle.std.specs.Int.{w128, cast_unsigned}
use Rattle.hs_words.specs.Arithmetic.{least_of}
use Rattle.hs_words.proofs.Division.{remainder-signed}
use Rattle.hs_words.proofs.words.Word.rem.Goals.{else-divisor-via-then-divisor+else-dividend-least, else-divisor-via-else-divisor}
use Rattle.hs_words.proofs.words.Word.rem.Goals as goal

pub returns-else-divisor-clause-value : goal.returns-else-divisor-clause-value
returns-else-divisor-clause-value c =
    let safe : c.number-divisor.result ≡ negsuc 0 → c.number-dividend.result ≡ least_of c.self.inside.ty → ⊥ =
    elim c.else-divisor.branch [ else-divisor-via-then-divisor+else-dividend-least w ↦ λ _ e. w.if-dividend-least.false (ap (cast_unsigned w128) (e ∙ sym w.least.ensures)) | else-divisor-via-else-divisor w ↦ λ e _. w.if-divisor.false (ap (cast_unsigned w128) e) ] in
    remainder-signed c.args.self.now c.args.b.now c.self.inside.ty c.b.inside.ty _ _ c.number-dividend.result c.number-divisor.result _ c.self.view_is c.b.view_is c.self.invariant c.if-b-eq0.false c.b.invariant c.requires.same_kind (cc) (search rules) (search rules) c.number-dividend.ensures c.number-divisor.ensures safe c.low_bits_of_signed.ensures
