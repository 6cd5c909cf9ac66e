use Rattle.std.proofs.Common.{◌≡◌, ◌<◌, ◌*◌, ◌/◌, ◌%◌, ◌-◌, ◌^◌, ◌∙◌, sym, ap, subst, bit_and, bit_or}
use Rattle.hs_words.specs.declared.kinds.IntTy.{IntTy}
use Rattle.hs_words.specs.Kind.{width_of}
use Rattle.hs_words.specs.Word.{from_bits}
use Rattle.hs_words.specs.Arithmetic.{turned}
use Rattle.hs_words.proofs.Exact.{width_le}
use Rattle.hs_words.proofs.Modular.{bits_seen}
use Rattle.hs_words.proofs.Shifts.{turned-is, turned-below}
use Rattle.hs_words.proofs.words.Word.turn.Goals as goal

within : (c : goal.After-width) → c.args.places < width_of c.self.inside.ty
within c = subst (λ (z : IntTy). c.args.places < width_of z) (sym (ap (λ w. w.kind) c.self.view_is)) c.requires.in_width

joined : (c : goal.After-width) → bit_or (bit_and ((c.self.inside.bits * 2 ^ c.args.places) % 2 ^ 128) c.mask.result) (c.self.inside.bits / 2 ^ (c.width.result - c.args.places)) ≡ turned (width_of c.self.inside.ty) c.self.inside.bits c.args.places
joined c = turned-is (width_of c.self.inside.ty) c.self.inside.bits c.args.places c.mask.result c.width.result c.mask.ensures c.width.ensures.value (within c) (width_le c.self.inside.ty) c.self.invariant

pub invariant_of-result : goal.invariant_of-result
invariant_of-result c = subst (λ n. n < 2 ^ width_of c.self.inside.ty) (sym (joined c)) (turned-below (width_of c.self.inside.ty) c.self.inside.bits c.args.places (within c) c.self.invariant)

pub returns : goal.returns
returns c = ap (from_bits c.self.inside.ty) (joined c) ∙ (λ t. from_bits (c.self.view_is t).kind (turned (width_of (c.self.view_is t).kind) (bits_seen c.args.self.now c.self.inside.ty c.self.inside.bits c.self.view_is c.self.invariant t) c.args.places))
