use Rattle.std.proofs.Common.{◌≡◌, drop, bytes_eq}
use Rattle.std.specs.List.{list_any}
use Rattle.hs_front.proofs.kinds.is_in.Given as goal

abbrev pub invariant-loop-text : goal.invariant-loop-text
invariant-loop-text l =
    list_any (λ text. bytes_eq l.fn.word text.now) (drop l.text-index l.list) ≡ list_any (λ text. bytes_eq l.fn.word text.now) l.list
