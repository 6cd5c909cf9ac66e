-- The parameters of a list of names, one more at a time.
use Rattle.std.proofs.Common.{◌≡◌, ℕ, ◌+◌, ◌<◌, List, [], ◌∷◌, ◌++◌, length, drop, ap, sym, ◌∙◌, append_assoc}
use Rattle.std.proofs.lemmas.List.{at_drop_more}
use Rattle.hs_first_tree.specs.Value.{U32}
use Rattle.hs_first_tree.specs.Plain.{Param}
use Rattle.hs_front.specs.declared.syntax.Span.{Span}
use Rattle.hs_front.specs.Program.{params_from}

pub params_more : (us : List Param) (names : List Span) (i : ℕ) → i < length names → us ++ params_from i (drop i names) ≡ (us ++ record { local = i; type = U32 } ∷ []) ++ params_from (i + 1) (drop (i + 1) names)
params_more us names i h =
    let p : Param = record { local = i; type = U32 } in
    let nowhere : Span = record { start = 0; end = 0 } in
    ap (λ ps. us ++ ps) (at_drop_more (params_from i) names i nowhere h)
    ∙ sym (append_assoc us (p ∷ []) (params_from (i + 1) (drop (i + 1) names)))
