use Rattle.std.proofs.Common.{map, sym, ap, ◌∙◌, subst}
use Rattle.hs_first_tree.specs.Of.{program_of}
use Rattle.hs_first_tree.specs.Features.{no_assign}
use Rattle.hs_first_tree.specs.Count.{uses, loops, calls}
use Rattle.hs_first_tree.specs.Sound.{Sound}
use Rattle.hs_first_tree.specs.Call.{header_of}
use Rattle.hs_first_tree.specs.Compute.{run_call}
use Rattle.hs_p_mutation.proofs.Kept.{headers_kept, loops_kept, calls_kept, sound_kept}
use Rattle.hs_p_mutation.proofs.Runs.{call_same}
use Rattle.hs_p_mutation.proofs.drop_assigns.Goals as goal

pub returns-clause-sound : goal.returns-clause-sound
returns-clause-sound c =
    let e = c.in_ok-made.ensures in
    subst (Sound no_assign) (sym e) (sound_kept _ c.requires (λ f off. ap (uses f) (sym e) ∙ c.absent_features_are_unused.ensures f off))

pub returns-clause-headers : goal.returns-clause-headers
returns-clause-headers c = ap (map header_of) c.in_ok-made.ensures ∙ headers_kept _

pub returns-clause-loops : goal.returns-clause-loops
returns-clause-loops c = ap (map loops) c.in_ok-made.ensures ∙ loops_kept _

pub returns-clause-calls : goal.returns-clause-calls
returns-clause-calls c = λ name. ap (map (calls name)) c.in_ok-made.ensures ∙ calls_kept _ name

pub returns-clause-results : goal.returns-clause-results
returns-clause-results c = λ i vs r n.
    let p = program_of c.args.program in
    let q = program_of c.in_ok-made.made in
    let e = ap (λ x. run_call x i vs) c.in_ok-made.ensures ∙ call_same p i vs in
    let a = c.calls_are_computed.ensures p i vs r n in
    let b = c.calls_are_computed.ensures q i vs r n in
    (λ h. b.1 (e ∙ a.0 h), λ h. a.1 (sym e ∙ b.0 h))
