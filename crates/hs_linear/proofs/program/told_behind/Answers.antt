use Rattle.std.proofs.Common.{◌≡◌, false, not, List, map, Err, refl, ap, subst, ◌∙◌, arith}
use Rattle.hs_values.specs.declared.types.ValType.{ValType}
use Rattle.hs_tree.specs.Types.{copied}
use Rattle.hs_tree.specs.Moves.{also}
use Rattle.hs_linear.specs.Seen.{gives}
use Rattle.hs_linear.specs.Nodes.{block_seen}
use Rattle.hs_linear.specs.Told.{told_of}
use Rattle.hs_linear.specs.Known.{known_of}
use Rattle.hs_linear.specs.Programs.{known}
use Rattle.hs_linear.specs.Moments.{Walks}
use Rattle.hs_linear.specs.declared.joined.Left.{Left}
use Rattle.hs_linear.proofs.Functions.{P, known_is, function_told}
use Rattle.hs_linear.proofs.Rows.{local_step, locals_done}
use Rattle.hs_linear.proofs.program.told_behind.Goals as goal

pub loop-param-preserved : goal.loop-param-preserved
loop-param-preserved c =
    local_step (λ (p : P). p.local) (gives (map (λ (p : P). p.local) c.as_slice.result.now)) c.loop-param.param-index c.as_slice.result.now c.param-item.result c.new-state.result c.loop-param.state c.give.new.self (omega arith) c.param-item.is c.loop-param.invariant c.in_ok-give.ensures

pub returns-in-Ok : goal.returns-in-Ok
returns-in-Ok c =
    let known_as : known_of (record { alloc = c.args.alloc; table = c.args.table; callees = c.args.callees; operations = c.args.operations; params = c.as_slice.result; moves = c.in_ok-moved.field-0; standard = c.requires }) ≡ known c.args.table.now c.args.callees.now.functions.now c.args.function.now =
    known_is (record { alloc = c.args.alloc; table = c.args.table; callees = c.args.callees; operations = c.args.operations; params = c.as_slice.result; moves = c.in_ok-moved.field-0; standard = c.requires }) c.args.table.now c.args.callees.now.functions.now c.args.function.now refl refl c.as_slice.ensures (c.in_ok-moved.ensures ∙ ap (map (λ (t : ValType). not (copied c.args.table.now t))) c.as_slice-2.ensures) in
    function_told c.args.told (known_of (record { alloc = c.args.alloc; table = c.args.table; callees = c.args.callees; operations = c.args.operations; params = c.as_slice.result; moves = c.in_ok-moved.field-0; standard = c.requires })) (known c.args.table.now c.args.callees.now.functions.now c.args.function.now) c.args.function.now.body.block (map (λ (p : P). p.local) c.as_slice.result.now) c.new-state.result c.loop-param.state c.block.new.state
    c.new-state.ensures.held c.new-state.ensures.told
    (locals_done (λ (p : P). p.local) (gives (map (λ (p : P). p.local) c.as_slice.result.now)) c.loop-param.param-index c.as_slice.result.now c.new-state.result c.loop-param.state (omega arith) c.loop-param.invariant)
    c.in-Ok.ensures.1 known_as
    ∙ ap (λ (ps : List P). told_of c.args.told (block_seen (known c.args.table.now c.args.callees.now.functions.now c.args.function.now) c.args.function.now.body.block (also (map (λ (p : P). p.local) ps) (λ j. false))).broken) c.as_slice.ensures

pub returns-in-Err-Exits : goal.returns-in-Err-Exits
returns-in-Err-Exits c =
    let known_as : known_of (record { alloc = c.args.alloc; table = c.args.table; callees = c.args.callees; operations = c.args.operations; params = c.as_slice.result; moves = c.in_ok-moved.field-0; standard = c.requires }) ≡ known c.args.table.now c.args.callees.now.functions.now c.args.function.now =
    known_is (record { alloc = c.args.alloc; table = c.args.table; callees = c.args.callees; operations = c.args.operations; params = c.as_slice.result; moves = c.in_ok-moved.field-0; standard = c.requires }) c.args.table.now c.args.callees.now.functions.now c.args.function.now refl refl c.as_slice.ensures (c.in_ok-moved.ensures ∙ ap (map (λ (t : ValType). not (copied c.args.table.now t))) c.as_slice-2.ensures) in
    function_told c.args.told (known_of (record { alloc = c.args.alloc; table = c.args.table; callees = c.args.callees; operations = c.args.operations; params = c.as_slice.result; moves = c.in_ok-moved.field-0; standard = c.requires })) (known c.args.table.now c.args.callees.now.functions.now c.args.function.now) c.args.function.now.body.block (map (λ (p : P). p.local) c.as_slice.result.now) c.new-state.result c.loop-param.state c.block.new.state
    c.new-state.ensures.held c.new-state.ensures.told
    (locals_done (λ (p : P). p.local) (gives (map (λ (p : P). p.local) c.as_slice.result.now)) c.loop-param.param-index c.as_slice.result.now c.new-state.result c.loop-param.state (omega arith) c.loop-param.invariant)
    (subst (λ (x : Left). Walks {A = Unit {0}} (block_seen (known_of (record { alloc = c.args.alloc; table = c.args.table; callees = c.args.callees; operations = c.args.operations; params = c.as_slice.result; moves = c.in_ok-moved.field-0; standard = c.requires })) c.args.function.now.body.block) c.loop-param.state c.block.new.state (Err x)) c.in-Err-Exits.field-0-is c.in-Err-Exits.ensures).1 known_as
    ∙ ap (λ (ps : List P). told_of c.args.told (block_seen (known c.args.table.now c.args.callees.now.functions.now c.args.function.now) c.args.function.now.body.block (also (map (λ (p : P). p.local) ps) (λ j. false))).broken) c.as_slice.ensures
