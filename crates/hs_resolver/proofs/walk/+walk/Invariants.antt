use Rattle.std.proofs.Common.{◌≡◌, map, drop}
use Rattle.hs_resolver.specs.Parts.{every, nothing, in_order, scope_behind}
use Rattle.hs_resolver.specs.Names.{names_of_exp, names_of_arg, names_of_postfix, names_of_stmt, names_of_arm, names_of_operand, names_of_step, steps}
use Rattle.hs_resolver.specs.Walks.{Alike}
use Rattle.hs_resolver.proofs.walk.+walk.Given as goal

abbrev pub invariant-exps-loop-part : goal.invariant-exps-loop-part
invariant-exps-loop-part l =
    Alike (every (map (names_of_exp l.world.paths.now l.world.in_function) l.part-items) l.initial.scope l.initial.known) (every (map (names_of_exp l.world.paths.now l.world.in_function) (drop l.part-index l.part-items)) l.scope l.known)
    × (l.scope ≡ l.initial.scope)

abbrev pub invariant-arguments-loop-given : goal.invariant-arguments-loop-given
invariant-arguments-loop-given l =
    Alike (every (map (names_of_arg l.world.paths.now l.world.in_function) l.given-items) l.initial.scope l.initial.known) (every (map (names_of_arg l.world.paths.now l.world.in_function) (drop l.given-index l.given-items)) l.scope l.known)
    × (l.scope ≡ l.initial.scope)

abbrev pub invariant-operands-loop-operand : goal.invariant-operands-loop-operand
invariant-operands-loop-operand l =
    Alike (every (map (names_of_operand l.world.paths.now l.world.in_function) l.operand-items) l.initial.scope l.initial.known) (every (map (names_of_operand l.world.paths.now l.world.in_function) (drop l.operand-index l.operand-items)) l.scope l.known)
    × (l.scope ≡ l.initial.scope)

abbrev pub invariant-arms-loop-one : goal.invariant-arms-loop-one
invariant-arms-loop-one l =
    Alike (every (map (names_of_arm l.world.paths.now l.world.in_function) l.one-items) l.initial.scope l.initial.known) (every (map (names_of_arm l.world.paths.now l.world.in_function) (drop l.one-index l.one-items)) l.scope l.known)
    × (l.scope ≡ l.initial.scope)

abbrev pub invariant-place_steps-loop-one : goal.invariant-place_steps-loop-one
invariant-place_steps-loop-one l =
    Alike (every (map (names_of_step l.world.paths.now l.world.in_function) l.one-items) l.initial.scope l.initial.known) (every (map (names_of_step l.world.paths.now l.world.in_function) (drop l.one-index l.one-items)) l.scope l.known)
    × (l.scope ≡ l.initial.scope)

abbrev pub invariant-stmts-loop-one : goal.invariant-stmts-loop-one
invariant-stmts-loop-one l =
    Alike (in_order (map (names_of_stmt l.world.paths.now l.world.in_function) l.one-items) l.initial.scope l.initial.known) (in_order (map (names_of_stmt l.world.paths.now l.world.in_function) (drop l.one-index l.one-items)) l.scope l.known)
    × (scope_behind (map (names_of_stmt l.world.paths.now l.world.in_function) l.one-items) l.initial.scope l.initial.known ≡ scope_behind (map (names_of_stmt l.world.paths.now l.world.in_function) (drop l.one-index l.one-items)) l.scope l.known)

abbrev pub invariant-steps-loop-one : goal.invariant-steps-loop-one
invariant-steps-loop-one l =
    Alike (steps l.world.paths.now l.world.in_function l.start (map (names_of_postfix l.world.paths.now l.world.in_function) l.one-items) l.initial.scope (nothing l.initial.known))
    (steps l.world.paths.now l.world.in_function l.start (map (names_of_postfix l.world.paths.now l.world.in_function) (drop l.one-index l.one-items)) l.scope (nothing l.known))
    × (l.scope ≡ l.initial.scope)
