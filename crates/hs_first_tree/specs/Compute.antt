-- Runs as a function: the one run of a tree at a store, or that it has none.
use Rattle.std.specs.Prelude.{ℕ, ◌+◌, List, [], ◌∷◌, Option, Some, None, option_map, slice_get}
use Rattle.hs_first_tree.specs.Value.{Value, Number}
use Rattle.hs_first_tree.specs.Operation.{Applied, Is, Fails, Kind, applied}
use Rattle.hs_first_tree.specs.Plain.{Exp, var, lit, op, Exps, no_exps, exp, Rhs, plain, Stmt, bind, set, Stmts, no_stmts, stmt, Block, ends, Param, Function}
use Rattle.hs_first_tree.specs.Store.{Slot, Empty, Moved, Has, Store, empty, put, Outcome, Gives, Exits, Panics}
use Rattle.hs_first_tree.specs.Call.{Result, value, panic}

-- no run, or how it ends, the store after it, and its turns
pub data Out : Type 0 where
  Stuck : Out
  Ran : Outcome → Store → ℕ → Out

-- a run before an outcome, a store and turns
abbrev pub Process : Type 0
Process = Store → Out

-- so many turns more
abbrev pub more : ℕ → Out → Out
more a Stuck = Stuck
more a (Ran o s n) = Ran o s (a + n)

-- goes on with the value of an outcome, where it is one
abbrev pub next : Outcome → Store → ℕ → (Value → Process) → Out
next (Gives v) s n k = more n (k v s)
next (Exits v) s n k = Ran (Exits v) s n
next (Panics p) s n k = Ran (Panics p) s n

-- goes on with the value of a run
abbrev pub follow : Out → (Value → Process) → Out
follow Stuck k = Stuck
follow (Ran o s n) k = next o s n k

-- the value in a slot
abbrev pub read : Slot → Process
read Empty s = Stuck
read Moved s = Stuck
read (Has v) s = Ran (Gives v) s 0

-- what an operation gives
abbrev pub apply : Applied → Process
apply (Is v) s = Ran (Gives v) s 0
apply (Fails p) s = Ran (Panics p) s 0
apply Kind s = Stuck

-- the local holds this after a run
abbrev pub unbound : ℕ → Slot → Out → Out
unbound k x Stuck = Stuck
unbound k x (Ran o s n) = Ran o (put s k x) n

abbrev mutual
  -- an expression
  pub run_exp : Exp → Process
  run_exp (var k) s = read (s k) s
  run_exp (lit n) s = Ran (Gives (Number n)) s 0
  run_exp (op name es) s = run_exps es (λ vs. apply (applied name vs)) s

  -- operands, and what follows with their values
  pub run_exps : Exps → (List Value → Process) → Process
  run_exps no_exps k s = k [] s
  run_exps (exp e es) k s = follow (run_exp e s) (λ v. run_exps es (λ vs. k (v ∷ vs)))

-- a right side
abbrev pub run_rhs : Rhs → Process
run_rhs (plain e) = run_exp e

-- a statement, and what follows it
abbrev pub run_stmt : Stmt → Process → Process
run_stmt (bind k r) f s = follow (run_rhs r s) (λ v m. unbound k (m k) (f (put m k (Has v))))
run_stmt (set k r) f s = follow (run_rhs r s) (λ v m. f (put m k (Has v)))

-- statements, and what follows them
abbrev pub run_stmts : Stmts → Process → Process
run_stmts no_stmts f = f
run_stmts (stmt x xs) f = run_stmt x (run_stmts xs f)

-- a block
abbrev pub run_block : Block → Process
run_block (ends xs r) = run_stmts xs (run_rhs r)

-- the store of the parameters, where the arguments are as many
abbrev pub entered : List Param → List Value → Option Store
entered [] [] = Some empty
entered [] (v ∷ vs) = None
entered (p ∷ ps) [] = None
entered (p ∷ ps) (v ∷ vs) = option_map (λ m. put m p.local (Has v)) (entered ps vs)

-- no run, or a call's result and its turns
pub data Answer : Type 0 where
  NoCall : Answer
  Ended : Result → ℕ → Answer

-- the result of an outcome
abbrev pub result_of : Outcome → Result
result_of (Gives v) = value v
result_of (Exits v) = value v
result_of (Panics p) = panic p

-- a call's answer, by the run of its block
abbrev pub ended : Out → Answer
ended Stuck = NoCall
ended (Ran o s n) = Ended (result_of o) (1 + n)

-- a block's answer at a store, where there is one
abbrev pub answer_at : Block → Option Store → Answer
answer_at b None = NoCall
answer_at b (Some s) = ended (run_block b s)

-- a call of this function
abbrev pub run_function : Function → List Value → Answer
run_function f vs = answer_at f.block (entered f.params vs)

-- a call of the function, where there is one
abbrev pub run_found : Option Function → List Value → Answer
run_found None vs = NoCall
run_found (Some f) vs = run_function f vs

-- a call of the function at this place of the program
abbrev pub run_call : List Function → ℕ → List Value → Answer
run_call p i vs = run_found (slice_get p i) vs
