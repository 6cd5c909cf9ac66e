-- A call gives the same without assignments.
use Rattle.std.proofs.Common.{◌≡◌, ℕ, zero, suc, ◌+◌, List, [], ◌∷◌, Option, Some, None, refl, sym, ◌∙◌, arith}
use Rattle.hs_first_tree.specs.Value.{Value}
use Rattle.hs_first_tree.specs.Plain.{Stmts, no_stmts, stmt, bind, set, Block, ends, Function}
use Rattle.hs_first_tree.specs.Store.{Slot, Has, Store, put, Gives, Exits, Panics}
use Rattle.hs_first_tree.specs.Compute.{Out, Stuck, Ran, Process, more, follow, unbound, run_rhs, run_stmts, run_block, entered, result_of, ended, answer_at, run_call}
use Rattle.hs_p_mutation.specs.Without.{stmts_without, block_without, program_without}

-- a store after a run is not seen by the call
ended_unbound : (k : ℕ) (x : Slot) (y : Out) → ended (unbound k x y) ≡ ended y
ended_unbound k x Stuck = refl
ended_unbound k x (Ran o s n) = refl

ended_more : (a : ℕ) (x y : Out) → ended x ≡ ended y → ended (more a x) ≡ ended (more a y)
ended_more a Stuck Stuck e = refl
ended_more a Stuck (Ran o s n) e = absurd (cc)
ended_more a (Ran o s n) Stuck e = absurd (cc)
ended_more a (Ran o s n) (Ran p t m) e =
    let d : result_of o ≡ result_of p = cc in
    let c : 1 + n ≡ 1 + m = cc in
    let b : n ≡ m = omega (arith, c) in
    cc

ended_follow : (x : Out) (f g : Value → Process) → ((v : Value) (s : Store) → ended (f v s) ≡ ended (g v s)) → ended (follow x f) ≡ ended (follow x g)
ended_follow Stuck f g h = refl
ended_follow (Ran (Gives v) s n) f g h = ended_more n (f v s) (g v s) (h v s)
ended_follow (Ran (Exits v) s n) f g h = refl
ended_follow (Ran (Panics p) s n) f g h = refl

stmts_same : (xs : Stmts) (f : Process) (s : Store) → ended (run_stmts (stmts_without xs) f s) ≡ ended (run_stmts xs f s)
stmts_same no_stmts f s = refl
stmts_same (stmt (bind k r) xs) f s =
    ended_follow (run_rhs r s) _ _ (λ v m. ended_unbound k (m k) _ ∙ stmts_same xs f (put m k (Has v)) ∙ sym (ended_unbound k (m k) _))
stmts_same (stmt (set k r) xs) f s =
    ended_follow (run_rhs r s) _ _ (λ v m. ended_unbound k (m k) _ ∙ stmts_same xs f (put m k (Has v)))

block_same : (b : Block) (s : Store) → ended (run_block (block_without b) s) ≡ ended (run_block b s)
block_same (ends xs r) s = stmts_same xs (run_rhs r) s

at_same : (b : Block) (x : Option Store) → answer_at (block_without b) x ≡ answer_at b x
at_same b None = refl
at_same b (Some s) = block_same b s

-- the result of a call is the same
pub call_same : (p : List Function) (i : ℕ) (vs : List Value) → run_call (program_without p) i vs ≡ run_call p i vs
call_same [] i vs = refl
call_same (f ∷ p) zero vs = at_same f.block (entered f.params vs)
call_same (f ∷ p) (suc i) vs = call_same p i vs
