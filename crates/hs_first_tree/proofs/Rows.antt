-- Small programs, and what the definitions give for them.
use Rattle.std.proofs.Common.{◌≡◌, ◌^◌, ◌-◌, [], ◌∷◌, refl}
use Rattle.std.specs.Prelude.{codes}
use Rattle.hs_first_tree.specs.Value.{Number, U32, Overflow}
use Rattle.hs_first_tree.specs.Plain.{Exp, var, lit, op, no_exps, exp, plain, bind, set, no_stmts, stmt, ends, Function}
use Rattle.hs_first_tree.specs.Features.{Assign, Loop}
use Rattle.hs_first_tree.specs.Count.{uses}
use Rattle.hs_first_tree.specs.Call.{value, panic}
use Rattle.hs_first_tree.specs.Compute.{Ended, NoCall, run_call}

abbrev sum : Exp → Exp → Exp
sum a b = op (codes "u32_add") (exp a (exp b no_exps))

-- fn inc(a: u32) -> u32 { let mut x: u32 = a; x = x + 1; x }
abbrev inc : Function
inc =
    record {
      name = codes "inc";
      locals = codes "a" ∷ codes "x" ∷ [];
      params = record { local = 0; type = U32 } ∷ [];
      returns = U32;
      block = ends (stmt (bind 1 (plain (var 0))) (stmt (set 1 (plain (sum (var 1) (lit 1)))) no_stmts)) (plain (var 1));
    }

inc_adds : run_call (inc ∷ []) 0 (Number 41 ∷ []) ≡ Ended (value (Number 42)) 1
inc_adds = refl

inc_panics : run_call (inc ∷ []) 0 (Number (2 ^ 32 - 1) ∷ []) ≡ Ended (panic Overflow) 1
inc_panics = refl

inc_wants_one : run_call (inc ∷ []) 0 [] ≡ NoCall
inc_wants_one = refl

inc_assigns : uses Assign (inc ∷ []) ≡ 1
inc_assigns = refl

inc_has_no_loop : uses Loop (inc ∷ []) ≡ 0
inc_has_no_loop = refl
