-- Runs as a total function: the one run of a node at a store, or that it has none. Beside it stands the relation, in Meaning.
use Rattle.std.specs.Prelude.{ℕ, suc, Bool, true, false, ◌&&◌, not, List, [], ◌∷◌, Option, Some, None}
use Rattle.hs_tree.specs.Plain.{Name, Local, Carrying, turns, turnscf, fold, foldcf, Around, top, inside, Pattern, Exp, var, lit, truth, unit, const, tuple, list, ctor, op, call, and, or, in_side, exit, cont, Exps, no_exps, exp, Args, no_args, arg, lend, Rhs, plain, if_else, match_on, block, lendcall, quest, forcf, carry, Arms, no_arms, arm, Steps, here, at, part, Block, let_in, do_in, set_in, place_in, for_in, ends, returns, bind}
use Rattle.hs_control.specs.Control.{Val, Nothing, Truth, Number, Row, Tuple, Exit, Cont, vals_of, applied}
use Rattle.hs_tree.specs.Store.{Has, Store, put, Returned, Out, Stuck, Calls}
use Rattle.hs_tree.specs.Match.{ctor_named, matched, bound}
use Rattle.hs_tree.specs.Way.{Pick, item, part_no, replaced, became}
use Rattle.hs_tree.specs.World.{World, operand_lent, none_lent, built}
use Rattle.hs_tree.specs.Steps.{follow, give, stop, leave, read, having_value, replies, given, at_store, choose, on_control, size, from_to, turns_of, turns_cf, folds, folds_cf, asked, called}

-- the locals that arguments lend, from left to right
abbrev pub lent_by : Args → List ℕ
lent_by no_args = []
lent_by (arg e es) = lent_by es
lent_by (lend k es) = k.number ∷ lent_by es

-- the turns of a loop that carries a value along
abbrev pub rounds : Carrying → (ℕ → Val → Store → Out) → ℕ → ℕ → Val → Store → Out
rounds turns = folds
rounds fold = folds
rounds turnscf = folds_cf
rounds foldcf = folds_cf

-- the value of a block that a control value ends
abbrev pub ended_by : Around → Val → Val
ended_by top v = v
ended_by inside v = Exit v

-- with the locals of a pattern bound to a value, which leave at the end
abbrev pub with_bound : World → Pattern → Val → (Store → Out) → Store → Out
with_bound w p v f s = leave (bound p) s (at_store (matched w.types p v s) f)

-- with a loop's variable, which leaves at the end
abbrev pub with_number : Local → ℕ → (Store → Out) → Store → Out
with_number i j f s = leave (i.number ∷ []) s (f (put s i.number (Has (size j))))

-- an arm, where its pattern fits, else what follows it
abbrev pub if_fits : Option Store → List ℕ → Store → (Store → Out) → Out → Out
if_fits None ks s f other = other
if_fits (Some m) ks s f other = leave ks s (f m)

-- the assignment of a value to what is at the end of a way
abbrev pub assigned_in : Local → Option Name → List Pick → Val → (Store → Out) → Store → Out
assigned_in k o way v f s =
    having_value (s k.number) (λ old. replies (replaced way (became o v) old) (λ new m. f (put m k.number (Has new)))) s

-- the same; the whole of a local is set and not read
abbrev pub assigned : Local → Option Name → List Pick → Val → (Store → Out) → Store → Out
assigned k None [] v f s = f (put s k.number (Has v))
assigned k None (pick ∷ way) v f s = assigned_in k None (pick ∷ way) v f s
assigned k (Some o) way v f s = assigned_in k (Some o) way v f s

module _ (w : World) (c : Calls) where
  abbrev mutual
    -- an expression; where it is lent, a local is read and not taken
    pub run_exp : Exp → Bool → Store → Out
    run_exp (var k) lent s = read (w.moves k.number && not lent) k.number (s k.number) s
    run_exp (lit n) lent s = give (Number n) s
    run_exp (truth b) lent s = give (Truth b) s
    run_exp unit lent s = give Nothing s
    run_exp (const name) lent s = given (w.constants name) give s
    run_exp (tuple es) lent s = run_exps es none_lent (λ vs. give (Tuple (vals_of vs))) s
    run_exp (list es) lent s = run_exps es none_lent (λ vs. give (Row (vals_of vs))) s
    run_exp (ctor t name es) lent s = run_exps es none_lent (λ vs. given (built (ctor_named w.types t name) vs) give) s
    run_exp (op name es) lent s = run_exps es (operand_lent name) (λ vs. replies (applied name vs) give) s
    run_exp (call f es) lent s = run_exps es (w.lent f) (λ vs. called [] (c f vs)) s
    run_exp (and a b) lent s = follow (run_exp a false s) (λ v m. choose v (run_exp b false m) (give (Truth false) m))
    run_exp (or a b) lent s = follow (run_exp a false s) (λ v m. choose v (give (Truth true) m) (run_exp b false m))
    run_exp (in_side r) lent s = run_rhs r s
    run_exp (exit e) lent s = follow (run_exp e false s) (λ v. give (Exit v))
    run_exp (cont e) lent s = follow (run_exp e false s) (λ v. give (Cont v))

    -- expressions from left to right, of which some are lent, and what follows with their values
    pub run_exps : Exps → (ℕ → Bool) → (List Val → Store → Out) → Store → Out
    run_exps no_exps lent k s = k [] s
    run_exps (exp e es) lent k s = follow (run_exp e (lent 0) s) (λ v. run_exps es (λ i. lent (suc i)) (λ vs. k (v ∷ vs)))

    -- arguments from left to right, and what follows with their values; a lent local's value is read at its place
    pub run_args : Args → (ℕ → Bool) → (List Val → Store → Out) → Store → Out
    run_args no_args lent k s = k [] s
    run_args (arg e es) lent k s = follow (run_exp e (lent 0) s) (λ v. run_args es (λ i. lent (suc i)) (λ vs. k (v ∷ vs)))
    run_args (lend x es) lent k s = having_value (s x.number) (λ v. run_args es (λ i. lent (suc i)) (λ vs. k (v ∷ vs))) s

    -- a right side
    pub run_rhs : Rhs → Store → Out
    run_rhs (plain e) s = run_exp e false s
    run_rhs (if_else e a b) s = follow (run_exp e false s) (λ v m. choose v (run_block a m) (run_block b m))
    run_rhs (match_on e xs) s = follow (run_exp e false s) (λ v. run_arms xs v)
    run_rhs (block b) s = run_block b s
    run_rhs (lendcall f es) s = run_args es (w.lent f) (λ vs. called (lent_by es) (c f vs)) s
    run_rhs (quest e) s = follow (run_exp e false s) asked
    run_rhs (forcf i lo hi b) s =
        follow (run_exp lo false s) (λ x m. follow (run_exp hi false m) (λ y m'. from_to x y (λ a n. turns_cf (λ j. with_number i j (run_block b)) a n m')))
    run_rhs (carry how i lo hi first p b) s =
        follow (run_exp lo false s) (λ x m. follow (run_exp hi false m) (λ y m'. follow (run_exp first false m') (λ v m''.
        from_to x y (λ a n. rounds how (λ j u. with_number i j (with_bound w p u (run_block b))) a n v m''))))

    -- the first arm whose pattern fits the value
    pub run_arms : Arms → Val → Store → Out
    run_arms no_arms v s = Stuck
    run_arms (arm p b xs) v s = if_fits (matched w.types p v s) (bound p) s (run_block b) (run_arms xs v s)

    -- the indices on a way from left to right, and what follows with the way
    pub run_steps : Steps → (List Pick → Store → Out) → Store → Out
    run_steps here k s = k [] s
    run_steps (at e steps) k s = follow (run_exp e false s) (λ v. run_steps steps (λ way. k (item v ∷ way)))
    run_steps (part i steps) k s = run_steps steps (λ way. k (part_no i ∷ way)) s

    -- a block
    pub run_block : Block → Store → Out
    run_block (let_in p r b) s = follow (run_rhs r s) (λ v. with_bound w p v (run_block b))
    run_block (do_in r b) s = follow (run_rhs r s) (λ v. run_block b)
    run_block (set_in k r b) s = follow (run_rhs r s) (λ v m. run_block b (put m k.number (Has v)))
    run_block (place_in o k steps r b) s = follow (run_rhs r s) (λ v. run_steps steps (λ way. assigned k o way v (run_block b)))
    run_block (for_in i lo hi body b) s =
        follow
        (follow (run_exp lo false s) (λ x m. follow (run_exp hi false m) (λ y m'. from_to x y (λ a n. turns_of (λ j. with_number i j (run_block body)) a n m'))))
        (λ v. run_block b)
    run_block (ends r) s = run_rhs r s
    run_block (returns e) s = follow (run_exp e false s) (λ v. stop (Returned v))
    run_block (bind z p r b) s =
        follow (run_rhs r s) (λ v m. on_control v (λ x. give (ended_by z x) m) (λ x. with_bound w p x (run_block b) m))
