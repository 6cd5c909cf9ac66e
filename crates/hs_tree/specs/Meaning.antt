-- Runs of trees, at every stage: a relation between the store before, how the run ends, the store after and the number of turns.
use Rattle.std.specs.Prelude.{◌≡◌, ◌⊎◌, ℕ, suc, Bool, true, false, ◌&&◌, not, List, [], ◌∷◌, Option, Some, None}
use Rattle.hs_tree.specs.Plain.{Name, Local, Carrying, turns, turnscf, fold, foldcf, Pattern, Exp, var, lit, truth, unit, const, tuple, list, ctor, op, call, and, or, in_side, exit, cont, Exps, no_exps, exp, Args, no_args, arg, lend, Rhs, plain, if_else, match_on, block, lendcall, quest, forcf, carry, Arms, no_arms, arm, Steps, here, at, part, Block, let_in, do_in, set_in, place_in, for_in, ends, returns, bind}
use Rattle.hs_control.specs.Control.{Val, Nothing, Truth, Number, Row, Tuple, Exit, Cont, vals_of, applied}
use Rattle.hs_tree.specs.Store.{Has, Store, put, Returned, Stops, CallRel}
use Rattle.hs_tree.specs.Match.{ctor_named, matched, bound}
use Rattle.hs_tree.specs.Way.{Pick, item, part_no, replaced, became}
use Rattle.hs_tree.specs.World.{World, operand_lent, none_lent, built}
use Rattle.hs_tree.specs.Steps.{size}
use Rattle.hs_tree.specs.Run.{lent_by, ended_by}
use Rattle.hs_tree.specs.Relations.{Rel, Just, Give, Never, Then, Leaves, Reads, Holding, Replies, Given, Chooses, OnControl, FromTo, Turns, TurnsCf, Folds, FoldsCf, Asks, Called}

-- the turns of a loop that carries a value along
abbrev pub Rounds : Carrying → (ℕ → Val → Rel) → ℕ → ℕ → Val → Rel
Rounds turns = Folds
Rounds fold = Folds
Rounds turnscf = FoldsCf
Rounds foldcf = FoldsCf

-- the pattern fits the value, and its locals are bound
abbrev pub Fitting : World → Pattern → Val → Rel → Rel
Fitting w p v R s o s' n = (m : Store) × (matched w.types p v s ≡ Some m) × R m o s' n

-- with the locals of a pattern bound to a value, which leave at the end
abbrev pub WithBound : World → Pattern → Val → Rel → Rel
WithBound w p v R = Leaves (bound p) (Fitting w p v R)

-- with a loop's variable, which leaves at the end
abbrev pub WithNumber : Local → ℕ → Rel → Rel
WithNumber i j R = Leaves (i.number ∷ []) (λ s. R (put s i.number (Has (size j))))

-- an arm, where its pattern fits, else what follows it
abbrev pub IfFits : World → Pattern → Val → Rel → Rel → Rel
IfFits w p v R Other s o s' n =
    WithBound w p v R s o s' n ⊎ ((matched w.types p v s ≡ None) × Other s o s' n)

-- with the local set to a value
abbrev pub Sets : Local → Val → Rel → Rel
Sets k v R s = R (put s k.number (Has v))

-- the assignment of a value to what is at the end of a way
abbrev pub AssignsIn : Local → Option Name → List Pick → Val → Rel → Rel
AssignsIn k o way v R = Holding k.number (λ old. Replies (replaced way (became o v) old) (λ new. Sets k new R))

-- the same; the whole of a local is set and not read
abbrev pub Assigns : Local → Option Name → List Pick → Val → Rel → Rel
Assigns k None [] v R = Sets k v R
Assigns k None (pick ∷ way) v R = AssignsIn k None (pick ∷ way) v R
Assigns k (Some o) way v R = AssignsIn k (Some o) way v R

module _ (w : World) (C : CallRel) where
  abbrev mutual
    -- runs of an expression; where it is lent, a local is read and not taken
    pub RunsExp : Exp → Bool → Rel
    RunsExp (var k) lent = Reads (w.moves k.number && not lent) k.number
    RunsExp (lit n) lent = Give (Number n)
    RunsExp (truth b) lent = Give (Truth b)
    RunsExp unit lent = Give Nothing
    RunsExp (const name) lent = Given (w.constants name) Give
    RunsExp (tuple es) lent = RunsExps es none_lent (λ vs. Give (Tuple (vals_of vs)))
    RunsExp (list es) lent = RunsExps es none_lent (λ vs. Give (Row (vals_of vs)))
    RunsExp (ctor t name es) lent = RunsExps es none_lent (λ vs. Given (built (ctor_named w.types t name) vs) Give)
    RunsExp (op name es) lent = RunsExps es (operand_lent name) (λ vs. Replies (applied name vs) Give)
    RunsExp (call f es) lent = RunsExps es (w.lent f) (λ vs. Called [] (C f vs))
    RunsExp (and a b) lent = Then (RunsExp a false) (Chooses (RunsExp b false) (Give (Truth false)))
    RunsExp (or a b) lent = Then (RunsExp a false) (Chooses (Give (Truth true)) (RunsExp b false))
    RunsExp (in_side r) lent = RunsRhs r
    RunsExp (exit e) lent = Then (RunsExp e false) (λ v. Give (Exit v))
    RunsExp (cont e) lent = Then (RunsExp e false) (λ v. Give (Cont v))

    -- expressions run from left to right, and what follows takes their values
    pub RunsExps : Exps → (ℕ → Bool) → (List Val → Rel) → Rel
    RunsExps no_exps lent K = K []
    RunsExps (exp e es) lent K = Then (RunsExp e (lent 0)) (λ v. RunsExps es (λ i. lent (suc i)) (λ vs. K (v ∷ vs)))

    -- so do arguments; a lent local's value is read at its place
    pub RunsArgs : Args → (ℕ → Bool) → (List Val → Rel) → Rel
    RunsArgs no_args lent K = K []
    RunsArgs (arg e es) lent K = Then (RunsExp e (lent 0)) (λ v. RunsArgs es (λ i. lent (suc i)) (λ vs. K (v ∷ vs)))
    RunsArgs (lend x es) lent K = Holding x.number (λ v. RunsArgs es (λ i. lent (suc i)) (λ vs. K (v ∷ vs)))

    -- runs of a right side
    pub RunsRhs : Rhs → Rel
    RunsRhs (plain e) = RunsExp e false
    RunsRhs (if_else e a b) = Then (RunsExp e false) (Chooses (RunsBlock a) (RunsBlock b))
    RunsRhs (match_on e xs) = Then (RunsExp e false) (RunsArms xs)
    RunsRhs (block b) = RunsBlock b
    RunsRhs (lendcall f es) = RunsArgs es (w.lent f) (λ vs. Called (lent_by es) (C f vs))
    RunsRhs (quest e) = Then (RunsExp e false) Asks
    RunsRhs (forcf i lo hi b) =
        Then (RunsExp lo false) (λ x. Then (RunsExp hi false) (FromTo (TurnsCf (λ j. WithNumber i j (RunsBlock b))) x))
    RunsRhs (carry how i lo hi first p b) =
        Then (RunsExp lo false) (λ x. Then (RunsExp hi false) (λ y. Then (RunsExp first false) (λ v.
        FromTo (λ a n. Rounds how (λ j u. WithNumber i j (WithBound w p u (RunsBlock b))) a n v) x y)))

    -- the first arm whose pattern fits the value
    pub RunsArms : Arms → Val → Rel
    RunsArms no_arms v = Never
    RunsArms (arm p b xs) v = IfFits w p v (RunsBlock b) (RunsArms xs v)

    -- the indices on a way run from left to right, and what follows takes the way
    pub RunsSteps : Steps → (List Pick → Rel) → Rel
    RunsSteps here K = K []
    RunsSteps (at e steps) K = Then (RunsExp e false) (λ v. RunsSteps steps (λ way. K (item v ∷ way)))
    RunsSteps (part i steps) K = RunsSteps steps (λ way. K (part_no i ∷ way))

    -- runs of a block
    pub RunsBlock : Block → Rel
    RunsBlock (let_in p r b) = Then (RunsRhs r) (λ v. WithBound w p v (RunsBlock b))
    RunsBlock (do_in r b) = Then (RunsRhs r) (λ v. RunsBlock b)
    RunsBlock (set_in k r b) = Then (RunsRhs r) (λ v. Sets k v (RunsBlock b))
    RunsBlock (place_in o k steps r b) = Then (RunsRhs r) (λ v. RunsSteps steps (λ way. Assigns k o way v (RunsBlock b)))
    RunsBlock (for_in i lo hi body b) =
        Then
        (Then (RunsExp lo false) (λ x. Then (RunsExp hi false) (FromTo (Turns (λ j. WithNumber i j (RunsBlock body))) x)))
        (λ v. RunsBlock b)
    RunsBlock (ends r) = RunsRhs r
    RunsBlock (returns e) = Then (RunsExp e false) (λ v. Just (Stops (Returned v)))
    RunsBlock (bind z p r b) = Then (RunsRhs r) (OnControl (λ x. Give (ended_by z x)) (λ x. WithBound w p x (RunsBlock b)))
