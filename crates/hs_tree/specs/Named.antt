-- Which locals a node names, and that its run leaves all others as they are, and those that it only reads.
use Rattle.std.specs.Prelude.{◌≡◌, ◌≢◌, ℕ, false, ⊤}
use Rattle.hs_tree.specs.Plain.{Pattern, binds, anything, parts, taken, Patterns, no_patterns, pattern, Exp, var, lit, truth, unit, const, tuple, list, ctor, op, call, and, or, in_side, exit, cont, Exps, no_exps, exp, Args, no_args, arg, lend, Rhs, plain, if_else, match_on, block, lendcall, quest, forcf, carry, Arms, no_arms, arm, Steps, here, at, part, Block, let_in, do_in, set_in, place_in, for_in, ends, returns, bind}
use Rattle.hs_tree.specs.Store.{Slot, Store, put, Outcome, Out, Stuck, Ran, Calls}
use Rattle.hs_tree.specs.World.{World}
use Rattle.hs_tree.specs.Run.{run_block}

-- each local that a node reads or binds has the first property, and each that it assigns or lends the second, by its number
module _ (P Q : ℕ → Type 0) where
  abbrev mutual
    pub EachPattern : Pattern → Type 0
    EachPattern (binds k) = P k.number
    EachPattern anything = ⊤
    EachPattern (parts ps) = EachPatterns ps
    EachPattern (taken t name ps) = EachPatterns ps

    pub EachPatterns : Patterns → Type 0
    EachPatterns no_patterns = ⊤
    EachPatterns (pattern p ps) = EachPattern p × EachPatterns ps

  abbrev mutual
    pub EachExp : Exp → Type 0
    EachExp (var k) = P k.number
    EachExp (lit n) = ⊤
    EachExp (truth b) = ⊤
    EachExp unit = ⊤
    EachExp (const name) = ⊤
    EachExp (tuple es) = EachExps es
    EachExp (list es) = EachExps es
    EachExp (ctor t name es) = EachExps es
    EachExp (op name es) = EachExps es
    EachExp (call f es) = EachExps es
    EachExp (and a b) = EachExp a × EachExp b
    EachExp (or a b) = EachExp a × EachExp b
    EachExp (in_side r) = EachRhs r
    EachExp (exit e) = EachExp e
    EachExp (cont e) = EachExp e

    pub EachExps : Exps → Type 0
    EachExps no_exps = ⊤
    EachExps (exp e es) = EachExp e × EachExps es

    pub EachArgs : Args → Type 0
    EachArgs no_args = ⊤
    EachArgs (arg e es) = EachExp e × EachArgs es
    EachArgs (lend k es) = Q k.number × EachArgs es

    pub EachRhs : Rhs → Type 0
    EachRhs (plain e) = EachExp e
    EachRhs (if_else e a b) = EachExp e × EachBlock a × EachBlock b
    EachRhs (match_on e xs) = EachExp e × EachArms xs
    EachRhs (block b) = EachBlock b
    EachRhs (lendcall f es) = EachArgs es
    EachRhs (quest e) = EachExp e
    EachRhs (forcf i lo hi b) = P i.number × EachExp lo × EachExp hi × EachBlock b
    EachRhs (carry how i lo hi first p b) = P i.number × EachExp lo × EachExp hi × EachExp first × EachPattern p × EachBlock b

    pub EachArms : Arms → Type 0
    EachArms no_arms = ⊤
    EachArms (arm p b xs) = EachPattern p × EachBlock b × EachArms xs

    pub EachSteps : Steps → Type 0
    EachSteps here = ⊤
    EachSteps (at e steps) = EachExp e × EachSteps steps
    EachSteps (part i steps) = EachSteps steps

    pub EachBlock : Block → Type 0
    EachBlock (let_in p r b) = EachPattern p × EachRhs r × EachBlock b
    EachBlock (do_in r b) = EachRhs r × EachBlock b
    EachBlock (set_in k r b) = Q k.number × EachRhs r × EachBlock b
    EachBlock (place_in o k steps r b) = Q k.number × EachRhs r × EachSteps steps × EachBlock b
    EachBlock (for_in i lo hi body b) = P i.number × EachExp lo × EachExp hi × EachBlock body × EachBlock b
    EachBlock (ends r) = EachRhs r
    EachBlock (returns e) = EachExp e
    EachBlock (bind z p r b) = EachPattern p × EachRhs r × EachBlock b

-- the same run, with one slot of the last store written
abbrev pub slot : ℕ → Slot → Out → Out
slot t x Stuck = Stuck
slot t x (Ran o s n) = Ran o (put s t x) n

-- a local that a block does not name changes nothing, and is not changed
abbrev pub FreshChangesNothing : World → Calls → Block → Type 0
FreshChangesNothing w c b =
    (t : ℕ) (x : Slot) → EachBlock (λ k. k ≢ t) (λ k. k ≢ t) b → (s : Store) → run_block w c b (put s t x) ≡ slot t x (run_block w c b s)

-- a local that a block neither assigns nor lends, and that no read moves, is behind its run as it was before, however the run ends
abbrev pub UnwrittenStays : World → Calls → Block → Type 0
UnwrittenStays w c b =
    (t : ℕ) → w.moves t ≡ false → EachBlock (λ k. ⊤) (λ k. k ≢ t) b
    → (s s' : Store) (o : Outcome) (n : ℕ) → run_block w c b s ≡ Ran o s' n → s' t ≡ s t
