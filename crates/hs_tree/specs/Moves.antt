-- Which locals hold a value before and after each node, and the conditions on moves. A set of locals is their test. The sets read the
-- plain tree of a source and the types of its locals. A branch that always exits is followed by every local, so that it joins with
-- anything. That no item or part of a type that is not copied is taken out is no condition here: it needs the types of nodes.
use Rattle.std.specs.Prelude.{◌≡◌, ℕ, suc, Bool, true, false, not, ◌&&◌, ◌||◌, eqb, cond, List, [], ◌∷◌, Option, Some, None, IsTrue, ⊤}
use Rattle.hs_tree.specs.Plain.{Name, Exp, var, lit, truth, unit, const, tuple, list, ctor, op, call, and, or, in_side, exit, cont, Exps, no_exps, exp, Args, no_args, arg, lend, Rhs, plain, if_else, match_on, block, lendcall, quest, forcf, carry, Arms, no_arms, arm, Steps, here, at, part, Block, let_in, do_in, set_in, place_in, for_in, ends, returns, bind}
use Rattle.hs_tree.specs.Types.{copied}
use Rattle.hs_tree.specs.Store.{among}
use Rattle.hs_tree.specs.Match.{bound}
use Rattle.hs_tree.specs.World.{operand_lent, none_lent}
use Rattle.hs_tree.specs.Typing.{Known}

-- which locals of a function a read by value leaves moved
abbrev pub moved_by : Known → ℕ → Bool
moved_by g k = not (copied g.table (g.locals k))

-- what is known of a source's function beside: which arguments of the function of a name are lent, and which locals are parameters
-- that are references
pub record Lent : Type 0 where
  pub argument : Name → ℕ → Bool
  pub reference : ℕ → Bool

-- the locals that hold a value
abbrev pub Holding : Type 0
Holding = ℕ → Bool

-- every local
abbrev pub every : Holding
every j = true

-- the set with some locals, and without one
abbrev pub also : List ℕ → Holding → Holding
also ks d j = among j ks || d j

abbrev pub less : ℕ → Holding → Holding
less k d j = not (eqb j k) && d j

-- the locals of both sets
abbrev pub joined : Holding → Holding → Holding
joined d e j = d j && e j

-- whether a read of the local takes it out
abbrev pub takes_out : Known → Bool → ℕ → Bool
takes_out g lent k = moved_by g k && not lent

-- what is assigned to has a value, unless the whole is
abbrev pub WholeOr : Option Name → Steps → Bool → Type 0
WholeOr None here holds = ⊤
WholeOr None (at e steps) holds = IsTrue holds
WholeOr None (part i steps) holds = IsTrue holds
WholeOr (Some o) steps holds = IsTrue holds

-- each local of the first set is in the second
abbrev pub Kept : Holding → Holding → Type 0
Kept d e = (j : ℕ) → d j ≡ true → e j ≡ true

module _ (g : Known) (lents : Lent) where
  abbrev mutual
    -- the set after an expression, by the set before it
    pub after_exp : Exp → Bool → Holding → Holding
    after_exp (var k) lent d = cond (takes_out g lent k.number) (less k.number d) d
    after_exp (lit n) lent d = d
    after_exp (truth b) lent d = d
    after_exp unit lent d = d
    after_exp (const name) lent d = d
    after_exp (tuple es) lent d = after_exps es none_lent d
    after_exp (list es) lent d = after_exps es none_lent d
    after_exp (ctor t name es) lent d = after_exps es none_lent d
    after_exp (op name es) lent d = after_exps es (operand_lent name) d
    after_exp (call f es) lent d = after_exps es (lents.argument f) d
    after_exp (and a b) lent d = joined (after_exp a false d) (after_exp b false (after_exp a false d))
    after_exp (or a b) lent d = joined (after_exp a false d) (after_exp b false (after_exp a false d))
    after_exp (in_side r) lent d = after_rhs r d
    after_exp (exit e) lent d = after_exp e false d
    after_exp (cont e) lent d = after_exp e false d

    pub after_exps : Exps → (ℕ → Bool) → Holding → Holding
    after_exps no_exps lent d = d
    after_exps (exp e es) lent d = after_exps es (λ i. lent (suc i)) (after_exp e (lent 0) d)

    pub after_args : Args → (ℕ → Bool) → Holding → Holding
    after_args no_args lent d = d
    after_args (arg e es) lent d = after_args es (λ i. lent (suc i)) (after_exp e (lent 0) d)
    after_args (lend k es) lent d = after_args es (λ i. lent (suc i)) d

    -- the set after a right side
    pub after_rhs : Rhs → Holding → Holding
    after_rhs (plain e) d = after_exp e false d
    after_rhs (if_else e a b) d = joined (after_block a (after_exp e false d)) (after_block b (after_exp e false d))
    after_rhs (match_on e xs) d = after_arms xs (after_exp e false d)
    after_rhs (block b) d = after_block b d
    after_rhs (lendcall f es) d = after_args es (lents.argument f) d
    after_rhs (quest e) d = after_exp e false d
    after_rhs (forcf i lo hi b) d = after_exp hi false (after_exp lo false d)
    after_rhs (carry how i lo hi first p b) d = after_exp first false (after_exp hi false (after_exp lo false d))

    -- the set after a match: what all its arms leave
    pub after_arms : Arms → Holding → Holding
    after_arms no_arms d = every
    after_arms (arm p b xs) d = joined (after_block b (also (bound p) d)) (after_arms xs d)

    pub after_steps : Steps → Holding → Holding
    after_steps here d = d
    after_steps (at e steps) d = after_steps steps (after_exp e false d)
    after_steps (part i steps) d = after_steps steps d

    -- the set after a block; after a loop the set is the one that stood when its body first began
    pub after_block : Block → Holding → Holding
    after_block (let_in p r b) d = after_block b (also (bound p) (after_rhs r d))
    after_block (do_in r b) d = after_block b (after_rhs r d)
    after_block (set_in k r b) d = after_block b (also (k.number ∷ []) (after_rhs r d))
    after_block (place_in o k steps r b) d = after_block b (also (k.number ∷ []) (after_steps steps (after_rhs r d)))
    after_block (for_in i lo hi body b) d = after_block b (after_exp hi false (after_exp lo false d))
    after_block (ends r) d = after_rhs r d
    after_block (returns e) d = every
    after_block (bind z p r b) d = after_block b (also (bound p) (after_rhs r d))

  abbrev mutual
    -- the conditions on an expression: a local that is read holds a value, and one that is taken out is no reference
    pub MovesExp : Exp → Bool → Holding → Type 0
    MovesExp (var k) lent d = IsTrue (d k.number) × (takes_out g lent k.number ≡ true → lents.reference k.number ≡ false)
    MovesExp (lit n) lent d = ⊤
    MovesExp (truth b) lent d = ⊤
    MovesExp unit lent d = ⊤
    MovesExp (const name) lent d = ⊤
    MovesExp (tuple es) lent d = MovesExps es none_lent d
    MovesExp (list es) lent d = MovesExps es none_lent d
    MovesExp (ctor t name es) lent d = MovesExps es none_lent d
    MovesExp (op name es) lent d = MovesExps es (operand_lent name) d
    MovesExp (call f es) lent d = MovesExps es (lents.argument f) d
    MovesExp (and a b) lent d = MovesExp a false d × MovesExp b false (after_exp a false d)
    MovesExp (or a b) lent d = MovesExp a false d × MovesExp b false (after_exp a false d)
    MovesExp (in_side r) lent d = MovesRhs r d
    MovesExp (exit e) lent d = MovesExp e false d
    MovesExp (cont e) lent d = MovesExp e false d

    pub MovesExps : Exps → (ℕ → Bool) → Holding → Type 0
    MovesExps no_exps lent d = ⊤
    MovesExps (exp e es) lent d = MovesExp e (lent 0) d × MovesExps es (λ i. lent (suc i)) (after_exp e (lent 0) d)

    -- a local that is lent holds a value
    pub MovesArgs : Args → (ℕ → Bool) → Holding → Type 0
    MovesArgs no_args lent d = ⊤
    MovesArgs (arg e es) lent d = MovesExp e (lent 0) d × MovesArgs es (λ i. lent (suc i)) (after_exp e (lent 0) d)
    MovesArgs (lend k es) lent d = IsTrue (d k.number) × MovesArgs es (λ i. lent (suc i)) d

    pub MovesRhs : Rhs → Holding → Type 0
    MovesRhs (plain e) d = MovesExp e false d
    MovesRhs (if_else e a b) d = MovesExp e false d × MovesBlock a (after_exp e false d) × MovesBlock b (after_exp e false d)
    MovesRhs (match_on e xs) d = MovesExp e false d × MovesArms xs (after_exp e false d)
    MovesRhs (block b) d = MovesBlock b d
    MovesRhs (lendcall f es) d = MovesArgs es (lents.argument f) d
    MovesRhs (quest e) d = MovesExp e false d
    MovesRhs (forcf i lo hi b) d = ⊥
    MovesRhs (carry how i lo hi first p b) d = ⊥

    pub MovesArms : Arms → Holding → Type 0
    MovesArms no_arms d = ⊤
    MovesArms (arm p b xs) d = MovesBlock b (also (bound p) d) × MovesArms xs d

    pub MovesSteps : Steps → Holding → Type 0
    MovesSteps here d = ⊤
    MovesSteps (at e steps) d = MovesExp e false d × MovesSteps steps (after_exp e false d)
    MovesSteps (part i steps) d = MovesSteps steps d

    -- the conditions on a block: a loop's body gives back what it takes, and a local of which a part is assigned holds a value
    pub MovesBlock : Block → Holding → Type 0
    MovesBlock (let_in p r b) d = MovesRhs r d × MovesBlock b (also (bound p) (after_rhs r d))
    MovesBlock (do_in r b) d = MovesRhs r d × MovesBlock b (after_rhs r d)
    MovesBlock (set_in k r b) d = MovesRhs r d × MovesBlock b (also (k.number ∷ []) (after_rhs r d))
    MovesBlock (place_in o k steps r b) d =
        MovesRhs r d × MovesSteps steps (after_rhs r d) × WholeOr o steps (after_steps steps (after_rhs r d) k.number)
        × MovesBlock b (also (k.number ∷ []) (after_steps steps (after_rhs r d)))
    MovesBlock (for_in i lo hi body b) d =
        MovesExp lo false d × MovesExp hi false (after_exp lo false d)
        × MovesBlock body (also (i.number ∷ []) (after_exp hi false (after_exp lo false d)))
        × Kept (after_exp hi false (after_exp lo false d)) (after_block body (also (i.number ∷ []) (after_exp hi false (after_exp lo false d))))
        × MovesBlock b (after_exp hi false (after_exp lo false d))
    MovesBlock (ends r) d = MovesRhs r d
    MovesBlock (returns e) d = MovesExp e false d
    MovesBlock (bind z p r b) d = ⊥
