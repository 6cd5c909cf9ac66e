-- Counts of nodes: which features a node has, how often a program uses each, how many loops a function has, and how often it calls
-- another.
use Rattle.std.specs.Prelude.{ℕ, ◌+◌, Bool, eqb, List, [], ◌∷◌, bytes_eq, if◌then◌else◌}
use Rattle.std.specs.List.{list_any}
use Rattle.hs_tree.specs.Features.{Feature, Place, Nested, Quest, MutArg, Exit, Assign, Loop, Cf, Acc, Fold, same}
use Rattle.hs_tree.specs.Plain.{Name, Carrying, turns, turnscf, fold, foldcf, Exp, var, lit, truth, unit, const, tuple, list, ctor, op, call, and, or, in_side, exit, cont, Exps, no_exps, exp, Args, no_args, arg, lend, Rhs, plain, if_else, match_on, block, lendcall, quest, forcf, carry, Arms, no_arms, arm, Steps, here, at, part, Block, let_in, do_in, set_in, place_in, for_in, ends, returns, bind, Mode, val, ref, mut, Param, Function, Constant, Program}

-- the features of an expression
abbrev pub features_exp : Exp → List Feature
features_exp (in_side r) = Nested ∷ []
features_exp (exit e) = Cf ∷ []
features_exp (cont e) = Cf ∷ []
features_exp _ = []

-- the features of a loop that carries a value along
abbrev pub features_carrying : Carrying → List Feature
features_carrying turns = Loop ∷ Acc ∷ []
features_carrying turnscf = Loop ∷ Acc ∷ Cf ∷ []
features_carrying fold = Fold ∷ []
features_carrying foldcf = Fold ∷ Cf ∷ []

-- the features of a right side
abbrev pub features_rhs : Rhs → List Feature
features_rhs (lendcall f es) = MutArg ∷ []
features_rhs (quest e) = Quest ∷ []
features_rhs (forcf i lo hi b) = Loop ∷ Assign ∷ Cf ∷ []
features_rhs (carry how i lo hi first p b) = features_carrying how
features_rhs _ = []

-- the features of a statement or an end
abbrev pub features_block : Block → List Feature
features_block (place_in o k steps r b) = Place ∷ []
features_block (set_in k r b) = Assign ∷ []
features_block (for_in i lo hi body b) = Loop ∷ Assign ∷ []
features_block (returns e) = Exit ∷ []
features_block (bind z p r b) = Cf ∷ []
features_block _ = []

-- the features of a parameter
abbrev pub features_mode : Mode → List Feature
features_mode val = []
features_mode ref = []
features_mode mut = MutArg ∷ []

-- what a node counts, without the nodes inside it
pub record Weights : Type 0 where
  pub of_exp : Exp → ℕ
  pub of_rhs : Rhs → ℕ
  pub of_block : Block → ℕ

module _ (w : Weights) where
  abbrev mutual
    -- an expression with all inside it
    pub total_exp : Exp → ℕ
    total_exp (var k) = w.of_exp (var k)
    total_exp (lit n) = w.of_exp (lit n)
    total_exp (truth b) = w.of_exp (truth b)
    total_exp unit = w.of_exp unit
    total_exp (const c) = w.of_exp (const c)
    total_exp (tuple es) = w.of_exp (tuple es) + total_exps es
    total_exp (list es) = w.of_exp (list es) + total_exps es
    total_exp (ctor t c es) = w.of_exp (ctor t c es) + total_exps es
    total_exp (op o es) = w.of_exp (op o es) + total_exps es
    total_exp (call f es) = w.of_exp (call f es) + total_exps es
    total_exp (and a b) = w.of_exp (and a b) + (total_exp a + total_exp b)
    total_exp (or a b) = w.of_exp (or a b) + (total_exp a + total_exp b)
    total_exp (in_side r) = w.of_exp (in_side r) + total_rhs r
    total_exp (exit e) = w.of_exp (exit e) + total_exp e
    total_exp (cont e) = w.of_exp (cont e) + total_exp e

    -- expressions
    pub total_exps : Exps → ℕ
    total_exps no_exps = 0
    total_exps (exp e es) = total_exp e + total_exps es

    -- arguments
    pub total_args : Args → ℕ
    total_args no_args = 0
    total_args (arg e es) = total_exp e + total_args es
    total_args (lend k es) = total_args es

    -- a right side
    pub total_rhs : Rhs → ℕ
    total_rhs (plain e) = w.of_rhs (plain e) + total_exp e
    total_rhs (if_else e a b) = w.of_rhs (if_else e a b) + (total_exp e + (total_block a + total_block b))
    total_rhs (match_on e xs) = w.of_rhs (match_on e xs) + (total_exp e + total_arms xs)
    total_rhs (block b) = w.of_rhs (block b) + total_block b
    total_rhs (lendcall f es) = w.of_rhs (lendcall f es) + total_args es
    total_rhs (quest e) = w.of_rhs (quest e) + total_exp e
    total_rhs (forcf i lo hi b) = w.of_rhs (forcf i lo hi b) + (total_exp lo + (total_exp hi + total_block b))
    total_rhs (carry how i lo hi first p b) =
        w.of_rhs (carry how i lo hi first p b) + (total_exp lo + (total_exp hi + (total_exp first + total_block b)))

    -- the blocks of arms
    pub total_arms : Arms → ℕ
    total_arms no_arms = 0
    total_arms (arm p b xs) = total_block b + total_arms xs

    -- the indices on a way
    pub total_steps : Steps → ℕ
    total_steps here = 0
    total_steps (at e steps) = total_exp e + total_steps steps
    total_steps (part i steps) = total_steps steps

    -- a block
    pub total_block : Block → ℕ
    total_block (let_in p r b) = w.of_block (let_in p r b) + (total_rhs r + total_block b)
    total_block (do_in r b) = w.of_block (do_in r b) + (total_rhs r + total_block b)
    total_block (set_in k r b) = w.of_block (set_in k r b) + (total_rhs r + total_block b)
    total_block (place_in o k steps r b) = w.of_block (place_in o k steps r b) + (total_rhs r + (total_steps steps + total_block b))
    total_block (for_in i lo hi body b) =
        w.of_block (for_in i lo hi body b) + (total_exp lo + (total_exp hi + (total_block body + total_block b)))
    total_block (ends r) = w.of_block (ends r) + total_rhs r
    total_block (returns e) = w.of_block (returns e) + total_exp e
    total_block (bind z p r b) = w.of_block (bind z p r b) + (total_rhs r + total_block b)

-- 1 where it is so
abbrev pub mark : Bool → ℕ
mark b = if b then 1 else 0

-- one for each node that has the feature
abbrev pub having : Feature → Weights
having f =
    record {
      of_exp = λ e. mark (list_any (same f) (features_exp e));
      of_rhs = λ r. mark (list_any (same f) (features_rhs r));
      of_block = λ b. mark (list_any (same f) (features_block b));
    }

-- 1 for a right side that is a loop, and for a statement that is one
abbrev pub loop_rhs : Rhs → ℕ
loop_rhs (forcf i lo hi b) = 1
loop_rhs (carry how i lo hi first p b) = 1
loop_rhs _ = 0

abbrev pub loop_block : Block → ℕ
loop_block (for_in i lo hi body b) = 1
loop_block _ = 0

-- one for each loop
abbrev pub looping : Weights
looping = record { of_exp = λ e. 0; of_rhs = loop_rhs; of_block = loop_block }

-- 1 for a call of the function of this name, and for one that lends
abbrev pub call_exp : Name → Exp → ℕ
call_exp g (call f es) = mark (bytes_eq f g)
call_exp g _ = 0

abbrev pub call_rhs : Name → Rhs → ℕ
call_rhs g (lendcall f es) = mark (bytes_eq f g)
call_rhs g _ = 0

-- one for each call of the function of this name
abbrev pub calling : Name → Weights
calling g = record { of_exp = call_exp g; of_rhs = call_rhs g; of_block = λ b. 0 }

-- how many parameters have the feature
abbrev pub uses_params : Feature → List Param → ℕ
uses_params f [] = 0
uses_params f (p ∷ ps) = mark (list_any (same f) (features_mode p.mode)) + uses_params f ps

-- how often functions use a feature, and constants
abbrev pub uses_functions : Feature → List Function → ℕ
uses_functions f [] = 0
uses_functions f (g ∷ gs) = (uses_params f g.params + total_block (having f) g.body) + uses_functions f gs

abbrev pub uses_constants : Feature → List Constant → ℕ
uses_constants f [] = 0
uses_constants f (c ∷ cs) = total_exp (having f) c.value + uses_constants f cs

-- how often a program uses the feature
abbrev pub uses : Feature → Program → ℕ
uses f p = uses_constants f p.constants + uses_functions f p.functions

-- how many loops a function has
abbrev pub loops : Function → ℕ
loops f = total_block looping f.body

-- how often a function calls the one of this name
abbrev pub calls : Function → Name → ℕ
calls f g = total_block (calling g) f.body

-- how often arguments lend the local of a number
abbrev pub lends : ℕ → Args → ℕ
lends k no_args = 0
lends k (arg e es) = lends k es
lends k (lend x es) = mark (eqb x.number k) + lends k es

-- 1 for each place where the local of a number is lent
abbrev pub lending_rhs : ℕ → Rhs → ℕ
lending_rhs k (lendcall f es) = lends k es
lending_rhs k _ = 0

abbrev pub lending : ℕ → Weights
lending k = record { of_exp = λ e. 0; of_rhs = lending_rhs k; of_block = λ b. 0 }

-- 1 for each place where the local of a number is named, but for where it is bound
abbrev pub naming_exp : ℕ → Exp → ℕ
naming_exp k (var x) = mark (eqb x.number k)
naming_exp k _ = 0

abbrev pub naming_rhs : ℕ → Rhs → ℕ
naming_rhs k (lendcall f es) = lends k es
naming_rhs k _ = 0

abbrev pub naming_block : ℕ → Block → ℕ
naming_block k (set_in x r b) = mark (eqb x.number k)
naming_block k (place_in o x steps r b) = mark (eqb x.number k)
naming_block k _ = 0

abbrev pub naming : ℕ → Weights
naming k = record { of_exp = naming_exp k; of_rhs = naming_rhs k; of_block = naming_block k }

-- how often arguments name the local of a number
abbrev pub named_by : ℕ → Args → ℕ
named_by k es = lends k es + total_args (naming k) es
