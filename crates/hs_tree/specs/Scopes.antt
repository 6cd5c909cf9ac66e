-- Scopes of locals: each local that a node names is bound before it, in its block or round it, and stands in the function's list of
-- locals under its name.
use Rattle.std.specs.Prelude.{◌≡◌, ℕ, eqb, List, [], ◌∷◌, ◌++◌, map, Some, slice_get, IsTrue, ⊤}
use Rattle.std.specs.List.{AllByRecursion, IsDistinct}
use Rattle.hs_tree.specs.Plain.{Name, Local, Pattern, binds, anything, parts, taken, Patterns, no_patterns, pattern, Exp, var, lit, truth, unit, const, tuple, list, ctor, op, call, and, or, in_side, exit, cont, Exps, no_exps, exp, Args, no_args, arg, lend, Rhs, plain, if_else, match_on, block, lendcall, quest, forcf, carry, Arms, no_arms, arm, Steps, here, at, part, Block, let_in, do_in, set_in, place_in, for_in, ends, returns, bind, Function}
use Rattle.hs_tree.specs.Store.{among}
use Rattle.hs_tree.specs.Match.{bound}

-- the names of a function's locals, by their numbers
abbrev pub Locals : Type 0
Locals = List Name

-- the local stands in the list under its name
abbrev pub Listed : Locals → Local → Type 0
Listed names k = slice_get names k.number ≡ Some k.name

abbrev mutual
  -- the locals that a pattern binds
  pub locals_of : Pattern → List Local
  locals_of (binds k) = k ∷ []
  locals_of anything = []
  locals_of (parts ps) = locals_of_all ps
  locals_of (taken t name ps) = locals_of_all ps

  pub locals_of_all : Patterns → List Local
  locals_of_all no_patterns = []
  locals_of_all (pattern p ps) = locals_of p ++ locals_of_all ps

-- a pattern's locals are listed, and no two have one number
abbrev pub PatternScoped : Locals → Pattern → Type 0
PatternScoped names p = AllByRecursion (Listed names) (locals_of p) × IsDistinct eqb (bound p)

module _ (names : Locals) where
  -- a local that is named where these numbers are bound
  abbrev pub InScope : List ℕ → Local → Type 0
  InScope d k = Listed names k × IsTrue (among k.number d)

  abbrev mutual
    pub ExpScoped : List ℕ → Exp → Type 0
    ExpScoped d (var k) = InScope d k
    ExpScoped d (lit n) = ⊤
    ExpScoped d (truth b) = ⊤
    ExpScoped d unit = ⊤
    ExpScoped d (const name) = ⊤
    ExpScoped d (tuple es) = ExpsScoped d es
    ExpScoped d (list es) = ExpsScoped d es
    ExpScoped d (ctor t name es) = ExpsScoped d es
    ExpScoped d (op name es) = ExpsScoped d es
    ExpScoped d (call f es) = ExpsScoped d es
    ExpScoped d (and a b) = ExpScoped d a × ExpScoped d b
    ExpScoped d (or a b) = ExpScoped d a × ExpScoped d b
    ExpScoped d (in_side r) = RhsScoped d r
    ExpScoped d (exit e) = ExpScoped d e
    ExpScoped d (cont e) = ExpScoped d e

    pub ExpsScoped : List ℕ → Exps → Type 0
    ExpsScoped d no_exps = ⊤
    ExpsScoped d (exp e es) = ExpScoped d e × ExpsScoped d es

    pub ArgsScoped : List ℕ → Args → Type 0
    ArgsScoped d no_args = ⊤
    ArgsScoped d (arg e es) = ExpScoped d e × ArgsScoped d es
    ArgsScoped d (lend k es) = InScope d k × ArgsScoped d es

    pub RhsScoped : List ℕ → Rhs → Type 0
    RhsScoped d (plain e) = ExpScoped d e
    RhsScoped d (if_else e a b) = ExpScoped d e × BlockScoped d a × BlockScoped d b
    RhsScoped d (match_on e xs) = ExpScoped d e × ArmsScoped d xs
    RhsScoped d (block b) = BlockScoped d b
    RhsScoped d (lendcall f es) = ArgsScoped d es
    RhsScoped d (quest e) = ExpScoped d e
    RhsScoped d (forcf i lo hi b) = ExpScoped d lo × ExpScoped d hi × Listed names i × BlockScoped (i.number ∷ d) b
    -- the value carried along is bound inside the loop, beside its variable
    RhsScoped d (carry how i lo hi first p b) =
        ExpScoped d lo × ExpScoped d hi × ExpScoped d first × Listed names i
        × PatternScoped names p × BlockScoped (i.number ∷ bound p ++ d) b

    pub ArmsScoped : List ℕ → Arms → Type 0
    ArmsScoped d no_arms = ⊤
    ArmsScoped d (arm p b xs) = PatternScoped names p × BlockScoped (bound p ++ d) b × ArmsScoped d xs

    pub StepsScoped : List ℕ → Steps → Type 0
    StepsScoped d here = ⊤
    StepsScoped d (at e steps) = ExpScoped d e × StepsScoped d steps
    StepsScoped d (part i steps) = StepsScoped d steps

    -- what a statement binds lasts to the end of its block
    pub BlockScoped : List ℕ → Block → Type 0
    BlockScoped d (let_in p r b) = RhsScoped d r × PatternScoped names p × BlockScoped (bound p ++ d) b
    BlockScoped d (do_in r b) = RhsScoped d r × BlockScoped d b
    BlockScoped d (set_in k r b) = RhsScoped d r × InScope d k × BlockScoped d b
    BlockScoped d (place_in o k steps r b) = RhsScoped d r × StepsScoped d steps × InScope d k × BlockScoped d b
    BlockScoped d (for_in i lo hi body b) =
        ExpScoped d lo × ExpScoped d hi × Listed names i × BlockScoped (i.number ∷ d) body × BlockScoped d b
    BlockScoped d (ends r) = RhsScoped d r
    BlockScoped d (returns e) = ExpScoped d e
    BlockScoped d (bind z p r b) = RhsScoped d r × PatternScoped names p × BlockScoped (bound p ++ d) b

abbrev mutual
  -- the numbers that the binding places inside a node bind, in the order of the text
  pub places_exp : Exp → List ℕ
  places_exp (var k) = []
  places_exp (lit n) = []
  places_exp (truth b) = []
  places_exp unit = []
  places_exp (const name) = []
  places_exp (tuple es) = places_exps es
  places_exp (list es) = places_exps es
  places_exp (ctor t name es) = places_exps es
  places_exp (op name es) = places_exps es
  places_exp (call f es) = places_exps es
  places_exp (and a b) = places_exp a ++ places_exp b
  places_exp (or a b) = places_exp a ++ places_exp b
  places_exp (in_side r) = places_rhs r
  places_exp (exit e) = places_exp e
  places_exp (cont e) = places_exp e

  pub places_exps : Exps → List ℕ
  places_exps no_exps = []
  places_exps (exp e es) = places_exp e ++ places_exps es

  pub places_args : Args → List ℕ
  places_args no_args = []
  places_args (arg e es) = places_exp e ++ places_args es
  places_args (lend k es) = places_args es

  pub places_rhs : Rhs → List ℕ
  places_rhs (plain e) = places_exp e
  places_rhs (if_else e a b) = places_exp e ++ places_block a ++ places_block b
  places_rhs (match_on e xs) = places_exp e ++ places_arms xs
  places_rhs (block b) = places_block b
  places_rhs (lendcall f es) = places_args es
  places_rhs (quest e) = places_exp e
  places_rhs (forcf i lo hi b) = i.number ∷ places_exp lo ++ places_exp hi ++ places_block b
  places_rhs (carry how i lo hi first p b) =
      i.number ∷ places_exp lo ++ places_exp hi ++ places_exp first ++ bound p ++ places_block b

  pub places_arms : Arms → List ℕ
  places_arms no_arms = []
  places_arms (arm p b xs) = bound p ++ places_block b ++ places_arms xs

  pub places_steps : Steps → List ℕ
  places_steps here = []
  places_steps (at e steps) = places_exp e ++ places_steps steps
  places_steps (part i steps) = places_steps steps

  pub places_block : Block → List ℕ
  places_block (let_in p r b) = bound p ++ places_rhs r ++ places_block b
  places_block (do_in r b) = places_rhs r ++ places_block b
  places_block (set_in k r b) = places_rhs r ++ places_block b
  places_block (place_in o k steps r b) = places_steps steps ++ places_rhs r ++ places_block b
  places_block (for_in i lo hi body b) = i.number ∷ places_exp lo ++ places_exp hi ++ places_block body ++ places_block b
  places_block (ends r) = places_rhs r
  places_block (returns e) = places_exp e
  places_block (bind z p r b) = bound p ++ places_rhs r ++ places_block b

-- the numbers that a function binds, its parameters first
abbrev pub places : Function → List ℕ
places f = map (λ p. p.local.number) f.params ++ places_block f.body
