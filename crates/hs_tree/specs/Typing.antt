-- The types of nodes: each node is of a type by those of its parts and by its place.
use Rattle.std.specs.Prelude.{◌≡◌, ℕ, suc, ◌≤◌, Bool, true, false, ◌&&◌, List, [], ◌∷◌, length, Option, Some, None, slice_get, bytes_eq, unsigned_abs, IsTrue, ⊤, if◌then◌else◌}
use Rattle.std.specs.List.{list_any}
use Rattle.hs_words.specs.Arithmetic.{is_in_range}
use Rattle.hs_words.specs.declared.kinds.IntTy.TheVariants.{PUsize}
use Rattle.hs_values.specs.Fits.{ctor_parts}
use Rattle.hs_values.specs.Kinds.{is_kind}
use Rattle.hs_values.specs.declared.types.ValType.{ValType, out-ValType}
use Rattle.hs_values.specs.declared.types.ValType.TheVariants as type
use Rattle.hs_values.specs.declared.types.TypeDef.{TypeDef}
use Rattle.hs_values.specs.declared.value.Sort.{Sort}
use Rattle.hs_tree.specs.Plain.{Name, Carrying, turns, turnscf, fold, foldcf, top, inside, Pattern, binds, anything, parts, taken, Patterns, no_patterns, pattern, Exp, var, lit, truth, unit, const, tuple, list, ctor, op, call, and, or, in_side, exit, cont, Exps, no_exps, exp, Args, no_args, arg, lend, Rhs, plain, if_else, match_on, block, lendcall, quest, forcf, carry, Arms, no_arms, arm, Steps, here, at, part, Block, let_in, do_in, set_in, place_in, for_in, ends, returns, bind, Mode, is_mut}
use Rattle.hs_tree.specs.Match.{ctor_named, ctors_of}
use Rattle.hs_tree.specs.OpTypes.{size, ArrayOf, RowOf, OpTyped}

-- the type of a node: that of a value, or of control values with what their end carries and what they go on with
pub data NodeType : Type 0 where
  Value : ValType → NodeType
  Control : NodeType → NodeType → NodeType

-- what is known of a function that is called: its parameters' modes and types, and the type that it gives
pub record Signature : Type 0 where
  pub modes : List Mode
  pub params : List ValType
  pub type : ValType

-- what is known where a node stands: the types that have names, the earlier constants' and functions' types, the types of the
-- function's locals, and the type that the function gives
pub record Known : Type 0 where
  pub table : List TypeDef
  pub constants : Name → Option ValType
  pub functions : Name → Option Signature
  pub locals : ℕ → ValType
  pub type : ValType

-- the types of the parts of a type's constructor of a name
abbrev pub parts_typed : List TypeDef → ValType → Option (Sort × ℕ) → Option (List ValType)
parts_typed table t None = None
parts_typed table t (Some c) = ctor_parts table (out-ValType t) c.0 c.1

abbrev pub ctor_types : List TypeDef → ValType → Name → Option (List ValType)
ctor_types table t name = parts_typed table t (ctor_named table t name)

abbrev mutual
  -- whether a right side always exits: no value of it is ever given
  pub exits_rhs : Rhs → Bool
  exits_rhs (plain e) = false
  exits_rhs (if_else e a b) = exits_block a && exits_block b
  exits_rhs (match_on e xs) = exits_arms xs
  exits_rhs (block b) = exits_block b
  exits_rhs (lendcall f es) = false
  exits_rhs (quest e) = false
  exits_rhs (forcf i lo hi b) = false
  exits_rhs (carry how i lo hi first p b) = false

  -- the same of each arm
  pub exits_arms : Arms → Bool
  exits_arms no_arms = true
  exits_arms (arm p b xs) = exits_block b && exits_arms xs

  -- the same of a block: its end decides
  pub exits_block : Block → Bool
  exits_block (let_in p r b) = exits_block b
  exits_block (do_in r b) = exits_block b
  exits_block (set_in k r b) = exits_block b
  exits_block (place_in o k steps r b) = exits_block b
  exits_block (for_in i lo hi body b) = exits_block b
  exits_block (ends r) = exits_rhs r
  exits_block (returns e) = true
  exits_block (bind z p r b) = exits_block b

-- the names of a type's constructors
abbrev pub names_of : Option (Sort × List Name) → List Name
names_of None = []
names_of (Some cs) = cs.1

-- the type has one constructor alone
abbrev pub Alone : List TypeDef → ValType → Type 0
Alone table t = length (names_of (ctors_of table t)) ≡ 1

abbrev mutual
  -- a pattern fits each value of the type, and its locals are of the types of what they take; a constructor's type has no other one
  pub PatternTyped : Known → Pattern → ValType → Type 0
  PatternTyped g (binds k) t = g.locals k.number ≡ t
  PatternTyped g anything t = ⊤
  PatternTyped g (parts ps) t = (ts : List ValType) × (t ≡ type.Tuple ts) × PatternsTyped g ps ts
  PatternTyped g (taken owner name ps) t =
      (ts : List ValType) × (t ≡ owner) × (ctor_types g.table t name ≡ Some ts) × Alone g.table t × PatternsTyped g ps ts

  -- patterns, as many as the types
  pub PatternsTyped : Known → Patterns → List ValType → Type 0
  PatternsTyped g no_patterns [] = ⊤
  PatternsTyped g no_patterns (t ∷ ts) = ⊥
  PatternsTyped g (pattern p ps) [] = ⊥
  PatternsTyped g (pattern p ps) (t ∷ ts) = PatternTyped g p t × PatternsTyped g ps ts

-- an arm's pattern: `_`, or a constructor of the type with patterns of its parts' types
abbrev pub ArmTyped : Known → Pattern → ValType → Type 0
ArmTyped g anything t = ⊤
ArmTyped g (taken owner name ps) t =
    (ts : List ValType) × (t ≡ owner) × (ctor_types g.table t name ≡ Some ts) × PatternsTyped g ps ts
ArmTyped g (binds k) t = ⊥
ArmTyped g (parts ps) t = ⊥

-- arms by what they take: the constructors that are left, of which each is taken once, until none is left or `_` takes those that are
abbrev pub without : Name → List Name → List Name
without name [] = []
without name (x ∷ xs) = if bytes_eq x name then xs else x ∷ without name xs

abbrev pub covers : Arms → List Name → Bool
covers no_arms [] = true
covers no_arms (x ∷ xs) = false
covers (arm anything b no_arms) [] = false
covers (arm anything b no_arms) (x ∷ xs) = true
covers (arm anything b (arm p d more)) left = false
covers (arm (taken t name ps) b more) left = list_any (bytes_eq name) left && covers more (without name left)
covers (arm (binds k) b more) left = false
covers (arm (parts ps) b more) left = false

-- `_` alone
abbrev pub takes_all : Arms → Bool
takes_all no_arms = false
takes_all (arm anything b no_arms) = true
takes_all (arm anything b (arm p d more)) = false
takes_all (arm (taken t name ps) b more) = false
takes_all (arm (binds k) b more) = false
takes_all (arm (parts ps) b more) = false

-- arms take each value once: of a type with these constructors, or of one without constructors
abbrev pub covers_all : Arms → List Name → Bool
covers_all xs [] = takes_all xs
covers_all xs (c ∷ cs) = covers xs (c ∷ cs)

-- the numbers of `usize` that are written out among operands
abbrev pub size_of : Exp → Option ℕ
size_of (lit n) = if is_kind n.kind PUsize then Some (unsigned_abs n.number) else None
size_of _ = None

abbrev pub sizes_of : Exps → List (Option ℕ)
sizes_of no_exps = []
sizes_of (exp e es) = size_of e ∷ sizes_of es

-- how many expressions there are
abbrev pub count_of : Exps → ℕ
count_of no_exps = 0
count_of (exp e es) = suc (count_of es)

-- the type of a loop that carries a value of a type along, by its body's
abbrev pub Carried : Carrying → ValType → NodeType → (NodeType → Type 0) → Type 0
Carried turns u t Body = (t ≡ Value u) × Body (Value u)
Carried fold u t Body = (t ≡ Value u) × Body (Value u)
Carried turnscf u t Body = (x : NodeType) × (t ≡ Control x (Value u)) × Body (Control x (Value u))
Carried foldcf u t Body = (x : NodeType) × (t ≡ Control x (Value u)) × Body (Control x (Value u))

-- what is assigned: a value of the old one's type, or one that the operator takes beside the old one
abbrev pub BecomesTyped : List TypeDef → Option Name → ValType → ValType → Type 0
BecomesTyped table None old new = new ≡ old
BecomesTyped table (Some o) old new = OpTyped table o [] (old ∷ new ∷ []) old

abbrev mutual
  -- an expression is of the type
  pub ExpTyped : Known → Exp → NodeType → Type 0
  ExpTyped g (var k) t = t ≡ Value (g.locals k.number)
  ExpTyped g (lit n) t = (t ≡ Value (type.Int n.kind)) × IsTrue (is_in_range n.kind n.number)
  ExpTyped g (truth b) t = t ≡ Value type.Bool
  ExpTyped g unit t = t ≡ Value type.Unit
  ExpTyped g (const name) t = (u : ValType) × (t ≡ Value u) × (g.constants name ≡ Some u)
  ExpTyped g (tuple es) t = (ts : List ValType) × (t ≡ Value (type.Tuple ts)) × ExpsTyped g es ts
  ExpTyped g (list es) t = (u : ValType) × (item : ValType) × (t ≡ Value u) × ArrayOf g.table u (count_of es) item × EachTyped g es item
  ExpTyped g (ctor u name es) t = (ts : List ValType) × (t ≡ Value u) × (ctor_types g.table u name ≡ Some ts) × ExpsTyped g es ts
  ExpTyped g (op name es) t =
      (ts : List ValType) × (u : ValType) × (t ≡ Value u) × OpTyped g.table name (sizes_of es) ts u × ExpsTyped g es ts
  -- no parameter is lent to be changed, for then the call lends
  ExpTyped g (call f es) t =
      (h : Signature) × (g.functions f ≡ Some h) × (t ≡ Value h.type) × (list_any is_mut h.modes ≡ false) × ExpsTyped g es h.params
  ExpTyped g (and a b) t = (t ≡ Value type.Bool) × ExpTyped g a (Value type.Bool) × ExpTyped g b (Value type.Bool)
  ExpTyped g (or a b) t = (t ≡ Value type.Bool) × ExpTyped g a (Value type.Bool) × ExpTyped g b (Value type.Bool)
  ExpTyped g (in_side r) t = (exits_rhs r ≡ false) × RhsTyped g r t
  ExpTyped g (exit e) t = (x : NodeType) × (v : NodeType) × (t ≡ Control x v) × ExpTyped g e x
  ExpTyped g (cont e) t = (x : NodeType) × (v : NodeType) × (t ≡ Control x v) × ExpTyped g e v

  -- expressions, as many as the types
  pub ExpsTyped : Known → Exps → List ValType → Type 0
  ExpsTyped g no_exps [] = ⊤
  ExpsTyped g no_exps (t ∷ ts) = ⊥
  ExpsTyped g (exp e es) [] = ⊥
  ExpsTyped g (exp e es) (t ∷ ts) = ExpTyped g e (Value t) × ExpsTyped g es ts

  -- expressions of one type
  pub EachTyped : Known → Exps → ValType → Type 0
  EachTyped g no_exps t = ⊤
  EachTyped g (exp e es) t = ExpTyped g e (Value t) × EachTyped g es t

  -- arguments of the modes and the types: a local is lent where the parameter is lent to be changed, and there alone
  pub ArgsTyped : Known → Args → List Mode → List ValType → Type 0
  ArgsTyped g no_args [] [] = ⊤
  ArgsTyped g no_args [] (t ∷ ts) = ⊥
  ArgsTyped g no_args (m ∷ ms) ts = ⊥
  ArgsTyped g (arg e es) [] ts = ⊥
  ArgsTyped g (arg e es) (m ∷ ms) [] = ⊥
  ArgsTyped g (arg e es) (m ∷ ms) (t ∷ ts) = (is_mut m ≡ false) × ExpTyped g e (Value t) × ArgsTyped g es ms ts
  ArgsTyped g (lend k es) [] ts = ⊥
  ArgsTyped g (lend k es) (m ∷ ms) [] = ⊥
  ArgsTyped g (lend k es) (m ∷ ms) (t ∷ ts) = (is_mut m ≡ true) × (g.locals k.number ≡ t) × ArgsTyped g es ms ts

  -- a right side
  pub RhsTyped : Known → Rhs → NodeType → Type 0
  RhsTyped g (plain e) t = ExpTyped g e t
  RhsTyped g (if_else e a b) t = ExpTyped g e (Value type.Bool) × BlockTyped g a t × BlockTyped g b t
  RhsTyped g (match_on e xs) t =
      (u : ValType) × ExpTyped g e (Value u) × ArmsTyped g xs u t × IsTrue (covers_all xs (names_of (ctors_of g.table u)))
  RhsTyped g (block b) t = BlockTyped g b t
  RhsTyped g (lendcall f es) t =
      (h : Signature) × (g.functions f ≡ Some h) × (t ≡ Value h.type) × (list_any is_mut h.modes ≡ true) × ArgsTyped g es h.modes h.params
  RhsTyped g (quest e) t =
      (good : ValType) × (bad : ValType) × (other : ValType)
      × (t ≡ Value good) × ExpTyped g e (Value (type.Result good bad)) × (g.type ≡ type.Result other bad)
  RhsTyped g (forcf i lo hi b) t =
      (x : NodeType) × (v : NodeType) × (t ≡ Control x (Value type.Unit)) × (g.locals i.number ≡ size) × ExpTyped g lo (Value size) × ExpTyped g hi (Value size) × BlockTyped g b (Control x v)
  RhsTyped g (carry how i lo hi first p b) t =
      (u : ValType) × (g.locals i.number ≡ size) × ExpTyped g lo (Value size) × ExpTyped g hi (Value size) × ExpTyped g first (Value u) × PatternTyped g p u
      × Carried how u t (BlockTyped g b)

  -- arms, for values of the first type; each that does not exit is of the second
  pub ArmsTyped : Known → Arms → ValType → NodeType → Type 0
  ArmsTyped g no_arms u t = ⊤
  ArmsTyped g (arm p b xs) u t = ArmTyped g p u × BlockTyped g b t × ArmsTyped g xs u t

  -- a way from the first type to the second; a tuple on it has at most 12 parts, as those that operations take
  pub StepsTyped : Known → Steps → ValType → ValType → Type 0
  StepsTyped g here t u = t ≡ u
  StepsTyped g (at e steps) t u = (item : ValType) × RowOf g.table t item × ExpTyped g e (Value size) × StepsTyped g steps item u
  StepsTyped g (part i steps) t u =
      (ts : List ValType) × (x : ValType)
      × (t ≡ type.Tuple ts) × (length ts ≤ 12) × (slice_get ts i ≡ Some x) × StepsTyped g steps x u

  -- a block; nothing follows what always exits, and what always exits is of every type
  pub BlockTyped : Known → Block → NodeType → Type 0
  BlockTyped g (let_in p r b) t =
      (u : ValType) × (exits_rhs r ≡ false) × RhsTyped g r (Value u) × PatternTyped g p u × BlockTyped g b t
  BlockTyped g (do_in r b) t = (u : ValType) × (exits_rhs r ≡ false) × RhsTyped g r (Value u) × BlockTyped g b t
  BlockTyped g (set_in k r b) t = (exits_rhs r ≡ false) × RhsTyped g r (Value (g.locals k.number)) × BlockTyped g b t
  BlockTyped g (place_in o k steps r b) t =
      (old : ValType) × (new : ValType)
      × (exits_rhs r ≡ false) × RhsTyped g r (Value new) × StepsTyped g steps (g.locals k.number) old
      × BecomesTyped g.table o old new × BlockTyped g b t
  BlockTyped g (for_in i lo hi body b) t =
      (g.locals i.number ≡ size) × ExpTyped g lo (Value size) × ExpTyped g hi (Value size) × BlockTyped g body (Value type.Unit) × BlockTyped g b t
  BlockTyped g (ends r) t = RhsTyped g r t
  BlockTyped g (returns e) t = ExpTyped g e (Value g.type)
  BlockTyped g (bind top p r b) t =
      (v : ValType) × (exits_rhs r ≡ false) × RhsTyped g r (Control t (Value v)) × PatternTyped g p v × BlockTyped g b t
  BlockTyped g (bind inside p r b) t =
      (v : ValType) × (x : NodeType) × (w : NodeType)
      × (t ≡ Control x w) × (exits_rhs r ≡ false) × RhsTyped g r (Control x (Value v)) × PatternTyped g p v × BlockTyped g b t
