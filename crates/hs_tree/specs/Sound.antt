-- Which programs are trees of a stage. The locals' lists of the functions are a second view beside the plain tree.
use Rattle.std.specs.Prelude.{◌≡◌, ℕ, suc, ◌≤◌, Bool, true, false, not, ◌&&◌, eqb, leb, List, [], ◌∷◌, ◌++◌, map, length, Option, Some, None, slice_get, bytes_eq, IsTrue, ⊤, if◌then◌else◌}
use Rattle.std.specs.List.{AllByRecursion, IsDistinct, list_all, list_any}
use Rattle.hs_values.specs.declared.types.ValType.{ValType}
use Rattle.hs_values.specs.declared.types.ValType.TheVariants as variant
use Rattle.hs_values.specs.declared.types.TypeKind.{TypeKind}
use Rattle.hs_values.specs.declared.types.TypeKind.TheVariants.{Array, Ctors}
use Rattle.hs_values.specs.declared.types.TypeDef.{TypeDef}
use Rattle.hs_ops.specs.declared.operation.NumberOp.TheVariants.{Classify}
use Rattle.hs_ops.specs.declared.operation.SingleOp.TheVariants.{Make}
use Rattle.hs_ops.specs.declared.operation.Operation.{Operation}
use Rattle.hs_ops.specs.declared.operation.Operation.TheVariants.{Number, Single}
use Rattle.hs_ops.specs.Standard.{standard_table}
use Rattle.hs_ops.specs.Table.{operation_named}
use Rattle.hs_tree.specs.Plain.{Name, Pattern, binds, anything, parts, taken, Patterns, no_patterns, pattern, Exp, var, lit, truth, unit, const, tuple, list, ctor, op, call, and, or, in_side, exit, cont, Exps, no_exps, exp, Args, Rhs, match_on, lendcall, carry, Arms, no_arms, arm, Block, let_in, for_in, bind, is_lent, Param, Function, Constant, Program}
use Rattle.hs_tree.specs.Types.{few_parts, well_made, height, copied}
use Rattle.hs_tree.specs.Names.{is_name}
use Rattle.hs_tree.specs.Features.{Feature, Place, MutArg, Assign, Stage}
use Rattle.hs_tree.specs.Count.{uses, Weights, mark, named_by, lending, total_exp, total_block}
use Rattle.hs_tree.specs.Call.{modes, lent_at, LocalTypes}
use Rattle.hs_tree.specs.Run.{lent_by}
use Rattle.hs_tree.specs.OpTypes.{Sizes}
use Rattle.hs_tree.specs.Typing.{Value, Known, Signature, count_of, sizes_of, ExpTyped, BlockTyped}
use Rattle.hs_tree.specs.Moves.{Lent, MovesBlock, also}
use Rattle.hs_tree.specs.Scopes.{Locals, Listed, BlockScoped, places}

-- whether a type is well made over the types that have names
abbrev pub made : Bool → List TypeDef → ValType → Bool
made source table t = well_made source (length table) t

-- whether the type of an item or a parameter is well made and of a height of at most 48
abbrev pub type_sound : Bool → List TypeDef → ValType → Bool
type_sound source table t = made source table t && leb (height table t) 48

-- whether the type that a function gives is so; once there are no mutable parameters it may be a tuple of such types
abbrev pub result_sound : Bool → Bool → List TypeDef → ValType → Bool
result_sound source lends table t = made source table t && leb (height table t) (if lends then 48 else 49)

abbrev pub TypeSound : Bool → List TypeDef → ValType → Type 0
TypeSound source table t = IsTrue (type_sound source table t)

-- how many patterns there are
abbrev pub patterns_of : Patterns → ℕ
patterns_of no_patterns = 0
patterns_of (pattern p ps) = suc (patterns_of ps)

-- whether each tuple in a pattern has not too few parts or too many, and each type that stands there is well made
abbrev mutual
  pub pattern_made : Bool → List TypeDef → Pattern → Bool
  pattern_made source table (binds k) = true
  pattern_made source table anything = true
  pattern_made source table (parts ps) = few_parts source (patterns_of ps) && patterns_made source table ps
  pattern_made source table (taken t name ps) = made source table t && patterns_made source table ps

  pub patterns_made : Bool → List TypeDef → Patterns → Bool
  patterns_made source table no_patterns = true
  patterns_made source table (pattern p ps) = pattern_made source table p && patterns_made source table ps

abbrev pub arms_made : Bool → List TypeDef → Arms → Bool
arms_made source table no_arms = true
arms_made source table (arm p b xs) = pattern_made source table p && arms_made source table xs

-- whether each local that arguments lend is named in them once
abbrev pub lent_once : Args → Bool
lent_once es = list_all (λ k. eqb (named_by k es) 1) (lent_by es)

-- whether a node is well made, without the nodes inside it
abbrev pub exp_made : Bool → List TypeDef → Exp → Bool
exp_made source table (tuple es) = few_parts source (count_of es)
exp_made source table (ctor t name es) = made source table t
exp_made source table _ = true

abbrev pub rhs_made : Bool → List TypeDef → Rhs → Bool
rhs_made source table (match_on e xs) = arms_made source table xs
rhs_made source table (lendcall f es) = lent_once es
rhs_made source table (carry how i lo hi first p b) = pattern_made source table p
rhs_made source table _ = true

abbrev pub block_made : Bool → List TypeDef → Block → Bool
block_made source table (let_in p r b) = pattern_made source table p
block_made source table (bind z p r b) = pattern_made source table p
-- a loop's variable is not lent
block_made source table (for_in i lo hi body b) = eqb (total_block (lending i.number) body) 0
block_made source table _ = true

-- one for each node that is not well made
abbrev pub ill_made : Bool → List TypeDef → Weights
ill_made source table =
    record {
      of_exp = λ e. mark (not (exp_made source table e));
      of_rhs = λ r. mark (not (rhs_made source table r));
      of_block = λ b. mark (not (block_made source table b));
    }

-- a declared type: an array has 1 to 65,536 items; another one has a constructor, and names its constructors apart; its parts need
-- earlier types alone
abbrev pub KindSound : Bool → ℕ → TypeKind → Type 0
KindSound source before (Array n t) = (1 ≤ n) × (n ≤ 65536) × IsTrue (well_made source before t)
KindSound source before (Ctors cs) =
    (1 ≤ length cs) × IsDistinct bytes_eq (map (λ c. c.0) cs)
    × AllByRecursion (λ c. IsTrue (is_name c.0) × IsTrue (list_all (well_made source before) c.1)) cs

-- the entries from one on: no part of any is higher than 48, so that itself it has at most 49
abbrev pub TypesSound : Bool → List TypeDef → ℕ → List TypeDef → Type 0
TypesSound source table before [] = ⊤
TypesSound source table before (def ∷ defs) =
    IsTrue (is_name def.name) × KindSound source before def.kind × (height table (variant.Named before) ≤ 49)
    × TypesSound source table (suc before) defs

-- the type of the constant of a name among earlier ones
abbrev pub constant_type : List Constant → Name → Option ValType
constant_type [] name = None
constant_type (c ∷ cs) name = if bytes_eq c.name name then Some c.type else constant_type cs name

-- what is known of a function that is called
abbrev pub signature_of : Function → Signature
signature_of f = record { modes = map (λ p. p.mode) f.params; params = map (λ p. p.type) f.params; type = f.type }

-- the same of the function of a name among earlier ones
abbrev pub signature_in : List Function → Name → Option Signature
signature_in [] name = None
signature_in (f ∷ fs) name = if bytes_eq f.name name then Some (signature_of f) else signature_in fs name

-- an operation of a constant: a new array of a length that is written out, or a public number made secret
abbrev pub is_constant_op : Option Operation → Sizes → Bool
is_constant_op (Some (Single Make)) (x ∷ Some n ∷ []) = leb n 65536
is_constant_op (Some (Number Classify k)) sizes = true
is_constant_op _ sizes = false

-- what a constant is made of: literals, earlier constants, tuples, arrays, constructors and such operations on these
abbrev mutual
  pub is_constant : Exp → Bool
  is_constant (lit n) = true
  is_constant (truth b) = true
  is_constant unit = true
  is_constant (const name) = true
  is_constant (tuple es) = are_constant es
  is_constant (list es) = are_constant es
  is_constant (ctor t name es) = are_constant es
  is_constant (op name es) = is_constant_op (operation_named standard_table name) (sizes_of es) && are_constant es
  is_constant (var k) = false
  is_constant (call f es) = false
  is_constant (and a b) = false
  is_constant (or a b) = false
  is_constant (in_side r) = false
  is_constant (exit e) = false
  is_constant (cont e) = false

  pub are_constant : Exps → Bool
  are_constant no_exps = true
  are_constant (exp e es) = is_constant e && are_constant es

-- what a constant's expression knows
abbrev pub constant_known : Program → List Constant → ValType → Known
constant_known p before t =
    record { table = p.types; constants = constant_type before; functions = λ name. None; locals = λ k. variant.Unit; type = t }

-- constants need earlier ones alone, and each is of its type, which is copied
abbrev pub ConstantsSound : Bool → Program → List Constant → List Constant → Type 0
ConstantsSound source p before [] = ⊤
ConstantsSound source p before (c ∷ cs) =
    IsTrue (is_name c.name) × TypeSound source p.types c.type × IsTrue (copied p.types c.type) × IsTrue (is_constant c.value)
    × (total_exp (ill_made source p.types) c.value ≡ 0)
    × ExpTyped (constant_known p before c.type) c.value (Value c.type)
    × ConstantsSound source p (before ++ c ∷ []) cs

-- what a function's body knows
abbrev pub function_known : Program → List Function → (ℕ → ValType) → Function → Known
function_known p before locals f =
    record { table = p.types; constants = constant_type p.constants; functions = signature_in before; locals = locals; type = f.type }

-- the locals that are parameters and references
abbrev pub references : List Param → ℕ → Bool
references ps k = list_any (λ p. eqb p.local.number k && is_lent p.mode) ps

abbrev pub lent_in : Program → Function → Lent
lent_in p f = record { argument = λ g i. lent_at (slice_get (modes p.functions g) i); reference = references f.params }

-- a function: its name, its parameters and its result; its scopes; its types, by those of its locals; and for a source the conditions
-- on moves, where the parameters hold values at first
pub record FunctionSound (stage : Stage) (p : Program) (before : List Function) (names : Locals) (locals : ℕ → ValType) (f : Function) : Type 0 where
  pub name : IsTrue (is_name f.name)
  pub few : length f.params ≤ 32
  pub types : AllByRecursion (λ x. TypeSound (stage Place) p.types x.type) f.params × IsTrue (result_sound (stage Place) (stage MutArg) p.types f.type)
  pub listed : AllByRecursion (λ x. Listed names x.local) f.params
  pub apart : IsDistinct eqb (map (λ x. x.local.number) f.params)
  pub words : AllByRecursion (λ w. IsTrue (is_name w)) names
  pub made : total_block (ill_made (stage Place) p.types) f.body ≡ 0
  pub scoped : BlockScoped names (map (λ x. x.local.number) f.params) f.body
  pub given : AllByRecursion (λ x. locals x.local.number ≡ x.type) f.params
  pub typed : BlockTyped (function_known p before locals f) f.body (Value f.type)
  pub moves :
      stage Place ≡ true
      → MovesBlock (function_known p before locals f) (lent_in p f) f.body (also (map (λ x. x.local.number) f.params) (λ j. false))

-- functions need earlier ones alone; each has its list of locals, and their types
abbrev pub FunctionsSound : Stage → Program → LocalTypes → List Function → List Function → List Locals → Type 0
FunctionsSound stage p types before [] [] = ⊤
FunctionsSound stage p types before [] (names ∷ lists) = ⊥
FunctionsSound stage p types before (f ∷ fs) [] = ⊥
FunctionsSound stage p types before (f ∷ fs) (names ∷ lists) =
    FunctionSound stage p before names (types f.name) f × FunctionsSound stage p types (before ++ f ∷ []) fs lists

-- the names of the items
abbrev pub item_names : Program → List Name
item_names p = map (λ d. d.name) p.types ++ map (λ c. c.name) p.constants ++ map (λ f. f.name) p.functions

-- a program of a stage, with the lists of its functions' locals and their types
pub record Sound (stage : Stage) (p : Program) (lists : List Locals) (types : LocalTypes) : Type 0 where
  -- it uses no feature that the stage lacks
  pub absent : (f : Feature) → stage f ≡ false → uses f p ≡ 0
  -- no two items share a name, and types, constants and functions are sound, each by earlier ones alone
  pub names : IsDistinct bytes_eq (item_names p)
  pub table : TypesSound (stage Place) p.types 0 p.types
  pub constants : ConstantsSound (stage Place) p [] p.constants
  pub functions : FunctionsSound stage p types [] p.functions lists
  -- while locals are assigned, each is bound at one place
  pub once : stage Assign ≡ true → AllByRecursion (λ f. IsDistinct eqb (places f)) p.functions
