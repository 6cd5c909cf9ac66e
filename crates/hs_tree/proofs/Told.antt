-- The words of a sound program are words, and its types are those of its table.
use Rattle.std.proofs.Common.{◌≡◌, ℕ, zero, suc, ◌+◌, Bool, true, false, not, ◌&&◌, List, [], ◌∷◌, ◌++◌, map, Option, Some, None, codes, refl, sym, ap, subst, ◌∙◌, arith}
use Rattle.std.proofs.lemmas.Bool.Decides.{nat_tests}
use Rattle.std.proofs.lemmas.Slice.Eq.{bytes_eq-Decides}
use Rattle.std.specs.Prelude.{bytes_eq, nat_lt, slice_get, option_map, IsTrue, if◌then◌else◌, ◌/◌, ◌%◌}
use Rattle.std.specs.List.{list_all, AllByRecursion, IsDistinct}
use Rattle.hs_words.specs.declared.kinds.IntTy.{IntTy}
use Rattle.hs_words.specs.declared.kinds.IntTy.TheVariants.{PU8, PU16, PU32, PU64, PU128, PUsize, PI8, PI16, PI32, PI64, PI128, SU8, SU16, SU32, SU64, SU128}
use Rattle.hs_values.specs.Fits.{kind_at}
use Rattle.hs_values.specs.declared.types.ValType.{ValType, out-ValType}
use Rattle.hs_values.specs.declared.types.ValType.TheVariants as type
use Rattle.hs_values.specs.declared.types.ValType.TheOpen.{ValType-F}
use Rattle.hs_values.specs.declared.types.ValType.TheOpen as layer
use Rattle.hs_values.specs.declared.types.TypeKind.{TypeKind}
use Rattle.hs_values.specs.declared.types.TypeKind.TheVariants.{Array, Ctors}
use Rattle.hs_values.specs.declared.types.TypeDef.{TypeDef}
use Rattle.hs_values.specs.declared.value.Sort.{Sort}
use Rattle.hs_values.specs.declared.value.Sort.TheVariants as sort
use Rattle.hs_ops.specs.declared.operation.NumberOp.{NumberOp}
use Rattle.hs_ops.specs.declared.operation.NumberOp.TheVariants.{Add, Sub, Mul, Div, Rem, Neg, And, Or, Xor, Not, Shl, Shr, Rotl, Rotr, Wadd, Wsub, Wmul, Lt, Le, Gt, Ge, Classify, Declassify, ToLe, ToBe, FromLe, FromBe}
use Rattle.hs_ops.specs.declared.operation.SingleOp.{SingleOp}
use Rattle.hs_ops.specs.declared.operation.SingleOp.TheVariants.{BoolNot, Same, Differ, Item, Set, Len, Make, ListOf, Concat, Push, Slice, Put, NumChunks, GetChunk, SetChunk, ToArray, ToSeq, OptUnwrap, ResUnwrap, OptIsSome, OptIsNone, ResIsOk, ResIsErr, Clone}
use Rattle.hs_ops.specs.declared.operation.Operation.{Operation}
use Rattle.hs_ops.specs.declared.operation.Operation.TheVariants as operation
use Rattle.hs_ops.specs.Names.{kind_name, ending, single_name, digits, name_of}
use Rattle.hs_ops.specs.Standard.{standard_table}
use Rattle.hs_ops.specs.Table.{first_called, operation_named}
use Rattle.hs_tree.specs.Plain.{Name, Local, turns, turnscf, fold, foldcf, top, inside, Pattern, binds, anything, parts, taken, Patterns, no_patterns, pattern, Exp, var, lit, truth, unit, const, tuple, list, ctor, op, call, and, or, in_side, exit, cont, Exps, no_exps, exp, Args, no_args, arg, lend, Rhs, plain, if_else, match_on, block, lendcall, quest, forcf, carry, Arms, no_arms, arm, Steps, here, at, part, Block, let_in, do_in, set_in, place_in, for_in, ends, returns, bind, Mode, Param, Function, Constant, Program}
use Rattle.hs_tree.specs.Features.{Place, Stage}
use Rattle.hs_tree.specs.Names.{is_name}
use Rattle.hs_tree.specs.Types.{well_made}
use Rattle.hs_tree.specs.Match.{later, place_of, names_in, ctors_in, ctor_among, ctor_named, bound}
use Rattle.hs_tree.specs.Count.{mark, total_exp, total_exps, total_args, total_rhs, total_arms, total_steps, total_block}
use Rattle.hs_tree.specs.Call.{LocalTypes}
use Rattle.hs_tree.specs.OpTypes.{size}
use Rattle.hs_tree.specs.Typing.{NodeType, Value, Control, Known, Signature, parts_typed, ctor_types, PatternTyped, PatternsTyped, ArmTyped, BecomesTyped, ExpTyped, ExpsTyped, EachTyped, ArgsTyped, RhsTyped, ArmsTyped, StepsTyped, BlockTyped}
use Rattle.hs_tree.specs.Scopes.{Locals, Listed, locals_of, locals_of_all, ExpScoped, ExpsScoped, ArgsScoped, RhsScoped, ArmsScoped, StepsScoped, BlockScoped}
use Rattle.hs_tree.specs.Sound.{pattern_made, patterns_made, arms_made, ill_made, TypeSound, KindSound, TypesSound, constant_type, ConstantsSound, signature_of, signature_in, function_known, FunctionSound, FunctionsSound, Sound}
use Rattle.hs_tree.specs.Text.{bare_byte, bare, bare_form, shown_function, lines_of, text}
use Rattle.hs_tree.proofs.Forms.{lines_once}
use Rattle.hs_tree.proofs.Reader.{function_read}
use Rattle.hs_tree.proofs.Spelled.{name_bare, kind_bare, all_true, SpelledOperator, SpelledPattern, SpelledPatterns, SpelledExp, SpelledExps, SpelledArgs, SpelledRhs, SpelledArms, SpelledSteps, SpelledBlock, SpelledParam, SpelledFunction, function_bare, function_back}

both_true : (a b : Bool) → (a && b) ≡ true → (a ≡ true) × (b ≡ true)
both_true true b h = (refl, h)
both_true false b h = absurd (cc)

-- ---- the names of operations

abbrev Good : List ℕ → Type 0
Good w = (bare w ≡ true) × (bytes_eq w (codes "=") ≡ false)

all_append : (v w : List ℕ) → list_all bare_byte v ≡ true → list_all bare_byte w ≡ true → list_all bare_byte (v ++ w) ≡ true
all_append [] w h k = k
all_append (b ∷ v) w h k = let t = both_true _ _ h in all_true t.0 (all_append v w t.1 k)

bare_append : (v w : List ℕ) → bare v ≡ true → list_all bare_byte w ≡ true → bare (v ++ w) ≡ true
bare_append [] w h k = absurd (cc)
bare_append (b ∷ v) w h k = all_append (b ∷ v) w h k

bare_bytes : (w : List ℕ) → bare w ≡ true → list_all bare_byte w ≡ true
bare_bytes [] h = absurd (cc)
bare_bytes (b ∷ w) h = h

ending_bare : (o : NumberOp) → list_all bare_byte (ending o) ≡ true
ending_bare Add = refl
ending_bare Sub = refl
ending_bare Mul = refl
ending_bare Div = refl
ending_bare Rem = refl
ending_bare Neg = refl
ending_bare And = refl
ending_bare Or = refl
ending_bare Xor = refl
ending_bare Not = refl
ending_bare Shl = refl
ending_bare Shr = refl
ending_bare Rotl = refl
ending_bare Rotr = refl
ending_bare Wadd = refl
ending_bare Wsub = refl
ending_bare Wmul = refl
ending_bare Lt = refl
ending_bare Le = refl
ending_bare Gt = refl
ending_bare Ge = refl
ending_bare Classify = refl
ending_bare Declassify = refl
ending_bare ToLe = refl
ending_bare ToBe = refl
ending_bare FromLe = refl
ending_bare FromBe = refl

single_good : (o : SingleOp) → Good (single_name o)
single_good BoolNot = (refl, refl)
single_good Same = (refl, refl)
single_good Differ = (refl, refl)
single_good Item = (refl, refl)
single_good Set = (refl, refl)
single_good Len = (refl, refl)
single_good Make = (refl, refl)
single_good ListOf = (refl, refl)
single_good Concat = (refl, refl)
single_good Push = (refl, refl)
single_good Slice = (refl, refl)
single_good Put = (refl, refl)
single_good NumChunks = (refl, refl)
single_good GetChunk = (refl, refl)
single_good SetChunk = (refl, refl)
single_good ToArray = (refl, refl)
single_good ToSeq = (refl, refl)
single_good OptUnwrap = (refl, refl)
single_good ResUnwrap = (refl, refl)
single_good OptIsSome = (refl, refl)
single_good OptIsNone = (refl, refl)
single_good ResIsOk = (refl, refl)
single_good ResIsErr = (refl, refl)
single_good Clone = (refl, refl)

no_sign : (k : IntTy) (w : List ℕ) → bytes_eq (kind_name k ++ w) (codes "=") ≡ false
no_sign PU8 w = refl
no_sign PU16 w = refl
no_sign PU32 w = refl
no_sign PU64 w = refl
no_sign PU128 w = refl
no_sign PUsize w = refl
no_sign PI8 w = refl
no_sign PI16 w = refl
no_sign PI32 w = refl
no_sign PI64 w = refl
no_sign PI128 w = refl
no_sign SU8 w = refl
no_sign SU16 w = refl
no_sign SU32 w = refl
no_sign SU64 w = refl
no_sign SU128 w = refl

digit_bare : (n : ℕ) → bare_byte (48 + n) ≡ true
digit_bare n = grind (arith, nat_tests)

digits_bare : (n : ℕ) → list_all bare_byte (digits n) ≡ true
digits_bare n = go (nat_lt n 10)
  where
    go : (t : Bool) → list_all bare_byte (if t then (48 + n) ∷ [] else ((48 + n / 10) ∷ (48 + n % 10) ∷ [])) ≡ true
    go true = all_true (digit_bare n) refl
    go false = all_true (digit_bare (n / 10)) (all_true (digit_bare (n % 10)) refl)

no_sign_behind : (k : IntTy) (v w : List ℕ) → bytes_eq ((kind_name k ++ v) ++ w) (codes "=") ≡ false
no_sign_behind PU8 v w = refl
no_sign_behind PU16 v w = refl
no_sign_behind PU32 v w = refl
no_sign_behind PU64 v w = refl
no_sign_behind PU128 v w = refl
no_sign_behind PUsize v w = refl
no_sign_behind PI8 v w = refl
no_sign_behind PI16 v w = refl
no_sign_behind PI32 v w = refl
no_sign_behind PI64 v w = refl
no_sign_behind PI128 v w = refl
no_sign_behind SU8 v w = refl
no_sign_behind SU16 v w = refl
no_sign_behind SU32 v w = refl
no_sign_behind SU64 v w = refl
no_sign_behind SU128 v w = refl

op_good : (o : Operation) → Good (name_of o)
op_good (operation.Number o k) = (bare_append (kind_name k) (ending o) (kind_bare k) (ending_bare o), no_sign k (ending o))
op_good (operation.Cast from to) = (
  bare_append (kind_name to ++ codes "_of_") (kind_name from) (bare_append (kind_name to) (codes "_of_") (kind_bare to) refl) (bare_bytes (kind_name from) (kind_bare from)),
  no_sign_behind to (codes "_of_") (kind_name from),
)
op_good (operation.Part n i) =
    (bare_append ((codes "tup" ++ digits n) ++ codes "_") (digits i) (bare_append (codes "tup" ++ digits n) (codes "_") (bare_append (codes "tup") (digits n) refl (digits_bare n)) refl) (digits_bare i), refl)
op_good (operation.SetPart n i) =
    (bare_append ((codes "tup" ++ digits n) ++ codes "_set_") (digits i) (bare_append (codes "tup" ++ digits n) (codes "_set_") (bare_append (codes "tup") (digits n) refl (digits_bare n)) refl) (digits_bare i), refl)
op_good (operation.Single o) = single_good o

called_good : (os : List Operation) (name : Name) (o : Operation) → first_called [] os name ≡ Some o → Good name
called_good [] name o h = absurd (cc)
called_good (x ∷ os) name o h = go (bytes_eq (name_of x) name) refl h (called_good os name o)
  where
    go : (t : Bool) → bytes_eq (name_of x) name ≡ t → (if t then Some x else first_called [] os name) ≡ Some o → (first_called [] os name ≡ Some o → Good name) → Good name
    go true e k more = subst Good ((bytes_eq-Decides (name_of x) name).0 e) (op_good x)
    go false e k more = more k

named_good : (name : Name) (o : Operation) → operation_named standard_table name ≡ Some o → Good name
named_good name o h = called_good standard_table.operations name o h

-- ---- the names of constructors

abbrev Bare : Name → Type 0
Bare w = IsTrue (bare w)

placed_bare : (xs : List Name) (name : Name) (i : ℕ) → AllByRecursion Bare xs → place_of name xs ≡ Some i → Bare name
placed_bare [] name i h e = absurd (cc)
placed_bare (x ∷ xs) name i h e = go (bytes_eq x name) (place_of name xs) refl e (λ j. placed_bare xs name j h.1)
  where
    go : (t : Bool) (o : Option ℕ) → bytes_eq x name ≡ t → (if t then Some 0 else later o) ≡ Some i → ((j : ℕ) → o ≡ Some j → Bare name) → Bare name
    go true o d k more = subst Bare ((bytes_eq-Decides x name).0 d) h.0
    go false None d k more = absurd (cc)
    go false (Some j) d k more = more j refl

among_bare : (xs : List Name) (s : Sort) (name : Name) (c : Sort × ℕ) → AllByRecursion Bare xs → ctor_among name (Some (s, xs)) ≡ Some c → Bare name
among_bare xs s name c h e = go (place_of name xs) refl e
  where
    go : (o : Option ℕ) → place_of name xs ≡ o → option_map (λ (i : ℕ). (s, i)) o ≡ Some c → Bare name
    go None d k = absurd (cc)
    go (Some i) d k = placed_bare xs name i h d

ctors_bare : (source : Bool) (cs : List (Name × List ValType)) (before : ℕ) → AllByRecursion (λ c. IsTrue (is_name c.0) × IsTrue (list_all (well_made source before) c.1)) cs → AllByRecursion Bare (map (λ c. c.0) cs)
ctors_bare source [] before h = tt
ctors_bare source (c ∷ cs) before h = (name_bare c.0 h.0.0, ctors_bare source cs before h.1)

kind_words : (source : Bool) (before : ℕ) (k : TypeKind) → KindSound source before k → AllByRecursion Bare (names_in (Some k))
kind_words source before (Array n t) h = tt
kind_words source before (Ctors cs) h = ctors_bare source cs before h.2

types_words : (source : Bool) (table : List TypeDef) (before : ℕ) (ds : List TypeDef) (n : ℕ) → TypesSound source table before ds → AllByRecursion Bare (names_in (kind_at ds n))
types_words source table before [] n h = tt
types_words source table before (d ∷ ds) zero h = kind_words source before d.kind h.1
types_words source table before (d ∷ ds) (suc n) h = types_words source table (suc before) ds n h.3

table_words : (source : Bool) (table : List TypeDef) (before : ℕ) (ds : List TypeDef) → TypesSound source table before ds → AllByRecursion (λ d. IsTrue (bare d.name)) ds
table_words source table before [] h = tt
table_words source table before (d ∷ ds) h = (name_bare d.name h.0, table_words source table (suc before) ds h.3)

module _ (source : Bool) (table : List TypeDef) (sound : TypesSound source table 0 table) where
  layer_bare : (y : ValType-F ValType) (name : Name) (c : Sort × ℕ) → ctor_among name (ctors_in table y) ≡ Some c → Bare name
  layer_bare layer.Unit name c h = absurd (cc)
  layer_bare layer.Bool name c h = absurd (cc)
  layer_bare (layer.Int k) name c h = absurd (cc)
  layer_bare (layer.Seq t) name c h = absurd (cc)
  layer_bare (layer.Named n) name c h = among_bare (names_in (kind_at table n)) (sort.Named n) name c (types_words source table 0 table n sound) h
  layer_bare (layer.Tuple ts) name c h = absurd (cc)
  layer_bare (layer.Option t) name c h = among_bare (codes "None" ∷ codes "Some" ∷ []) sort.Option name c (refl, (refl, tt)) h
  layer_bare (layer.Result t u) name c h = among_bare (codes "Ok" ∷ codes "Err" ∷ []) sort.Result name c (refl, (refl, tt)) h

  ctor_bare : (t : ValType) (name : Name) (ts : List ValType) → ctor_types table t name ≡ Some ts → Bare name
  ctor_bare t name ts h = go (ctor_named table t name) refl h
    where
      go : (o : Option (Sort × ℕ)) → ctor_named table t name ≡ o → parts_typed table t o ≡ Some ts → Bare name
      go None e k = absurd (cc)
      go (Some c) e k = layer_bare (out-ValType t) name c e

-- ---- nodes

made_of : (b : Bool) (n : ℕ) → mark (not b) + n ≡ 0 → b ≡ true
made_of true n h = refl
made_of false n h = absurd (omega arith)

listed_bare : (ns : List Name) (i : ℕ) (w : Name) → AllByRecursion (λ x. IsTrue (is_name x)) ns → slice_get ns i ≡ Some w → Bare w
listed_bare [] i w h e = absurd (cc)
listed_bare (x ∷ ns) zero w h e = let d : x ≡ w = cc (e) in subst Bare d (name_bare x h.0)
listed_bare (x ∷ ns) (suc i) w h e = listed_bare ns i w h.1 e

module _ (P : Local → Type 0) where
  all_left : (xs ys : List Local) → AllByRecursion P (xs ++ ys) → AllByRecursion P xs
  all_left [] ys h = tt
  all_left (x ∷ xs) ys h = (h.0, all_left xs ys h.1)

  all_right : (xs ys : List Local) → AllByRecursion P (xs ++ ys) → AllByRecursion P ys
  all_right [] ys h = h
  all_right (x ∷ xs) ys h = all_right xs ys h.1

module _ (source : Bool) (g : Known) (names : Locals)
    (sound : TypesSound source g.table 0 g.table)
    (words : AllByRecursion (λ w. IsTrue (is_name w)) names)
    (constants : (name : Name) (u : ValType) → g.constants name ≡ Some u → Bare name)
    (functions : (name : Name) (h : Signature) → g.functions name ≡ Some h → Bare name)
  where
    local_word : (k : Local) → Listed names k → Bare k.name
    local_word k h = listed_bare names k.number k.name words h

    constructor : (t : ValType) (name : Name) (ts : List ValType) → ctor_types g.table t name ≡ Some ts → Bare name
    constructor = ctor_bare source g.table sound

    mutual
      pattern_spelled : (p : Pattern) (t : ValType) → PatternTyped g p t → pattern_made source g.table p ≡ true → AllByRecursion (Listed names) (locals_of p) → SpelledPattern source g.table p
      pattern_spelled (binds k) t h m s = local_word k s.0
      pattern_spelled anything t h m s = tt
      pattern_spelled (parts ps) t h m s = patterns_spelled ps h.0 h.2 (both_true _ _ m).1 s
      pattern_spelled (taken u name ps) t h m s = let n = both_true _ _ m in (n.0, constructor t name h.0 h.2, patterns_spelled ps h.0 h.4 n.1 s)

      patterns_spelled : (ps : Patterns) (ts : List ValType) → PatternsTyped g ps ts → patterns_made source g.table ps ≡ true → AllByRecursion (Listed names) (locals_of_all ps) → SpelledPatterns source g.table ps
      patterns_spelled no_patterns ts h m s = tt
      patterns_spelled (pattern p ps) [] h m s = absurd h
      patterns_spelled (pattern p ps) (t ∷ ts) h m s =
          let n = both_true _ _ m in
          (pattern_spelled p t h.0 n.0 (all_left (Listed names) (locals_of p) (locals_of_all ps) s), patterns_spelled ps ts h.1 n.1 (all_right (Listed names) (locals_of p) (locals_of_all ps) s))

    arm_spelled : (p : Pattern) (t : ValType) → ArmTyped g p t → pattern_made source g.table p ≡ true → AllByRecursion (Listed names) (locals_of p) → SpelledPattern source g.table p
    arm_spelled (binds k) t h m s = absurd h
    arm_spelled anything t h m s = tt
    arm_spelled (parts ps) t h m s = absurd h
    arm_spelled (taken u name ps) t h m s = let n = both_true _ _ m in (n.0, constructor t name h.0 h.2, patterns_spelled ps h.0 h.3 n.1 s)

    operator_spelled : (o : Option Name) (old new : ValType) → BecomesTyped g.table o old new → SpelledOperator source g.table o
    operator_spelled None old new h = tt
    operator_spelled (Some o) old new h = named_good o h.0 h.1

    mutual
      exp_spelled : (e : Exp) (t : NodeType) (d : List ℕ) → ExpTyped g e t → total_exp (ill_made source g.table) e ≡ 0 → ExpScoped names d e → SpelledExp source g.table e
      exp_spelled (var k) t d h m s = local_word k s.0
      exp_spelled (lit n) t d h m s = tt
      exp_spelled (truth b) t d h m s = tt
      exp_spelled unit t d h m s = tt
      exp_spelled (const name) t d h m s = constants name h.0 h.2
      exp_spelled (tuple es) t d h m s = exps_spelled es h.0 d h.2 (omega arith) s
      exp_spelled (list es) t d h m s = each_spelled es h.1 d h.4 (omega arith) s
      exp_spelled (ctor u name es) t d h m s = (made_of _ _ m, constructor u name h.0 h.2, exps_spelled es h.0 d h.3 (omega arith) s)
      exp_spelled (op name es) t d h m s = ((named_good name h.3.0 h.3.1).0, exps_spelled es h.0 d h.4 (omega arith) s)
      exp_spelled (call f es) t d h m s = (functions f h.0 h.1, exps_spelled es h.0.params d h.4 (omega arith) s)
      exp_spelled (and a b) t d h m s = (exp_spelled a (Value type.Bool) d h.1 (omega arith) s.0, exp_spelled b (Value type.Bool) d h.2 (omega arith) s.1)
      exp_spelled (or a b) t d h m s = (exp_spelled a (Value type.Bool) d h.1 (omega arith) s.0, exp_spelled b (Value type.Bool) d h.2 (omega arith) s.1)
      exp_spelled (in_side r) t d h m s = rhs_spelled r t d h.1 (omega arith) s
      exp_spelled (exit e) t d h m s = exp_spelled e h.0 d h.3 (omega arith) s
      exp_spelled (cont e) t d h m s = exp_spelled e h.1 d h.3 (omega arith) s

      exps_spelled : (es : Exps) (ts : List ValType) (d : List ℕ) → ExpsTyped g es ts → total_exps (ill_made source g.table) es ≡ 0 → ExpsScoped names d es → SpelledExps source g.table es
      exps_spelled no_exps ts d h m s = tt
      exps_spelled (exp e es) [] d h m s = absurd h
      exps_spelled (exp e es) (t ∷ ts) d h m s = (exp_spelled e (Value t) d h.0 (omega arith) s.0, exps_spelled es ts d h.1 (omega arith) s.1)

      each_spelled : (es : Exps) (t : ValType) (d : List ℕ) → EachTyped g es t → total_exps (ill_made source g.table) es ≡ 0 → ExpsScoped names d es → SpelledExps source g.table es
      each_spelled no_exps t d h m s = tt
      each_spelled (exp e es) t d h m s = (exp_spelled e (Value t) d h.0 (omega arith) s.0, each_spelled es t d h.1 (omega arith) s.1)

      args_spelled : (es : Args) (ms : List Mode) (ts : List ValType) (d : List ℕ) → ArgsTyped g es ms ts → total_args (ill_made source g.table) es ≡ 0 → ArgsScoped names d es → SpelledArgs source g.table es
      args_spelled no_args ms ts d h m s = tt
      args_spelled (arg e es) [] ts d h m s = absurd h
      args_spelled (arg e es) (x ∷ ms) [] d h m s = absurd h
      args_spelled (arg e es) (x ∷ ms) (t ∷ ts) d h m s = (exp_spelled e (Value t) d h.1 (omega arith) s.0, args_spelled es ms ts d h.2 (omega arith) s.1)
      args_spelled (lend k es) [] ts d h m s = absurd h
      args_spelled (lend k es) (x ∷ ms) [] d h m s = absurd h
      args_spelled (lend k es) (x ∷ ms) (t ∷ ts) d h m s = (local_word k s.0.0, args_spelled es ms ts d h.2 m s.1)

      rhs_spelled : (r : Rhs) (t : NodeType) (d : List ℕ) → RhsTyped g r t → total_rhs (ill_made source g.table) r ≡ 0 → RhsScoped names d r → SpelledRhs source g.table r
      rhs_spelled (plain e) t d h m s = exp_spelled e t d h (omega arith) s
      rhs_spelled (if_else e a b) t d h m s =
          (exp_spelled e (Value type.Bool) d h.0 (omega arith) s.0, rest_spelled a t d h.1 (omega arith) s.1, rest_spelled b t d h.2 (omega arith) s.2)
      rhs_spelled (match_on e xs) t d h m s =
          (exp_spelled e (Value h.0) d h.1 (omega arith) s.0, arms_spelled xs h.0 t d h.2 (made_of _ _ m) (omega arith) s.1)
      rhs_spelled (block b) t d h m s = rest_spelled b t d h (omega arith) s
      rhs_spelled (lendcall f es) t d h m s = (functions f h.0 h.1, args_spelled es h.0.modes h.0.params d h.4 (omega arith) s)
      rhs_spelled (quest e) t d h m s = exp_spelled e (Value (type.Result h.0 h.1)) d h.4 (omega arith) s
      rhs_spelled (forcf i lo hi b) t d h m s =
          (local_word i s.2, exp_spelled lo (Value size) d h.4 (omega arith) s.0, exp_spelled hi (Value size) d h.5 (omega arith) s.1, rest_spelled b (Control h.0 h.1) (i.number ∷ d) h.6 (omega arith) s.3)
      rhs_spelled (carry turns i lo hi e p b) t d h m s = (
        local_word i s.3,
        exp_spelled lo (Value size) d h.2 (omega arith) s.0,
        exp_spelled hi (Value size) d h.3 (omega arith) s.1,
        exp_spelled e (Value h.0) d h.4 (omega arith) s.2,
        pattern_spelled p h.0 h.5 (made_of _ _ m) s.4.0,
        rest_spelled b (Value h.0) (i.number ∷ bound p ++ d) h.6.1 (omega arith) s.5,
      )
      rhs_spelled (carry fold i lo hi e p b) t d h m s = (
        local_word i s.3,
        exp_spelled lo (Value size) d h.2 (omega arith) s.0,
        exp_spelled hi (Value size) d h.3 (omega arith) s.1,
        exp_spelled e (Value h.0) d h.4 (omega arith) s.2,
        pattern_spelled p h.0 h.5 (made_of _ _ m) s.4.0,
        rest_spelled b (Value h.0) (i.number ∷ bound p ++ d) h.6.1 (omega arith) s.5,
      )
      rhs_spelled (carry turnscf i lo hi e p b) t d h m s = (
        local_word i s.3,
        exp_spelled lo (Value size) d h.2 (omega arith) s.0,
        exp_spelled hi (Value size) d h.3 (omega arith) s.1,
        exp_spelled e (Value h.0) d h.4 (omega arith) s.2,
        pattern_spelled p h.0 h.5 (made_of _ _ m) s.4.0,
        rest_spelled b (Control h.6.0 (Value h.0)) (i.number ∷ bound p ++ d) h.6.2 (omega arith) s.5,
      )
      rhs_spelled (carry foldcf i lo hi e p b) t d h m s = (
        local_word i s.3,
        exp_spelled lo (Value size) d h.2 (omega arith) s.0,
        exp_spelled hi (Value size) d h.3 (omega arith) s.1,
        exp_spelled e (Value h.0) d h.4 (omega arith) s.2,
        pattern_spelled p h.0 h.5 (made_of _ _ m) s.4.0,
        rest_spelled b (Control h.6.0 (Value h.0)) (i.number ∷ bound p ++ d) h.6.2 (omega arith) s.5,
      )

      arms_spelled : (xs : Arms) (u : ValType) (t : NodeType) (d : List ℕ) → ArmsTyped g xs u t → arms_made source g.table xs ≡ true → total_arms (ill_made source g.table) xs ≡ 0 → ArmsScoped names d xs → SpelledArms source g.table xs
      arms_spelled no_arms u t d h k m s = tt
      arms_spelled (arm p b xs) u t d h k m s =
          let n = both_true _ _ k in
          (arm_spelled p u h.0 n.0 s.0.0, rest_spelled b t (bound p ++ d) h.1 (omega arith) s.1, arms_spelled xs u t d h.2 n.1 (omega arith) s.2)

      steps_spelled : (xs : Steps) (t u : ValType) (d : List ℕ) → StepsTyped g xs t u → total_steps (ill_made source g.table) xs ≡ 0 → StepsScoped names d xs → SpelledSteps source g.table xs
      steps_spelled here t u d h m s = tt
      steps_spelled (at e xs) t u d h m s = (exp_spelled e (Value size) d h.2 (omega arith) s.0, steps_spelled xs h.0 u d h.3 (omega arith) s.1)
      steps_spelled (part i xs) t u d h m s = steps_spelled xs h.1 u d h.5 m s

      rest_spelled : (b : Block) (t : NodeType) (d : List ℕ) → BlockTyped g b t → total_block (ill_made source g.table) b ≡ 0 → BlockScoped names d b → SpelledBlock source g.table b
      rest_spelled (let_in p r b) t d h m s =
          (pattern_spelled p h.0 h.3 (made_of _ _ m) s.1.0, rhs_spelled r (Value h.0) d h.2 (omega arith) s.0, rest_spelled b t (bound p ++ d) h.4 (omega arith) s.2)
      rest_spelled (do_in r b) t d h m s = (rhs_spelled r (Value h.0) d h.2 (omega arith) s.0, rest_spelled b t d h.3 (omega arith) s.1)
      rest_spelled (set_in k r b) t d h m s = (local_word k s.1.0, rhs_spelled r (Value (g.locals k.number)) d h.1 (omega arith) s.0, rest_spelled b t d h.2 (omega arith) s.2)
      rest_spelled (place_in o k xs r b) t d h m s = (
        operator_spelled o h.0 h.1 h.5,
        local_word k s.2.0,
        steps_spelled xs (g.locals k.number) h.0 d h.4 (omega arith) s.1,
        rhs_spelled r (Value h.1) d h.3 (omega arith) s.0,
        rest_spelled b t d h.6 (omega arith) s.3,
      )
      rest_spelled (for_in i lo hi body b) t d h m s = (
        local_word i s.2,
        exp_spelled lo (Value size) d h.1 (omega arith) s.0,
        exp_spelled hi (Value size) d h.2 (omega arith) s.1,
        rest_spelled body (Value type.Unit) (i.number ∷ d) h.3 (omega arith) s.3,
        rest_spelled b t d h.4 (omega arith) s.4,
      )
      rest_spelled (ends r) t d h m s = rhs_spelled r t d h (omega arith) s
      rest_spelled (returns e) t d h m s = exp_spelled e (Value g.type) d h (omega arith) s
      rest_spelled (bind top p r b) t d h m s =
          (pattern_spelled p h.0 h.3 (made_of _ _ m) s.1.0, rhs_spelled r (Control t (Value h.0)) d h.2 (omega arith) s.0, rest_spelled b t (bound p ++ d) h.4 (omega arith) s.2)
      rest_spelled (bind inside p r b) t d h m s =
          (pattern_spelled p h.0 h.6 (made_of _ _ m) s.1.0, rhs_spelled r (Control h.1 (Value h.0)) d h.5 (omega arith) s.0, rest_spelled b t (bound p ++ d) h.7 (omega arith) s.2)

-- ---- programs

earlier_words : (source : Bool) (p : Program) (before cs : List Constant) (name : Name) (u : ValType) → ConstantsSound source p before cs → constant_type cs name ≡ Some u → Bare name
earlier_words source p before [] name u h e = absurd (cc)
earlier_words source p before (c ∷ cs) name u h e = go (bytes_eq c.name name) refl e (earlier_words source p (before ++ c ∷ []) cs name u h.6)
  where
    go : (t : Bool) → bytes_eq c.name name ≡ t → (if t then Some c.type else constant_type cs name) ≡ Some u → (constant_type cs name ≡ Some u → Bare name) → Bare name
    go true d k more = subst Bare ((bytes_eq-Decides c.name name).0 d) (name_bare c.name h.0)
    go false d k more = more k

abbrev Words : List Function → Type 0
Words fs = AllByRecursion (λ f. IsTrue (is_name f.name)) fs

function_words : (before : List Function) (name : Name) (s : Signature) → Words before → signature_in before name ≡ Some s → Bare name
function_words [] name s h e = absurd (cc)
function_words (f ∷ fs) name s h e = go (bytes_eq f.name name) refl e (function_words fs name s h.1)
  where
    go : (t : Bool) → bytes_eq f.name name ≡ t → (if t then Some (signature_of f) else signature_in fs name) ≡ Some s → (signature_in fs name ≡ Some s → Bare name) → Bare name
    go true d k more = subst Bare ((bytes_eq-Decides f.name name).0 d) (name_bare f.name h.0)
    go false d k more = more k

one_more : (before : List Function) (f : Function) → Words before → IsTrue (is_name f.name) → Words (before ++ f ∷ [])
one_more [] f h k = (k, tt)
one_more (g ∷ before) f h k = (h.0, one_more before f h.1 k)

params_spelled : (source : Bool) (table : List TypeDef) (names : Locals) (ps : List Param) → AllByRecursion (λ w. IsTrue (is_name w)) names → AllByRecursion (λ x. TypeSound source table x.type) ps → AllByRecursion (λ x. Listed names x.local) ps → AllByRecursion (SpelledParam source table) ps
params_spelled source table names [] w h l = tt
params_spelled source table names (p ∷ ps) w h l =
    ((listed_bare names p.local.number p.local.name w l.0, (both_true _ _ h.0).0), params_spelled source table names ps w h.1 l.1)

module _ (stage : Stage) (p : Program) (types : LocalTypes)
    (sound : TypesSound (stage Place) p.types 0 p.types)
    (constants : ConstantsSound (stage Place) p [] p.constants)
  where
    function_spelled : (before : List Function) (names : Locals) (f : Function) → Words before → FunctionSound stage p before names (types f.name) f → SpelledFunction (stage Place) p.types f
    function_spelled before names f w h =
        record {
          name = name_bare f.name h.name;
          params = params_spelled (stage Place) p.types names f.params h.words h.types.0 h.listed;
          type = (both_true _ _ h.types.1).0;
          body =
              rest_spelled (stage Place) (function_known p before (types f.name) f) names sound h.words
              (λ name u e. earlier_words (stage Place) p [] p.constants name u constants e)
              (λ name s e. function_words before name s w e)
              f.body (Value f.type) (map (λ (x : Param). x.local.number) f.params) h.typed h.made h.scoped;
        }

    functions_spelled : (before fs : List Function) (lists : List Locals) → Words before → FunctionsSound stage p types before fs lists → AllByRecursion (SpelledFunction (stage Place) p.types) fs
    functions_spelled before [] lists w h = tt
    functions_spelled before (f ∷ fs) [] w h = absurd h
    functions_spelled before (f ∷ fs) (names ∷ lists) w h =
        (function_spelled before names f w h.0, functions_spelled (before ++ f ∷ []) fs lists (one_more before f w h.0.name) h.1)

distinct_left : (xs ys : List Name) → IsDistinct bytes_eq (xs ++ ys) → IsDistinct bytes_eq xs
unfolding IsDistinct
distinct_left [] ys h = tt
distinct_left (x ∷ xs) ys h = (go xs h.0, distinct_left xs ys h.1)
  where
    go : (zs : List Name) → AllByRecursion (λ y. bytes_eq x y ≡ false) (zs ++ ys) → AllByRecursion (λ y. bytes_eq x y ≡ false) zs
    go [] k = tt
    go (z ∷ zs) k = (k.0, go zs k.1)

module _ (source : Bool) (table : List TypeDef) where
  lines_bare : (fs : List Function) → AllByRecursion (λ d. IsTrue (bare d.name)) table → AllByRecursion (SpelledFunction source table) fs → list_all bare_form (map (shown_function table) fs) ≡ true
  lines_bare [] w h = refl
  lines_bare (f ∷ fs) w h = all_true (function_bare source table w f h.0) (lines_bare fs w h.1)

  lines_back : (fs : List Function) → IsDistinct bytes_eq (map (λ d. d.name) table) → AllByRecursion (SpelledFunction source table) fs → map (function_read table) (map (shown_function table) fs) ≡ fs
  lines_back [] a h = refl
  lines_back (f ∷ fs) a h = λ i. function_back source table a f h.0 i ∷ lines_back fs a h.1 i

module _ (s : Stage) (p : Program) (ls : List Locals) (ts : LocalTypes) (h : Sound s p ls ts) where
  abbrev lines : List Function → List ℕ
  lines fs = lines_of (map (shown_function p.types) fs)

  own : AllByRecursion (SpelledFunction (s Place) p.types) p.functions
  own = functions_spelled s p ts h.table h.constants [] p.functions ls tt h.functions

  own_bare : list_all bare_form (map (shown_function p.types) p.functions) ≡ true
  own_bare = lines_bare (s Place) p.types p.functions (table_words (s Place) p.types 0 p.types h.table) own

  own_back : map (function_read p.types) (map (shown_function p.types) p.functions) ≡ p.functions
  own_back = lines_back (s Place) p.types p.functions (distinct_left (map (λ (d : TypeDef). d.name) p.types) (map (λ (c : Constant). c.name) p.constants)
      (distinct_left (map (λ (d : TypeDef). d.name) p.types ++ map (λ (c : Constant). c.name) p.constants) (map (λ (f : Function). f.name) p.functions) h.names)) own

-- the text of a sound program tells its functions
pub texts_tell : (s t : Stage) (p q : Program) (ls ms : List Locals) (ts us : LocalTypes) → Sound s p ls ts → Sound t q ms us → p.types ≡ q.types → p.constants ≡ q.constants → text p ≡ text q → p ≡ q
texts_tell s t p q ls ms ts us h k e c x =
    let forms = lines_once (map (shown_function p.types) p.functions) (map (shown_function q.types) q.functions) (own_bare s p ls ts h) (own_bare t q ms us k) x in
    let same : p.functions ≡ q.functions =
    sym (own_back s p ls ts h) ∙ ap (map (function_read p.types)) forms
    ∙ ap (λ table. map (function_read table) (map (shown_function q.types) q.functions)) e ∙ own_back t q ms us k in
    λ i. record { types = e i; constants = c i; functions = same i }
