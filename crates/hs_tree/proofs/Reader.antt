-- Forms, read back.
use Rattle.std.proofs.Common.{◌≡◌, ◌<◌, ℕ, zero, suc, Bool, true, false, ◌&&◌, ltb, List, [], ◌∷◌, ◌++◌, map, length, Option, Some, None, codes, refl, sym, ap, ap₂, subst, ◌∙◌, arith}
use Rattle.std.proofs.lemmas.Bool.Decides.{nat_tests}
use Rattle.std.proofs.lemmas.Slice.Eq.{bytes_eq-Decides}
use Rattle.std.specs.Prelude.{bytes_eq, slice_get, if◌then◌else◌}
use Rattle.std.specs.List.{list_all, AllByRecursion, IsDistinct}
use Rattle.hs_words.specs.declared.kinds.IntTy.{IntTy}
use Rattle.hs_words.specs.declared.kinds.IntTy.TheVariants.{PU8, PU16, PU32, PU64, PU128, PUsize, PI8, PI16, PI32, PI64, PI128, SU8, SU16, SU32, SU64, SU128}
use Rattle.hs_values.specs.declared.types.ValType.{ValType, roll-ValType}
use Rattle.hs_values.specs.declared.types.ValType.TheOpen.{ValType-F}
use Rattle.hs_values.specs.declared.types.ValType.TheOpen as layer
use Rattle.hs_values.specs.declared.types.ValType.TheFolds.{map-ValType, fold-roll-ValType, ind-ValType}
use Rattle.hs_values.specs.declared.types.TypeDef.{TypeDef}
use Rattle.hs_ops.specs.Names.{kind_name}
use Rattle.hs_tree.specs.Plain.{Name, Local, Carrying, turns, turnscf, fold, foldcf, Around, top, inside, Pattern, binds, anything, parts, taken, Patterns, no_patterns, pattern, Exp, var, lit, truth, unit, const, tuple, list, ctor, op, call, and, or, in_side, exit, cont, Exps, no_exps, exp, Args, no_args, arg, lend, Rhs, plain, if_else, match_on, block, lendcall, quest, forcf, carry, Arms, no_arms, arm, Steps, here, at, part, Block, let_in, do_in, set_in, place_in, for_in, ends, returns, bind, Mode, val, ref, mut, Param, Function}
use Rattle.hs_tree.specs.Types.{made_level, well_made}
use Rattle.hs_tree.specs.Text.{Form, word, between, Forms, no_forms, form, named, starred, shown_level, shown_type}
use Rattle.hs_tree.proofs.Numerals.{told_after, whole_told}

-- what a form may be read as
pub record Reading : Type 0 where
  pub as_word : List ℕ
  pub as_type : ValType
  pub as_pattern : Pattern
  pub as_exp : Exp
  pub as_rhs : Rhs
  pub as_block : Block
  pub as_arg : Args → Args
  pub as_arm : Arms → Arms
  pub is_step : Bool
  pub as_step : Steps → Steps
  pub as_rest : Block → Block
  pub as_param : Param
  pub as_params : List Param

-- the kind of a name
abbrev pub kind_in : List ℕ → Option IntTy
kind_in w =
    if bytes_eq w (codes "u8") then Some PU8 else (
    if bytes_eq w (codes "u16") then Some PU16 else (
    if bytes_eq w (codes "u32") then Some PU32 else (
    if bytes_eq w (codes "u64") then Some PU64 else (
    if bytes_eq w (codes "u128") then Some PU128 else (
    if bytes_eq w (codes "usize") then Some PUsize else (
    if bytes_eq w (codes "i8") then Some PI8 else (
    if bytes_eq w (codes "i16") then Some PI16 else (
    if bytes_eq w (codes "i32") then Some PI32 else (
    if bytes_eq w (codes "i64") then Some PI64 else (
    if bytes_eq w (codes "i128") then Some PI128 else (
    if bytes_eq w (codes "s8") then Some SU8 else (
    if bytes_eq w (codes "s16") then Some SU16 else (
    if bytes_eq w (codes "s32") then Some SU32 else (
    if bytes_eq w (codes "s64") then Some SU64 else (
    if bytes_eq w (codes "s128") then Some SU128 else (
    None))))))))))))))))

abbrev pub or_kind : ValType → Option IntTy → ValType
or_kind t None = t
or_kind t (Some k) = roll-ValType (layer.Int k)

-- the place of the type that is called so
abbrev pub place : List ℕ → List TypeDef → ℕ
place w [] = 0
place w (d ∷ ds) = if bytes_eq (codes "t_" ++ d.name) w then 0 else suc (place w ds)

abbrev pub type_named : List TypeDef → List ℕ → ValType
type_named table w =
    if bytes_eq w (codes "unit") then roll-ValType layer.Unit else (
    if bytes_eq w (codes "bool") then roll-ValType layer.Bool else (
    or_kind (roll-ValType (layer.Named (place w table))) (kind_in w)))

abbrev pub word_exp : List ℕ → Exp
word_exp w =
    if bytes_eq w (codes "true") then truth true else (
    if bytes_eq w (codes "false") then truth false else (
    unit))

abbrev pub no_local : Local
no_local = record { name = []; number = 0 }

abbrev pub no_param : Param
no_param = record { mode = val; local = no_local; type = roll-ValType layer.Unit }

-- a word
abbrev pub word_reading : List TypeDef → List ℕ → Reading
word_reading table w =
    record {
      as_word = w;
      as_type = type_named table w;
      as_pattern = anything;
      as_exp = word_exp w;
      as_rhs = plain (word_exp w);
      as_block = ends (plain unit);
      as_arg = arg (word_exp w);
      as_arm = λ xs. xs;
      is_step = false;
      as_step = λ xs. xs;
      as_rest = λ b. ends (plain (word_exp w));
      as_param = no_param;
      as_params = [];
    }

-- the first reading, and those behind it
abbrev pub first : List Reading → Reading
first [] = word_reading [] []
first (r ∷ rs) = r

abbrev pub behind : List Reading → List Reading
behind [] = []
behind (r ∷ rs) = rs

abbrev pub second : List Reading → Reading
second rs = first (behind rs)

abbrev pub third : List Reading → Reading
third rs = first (behind (behind rs))

abbrev pub fourth : List Reading → Reading
fourth rs = first (behind (behind (behind rs)))

-- lists of parts
abbrev pub patterns_in : List Reading → Patterns
patterns_in [] = no_patterns
patterns_in (r ∷ rs) = pattern r.as_pattern (patterns_in rs)

abbrev pub exps_in : List Reading → Exps
exps_in [] = no_exps
exps_in (r ∷ rs) = exp r.as_exp (exps_in rs)

abbrev pub args_in : List Reading → Args
args_in [] = no_args
args_in (r ∷ rs) = r.as_arg (args_in rs)

abbrev pub arms_in : List Reading → Arms
arms_in [] = no_arms
arms_in (r ∷ rs) = r.as_arm (arms_in rs)

abbrev pub steps_in : List Reading → Steps
steps_in [] = here
steps_in (r ∷ rs) = if r.is_step then r.as_step (steps_in rs) else here

abbrev pub end_in : List Reading → Rhs
end_in [] = plain unit
end_in (r ∷ rs) = if r.is_step then end_in rs else r.as_rhs

abbrev pub rest_in : List Reading → Block
rest_in [] = ends (plain unit)
rest_in (r ∷ rs) = r.as_rest (rest_in rs)

-- the types of a tuple's parts behind the first, each behind a star
abbrev pub types_in : List Reading → List ValType
types_in [] = []
types_in (r ∷ []) = []
types_in (r ∷ t ∷ rs) = t.as_type ∷ types_in rs

abbrev pub local_in : List Reading → Local
local_in rs = record { name = (first rs).as_word; number = told_after 0 (second rs).as_word }

abbrev pub kind_or : Option IntTy → IntTy
kind_or None = PU8
kind_or (Some k) = k

-- forms by the word that they begin with, and what stands behind it
abbrev pub type_by : Reading → List Reading → ValType
type_by r rs =
    if bytes_eq r.as_word (codes "q_seq") then roll-ValType (layer.Seq (first rs).as_type) else (
    if bytes_eq r.as_word (codes "option") then roll-ValType (layer.Option (first rs).as_type) else (
    if bytes_eq r.as_word (codes "result") then roll-ValType (layer.Result (first rs).as_type (second rs).as_type) else (
    roll-ValType (layer.Tuple (r.as_type ∷ types_in rs)))))

abbrev pub pattern_by : List ℕ → List Reading → Pattern
pattern_by w rs =
    if bytes_eq w (codes "var") then binds (local_in rs) else (
    if bytes_eq w (codes "tuple") then parts (patterns_in rs) else (
    if bytes_eq w (codes "ctor") then taken (first rs).as_type (second rs).as_word (patterns_in (behind (behind rs))) else (
    anything)))

abbrev pub exp_by : List ℕ → List Reading → Exp
exp_by w rs =
    if bytes_eq w (codes "var") then var (local_in rs) else (
    if bytes_eq w (codes "lit") then lit (record { kind = kind_or (kind_in (first rs).as_word); number = whole_told (second rs).as_word }) else (
    if bytes_eq w (codes "const") then const (first rs).as_word else (
    if bytes_eq w (codes "tuple") then tuple (exps_in rs) else (
    if bytes_eq w (codes "list") then list (exps_in rs) else (
    if bytes_eq w (codes "ctor") then ctor (first rs).as_type (second rs).as_word (exps_in (behind (behind rs))) else (
    if bytes_eq w (codes "op") then op (first rs).as_word (exps_in (behind rs)) else (
    if bytes_eq w (codes "call") then call (first rs).as_word (exps_in (behind rs)) else (
    if bytes_eq w (codes "and") then and (first rs).as_exp (second rs).as_exp else (
    if bytes_eq w (codes "or") then or (first rs).as_exp (second rs).as_exp else (
    if bytes_eq w (codes "in") then in_side (first rs).as_rhs else (
    if bytes_eq w (codes "exit") then exit (first rs).as_exp else (
    if bytes_eq w (codes "cont") then cont (first rs).as_exp else (
    unit)))))))))))))

abbrev pub arg_by : List ℕ → List Reading → Args → Args
arg_by w rs es = if bytes_eq w (codes "lend") then lend (local_in rs) es else arg (exp_by w rs) es

abbrev pub carry_by : Carrying → List Reading → Rhs
carry_by how rs = let more = behind (behind rs) in carry how (local_in rs) (first more).as_exp (second more).as_exp (third more).as_exp (fourth more).as_pattern (first (behind (behind (behind (behind more))))).as_block

abbrev pub rhs_by : List ℕ → List Reading → Rhs
rhs_by w rs =
    if bytes_eq w (codes "if") then if_else (first rs).as_exp (second rs).as_block (third rs).as_block else (
    if bytes_eq w (codes "match") then match_on (first rs).as_exp (arms_in (behind rs)) else (
    if bytes_eq w (codes "block") then block (rest_in rs) else (
    if bytes_eq w (codes "lendcall") then lendcall (first rs).as_word (args_in (behind rs)) else (
    if bytes_eq w (codes "quest") then quest (first rs).as_exp else (
    if bytes_eq w (codes "forcf") then forcf (local_in rs) (third rs).as_exp (fourth rs).as_exp (first (behind (behind (behind (behind rs))))).as_block else (
    if bytes_eq w (codes "turns") then carry_by turns rs else (
    if bytes_eq w (codes "turnscf") then carry_by turnscf rs else (
    if bytes_eq w (codes "fold") then carry_by fold rs else (
    if bytes_eq w (codes "foldcf") then carry_by foldcf rs else (
    plain (exp_by w rs)))))))))))

abbrev pub is_step_word : List ℕ → Bool
is_step_word w = if bytes_eq w (codes "at") then true else bytes_eq w (codes "part")

abbrev pub step_by : List ℕ → List Reading → Steps → Steps
step_by w rs xs = if bytes_eq w (codes "at") then at (first rs).as_exp xs else part (told_after 0 (first rs).as_word) xs

abbrev pub operator_in : List ℕ → Option Name
operator_in w = if bytes_eq w (codes "=") then None else Some w

abbrev pub around_in : List ℕ → Around
around_in w = if bytes_eq w (codes "top") then top else inside

abbrev pub place_by : List Reading → Block → Block
place_by rs b = let more = behind (behind (behind rs)) in place_in (operator_in (first rs).as_word) (local_in (behind rs)) (steps_in more) (end_in more) b

abbrev pub rest_by : List ℕ → List Reading → Block → Block
rest_by w rs b =
    if bytes_eq w (codes "let") then let_in (first rs).as_pattern (second rs).as_rhs b else (
    if bytes_eq w (codes "do") then do_in (first rs).as_rhs b else (
    if bytes_eq w (codes "set") then set_in (local_in rs) (third rs).as_rhs b else (
    if bytes_eq w (codes "place") then place_by rs b else (
    if bytes_eq w (codes "for") then for_in (local_in rs) (third rs).as_exp (fourth rs).as_exp (first (behind (behind (behind (behind rs))))).as_block b else (
    if bytes_eq w (codes "return") then returns (first rs).as_exp else (
    if bytes_eq w (codes "bind") then bind (around_in (first rs).as_word) (second rs).as_pattern (third rs).as_rhs (fourth rs).as_block else (
    ends (rhs_by w rs))))))))

abbrev pub mode_in : List ℕ → Mode
mode_in w = if bytes_eq w (codes "val") then val else (if bytes_eq w (codes "ref") then ref else mut)

abbrev pub param_by : List ℕ → List Reading → Param
param_by w rs = record { mode = mode_in w; local = local_in rs; type = (third rs).as_type }

-- a form of parts
abbrev pub parts_reading : List Reading → Reading
parts_reading [] =
    record {
      as_word = [];
      as_type = roll-ValType (layer.Tuple []);
      as_pattern = anything;
      as_exp = unit;
      as_rhs = plain unit;
      as_block = ends (plain unit);
      as_arg = λ xs. xs;
      as_arm = λ xs. xs;
      is_step = false;
      as_step = λ xs. xs;
      as_rest = λ b. b;
      as_param = no_param;
      as_params = [];
    }
parts_reading (r ∷ rs) =
    record {
      as_word = [];
      as_type = type_by r rs;
      as_pattern = pattern_by r.as_word rs;
      as_exp = exp_by r.as_word rs;
      as_rhs = rhs_by r.as_word rs;
      as_block = rest_in rs;
      as_arg = arg_by r.as_word rs;
      as_arm = arm (first rs).as_pattern (second rs).as_block;
      is_step = is_step_word r.as_word;
      as_step = step_by r.as_word rs;
      as_rest = rest_by r.as_word rs;
      as_param = param_by r.as_word rs;
      as_params = map (λ (x : Reading). x.as_param) (r ∷ rs);
    }

module _ (table : List TypeDef) where
  abbrev mutual
    pub read : Form → Reading
    read (word w) = word_reading table w
    read (between fs) = parts_reading (readings fs)

    pub readings : Forms → List Reading
    readings no_forms = []
    readings (form f fs) = read f ∷ readings fs

  -- a function
  abbrev pub function_in : List Reading → Function
  function_in rs = record { name = (first rs).as_word; params = (second rs).as_params; type = (third rs).as_type; body = (fourth rs).as_block }

  abbrev pub function_read : Form → Function
  function_read (word w) = function_in []
  function_read (between fs) = function_in (behind (readings fs))

-- ---- what is shown is read back

pub kind_back : (k : IntTy) → kind_in (kind_name k) ≡ Some k
kind_back PU8 = refl
kind_back PU16 = refl
kind_back PU32 = refl
kind_back PU64 = refl
kind_back PU128 = refl
kind_back PUsize = refl
kind_back PI8 = refl
kind_back PI16 = refl
kind_back PI32 = refl
kind_back PI64 = refl
kind_back PI128 = refl
kind_back SU8 = refl
kind_back SU16 = refl
kind_back SU32 = refl
kind_back SU64 = refl
kind_back SU128 = refl

kind_type : (table : List TypeDef) (k : IntTy) → type_named table (kind_name k) ≡ roll-ValType (layer.Int k)
kind_type table PU8 = refl
kind_type table PU16 = refl
kind_type table PU32 = refl
kind_type table PU64 = refl
kind_type table PU128 = refl
kind_type table PUsize = refl
kind_type table PI8 = refl
kind_type table PI16 = refl
kind_type table PI32 = refl
kind_type table PI64 = refl
kind_type table PI128 = refl
kind_type table SU8 = refl
kind_type table SU16 = refl
kind_type table SU32 = refl
kind_type table SU64 = refl
kind_type table SU128 = refl

-- whether a word begins no type
abbrev pub HeadsNone : List ℕ → Type 0
HeadsNone w = (bytes_eq w (codes "q_seq") ≡ false) × (bytes_eq w (codes "option") ≡ false) × (bytes_eq w (codes "result") ≡ false)

kind_heads : (k : IntTy) → HeadsNone (kind_name k)
kind_heads PU8 = (refl, refl, refl)
kind_heads PU16 = (refl, refl, refl)
kind_heads PU32 = (refl, refl, refl)
kind_heads PU64 = (refl, refl, refl)
kind_heads PU128 = (refl, refl, refl)
kind_heads PUsize = (refl, refl, refl)
kind_heads PI8 = (refl, refl, refl)
kind_heads PI16 = (refl, refl, refl)
kind_heads PI32 = (refl, refl, refl)
kind_heads PI64 = (refl, refl, refl)
kind_heads PI128 = (refl, refl, refl)
kind_heads SU8 = (refl, refl, refl)
kind_heads SU16 = (refl, refl, refl)
kind_heads SU32 = (refl, refl, refl)
kind_heads SU64 = (refl, refl, refl)
kind_heads SU128 = (refl, refl, refl)

tuple_by : (r : Reading) (rs : List Reading) → HeadsNone r.as_word → type_by r rs ≡ roll-ValType (layer.Tuple (r.as_type ∷ types_in rs))
tuple_by r rs h = rw (h.0, h.1, h.2) refl

same_name : (a b : List ℕ) → a ≡ b → bytes_eq a b ≡ true
same_name a b e = (bytes_eq-Decides a b).1 e

-- a name is found where it stands
apart_from : (x : List ℕ) (ds : List TypeDef) (n : ℕ) (d : TypeDef) → AllByRecursion (λ y. bytes_eq x y ≡ false) (map (λ c. c.name) ds) → slice_get ds n ≡ Some d → bytes_eq x d.name ≡ false
apart_from x [] n d h s = absurd (cc)
apart_from x (c ∷ ds) zero d h s = let e : c ≡ d = cc (s) in subst (λ (y : TypeDef). bytes_eq x y.name ≡ false) e h.0
apart_from x (c ∷ ds) (suc n) d h s = apart_from x ds n d h.1 s

place_back : (ds : List TypeDef) (n : ℕ) (d : TypeDef) → IsDistinct bytes_eq (map (λ c. c.name) ds) → slice_get ds n ≡ Some d → place (codes "t_" ++ d.name) ds ≡ n
unfolding IsDistinct
place_back [] n d h s = absurd (cc)
place_back (c ∷ ds) zero d h s =
    let e : c ≡ d = cc (s) in
    let f : bytes_eq c.name d.name ≡ true = same_name c.name d.name (ap (λ (y : TypeDef). y.name) e) in
    ap (λ (t : Bool). if t then 0 else suc (place (codes "t_" ++ d.name) ds)) f
place_back (c ∷ ds) (suc n) d h s =
    ap (λ (t : Bool). if t then 0 else suc (place (codes "t_" ++ d.name) ds)) (apart_from c.name ds n d h.0 s) ∙ ap suc (place_back ds n d h.1 s)

ltb_less : (n m : ℕ) → ltb n m ≡ true → n < m
ltb_less n m h = grind (arith, nat_tests)

stands : (ds : List TypeDef) (n : ℕ) → n < length ds → (d : TypeDef) × (slice_get ds n ≡ Some d)
stands [] n h = absurd (omega arith)
stands (d ∷ ds) zero h = (d, refl)
stands (d ∷ ds) (suc n) h = stands ds n (omega arith)

both_true : (a b : Bool) → (a && b) ≡ true → (a ≡ true) × (b ≡ true)
both_true true b h = (refl, h)
both_true false b h = absurd (cc)

module _ (source : Bool) (table : List TypeDef) (apart : IsDistinct bytes_eq (map (λ c. c.name) table)) where
  abbrev Fit : ValType → Type 0
  Fit t = well_made source (length table) t ≡ true

  named_heads : (o : Option TypeDef) → HeadsNone (read table (named o)).as_word
  named_heads None = (refl, refl, refl)
  named_heads (Some d) = (refl, refl, refl)

  abbrev Headless : ValType → Type 0
  Headless t = HeadsNone (read table (shown_type table t)).as_word

  abbrev HeadlessType : Type 0
  HeadlessType = (t : ValType) × Headless t

  level_heads : (y : ValType-F HeadlessType) → HeadsNone (read table (shown_level table (map-ValType ValType Form (shown_type table) (map-ValType HeadlessType ValType (λ x. x.0) y)))).as_word
  level_heads layer.Unit = (refl, refl, refl)
  level_heads layer.Bool = (refl, refl, refl)
  level_heads (layer.Int k) = kind_heads k
  level_heads (layer.Seq t) = (refl, refl, refl)
  level_heads (layer.Named n) = named_heads (slice_get table n)
  level_heads (layer.Tuple []) = (refl, refl, refl)
  level_heads (layer.Tuple (t ∷ [])) = (refl, refl, refl)
  level_heads (layer.Tuple (t ∷ u ∷ ts)) = (refl, refl, refl)
  level_heads (layer.Option t) = (refl, refl, refl)
  level_heads (layer.Result t u) = (refl, refl, refl)

  head_level : (y : ValType-F HeadlessType) → Headless (roll-ValType (map-ValType HeadlessType ValType (λ x. x.0) y))
  head_level y =
      subst (λ (f : Form). HeadsNone (read table f).as_word)
      (sym (fold-roll-ValType Form (shown_level table) (map-ValType HeadlessType ValType (λ x. x.0) y))) (level_heads y)

  headless : (t : ValType) → Headless t
  headless = ind-ValType Headless (λ x y is. subst (λ z. Headless (roll-ValType z)) is (head_level y))

  abbrev Back : ValType → Type 0
  Back t = Fit t → (read table (shown_type table t)).as_type ≡ t

  abbrev BackType : Type 0
  BackType = (t : ValType) × Back t

  abbrev within : ValType-F BackType → ValType-F ValType
  within y = map-ValType BackType ValType (λ x. x.0) y

  abbrev types : List BackType → List ValType
  types ts = map (λ (x : BackType). x.0) ts

  abbrev each_fits : List BackType → Bool
  each_fits ts = list_all (λ b. b) (map (well_made source (length table)) (types ts))

  behind_star : (t : BackType) (ts : List BackType) → each_fits (t ∷ ts) ≡ true → types_in (word_reading table (codes "*") ∷ readings table (starred (map (shown_type table) (types (t ∷ ts))))) ≡ types (t ∷ ts)
  behind_star t [] h = ap (λ (x : ValType). x ∷ []) (t.1 (both_true _ _ h).0)
  behind_star t (u ∷ ts) h = let k = both_true _ _ h in ap₂ (λ (x : ValType) (xs : List ValType). x ∷ xs) (t.1 k.0) (behind_star u ts k.1)

  tuple_back : (ts : List BackType) → each_fits ts ≡ true → (read table (between (starred (map (shown_type table) (types ts))))).as_type ≡ roll-ValType (layer.Tuple (types ts))
  tuple_back [] h = refl
  tuple_back (t ∷ []) h = tuple_by (read table (shown_type table t.0)) [] (headless t.0) ∙ ap (λ (x : ValType). roll-ValType (layer.Tuple (x ∷ []))) (t.1 (both_true _ _ h).0)
  tuple_back (t ∷ u ∷ ts) h =
      let k = both_true _ _ h in
      tuple_by (read table (shown_type table t.0)) (word_reading table (codes "*") ∷ readings table (starred (map (shown_type table) (types (u ∷ ts))))) (headless t.0) ∙ ap₂ (λ (x : ValType) (xs : List ValType). roll-ValType (layer.Tuple (x ∷ xs))) (t.1 k.0) (behind_star u ts k.1)

  named_back : (n : ℕ) (o : Option TypeDef) (d : TypeDef) → slice_get table n ≡ Some d → slice_get table n ≡ o → (read table (named o)).as_type ≡ roll-ValType (layer.Named n)
  named_back n None d s e = absurd (cc)
  named_back n (Some c) d s e = ap (λ (k : ℕ). roll-ValType (layer.Named k)) (place_back table n c apart e)

  back_layer : (y : ValType-F BackType) → made_level source (length table) (map-ValType ValType Bool (well_made source (length table)) (within y)) ≡ true
      → (read table (shown_level table (map-ValType ValType Form (shown_type table) (within y)))).as_type ≡ roll-ValType (within y)
  back_layer layer.Unit h = refl
  back_layer layer.Bool h = refl
  back_layer (layer.Int k) h = kind_type table k
  back_layer (layer.Seq t) h = ap (λ (x : ValType). roll-ValType (layer.Seq x)) (t.1 h)
  back_layer (layer.Named n) h = let s = stands table n (ltb_less n (length table) h) in named_back n (slice_get table n) s.0 s.1 refl
  back_layer (layer.Tuple ts) h = tuple_back ts (both_true _ _ h).1
  back_layer (layer.Option t) h = ap (λ (x : ValType). roll-ValType (layer.Option x)) (t.1 h)
  back_layer (layer.Result t u) h = let k = both_true _ _ h in ap₂ (λ (x y : ValType). roll-ValType (layer.Result x y)) (t.1 k.0) (u.1 k.1)

  back_level : (y : ValType-F BackType) → Back (roll-ValType (within y))
  back_level y h =
      ap (λ (f : Form). (read table f).as_type) (fold-roll-ValType Form (shown_level table) (within y))
      ∙ back_layer y (sym (fold-roll-ValType Bool (made_level source (length table)) (within y)) ∙ h)

  pub type_back : (t : ValType) → Back t
  type_back = ind-ValType Back (λ x y is. subst (λ z. Back (roll-ValType z)) is (back_level y))
