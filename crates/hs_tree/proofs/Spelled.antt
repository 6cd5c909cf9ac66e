-- Trees whose words are words and whose types are those of a table: their forms are read back, and each word of a form is one.
use Rattle.std.proofs.Common.{◌≡◌, ℕ, zero, suc, Bool, true, false, ◌&&◌, List, [], ◌∷◌, map, length, Option, Some, None, codes, refl, ap, ap₂, subst, ◌∙◌, arith}
use Rattle.std.proofs.lemmas.Bool.Decides.{nat_tests}
use Rattle.std.specs.Prelude.{bytes_eq, slice_get, IsTrue, ⊤, if◌then◌else◌}
use Rattle.std.specs.List.{list_all, AllByRecursion, IsDistinct}
use Rattle.hs_words.specs.declared.kinds.IntTy.{IntTy}
use Rattle.hs_words.specs.declared.kinds.IntTy.TheVariants.{PU8, PU16, PU32, PU64, PU128, PUsize, PI8, PI16, PI32, PI64, PI128, SU8, SU16, SU32, SU64, SU128}
use Rattle.hs_values.specs.declared.types.ValType.{ValType, roll-ValType}
use Rattle.hs_values.specs.declared.types.ValType.TheOpen.{ValType-F}
use Rattle.hs_values.specs.declared.types.ValType.TheOpen as layer
use Rattle.hs_values.specs.declared.types.ValType.TheFolds.{map-ValType, fold-roll-ValType, ind-ValType}
use Rattle.hs_values.specs.declared.types.TypeDef.{TypeDef}
use Rattle.hs_ops.specs.Names.{kind_name}
use Rattle.hs_tree.specs.Plain.{Name, Local, Carrying, turns, turnscf, fold, foldcf, Around, top, inside, Pattern, binds, anything, parts, taken, Patterns, no_patterns, pattern, Exp, var, lit, truth, unit, const, tuple, list, ctor, op, call, and, or, in_side, exit, cont, Exps, no_exps, exp, Args, no_args, arg, lend, Rhs, plain, if_else, match_on, block, lendcall, quest, forcf, carry, Arms, no_arms, arm, Steps, here, at, part, Block, let_in, do_in, set_in, place_in, for_in, ends, returns, bind, Mode, val, ref, mut, Param, Function}
use Rattle.hs_tree.specs.Names.{is_letter, is_word_byte, is_word, is_name}
use Rattle.hs_tree.specs.Types.{well_made}
use Rattle.hs_tree.specs.Text.{Form, between, formed, one, numeral, bare_byte, bare, bare_form, bare_forms, named, starred, shown_level, shown_type, shown_local, shown_truth, carrying_word, around_word, operator, shown_pattern, shown_patterns, shown_exp, shown_exps, shown_args, shown_rhs, shown_arms, shown_steps, shown_rest, mode_word, shown_params, shown_function}
use Rattle.hs_tree.proofs.Numerals.{told_after, numeral_told, numeral_bare, digits_bare, digits_told}
use Rattle.hs_tree.proofs.Reader.{Reading, kind_or, kind_back, patterns_in, exps_in, args_in, arms_in, steps_in, end_in, rest_in, operator_in, read, readings, function_read, type_back}

-- ---- words

-- a name is a word
letter_bare : (b : ℕ) → is_letter b ≡ true → bare_byte b ≡ true
letter_bare b h = grind (arith, nat_tests)

word_byte_bare : (b : ℕ) → is_word_byte b ≡ true → bare_byte b ≡ true
word_byte_bare b h = grind (arith, nat_tests)

both_true : (a b : Bool) → (a && b) ≡ true → (a ≡ true) × (b ≡ true)
both_true true b h = (refl, h)
both_true false b h = absurd (cc)

pub all_true : {a b : Bool} → a ≡ true → b ≡ true → (a && b) ≡ true
all_true h k = ap₂ ◌&&◌ h k

bytes_bare : (w : List ℕ) → list_all is_word_byte w ≡ true → list_all bare_byte w ≡ true
bytes_bare [] h = refl
bytes_bare (b ∷ w) h = let k = both_true (is_word_byte b) (list_all is_word_byte w) h in all_true (word_byte_bare b k.0) (bytes_bare w k.1)

word_bare : (w : List ℕ) → is_word w ≡ true → bare w ≡ true
word_bare [] h = absurd (cc)
word_bare (b ∷ w) h = let k = both_true (is_letter b) (list_all is_word_byte w) h in all_true (letter_bare b k.0) (bytes_bare w k.1)

pub name_bare : (w : List ℕ) → is_name w ≡ true → bare w ≡ true
name_bare w h = word_bare w (both_true _ _ (both_true _ _ h).0).0

bare_all : (w : List ℕ) → bare w ≡ true → list_all bare_byte w ≡ true
bare_all [] h = absurd (cc)
bare_all (b ∷ w) h = h

pub kind_bare : (k : IntTy) → bare (kind_name k) ≡ true
kind_bare PU8 = refl
kind_bare PU16 = refl
kind_bare PU32 = refl
kind_bare PU64 = refl
kind_bare PU128 = refl
kind_bare PUsize = refl
kind_bare PI8 = refl
kind_bare PI16 = refl
kind_bare PI32 = refl
kind_bare PI64 = refl
kind_bare PI128 = refl
kind_bare SU8 = refl
kind_bare SU16 = refl
kind_bare SU32 = refl
kind_bare SU64 = refl
kind_bare SU128 = refl

-- a local is read back
local_back : (k : Local) → record { name = k.name; number = told_after 0 (numeral k.number) } ≡ k
local_back k = λ i. record { name = k.name; number = numeral_told k.number i }

module _ (source : Bool) (table : List TypeDef) where
  -- a type that the text of the table tells
  abbrev pub Fit : ValType → Type 0
  Fit t = well_made source (length table) t ≡ true

  -- an operator of an assignment: none, or one whose name is a word and no equals sign
  abbrev pub SpelledOperator : Option Name → Type 0
  SpelledOperator None = ⊤
  SpelledOperator (Some o) = IsTrue (bare o) × (bytes_eq o (codes "=") ≡ false)

  abbrev mutual
    pub SpelledPattern : Pattern → Type 0
    SpelledPattern (binds k) = IsTrue (bare k.name)
    SpelledPattern anything = ⊤
    SpelledPattern (parts ps) = SpelledPatterns ps
    SpelledPattern (taken t name ps) = Fit t × IsTrue (bare name) × SpelledPatterns ps

    pub SpelledPatterns : Patterns → Type 0
    SpelledPatterns no_patterns = ⊤
    SpelledPatterns (pattern p ps) = SpelledPattern p × SpelledPatterns ps

  abbrev mutual
    pub SpelledExp : Exp → Type 0
    SpelledExp (var k) = IsTrue (bare k.name)
    SpelledExp (lit n) = ⊤
    SpelledExp (truth b) = ⊤
    SpelledExp unit = ⊤
    SpelledExp (const name) = IsTrue (bare name)
    SpelledExp (tuple es) = SpelledExps es
    SpelledExp (list es) = SpelledExps es
    SpelledExp (ctor t name es) = Fit t × IsTrue (bare name) × SpelledExps es
    SpelledExp (op name es) = IsTrue (bare name) × SpelledExps es
    SpelledExp (call f es) = IsTrue (bare f) × SpelledExps es
    SpelledExp (and a b) = SpelledExp a × SpelledExp b
    SpelledExp (or a b) = SpelledExp a × SpelledExp b
    SpelledExp (in_side r) = SpelledRhs r
    SpelledExp (exit e) = SpelledExp e
    SpelledExp (cont e) = SpelledExp e

    pub SpelledExps : Exps → Type 0
    SpelledExps no_exps = ⊤
    SpelledExps (exp e es) = SpelledExp e × SpelledExps es

    pub SpelledArgs : Args → Type 0
    SpelledArgs no_args = ⊤
    SpelledArgs (arg e es) = SpelledExp e × SpelledArgs es
    SpelledArgs (lend k es) = IsTrue (bare k.name) × SpelledArgs es

    pub SpelledRhs : Rhs → Type 0
    SpelledRhs (plain e) = SpelledExp e
    SpelledRhs (if_else e a b) = SpelledExp e × SpelledBlock a × SpelledBlock b
    SpelledRhs (match_on e xs) = SpelledExp e × SpelledArms xs
    SpelledRhs (block b) = SpelledBlock b
    SpelledRhs (lendcall f es) = IsTrue (bare f) × SpelledArgs es
    SpelledRhs (quest e) = SpelledExp e
    SpelledRhs (forcf i lo hi b) = IsTrue (bare i.name) × SpelledExp lo × SpelledExp hi × SpelledBlock b
    SpelledRhs (carry how i lo hi e p b) = IsTrue (bare i.name) × SpelledExp lo × SpelledExp hi × SpelledExp e × SpelledPattern p × SpelledBlock b

    pub SpelledArms : Arms → Type 0
    SpelledArms no_arms = ⊤
    SpelledArms (arm p b xs) = SpelledPattern p × SpelledBlock b × SpelledArms xs

    pub SpelledSteps : Steps → Type 0
    SpelledSteps here = ⊤
    SpelledSteps (at e xs) = SpelledExp e × SpelledSteps xs
    SpelledSteps (part i xs) = SpelledSteps xs

    pub SpelledBlock : Block → Type 0
    SpelledBlock (let_in p r b) = SpelledPattern p × SpelledRhs r × SpelledBlock b
    SpelledBlock (do_in r b) = SpelledRhs r × SpelledBlock b
    SpelledBlock (set_in k r b) = IsTrue (bare k.name) × SpelledRhs r × SpelledBlock b
    SpelledBlock (place_in o k xs r b) = SpelledOperator o × IsTrue (bare k.name) × SpelledSteps xs × SpelledRhs r × SpelledBlock b
    SpelledBlock (for_in i lo hi body b) = IsTrue (bare i.name) × SpelledExp lo × SpelledExp hi × SpelledBlock body × SpelledBlock b
    SpelledBlock (ends r) = SpelledRhs r
    SpelledBlock (returns e) = SpelledExp e
    SpelledBlock (bind z p r b) = SpelledPattern p × SpelledRhs r × SpelledBlock b

  abbrev pub SpelledParam : Param → Type 0
  SpelledParam p = IsTrue (bare p.local.name) × Fit p.type

  pub record SpelledFunction (f : Function) : Type 0 where
    pub name : IsTrue (bare f.name)
    pub params : AllByRecursion SpelledParam f.params
    pub type : Fit f.type
    pub body : SpelledBlock f.body

  -- ---- each word of a form is one

  module _ (words : AllByRecursion (λ d. IsTrue (bare d.name)) table) where
    word_at : (ds : List TypeDef) (n : ℕ) → AllByRecursion (λ d. IsTrue (bare d.name)) ds → bare_form (named (slice_get ds n)) ≡ true
    word_at [] n h = refl
    word_at (d ∷ ds) zero h = bare_all d.name h.0
    word_at (d ∷ ds) (suc n) h = word_at ds n h.1

    abbrev BareType : ValType → Type 0
    BareType t = bare_form (shown_type table t) ≡ true

    abbrev Bares : Type 0
    Bares = (t : ValType) × BareType t

    abbrev within : ValType-F Bares → ValType-F ValType
    within y = map-ValType Bares ValType (λ x. x.0) y

    abbrev shown : List Bares → List Form
    shown ts = map (shown_type table) (map (λ (x : Bares). x.0) ts)

    starred_bare : (ts : List Bares) → bare_forms (starred (shown ts)) ≡ true
    starred_bare [] = refl
    starred_bare (t ∷ []) = all_true t.1 refl
    starred_bare (t ∷ u ∷ ts) = all_true t.1 (starred_bare (u ∷ ts))

    bare_layer : (y : ValType-F Bares) → bare_form (shown_level table (map-ValType ValType Form (shown_type table) (within y))) ≡ true
    bare_layer layer.Unit = refl
    bare_layer layer.Bool = refl
    bare_layer (layer.Int k) = kind_bare k
    bare_layer (layer.Seq t) = all_true t.1 refl
    bare_layer (layer.Named n) = word_at table n words
    bare_layer (layer.Tuple ts) = starred_bare ts
    bare_layer (layer.Option t) = all_true t.1 refl
    bare_layer (layer.Result t u) = all_true t.1 (all_true u.1 refl)

    bare_level : (y : ValType-F Bares) → BareType (roll-ValType (within y))
    bare_level y = ap bare_form (fold-roll-ValType Form (shown_level table) (within y)) ∙ bare_layer y

    pub type_bare : (t : ValType) → BareType t
    type_bare = ind-ValType BareType (λ x y is. subst (λ z. BareType (roll-ValType z)) is (bare_level y))

    local_bare : (k : Local) {x : Bool} → IsTrue (bare k.name) → x ≡ true → (bare k.name && (bare (numeral k.number) && x)) ≡ true
    local_bare k h t = all_true h (all_true (numeral_bare k.number) t)

    mutual
      pattern_bare : (p : Pattern) → SpelledPattern p → bare_form (shown_pattern table p) ≡ true
      pattern_bare (binds k) h = local_bare k h refl
      pattern_bare anything h = refl
      pattern_bare (parts ps) h = patterns_bare ps h
      pattern_bare (taken t name ps) h = all_true (type_bare t) (all_true h.1 (patterns_bare ps h.2))

      patterns_bare : (ps : Patterns) → SpelledPatterns ps → bare_forms (shown_patterns table ps) ≡ true
      patterns_bare no_patterns h = refl
      patterns_bare (pattern p ps) h = all_true (pattern_bare p h.0) (patterns_bare ps h.1)

    truth_bare : (b : Bool) → bare_form (shown_truth b) ≡ true
    truth_bare true = refl
    truth_bare false = refl

    around_bare : (z : Around) → bare_form (around_word z) ≡ true
    around_bare top = refl
    around_bare inside = refl

    carrying_bare : (how : Carrying) → bare (carrying_word how) ≡ true
    carrying_bare turns = refl
    carrying_bare turnscf = refl
    carrying_bare fold = refl
    carrying_bare foldcf = refl

    operator_bare : (o : Option Name) → SpelledOperator o → bare_form (operator o) ≡ true
    operator_bare None h = refl
    operator_bare (Some o) h = h.0

    mutual
      exp_bare : (e : Exp) → SpelledExp e → bare_form (shown_exp table e) ≡ true
      exp_bare (var k) h = local_bare k h refl
      exp_bare (lit n) h = all_true (kind_bare n.kind) (all_true (digits_bare n.number) refl)
      exp_bare (truth b) h = truth_bare b
      exp_bare unit h = refl
      exp_bare (const name) h = all_true h refl
      exp_bare (tuple es) h = exps_bare es h
      exp_bare (list es) h = exps_bare es h
      exp_bare (ctor t name es) h = all_true (type_bare t) (all_true h.1 (exps_bare es h.2))
      exp_bare (op name es) h = all_true h.0 (exps_bare es h.1)
      exp_bare (call f es) h = all_true h.0 (exps_bare es h.1)
      exp_bare (and a b) h = all_true (exp_bare a h.0) (all_true (exp_bare b h.1) refl)
      exp_bare (or a b) h = all_true (exp_bare a h.0) (all_true (exp_bare b h.1) refl)
      exp_bare (in_side r) h = all_true (rhs_bare r h) refl
      exp_bare (exit e) h = all_true (exp_bare e h) refl
      exp_bare (cont e) h = all_true (exp_bare e h) refl

      exps_bare : (es : Exps) → SpelledExps es → bare_forms (shown_exps table es) ≡ true
      exps_bare no_exps h = refl
      exps_bare (exp e es) h = all_true (exp_bare e h.0) (exps_bare es h.1)

      args_bare : (es : Args) → SpelledArgs es → bare_forms (shown_args table es) ≡ true
      args_bare no_args h = refl
      args_bare (arg e es) h = all_true (exp_bare e h.0) (args_bare es h.1)
      args_bare (lend k es) h = all_true (local_bare k h.0 refl) (args_bare es h.1)

      rhs_bare : (r : Rhs) → SpelledRhs r → bare_form (shown_rhs table r) ≡ true
      rhs_bare (plain e) h = exp_bare e h
      rhs_bare (if_else e a b) h = all_true (exp_bare e h.0) (all_true (rest_bare a h.1) (all_true (rest_bare b h.2) refl))
      rhs_bare (match_on e xs) h = all_true (exp_bare e h.0) (arms_bare xs h.1)
      rhs_bare (block b) h = rest_bare b h
      rhs_bare (lendcall f es) h = all_true h.0 (args_bare es h.1)
      rhs_bare (quest e) h = all_true (exp_bare e h) refl
      rhs_bare (forcf i lo hi b) h = local_bare i h.0 (all_true (exp_bare lo h.1) (all_true (exp_bare hi h.2) (all_true (rest_bare b h.3) refl)))
      rhs_bare (carry how i lo hi e p b) h =
          all_true (carrying_bare how)
          (local_bare i h.0 (all_true (exp_bare lo h.1) (all_true (exp_bare hi h.2) (all_true (exp_bare e h.3) (all_true (pattern_bare p h.4) (all_true (rest_bare b h.5) refl))))))

      arms_bare : (xs : Arms) → SpelledArms xs → bare_forms (shown_arms table xs) ≡ true
      arms_bare no_arms h = refl
      arms_bare (arm p b xs) h = all_true (all_true (pattern_bare p h.0) (all_true (rest_bare b h.1) refl)) (arms_bare xs h.2)

      steps_bare : (xs : Steps) (f : Form) → SpelledSteps xs → bare_form f ≡ true → bare_forms (shown_steps table xs f) ≡ true
      steps_bare here f h k = all_true k refl
      steps_bare (at e xs) f h k = all_true (all_true (exp_bare e h.0) refl) (steps_bare xs f h.1 k)
      steps_bare (part i xs) f h k = all_true (all_true (numeral_bare i) refl) (steps_bare xs f h k)

      rest_bare : (b : Block) → SpelledBlock b → bare_forms (shown_rest table b) ≡ true
      rest_bare (let_in p r b) h = all_true (all_true (pattern_bare p h.0) (all_true (rhs_bare r h.1) refl)) (rest_bare b h.2)
      rest_bare (do_in r b) h = all_true (all_true (rhs_bare r h.0) refl) (rest_bare b h.1)
      rest_bare (set_in k r b) h = all_true (local_bare k h.0 (all_true (rhs_bare r h.1) refl)) (rest_bare b h.2)
      rest_bare (place_in o k xs r b) h =
          all_true (all_true (operator_bare o h.0) (local_bare k h.1 (steps_bare xs (shown_rhs table r) h.2 (rhs_bare r h.3)))) (rest_bare b h.4)
      rest_bare (for_in i lo hi body b) h =
          all_true (local_bare i h.0 (all_true (exp_bare lo h.1) (all_true (exp_bare hi h.2) (all_true (rest_bare body h.3) refl)))) (rest_bare b h.4)
      rest_bare (ends r) h = all_true (rhs_bare r h) refl
      rest_bare (returns e) h = all_true (all_true (exp_bare e h) refl) refl
      rest_bare (bind z p r b) h =
          all_true (all_true (around_bare z) (all_true (pattern_bare p h.0) (all_true (rhs_bare r h.1) (all_true (rest_bare b h.2) refl)))) refl

    mode_bare : (m : Mode) → bare (mode_word m) ≡ true
    mode_bare val = refl
    mode_bare ref = refl
    mode_bare mut = refl

    params_bare : (ps : List Param) → AllByRecursion SpelledParam ps → bare_forms (shown_params table ps) ≡ true
    params_bare [] h = refl
    params_bare (p ∷ ps) h =
        all_true (all_true (mode_bare p.mode) (local_bare p.local h.0.0 (all_true (type_bare p.type) refl))) (params_bare ps h.1)

    pub function_bare : (f : Function) → SpelledFunction f → bare_form (shown_function table f) ≡ true
    function_bare f h = all_true h.name (all_true (params_bare f.params h.params) (all_true (type_bare f.type) (all_true (rest_bare f.body h.body) refl)))

  -- ---- forms are read back

  module _ (apart : IsDistinct bytes_eq (map (λ c. c.name) table)) where
    type_read : (t : ValType) → Fit t → (read table (shown_type table t)).as_type ≡ t
    type_read = type_back source table apart

    mutual
      pattern_back : (p : Pattern) → SpelledPattern p → (read table (shown_pattern table p)).as_pattern ≡ p
      pattern_back (binds k) h = ap binds (local_back k)
      pattern_back anything h = refl
      pattern_back (parts ps) h = ap parts (patterns_back ps h)
      pattern_back (taken t name ps) h = λ i. taken (type_read t h.0 i) name (patterns_back ps h.2 i)

      patterns_back : (ps : Patterns) → SpelledPatterns ps → patterns_in (readings table (shown_patterns table ps)) ≡ ps
      patterns_back no_patterns h = refl
      patterns_back (pattern p ps) h = λ i. pattern (pattern_back p h.0 i) (patterns_back ps h.1 i)

    -- an expression as a right side, as an argument, as an end, and not as a step
    exp_rhs : (e : Exp) → (read table (shown_exp table e)).as_rhs ≡ plain (read table (shown_exp table e)).as_exp
    exp_rhs (var k) = refl
    exp_rhs (lit n) = refl
    exp_rhs (truth true) = refl
    exp_rhs (truth false) = refl
    exp_rhs unit = refl
    exp_rhs (const name) = refl
    exp_rhs (tuple es) = refl
    exp_rhs (list es) = refl
    exp_rhs (ctor t name es) = refl
    exp_rhs (op name es) = refl
    exp_rhs (call f es) = refl
    exp_rhs (and a b) = refl
    exp_rhs (or a b) = refl
    exp_rhs (in_side r) = refl
    exp_rhs (exit e) = refl
    exp_rhs (cont e) = refl

    exp_arg : (e : Exp) (xs : Args) → (read table (shown_exp table e)).as_arg xs ≡ arg (read table (shown_exp table e)).as_exp xs
    exp_arg (var k) xs = refl
    exp_arg (lit n) xs = refl
    exp_arg (truth true) xs = refl
    exp_arg (truth false) xs = refl
    exp_arg unit xs = refl
    exp_arg (const name) xs = refl
    exp_arg (tuple es) xs = refl
    exp_arg (list es) xs = refl
    exp_arg (ctor t name es) xs = refl
    exp_arg (op name es) xs = refl
    exp_arg (call f es) xs = refl
    exp_arg (and a b) xs = refl
    exp_arg (or a b) xs = refl
    exp_arg (in_side r) xs = refl
    exp_arg (exit e) xs = refl
    exp_arg (cont e) xs = refl

    exp_rest : (e : Exp) (b : Block) → (read table (shown_exp table e)).as_rest b ≡ ends (read table (shown_exp table e)).as_rhs
    exp_rest (var k) d = refl
    exp_rest (lit n) d = refl
    exp_rest (truth true) d = refl
    exp_rest (truth false) d = refl
    exp_rest unit d = refl
    exp_rest (const name) d = refl
    exp_rest (tuple es) d = refl
    exp_rest (list es) d = refl
    exp_rest (ctor t name es) d = refl
    exp_rest (op name es) d = refl
    exp_rest (call f es) d = refl
    exp_rest (and a b) d = refl
    exp_rest (or a b) d = refl
    exp_rest (in_side r) d = refl
    exp_rest (exit e) d = refl
    exp_rest (cont e) d = refl

    exp_stays : (e : Exp) → (read table (shown_exp table e)).is_step ≡ false
    exp_stays (var k) = refl
    exp_stays (lit n) = refl
    exp_stays (truth true) = refl
    exp_stays (truth false) = refl
    exp_stays unit = refl
    exp_stays (const name) = refl
    exp_stays (tuple es) = refl
    exp_stays (list es) = refl
    exp_stays (ctor t name es) = refl
    exp_stays (op name es) = refl
    exp_stays (call f es) = refl
    exp_stays (and a b) = refl
    exp_stays (or a b) = refl
    exp_stays (in_side r) = refl
    exp_stays (exit e) = refl
    exp_stays (cont e) = refl

    rhs_rest : (r : Rhs) (d : Block) → (read table (shown_rhs table r)).as_rest d ≡ ends (read table (shown_rhs table r)).as_rhs
    rhs_rest (plain e) d = exp_rest e d
    rhs_rest (if_else e a b) d = refl
    rhs_rest (match_on e xs) d = refl
    rhs_rest (block b) d = refl
    rhs_rest (lendcall f es) d = refl
    rhs_rest (quest e) d = refl
    rhs_rest (forcf k lo hi b) d = refl
    rhs_rest (carry turns k lo hi e p b) d = refl
    rhs_rest (carry turnscf k lo hi e p b) d = refl
    rhs_rest (carry fold k lo hi e p b) d = refl
    rhs_rest (carry foldcf k lo hi e p b) d = refl

    rhs_stays : (r : Rhs) → (read table (shown_rhs table r)).is_step ≡ false
    rhs_stays (plain e) = exp_stays e
    rhs_stays (if_else e a b) = refl
    rhs_stays (match_on e xs) = refl
    rhs_stays (block b) = refl
    rhs_stays (lendcall f es) = refl
    rhs_stays (quest e) = refl
    rhs_stays (forcf k lo hi b) = refl
    rhs_stays (carry turns k lo hi e p b) = refl
    rhs_stays (carry turnscf k lo hi e p b) = refl
    rhs_stays (carry fold k lo hi e p b) = refl
    rhs_stays (carry foldcf k lo hi e p b) = refl

    operator_back : (o : Option Name) → SpelledOperator o → operator_in (read table (operator o)).as_word ≡ o
    operator_back None h = refl
    operator_back (Some o) h = ap (λ (t : Bool). if t then None else Some o) h.1

    end_back : (xs : Steps) (r : Rhs) → (read table (shown_rhs table r)).as_rhs ≡ r → end_in (readings table (shown_steps table xs (shown_rhs table r))) ≡ r
    end_back here r h = ap (λ (t : Bool). if t then plain unit else (read table (shown_rhs table r)).as_rhs) (rhs_stays r) ∙ h
    end_back (at e xs) r h = end_back xs r h
    end_back (part n xs) r h = end_back xs r h

    mutual
      exp_back : (e : Exp) → SpelledExp e → (read table (shown_exp table e)).as_exp ≡ e
      exp_back (var k) h = ap var (local_back k)
      exp_back (lit n) h = λ i. lit (record { kind = kind_or (kind_back n.kind i); number = digits_told n.number i })
      exp_back (truth true) h = refl
      exp_back (truth false) h = refl
      exp_back unit h = refl
      exp_back (const name) h = refl
      exp_back (tuple es) h = ap tuple (exps_back es h)
      exp_back (list es) h = ap list (exps_back es h)
      exp_back (ctor t name es) h = λ i. ctor (type_read t h.0 i) name (exps_back es h.2 i)
      exp_back (op name es) h = ap (op name) (exps_back es h.1)
      exp_back (call f es) h = ap (call f) (exps_back es h.1)
      exp_back (and a b) h = λ i. and (exp_back a h.0 i) (exp_back b h.1 i)
      exp_back (or a b) h = λ i. or (exp_back a h.0 i) (exp_back b h.1 i)
      exp_back (in_side r) h = ap in_side (rhs_back r h)
      exp_back (exit e) h = ap exit (exp_back e h)
      exp_back (cont e) h = ap cont (exp_back e h)

      exps_back : (es : Exps) → SpelledExps es → exps_in (readings table (shown_exps table es)) ≡ es
      exps_back no_exps h = refl
      exps_back (exp e es) h = λ i. exp (exp_back e h.0 i) (exps_back es h.1 i)

      args_back : (es : Args) → SpelledArgs es → args_in (readings table (shown_args table es)) ≡ es
      args_back no_args h = refl
      args_back (arg e es) h = exp_arg e (args_in (readings table (shown_args table es))) ∙ ap₂ arg (exp_back e h.0) (args_back es h.1)
      args_back (lend k es) h = λ i. lend (local_back k i) (args_back es h.1 i)

      rhs_back : (r : Rhs) → SpelledRhs r → (read table (shown_rhs table r)).as_rhs ≡ r
      rhs_back (plain e) h = exp_rhs e ∙ ap plain (exp_back e h)
      rhs_back (if_else e a b) h = λ i. if_else (exp_back e h.0 i) (rest_back a h.1 i) (rest_back b h.2 i)
      rhs_back (match_on e xs) h = λ i. match_on (exp_back e h.0 i) (arms_back xs h.1 i)
      rhs_back (block b) h = ap block (rest_back b h)
      rhs_back (lendcall f es) h = ap (lendcall f) (args_back es h.1)
      rhs_back (quest e) h = ap quest (exp_back e h)
      rhs_back (forcf k lo hi b) h = λ i. forcf (local_back k i) (exp_back lo h.1 i) (exp_back hi h.2 i) (rest_back b h.3 i)
      rhs_back (carry turns k lo hi e p b) h = λ i. carry turns (local_back k i) (exp_back lo h.1 i) (exp_back hi h.2 i) (exp_back e h.3 i) (pattern_back p h.4 i) (rest_back b h.5 i)
      rhs_back (carry turnscf k lo hi e p b) h = λ i. carry turnscf (local_back k i) (exp_back lo h.1 i) (exp_back hi h.2 i) (exp_back e h.3 i) (pattern_back p h.4 i) (rest_back b h.5 i)
      rhs_back (carry fold k lo hi e p b) h = λ i. carry fold (local_back k i) (exp_back lo h.1 i) (exp_back hi h.2 i) (exp_back e h.3 i) (pattern_back p h.4 i) (rest_back b h.5 i)
      rhs_back (carry foldcf k lo hi e p b) h = λ i. carry foldcf (local_back k i) (exp_back lo h.1 i) (exp_back hi h.2 i) (exp_back e h.3 i) (pattern_back p h.4 i) (rest_back b h.5 i)

      arms_back : (xs : Arms) → SpelledArms xs → arms_in (readings table (shown_arms table xs)) ≡ xs
      arms_back no_arms h = refl
      arms_back (arm p b xs) h = λ i. arm (pattern_back p h.0 i) (rest_back b h.1 i) (arms_back xs h.2 i)

      steps_back : (xs : Steps) (r : Rhs) → SpelledSteps xs → steps_in (readings table (shown_steps table xs (shown_rhs table r))) ≡ xs
      steps_back here r h = ap (λ (t : Bool). if t then (read table (shown_rhs table r)).as_step here else here) (rhs_stays r)
      steps_back (at e xs) r h = λ i. at (exp_back e h.0 i) (steps_back xs r h.1 i)
      steps_back (part n xs) r h = λ i. part (numeral_told n i) (steps_back xs r h i)

      rest_back : (b : Block) → SpelledBlock b → rest_in (readings table (shown_rest table b)) ≡ b
      rest_back (let_in p r b) h = λ i. let_in (pattern_back p h.0 i) (rhs_back r h.1 i) (rest_back b h.2 i)
      rest_back (do_in r b) h = λ i. do_in (rhs_back r h.0 i) (rest_back b h.1 i)
      rest_back (set_in k r b) h = λ i. set_in (local_back k i) (rhs_back r h.1 i) (rest_back b h.2 i)
      rest_back (place_in o k xs r b) h =
          λ i. place_in (operator_back o h.0 i) (local_back k i) (steps_back xs r h.2 i) (end_back xs r (rhs_back r h.3) i) (rest_back b h.4 i)
      rest_back (for_in k lo hi body b) h = λ i. for_in (local_back k i) (exp_back lo h.1 i) (exp_back hi h.2 i) (rest_back body h.3 i) (rest_back b h.4 i)
      rest_back (ends r) h = rhs_rest r (ends (plain unit)) ∙ ap ends (rhs_back r h)
      rest_back (returns e) h = ap returns (exp_back e h)
      rest_back (bind top p r b) h = λ i. bind top (pattern_back p h.0 i) (rhs_back r h.1 i) (rest_back b h.2 i)
      rest_back (bind inside p r b) h = λ i. bind inside (pattern_back p h.0 i) (rhs_back r h.1 i) (rest_back b h.2 i)

    param_as : (m : Mode) (k : Local) (t : ValType) → Fit t → (read table (formed (mode_word m) (shown_local k (one (shown_type table t))))).as_param ≡ record { mode = m; local = k; type = t }
    param_as val k t h = λ i. record { mode = val; local = local_back k i; type = type_read t h i }
    param_as ref k t h = λ i. record { mode = ref; local = local_back k i; type = type_read t h i }
    param_as mut k t h = λ i. record { mode = mut; local = local_back k i; type = type_read t h i }

    params_list : (ps : List Param) → AllByRecursion SpelledParam ps → map (λ (x : Reading). x.as_param) (readings table (shown_params table ps)) ≡ ps
    params_list [] h = refl
    params_list (p ∷ ps) h = λ i. param_as p.mode p.local p.type h.0.1 i ∷ params_list ps h.1 i

    params_back : (ps : List Param) → AllByRecursion SpelledParam ps → (read table (between (shown_params table ps))).as_params ≡ ps
    params_back [] h = refl
    params_back (p ∷ ps) h = params_list (p ∷ ps) h

    pub function_back : (f : Function) → SpelledFunction f → function_read table (shown_function table f) ≡ f
    function_back f h =
        λ i. record { name = f.name; params = params_back f.params h.params i; type = type_read f.type h.type i; body = rest_back f.body h.body i }
