-- The text of a tree: a form for each node, which begins with the node's word, and a line for each function.
use Rattle.std.specs.Prelude.{ℕ, suc, ◌+◌, ◌/◌, ◌^◌, Bool, true, false, not, ◌&&◌, ◌||◌, eqb, ℤ, pos, negsuc, List, [], ◌∷◌, ◌++◌, map, Option, Some, None, slice_get, codes}
use Rattle.std.specs.Fmt.{digits_onto}
use Rattle.std.specs.List.{list_all}
use Rattle.hs_values.specs.declared.types.ValType.{ValType}
use Rattle.hs_values.specs.declared.types.ValType.TheOpen.{ValType-F}
use Rattle.hs_values.specs.declared.types.ValType.TheOpen as type
use Rattle.hs_values.specs.declared.types.ValType.TheFolds.{fold-ValType}
use Rattle.hs_values.specs.declared.types.TypeDef.{TypeDef}
use Rattle.hs_ops.specs.Names.{kind_name}
use Rattle.hs_tree.specs.Plain.{Name, Local, Carrying, turns, turnscf, fold, foldcf, Around, top, inside, Pattern, binds, anything, parts, taken, Patterns, no_patterns, pattern, Exp, var, lit, truth, unit, const, tuple, list, ctor, op, call, and, or, in_side, exit, cont, Exps, no_exps, exp, Args, no_args, arg, lend, Rhs, plain, if_else, match_on, block, lendcall, quest, forcf, carry, Arms, no_arms, arm, Steps, here, at, part, Block, let_in, do_in, set_in, place_in, for_in, ends, returns, bind, Mode, val, ref, mut, Param, Function, Program}

mutual
  -- a word, or forms between brackets
  pub data Form : Type 0 where
    word : List ℕ → Form
    between : Forms → Form

  -- forms, from left to right
  pub data Forms : Type 0 where
    no_forms : Forms
    form : Form → Forms → Forms

-- the bytes of a form: one space stands between two parts
abbrev mutual
  pub bytes_of : Form → List ℕ
  bytes_of (word w) = w
  bytes_of (between fs) = 40 ∷ first_bytes fs

  -- the parts, and the closing bracket
  pub first_bytes : Forms → List ℕ
  first_bytes no_forms = 41 ∷ []
  first_bytes (form f fs) = bytes_of f ++ next_bytes fs

  pub next_bytes : Forms → List ℕ
  next_bytes no_forms = 41 ∷ []
  next_bytes (form f fs) = 32 ∷ (bytes_of f ++ next_bytes fs)

-- whether a byte may stand in a word: it is no line feed, blank or bracket
abbrev pub bare_byte : ℕ → Bool
bare_byte b = not (eqb b 10 || (eqb b 32 || (eqb b 40 || eqb b 41)))

-- whether a word has a byte, and each may stand in it
abbrev pub bare : List ℕ → Bool
bare [] = false
bare (b ∷ w) = bare_byte b && list_all bare_byte w

-- whether each word of a form is such a word
abbrev mutual
  pub bare_form : Form → Bool
  bare_form (word w) = bare w
  bare_form (between fs) = bare_forms fs

  pub bare_forms : Forms → Bool
  bare_forms no_forms = true
  bare_forms (form f fs) = bare_form f && bare_forms fs

-- forms, a line for each
abbrev pub lines_of : List Form → List ℕ
lines_of [] = []
lines_of (f ∷ fs) = bytes_of f ++ 10 ∷ lines_of fs

-- the form that begins with a word
abbrev pub formed : List ℕ → Forms → Form
formed head fs = between (form (word head) fs)

-- one form, and two
abbrev pub one : Form → Forms
one f = form f no_forms

abbrev pub two : Form → Form → Forms
two f g = form f (one g)

-- a number in decimal digits, without leading zeros; above 64 digits there is room for more
unfoldable pub numeral : ℕ → List ℕ
numeral n = digits_onto (64 + n / 10 ^ 64) 10 false n []

-- a whole number in decimal digits
abbrev pub digits : ℤ → List ℕ
digits (pos n) = numeral n
digits (negsuc n) = 45 ∷ numeral (suc n)

-- the word of a type that has a name
abbrev pub named : Option TypeDef → Form
named None = word (codes "t_")
named (Some def) = word (codes "t_" ++ def.name)

-- parts with a star between two of them
abbrev pub starred : List Form → Forms
starred [] = no_forms
starred (f ∷ []) = one f
starred (f ∷ g ∷ fs) = form f (form (word (codes "*")) (starred (g ∷ fs)))

-- a type, whose parts are shown already
abbrev pub shown_level : List TypeDef → ValType-F Form → Form
shown_level table type.Unit = word (codes "unit")
shown_level table type.Bool = word (codes "bool")
shown_level table (type.Int k) = word (kind_name k)
shown_level table (type.Seq t) = formed (codes "q_seq") (one t)
shown_level table (type.Named n) = named (slice_get table n)
shown_level table (type.Tuple ts) = between (starred ts)
shown_level table (type.Option t) = formed (codes "option") (one t)
shown_level table (type.Result good bad) = formed (codes "result") (two good bad)

abbrev pub shown_type : List TypeDef → ValType → Form
shown_type table = fold-ValType Form (shown_level table)

-- a local's name and number, before what follows
abbrev pub shown_local : Local → Forms → Forms
shown_local k fs = form (word k.name) (form (word (numeral k.number)) fs)

abbrev pub shown_truth : Bool → Form
shown_truth true = word (codes "true")
shown_truth false = word (codes "false")

abbrev pub carrying_word : Carrying → List ℕ
carrying_word turns = codes "turns"
carrying_word turnscf = codes "turnscf"
carrying_word fold = codes "fold"
carrying_word foldcf = codes "foldcf"

abbrev pub around_word : Around → Form
around_word top = word (codes "top")
around_word inside = word (codes "in")

-- the operator of an assignment
abbrev pub operator : Option Name → Form
operator None = word (codes "=")
operator (Some o) = word o

-- a block, by its statements and its end
abbrev pub framed : Forms → Form
framed fs = formed (codes "block") fs

abbrev pub mode_word : Mode → List ℕ
mode_word val = codes "val"
mode_word ref = codes "ref"
mode_word mut = codes "mut"

module _ (table : List TypeDef) where
  abbrev mutual
    pub shown_pattern : Pattern → Form
    shown_pattern (binds k) = formed (codes "var") (shown_local k no_forms)
    shown_pattern anything = word (codes "_")
    shown_pattern (parts ps) = formed (codes "tuple") (shown_patterns ps)
    shown_pattern (taken t name ps) = formed (codes "ctor") (form (shown_type table t) (form (word name) (shown_patterns ps)))

    pub shown_patterns : Patterns → Forms
    shown_patterns no_patterns = no_forms
    shown_patterns (pattern p ps) = form (shown_pattern p) (shown_patterns ps)

  abbrev mutual
    -- an expression
    pub shown_exp : Exp → Form
    shown_exp (var k) = formed (codes "var") (shown_local k no_forms)
    shown_exp (lit n) = formed (codes "lit") (two (word (kind_name n.kind)) (word (digits n.number)))
    shown_exp (truth b) = shown_truth b
    shown_exp unit = word (codes "unit")
    shown_exp (const name) = formed (codes "const") (one (word name))
    shown_exp (tuple es) = formed (codes "tuple") (shown_exps es)
    shown_exp (list es) = formed (codes "list") (shown_exps es)
    shown_exp (ctor t name es) = formed (codes "ctor") (form (shown_type table t) (form (word name) (shown_exps es)))
    shown_exp (op name es) = formed (codes "op") (form (word name) (shown_exps es))
    shown_exp (call f es) = formed (codes "call") (form (word f) (shown_exps es))
    shown_exp (and a b) = formed (codes "and") (two (shown_exp a) (shown_exp b))
    shown_exp (or a b) = formed (codes "or") (two (shown_exp a) (shown_exp b))
    shown_exp (in_side r) = formed (codes "in") (one (shown_rhs r))
    shown_exp (exit e) = formed (codes "exit") (one (shown_exp e))
    shown_exp (cont e) = formed (codes "cont") (one (shown_exp e))

    pub shown_exps : Exps → Forms
    shown_exps no_exps = no_forms
    shown_exps (exp e es) = form (shown_exp e) (shown_exps es)

    pub shown_args : Args → Forms
    shown_args no_args = no_forms
    shown_args (arg e es) = form (shown_exp e) (shown_args es)
    shown_args (lend k es) = form (formed (codes "lend") (shown_local k no_forms)) (shown_args es)

    -- a right side
    pub shown_rhs : Rhs → Form
    shown_rhs (plain e) = shown_exp e
    shown_rhs (if_else e a b) = formed (codes "if") (form (shown_exp e) (two (framed (shown_rest a)) (framed (shown_rest b))))
    shown_rhs (match_on e xs) = formed (codes "match") (form (shown_exp e) (shown_arms xs))
    shown_rhs (block b) = framed (shown_rest b)
    shown_rhs (lendcall f es) = formed (codes "lendcall") (form (word f) (shown_args es))
    shown_rhs (quest e) = formed (codes "quest") (one (shown_exp e))
    shown_rhs (forcf i lo hi b) = formed (codes "forcf") (shown_local i (form (shown_exp lo) (two (shown_exp hi) (framed (shown_rest b)))))
    shown_rhs (carry how i lo hi first p b) =
        formed (carrying_word how)
        (shown_local i (form (shown_exp lo) (form (shown_exp hi) (form (shown_exp first) (two (shown_pattern p) (framed (shown_rest b)))))))

    pub shown_arms : Arms → Forms
    shown_arms no_arms = no_forms
    shown_arms (arm p b xs) = form (formed (codes "arm") (two (shown_pattern p) (framed (shown_rest b)))) (shown_arms xs)

    -- steps, before what follows
    pub shown_steps : Steps → Form → Forms
    shown_steps here end = one end
    shown_steps (at e steps) end = form (formed (codes "at") (one (shown_exp e))) (shown_steps steps end)
    shown_steps (part i steps) end = form (formed (codes "part") (one (word (numeral i)))) (shown_steps steps end)

    -- the statements and the end of a block
    pub shown_rest : Block → Forms
    shown_rest (let_in p r b) = form (formed (codes "let") (two (shown_pattern p) (shown_rhs r))) (shown_rest b)
    shown_rest (do_in r b) = form (formed (codes "do") (one (shown_rhs r))) (shown_rest b)
    shown_rest (set_in k r b) = form (formed (codes "set") (shown_local k (one (shown_rhs r)))) (shown_rest b)
    shown_rest (place_in o k steps r b) =
        form (formed (codes "place") (form (operator o) (shown_local k (shown_steps steps (shown_rhs r))))) (shown_rest b)
    shown_rest (for_in i lo hi body b) =
        form (formed (codes "for") (shown_local i (form (shown_exp lo) (two (shown_exp hi) (framed (shown_rest body)))))) (shown_rest b)
    shown_rest (ends r) = one (shown_rhs r)
    shown_rest (returns e) = one (formed (codes "return") (one (shown_exp e)))
    shown_rest (bind z p r b) = one (formed (codes "bind") (form (around_word z) (form (shown_pattern p) (two (shown_rhs r) (framed (shown_rest b))))))

  -- a parameter
  abbrev pub shown_param : Param → Form
  shown_param p = formed (mode_word p.mode) (shown_local p.local (one (shown_type table p.type)))

  abbrev pub shown_params : List Param → Forms
  shown_params [] = no_forms
  shown_params (p ∷ ps) = form (shown_param p) (shown_params ps)

  -- a function
  abbrev pub shown_function : Function → Form
  shown_function f =
      formed (codes "fn")
      (form (word f.name) (form (between (shown_params f.params)) (two (shown_type table f.type) (framed (shown_rest f.body)))))

-- the text of a program: a line for each function, in the order of items
abbrev pub text : Program → List ℕ
text p = lines_of (map (shown_function p.types) p.functions)
