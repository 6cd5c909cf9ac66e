-- Modules by hand, on whose meanings and texts rows compute.
use Rattle.std.specs.Prelude.{ℕ, true, false, List, [], ◌∷◌, codes, pos}
use Rattle.hs_words.specs.declared.kinds.IntTy.{IntTy}
use Rattle.hs_words.specs.declared.kinds.IntTy.TheVariants.{PU8, PU32, PUsize, PI8}
use Rattle.hs_em.specs.Plain.{Name, Var, Ty, unit_type, bool_type, int_type, option_type, tuple_type, named_type, no_types, type, Pat, binds, anything, parts, taken, no_patterns, pattern, some, on_ctor, on_parts, on_none, on_holder, on_any, holder, exit, cont, top, inside, whole, control, Em, lets, local, const, ctor, none, truth, unit, lit, build, op, wrap, call, tuple, list, if_else, match_on, bind, fold, Ems, no_ems, em, no_cases, case, Lets, no_lets, bound, Exp, array, ctors, TypeDef, Const, Par, Def, Module}

abbrev pub var : Name → ℕ → Var
var name k = record { name = name; number = k }

abbrev pub at : Name → ℕ → Exp
at name k = local (var name k)

abbrev pub to : Name → ℕ → Pat
to name k = binds (var name k)

abbrev pub par : Name → ℕ → Ty → Par
par name k t = record { local = var name k; type = t }

abbrev pub number : IntTy → ℕ → Exp
number kind n = lit (record { kind = kind; number = pos n })

abbrev pub one : Exp → Ems Var
one e = em e no_ems

abbrev pub two : Exp → Exp → Ems Var
two a b = em a (em b no_ems)

abbrev pub let_one : Pat → Exp → Exp → Exp
let_one p a e = lets (bound p a no_lets) e

-- a module of definitions alone
abbrev pub defs_of : Name → List Def → Module
defs_of name ds = record { name = name; types = []; consts = []; defs = ds }

abbrev pub u32 : Ty
u32 = int_type PU32

-- let f_add (v_a_0 : u32) (v_b_1 : u32) : u32 = (u32_add v_a_0 v_b_1)
abbrev pub add : Def
add =
    record {
      name = codes "add";
      params = par (codes "a") 0 u32 ∷ par (codes "b") 1 u32 ∷ [];
      result = u32;
      body = op (codes "u32_add") (two (at (codes "a") 0) (at (codes "b") 1));
    }

abbrev pub adds : Module
adds = defs_of (codes "Add") (add ∷ [])

abbrev pub empty : Module
empty = defs_of (codes "Empty") []

-- a local is hidden by a later binding of the same number, and not by one of another
abbrev pub g : Def
g = record { name = codes "g"; params = par (codes "y") 0 u32 ∷ []; result = u32; body = at (codes "y") 0 }

abbrev pub h_inner : Exp
h_inner =
    lets
    (bound (to (codes "x") 1) (number PU32 5)
    (bound (to (codes "x") 2) (number PU32 7) (bound anything (call (codes "g") (one (at (codes "x") 2))) no_lets)))
    (at (codes "x") 1)

abbrev pub h : Def
h =
    record {
      name = codes "h";
      params = par (codes "c") 0 bool_type ∷ [];
      result = u32;
      body =
          lets
          (bound (to (codes "x") 1) (number PU32 0)
          (bound (to (codes "x") 1) (if_else (at (codes "c") 0) h_inner (at (codes "x") 1)) no_lets))
          (at (codes "x") 1);
    }

abbrev pub capture : Module
capture = defs_of (codes "Capture") (g ∷ h ∷ [])

-- an operand is frozen before a later one assigns its local
abbrev pub f : Def
f =
    record {
      name = codes "f";
      params = [];
      result = u32;
      body =
          lets
          (bound (to (codes "x") 0) (number PU32 1)
          (bound (to (codes "t") 1) (at (codes "x") 0)
          (bound (to (codes "x") 0) (number PU32 5) (bound (to (codes "t") 2) (at (codes "x") 0) no_lets))))
          (op (codes "u32_add") (two (at (codes "t") 1) (at (codes "t") 2)));
    }

abbrev pub frozen : Module
frozen = defs_of (codes "Frozen") (f ∷ [])

-- the sum of the numbers below a number
abbrev pub sum : Def
sum =
    record {
      name = codes "sum";
      params = par (codes "n") 0 (int_type PUsize) ∷ [];
      result = int_type PUsize;
      body =
          lets
          (bound (to (codes "s") 1) (number PUsize 0)
          (bound (to (codes "s") 1)
          (fold whole (number PUsize 0) (at (codes "n") 0) (at (codes "s") 1) (var (codes "i") 2) (to (codes "s") 1)
          (lets
          (bound (to (codes "t") 3) (at (codes "i") 2)
          (bound (to (codes "s") 1) (op (codes "usize_add") (two (at (codes "s") 1) (at (codes "t") 3))) no_lets))
          (at (codes "s") 1)))
          no_lets))
          (at (codes "s") 1);
    }

-- a fold from a number up to one that is not above it, applied no time
abbrev pub over_none : ℕ → ℕ → Exp
over_none low high = fold whole (number PUsize low) (number PUsize high) (number PU32 3) (var (codes "i") 0) anything (number PU32 0)

abbrev pub e : Def
e =
    record {
      name = codes "e";
      params = [];
      result = u32;
      body =
          lets
          (bound anything (over_none 5 3) (bound anything (over_none 0 0) no_lets))
          (over_none 18446744073709551615 18446744073709551615);
    }

abbrev pub loops : Module
loops = defs_of (codes "Loops") (sum ∷ e ∷ [])

-- a type with a constructor without parts and one with two
abbrev pub choice : TypeDef
choice =
    record {
      name = codes "E";
      kind =
          ctors
          (record { name = codes "A"; parts = no_types }
          ∷ record { name = codes "B"; parts = type (int_type PU8) (type bool_type no_types) } ∷ []);
    }

-- the number in a value of the type
abbrev pub number_of : Def
number_of =
    record {
      name = codes "number";
      params = par (codes "x") 0 (named_type (codes "E")) ∷ [];
      result = int_type PU8;
      body =
          match_on (at (codes "x") 0)
          (case (on_ctor (codes "E") (codes "A")) (number PU8 0)
          (case (on_parts (codes "E") (codes "B") (pattern (to (codes "n") 1) (pattern anything no_patterns))) (at (codes "n") 1) no_cases));
    }

-- the first number from 0 on, below 4, that is the argument
abbrev pub find : Def
find =
    record {
      name = codes "find";
      params = par (codes "k") 0 (int_type PUsize) ∷ [];
      result = option_type (int_type PUsize);
      body =
          bind top
          (fold control (number PUsize 0) (number PUsize 4) unit (var (codes "i") 1) anything
          (if_else (op (codes "same") (two (at (codes "i") 1) (at (codes "k") 0)))
          (wrap exit (wrap (holder some) (at (codes "i") 1))) (wrap cont unit)))
          anything none;
    }

abbrev pub kept : Const
kept = record { name = codes "kept"; type = named_type (codes "E"); body = build (codes "E") (codes "B") (two (number PU8 9) (truth true)) }

abbrev pub choices : Module
choices = record { name = codes "Choices"; types = choice ∷ []; consts = kept ∷ []; defs = number_of ∷ find ∷ [] }

-- a definition with this body, and the module of it
abbrev pub body_alone : Ty → Exp → Module
body_alone t b = defs_of (codes "Alone") (record { name = codes "f"; params = []; result = t; body = b } ∷ [])
