-- What a text can write of a module: its names, its numbers, how many parts its forms have, and where a `let` stands.
use Rattle.std.specs.Prelude.{◌≡◌, ⊤, ℕ, suc, ◌^◌, ◌<◌, ◌≤◌, List, [], ◌∷◌, length, Bool, false, true, ◌&&◌, not, leb, bytes_eq, codes, IsTrue, IsFalse}
use Rattle.std.specs.List.{list_all}
use Rattle.hs_base.specs.Names.{is_upper, is_word_byte, is_name}
use Rattle.hs_words.specs.Word.{Integer}
use Rattle.hs_words.specs.Arithmetic.{is_in_range}
use Rattle.hs_ops.specs.Known.{is_known}
use Rattle.hs_ops.specs.Names.{name_of}
use Rattle.hs_ops.specs.declared.operation.Operation.{Operation}
use Rattle.hs_em.specs.Plain.{Name, Var, Ty, unit_type, bool_type, int_type, seq_type, option_type, result_type, tuple_type, named_type, Tys, no_types, type, Pat, binds, anything, parts, taken, Pats, no_patterns, pattern, Arm, on_ctor, on_parts, on_none, on_holder, on_any, Em, lets, local, const, ctor, none, truth, unit, lit, build, op, wrap, call, tuple, list, if_else, match_on, bind, fold, Ems, no_ems, em, Cases, no_cases, case, Lets, no_lets, bound, Exp, Ctor, Kind, array, ctors, TypeDef, Const, Par, Def, Module}

-- whether the text begins with an upper-case letter
abbrev pub begins_upper : List ℕ → Bool
begins_upper [] = false
begins_upper (b ∷ bs) = is_upper b

-- whether the text is a module's name: at most 64 letters, digits and `_`, an upper-case letter first, not `Hs_prelude`
abbrev pub is_module_name : List ℕ → Bool
is_module_name w = begins_upper w && list_all is_word_byte w && leb (length w) 64 && not (bytes_eq w (codes "Hs_prelude"))

-- how many there are
abbrev pub types_count : Tys → ℕ
types_count no_types = 0
types_count (type t ts) = suc (types_count ts)

abbrev pub pats_count : Pats → ℕ
pats_count no_patterns = 0
pats_count (pattern p ps) = suc (pats_count ps)

abbrev pub count : {X : Type 0} → Ems X → ℕ
count no_ems = 0
count (em e es) = suc (count es)

abbrev pub cases_count : {X : Type 0} → Cases X → ℕ
cases_count no_cases = 0
cases_count (case a e cs) = suc (cases_count cs)

abbrev pub lets_count : {X : Type 0} → Lets X → ℕ
lets_count no_lets = 0
lets_count (bound p a ls) = suc (lets_count ls)

-- a local's name is a name, and its number a usize
abbrev pub SpelledVar : Var → Type 0
SpelledVar x = IsTrue (is_name x.name) × (x.number < 2 ^ 64)

abbrev mutual
  -- a type's names are names, and a tuple has two parts or more
  pub SpelledTy : Ty → Type 0
  SpelledTy unit_type = ⊤
  SpelledTy bool_type = ⊤
  SpelledTy (int_type k) = ⊤
  SpelledTy (seq_type t) = SpelledTy t
  SpelledTy (option_type t) = SpelledTy t
  SpelledTy (result_type good bad) = SpelledTy good × SpelledTy bad
  SpelledTy (tuple_type ts) = (2 ≤ types_count ts) × SpelledTys ts
  SpelledTy (named_type name) = IsTrue (is_name name)

  pub SpelledTys : Tys → Type 0
  SpelledTys no_types = ⊤
  SpelledTys (type t ts) = SpelledTy t × SpelledTys ts

abbrev mutual
  -- so it is with patterns; a constructor in brackets has a part
  pub SpelledPat : Pat → Type 0
  SpelledPat (binds x) = SpelledVar x
  SpelledPat anything = ⊤
  SpelledPat (parts ps) = (2 ≤ pats_count ps) × SpelledPats ps
  SpelledPat (taken t name ps) = IsTrue (is_name t) × IsTrue (is_name name) × (1 ≤ pats_count ps) × SpelledPats ps

  pub SpelledPats : Pats → Type 0
  SpelledPats no_patterns = ⊤
  SpelledPats (pattern p ps) = SpelledPat p × SpelledPats ps

abbrev pub SpelledArm : Arm → Type 0
SpelledArm (on_ctor t name) = IsTrue (is_name t) × IsTrue (is_name name)
SpelledArm (on_parts t name ps) = IsTrue (is_name t) × IsTrue (is_name name) × (1 ≤ pats_count ps) × SpelledPats ps
SpelledArm on_none = ⊤
SpelledArm (on_holder h p) = SpelledPat p
SpelledArm on_any = ⊤

-- whether the expression is a run of bindings
abbrev pub is_let : {X : Type 0} → Em X → Bool
is_let (lets ls e) = true
is_let (local x) = false
is_let (const name) = false
is_let (ctor t name) = false
is_let none = false
is_let (truth b) = false
is_let unit = false
is_let (lit n) = false
is_let (build t name es) = false
is_let (op name es) = false
is_let (wrap w e) = false
is_let (call name es) = false
is_let (tuple es) = false
is_let (list es) = false
is_let (if_else a b c) = false
is_let (match_on e cs) = false
is_let (bind z e p b) = false
is_let (fold how low high first x p b) = false

-- the name is that of an operation, but not `q_list`, whose operands stand in brackets of their own
abbrev pub IsOp : Name → Type 0
IsOp name = ((o : Operation) × IsTrue (is_known o) × (name_of o ≡ name)) × IsFalse (bytes_eq name (codes "q_list"))

-- a number of its kind
abbrev pub SpelledNumber : Integer → Type 0
SpelledNumber n = IsTrue (is_in_range n.kind n.number)

abbrev mutual
  -- an expression that the grammar derives as E: names and numbers are those that it writes, a form has as many parts as it
  -- writes, a run of bindings has one, and what follows it is none
  pub SpelledEm : Exp → Type 0
  SpelledEm (lets ls e) = (1 ≤ lets_count ls) × SpelledLets ls × IsFalse (is_let e) × SpelledEm e
  SpelledEm (local x) = SpelledVar x
  SpelledEm (const name) = IsTrue (is_name name)
  SpelledEm (ctor t name) = IsTrue (is_name t) × IsTrue (is_name name)
  SpelledEm none = ⊤
  SpelledEm (truth b) = ⊤
  SpelledEm unit = ⊤
  SpelledEm (lit n) = SpelledNumber n
  SpelledEm (build t name es) = IsTrue (is_name t) × IsTrue (is_name name) × (1 ≤ count es) × SpelledEms es
  SpelledEm (op name es) = IsOp name × (1 ≤ count es) × SpelledEms es
  SpelledEm (wrap w e) = IsFalse (is_let e) × SpelledEm e
  SpelledEm (call name es) = IsTrue (is_name name) × SpelledEms es
  SpelledEm (tuple es) = (2 ≤ count es) × SpelledEms es
  SpelledEm (list es) = (1 ≤ count es) × SpelledEms es
  SpelledEm (if_else a b c) = SpelledEm a × SpelledEm b × SpelledEm c
  SpelledEm (match_on e cs) = SpelledEm e × (1 ≤ cases_count cs) × SpelledCases cs
  SpelledEm (bind z e p b) = SpelledEm e × SpelledPat p × SpelledEm b
  SpelledEm (fold how low high first x p b) =
      IsFalse (is_let low) × SpelledEm low × IsFalse (is_let high) × SpelledEm high × IsFalse (is_let first) × SpelledEm first
      × SpelledVar x × SpelledPat p × SpelledEm b

  -- operands, each of which the grammar derives as R: none is a run of bindings
  pub SpelledEms : Ems Var → Type 0
  SpelledEms no_ems = ⊤
  SpelledEms (em e es) = IsFalse (is_let e) × SpelledEm e × SpelledEms es

  pub SpelledCases : Cases Var → Type 0
  SpelledCases no_cases = ⊤
  SpelledCases (case a e cs) = SpelledArm a × SpelledEm e × SpelledCases cs

  pub SpelledLets : Lets Var → Type 0
  SpelledLets no_lets = ⊤
  SpelledLets (bound p a ls) = SpelledPat p × SpelledEm a × SpelledLets ls

-- all of a list are spelled
abbrev pub Each : {A : Type 0} → (A → Type 0) → List A → Type 0
Each P [] = ⊤
Each P (x ∷ xs) = P x × Each P xs

abbrev pub SpelledCtor : Ctor → Type 0
SpelledCtor c = IsTrue (is_name c.name) × SpelledTys c.parts

-- an array has 1 to 65,536 items, and a type with constructors has one
abbrev pub SpelledKind : Kind → Type 0
SpelledKind (array t n) = (1 ≤ n) × (n ≤ 65536) × SpelledTy t
SpelledKind (ctors cs) = (1 ≤ length cs) × Each SpelledCtor cs

abbrev pub SpelledType : TypeDef → Type 0
SpelledType t = IsTrue (is_name t.name) × SpelledKind t.kind

abbrev pub SpelledConst : Const → Type 0
SpelledConst c = IsTrue (is_name c.name) × SpelledTy c.type × SpelledEm c.body

abbrev pub SpelledPar : Par → Type 0
SpelledPar p = SpelledVar p.local × SpelledTy p.type

abbrev pub SpelledDef : Def → Type 0
SpelledDef d = IsTrue (is_name d.name) × Each SpelledPar d.params × SpelledTy d.result × SpelledEm d.body

-- a text can write the module
pub record Spelled (m : Module) : Type 0 where
  pub name : IsTrue (is_module_name m.name)
  pub types : Each SpelledType m.types
  pub consts : Each SpelledConst m.consts
  pub defs : Each SpelledDef m.defs
