-- The plain module that a module stands for.
use Rattle.std.specs.Prelude.{List, [], ◌∷◌, map}
use Rattle.hs_em.specs.Plain as plain
use Rattle.hs_em.specs.declared.module.EmVar.{EmVar}
use Rattle.hs_em.specs.declared.module.EmTy.{EmTy}
use Rattle.hs_em.specs.declared.module.EmTy.TheOpen.{EmTy-F}
use Rattle.hs_em.specs.declared.module.EmTy.TheFolds.{fold-EmTy}
use Rattle.hs_em.specs.declared.module.EmPat.{EmPat}
use Rattle.hs_em.specs.declared.module.EmPat.TheOpen.{EmPat-F}
use Rattle.hs_em.specs.declared.module.EmPat.TheFolds.{fold-EmPat}
use Rattle.hs_em.specs.declared.module.EmHolder.{EmHolder}
use Rattle.hs_em.specs.declared.module.EmHolder.TheVariants as holder
use Rattle.hs_em.specs.declared.module.EmArm.{EmArm}
use Rattle.hs_em.specs.declared.module.EmArm.TheVariants as arm
use Rattle.hs_em.specs.declared.module.EmWrap.{EmWrap}
use Rattle.hs_em.specs.declared.module.EmWrap.TheVariants as wrap
use Rattle.hs_em.specs.declared.module.EmAround.{EmAround}
use Rattle.hs_em.specs.declared.module.EmAround.TheVariants as around
use Rattle.hs_em.specs.declared.module.EmFold.{EmFold}
use Rattle.hs_em.specs.declared.module.EmFold.TheVariants as folding
use Rattle.hs_em.specs.declared.module.Em.{Em}
use Rattle.hs_em.specs.declared.module.Em.TheOpen.{Em-F, EmCase-F, EmLet-F, EmTurns-F}
use Rattle.hs_em.specs.declared.module.Em.TheFolds.{fold-Em}
use Rattle.hs_em.specs.declared.module.EmCtor.{EmCtor}
use Rattle.hs_em.specs.declared.module.EmKind.{EmKind}
use Rattle.hs_em.specs.declared.module.EmKind.TheVariants as kind
use Rattle.hs_em.specs.declared.module.EmType.{EmType}
use Rattle.hs_em.specs.declared.module.EmConst.{EmConst}
use Rattle.hs_em.specs.declared.module.EmPar.{EmPar}
use Rattle.hs_em.specs.declared.module.EmDef.{EmDef}
use Rattle.hs_em.specs.declared.module.Module.{Module}

-- a local
abbrev pub var_of : EmVar → plain.Var
var_of x = record { name = x.name; number = x.number }

-- a type, whose parts are plain already
abbrev pub ty_step : EmTy-F plain.Ty → plain.Ty
ty_step EmTy-F.Unit = plain.unit_type
ty_step EmTy-F.Bool = plain.bool_type
ty_step (EmTy-F.Int k) = plain.int_type k
ty_step (EmTy-F.Seq t) = plain.seq_type t
ty_step (EmTy-F.Option t) = plain.option_type t
ty_step (EmTy-F.Result good bad) = plain.result_type good bad
ty_step (EmTy-F.Tuple ts) = plain.tuple_type (plain.tys_of ts)
ty_step (EmTy-F.Named name) = plain.named_type name

abbrev pub ty_of : EmTy → plain.Ty
ty_of = fold-EmTy plain.Ty ty_step

-- a pattern, whose parts are plain already
abbrev pub pat_step : EmPat-F plain.Pat → plain.Pat
pat_step (EmPat-F.Var x) = plain.binds (var_of x)
pat_step EmPat-F.Any = plain.anything
pat_step (EmPat-F.Tuple ps) = plain.parts (plain.pats_of ps)
pat_step (EmPat-F.Ctor t name ps) = plain.taken t name (plain.pats_of ps)

abbrev pub pat_of : EmPat → plain.Pat
pat_of = fold-EmPat plain.Pat pat_step

abbrev pub holder_of : EmHolder → plain.Holder
holder_of holder.Some = plain.some
holder_of holder.Ok = plain.ok
holder_of holder.Err = plain.err

-- what an arm takes
abbrev pub arm_of : EmArm → plain.Arm
arm_of (arm.Ctor t name) = plain.on_ctor t name
arm_of (arm.Parts t name ps) = plain.on_parts t name (plain.pats_of (map pat_of ps))
arm_of arm.None = plain.on_none
arm_of (arm.Holder h p) = plain.on_holder (holder_of h) (pat_of p)
arm_of arm.Any = plain.on_any

abbrev pub wrap_of : EmWrap → plain.Wrap
wrap_of (wrap.Holder h) = plain.holder (holder_of h)
wrap_of wrap.Exit = plain.exit
wrap_of wrap.Cont = plain.cont

abbrev pub around_of : EmAround → plain.Around
around_of around.Top = plain.top
around_of around.Inside = plain.inside

abbrev pub folding_of : EmFold → plain.Folding
folding_of folding.Whole = plain.whole
folding_of folding.Control = plain.control

-- each put before what follows, the last one before the end
abbrev pub chained : {A : Type 0} → List (A → A) → A → A
chained [] end = end
chained (f ∷ fs) end = f (chained fs end)

-- a case before others, a binding before others, and what a fold has by whether control values end it: what the parts of an
-- expression are where the parts of these are plain already
abbrev pub CaseOf : Type 0
CaseOf = plain.Cases plain.Var → plain.Cases plain.Var

abbrev pub LetOf : Type 0
LetOf = plain.Lets plain.Var → plain.Lets plain.Var

abbrev pub TurnsOf : Type 0
TurnsOf = plain.Folding → plain.Exp

-- an expression, whose parts are plain already
abbrev pub em_step : Em-F plain.Exp CaseOf LetOf TurnsOf → plain.Exp
em_step (Em-F.Let ls e) = plain.lets (chained ls plain.no_lets) e
em_step (Em-F.Var x) = plain.local (var_of x)
em_step (Em-F.Const name) = plain.const name
em_step (Em-F.Ctor t name) = plain.ctor t name
em_step Em-F.None = plain.none
em_step (Em-F.Truth b) = plain.truth b
em_step Em-F.Unit = plain.unit
em_step (Em-F.Lit n) = plain.lit n
em_step (Em-F.Parts t name es) = plain.build t name (plain.ems_of es)
em_step (Em-F.Op name es) = plain.op name (plain.ems_of es)
em_step (Em-F.Wrap w e) = plain.wrap (wrap_of w) e
em_step (Em-F.Call name es) = plain.call name (plain.ems_of es)
em_step (Em-F.Tuple es) = plain.tuple (plain.ems_of es)
em_step (Em-F.List es) = plain.list (plain.ems_of es)
em_step (Em-F.If a b c) = plain.if_else a b c
em_step (Em-F.Match e cs) = plain.match_on e (chained cs plain.no_cases)
em_step (Em-F.Bind z e p b) = plain.bind (around_of z) e (pat_of p) b
em_step (Em-F.Fold how t) = t (folding_of how)

abbrev pub case_step : EmCase-F plain.Exp CaseOf LetOf TurnsOf → CaseOf
case_step c = plain.case (arm_of c.arm) c.body

abbrev pub let_step : EmLet-F plain.Exp CaseOf LetOf TurnsOf → LetOf
let_step b = plain.bound (pat_of b.pattern) b.value

abbrev pub turns_step : EmTurns-F plain.Exp CaseOf LetOf TurnsOf → TurnsOf
turns_step t how = plain.fold how t.low t.high t.first (var_of t.variable) (pat_of t.pattern) t.body

-- an expression
abbrev pub em_of : Em → plain.Exp
em_of = fold-Em plain.Exp CaseOf LetOf TurnsOf em_step case_step let_step turns_step

-- a constructor of a type
abbrev pub ctor_of : EmCtor → plain.Ctor
ctor_of c = record { name = c.name; parts = plain.tys_of (map ty_of c.parts) }

abbrev pub kind_of : EmKind → plain.Kind
kind_of (kind.Array t n) = plain.array (ty_of t) n
kind_of (kind.Ctors cs) = plain.ctors (map ctor_of cs)

-- a type with a name
abbrev pub type_of : EmType → plain.TypeDef
type_of t = record { name = t.name; kind = kind_of t.kind }

-- a constant
abbrev pub const_of : EmConst → plain.Const
const_of c = record { name = c.name; type = ty_of c.ty; body = em_of c.body }

-- a parameter
abbrev pub par_of : EmPar → plain.Par
par_of p = record { local = var_of p.local; type = ty_of p.ty }

-- a definition
abbrev pub def_of : EmDef → plain.Def
def_of d = record { name = d.name; params = map par_of d.params; result = ty_of d.result; body = em_of d.body }

-- a module
abbrev pub module_of : Module → plain.Module
module_of m =
    record { name = m.name; types = map type_of m.types; consts = map const_of m.consts; defs = map def_of m.defs }
