-- The plain module that a module stands for.
use Rattle.std.specs.Prelude.{List, [], ◌∷◌, map}
use Rattle.hs_first_tree.specs.Value as value
use Rattle.hs_first_em.specs.Plain as plain
use Rattle.hs_first_em.specs.declared.module.EmTy.{EmTy}
use Rattle.hs_first_em.specs.declared.module.EmTy.TheVariants.{U32}
use Rattle.hs_first_em.specs.declared.module.EmVar.{EmVar}
use Rattle.hs_first_em.specs.declared.module.Em.{Em, fold-Em}
use Rattle.hs_first_em.specs.declared.module.Em.TheOpen.{Em-F}
use Rattle.hs_first_em.specs.declared.module.EmPar.{EmPar}
use Rattle.hs_first_em.specs.declared.module.EmDef.{EmDef}
use Rattle.hs_first_em.specs.declared.module.Module.{Module}

-- a type
abbrev pub type_of : EmTy → value.ValType
type_of U32 = value.U32

-- a local
abbrev pub var_of : EmVar → plain.EmVar
var_of x = record { name = x.name; number = x.number }

-- operands, from a list of them
abbrev pub ems_of : List plain.Em → plain.Ems
ems_of [] = plain.no_ems
ems_of (e ∷ es) = plain.em e (ems_of es)

-- an expression, whose parts are plain already
abbrev pub em_step : Em-F plain.Em → plain.Em
em_step (Em-F.Var x) = plain.local (var_of x)
em_step (Em-F.Lit n) = plain.number n
em_step (Em-F.Op w es) = plain.op w (ems_of es)
em_step (Em-F.Let x a b) = plain.bind (var_of x) a b

-- an expression
abbrev pub em_of : Em → plain.Em
em_of = fold-Em plain.Em em_step

-- a parameter
abbrev pub par_of : EmPar → plain.EmPar
par_of p = record { var = var_of p.local; type = type_of p.ty }

-- a definition
abbrev pub def_of : EmDef → plain.EmDef
def_of d = record { name = d.name; params = map par_of d.params; returns = type_of d.result; body = em_of d.body }

-- a module
abbrev pub module_of : Module → plain.Module
module_of m = record { name = m.name; defs = map def_of m.defs }
