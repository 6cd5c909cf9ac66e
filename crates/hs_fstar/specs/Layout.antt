-- The one printed text of a module.
use Rattle.std.specs.Prelude.{ℕ, zero, suc, ◌+◌, Bool, true, false, List, [], ◌∷◌, ◌++◌, flat_map, codes, decimal}
use Rattle.hs_first_em.specs.Plain.{Em, local, number, op, bind, given, Ems, no_ems, em, EmPar, EmDef, Module}
use Rattle.hs_first_em.specs.Spelled.{is_let}
use Rattle.hs_fstar.specs.Reads.{var_text, type_text}

-- an indent
abbrev pub spaces : ℕ → List ℕ
spaces zero = []
spaces (suc n) = 32 ∷ spaces n

-- what a local is bound to, with the `in` behind it: on the line; or, where it is a `let`, on lines of its own at two spaces more
abbrev pub bound_text : Bool → ℕ → (ℕ → List ℕ) → List ℕ
bound_text false n e = codes " " ++ (e n ++ codes " in")
bound_text true n e = 10 ∷ (spaces (n + 2) ++ (e (n + 2) ++ (10 ∷ (spaces n ++ codes "in"))))

abbrev mutual
  -- an expression at an indent, without the indent before its first line; a `let` has a line, and what follows it the next
  pub em_text : ℕ → Em → List ℕ
  em_text n (local x) = var_text x
  em_text n (number k) = codes "(u32_lit " ++ (decimal k ++ codes ")")
  em_text n (op w es) = codes "(" ++ (w ++ (ems_text n es ++ codes ")"))
  em_text n (bind x a b) =
      codes "let " ++ (var_text x ++ (codes " =" ++ (bound_text (is_let a) n (λ m. em_text m a) ++ (10 ∷ (spaces n ++ em_text n b)))))
  em_text n (given v) = []

  -- operands, a space before each
  pub ems_text : ℕ → Ems → List ℕ
  ems_text n no_ems = []
  ems_text n (em e es) = codes " " ++ (em_text n e ++ ems_text n es)

-- a parameter, with the space before it
abbrev pub par_text : EmPar → List ℕ
par_text p = codes " (" ++ (var_text p.var ++ (codes " : " ++ (type_text p.type ++ codes ")")))

-- the parameters of a definition
abbrev pub pars_text : List EmPar → List ℕ
pars_text [] = codes " (_ : unit)"
pars_text (p ∷ ps) = par_text p ++ flat_map par_text ps

-- a definition behind an empty line: its header on a line, and its body at indent 2
abbrev pub def_text : EmDef → List ℕ
def_text d =
    10 ∷ (codes "let f_" ++ (d.name ++ (pars_text d.params ++ (codes " : " ++ (type_text d.returns ++ (codes " =" ++ (10 ∷ (spaces 2 ++ (em_text 2 d.body ++ (10 ∷ []))))))))))

-- the head, and each definition
abbrev pub layout : Module → List ℕ
layout m = codes "module " ++ (m.name ++ (10 ∷ 10 ∷ (codes "open Hs_prelude" ++ (10 ∷ flat_map def_text m.defs))))
