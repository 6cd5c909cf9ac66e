-- The emitted grammar: the tokens of each form of a module, one case for each alternative, and which text is which module.
use Rattle.std.specs.Prelude.{◌≡◌, ℕ, List, [], ◌∷◌, ◌++◌, flat_map, codes, decimal, Some}
use Rattle.hs_first_tree.specs.Value.{ValType, U32}
use Rattle.hs_first_em.specs.Plain.{EmVar, Em, local, number, op, bind, given, Ems, no_ems, em, EmPar, EmDef, Module}
use Rattle.hs_first_em.specs.Spelled.{Spelled}
use Rattle.hs_fstar.specs.Tokens.{Token, Word, Mark, tokens_of}

-- a local as it is printed
abbrev pub var_text : EmVar → List ℕ
var_text x = codes "v_" ++ (x.name ++ (codes "_" ++ decimal x.number))

-- a type as it is printed
abbrev pub type_text : ValType → List ℕ
type_text U32 = codes "u32"

abbrev mutual
  -- E ::= 'let' VNAME '=' E 'in' E | R, and R ::= VNAME | '(' 'u32_lit' N ')' | '(' OP R+ ')';
  -- a value in the place of a local has no text
  pub em_tokens : Em → List Token
  em_tokens (local x) = Word (var_text x) ∷ []
  em_tokens (number n) = Mark 40 ∷ Word (codes "u32_lit") ∷ Word (decimal n) ∷ Mark 41 ∷ []
  em_tokens (op w es) = Mark 40 ∷ Word w ∷ (ems_tokens es ++ (Mark 41 ∷ []))
  em_tokens (bind x a b) = Word (codes "let") ∷ Word (var_text x) ∷ Mark 61 ∷ (em_tokens a ++ (Word (codes "in") ∷ em_tokens b))
  em_tokens (given v) = []

  -- R+
  pub ems_tokens : Ems → List Token
  ems_tokens no_ems = []
  ems_tokens (em e es) = em_tokens e ++ ems_tokens es

-- Par ::= '(' VNAME ':' Ty ')'
abbrev pub par_tokens : EmPar → List Token
par_tokens p = Mark 40 ∷ Word (var_text p.var) ∷ Mark 58 ∷ Word (type_text p.type) ∷ Mark 41 ∷ []

-- Par+ | '(' '_' ':' 'unit' ')'
abbrev pub pars_tokens : List EmPar → List Token
pars_tokens [] = Mark 40 ∷ Word (codes "_") ∷ Mark 58 ∷ Word (codes "unit") ∷ Mark 41 ∷ []
pars_tokens (p ∷ ps) = par_tokens p ++ flat_map par_tokens ps

-- Def ::= 'let' FNAME Pars ':' Ty '=' E
abbrev pub def_tokens : EmDef → List Token
def_tokens d =
    Word (codes "let") ∷ Word (codes "f_" ++ d.name)
    ∷ (pars_tokens d.params ++ (Mark 58 ∷ Word (type_text d.returns) ∷ Mark 61 ∷ em_tokens d.body))

-- Module ::= 'module' NAME 'open' 'Hs_prelude' Def*
abbrev pub module_tokens : Module → List Token
module_tokens m =
    Word (codes "module") ∷ Word m.name ∷ Word (codes "open") ∷ Word (codes "Hs_prelude") ∷ flat_map def_tokens m.defs

-- the text reads as the module
pub record Reads (text : List ℕ) (m : Module) : Type 0 where
  pub tokens : tokens_of text ≡ Some (module_tokens m)
  pub spelled : Spelled m
