-- What a text can write of a module: its names and numbers.
use Rattle.std.specs.Prelude.{◌≡◌, ◌≢◌, ℕ, ◌^◌, ◌<◌, List, [], ◌∷◌, length, Bool, true, false, ◌&&◌, not, leb, bytes_eq, codes}
use Rattle.std.specs.List.{list_all}
use Rattle.hs_base.specs.Names.{is_upper, is_word_byte, is_name}
use Rattle.hs_first_em.specs.Plain.{EmVar, Em, local, number, op, bind, given, Ems, no_ems, em, EmPar, EmDef, Module}

-- whether the text begins with an upper-case letter
abbrev pub begins_upper : List ℕ → Bool
begins_upper [] = false
begins_upper (b ∷ bs) = is_upper b

-- whether the text is a module's name: at most 64 letters, digits and `_`, an upper-case letter first, not `Hs_prelude`
abbrev pub is_module_name : List ℕ → Bool
is_module_name w = begins_upper w && list_all is_word_byte w && leb (length w) 64 && not (bytes_eq w (codes "Hs_prelude"))

-- a local's name is a name, and its number a usize
abbrev pub SpelledVar : EmVar → Type 0
SpelledVar x = (is_name x.name ≡ true) × (x.number < 2 ^ 64)

-- whether the expression is a `let`
abbrev pub is_let : Em → Bool
is_let (bind x a b) = true
is_let (local x) = false
is_let (number n) = false
is_let (op w es) = false
is_let (given v) = false

abbrev mutual
  -- names and numbers are those that the grammar writes, no operand is a `let`, and no value stands in the place of a local
  pub SpelledEm : Em → Type 0
  SpelledEm (local x) = SpelledVar x
  SpelledEm (number n) = n < 2 ^ 32
  SpelledEm (op w es) = (w ≡ codes "u32_add") × (es ≢ no_ems) × SpelledEms es
  SpelledEm (bind x a b) = SpelledVar x × SpelledEm a × SpelledEm b
  SpelledEm (given v) = ⊥

  pub SpelledEms : Ems → Type 0
  SpelledEms no_ems = Unit {0}
  SpelledEms (em e es) = (is_let e ≡ false) × SpelledEm e × SpelledEms es

abbrev pub SpelledPars : List EmPar → Type 0
SpelledPars [] = Unit {0}
SpelledPars (p ∷ ps) = SpelledVar p.var × SpelledPars ps

abbrev pub SpelledDefs : List EmDef → Type 0
SpelledDefs [] = Unit {0}
SpelledDefs (d ∷ ds) = ((is_name d.name ≡ true) × SpelledPars d.params × SpelledEm d.body) × SpelledDefs ds

-- a text can write the module
pub record Spelled (m : Module) : Type 0 where
  pub name : is_module_name m.name ≡ true
  pub defs : SpelledDefs m.defs
