-- Names as they are printed.
use Rattle.std.specs.Prelude.{ℕ, List, ◌++◌, length, codes, decimal}
use Rattle.hs_em.specs.Plain.{Name, Var}

-- local K of the name N is `v_N_K`
abbrev pub var_word : Var → List ℕ
var_word x = codes "v_" ++ (x.name ++ (codes "_" ++ decimal x.number))

-- the type N is `t_N`, the constant N is `c_N`, the definition N is `f_N`
abbrev pub type_word : Name → List ℕ
type_word name = codes "t_" ++ name

abbrev pub const_word : Name → List ℕ
const_word name = codes "c_" ++ name

abbrev pub def_word : Name → List ℕ
def_word name = codes "f_" ++ name

-- the constructor N of the type T is `K_L_T_N`, with L the length of T
abbrev pub ctor_word : Name → Name → List ℕ
ctor_word type name = codes "K_" ++ (decimal (length type) ++ (codes "_" ++ (type ++ (codes "_" ++ name))))
