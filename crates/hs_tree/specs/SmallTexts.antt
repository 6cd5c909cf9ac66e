-- Small programs, and their texts: a statement for each.
use Rattle.std.specs.Prelude.{◌≡◌, ℕ, [], ◌∷◌, pos, codes}
use Rattle.hs_words.specs.declared.kinds.IntTy.TheVariants.{PU32, PUsize}
use Rattle.hs_values.specs.declared.types.ValType.TheVariants as type
use Rattle.hs_tree.specs.Plain.{Name, Local, turns, binds, Exp, var, lit, unit, tuple, op, Exps, no_exps, exp, plain, carry, let_in, set_in, ends, val, Function, Program}
use Rattle.hs_tree.specs.Text.{text}

abbrev pub local : Name → ℕ → Local
local name k = record { name = name; number = k }

abbrev pub at : Name → ℕ → Exp
at name k = var (local name k)

abbrev pub lit_word : ℕ → Exp
lit_word n = lit (record { kind = PU32; number = pos n })

abbrev pub two : Exp → Exp → Exps
two a b = exp a (exp b no_exps)

abbrev pub program : Function → Program
program f = record { types = []; constants = []; functions = f ∷ [] }

-- fn f() -> u32 { let mut x = 1u32; x + { x = 5; x } }, without right sides inside expressions
abbrev pub FlatText : Type 0
FlatText = text (program (record {
  name = codes "f";
  params = [];
  type = type.Int PU32;
  body =
      let_in (binds (local (codes "x") 0)) (plain (lit_word 1))
      (let_in (binds (local (codes "t") 1)) (plain (at (codes "x") 0))
      (set_in (local (codes "x") 0) (plain (lit_word 5))
      (let_in (binds (local (codes "t") 2)) (plain (at (codes "x") 0))
      (ends (plain (op (codes "u32_add") (two (at (codes "t") 1) (at (codes "t") 2))))))));
})) ≡ codes "(fn f () u32 (block (let (var x 0) (lit u32 1)) (let (var t 1) (var x 0)) (set x 0 (lit u32 5)) (let (var t 2) (var x 0)) (op u32_add (var t 1) (var t 2))))\n"

-- fn f(z: &mut u32) { *z = 1; }, without mutable parameters
abbrev pub NoMutArgText : Type 0
NoMutArgText = text (program (record {
  name = codes "f";
  params = record { mode = val; local = local (codes "z") 0; type = type.Int PU32 } ∷ [];
  type = type.Tuple (type.Int PU32 ∷ type.Unit ∷ []);
  body = set_in (local (codes "z") 0) (plain (lit_word 1)) (ends (plain (tuple (two (at (codes "z") 0) unit))));
})) ≡ codes "(fn f ((val z 0 u32)) (u32 * unit) (block (set z 0 (lit u32 1)) (tuple (var z 0) unit)))\n"

-- fn sum(n: usize) -> usize { let mut s = 0; for i in 0..n { s += i; } s }, without assignments
abbrev pub NoAssignText : Type 0
NoAssignText = text (program (record {
  name = codes "sum";
  params = record { mode = val; local = local (codes "n") 0; type = type.Int PUsize } ∷ [];
  type = type.Int PUsize;
  body =
      let_in (binds (local (codes "s") 1)) (plain (lit (record { kind = PUsize; number = pos 0 })))
      (let_in (binds (local (codes "s") 1))
      (carry turns (local (codes "i") 2) (lit (record { kind = PUsize; number = pos 0 })) (at (codes "n") 0) (at (codes "s") 1) (binds (local (codes "s") 1))
      (let_in (binds (local (codes "t") 3)) (plain (at (codes "i") 2))
      (let_in (binds (local (codes "s") 1)) (plain (op (codes "usize_add") (two (at (codes "s") 1) (at (codes "t") 3))))
      (ends (plain (at (codes "s") 1))))))
      (ends (plain (at (codes "s") 1))));
})) ≡ codes "(fn sum ((val n 0 usize)) usize (block (let (var s 1) (lit usize 0)) (let (var s 1) (turns i 2 (lit usize 0) (var n 0) (var s 1) (var s 1) (block (let (var t 3) (var i 2)) (let (var s 1) (op usize_add (var s 1) (var t 3))) (var s 1)))) (var s 1)))\n"
