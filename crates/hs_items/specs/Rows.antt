-- Small files, to show that the definitions compute.
use Rattle.std.specs.Prelude.{ℕ, List, [], ◌∷◌, codes, false, Some, None}
use Rattle.hs_words.specs.declared.kinds.IntTy.TheVariants as int
use Rattle.hs_syntax.specs.declared.span.Span.{Span}
use Rattle.hs_syntax.specs.declared.span.Int.{Int}
use Rattle.hs_syntax.specs.declared.ty.Ty.{Ty, roll-Ty}
use Rattle.hs_syntax.specs.declared.ty.Ty.TheOpen as ty
use Rattle.hs_syntax.specs.declared.exp.Exp.{Exp, roll-Exp}
use Rattle.hs_syntax.specs.declared.exp.Block.{Block, roll-Block}
use Rattle.hs_syntax.specs.declared.exp.Arg.TheOpen as exp
use Rattle.hs_syntax.specs.declared.item.Item.{Item}
use Rattle.hs_syntax.specs.declared.item.ItemKind.{ItemKind}
use Rattle.hs_syntax.specs.declared.item.ItemKind.TheVariants as item
use Rattle.hs_syntax.specs.declared.item.Mode.TheVariants as mode
use Rattle.hs_syntax.specs.declared.file.File.{File}
use Rattle.hs_values.specs.declared.types.ValType.{ValType, roll-ValType}
use Rattle.hs_values.specs.declared.types.ValType.TheOpen as type
use Rattle.hs_values.specs.declared.types.TypeKind.TheVariants as kind
use Rattle.hs_values.specs.declared.types.TypeDef.{TypeDef}
use Rattle.hs_items.specs.declared.decls.Declaration.{Declaration}
use Rattle.hs_items.specs.declared.decls.Declaration.TheVariants as d
use Rattle.hs_items.specs.declared.decls.Passing.TheVariants as passing

abbrev pub between : ℕ → ℕ → Span
between start end = record { start = start; end = end }

abbrev pub type_at : Span → Ty
type_at s = roll-Ty (ty.Name s)

abbrev pub plain : Span → ItemKind → Item
plain s k = record { span = s; derives = []; kind = k }

abbrev pub int_at : Span → ℕ → Int
int_at s n = record { span = s; value = n; suffix = None }

-- struct S(T); struct T(u8);
abbrev pub chain : File
chain = record {
  text = codes "struct S(T); struct T(u8);";
  items =
      plain (between 0 12) (item.Struct (between 7 8) (type_at (between 9 10) ∷ []))
      ∷ plain (between 13 26) (item.Struct (between 20 21) (type_at (between 22 24) ∷ []))
      ∷ [];
}

abbrev pub data_def : List ℕ → ValType → TypeDef
data_def name part = record { name = name; copies = false; kind = kind.Ctors ((name, part ∷ []) ∷ []) }

-- T has number 0, S has number 1
abbrev pub chain_table : List TypeDef
chain_table = data_def (codes "T") (roll-ValType (type.Int int.PU8)) ∷ data_def (codes "S") (roll-ValType (type.Named 0)) ∷ []

-- #[derive(Copy)] struct S((u8, Seq<u8>));
abbrev pub moved_part : File
moved_part = record {
  text = codes "#[derive(Copy)] struct S((u8, Seq<u8>));";
  items =
      record {
        span = between 0 40;
        derives = between 9 13 ∷ [];
        kind = item.Struct (between 23 24) (roll-Ty (ty.Tuple (between 25 38) (type_at (between 26 28) ∷ roll-Ty (ty.Applied (between 30 37) (between 30 33) (type_at (between 34 36) ∷ [])) ∷ [])) ∷ []);
      }
      ∷ [];
}

-- fn f(x: &mut A) -> bool { 1 } type A = U8;
abbrev pub lent : File
lent = record {
  text = codes "fn f(x: &mut A) -> bool { 1 } type A = U8;";
  items =
      plain (between 0 29) (item.Fn (between 3 4) (record { span = between 5 14; mode = mode.Lent; name = between 5 6; ty = type_at (between 13 14) } ∷ []) (Some (type_at (between 19 23)))
      (roll-Block (record { span = between 24 29; statements = []; tail = Some (roll-Exp (exp.Int (int_at (between 26 27) 1))) })))
      ∷ plain (between 30 42) (item.Alias (between 35 36) (type_at (between 39 41)))
      ∷ [];
}

-- what a call gives is the parameter's final value and then the function's own result
abbrev pub lent_declares : Declaration
lent_declares = d.Function (record {
  header = record { name = codes "f"; params = roll-ValType (type.Int int.SU8) ∷ []; result = roll-ValType (type.Tuple (roll-ValType (type.Int int.SU8) ∷ roll-ValType type.Bool ∷ [])) };
  modes = passing.Mutable ∷ [];
  result = roll-ValType type.Bool;
})
