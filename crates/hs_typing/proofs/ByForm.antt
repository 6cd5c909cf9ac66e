-- The methods of sequences and of arrays.
use Rattle.std.proofs.Common.{ℕ, ◌≡◌, refl, sym, ◌∙◌, ap, List, [], ◌++◌, Option, Some, None}
use Rattle.hs_values.specs.declared.types.ValType.{ValType}
use Rattle.hs_values.specs.declared.types.ValType.TheOpen.{ValType-F}
use Rattle.hs_values.specs.declared.types.ValType.TheVariants as variant
use Rattle.hs_values.specs.declared.types.TypeDef.{TypeDef}
use Rattle.hs_typing.specs.Types.{kind_layer, some_layer, good_layer, item_layer, item_of}
use Rattle.hs_typing.specs.Operations.{Listing, seq_layer, number_methods, row_methods, seq_methods, option_methods, result_methods, own_methods}
use Rattle.hs_typing.proofs.Forms.{out_seq, out_named}

module _ (table : List TypeDef) (t : ValType) where
  abbrev methods_in : ValType-F ValType → Listing
  methods_in y = number_methods (kind_layer y) ++ row_methods t (item_layer table y) ++ seq_methods t (seq_layer y) ++ option_methods (some_layer y) ++ result_methods (good_layer y)

  pub own_seq : (item : ValType) → t ≡ variant.Seq item → own_methods table t ≡ row_methods t (Some item) ++ seq_methods t (Some item)
  own_seq item e = ap methods_in (out_seq t item e)

  row_alone : (o : Option ValType) → row_methods t o ++ [] ++ [] ++ [] ≡ row_methods t o
  row_alone None = refl
  row_alone (Some item) = refl

  pub own_row : (k : ℕ) (o : Option ValType) → t ≡ variant.Named k → item_of table t ≡ o → own_methods table t ≡ row_methods t o
  own_row k o e i =
      ap methods_in (out_named t k e)
      ∙ ap (λ (x : Option ValType). row_methods t x ++ [] ++ [] ++ []) (sym (ap (item_layer table) (out_named t k e)) ∙ i)
      ∙ row_alone o
