-- Items: what is written is what is read.
use Rattle.std.proofs.Common.{List, [], ◌∷◌, Option, refl}
use Rattle.hs_grammar.specs.Form.{Map, Seq, Alt}
use Rattle.hs_grammar.specs.Derives.{Derivings, Beginnings}
use Rattle.hs_grammar.specs.Same.{Same, Sane}
use Rattle.hs_grammar.specs.Combinators.{word, ◌>>◌, ◌<<◌, ◌&◌, optional, list_read}
use Rattle.hs_syntax.specs.declared.span.Span.{Span}
use Rattle.hs_syntax.specs.declared.item.Param.{Param}
use Rattle.hs_syntax.specs.declared.item.Item.{Item}
use Rattle.hs_forms.specs.declared.token.Kind.TheVariants as k
use Rattle.hs_forms.specs.Lexis.{lexis}
use Rattle.hs_forms.specs.Reading.{rules, F, at, name, int, comma, mutable_param, lent_type, mode_type, named_param, param, parts, ctor, Declared, const_form, alias_form, struct_form, enum_form, params_rest, params, result_type, fn_form, data_form, declaration, derive_names, derived_item, public_item, plain_item, use_form, array_form, bytes_form, nat_mod_names, nat_mod_values, nat_mod_form, other_item, item_form, file_form}
use Rattle.hs_forms.specs.Written.{or_empty, written_param, written_parts, written_ctor, written_struct, written_enum, written_params, written_fn, derive_list, derived_of, bare, public, written_item, written_file}
use Rattle.hs_forms.proofs.Factor.{same_by}
use Rattle.hs_forms.proofs.Inside.{keep, by, seq, alt, along, maybe, stars, lists_read}

params_with : F (List Param) → F (List Param)
params_with ps = word k.LeftParenthesis >> (Map or_empty (optional ps) << word k.RightParenthesis)

derive_with : F (List Span) → F (Span × List Span)
derive_with names =
    at k.Hash & (word k.LeftBracket >> (word k.Derive >> (word k.LeftParenthesis >>
    (names << (word k.RightParenthesis >> word k.RightBracket)))))

derived_with : F (Span × List Span) → F Declared → F Item
derived_with l f = Seq (λ l (r : Option Span × Declared). derived_of l r.0 r.1) (optional l) (optional (at k.Pub) & f)

-- Item, with this derive list
item_with : F (Span × List Span) → F Item
item_with l =
    Alt (bare use_form) (Alt (public const_form) (Alt (public alias_form) (Alt (derived_with l struct_form) (Alt (derived_with l enum_form)
    (Alt (public fn_form) (Alt (bare array_form) (Alt (bare bytes_form) (bare nat_mod_form))))))))

module _ (ρ : Derivings lexis rules) (β : Beginnings lexis rules) (sane : Sane lexis rules ρ β) where
  param_same : Same ρ β written_param param
  unfolding written_param param mutable_param named_param mode_type lent_type name
  param_same = same_by lexis rules ρ β sane Param written_param param (0 ∷ 3 ∷ 1 ∷ 2 ∷ []) (0 ∷ 2 ∷ 3 ∷ 1 ∷ []) refl refl

  parts_same : Same ρ β written_parts parts
  unfolding written_parts parts
  parts_same = seq ρ β (keep ρ β) (seq ρ β (lists_read ρ β sane (keep ρ β)) (keep ρ β))

  ctor_same : Same ρ β written_ctor ctor
  unfolding written_ctor ctor
  ctor_same = seq ρ β (keep ρ β) (maybe ρ β parts_same)

  struct_same : Same ρ β written_struct struct_form
  unfolding written_struct struct_form
  struct_same = seq ρ β (keep ρ β) (seq ρ β (keep ρ β) (seq ρ β parts_same (keep ρ β)))

  enum_same : Same ρ β written_enum enum_form
  unfolding written_enum enum_form
  enum_same = seq ρ β (keep ρ β) (seq ρ β (keep ρ β) (seq ρ β (keep ρ β) (seq ρ β (lists_read ρ β sane ctor_same) (keep ρ β))))

  params_inside : Same ρ β written_params (params_with (list_read comma param))
  unfolding written_params params_with
  params_inside = seq ρ β (keep ρ β) (seq ρ β (along ρ β (maybe ρ β (lists_read ρ β sane param_same))) (keep ρ β))

  params_factored : Same ρ β (params_with (list_read comma param)) params
  unfolding params_with params params_rest param mutable_param named_param mode_type lent_type name
  params_factored = same_by lexis rules ρ β sane (List Param) (params_with (list_read comma param)) params (1 ∷ 2 ∷ 3 ∷ 4 ∷ 0 ∷ []) (4 ∷ 0 ∷ 1 ∷ 2 ∷ 3 ∷ []) refl refl

  params_same : Same ρ β written_params params
  params_same = by ρ β (params_with (list_read comma param)) params_inside params_factored

  fn_same : Same ρ β written_fn fn_form
  unfolding written_fn fn_form
  fn_same = seq ρ β (keep ρ β) (seq ρ β (keep ρ β) (seq ρ β params_same (keep ρ β)))

  derive_same : Same ρ β derive_list (derive_with (list_read comma name))
  unfolding derive_list derive_with
  derive_same = seq ρ β (keep ρ β) (seq ρ β (keep ρ β) (seq ρ β (keep ρ β) (seq ρ β (keep ρ β) (seq ρ β (lists_read ρ β sane (keep ρ β)) (keep ρ β)))))

  item_inside : Same ρ β written_item (item_with (derive_with (list_read comma name)))
  unfolding written_item item_with derived_with
  item_inside =
      alt ρ β (keep ρ β) (alt ρ β (keep ρ β) (alt ρ β (keep ρ β)
      (alt ρ β (seq ρ β (maybe ρ β derive_same) (seq ρ β (keep ρ β) struct_same))
      (alt ρ β (seq ρ β (maybe ρ β derive_same) (seq ρ β (keep ρ β) enum_same))
      (alt ρ β (seq ρ β (keep ρ β) fn_same) (keep ρ β))))))

  item_factored : Same ρ β (item_with (derive_with (list_read comma name))) item_form
  unfolding item_with derived_with derive_with item_form derived_item derive_names public_item plain_item other_item declaration data_form const_form alias_form struct_form enum_form fn_form params params_rest result_type param mutable_param named_param mode_type lent_type parts ctor use_form array_form bytes_form nat_mod_form nat_mod_names nat_mod_values name int
  item_factored = same_by lexis rules ρ β sane Item (item_with (derive_with (list_read comma name))) item_form
      (21 ∷ 6 ∷ 25 ∷ 7 ∷ 26 ∷ 0 ∷ 3 ∷ 18 ∷ 37 ∷ 1 ∷ 2 ∷ 4 ∷ 5 ∷ 19 ∷ 20 ∷ 38 ∷ 39 ∷ 8 ∷ 9 ∷ 10 ∷ 11 ∷ 12 ∷ 13 ∷ 14 ∷ 15 ∷ 16 ∷ 17 ∷ 27 ∷ 28 ∷ 29 ∷ 30 ∷ 31 ∷ 32 ∷ 33 ∷ 34 ∷ 35 ∷ 36 ∷ 22 ∷ 23 ∷ 24 ∷ [])
      (5 ∷ 9 ∷ 10 ∷ 6 ∷ 11 ∷ 12 ∷ 1 ∷ 3 ∷ 17 ∷ 18 ∷ 19 ∷ 20 ∷ 21 ∷ 22 ∷ 23 ∷ 24 ∷ 25 ∷ 26 ∷ 7 ∷ 13 ∷ 14 ∷ 0 ∷ 37 ∷ 38 ∷ 39 ∷ 2 ∷ 4 ∷ 27 ∷ 28 ∷ 29 ∷ 30 ∷ 31 ∷ 32 ∷ 33 ∷ 34 ∷ 35 ∷ 36 ∷ 8 ∷ 15 ∷ 16 ∷ []) refl refl

  item_same : Same ρ β written_item item_form
  item_same = by ρ β (item_with (derive_with (list_read comma name))) item_inside item_factored

  pub file_same : Same ρ β written_file file_form
  unfolding written_file file_form
  file_same = stars ρ β item_same
