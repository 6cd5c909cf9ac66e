-- Items are well formed.
use Rattle.std.proofs.Common.{◌≡◌, ℕ, true, List, Option, Some, None, refl}
use Rattle.hs_grammar.specs.Derives.{Derivings}
use Rattle.hs_syntax.specs.declared.span.Span.{Span}
use Rattle.hs_syntax.specs.declared.ty.Ty.{Ty}
use Rattle.hs_syntax.specs.declared.item.Mode.{Mode}
use Rattle.hs_syntax.specs.WellFormed.{named, well_ty, well_ctor, well_param, well_kind, well_item}
use Rattle.hs_forms.specs.Lexis.{lexis}
use Rattle.hs_forms.specs.Reading.{rules, mutable_param, lent_type, mode_type, named_param, param, parts, ctor_of, ctor, Declared, const_form, alias_form, struct_form, enum_form, params_rest, params, result_type, fn_form, data_form, declaration, derive_names, derived_item, public_item, plain_item, use_form, array_form, bytes_form, nat_mod_names, nat_mod_form, other_item, item_form, file_form}
use Rattle.hs_shapes.proofs.Facts.{Fact, good, anything, by, pair, perhaps, Perhaps, perhaps_any, each_of, some_of, both_true}
use Rattle.hs_shapes.proofs.Gives.{Gives, Knots, name_gives, none_kept, map_to, seq, alt, then_, and_then, both, both_first, may, many_good, listed}
use Rattle.hs_shapes.proofs.Types.{type_gives}
use Rattle.hs_shapes.proofs.Exps.{expression_gives, block_gives}

module _ (text : List ℕ) where
  abbrev tys : Fact Ty
  tys = good (well_ty text)

  -- types in a bracket
  abbrev listings : Fact (List Ty × Span)
  listings = by (λ ts. ts.0) (some_of (well_ty text))

  -- what an item declares
  abbrev declares : Fact Declared
  declares = by (λ d. d.0) (good (well_kind text))

  ctor_well : (n : Span) (more : Option (List Ty × Span)) → named text n ≡ true → Perhaps listings more → well_ctor text (ctor_of n more) ≡ true
  ctor_well n None p h = both_true p refl
  ctor_well n (Some (ts, close)) p h = both_true p h.1

  module _ (ρ : Derivings lexis rules) (knots : Knots text ρ) where
    mutable_param_gives : Gives text ρ mutable_param (good (well_param text))
    unfolding mutable_param
    mutable_param_gives =
        seq text ρ {P = anything} (λ s r u q. both_true q.0 q.1) (none_kept text ρ) (both text ρ (name_gives text ρ) (then_ text ρ (type_gives text ρ knots)))

    lent_type_gives : Gives text ρ lent_type (by (λ (r : Mode × Ty). r.1) tys)
    unfolding lent_type
    lent_type_gives = then_ text ρ (seq text ρ {P = anything} (λ a b u p. p) (none_kept text ρ) (type_gives text ρ knots))

    mode_type_gives : Gives text ρ mode_type (by (λ (r : Mode × Ty). r.1) tys)
    unfolding mode_type
    mode_type_gives = alt text ρ lent_type_gives (map_to text ρ (λ t p. p) (type_gives text ρ knots))

    named_param_gives : Gives text ρ named_param (good (well_param text))
    unfolding named_param
    named_param_gives = seq text ρ (λ n r p q. both_true p q) (name_gives text ρ) (then_ text ρ mode_type_gives)

    param_gives : Gives text ρ param (good (well_param text))
    unfolding param
    param_gives = alt text ρ mutable_param_gives named_param_gives

    parts_gives : Gives text ρ parts listings
    unfolding parts
    parts_gives = then_ text ρ (both_first text ρ (listed text ρ (type_gives text ρ knots)))

    ctor_gives : Gives text ρ ctor (good (well_ctor text))
    unfolding ctor
    ctor_gives = seq text ρ ctor_well (name_gives text ρ) (may text ρ parts_gives)

    const_form_gives : Gives text ρ const_form declares
    unfolding const_form
    const_form_gives =
        seq text ρ {P = anything} (λ s r u q. both_true q.0 (both_true q.1.0 q.1.1)) (none_kept text ρ)
        (both text ρ (name_gives text ρ) (then_ text ρ (both text ρ (type_gives text ρ knots) (then_ text ρ (both_first text ρ (expression_gives text ρ knots))))))

    alias_form_gives : Gives text ρ alias_form declares
    unfolding alias_form
    alias_form_gives =
        seq text ρ {P = anything} (λ s r u q. both_true q.0 q.1) (none_kept text ρ)
        (both text ρ (name_gives text ρ) (then_ text ρ (both_first text ρ (type_gives text ρ knots))))

    struct_form_gives : Gives text ρ struct_form declares
    unfolding struct_form
    struct_form_gives =
        seq text ρ {P = anything} (λ s r u q. both_true q.0 (both_true q.1.0 q.1.1)) (none_kept text ρ)
        (both text ρ (name_gives text ρ) (both_first text ρ parts_gives))

    enum_form_gives : Gives text ρ enum_form declares
    unfolding enum_form
    enum_form_gives =
        seq text ρ {P = anything} (λ s r u q. both_true q.0 (both_true q.1.0 q.1.1)) (none_kept text ρ)
        (both text ρ (name_gives text ρ) (then_ text ρ (both_first text ρ (listed text ρ ctor_gives))))

    params_rest_gives : Gives text ρ params_rest (each_of (well_param text))
    unfolding params_rest
    params_rest_gives =
        alt text ρ (map_to text ρ {P = anything} (λ a u. refl) (none_kept text ρ))
        (seq text ρ {Q = anything} (λ ps a p u. p.1) (listed text ρ param_gives) (none_kept text ρ))

    params_gives : Gives text ρ params (each_of (well_param text))
    unfolding params
    params_gives = then_ text ρ params_rest_gives

    result_type_gives : Gives text ρ result_type (perhaps tys)
    unfolding result_type
    result_type_gives = may text ρ (then_ text ρ (type_gives text ρ knots))

    fn_form_gives : Gives text ρ fn_form declares
    unfolding fn_form
    fn_form_gives =
        seq text ρ {P = anything} (λ s r u q. both_true q.0 (both_true q.1.0 (both_true (perhaps_any (well_ty text) r.1.1.0 q.1.1.0) q.1.1.1))) (none_kept text ρ)
        (both text ρ (name_gives text ρ) (both text ρ params_gives (both text ρ result_type_gives (block_gives text ρ knots))))

    data_form_gives : Gives text ρ data_form declares
    unfolding data_form
    data_form_gives = alt text ρ struct_form_gives enum_form_gives

    declaration_gives : Gives text ρ declaration declares
    unfolding declaration
    declaration_gives = alt text ρ const_form_gives (alt text ρ alias_form_gives (alt text ρ fn_form_gives data_form_gives))

    derive_names_gives : Gives text ρ derive_names (some_of (named text))
    unfolding derive_names
    derive_names_gives = then_ text ρ (then_ text ρ (then_ text ρ (and_then text ρ (listed text ρ (name_gives text ρ)))))

    derived_item_gives : Gives text ρ derived_item (good (well_item text))
    unfolding derived_item
    derived_item_gives =
        seq text ρ {P = anything} (λ s r u q. both_true q.0.1 q.1) (none_kept text ρ) (both text ρ derive_names_gives (then_ text ρ data_form_gives))

    public_item_gives : Gives text ρ public_item (good (well_item text))
    unfolding public_item
    public_item_gives = seq text ρ {P = anything} (λ s d u q. q) (none_kept text ρ) declaration_gives

    plain_item_gives : Gives text ρ plain_item (good (well_item text))
    unfolding plain_item
    plain_item_gives = map_to text ρ (λ d q. q) declaration_gives

    use_form_gives : Gives text ρ use_form declares
    unfolding use_form
    use_form_gives = seq text ρ {P = anything} {Q = anything} (λ s close u v. refl) (none_kept text ρ) (none_kept text ρ)

    array_form_gives : Gives text ρ array_form declares
    unfolding array_form
    array_form_gives =
        seq text ρ {P = anything} (λ s r u q. both_true q.0 q.1.1) (none_kept text ρ)
        (then_ text ρ (then_ text ρ (both text ρ (name_gives text ρ) (then_ text ρ (both text ρ {P = anything} (none_kept text ρ) (then_ text ρ (both_first text ρ (type_gives text ρ knots))))))))

    bytes_form_gives : Gives text ρ bytes_form declares
    unfolding bytes_form
    bytes_form_gives =
        seq text ρ {P = anything} (λ s r u q. q) (none_kept text ρ) (then_ text ρ (then_ text ρ (both_first text ρ (name_gives text ρ))))

    nat_mod_names_gives : Gives text ρ nat_mod_names (pair (good (named text)) (good (named text)))
    unfolding nat_mod_names
    nat_mod_names_gives =
        then_ text ρ (then_ text ρ (both text ρ (name_gives text ρ) (then_ text ρ (then_ text ρ (then_ text ρ (and_then text ρ (name_gives text ρ)))))))

    nat_mod_form_gives : Gives text ρ nat_mod_form declares
    unfolding nat_mod_form
    nat_mod_form_gives =
        seq text ρ {P = anything} (λ s r u q. both_true q.0 q.1) (none_kept text ρ) (then_ text ρ (then_ text ρ (both_first text ρ nat_mod_names_gives)))

    other_item_gives : Gives text ρ other_item (good (well_item text))
    unfolding other_item
    other_item_gives = map_to text ρ (λ d q. q) (alt text ρ use_form_gives (alt text ρ array_form_gives (alt text ρ bytes_form_gives nat_mod_form_gives)))

    item_form_gives : Gives text ρ item_form (good (well_item text))
    unfolding item_form
    item_form_gives = alt text ρ derived_item_gives (alt text ρ public_item_gives (alt text ρ other_item_gives plain_item_gives))

    -- File
    pub file_form_gives : Gives text ρ file_form (each_of (well_item text))
    unfolding file_form
    file_form_gives = many_good text ρ item_form_gives
