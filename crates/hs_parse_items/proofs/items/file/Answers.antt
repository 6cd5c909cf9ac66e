use Rattle.std.proofs.Common.{◌≡◌, false, refl}
use Rattle.hs_grammar.specs.Lookahead.{empty}
use Rattle.hs_grammar.specs.Until.{pushed}
use Rattle.hs_grammar.proofs.Reading.{reads_shorter, reads_star, advances}
use Rattle.hs_forms.specs.Lexis.{decides}
use Rattle.hs_forms.specs.Reading.{tables, grammar, file_form, item_form, derived_item, public_item, other_item, plain_item, use_form, array_form, bytes_form, nat_mod_form, declaration, const_form, alias_form, fn_form, data_form, struct_form, enum_form}
use Rattle.hs_forms.specs.Lookahead.{fits}
use Rattle.hs_parse_items.proofs.items.file.Goals as goal

item_full : empty tables item_form ≡ false
unfolding item_form derived_item public_item other_item plain_item use_form array_form bytes_form nat_mod_form declaration const_form alias_form fn_form data_form struct_form enum_form
item_full = refl

pub repeat-requires-clause-consumes : goal.repeat-requires-clause-consumes
repeat-requires-clause-consumes c = λ a b old new h. reads_shorter decides tables grammar fits c.args.depth (pushed a) item_form item_full old.now new.now b h

pub returns : goal.returns
unfolding file_form item_form derived_item public_item other_item plain_item use_form array_form bytes_form nat_mod_form declaration const_form alias_form fn_form data_form struct_form enum_form
returns c =
    reads_star tables grammar c.args.depth item_form c.new.result c.args.tokens.now c.repeat.new.tokens c.repeat.result c.new.ensures
    (c.repeat.ensures.reads _ (advances decides tables grammar fits c.args.depth pushed item_form item_full) (λ a old new r h. h))
