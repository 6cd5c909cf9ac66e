-- Parts of the grammar's forms that functions of their own read.
use Rattle.hs_grammar.specs.Form.{Alt}
use Rattle.hs_grammar.specs.Combinators.{word, ◌>>◌, optional}
use Rattle.hs_forms.specs.declared.token.Kind.TheVariants as k
use Rattle.hs_forms.specs.Reading.{F, Declared, data_form, use_form, array_form, bytes_form, nat_mod_form}

-- 'pub'? and what may have a derive list
abbrev pub derived_data : F Declared
derived_data = optional (word k.Pub) >> data_form

-- what never has `pub` nor a derive list
abbrev pub other_form : F Declared
other_form = Alt use_form (Alt array_form (Alt bytes_form nat_mod_form))
