-- The tokens of the grammar.
use Rattle.std.specs.Prelude.{Bool}
use denote.Enum.Bare.{sameb, same_true, true_same}
use Rattle.hs_grammar.specs.Form.{Lexis, lexis_of}
use Rattle.hs_grammar.specs.Kinds.{Decides}
use Rattle.hs_forms.specs.declared.token.Kind.{Kind}
use Rattle.hs_forms.specs.contracts.token.Kind.{the_type}
use Rattle.hs_forms.specs.declared.token.Token.{Token}

-- whether two kinds are one
abbrev pub same : Kind → Kind → Bool
same a b = sameb the_type a b

abbrev pub kind_of : Token → Kind
kind_of t = t.kind

abbrev pub lexis : Lexis
lexis = lexis_of kind_of same

-- the test of kinds is exact
pub decides : Decides lexis
decides = record { one = same_true the_type tt; alike = true_same the_type }
