-- The theorems at token lists: a type whose brackets a `>>` closes, and one where it closes one too many.
use Rattle.std.proofs.Common.{ℕ, [], ◌∷◌, None}
use Rattle.hs_grammar.specs.Derives.{DerivesAs}
use Rattle.hs_grammar.specs.Break.{Breaks}
use Rattle.hs_grammar.specs.Parser.{looped}
use Rattle.hs_grammar.proofs.Grammars.{answers}
use Rattle.hs_syntax.specs.declared.span.Span.{Span}
use Rattle.hs_syntax.specs.declared.ty.Ty.TheVariants as ty
use Rattle.hs_forms.specs.declared.token.Kind.{Kind}
use Rattle.hs_forms.specs.declared.token.Kind.TheVariants as k
use Rattle.hs_forms.specs.declared.token.Token.{Token}
use Rattle.hs_forms.specs.Lexis.{decides}
use Rattle.hs_forms.specs.Reading.{RType, grammar, tables, name, next_type, next_types, types, angle, closed, close_maybe, maybe_closed, tuple_items, tuple_rest, bracketed, type_form, maybe_form}
use Rattle.hs_forms.specs.Lookahead.{fits}
use Rattle.hs_forms.specs.Written.{written}
use Rattle.hs_forms.proofs.Agree.{agree}

-- these bytes
abbrev span : ℕ → ℕ → Span
span a b = record { start = a; end = b }

-- a token of this kind and these bytes
abbrev token : Kind → ℕ → ℕ → Token
token kind a b = record { kind = kind; span = span a b; value = 0; suffix = None }

-- A<B<C>>
pub closed_twice : DerivesAs written RType
    (token k.Name 0 1 ∷ token k.Less 1 2 ∷ token k.Name 2 3 ∷ token k.Less 3 4 ∷ token k.Name 4 5 ∷ token k.ShiftFront 5 7 ∷ token k.ShiftBack 5 7 ∷ [])
    (ty.Applied (span 0 7) (span 0 1) (ty.Applied (span 2 7) (span 2 3) (ty.Name (span 4 5) ∷ []) ∷ []))
unfolding looped name next_type next_types types angle closed close_maybe maybe_closed tuple_items tuple_rest bracketed type_form maybe_form
closed_twice = answers decides written grammar agree tables fits 3 RType
    (token k.Name 0 1 ∷ token k.Less 1 2 ∷ token k.Name 2 3 ∷ token k.Less 3 4 ∷ token k.Name 4 5 ∷ token k.ShiftFront 5 7 ∷ token k.ShiftBack 5 7 ∷ [])

-- in A<B>> the `>>` is the first token that cannot stand where it stands
pub closed_too_often : Breaks written RType
    (token k.Name 0 1 ∷ token k.Less 1 2 ∷ token k.Name 2 3 ∷ token k.ShiftFront 3 5 ∷ token k.ShiftBack 3 5 ∷ [])
    (token k.ShiftFront 3 5 ∷ token k.ShiftBack 3 5 ∷ [])
unfolding looped name next_type next_types types angle closed close_maybe maybe_closed tuple_items tuple_rest bracketed type_form maybe_form
closed_too_often = answers decides written grammar agree tables fits 3 RType
    (token k.Name 0 1 ∷ token k.Less 1 2 ∷ token k.Name 2 3 ∷ token k.ShiftFront 3 5 ∷ token k.ShiftBack 3 5 ∷ [])
