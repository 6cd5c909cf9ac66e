-- Lists of types that are read one by one.
use Rattle.std.proofs.Common.{◌≡◌, ℕ, Bool, false, List, [], ◌∷◌, ◌++◌, Option, Some, None, Result, fold, sym, ap, ◌∙◌, subst, append_assoc, append-nil}
use Rattle.hs_syntax.specs.declared.ty.Ty.{Ty}
use Rattle.hs_grammar.specs.declared.error.ParseError.{ParseError}
use Rattle.hs_grammar.specs.Form.{Step, Loop, Map}
use Rattle.hs_grammar.specs.Kinds.{starts}
use Rattle.hs_grammar.specs.Lookahead.{begin}
use Rattle.hs_grammar.specs.Parser.{giving, looped}
use Rattle.hs_grammar.specs.Reads.{Reads}
use Rattle.hs_grammar.specs.Until.{repeated_until, turn_of}
use Rattle.hs_grammar.proofs.Reading.{giving-giving, reads_loop}
use Rattle.hs_grammar.proofs.Untils.{ended}
use Rattle.hs_forms.specs.declared.token.Token.{Token}
use Rattle.hs_forms.specs.Lexis.{lexis}
use Rattle.hs_forms.specs.Nodes.{all_types}
use Rattle.hs_forms.specs.Blocks.{step_of}
use Rattle.hs_forms.specs.Reading.{F, grammar, tables, next_type, next_types}
use Rattle.hs_forms.specs.Parsers.{reads}
use Rattle.hs_parse_types.specs.Lists.{one_more, last_one}

-- a turn: a further type, which may be open
abbrev pub type_turn : F (Step Ty Ty)
type_turn = Map step_of next_type

folded : (l as' : List Ty) → fold one_more (l, false) as' ≡ (l ++ as', false)
folded l [] = ap (λ x. (x, false)) (sym (append-nil l))
folded l (a ∷ as') = folded (l ++ a ∷ []) as' ∙ ap (λ x. (x, false)) (append_assoc l (a ∷ []) as')

types_end : (n : ℕ) (first : Ty) (as' : List Ty) (e : Option Ty)
    → ended one_more last_one (starts lexis (begin tables type_turn)) (reads n type_turn) (first ∷ [], false) as' e ≡ all_types (first, false) (as', e)
types_end n first as' None = folded (first ∷ []) as'
types_end n first as' (Some z) = ap (λ s. last_one s z) (folded (first ∷ []) as')

-- what the loop answers behind the first type is what the further types are, together with it
pub reads_types : (n : ℕ) (first : Ty) (l : List Ty) (w new : List Token) (r : Result (List Ty × Bool) ParseError) → l ≡ first ∷ []
    → Reads (repeated_until (starts lexis (begin tables type_turn)) (λ s v. giving (turn_of one_more last_one s) (reads n type_turn v)) (l, false) w) r new
    → Reads (giving (all_types (first, false)) (reads n next_types w)) r new
unfolding next_types
reads_types n first l w new r one h =
    let begins = starts lexis (begin tables type_turn) in
    let loop : Reads (reads n (Loop (λ as' e. all_types (first, false) (as', e)) type_turn) w) r new =
    reads_loop tables grammar n one_more last_one (λ as' e. all_types (first, false) (as', e)) type_turn (first ∷ [], false) w new r (types_end n first)
    (subst (λ l. Reads (repeated_until begins (λ s v. giving (turn_of one_more last_one s) (reads n type_turn v)) (l, false) w) r new) one h) in
    subst (λ q. Reads q r new) (sym (giving-giving (all_types (first, false)) (λ s. (s.0, s.1)) (looped begins (reads n type_turn) w))) loop
