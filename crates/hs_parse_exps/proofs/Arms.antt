-- The arms of a `match`, behind the first.
use Rattle.std.proofs.Common.{◌≡◌, ℕ, List, [], ◌∷◌, ◌++◌, Option, Some, None, Result, sym, ap, subst}
use Rattle.hs_grammar.specs.declared.error.ParseError.{ParseError}
use Rattle.hs_grammar.specs.Form.{Map, Step}
use Rattle.hs_grammar.specs.Kinds.{starts}
use Rattle.hs_grammar.specs.Lookahead.{begin}
use Rattle.hs_grammar.specs.Parser.{giving, looped}
use Rattle.hs_grammar.specs.Reads.{Reads}
use Rattle.hs_grammar.specs.Until.{repeated_until, turn_of, pushed}
use Rattle.hs_grammar.proofs.Reading.{giving-giving, fold-pushed, reads_loop}
use Rattle.hs_grammar.proofs.Untils.{ended}
use Rattle.hs_syntax.specs.declared.exp.Arm.{Arm}
use Rattle.hs_forms.specs.declared.token.Token.{Token}
use Rattle.hs_forms.specs.Lexis.{lexis}
use Rattle.hs_forms.specs.Nodes.{all_arms}
use Rattle.hs_forms.specs.Blocks.{step_of}
use Rattle.hs_forms.specs.Reading.{F, grammar, tables, arm_form, next_arms}
use Rattle.hs_forms.specs.Parsers.{reads}

abbrev turn_form : F (Step Arm Arm)
turn_form = Map step_of arm_form

arms_end : (n : ℕ) (a : Arm) (as' : List Arm) (e : Option Arm)
    → ended pushed pushed (starts lexis (begin tables turn_form)) (reads n turn_form) (a ∷ []) as' e ≡ all_arms a (as', e)
arms_end n a as' None = fold-pushed (a ∷ []) as'
arms_end n a as' (Some e) = ap (λ l. l ++ e ∷ []) (fold-pushed (a ∷ []) as')

-- what the loop answers behind the first arm is what the arms behind it are, with it
pub reads_arms : (n : ℕ) (a : Arm) (l : List Arm) (w new : List Token) (r : Result (List Arm) ParseError) → l ≡ a ∷ []
    → Reads (repeated_until (starts lexis (begin tables turn_form)) (λ l v. giving (turn_of pushed pushed l) (reads n turn_form v)) l w) r new
    → Reads (giving (all_arms a) (reads n next_arms w)) r new
unfolding next_arms
reads_arms n a l w new r one h =
    let begins = starts lexis (begin tables turn_form) in
    let first : Reads (repeated_until begins (λ l v. giving (turn_of pushed pushed l) (reads n turn_form v)) (a ∷ []) w) r new =
    subst (λ l. Reads (repeated_until begins (λ l v. giving (turn_of pushed pushed l) (reads n turn_form v)) l w) r new) one h in
    subst (λ q. Reads q r new)
    (sym (giving-giving (all_arms a) (λ x. (x.0, x.1)) (looped begins (reads n turn_form) w)))
    (reads_loop tables grammar n pushed pushed (λ as' e. all_arms a (as', e)) turn_form (a ∷ []) w new r (arms_end n a) first)
