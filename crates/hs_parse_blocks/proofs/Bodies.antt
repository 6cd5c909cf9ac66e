-- The loop over the pieces of a block.
use Rattle.std.proofs.Common.{◌≡◌, ℕ, false, List, [], ◌∷◌, ◌++◌, Option, Some, None, Result, fold, refl, sym, ap, ◌∙◌, subst, append_assoc, append-nil}
use Rattle.hs_grammar.specs.declared.error.ParseError.{ParseError}
use Rattle.hs_grammar.specs.Kinds.{starts}
use Rattle.hs_grammar.specs.Lookahead.{begin, empty}
use Rattle.hs_grammar.specs.Parser.{giving}
use Rattle.hs_grammar.specs.Reads.{Reads}
use Rattle.hs_grammar.specs.Until.{repeated_until, turn_of}
use Rattle.hs_grammar.proofs.Reading.{reads_loop}
use Rattle.hs_grammar.proofs.Untils.{ended}
use Rattle.hs_syntax.specs.declared.exp.Exp.{Exp}
use Rattle.hs_syntax.specs.declared.exp.Stmt.{Stmt}
use Rattle.hs_forms.specs.declared.token.Kind.{Kind}
use Rattle.hs_forms.specs.declared.token.Kind.TheVariants as k
use Rattle.hs_forms.specs.declared.token.Token.{Token}
use Rattle.hs_forms.specs.Lexis.{lexis}
use Rattle.hs_forms.specs.Reading.{grammar, tables, name_kinds, alone, if_form, match_form, let_form, for_form, return_form, alone_form, exp_form, piece_form, pieces}
use Rattle.hs_forms.specs.Parsers.{reads}
use Rattle.hs_parse_blocks.specs.Body.{piece_turn, with_statement, with_value}

-- a piece is never empty
pub piece_turn_full : empty tables piece_turn ≡ false
unfolding piece_form let_form for_form return_form alone_form exp_form alone if_form match_form
piece_turn_full = refl

-- the kinds that pieces begin with
abbrev pub piece_kinds : List Kind
piece_kinds =
    k.Let ∷ k.For ∷ k.Return ∷ k.If ∷ k.Match ∷ k.LeftBrace ∷ k.Minus ∷ k.Not ∷ k.Star ∷ k.Int ∷ k.Digits ∷ k.True
    ∷ k.False ∷ k.LeftParenthesis ∷ name_kinds

pieces_begin : begin tables piece_turn ≡ piece_kinds
unfolding piece_form let_form for_form return_form alone_form exp_form alone if_form match_form
pieces_begin = refl

-- statements one by one
statements_folded : (l ss : List Stmt) (o : Option Exp) → fold with_statement (l, o) ss ≡ (l ++ ss, o)
statements_folded l [] o = ap {B = List Stmt × Option Exp} (λ l. (l, o)) (sym (append-nil l))
statements_folded l (s ∷ ss) o = statements_folded (l ++ s ∷ []) ss o ∙ ap {B = List Stmt × Option Exp} (λ l. (l, o)) (append_assoc l (s ∷ []) ss)

body_end : (depth : ℕ) (ss : List Stmt) (e : Option Exp)
    → ended with_statement with_value (starts lexis (begin tables piece_turn)) (reads depth piece_turn) ([], None) ss e ≡ (ss, e)
body_end depth ss None = statements_folded [] ss None
body_end depth ss (Some e) = ap {B = List Stmt × Option Exp} (λ b. with_value b e) (statements_folded [] ss None)

-- what the loop answers is what the pieces answer
pub pieces_read : (depth : ℕ) (s : List Stmt × Option Exp) (w new : List Token) (r : Result (List Stmt × Option Exp) ParseError) → s ≡ ([], None)
    → Reads (repeated_until (starts lexis piece_kinds) (λ s v. giving (turn_of with_statement with_value s) (reads depth piece_turn v)) s w) r new
    → Reads (reads depth pieces w) r new
unfolding pieces
pieces_read depth s w new r e h =
    reads_loop tables grammar depth with_statement with_value (λ ss e. (ss, e)) piece_turn ([], None) w new r (body_end depth)
    (subst (λ s. Reads (repeated_until (starts lexis (begin tables piece_turn)) (λ s v. giving (turn_of with_statement with_value s) (reads depth piece_turn v)) s w) r new) e
    (subst (λ ks. Reads (repeated_until (starts lexis ks) (λ s v. giving (turn_of with_statement with_value s) (reads depth piece_turn v)) s w) r new) (sym pieces_begin) h))
