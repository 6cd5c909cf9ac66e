-- Statements and blocks are well formed.
use Rattle.std.proofs.Common.{◌≡◌, ℕ, true, List, [], ◌∷◌, Option, Some, None, refl, ◌∙◌}
use Rattle.hs_grammar.specs.Derives.{Derivings}
use Rattle.hs_syntax.specs.declared.span.Span.{Span}
use Rattle.hs_syntax.specs.declared.exp.BinaryOp.{BinaryOp}
use Rattle.hs_syntax.specs.declared.exp.Target.{Target}
use Rattle.hs_syntax.specs.declared.exp.Exp.{Exp}
use Rattle.hs_syntax.specs.declared.exp.Step.{Step}
use Rattle.hs_syntax.specs.declared.exp.Stmt.{Stmt}
use Rattle.hs_syntax.specs.Spans.{span_of_exp, span_of_block}
use Rattle.hs_syntax.specs.WellFormed.{assigns, well_ty, well_variable, well_exp, well_stmt, well_block}
use Rattle.hs_forms.specs.declared.token.Kind.{Kind}
use Rattle.hs_forms.specs.declared.piece.Piece.{Piece}
use Rattle.hs_forms.specs.declared.piece.Piece.TheVariants as piece
use Rattle.hs_forms.specs.Lexis.{lexis}
use Rattle.hs_forms.specs.Nodes.{across, assign_named}
use Rattle.hs_forms.specs.Blocks.{place_in, alone_of, exp_stmt_of, assign_to, step_of_piece, bare_in, ending, split_tail, with_tail}
use Rattle.hs_forms.specs.Reading.{rules, let_form, loop_variable, for_form, returned, return_form, alone_form, assign_kinds, assign_op, assigned, finished, behind_place, exp_form, piece_form, pieces, block_form}
use Rattle.hs_shapes.proofs.Sure.{among}
use Rattle.hs_shapes.proofs.Layers.{stmt_let, stmt_assign, stmt_for, stmt_return, stmt_bare, stmt_exp, block_is}
use Rattle.hs_shapes.proofs.Facts.{Fact, good, anything, by, pair, perhaps, perhaps_any, rows, Row, row_each, Turn, both_true}
use Rattle.hs_shapes.proofs.Gives.{Gives, Knots, token, name_gives, none_kept, empty, map_to, seq, split, alt, unless, loop, then_, both, both_first, may}
use Rattle.hs_shapes.proofs.Types.{type_gives}
use Rattle.hs_shapes.proofs.Patterns.{pattern_gives}
use Rattle.hs_shapes.proofs.Exps.{exps, expression_gives, block_gives, alone_gives}
use Rattle.hs_shapes.proofs.Places.{place_well, bare_well}

module _ (text : List ℕ) where
  abbrev stmts : Fact Stmt
  stmts = good (well_stmt text)

  abbrev Well : Piece → Type 0
  Well (piece.Statement s) = well_stmt text s ≡ true
  Well (piece.Tail e) = well_exp text e ≡ true

  -- a piece of a block
  abbrev pieces_of : Fact Piece
  pieces_of = record { holds = Well }

  -- what makes a piece of the expression before it
  abbrev pieces_after : Fact (Exp → Piece)
  pieces_after = record { holds = λ f. (e : Exp) → well_exp text e ≡ true → Well (f e) }

  -- the statements of a block, and its tail
  abbrev bodies : Fact (List Stmt × Option Exp)
  bodies = pair (rows stmts) (perhaps (exps text))

  -- ---- statements

  exp_stmt_well : (e : Exp) (close : Span) → well_exp text e ≡ true → well_stmt text (exp_stmt_of e close) ≡ true
  exp_stmt_well e close p = stmt_exp text (across (span_of_exp e) close) e ∙ p

  alone_well : (e : Exp) (o : Option Span) → well_exp text e ≡ true → well_stmt text (alone_of e o) ≡ true
  alone_well e None p = stmt_bare text e ∙ p
  alone_well e (Some close) p = exp_stmt_well e close p

  assign_well : (e : Exp) (place : Option (Target × List Step)) (o : Option BinaryOp) (right : Exp) (close : Span) → place_in e ≡ place
      → well_exp text e ≡ true → assigns o ≡ true → well_exp text right ≡ true → well_stmt text (assign_to e place o right close) ≡ true
  assign_well e None o right close i p q r = exp_stmt_well e close p
  assign_well e (Some (t, ts)) o right close i p q r =
      let s = place_well text e t ts i p in
      stmt_assign text (across t.span close) t ts o right ∙ both_true s.0 (both_true s.1 (both_true q r))

  -- ---- blocks

  piece_step : (x : Piece) → Well x → Turn stmts (exps text) (step_of_piece x)
  piece_step (piece.Statement s) p = p
  piece_step (piece.Tail e) p = p

  ending_well : (s : Stmt) (o : Option Exp) → bare_in s ≡ o → well_stmt text s ≡ true → bodies.holds (ending s o)
  ending_well s None i p = ((p, tt {0}), tt {0})
  ending_well s (Some e) i p = (tt {0}, bare_well text s e i p)

  split_well : (ss : List Stmt) → Row stmts ss → bodies.holds (split_tail ss)
  split_well [] r = (tt {0}, tt {0})
  split_well (s ∷ []) (p, l) = ending_well s (bare_in s) refl p
  split_well (s ∷ (t ∷ ss)) (p, r) = let i = split_well (t ∷ ss) r in ((p, i.0), i.1)

  tail_well : (body : List Stmt × Option Exp) → bodies.holds body → bodies.holds (with_tail body)
  tail_well (ss, Some e) p = p
  tail_well (ss, None) (r, l) = split_well ss r

  module _ (ρ : Derivings lexis rules) (knots : Knots text ρ) where
    let_form_gives : Gives text ρ let_form pieces_of
    unfolding let_form
    let_form_gives =
        seq text ρ {P = anything} (λ s r u q. stmt_let text (across s r.1.1.1) r.0 r.1.0 r.1.1.0 ∙ both_true q.0 (both_true (perhaps_any (well_ty text) r.1.0 q.1.0) q.1.1)) (none_kept text ρ)
        (both text ρ (pattern_gives text ρ knots) (both text ρ (may text ρ (then_ text ρ (type_gives text ρ knots))) (then_ text ρ (both_first text ρ (expression_gives text ρ knots)))))

    loop_variable_gives : Gives text ρ loop_variable (good (well_variable text))
    unfolding loop_variable
    loop_variable_gives = alt text ρ (map_to text ρ {P = anything} (λ s u. refl) (none_kept text ρ)) (map_to text ρ (λ n p. p) (name_gives text ρ))

    for_form_gives : Gives text ρ for_form pieces_of
    unfolding for_form
    for_form_gives =
        seq text ρ {P = anything} (λ s r u q. stmt_for text (across s (span_of_block r.1.1.1)) r.0 r.1.0 r.1.1.0 r.1.1.1 ∙ both_true q.0 (both_true q.1.0 (both_true q.1.1.0 q.1.1.1))) (none_kept text ρ)
        (both text ρ loop_variable_gives (then_ text ρ (both text ρ (expression_gives text ρ knots) (then_ text ρ (both text ρ (expression_gives text ρ knots) (block_gives text ρ knots))))))

    returned_gives : Gives text ρ returned (by (λ (r : Option Exp × Span). r.0) (perhaps (exps text)))
    unfolding returned
    returned_gives =
        alt text ρ (map_to text ρ {P = anything} (λ close u. tt {0}) (none_kept text ρ))
        (both_first text ρ (map_to text ρ {Q = perhaps (exps text)} (λ e p. p) (expression_gives text ρ knots)))

    return_form_gives : Gives text ρ return_form pieces_of
    unfolding return_form
    return_form_gives = seq text ρ {P = anything} (λ s r u q. stmt_return text (across s r.1) r.0 ∙ perhaps_any (well_exp text) r.0 q) (none_kept text ρ) returned_gives

    alone_form_gives : Gives text ρ alone_form pieces_of
    unfolding alone_form
    alone_form_gives = seq text ρ {Q = anything} (λ e o p u. alone_well e o p) (alone_gives text ρ knots) (none_kept text ρ)

    assign_op_gives : Gives text ρ assign_op (good assigns)
    unfolding assign_op
    assign_op_gives =
        token text ρ (λ t h s. among (λ (kind : Kind). assigns (assign_named kind) ≡ true) assign_kinds t.kind h (refl, (refl, (refl, (refl, (refl, (refl, (refl, (refl, (refl, (refl, (refl, tt))))))))))))

    assigned_gives : Gives text ρ assigned pieces_after
    unfolding assigned
    assigned_gives =
        seq text ρ (λ o r q p e w. assign_well e (place_in e) o r.0 r.1 refl w q p) assign_op_gives (both_first text ρ (expression_gives text ρ knots))

    finished_gives : Gives text ρ finished pieces_after
    unfolding finished
    finished_gives = alt text ρ (map_to text ρ {P = anything} (λ close u e p. exp_stmt_well e close p) (none_kept text ρ)) (empty text ρ (λ e p. p))

    behind_place_gives : Gives text ρ behind_place pieces_after
    unfolding behind_place
    behind_place_gives = alt text ρ assigned_gives finished_gives

    exp_form_gives : Gives text ρ exp_form pieces_of
    unfolding exp_form
    exp_form_gives = unless text ρ (split text ρ (λ e f p h. h e p) (expression_gives text ρ knots) behind_place_gives finished_gives)

    piece_form_gives : Gives text ρ piece_form pieces_of
    unfolding piece_form
    piece_form_gives = alt text ρ let_form_gives (alt text ρ for_form_gives (alt text ρ return_form_gives (alt text ρ alone_form_gives exp_form_gives)))

    pieces_gives : Gives text ρ pieces bodies
    unfolding pieces
    pieces_gives = loop text ρ stmts (exps text) (λ ss o r l. (r, l)) (map_to text ρ piece_step piece_form_gives)

    -- Block
    pub block_form_gives : Gives text ρ block_form (good (well_block text))
    unfolding block_form
    block_form_gives =
        seq text ρ {P = anything} (λ o r u q. block_is text (across o r.1) r.0.0 r.0.1 ∙ both_true (row_each (well_stmt text) r.0.0 q.0) (perhaps_any (well_exp text) r.0.1 q.1)) (none_kept text ρ)
        (both_first text ρ (map_to text ρ {Q = bodies} tail_well pieces_gives))
