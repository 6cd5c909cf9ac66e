-- Where statements and blocks lie.
use Rattle.std.proofs.Common.{◌≡◌, ℕ, ◌≤◌, arith, List, [], ◌∷◌, Option, Some, None, refl, map, option_map}
use Rattle.hs_grammar.specs.Derives.{Derivings}
use Rattle.hs_syntax.specs.declared.span.Span.{Span}
use Rattle.hs_syntax.specs.declared.ty.Ty.{Ty}
use Rattle.hs_syntax.specs.declared.pat.Pat.{Pat}
use Rattle.hs_syntax.specs.declared.exp.BinaryOp.{BinaryOp}
use Rattle.hs_syntax.specs.declared.exp.Target.{Target}
use Rattle.hs_syntax.specs.declared.exp.Variable.{Variable}
use Rattle.hs_syntax.specs.declared.exp.Exp.{Exp}
use Rattle.hs_syntax.specs.declared.exp.Step.{Step}
use Rattle.hs_syntax.specs.declared.exp.Stmt.{Stmt}
use Rattle.hs_syntax.specs.declared.exp.Block.{Block}
use Rattle.hs_syntax.specs.Spans.{span_of_exp, span_of_block, span_of_variable}
use Rattle.hs_forms.specs.declared.token.Kind.TheVariants as k
use Rattle.hs_forms.specs.declared.piece.Piece.{Piece}
use Rattle.hs_forms.specs.declared.piece.Piece.TheVariants as piece
use Rattle.hs_forms.specs.Lexis.{lexis}
use Rattle.hs_forms.specs.Nodes.{across}
use Rattle.hs_forms.specs.Blocks.{place_in, let_of, for_of, return_of, alone_of, exp_stmt_of, assign_to, step_of_piece, bare_in, ending, split_tail, with_tail, block_of}
use Rattle.hs_forms.specs.Reading.{rules, let_form, loop_variable, for_form, returned, return_form, alone_form, assigned, finished, behind_place, exp_form, piece_form, pieces, block_form}
use Rattle.hs_limits.specs.Outline.{join, one, maybe, all, upto, counted, statement}
use Rattle.hs_limits.specs.Nodes.{word, name, wrap, optional_ty, node_of_ty, node_of_pat, node_of_exp, node_of_step, node_of_stmt, node_of_block}
use Rattle.hs_limits.specs.Nested.{Nested}
use Rattle.hs_limits.specs.Spans.{SpansAgree}
use Rattle.hs_places.proofs.Outlines.{wide, beyond, begun, opened, held, around, until, start_of, ordered, upto_nested}
use Rattle.hs_places.proofs.Layers.{on, stmt_let, stmt_assign, stmt_for, stmt_return, stmt_bare, stmt_exp, block_is}
use Rattle.hs_places.proofs.Facts.{Fact, nodes, spans, nothing, pair, perhaps, Perhaps, perhaps_nested, rows, Row, row_nested, Turn, closes}
use Rattle.hs_places.proofs.Gives.{Gives, Knots, span, none_kept, empty, map_to, seq, split, alt, unless, loop, then_, both, may}
use Rattle.hs_places.proofs.Types.{name_gives, type_gives}
use Rattle.hs_places.proofs.Patterns.{pattern_gives}
use Rattle.hs_places.proofs.Exps.{exps, expression_gives, block_gives, alone_gives}
use Rattle.hs_places.proofs.Places.{place_nested, bare_nested}

abbrev pub stmts : Fact Stmt
stmts = nodes node_of_stmt

abbrev Lies : ℕ → ℕ → Piece → Type 0
Lies low high (piece.Statement s) = Nested (one (node_of_stmt s)) low high
Lies low high (piece.Tail e) = Nested (one (node_of_exp e)) low high

lies_wider : (low high lower higher : ℕ) (x : Piece) → lower ≤ low → high ≤ higher → Lies low high x → Lies lower higher x
lies_wider low high lower higher (piece.Statement s) l h p = wide (one (node_of_stmt s)) low high lower higher l h p
lies_wider low high lower higher (piece.Tail e) l h p = wide (one (node_of_exp e)) low high lower higher l h p

-- the variable of a loop
abbrev variables : Fact Variable
variables = nodes (λ x. word (span_of_variable x))

-- a piece of a block
abbrev pieces_of : Fact Piece
pieces_of = record { holds = Lies; wider = lies_wider }

-- what makes a piece of the expression before it
abbrev pieces_after : Fact (Exp → Piece)
pieces_after = record {
  holds = λ low high f. (e : Exp) (start : ℕ) → Nested (one (node_of_exp e)) start low → Lies start high (f e);
  wider = λ low high lower higher f l h p e start q. lies_wider start high start higher (f e) (omega arith) h (p e start (beyond (one (node_of_exp e)) start lower low l q));
}

-- the statements of a block, and its tail
abbrev bodies : Fact (List Stmt × Option Exp)
bodies = pair (rows stmts) (perhaps exps)

-- ---- statements

let_nested : (low a b c d high : ℕ) (s : Span) (p : Pat) (t : Option Ty) (e : Exp) (close : Span) → Nested (name s) low a → Nested (one (node_of_pat p)) a b → Perhaps (nodes node_of_ty) b c t → Nested (one (node_of_exp e)) c d → Nested (name close) d high
    → Nested (one (node_of_stmt (let_of s p t e close))) low high
let_nested low a b c d high s p t e close first q r x last =
    on (stmt_let (across s close) p t e)
    (opened (across s close) counted s (join (one (node_of_pat p)) (join (optional_ty t) (one (node_of_exp e)))) low a high refl first
    (b, q, (c, perhaps_nested node_of_ty t b c r, beyond (one (node_of_exp e)) c d close.end (closes close d high last) x)) last.2)

for_nested : SpansAgree → (low a b c d high : ℕ) (s : Span) (x : Variable) (e f : Exp) (body : Block) → Nested (name s) low a → Nested (name (span_of_variable x)) a b → Nested (one (node_of_exp e)) b c → Nested (one (node_of_exp f)) c d → Nested (one (node_of_block body)) d high
    → Nested (one (node_of_stmt (for_of s x e f body))) low high
for_nested agree low a b c d high s x e f body first p q r last =
    let u = until (node_of_block body) (span_of_block body) d high (agree.of_block body) last in
    on (stmt_for (across s (span_of_block body)) x e f body)
    (opened (across s (span_of_block body)) counted s (join (name (span_of_variable x)) (join (one (node_of_exp e)) (join (one (node_of_exp f)) (one (node_of_block body))))) low a high refl first
    (b, p, (c, q, (d, r, u.0))) u.1)

return_nested : (low a b high : ℕ) (s : Span) (e : Option Exp) (close : Span) → Nested (name s) low a → Perhaps exps a b e → Nested (name close) b high → Nested (one (node_of_stmt (return_of s e close))) low high
return_nested low a b high s e close first p last =
    on (stmt_return (across s close) e)
    (opened (across s close) counted s (maybe (option_map node_of_exp e)) low a high refl first
    (beyond (maybe (option_map node_of_exp e)) a b close.end (closes close b high last) (perhaps_nested node_of_exp e a b p)) last.2)

exp_stmt_nested : SpansAgree → (low m high : ℕ) (e : Exp) (close : Span) → Nested (one (node_of_exp e)) low m → Nested (name close) m high → Nested (one (node_of_stmt (exp_stmt_of e close))) low high
exp_stmt_nested agree low m high e close p c =
    on (stmt_exp (across (span_of_exp e) close) e)
    (held (across (span_of_exp e) close) counted (node_of_exp e) low m high (start_of (node_of_exp e) (span_of_exp e) (agree.of_exp e)) p (closes close m high c) c.2)

alone_nested : SpansAgree → (low m high : ℕ) (e : Exp) (o : Option Span) → Nested (one (node_of_exp e)) low m → Perhaps spans m high o → Nested (one (node_of_stmt (alone_of e o))) low high
alone_nested agree low m high e None p l = on (stmt_bare e) (around (node_of_exp e).at counted (node_of_exp e) low high refl (beyond (one (node_of_exp e)) low m high l p))
alone_nested agree low m high e (Some close) p c = exp_stmt_nested agree low m high e close p c

assign_nested : SpansAgree → (start low m high : ℕ) (e : Exp) (place : Option (Target × List Step)) (o : Option BinaryOp) (right : Exp) (close : Span) → place_in e ≡ place
    → Nested (one (node_of_exp e)) start low → Nested (one (node_of_exp right)) low m → Nested (name close) m high → Nested (one (node_of_stmt (assign_to e place o right close))) start high
assign_nested agree start low m high e None o right close i p q c =
    exp_stmt_nested agree start m high e close (beyond (one (node_of_exp e)) start low m (ordered (one (node_of_exp right)) low m q) p) c
assign_nested agree start low m high e (Some (t, ps)) o right close i p q c =
    on (stmt_assign (across t.span close) t ps o right)
    (begun (across t.span close) counted (wrap t.span (join (name t.name) (all (map node_of_step ps)))) (one (node_of_exp right)) start low high refl (place_nested agree e t ps start low i p)
    (beyond (one (node_of_exp right)) low m close.end (closes close m high c) q) c.2)

-- ---- blocks

piece_step : (low high : ℕ) (x : Piece) → Lies low high x → Turn stmts exps low high (step_of_piece x)
piece_step low high (piece.Statement s) p = p
piece_step low high (piece.Tail e) p = p

ending_nested : (low m high : ℕ) (s : Stmt) (o : Option Exp) → bare_in s ≡ o → Nested (one (node_of_stmt s)) low m → m ≤ high → bodies.holds low high (ending s o)
ending_nested low m high s None i p l = (m, (m, p, omega arith), l)
ending_nested low m high s (Some e) i p l = (low, omega arith, beyond (one (node_of_exp e)) low m high l (bare_nested s e low m i p))

split_nested : (low high : ℕ) (ss : List Stmt) → Row stmts low high ss → bodies.holds low high (split_tail ss)
split_nested low high [] r = (high, r, omega arith)
split_nested low high (s ∷ []) (m, p, l) = ending_nested low m high s (bare_in s) refl p l
split_nested low high (s ∷ (t ∷ ss)) (m, p, r) = let i = split_nested m high (t ∷ ss) r in (i.0, (m, p, i.1), i.2)

tail_nested : (low high : ℕ) (body : List Stmt × Option Exp) → bodies.holds low high body → bodies.holds low high (with_tail body)
tail_nested low high (ss, Some e) p = p
tail_nested low high (ss, None) (m, r, l) = split_nested low high ss ((rows stmts).wider low m low high ss (omega arith) l r)

block_nested : (low m k high : ℕ) (o : Span) (body : List Stmt × Option Exp) (close : Span) → Nested (name o) low m → bodies.holds m k body → Nested (name close) k high → Nested (one (node_of_block (block_of o body close))) low high
block_nested low m k high o body close p (i, r, t) c =
    on (block_is (across o close) body.0 body.1)
    (opened (across o close) counted o (join (upto 1024 statement (map node_of_stmt body.0)) (maybe (option_map node_of_exp body.1))) low m high refl p (
      i,
      upto_nested 1024 statement (map node_of_stmt body.0) m i (row_nested node_of_stmt body.0 m i r),
      beyond (maybe (option_map node_of_exp body.1)) i k close.end (closes close k high c) (perhaps_nested node_of_exp body.1 i k t),
    ) c.2)

module _ (ρ : Derivings lexis rules) (knots : Knots ρ) where
  let_form_gives : Gives ρ let_form pieces_of
  unfolding let_form
  let_form_gives =
      seq ρ (λ low m high s r p q. let_nested low m q.0 q.2.0 q.2.2.0 high s r.0 r.1.0 r.1.1.0 r.1.1.1 p q.1 q.2.1 q.2.2.1 q.2.2.2) (span ρ refl)
      (both ρ (pattern_gives ρ knots) (both ρ (may ρ (then_ ρ (type_gives ρ knots))) (then_ ρ (both ρ (expression_gives ρ knots) (span ρ refl)))))

  loop_variable_gives : Gives ρ loop_variable variables
  unfolding loop_variable span_of_variable
  loop_variable_gives = alt ρ (map_to ρ (λ low high s p. p) (span ρ {ks = k.Underscore ∷ []} refl)) (map_to ρ (λ low high n p. p) (name_gives ρ knots))

  for_form_gives : Gives ρ for_form pieces_of
  unfolding for_form
  for_form_gives =
      seq ρ (λ low m high s r p q. for_nested knots.agree low m q.0 q.2.0 q.2.2.0 high s r.0 r.1.0 r.1.1.0 r.1.1.1 p q.1 q.2.1 q.2.2.1 q.2.2.2) (span ρ refl)
      (both ρ loop_variable_gives (then_ ρ (both ρ (expression_gives ρ knots) (then_ ρ (both ρ (expression_gives ρ knots) (block_gives ρ knots))))))

  returned_gives : Gives ρ returned (pair (perhaps exps) spans)
  unfolding returned
  returned_gives =
      alt ρ (map_to ρ (λ low high close c. (low, omega arith, c)) (span ρ {ks = k.Semicolon ∷ []} refl))
      (both ρ (map_to ρ {Q = perhaps exps} (λ low high e p. p) (expression_gives ρ knots)) (span ρ refl))

  return_form_gives : Gives ρ return_form pieces_of
  unfolding return_form
  return_form_gives = seq ρ (λ low m high s r p q. return_nested low m q.0 high s r.0 r.1 p q.1 q.2) (span ρ refl) returned_gives

  alone_form_gives : Gives ρ alone_form pieces_of
  unfolding alone_form
  alone_form_gives = seq ρ (alone_nested knots.agree) (alone_gives ρ knots) (may ρ (span ρ {ks = k.Semicolon ∷ []} refl))

  assigned_gives : Gives ρ assigned pieces_after
  unfolding assigned
  assigned_gives =
      seq ρ {P = nothing} (λ low m high o r l q e start p. assign_nested knots.agree start m q.0 high e (place_in e) o r.0 r.1 refl (beyond (one (node_of_exp e)) start low m l p) q.1 q.2) (none_kept ρ)
      (both ρ (expression_gives ρ knots) (span ρ refl))

  finished_gives : Gives ρ finished pieces_after
  unfolding finished
  finished_gives =
      alt ρ (map_to ρ (λ low high close c e start p. exp_stmt_nested knots.agree start low high e close p c) (span ρ {ks = k.Semicolon ∷ []} refl))
      (empty ρ (λ low high l e start p. beyond (one (node_of_exp e)) start low high l p))

  behind_place_gives : Gives ρ behind_place pieces_after
  unfolding behind_place
  behind_place_gives = alt ρ assigned_gives finished_gives

  exp_form_gives : Gives ρ exp_form pieces_of
  unfolding exp_form
  exp_form_gives = unless ρ (split ρ (λ low m high e f p h. h e low p) (expression_gives ρ knots) behind_place_gives finished_gives)

  piece_form_gives : Gives ρ piece_form pieces_of
  unfolding piece_form
  piece_form_gives = alt ρ let_form_gives (alt ρ for_form_gives (alt ρ return_form_gives (alt ρ alone_form_gives exp_form_gives)))

  pieces_gives : Gives ρ pieces bodies
  unfolding pieces
  pieces_gives = loop ρ stmts exps (λ low m high ss o r l. (m, r, l)) (map_to ρ piece_step piece_form_gives)

  -- Block
  pub block_form_gives : Gives ρ block_form (nodes node_of_block)
  unfolding block_form
  block_form_gives =
      seq ρ (λ low m high o r p q. block_nested low m q.0 high o r.0 r.1 p q.1 q.2) (span ρ refl)
      (both ρ (map_to ρ {Q = bodies} tail_nested pieces_gives) (span ρ {ks = k.RightBrace ∷ []} refl))
