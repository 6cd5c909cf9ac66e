-- Statements and blocks: what is written is what is read.
use Rattle.std.proofs.Common.{◌≡◌, Bool, true, false, List, [], ◌∷◌, ◌++◌, Option, Some, None, ◌⊎◌, inl, inr, refl, sym, ap, ◌∙◌, subst, append-nil}
use Rattle.std.proofs.lemmas.Bool.{both_ways}
use Rattle.hs_grammar.specs.Form.{Step as Turn, More, Last, Map, Seq, Alt, Loop}
use Rattle.hs_grammar.specs.Kinds.{starts}
use Rattle.hs_grammar.specs.Derives.{Derivings, Beginnings, Where, Derives, Begun}
use Rattle.hs_grammar.specs.Same.{Same, Sane}
use Rattle.hs_grammar.specs.Combinators.{optional, star}
use Rattle.hs_grammar.proofs.Lists.{same_tail}
use Rattle.hs_syntax.specs.declared.span.Span.{Span}
use Rattle.hs_syntax.specs.declared.exp.BinaryOp.{BinaryOp}
use Rattle.hs_syntax.specs.declared.exp.Target.{Target}
use Rattle.hs_syntax.specs.declared.exp.Exp.{Exp}
use Rattle.hs_syntax.specs.declared.exp.Step.{Step}
use Rattle.hs_syntax.specs.declared.exp.Stmt.{Stmt}
use Rattle.hs_syntax.specs.declared.exp.Stmt.TheVariants as stmt
use Rattle.hs_forms.specs.declared.token.Kind.TheVariants as k
use Rattle.hs_forms.specs.declared.token.Token.{Token}
use Rattle.hs_forms.specs.declared.piece.Piece.{Piece}
use Rattle.hs_forms.specs.declared.piece.Piece.TheVariants as piece
use Rattle.hs_forms.specs.Lexis.{lexis}
use Rattle.hs_forms.specs.Nodes.{across}
use Rattle.hs_forms.specs.Blocks.{place_in, is_some, is_place, alone_of, exp_stmt_of, assign_to, assign_of, step_of_piece}
use Rattle.hs_forms.specs.Reading.{RExp, RPlaced, rules, F, at, let_form, for_form, returned, return_form, alone, alone_form, assigned, finished, behind_place, exp_form, piece_form, pieces, block_form}
use Rattle.hs_forms.specs.Written.{let_stmt, assign_stmt, for_stmt, return_stmt, alone_stmt, exp_stmt, written_stmt, tail_exp, written_block}
use Rattle.hs_forms.proofs.Factor.{same_by}
use Rattle.hs_forms.proofs.Inside.{keep, by, back, seq, alt, along, loop, map_seq}
use Rattle.hs_forms.proofs.Expressions.{alone_same}
use Rattle.hs_forms.proofs.Targets.{Targets, alone_kinds}

both_where : {X Y : Type 0} (b : Bool) → X → Y → Where b X Y
both_where true x y = x
both_where false x y = y

where_true : (X Y : Type 0) (b : Bool) → b ≡ true → X → Where b X Y
where_true X Y b h x = subst (λ z. Where z X Y) (sym h) x

module _ (ρ : Derivings lexis rules) (β : Beginnings lexis rules) (sane : Sane lexis rules ρ β) (targets : Targets ρ β) where
  -- ---- what begins with an expression

  three : F Piece
  three = Alt (Map piece.Statement assign_stmt) (Alt (Map piece.Statement exp_stmt) (Map piece.Tail tail_exp))

  exp_to : (w : List Token) (x : Piece) → Derives ρ exp_form w x → Derives ρ three w x
  unfolding exp_form behind_place assigned finished three assign_stmt exp_stmt tail_exp is_place
  exp_to w x (b, (u, v, e', g, i, (e, de, y), wh, j')) = pick (is_place e) refl (subst (λ z. Where (is_place z) (Derives ρ behind_place v g) (Derives ρ finished v g)) (sym y) wh)
    where
      j : g e ≡ x
      j = ap g y ∙ j'

      finish : Derives ρ finished v g → Derives ρ three w x
      finish (inl (close, dc, z)) = inr (inl (exp_stmt_of e close, (b, (u, v, e, close, i, (e, de, refl), dc, refl)), ap (λ h. h e) z ∙ j))
      finish (inr (n, z)) = inr (inr (e, (b, (e, subst (λ q. ρ RExp q e) (sym (i ∙ ap (λ q. u ++ q) n ∙ append-nil u)) de, refl)), ap (λ h. h e) z ∙ j))

      assign : is_place e ≡ true → Derives ρ assigned v g → ((p : Target × List Step) × ρ RPlaced u p × (place_in e ≡ Some p)) ⊎ (place_in e ≡ None) → Derives ρ three w x
      assign h (p, q, o, r, l, do', dr, z) (inl (t, dt, s)) =
          inl (
            stmt.Assign (across t.0.span r.1) t.0 t.1 o r.0,
            (u, v, t, (o, r), i, (t, dt, refl), (p, q, o, r, l, do', dr, refl), refl),
            sym (ap (λ q. piece.Statement (assign_to e q o r.0 r.1)) s) ∙ ap (λ h. h e) z ∙ j,
          )
      assign h d (inr s) = absurd (both_ways (is_some (place_in e)) (ap is_some s) h)

      pick : (c : Bool) → is_place e ≡ c → Where c (Derives ρ behind_place v g) (Derives ρ finished v g) → Derives ρ three w x
      pick true h (inl d) = assign h d (targets.places u e de)
      pick true h (inr d) = finish d
      pick false h d = finish d

  exp_from : (w : List Token) (x : Piece) → Derives ρ three w x → Derives ρ exp_form w x
  unfolding exp_form behind_place assigned finished three assign_stmt exp_stmt tail_exp is_place
  exp_from w x (inl (s, (u, v, t', r', i, (t, dt, y), (p, q, o, r, l, do', dr, z), j), m)) =
      let a : (e : Exp) × ρ RExp u e × (place_in e ≡ Some t) = targets.place u t dt in (
        subst (λ q. starts lexis alone_kinds q ≡ false) (sym i) (targets.apart u t dt v),
        (
          u,
          v,
          a.0,
          (λ e. piece.Statement (assign_of e o r.0 r.1)),
          i,
          (a.0, a.1, refl),
          where_true (Derives ρ behind_place v (λ e. piece.Statement (assign_of e o r.0 r.1))) (Derives ρ finished v (λ e. piece.Statement (assign_of e o r.0 r.1))) (is_place a.0) (ap is_some a.2) (inl (p, q, o, r, l, do', dr, refl)),
          ap (λ q. piece.Statement (assign_to a.0 q o r.0 r.1)) a.2
              ∙ ap (λ (t : Target × List Step). piece.Statement (stmt.Assign (across t.0.span r.1) t.0 t.1 o r.0)) y
              ∙ ap (λ (r : Option BinaryOp × (Exp × Span)). piece.Statement (stmt.Assign (across t'.0.span r.1.1) t'.0 t'.1 r.0 r.1.0)) z
              ∙ ap (λ s. piece.Statement s) j ∙ m,
        ),
      )
  exp_from w x (inr (inl (s, (b, (u, v, e', close, i, (e, de, y), dc, j)), m))) = (
    b,
    (
      u,
      v,
      e,
      (λ e. piece.Statement (exp_stmt_of e close)),
      i,
      (e, de, refl),
      both_where (is_place e) (inr (inl (close, dc, refl))) (inl (close, dc, refl)),
      ap (λ e. piece.Statement (exp_stmt_of e close)) y ∙ ap (λ s. piece.Statement s) j ∙ m,
    ),
  )
  exp_from w x (inr (inr (e', (b, (e, de, y)), m))) =
      (b, (w, [], e, (λ e. piece.Tail e), sym (append-nil w), (e, de, refl), both_where (is_place e) (inr (inr (refl, refl))) (inr (refl, refl)), ap (λ e. piece.Tail e) y ∙ m))

  exp_begun_to : (w : List Token) → Begun ρ β exp_form w → Begun ρ β three w
  unfolding exp_form behind_place assigned finished three assign_stmt exp_stmt tail_exp is_place
  exp_begun_to w (b, inl be) = inr (inr (b, be))
  exp_begun_to w (b, inr (u, v, e', i, (e, de, y), wh)) = pick (is_place e) refl (subst (λ z. Where (is_place z) (Begun ρ β behind_place v) (Begun ρ β finished v)) (sym y) wh)
    where
      finish : Begun ρ β finished v → Begun ρ β three w
      finish (inl bs) = inr (inl (b, inr (u, v, e, i, (e, de, refl), bs)))
      finish (inr n) = inr (inr (b, subst (β RExp) (sym (i ∙ ap (λ q. u ++ q) n ∙ append-nil u)) (sane.begun RExp u e de)))

      assign : is_place e ≡ true → Begun ρ β assigned v → ((p : Target × List Step) × ρ RPlaced u p × (place_in e ≡ Some p)) ⊎ (place_in e ≡ None) → Begun ρ β three w
      assign h bb (inl (t, dt, s)) = inl (inr (u, v, t, i, (t, dt, refl), bb))
      assign h bb (inr s) = absurd (both_ways (is_some (place_in e)) (ap is_some s) h)

      pick : (c : Bool) → is_place e ≡ c → Where c (Begun ρ β behind_place v) (Begun ρ β finished v) → Begun ρ β three w
      pick true h (inl d) = assign h d (targets.places u e de)
      pick true h (inr d) = finish d
      pick false h d = finish d

  exp_begun_from : (w : List Token) → Begun ρ β three w → Begun ρ β exp_form w
  unfolding exp_form behind_place assigned finished three assign_stmt exp_stmt tail_exp is_place
  exp_begun_from w (inl (inl b)) = (targets.begun_apart w b, inl (targets.place_begun w b))
  exp_begun_from w (inl (inr (u, v, t', i, (t, dt, y), bb))) =
      let a : (e : Exp) × ρ RExp u e × (place_in e ≡ Some t) = targets.place u t dt in (
        subst (λ q. starts lexis alone_kinds q ≡ false) (sym i) (targets.apart u t dt v),
        inr (u, v, a.0, i, (a.0, a.1, refl), where_true (Begun ρ β behind_place v) (Begun ρ β finished v) (is_place a.0) (ap is_some a.2) (inl bb)),
      )
  exp_begun_from w (inr (inl (b, inl be))) = (b, inl be)
  exp_begun_from w (inr (inl (b, inr (u, v, e, i, de, bs)))) = (b, inr (u, v, e, i, de, both_where (is_place e) (inr (inl bs)) (inl bs)))
  exp_begun_from w (inr (inr (b, be))) = (b, inl be)

  exp_same : Same ρ β exp_form three
  exp_same = record { to = exp_to; from = exp_from; begun_to = exp_begun_to; begun_from = exp_begun_from }

  -- ---- statements

  return_factored : Same ρ β (Map piece.Statement return_stmt) return_form
  unfolding return_stmt return_form returned
  return_factored = same_by lexis rules ρ β sane Piece (Map piece.Statement return_stmt) return_form (1 ∷ 0 ∷ []) (1 ∷ 0 ∷ []) refl refl

  let_same : Same ρ β (Map piece.Statement let_stmt) let_form
  unfolding let_stmt let_form
  let_same = map_seq ρ β

  for_same : Same ρ β (Map piece.Statement for_stmt) for_form
  unfolding for_stmt for_form
  for_same = map_seq ρ β

  alone_stmt_same : Same ρ β (Map piece.Statement alone_stmt) alone_form
  unfolding alone_stmt alone_form
  alone_stmt_same = by ρ β (Map piece.Statement (Seq alone_of alone (optional (at k.Semicolon)))) (along ρ β (seq ρ β (alone_same ρ β sane) (keep ρ β))) (map_seq ρ β)

  module _ (l a f r o e : F Stmt) (t : F Exp) where
    -- as they are written
    abbrev in_order : F Piece
    in_order = Alt (Map piece.Statement (Alt l (Alt a (Alt f (Alt r (Alt o e)))))) (Map piece.Tail t)

    -- those that begin with an expression at the end
    abbrev shuffled : F Piece
    shuffled =
        Alt (Map piece.Statement l) (Alt (Map piece.Statement f) (Alt (Map piece.Statement r) (Alt (Map piece.Statement o)
        (Alt (Map piece.Statement a) (Alt (Map piece.Statement e) (Map piece.Tail t))))))

    shuffle_to : (w : List Token) (x : Piece) → Derives ρ in_order w x → Derives ρ shuffled w x
    shuffle_to w x (inl (s, inl d, j)) = inl (s, d, j)
    shuffle_to w x (inl (s, inr (inl d), j)) = inr (inr (inr (inr (inl (s, d, j)))))
    shuffle_to w x (inl (s, inr (inr (inl d)), j)) = inr (inl (s, d, j))
    shuffle_to w x (inl (s, inr (inr (inr (inl d))), j)) = inr (inr (inl (s, d, j)))
    shuffle_to w x (inl (s, inr (inr (inr (inr (inl d)))), j)) = inr (inr (inr (inl (s, d, j))))
    shuffle_to w x (inl (s, inr (inr (inr (inr (inr d)))), j)) = inr (inr (inr (inr (inr (inl (s, d, j))))))
    shuffle_to w x (inr d) = inr (inr (inr (inr (inr (inr d)))))

    shuffle_from : (w : List Token) (x : Piece) → Derives ρ shuffled w x → Derives ρ in_order w x
    shuffle_from w x (inl (s, d, j)) = inl (s, inl d, j)
    shuffle_from w x (inr (inl (s, d, j))) = inl (s, inr (inr (inl d)), j)
    shuffle_from w x (inr (inr (inl (s, d, j)))) = inl (s, inr (inr (inr (inl d))), j)
    shuffle_from w x (inr (inr (inr (inl (s, d, j))))) = inl (s, inr (inr (inr (inr (inl d)))), j)
    shuffle_from w x (inr (inr (inr (inr (inl (s, d, j)))))) = inl (s, inr (inl d), j)
    shuffle_from w x (inr (inr (inr (inr (inr (inl (s, d, j))))))) = inl (s, inr (inr (inr (inr (inr d)))), j)
    shuffle_from w x (inr (inr (inr (inr (inr (inr d)))))) = inr d

    shuffle_begun_to : (w : List Token) → Begun ρ β in_order w → Begun ρ β shuffled w
    shuffle_begun_to w (inl (inl b)) = inl b
    shuffle_begun_to w (inl (inr (inl b))) = inr (inr (inr (inr (inl b))))
    shuffle_begun_to w (inl (inr (inr (inl b)))) = inr (inl b)
    shuffle_begun_to w (inl (inr (inr (inr (inl b))))) = inr (inr (inl b))
    shuffle_begun_to w (inl (inr (inr (inr (inr (inl b)))))) = inr (inr (inr (inl b)))
    shuffle_begun_to w (inl (inr (inr (inr (inr (inr b)))))) = inr (inr (inr (inr (inr (inl b)))))
    shuffle_begun_to w (inr b) = inr (inr (inr (inr (inr (inr b)))))

    shuffle_begun_from : (w : List Token) → Begun ρ β shuffled w → Begun ρ β in_order w
    shuffle_begun_from w (inl b) = inl (inl b)
    shuffle_begun_from w (inr (inl b)) = inl (inr (inr (inl b)))
    shuffle_begun_from w (inr (inr (inl b))) = inl (inr (inr (inr (inl b))))
    shuffle_begun_from w (inr (inr (inr (inl b)))) = inl (inr (inr (inr (inr (inl b)))))
    shuffle_begun_from w (inr (inr (inr (inr (inl b))))) = inl (inr (inl b))
    shuffle_begun_from w (inr (inr (inr (inr (inr (inl b)))))) = inl (inr (inr (inr (inr (inr b)))))
    shuffle_begun_from w (inr (inr (inr (inr (inr (inr b)))))) = inr b

    shuffle_same : Same ρ β in_order shuffled
    shuffle_same = record { to = shuffle_to; from = shuffle_from; begun_to = shuffle_begun_to; begun_from = shuffle_begun_from }

  -- a statement or the tail
  abbrev either : F Piece
  either = Alt (Map piece.Statement written_stmt) (Map piece.Tail tail_exp)

  piece_same : Same ρ β piece_form either
  unfolding piece_form written_stmt three
  piece_same = back ρ β
      (by ρ β (shuffled let_stmt assign_stmt for_stmt return_stmt alone_stmt exp_stmt tail_exp)
      (shuffle_same let_stmt assign_stmt for_stmt return_stmt alone_stmt exp_stmt tail_exp)
      (alt ρ β let_same (alt ρ β for_same (alt ρ β return_factored (alt ρ β alone_stmt_same (back ρ β exp_same))))))

  -- ---- blocks

  abbrev turn : F (Turn Stmt Exp)
  turn = Map step_of_piece either

  more_from : (u : List Token) (s : Stmt) → Derives ρ turn u (More s) → Derives ρ written_stmt u s
  more_from u s (p, inl (b, d, i), j) = let e : ◌≡◌ {A = Turn Stmt Exp} (More b) (More s) = ap step_of_piece i ∙ j in let o : b ≡ s = cc in subst (Derives ρ written_stmt u) o d
  more_from u s (p, inr (b, d, i), j) = let e : ◌≡◌ {A = Turn Stmt Exp} (Last b) (More s) = ap step_of_piece i ∙ j in absurd (cc)

  last_from : (u : List Token) (e : Exp) → Derives ρ turn u (Last e) → Derives ρ tail_exp u e
  last_from u e (p, inl (b, d, i), j) = let h : ◌≡◌ {A = Turn Stmt Exp} (More b) (Last e) = ap step_of_piece i ∙ j in absurd (cc)
  last_from u e (p, inr (b, d, i), j) = let h : ◌≡◌ {A = Turn Stmt Exp} (Last b) (Last e) = ap step_of_piece i ∙ j in let o : b ≡ e = cc in subst (Derives ρ tail_exp u) o d

  pieces_same : Same ρ β (Seq (λ ss e. (ss, e)) (star written_stmt) (optional tail_exp)) pieces
  unfolding pieces
  pieces_same = by ρ β (Loop (λ ss e. (ss, e)) turn)
      (same_tail lexis rules ρ β sane written_stmt tail_exp turn (λ u s d. (piece.Statement s, inl (s, d, refl), refl)) more_from (λ u e d. (piece.Tail e, inr (e, d, refl), refl)) last_from (λ w b. b) (λ w b. b) (λ ss e. (ss, e)))
      (loop ρ β (along ρ β (back ρ β piece_same)))

  pub block_same : Same ρ β written_block block_form
  unfolding written_block block_form
  block_same = seq ρ β (keep ρ β) (seq ρ β (along ρ β pieces_same) (keep ρ β))
