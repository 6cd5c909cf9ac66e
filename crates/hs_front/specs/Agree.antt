-- What is read is what is written.
use Rattle.std.proofs.Common.{ℕ, zero, suc, List, ◌++◌, inl, inr, refl, sym, ap, ◌∙◌, append_assoc}
use Rattle.hs_grammar.specs.Form.{Seq, Alt, Map}
use Rattle.hs_grammar.specs.Derives.{Derivings, Beginnings, Derives, Begun}
use Rattle.hs_grammar.specs.Same.{Same, SameGrammars}
use Rattle.hs_grammar.proofs.Same.{same, same_seq, same_alt, same_trans, same_grammars}
use Rattle.hs_front.specs.declared.symbol.Symbol.{Symbol}
use Rattle.hs_front.specs.declared.syntax.Prim.TheVariants as prims
use Rattle.hs_front.specs.declared.syntax.Stmt.TheVariants as stmts
use Rattle.hs_front.specs.declared.syntax.Body.{Body}
use Rattle.hs_front.specs.Lexis.{lexis}
use Rattle.hs_front.specs.Written.{Rule, AFile, rules, F, local, prim, sum, sum_of, binding, assignment, stmt, body, only, with_stmt, file, written}
use Rattle.hs_front.specs.Reading.{more, numeric, behind_name, body_read, file_read, grammar, assigns, begins_value, named}

module _ (ρ : Derivings lexis rules) (β : Beginnings lexis rules) where
  -- a statement and a body, or a value, as it is written
  abbrev one : F Body → F Body
  one b = Alt (Seq with_stmt stmt b) (Map only sum)

  -- and as it is read
  abbrev one_read : F Body → F Body
  one_read b = Alt (Seq with_stmt binding b) (Alt (Seq named local (behind_name b)) numeric)

  to : (b : F Body) (w : List Symbol) (x : Body) → Derives ρ (one b) w x → Derives ρ (one_read b) w x
  unfolding stmt assignment sum prim behind_name numeric more
  to b w x (inl (u, v, s, r, e, inl d, i, j)) = inl (u, v, s, r, e, d, i, j)
  to b w x (inl (u, v, s, r, e, inr (p, q, name, value, f, d, c, k), i, j)) =
      inr (inl (
        p,
        q ++ v,
        name,
        assigns value r,
        e ∙ ap (λ z. z ++ v) f ∙ append_assoc p q v,
        d,
        inl (q, v, value, r, refl, c, i, refl),
        ap (λ z. with_stmt z r) k ∙ j,
      ))
  to b w x (inr (s, (p, q, first, ps, e, inl (name, d, m), c, k), j)) =
      inr (inl (
        p,
        q,
        name,
        (λ n. begins_value ps (prims.Name n)),
        e,
        d,
        inr (ps, c, refl),
        ap (λ z. only (sum_of z ps)) m ∙ ap only k ∙ j,
      ))
  to b w x (inr (s, (p, q, first, ps, e, inr d, c, k), j)) = inr (inr (p, q, first, ps, e, d, c, ap only k ∙ j))

  from : (b : F Body) (w : List Symbol) (x : Body) → Derives ρ (one_read b) w x → Derives ρ (one b) w x
  unfolding stmt assignment sum prim behind_name numeric more
  from b w x (inl (u, v, s, r, e, d, i, j)) = inl (u, v, s, r, e, inl d, i, j)
  from b w x (inr (inl (p, z, name, g, e, d, inl (q, v, value, r, f, c, i, k), j))) =
      inl (
        p ++ q,
        v,
        stmts.Set name value,
        r,
        e ∙ ap (λ y. p ++ y) f ∙ sym (append_assoc p q v),
        inr (p, q, name, value, refl, d, c, refl),
        i,
        ap (λ h. named name h) k ∙ j,
      )
  from b w x (inr (inl (p, q, name, g, e, d, inr (ps, c, k), j))) =
      inr (sum_of (prims.Name name) ps, (p, q, prims.Name name, ps, e, inl (name, d, refl), c, refl), ap (λ h. named name h) k ∙ j)
  from b w x (inr (inr (p, q, first, ps, e, d, c, j))) = inr (sum_of first ps, (p, q, first, ps, e, inr d, c, refl), j)

  begun_to : (b : F Body) (w : List Symbol) → Begun ρ β (one b) w → Begun ρ β (one_read b) w
  unfolding stmt assignment sum prim behind_name numeric more
  begun_to b w (inl (inl (inl d))) = inl (inl d)
  begun_to b w (inl (inl (inr (inl d)))) = inr (inl (inl d))
  begun_to b w (inl (inl (inr (inr (u, v, name, e, d, c))))) = inr (inl (inr (u, v, name, e, d, inl (inl c))))
  begun_to b w (inl (inr (u, v, s, e, inl d, c))) = inl (inr (u, v, s, e, d, c))
  begun_to b w (inl (inr (u, v, s, e, inr (p, q, name, value, f, d, c, k), i))) =
      inr (inl (inr (p, q ++ v, name, e ∙ ap (λ z. z ++ v) f ∙ append_assoc p q v, d, inl (inr (q, v, value, refl, c, i)))))
  begun_to b w (inr (inl (inl d))) = inr (inl (inl d))
  begun_to b w (inr (inl (inr d))) = inr (inr (inl d))
  begun_to b w (inr (inr (u, v, first, e, inl (name, d, m), c))) = inr (inl (inr (u, v, name, e, d, inr c)))
  begun_to b w (inr (inr (u, v, first, e, inr d, c))) = inr (inr (inr (u, v, first, e, d, c)))

  begun_from : (b : F Body) (w : List Symbol) → Begun ρ β (one_read b) w → Begun ρ β (one b) w
  unfolding stmt assignment sum prim behind_name numeric more
  begun_from b w (inl (inl d)) = inl (inl (inl d))
  begun_from b w (inl (inr (u, v, s, e, d, c))) = inl (inr (u, v, s, e, inl d, c))
  begun_from b w (inr (inl (inl d))) = inl (inl (inr (inl d)))
  begun_from b w (inr (inl (inr (u, v, name, e, d, inl (inl c))))) = inl (inl (inr (inr (u, v, name, e, d, c))))
  begun_from b w (inr (inl (inr (p, z, name, e, d, inl (inr (q, v, value, f, c, i)))))) =
      inl (inr (p ++ q, v, stmts.Set name value, e ∙ ap (λ y. p ++ y) f ∙ sym (append_assoc p q v), inr (p, q, name, value, refl, d, c, refl), i))
  begun_from b w (inr (inl (inr (u, v, name, e, d, inr c)))) = inr (inr (u, v, prims.Name name, e, inl (name, d, refl), c))
  begun_from b w (inr (inr (inl d))) = inr (inl (inr d))
  begun_from b w (inr (inr (inr (u, v, first, e, d, c)))) = inr (inr (u, v, first, e, inr d, c))

  one_same : (b : F Body) → Same ρ β (one b) (one_read b)
  one_same b = record { to = to b; from = from b; begun_to = begun_to b; begun_from = begun_from b }

  body_same : (n : ℕ) → Same ρ β (body n) (body_read n)
  unfolding body body_read
  body_same zero = same lexis rules ρ β (Map only sum)
  body_same (suc n) =
      same_trans lexis rules ρ β (one (body n)) (one (body_read n)) (one_read (body_read n))
      (same_alt lexis rules ρ β _ _ _ _ (same_seq lexis rules ρ β _ _ _ _ _ (same lexis rules ρ β _) (body_same n)) (same lexis rules ρ β _))
      (one_same (body_read n))

  each : (N : Rule) → Same ρ β (written N) (grammar N)
  unfolding file file_read
  each AFile =
      same_seq lexis rules ρ β _ _ _ _ _ (same lexis rules ρ β _)
      (same_seq lexis rules ρ β _ _ _ _ _ (same lexis rules ρ β _)
      (same_seq lexis rules ρ β _ _ _ _ _ (same lexis rules ρ β _)
      (same_seq lexis rules ρ β _ _ _ _ _ (body_same 1024) (same lexis rules ρ β _))))

pub agree : SameGrammars written grammar
agree = same_grammars written grammar (λ ρ β sane. each ρ β)
