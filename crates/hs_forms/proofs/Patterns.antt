-- Patterns and the parts of items: what is written is what is read.
use Rattle.std.proofs.Common.{List, [], ◌∷◌, Option, refl}
use Rattle.hs_grammar.specs.Form.{Map, Seq, Alt}
use Rattle.hs_grammar.specs.Derives.{Derivings, Beginnings}
use Rattle.hs_grammar.specs.Same.{Same, Sane}
use Rattle.hs_grammar.specs.Combinators.{word, ◌>>◌, ◌&◌, optional, list_read}
use Rattle.hs_syntax.specs.declared.span.Span.{Span}
use Rattle.hs_syntax.specs.declared.pat.Pat.{Pat}
use Rattle.hs_syntax.specs.declared.pat.Pat.TheVariants as pat
use Rattle.hs_syntax.specs.declared.pat.ArmPat.{ArmPat}
use Rattle.hs_syntax.specs.declared.pat.ArmPat.TheVariants as arm_pat
use Rattle.hs_forms.specs.declared.token.Kind.TheVariants as k
use Rattle.hs_forms.specs.Lexis.{lexis}
use Rattle.hs_forms.specs.Nodes.{across, tuple_pat}
use Rattle.hs_forms.specs.Reading.{rules, F, at, name, comma, pattern, patterns, named_pattern, mutable_pattern, tuple_pattern, pat_form, member_pattern, behind_ctor, arm_pattern}
use Rattle.hs_forms.specs.Written.{maybe_mutable, written_patterns, written_pat, member_of, written_arm_pat}
use Rattle.hs_forms.proofs.Factor.{same_by}
use Rattle.hs_forms.proofs.Inside.{keep, by, seq, alt, maybe, lists_read}

-- Pat, with these lists
pat_with : F (List Pat) → F (List Pat × Span) → F Pat
pat_with ps some =
    Alt (Seq maybe_mutable (optional (at k.Mut)) name) (Alt (Map pat.Any (at k.Underscore))
    (Alt (Seq (λ o (r : Pat × (List Pat × Span)). tuple_pat o r.0 r.1.0 r.1.1) (at k.LeftParenthesis)
    (pattern & (comma >> (ps & at k.RightParenthesis))))
    (Seq (λ n (r : List Pat × Span). pat.Struct (across n r.1) n r.0) name some)))

arm_pat_with : F (List Pat × Span) → F ArmPat
arm_pat_with some =
    Alt (Map arm_pat.Any (at k.Underscore)) (Alt (Map (λ n. arm_pat.Ctor n n []) name)
    (Alt (Seq (λ n (r : List Pat × Span). arm_pat.Ctor (across n r.1) n r.0) name some)
    (Seq (λ t (r : Span × Option (List Pat × Span)). member_of t r.0 r.1) name (word k.PathSeparator >> (name & optional some)))))

module _ (ρ : Derivings lexis rules) (β : Beginnings lexis rules) (sane : Sane lexis rules ρ β) where
  patterns_same : Same ρ β written_patterns patterns
  unfolding written_patterns patterns
  patterns_same = seq ρ β (keep ρ β) (seq ρ β (lists_read ρ β sane (keep ρ β)) (keep ρ β))

  pat_inside : Same ρ β written_pat (pat_with (list_read comma pattern) patterns)
  unfolding written_pat pat_with
  pat_inside =
      alt ρ β (keep ρ β) (alt ρ β (keep ρ β) (alt ρ β
      (seq ρ β (keep ρ β) (seq ρ β (keep ρ β) (seq ρ β (keep ρ β) (seq ρ β (lists_read ρ β sane (keep ρ β)) (keep ρ β)))))
      (seq ρ β (keep ρ β) patterns_same)))

  pat_factored : Same ρ β (pat_with (list_read comma pattern) patterns) pat_form
  unfolding pat_with pat_form mutable_pattern tuple_pattern named_pattern patterns name
  pat_factored = same_by lexis rules ρ β sane Pat (pat_with (list_read comma pattern) patterns) pat_form (0 ∷ 4 ∷ 1 ∷ 2 ∷ 3 ∷ []) (0 ∷ 2 ∷ 3 ∷ 4 ∷ 1 ∷ []) refl refl

  pub pat_same : Same ρ β written_pat pat_form
  pat_same = by ρ β (pat_with (list_read comma pattern) patterns) pat_inside pat_factored

  arm_pat_inside : Same ρ β written_arm_pat (arm_pat_with patterns)
  unfolding written_arm_pat arm_pat_with
  arm_pat_inside =
      alt ρ β (keep ρ β) (alt ρ β (keep ρ β) (alt ρ β (seq ρ β (keep ρ β) patterns_same)
      (seq ρ β (keep ρ β) (seq ρ β (keep ρ β) (seq ρ β (keep ρ β) (maybe ρ β patterns_same))))))

  arm_pat_factored : Same ρ β (arm_pat_with patterns) arm_pattern
  unfolding arm_pat_with arm_pattern behind_ctor member_pattern patterns name
  arm_pat_factored = same_by lexis rules ρ β sane ArmPat (arm_pat_with patterns) arm_pattern (0 ∷ 4 ∷ 3 ∷ 1 ∷ 2 ∷ []) (0 ∷ 3 ∷ 4 ∷ 2 ∷ 1 ∷ []) refl refl

  pub arm_pat_same : Same ρ β written_arm_pat arm_pattern
  arm_pat_same = by ρ β (arm_pat_with patterns) arm_pat_inside arm_pat_factored
