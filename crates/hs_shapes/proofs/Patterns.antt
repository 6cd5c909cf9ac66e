-- Patterns are well formed.
use Rattle.std.proofs.Common.{◌≡◌, ℕ, true, false, List, ◌∷◌, Option, Some, None, refl, ◌∙◌}
use Rattle.hs_grammar.specs.Derives.{Derivings}
use Rattle.hs_syntax.specs.declared.span.Span.{Span}
use Rattle.hs_syntax.specs.declared.pat.Pat.{Pat}
use Rattle.hs_syntax.specs.WellFormed.{named, well_pat, well_arm_pat}
use Rattle.hs_forms.specs.Lexis.{lexis}
use Rattle.hs_forms.specs.Nodes.{across, name_pat, tuple_pat, ctor_pat, member_pat}
use Rattle.hs_forms.specs.Reading.{rules, RPat, pattern, patterns, named_pattern, mutable_pattern, tuple_pattern, pat_form, member_pattern, behind_ctor, arm_pattern}
use Rattle.hs_shapes.proofs.Layers.{pat_name, pat_any, pat_tuple, pat_struct}
use Rattle.hs_shapes.proofs.Facts.{Fact, good, anything, by, Perhaps, some_of, behind_name, both_true, some_mapped, two_mapped}
use Rattle.hs_shapes.proofs.Gives.{Gives, Knots, of_rule, name_gives, none_kept, map_to, seq, alt, then_, both, both_first, may, listed}

module _ (text : List ℕ) where
  abbrev pats : Fact Pat
  pats = good (well_pat text)

  -- patterns in a bracket
  abbrev pub listings : Fact (List Pat × Span)
  listings = by (λ ps. ps.0) (some_of (well_pat text))

  name_well : (n : Span) (more : Option (List Pat × Span)) → named text n ≡ true → Perhaps listings more → well_pat text (name_pat n more) ≡ true
  name_well n None p h = pat_name text n false n ∙ p
  name_well n (Some (ps, close)) p h = pat_struct text (across n close) n ps ∙ both_true p (some_mapped (well_pat text) ps h)

  tuple_well : (o : Span) (p : Pat) (ps : List Pat) (close : Span) → well_pat text p ≡ true → (some_of (well_pat text)).holds ps → well_pat text (tuple_pat o p ps close) ≡ true
  tuple_well o p ps close q r = pat_tuple text (across o close) (p ∷ ps) ∙ two_mapped (well_pat text) p ps q r

  member_well : (t n : Span) (more : Option (List Pat × Span)) → named text t ≡ true → named text n ≡ true → Perhaps listings more → well_arm_pat text (member_pat t n more) ≡ true
  member_well t n None p q h = both_true p (both_true q refl)
  member_well t n (Some (ps, close)) p q h = both_true p (both_true q h.1)

  ctor_well : (n : Span) (more : Option (List Pat × Span)) → named text n ≡ true → Perhaps listings more → well_arm_pat text (ctor_pat n more) ≡ true
  ctor_well n None p h = both_true p refl
  ctor_well n (Some (ps, close)) p h = both_true p h.1

  module _ (ρ : Derivings lexis rules) (knots : Knots text ρ) where
    pub pattern_gives : Gives text ρ pattern pats
    pattern_gives = of_rule text ρ knots RPat

    patterns_gives : Gives text ρ patterns listings
    unfolding patterns
    patterns_gives = then_ text ρ (both_first text ρ (listed text ρ pattern_gives))

    named_pattern_gives : Gives text ρ named_pattern pats
    unfolding named_pattern
    named_pattern_gives = seq text ρ name_well (name_gives text ρ) (may text ρ patterns_gives)

    mutable_pattern_gives : Gives text ρ mutable_pattern pats
    unfolding mutable_pattern
    mutable_pattern_gives = seq text ρ {P = anything} (λ s n u p. pat_name text (across s n) true n ∙ p) (none_kept text ρ) (name_gives text ρ)

    tuple_pattern_gives : Gives text ρ tuple_pattern pats
    unfolding tuple_pattern
    tuple_pattern_gives =
        seq text ρ {P = anything} (λ o r u q. tuple_well o r.0 r.1.0 r.1.1 q.0 q.1) (none_kept text ρ)
        (both text ρ pattern_gives (then_ text ρ (both_first text ρ (listed text ρ pattern_gives))))

    -- Pat
    pub pat_form_gives : Gives text ρ pat_form pats
    unfolding pat_form
    pat_form_gives =
        alt text ρ mutable_pattern_gives (alt text ρ (map_to text ρ {P = anything} (λ s u. pat_any text s) (none_kept text ρ))
        (alt text ρ tuple_pattern_gives named_pattern_gives))

    member_pattern_gives : Gives text ρ member_pattern (behind_name text (good (well_arm_pat text)))
    unfolding member_pattern
    member_pattern_gives = then_ text ρ (seq text ρ (λ n o p q t r. member_well t n o r p q) (name_gives text ρ) (may text ρ patterns_gives))

    behind_ctor_gives : Gives text ρ behind_ctor (behind_name text (good (well_arm_pat text)))
    unfolding behind_ctor
    behind_ctor_gives = alt text ρ member_pattern_gives (map_to text ρ (λ o p n r. ctor_well n o r p) (may text ρ patterns_gives))

    -- ArmPat
    pub arm_pattern_gives : Gives text ρ arm_pattern (good (well_arm_pat text))
    unfolding arm_pattern
    arm_pattern_gives =
        alt text ρ (map_to text ρ {P = anything} (λ s u. refl) (none_kept text ρ)) (seq text ρ (λ n f p h. h n p) (name_gives text ρ) behind_ctor_gives)
