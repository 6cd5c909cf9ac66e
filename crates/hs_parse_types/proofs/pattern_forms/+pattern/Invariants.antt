use Rattle.hs_parse_types.proofs.pattern_forms.+pattern.Given as goal

abbrev pub decreases-pattern : goal.decreases-pattern
decreases-pattern l = l.depth
