use Rattle.hs_parse_types.proofs.type_forms.+nested.Given as goal

abbrev pub decreases-maybe_open : goal.decreases-maybe_open
decreases-maybe_open l = l.depth

abbrev pub decreases-ty : goal.decreases-ty
decreases-ty l = l.depth
