-- What is read is what is written.
use Rattle.std.proofs.Common.{ℕ, zero, suc}
use Rattle.hs_grammar.specs.Form.{Grammar}
use Rattle.hs_grammar.specs.Derives.{Derivings, Beginnings, DerivesBy, BegunBy}
use Rattle.hs_grammar.specs.Same.{Same, Sane, SameGrammars}
use Rattle.hs_grammar.proofs.Same.{same, sane_by}
use Rattle.hs_forms.specs.Lexis.{lexis}
use Rattle.hs_forms.specs.Reading.{Rule, RFile, RType, RMaybe, RPat, RExp, RUnary, RBlock, RIf, ROpen, RPlace, RPlaced, rules, if_form, open_form, place_form, placed_form, grammar}
use Rattle.hs_forms.specs.Written.{written}
use Rattle.hs_forms.proofs.Types.{Maybes, maybes_zero, maybes_deeper, type_same, maybe_same, path_same}
use Rattle.hs_forms.proofs.Patterns.{pat_same}
use Rattle.hs_forms.proofs.Expressions.{unary_same, exp_same}
use Rattle.hs_forms.proofs.Targets.{Targets, targets_zero, deeper}
use Rattle.hs_forms.proofs.Statements.{block_same}
use Rattle.hs_forms.proofs.Items.{file_same}

-- each rule is the same, where what may be open is a type or an open one, and where the places are those expressions
each : (ρ : Derivings lexis rules) (β : Beginnings lexis rules) → Sane lexis rules ρ β → Maybes ρ β → Targets ρ β → (N : Rule) → Same ρ β (written N) (grammar N)
each ρ β sane maybes targets RFile = file_same ρ β sane
each ρ β sane maybes targets RType = type_same ρ β sane maybes
each ρ β sane maybes targets RMaybe = maybe_same ρ β sane maybes
each ρ β sane maybes targets RPat = pat_same ρ β sane
each ρ β sane maybes targets RExp = exp_same ρ β sane (path_same ρ β sane maybes)
each ρ β sane maybes targets RUnary = unary_same ρ β sane (path_same ρ β sane maybes)
each ρ β sane maybes targets RBlock = block_same ρ β sane targets
each ρ β sane maybes targets RIf = same lexis rules ρ β if_form
each ρ β sane maybes targets ROpen = same lexis rules ρ β open_form
each ρ β sane maybes targets RPlace = same lexis rules ρ β place_form
each ρ β sane maybes targets RPlaced = same lexis rules ρ β placed_form

-- both facts hold at each height of a grammar whose rules are the same as those that are read
maybes_by : (f : Grammar lexis rules) → ((ρ : Derivings lexis rules) (β : Beginnings lexis rules) → Sane lexis rules ρ β → Maybes ρ β → Targets ρ β → (N : Rule) → Same ρ β (f N) (grammar N))
    → (n : ℕ) → Maybes (DerivesBy f n) (BegunBy f n) × Targets (DerivesBy f n) (BegunBy f n)
maybes_by f all zero = (maybes_zero f, targets_zero f)
maybes_by f all (suc n) =
    let both : Maybes (DerivesBy f n) (BegunBy f n) × Targets (DerivesBy f n) (BegunBy f n) = maybes_by f all n in
    let forms : (N : Rule) → Same (DerivesBy f n) (BegunBy f n) (f N) (grammar N) = all (DerivesBy f n) (BegunBy f n) (sane_by f n) both.0 both.1 in
    (maybes_deeper (DerivesBy f n) (BegunBy f n) (sane_by f n) both.0 f forms, deeper (DerivesBy f n) (BegunBy f n) both.1 f forms)

-- the grammar as it is written is the grammar as it is read
pub agree : SameGrammars written grammar
agree n N =
    let read : Maybes (DerivesBy grammar n) (BegunBy grammar n) × Targets (DerivesBy grammar n) (BegunBy grammar n) = maybes_by grammar (λ ρ β sane maybes targets N. same lexis rules ρ β (grammar N)) n in
    let told : Maybes (DerivesBy written n) (BegunBy written n) × Targets (DerivesBy written n) (BegunBy written n) = maybes_by written each n in
    (each (DerivesBy grammar n) (BegunBy grammar n) (sane_by grammar n) read.0 read.1 N, each (DerivesBy written n) (BegunBy written n) (sane_by written n) told.0 told.1 N)
