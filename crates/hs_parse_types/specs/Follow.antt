-- What each form takes for granted of the parsers that it is given.
use Rattle.std.specs.Prelude.{Bool}
use Rattle.hs_syntax.specs.declared.ty.Ty.{Ty}
use Rattle.hs_syntax.specs.declared.pat.Pat.{Pat}
use Rattle.hs_forms.specs.Reading.{RType, RMaybe, RPat}
use Rattle.hs_forms.specs.Parsers.{Parser, Parses}
use Rattle.hs_parse_types.specs.declared.type_forms.TypeRules.{TypeRules}
use Rattle.hs_parse_types.specs.declared.pattern_forms.PatternRules.{PatternRules}

-- the parsers of types, and of types that may be open
pub record FollowTypes {T M : Type 0} (t : Parser T Ty) (m : Parser M (Ty × Bool)) (rules : TypeRules T M) : Type 0 where
  pub types : Parses RType t rules.depth rules.ty
  pub maybes : Parses RMaybe m rules.depth rules.maybe_open

-- the parser of patterns
pub record FollowPatterns {P : Type 0} (p : Parser P Pat) (rules : PatternRules P) : Type 0 where
  pub patterns : Parses RPat p rules.depth rules.pattern
