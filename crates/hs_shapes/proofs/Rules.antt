-- What each rule derives is well formed.
use Rattle.std.proofs.Common.{ℕ, zero, suc, List, All}
use Rattle.hs_grammar.specs.Derives.{DerivesBy, DerivesAs}
use Rattle.hs_lexer.specs.declared.token.Token.{Token as Spelled}
use Rattle.hs_lexer.specs.Places.{IsName}
use Rattle.hs_syntax.specs.declared.item.Item.{Item}
use Rattle.hs_syntax.specs.WellFormed.{WellFormed}
use Rattle.hs_forms.specs.declared.token.Token.{Token}
use Rattle.hs_forms.specs.Tokens.{tokens_of}
use Rattle.hs_forms.specs.Reading.{Rule, value, RFile, RType, RMaybe, RPat, RExp, RUnary, RBlock, RIf, ROpen, RPlace, RPlaced, grammar, levels}
use Rattle.hs_shapes.proofs.Sure.{AllSure}
use Rattle.hs_shapes.proofs.Tokens.{tokens_sure}
use Rattle.hs_shapes.proofs.Gives.{Knots, fact}
use Rattle.hs_shapes.proofs.Types.{type_form_gives, maybe_form_gives}
use Rattle.hs_shapes.proofs.Patterns.{pat_form_gives}
use Rattle.hs_shapes.proofs.Exps.{if_form_gives, unary_gives, binary_gives}
use Rattle.hs_shapes.proofs.Blocks.{block_form_gives}
use Rattle.hs_shapes.proofs.Items.{file_form_gives}

module _ (text : List ℕ) where
  knots : (n : ℕ) → ((N : Rule) (w : List Token) (x : value N) → DerivesBy grammar n N w x → AllSure text w → (fact text N).holds x) → Knots text (DerivesBy grammar n)
  knots n known = record { known = known }

  -- of rules that nest no deeper than this
  derived : (n : ℕ) (N : Rule) (w : List Token) (x : value N) → DerivesBy grammar n N w x → AllSure text w → (fact text N).holds x
  derived zero N w x d s = absurd d
  derived (suc n) RFile w x d s = (file_form_gives text (DerivesBy grammar n) (knots n (derived n))).known w x d s
  derived (suc n) RType w x d s = (type_form_gives text (DerivesBy grammar n) (knots n (derived n))).known w x d s
  derived (suc n) RMaybe w x d s = (maybe_form_gives text (DerivesBy grammar n) (knots n (derived n))).known w x d s
  derived (suc n) RPat w x d s = (pat_form_gives text (DerivesBy grammar n) (knots n (derived n))).known w x d s
  derived (suc n) RExp w x d s = (binary_gives text (DerivesBy grammar n) (knots n (derived n)) levels).known w x d s
  derived (suc n) RUnary w x d s = (unary_gives text (DerivesBy grammar n) (knots n (derived n))).known w x d s
  derived (suc n) RBlock w x d s = (block_form_gives text (DerivesBy grammar n) (knots n (derived n))).known w x d s
  derived (suc n) RIf w x d s = (if_form_gives text (DerivesBy grammar n) (knots n (derived n))).known w x d s
  derived (suc n) ROpen w x d s = tt {0}
  derived (suc n) RPlace w x d s = tt {0}
  derived (suc n) RPlaced w x d s = tt {0}

-- the items of a file of the text's tokens
pub items_well : (text : List ℕ) (tokens : List Spelled) (items : List Item) → All (IsName text) tokens → DerivesAs grammar RFile (tokens_of text tokens) items → WellFormed text items
items_well text tokens items h d = derived text d.0 RFile (tokens_of text tokens) items d.1 (tokens_sure text tokens h)
