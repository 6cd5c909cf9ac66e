-- Where what each rule derives lies.
use Rattle.std.proofs.Common.{ℕ, zero, suc, List}
use Rattle.hs_grammar.specs.Derives.{DerivesBy, DerivesAs}
use Rattle.hs_syntax.specs.declared.item.Item.{Item}
use Rattle.hs_forms.specs.declared.token.Token.{Token}
use Rattle.hs_forms.specs.Reading.{Rule, value, RFile, RType, RMaybe, RPat, RExp, RUnary, RBlock, RIf, ROpen, RPlace, RPlaced, grammar, levels}
use Rattle.hs_limits.specs.Nested.{Nested}
use Rattle.hs_limits.specs.Nodes.{outline_of_items, node_of_item}
use Rattle.hs_limits.specs.Spans.{SpansAgree}
use Rattle.hs_places.specs.Spaced.{Spaced}
use Rattle.hs_places.proofs.Facts.{row_nested}
use Rattle.hs_places.proofs.Gives.{Knots, fact}
use Rattle.hs_places.proofs.Types.{type_form_gives, maybe_form_gives}
use Rattle.hs_places.proofs.Patterns.{pat_form_gives}
use Rattle.hs_places.proofs.Exps.{if_form_gives, unary_gives, binary_gives}
use Rattle.hs_places.proofs.Blocks.{block_form_gives}
use Rattle.hs_places.proofs.Items.{file_form_gives}

module _ (agree : SpansAgree) where
  knots : (n : ℕ) → ((N : Rule) (w : List Token) (x : value N) (low high : ℕ) → DerivesBy grammar n N w x → Spaced low high w → (fact N).holds low high x) → Knots (DerivesBy grammar n)
  knots n known = record { known = known; agree = agree }

  -- of rules that nest no deeper than this
  derived : (n : ℕ) (N : Rule) (w : List Token) (x : value N) (low high : ℕ) → DerivesBy grammar n N w x → Spaced low high w → (fact N).holds low high x
  derived zero N w x low high d s = absurd d
  derived (suc n) RFile w x low high d s = (file_form_gives (DerivesBy grammar n) (knots n (derived n))).known w x low high d s
  derived (suc n) RType w x low high d s = (type_form_gives (DerivesBy grammar n) (knots n (derived n))).known w x low high d s
  derived (suc n) RMaybe w x low high d s = (maybe_form_gives (DerivesBy grammar n) (knots n (derived n))).known w x low high d s
  derived (suc n) RPat w x low high d s = (pat_form_gives (DerivesBy grammar n) (knots n (derived n))).known w x low high d s
  derived (suc n) RExp w x low high d s = (binary_gives (DerivesBy grammar n) (knots n (derived n)) levels).known w x low high d s
  derived (suc n) RUnary w x low high d s = (unary_gives (DerivesBy grammar n) (knots n (derived n))).known w x low high d s
  derived (suc n) RBlock w x low high d s = (block_form_gives (DerivesBy grammar n) (knots n (derived n))).known w x low high d s
  derived (suc n) RIf w x low high d s = (if_form_gives (DerivesBy grammar n) (knots n (derived n))).known w x low high d s
  derived (suc n) ROpen w x low high d s = tt
  derived (suc n) RPlace w x low high d s = tt
  derived (suc n) RPlaced w x low high d s = tt

  -- the items that the file's rule derives lie between the places around its tokens
  pub items_nested : (w : List Token) (x : List Item) (low high : ℕ) → DerivesAs grammar RFile w x → Spaced low high w → Nested (outline_of_items x) low high
  items_nested w x low high d s = row_nested node_of_item x low high (derived d.0 RFile w x low high d.1 s)
