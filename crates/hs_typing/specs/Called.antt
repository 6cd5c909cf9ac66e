-- What operations of the code are in the definitions.
use Rattle.std.specs.Prelude.{List, [], ◌∷◌}
use Rattle.hs_typing.specs.declared.operations.Ask.{Ask as HeldAsk}
use Rattle.hs_typing.specs.declared.operations.Ask.TheVariants as ask
use Rattle.hs_typing.specs.declared.operations.Asks.{Asks}
use Rattle.hs_typing.specs.declared.operations.Asks.TheVariants as asks
use Rattle.hs_typing.specs.declared.operations.Before.{Before as HeldBefore}
use Rattle.hs_typing.specs.declared.operations.Before.TheVariants as before
use Rattle.hs_typing.specs.declared.operations.Called.{Called}
use Rattle.hs_typing.specs.Operations.{Ask, Takes, Reads, Changes, Lists, Spare, Before, no_operand, zero_of, zeros_of, length_of, Operation}
use Rattle.hs_typing.specs.Views.{type_of, wish_of}

-- what the place of an argument asks
abbrev pub ask_of : HeldAsk → Ask
ask_of (ask.Takes x) = Takes (wish_of x)
ask_of (ask.Reads x) = Reads (wish_of x)
ask_of (ask.Changes t) = Changes t.now
ask_of (ask.Lists n t) = Lists n t.now
ask_of (ask.Spare n) = Spare n

abbrev pub asks_of : Asks → List Ask
asks_of asks.Nothing = []
asks_of (asks.One a) = ask_of a ∷ []
asks_of (asks.Two a b) = ask_of a ∷ ask_of b ∷ []
asks_of (asks.Three a b c) = ask_of a ∷ ask_of b ∷ ask_of c ∷ []

-- the operands of an operation before its receiver and its arguments
abbrev pub before_of : HeldBefore → Before
before_of before.Nothing = no_operand
before_of (before.Zero t) = zero_of t.now
before_of (before.Zeros t n) = zeros_of t.now n
before_of (before.Length n) = length_of n

-- an operation with arguments
abbrev pub called_of : Called → Operation
called_of c =
    record { operation = c.operation; asks = asks_of c.asks; gives = type_of c.gives; before = before_of c.before; has_zero = c.has_zero }
