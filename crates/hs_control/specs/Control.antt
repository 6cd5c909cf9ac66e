-- Values that may be or hold control values, which may stand inside others and inside each other, and what operations give for these.
use Rattle.std.specs.Prelude.{ℕ, Bool, List, [], ◌∷◌, Option, Some, None, option_map}
use Rattle.hs_words.specs.Word.{Integer}
use Rattle.hs_words.specs.declared.kinds.Panic.{Panic}
use Rattle.hs_values.specs.declared.value.Sort.{Sort}
use Rattle.hs_values.specs.declared.value.Value.{Value}
use Rattle.hs_values.specs.declared.value.Value.TheOpen.{Value-F}
use Rattle.hs_values.specs.declared.value.Value.TheOpen as layer
use Rattle.hs_values.specs.declared.value.Value.TheFolds.{fold-Value}
use Rattle.hs_values.specs.declared.value.Value.TheVariants as value
use Rattle.hs_ops.specs.Answer.{Answer}
use Rattle.hs_ops.specs.Answer as answer
use Rattle.hs_ops.specs.Standard.{standard_table}
use Rattle.hs_ops.specs.Table.{answer_named}
use Rattle.hs_ops.specs.Views.{consed}

mutual
  -- a value
  pub data Val : Type 0 where
    Nothing : Val
    Truth : Bool → Val
    Number : Integer → Val
    Row : Vals → Val
    Tuple : Vals → Val
    Ctor : Sort → ℕ → Vals → Val
    -- the control value that ends what takes it
    Exit : Val → Val
    -- the control value that goes on
    Cont : Val → Val

  -- values, from left to right
  pub data Vals : Type 0 where
    NoVals : Vals
    Also : Val → Vals → Vals

-- values from a list of them
abbrev pub vals_of : List Val → Vals
vals_of [] = NoVals
vals_of (v ∷ vs) = Also v (vals_of vs)

-- one level of a value of a source, whose parts are values of every stage already
abbrev pub level_of : Value-F Val → Val
level_of layer.Unit = Nothing
level_of (layer.Bool b) = Truth b
level_of (layer.Int n) = Number n
level_of (layer.Seq items) = Row (vals_of items)
level_of (layer.Tuple parts) = Tuple (vals_of parts)
level_of (layer.Ctor sort number parts) = Ctor sort number (vals_of parts)

-- a value of a source, as one of every stage
abbrev pub val_of : Value → Val
val_of = fold-Value Val level_of

abbrev mutual
  -- the value of a source that this is, unless it is or holds a control value
  pub settled : Val → Option Value
  settled Nothing = Some value.Unit
  settled (Truth b) = Some (value.Bool b)
  settled (Number n) = Some (value.Int n)
  settled (Row items) = option_map value.Seq (settled_all items)
  settled (Tuple parts) = option_map value.Tuple (settled_all parts)
  settled (Ctor sort number parts) = option_map (value.Ctor sort number) (settled_all parts)
  settled (Exit v) = None
  settled (Cont v) = None

  -- the same of values
  pub settled_all : Vals → Option (List Value)
  settled_all NoVals = Some []
  settled_all (Also v vs) = consed (settled v) (settled_all vs)

-- what an operation gives: a value, a panic, or nothing
pub data Reply : Type 0 where
  Is : Val → Reply
  Fails : Panic → Reply
  NoReply : Reply

-- an operation's answer on values of a source
abbrev pub reply_of : Answer → Reply
reply_of (answer.Is v) = Is (val_of v)
reply_of (answer.Fails p) = Fails p
reply_of answer.Misfit = NoReply

-- what the operation of the name gives for arguments; nothing where there is no such operation, where the arguments are not of its
-- kinds, or where one of them is or holds a control value
unfoldable pub applied : List ℕ → List Val → Reply
applied name vs = reply_of (answer.given (settled_all (vals_of vs)) (answer_named standard_table name))

-- what follows a reply
abbrev pub after : Reply → (Val → Reply) → Reply
after (Is v) f = f v
after (Fails p) f = Fails p
after NoReply f = NoReply

-- a value that may not be there, as a reply
abbrev pub found : Option Val → Reply
found None = NoReply
found (Some v) = Is v
