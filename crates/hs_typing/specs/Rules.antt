-- The rules on types, each as a condition on one node: on what its parts are, whose types are known, and on what its place expects.
-- In what order nodes stand, and what is known at each, is said elsewhere. A value that is broken has no type, and is not asked.
use Rattle.std.specs.Prelude.{ℕ, ℤ, Bool, true, false, not, ◌&&◌, ◌||◌, nat_eq, bytes_eq, List, [], ◌∷◌, length, Option, Some, None, is_some, is_none, slice_get, if◌then◌else◌}
use Rattle.std.specs.List.{list_any, list_all}
use Rattle.hs_words.specs.Arithmetic.{is_in_range}
use Rattle.hs_words.specs.Kind.{is_secret, is_signed}
use Rattle.hs_words.specs.declared.kinds.IntTy.{IntTy}
use Rattle.hs_syntax.specs.declared.exp.BinaryOp.{BinaryOp}
use Rattle.hs_values.specs.declared.types.ValType.{ValType}
use Rattle.hs_values.specs.declared.types.TypeDef.{TypeDef}
use Rattle.hs_items.specs.Rules.{too_great}
use Rattle.hs_tree.specs.Plain.{Name}
use Rattle.hs_tree.specs.Types.{has_secrets}
use Rattle.hs_typing.specs.Types.{unit, bool, size, same_type, kind_of, parts_of, item_of, is_row_of, asked_of}
use Rattle.hs_typing.specs.Wishes.{Got, Is, Other, Never, Wish, Free, Wants, Rows, Expected, absent, unknown, this, expected}
use Rattle.hs_typing.specs.Operations.{Operation, Ask, Takes, Reads, Changes, Lists, Spare, Unasked, defined, equates}
use Rattle.hs_typing.specs.Locals.{Sort, fixed, turn, shared, lent, is_reference, is_lent}

-- ---- what a value is

-- a value is of the type, where there is a value
abbrev pub is_of : ValType → Got → Bool
is_of t (Is u) = same_type t u
is_of t Other = false
is_of t Never = true

abbrev pub is_other : Got → Bool
is_other Other = true
is_other _ = false

-- the type of a value
abbrev pub type_of : Got → Option ValType
type_of (Is t) = Some t
type_of _ = None

abbrev pub public_kind : Option IntTy → Bool
public_kind None = false
public_kind (Some k) = not (is_secret k)

abbrev pub is_public : Option ValType → Bool
is_public None = false
is_public (Some t) = public_kind (kind_of t)

-- ---- places

-- T1: the value has another type than the place. A value, at a place that asks this. T5, T13, T20 and T23 are the same of an index,
-- a condition, a loop's bound and a returned value, where they come in its place
abbrev pub other_type : List TypeDef → Wish → Got → Bool
other_type table (Wants t) g = not (is_of t g)
other_type table (Rows item) (Is t) = not (is_row_of table item t)
other_type table (Rows item) Other = true
other_type table (Rows item) Never = false
other_type table _ g = false

-- T1. `Ok(e)`, `Err(e)` and `None` need an expected type
abbrev pub needs_type : Wish → Bool
needs_type Free = true
needs_type (Rows t) = true
needs_type _ = false

-- T1. A bare expression, at a place that asks for a type that is no integer
abbrev pub asks_other : Wish → Bool
asks_other (Wants t) = true
asks_other _ = false

-- T1. Two operands, where the operator is defined for the left one's type and neither is bare: the right one
abbrev pub other_operand : BinaryOp → Option Got → Got → Bool
other_operand o (Some (Is a)) (Is b) = defined o a && not (same_type a b)
other_operand o _ g = false

-- T5: an index is a usize. T20: a loop's bound is a usize
abbrev pub no_size : Got → Bool
no_size g = not (is_of size g)

-- T13: a condition is a bool. T1. An operand of `&&` or `||`
abbrev pub no_bool : Got → Bool
no_bool g = not (is_of bool g)

-- T23: the returned value has another type than the function. A value that is returned, where the function gives this
abbrev pub other_result : Option ValType → Got → Bool
other_result None g = false
other_result (Some t) g = not (is_of t g)

-- ---- operators

-- T2: the operator is not defined for this type. An operator between operands, of which one that is not bare has this type, the left
-- one where neither is
abbrev pub undefined : BinaryOp → ValType → Bool
undefined o t = not (defined o t)

-- T2. `-` before a value that is no negative literal
abbrev pub no_sign : Option IntTy → Bool
no_sign None = true
no_sign (Some k) = not (is_signed k)

-- T2. `!`
abbrev pub no_complement : ValType → Bool
no_complement t = not (same_type t bool || is_some (kind_of t))

-- T3: the number does not fit its type
abbrev pub unfit : IntTy → ℤ → Bool
unfit k n = not (is_in_range k n)

-- T4: `as` goes from a public integer to a public integer
abbrev pub no_cast : Got → ValType → Bool
no_cast from to = not (is_public (type_of from) && is_public (Some to))

-- T27: values with secret parts are not compared. The operands of an operator
abbrev pub compares_secrets : List TypeDef → BinaryOp → ValType → Bool
compares_secrets table o t = equates o && has_secrets table t

-- ---- items and parts

abbrev pub item_in : List TypeDef → Got → Option ValType
item_in table (Is t) = item_of table t
item_in table _ = None

-- T6: only a sequence or an array is indexed
abbrev pub not_indexed : List TypeDef → Got → Bool
not_indexed table g = is_none (item_in table g)

abbrev pub part_among : Option (List ValType) → ℕ → Option ValType
part_among None i = None
part_among (Some ts) i = slice_get ts i

abbrev pub part_in : Got → ℕ → Option ValType
part_in (Is t) i = part_among (parts_of t) i
part_in _ i = None

-- T7: the tuple has no such part
abbrev pub no_part : Got → ℕ → Bool
no_part g i = is_none (part_in g i)

-- ---- arguments

-- T8: wrong number of arguments. So many for so many places
abbrev pub other_count : ℕ → ℕ → Bool
other_count args asks = not (nat_eq args asks)

-- T9: wrong mode of argument. An expression as an argument, which may be the name of a reference parameter of this sort: what asks for
-- none is no place for one, past the signature too
abbrev pub wrong_by_value : Option Ask → Option Sort → Bool
wrong_by_value None reference = is_some reference
wrong_by_value (Some (Takes x)) reference = is_some reference
wrong_by_value (Some (Reads x)) reference = is_none reference
wrong_by_value (Some (Changes t)) None = true
wrong_by_value (Some (Changes t)) (Some sort) = not (is_lent sort)
wrong_by_value (Some (Lists n t)) reference = is_some reference
wrong_by_value (Some (Spare n)) reference = is_some reference
wrong_by_value (Some Unasked) reference = false

-- T9. `&e`
abbrev pub wrong_shared : Option Ask → Bool
wrong_shared (Some (Takes x)) = true
wrong_shared (Some (Changes t)) = true
wrong_shared _ = false

-- T9. `&mut x`
abbrev pub wrong_lent : Option Ask → Bool
wrong_lent (Some (Takes x)) = true
wrong_lent (Some (Reads x)) = true
wrong_lent _ = false

-- T10: this local cannot be lent here. `&mut x`, where x is this, and occurs in another argument or not
abbrev pub not_lendable : Sort → Bool → Bool
not_lendable lent elsewhere = true
not_lendable turn elsewhere = true
not_lendable _ elsewhere = elsewhere

-- T10. The name of a `&mut` parameter, which occurs in another argument or not
abbrev pub lent_twice : Bool → Bool
lent_twice elsewhere = elsewhere

-- T28: a list stands in its array's constructor with its length. A list of so many items
abbrev pub wrong_list : Option Ask → ℕ → Bool
wrong_list (Some (Lists n t)) items = not (nat_eq items n)
wrong_list (Some (Spare n)) items = not (nat_eq items n)
wrong_list _ items = true

-- T28. An argument that is no list
abbrev pub no_list : Option Ask → Bool
no_list (Some (Lists n t)) = true
no_list (Some (Spare n)) = true
no_list _ = false

-- T24: this type has no such operation. A method, or a path of a type before `(`
abbrev pub no_operation : Option Operation → Bool
no_operation o = is_none o

-- T26: this type has no zero value. An operation that makes values
abbrev pub no_zero : Operation → Bool
no_zero o = not o.has_zero

-- ---- locals

-- T11: this local is not mut. A local that is assigned or lent to be changed; of a loop's variable another rule speaks
abbrev pub not_mut : Sort → Bool
not_mut fixed = true
not_mut shared = true
not_mut _ = false

-- T12: `*` belongs to a reference parameter read as a value. A name that is read without one, where its parameter has to have one
abbrev pub lacks_star : Sort → Bool
lacks_star sort = is_reference sort

-- T12. `*e`, where e may be the name of a reference parameter
abbrev pub idle_star : Option Sort → Bool
idle_star reference = is_none reference

-- T12. An assignment to a local, with a `*` before it or not, and with steps behind it or not: a `&mut` parameter has one where it is
-- assigned as a whole, and nothing else has one
abbrev pub wrong_star : Sort → Bool → Bool → Bool
wrong_star sort star has_steps = if is_lent sort && not has_steps then not star else star

-- T19: a loop's variable is not assigned
abbrev pub assigns_turn : Sort → Bool
assigns_turn turn = true
assigns_turn _ = false

-- ---- branches and blocks

abbrev pub has_no_type : Expected → Bool
has_no_type absent = true
has_no_type unknown = false
has_no_type (this t) = false

-- T14: the branches have different types. An `if` or a `match` without an expected type, one of whose branches gives this
abbrev pub different : Wish → Got → Bool
different x g = has_no_type (expected x) && is_other g

-- T15: an if without else gives unit. T21: this statement or loop body gives unit. What a branch, a statement or a body gives
abbrev pub no_unit : Got → Bool
no_unit g = not (is_of unit g)

-- T22: `?` needs a Result with the function's error type. Of a value with this bad type, in a function with that one
abbrev pub other_error : Option ValType → Option ValType → Bool
other_error (Some bad) (Some error) = not (same_type bad error)
other_error _ _ = true

-- T25: nothing follows what always exits, and it stands only as a statement, a block's tail, a branch or a body. An `if`, a `match` or
-- a block that always exits or not, at such a place or not
abbrev pub exits_inside : Bool → Bool → Bool
exits_inside exits lets_exit = exits && not lets_exit

-- T25. A statement that always exits or not, and is followed in its block or not
abbrev pub is_followed : Bool → Bool → Bool
is_followed exits followed = exits && followed

-- ---- patterns

-- T16: this type has no such constructor. The types of the constructor's parts, where it is one of the type
abbrev pub no_ctor : Option (List ValType) → Bool
no_ctor parts = is_none parts

-- T17: the match lacks a constructor. Of these names of constructors, where there are any, those are named, and there is a `_` or not
abbrev pub is_named : List Name → Name → Bool
is_named names name = list_any (bytes_eq name) names

abbrev pub lacks_ctor : List Name → List Name → Bool → Bool
lacks_ctor [] named any = not any
lacks_ctor (c ∷ cs) named any = not (any || list_all (is_named named) (c ∷ cs))

-- T18: this arm is never reached. A `_` behind arms that name these constructors of those, and behind another `_` or not
abbrev pub any_unreached : List Name → List Name → Bool → Bool
any_unreached ctors named any = not (lacks_ctor ctors named any)

-- T18. A constructor, behind the same
abbrev pub ctor_unreached : Name → List Name → Bool → Bool
ctor_unreached name named any = any || is_named named name

-- T30: the pattern does not fit the type. A pattern with so many parts, for a tuple or a constructor with parts of these types
abbrev pub other_parts : Option (List ValType) → ℕ → Bool
other_parts None parts = true
other_parts (Some ts) parts = not (nat_eq (length ts) parts)

-- ---- constants and limits

-- T29: a constant is made of literals, constants and constructors. A form of an expression, in a constant or not, that is among them
-- or not
abbrev pub not_constant : Bool → Bool → Bool
not_constant in_constant listed = in_constant && not listed

-- T29. A constant of a type that is not copied
abbrev pub constant_moves : List TypeDef → ValType → Bool
constant_moves table t = not (asked_of table t).copied

-- S2: a type has height at most 48 and at most 4,096 nodes. What a value is
abbrev pub too_great_type : List TypeDef → Got → Bool
too_great_type table (Is t) = too_great (asked_of table t)
too_great_type table _ = false
