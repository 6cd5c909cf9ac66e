-- The built-in names: the integer types, `bool`, `Seq`, `Option`, `Result`, `Some`, `None`, `Ok`, `Err` and the conversions.
use Rattle.std.specs.Prelude.{ℕ, zero, suc, List, [], ◌∷◌, bytes_eq, codes, Option, Some, None, if◌then◌else◌}
use Rattle.hs_words.specs.declared.kinds.IntTy.TheVariants as i
use Rattle.hs_symbols.specs.declared.referent.BuiltIn.{BuiltIn}
use Rattle.hs_symbols.specs.declared.referent.BuiltIn.TheVariants as b

-- what a table says of these bytes
abbrev pub listed : List (List ℕ × BuiltIn) → List ℕ → Option BuiltIn
listed [] bytes = None
listed (row ∷ rows) bytes = if bytes_eq bytes row.0 then Some row.1 else listed rows bytes

-- the first, where there is one, else the second
abbrev pub or_else : {A : Type 0} → Option A → Option A → Option A
or_else None o = o
or_else (Some a) o = Some a

-- the public integer types
abbrev pub publics : List (List ℕ × BuiltIn)
publics =
    (codes "u8", b.Int i.PU8) ∷ (codes "u16", b.Int i.PU16) ∷ (codes "u32", b.Int i.PU32) ∷ (codes "u64", b.Int i.PU64) ∷ (codes "u128", b.Int i.PU128) ∷ (codes "usize", b.Int i.PUsize) ∷ (codes "i8", b.Int i.PI8) ∷ (codes "i16", b.Int i.PI16) ∷ (codes "i32", b.Int i.PI32) ∷ (codes "i64", b.Int i.PI64) ∷ (codes "i128", b.Int i.PI128) ∷ []

-- the secret ones, which before `(` classify a number
abbrev pub secrets : List (List ℕ × BuiltIn)
secrets =
    (codes "U8", b.Int i.SU8) ∷ (codes "U16", b.Int i.SU16) ∷ (codes "U32", b.Int i.SU32) ∷ (codes "U64", b.Int i.SU64) ∷ (codes "U128", b.Int i.SU128) ∷ []

-- the truth values
abbrev pub truth : List (List ℕ × BuiltIn)
truth =
    (codes "bool", b.Bool) ∷ []

-- what makes a type of one type, and can stand before `::<`
abbrev pub sequence : List (List ℕ × BuiltIn)
sequence =
    (codes "Seq", b.Seq) ∷ []

-- what makes a type of one type, and stands in no path
abbrev pub maybe : List (List ℕ × BuiltIn)
maybe =
    (codes "Option", b.Option) ∷ []

-- what makes a type of two
abbrev pub outcome : List (List ℕ × BuiltIn)
outcome =
    (codes "Result", b.Result) ∷ []

-- the constructors with a part
abbrev pub ctors : List (List ℕ × BuiltIn)
ctors =
    (codes "Some", b.Some) ∷ (codes "Ok", b.Ok) ∷ (codes "Err", b.Err) ∷ []

-- the constructor without parts
abbrev pub empty_ctor : List (List ℕ × BuiltIn)
empty_ctor =
    (codes "None", b.None) ∷ []

-- the conversions to `U8`
abbrev pub conversions_to_8 : List (List ℕ × BuiltIn)
conversions_to_8 =
    (codes "U8_from_U16", b.Convert i.SU8 i.SU16) ∷ (codes "U8_from_U32", b.Convert i.SU8 i.SU32) ∷ (codes "U8_from_U64", b.Convert i.SU8 i.SU64) ∷ (codes "U8_from_U128", b.Convert i.SU8 i.SU128) ∷ []

-- the conversions to `U16`
abbrev pub conversions_to_16 : List (List ℕ × BuiltIn)
conversions_to_16 =
    (codes "U16_from_U8", b.Convert i.SU16 i.SU8) ∷ (codes "U16_from_U32", b.Convert i.SU16 i.SU32) ∷ (codes "U16_from_U64", b.Convert i.SU16 i.SU64) ∷ (codes "U16_from_U128", b.Convert i.SU16 i.SU128) ∷ []

-- the conversions to `U32`
abbrev pub conversions_to_32 : List (List ℕ × BuiltIn)
conversions_to_32 =
    (codes "U32_from_U8", b.Convert i.SU32 i.SU8) ∷ (codes "U32_from_U16", b.Convert i.SU32 i.SU16) ∷ (codes "U32_from_U64", b.Convert i.SU32 i.SU64) ∷ (codes "U32_from_U128", b.Convert i.SU32 i.SU128) ∷ []

-- the conversions to `U64`
abbrev pub conversions_to_64 : List (List ℕ × BuiltIn)
conversions_to_64 =
    (codes "U64_from_U8", b.Convert i.SU64 i.SU8) ∷ (codes "U64_from_U16", b.Convert i.SU64 i.SU16) ∷ (codes "U64_from_U32", b.Convert i.SU64 i.SU32) ∷ (codes "U64_from_U128", b.Convert i.SU64 i.SU128) ∷ []

-- the conversions to `U128`
abbrev pub conversions_to_128 : List (List ℕ × BuiltIn)
conversions_to_128 =
    (codes "U128_from_U8", b.Convert i.SU128 i.SU8) ∷ (codes "U128_from_U16", b.Convert i.SU128 i.SU16) ∷ (codes "U128_from_U32", b.Convert i.SU128 i.SU32) ∷ (codes "U128_from_U64", b.Convert i.SU128 i.SU64) ∷ []

-- a conversion between secret kinds
abbrev pub conversion : List ℕ → Option BuiltIn
conversion w =
    or_else (listed conversions_to_8 w) (or_else (listed conversions_to_16 w) (or_else (listed conversions_to_32 w)
    (or_else (listed conversions_to_64 w) (listed conversions_to_128 w))))

-- a type by its name alone
abbrev pub type_word : List ℕ → Option BuiltIn
type_word w = or_else (listed publics w) (or_else (listed secrets w) (listed truth w))

-- what makes a type of so many types behind it
abbrev pub maker_word : List ℕ → ℕ → Option BuiltIn
maker_word w zero = None
maker_word w (suc zero) = or_else (listed sequence w) (listed maybe w)
maker_word w (suc (suc zero)) = listed outcome w
maker_word w (suc (suc (suc n))) = None

-- what can stand before `(`
abbrev pub called_word : List ℕ → Option BuiltIn
called_word w = or_else (listed secrets w) (or_else (listed ctors w) (conversion w))

-- what can begin a pattern, a constructor alone in an arm included
abbrev pub ctor_word : List ℕ → Option BuiltIn
ctor_word w = or_else (listed ctors w) (listed empty_ctor w)

-- any built-in name
abbrev pub built_in : List ℕ → Option BuiltIn
built_in w =
    or_else (type_word w) (or_else (listed sequence w) (or_else (listed maybe w) (or_else (listed outcome w)
    (or_else (ctor_word w) (conversion w)))))
