-- The rules on names, each as a condition on one node: on what is written there, on the names in scope, and on what stands
-- before it in its list, its function or its file. In what order nodes stand, and what is in scope at each, is said elsewhere.
use Rattle.std.specs.Prelude.{ℕ, zero, suc, List, Bool, true, ◌||◌, ◌&&◌, nat_eq, Option, is_some, is_none}
use Rattle.hs_syntax.specs.declared.file.File.{File}
use Rattle.hs_scope.specs.Scope.{Binding, look}
use Rattle.hs_scope.specs.Names.{number_of}
use Rattle.hs_symbols.specs.declared.referent.Referent.{Referent}
use Rattle.hs_symbols.specs.Words.{listed, built_in, maker_word, sequence}
use Rattle.hs_symbols.specs.Symbols.{built, type_named, callee_named, value_named, ctor_named, is_constant_name, data_of, member}

-- one of these names
abbrev pub among : List ℕ → List (List ℕ) → Bool
among w names = is_some (number_of w names)

-- `X` of a path `X::<T>::x`: only `Seq` has types behind it there
abbrev pub path_maker : List ℕ → Option Referent
path_maker w = built (listed sequence w)

module _ (file : File) where
  -- what the name of a type stands for that has so many types behind it
  abbrev pub type_of : List ℕ → ℕ → Option Referent
  type_of w zero = type_named file.text file.items w
  type_of w (suc n) = built (maker_word w (suc n))

  -- N1: unknown type. The name of a type, with so many types behind it
  abbrev pub unknown_type : List ℕ → ℕ → Bool
  unknown_type w types = is_none (type_of w types)

  -- N2: unknown function. A name before `(`
  abbrev pub unknown_function : List ℕ → Bool
  unknown_function w = is_none (callee_named file.text file.items w)

  -- N3: unknown name. A name alone, where these are in scope
  abbrev pub unknown_value : List Binding → List ℕ → Bool
  unknown_value scope w = is_none (value_named file.text file.items scope w)

  -- N4: unknown constructor or type of a path. The name before a pattern's `(`, or a name alone as an arm's pattern
  abbrev pub unknown_ctor : List ℕ → Bool
  unknown_ctor w = is_none (ctor_named file.text file.items w)

  -- N4. `T::x` alone or as an arm's pattern: x is a constructor of T, which is a struct or an enum
  abbrev pub unknown_member : List ℕ → List ℕ → Bool
  unknown_member t x = is_none (member file.text file.items t x)

  -- N4. `T::x` before `(`: T is a type; of a struct or an enum x is a constructor, and of another type it is anything
  abbrev pub unknown_called : List ℕ → List ℕ → Bool
  unknown_called t x = is_none (type_of t 0) || is_some (data_of file.text file.items t) && unknown_member t x

  -- N4. `X::<T>::x` alone is no value
  abbrev pub unknown_of : List ℕ → Bool
  unknown_of w = true

  -- N4. `X::<T>::x` before `(`
  abbrev pub unknown_called_of : List ℕ → Bool
  unknown_called_of w = is_none (path_maker w)

  -- N5: an item has this name already, or it is a built-in name. The name of an item, behind the names of these items
  abbrev pub taken : List ℕ → List (List ℕ) → Bool
  taken w before = among w before || is_some (built_in w)

  -- N6: this parameter, pattern or constructor name occurs twice, or is a constant's name. Behind these in its list of
  -- parameters, its pattern or its enum
  abbrev pub repeated : List ℕ → List (List ℕ) → Bool
  repeated w before = among w before || is_constant_name file.text file.items w

  -- N10: only a local can be assigned or lent. A name that is, where these are in scope
  abbrev pub no_local : List Binding → List ℕ → Bool
  no_local scope w = is_none (look w scope)

-- S3: a file has at most 4,096 functions. A function behind so many
abbrev pub one_function_more : ℕ → Bool
one_function_more before = nat_eq before 4096

-- S5: a function has at most 4,096 locals. A binding place behind so many, in a function
abbrev pub one_place_more : Bool → ℕ → Bool
one_place_more in_function before = in_function && nat_eq before 4096

-- S7: a function has at most 256 exits. An exit behind so many, in a function
abbrev pub one_exit_more : Bool → ℕ → Bool
one_exit_more in_function before = in_function && nat_eq before 256
