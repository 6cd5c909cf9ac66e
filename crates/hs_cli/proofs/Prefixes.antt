-- Prefixes that sinks took.
use Rattle.std.proofs.Common.{◌≡◌, ℕ, true, false, List, Option, Result, Ok, Err, OnOk, OnErr, is_err, length, sym, subst, take_all, arith}
use Rattle.std.specs.Io.KnownBytes.{Appends}
use Rattle.std.proofs.KnownBytes.{Appends-nil}
use Rattle.hs_base.specs.Causes.{TookPrefix}

pub took_none : (a : Option (List ℕ)) (bytes : List ℕ) → TookPrefix a a bytes
took_none a bytes = (0, Appends-nil a)

pub took_all : (a b : Option (List ℕ)) (bytes : List ℕ) → Appends a b bytes → TookPrefix a b bytes
took_all a b bytes h = (length bytes, subst (Appends a b) (sym (take_all (length bytes) bytes (omega arith))) h)

pub at_err : {T E : Type 0} (r : Result T E) (P : Type 0) → is_err r ≡ true → OnErr r P → P
at_err (Ok a) P e h = absurd (cc e)
at_err (Err e') P e h = h

pub at_ok : {T E : Type 0} (r : Result T E) (P : Type 0) → is_err r ≡ false → OnOk r P → P
at_ok (Ok a) P e h = h
at_ok (Err e') P e h = absurd (cc e)
