-- The tokens of a text are sure.
use Rattle.std.proofs.Common.{◌≡◌, ℕ, Bool, true, false, List, [], ◌∷◌, ◌++◌, refl, All}
use Rattle.std.specs.Prelude.{if◌then◌else◌, bytes_eq}
use Rattle.std.specs.Str.{all_ascii_digits}
use Rattle.std.proofs.lemmas.List.Elements.{All-head, All-tail}
use Rattle.hs_base.specs.Names.{is_name}
use Rattle.hs_lexer.specs.declared.token.TokenKind.{TokenKind}
use Rattle.hs_lexer.specs.declared.token.TokenKind.TheVariants as token
use Rattle.hs_lexer.specs.declared.token.Token.{Token as Spelled}
use Rattle.hs_lexer.specs.Places.{IsName, spelling_of}
use Rattle.hs_grammar.specs.Kinds.{has}
use Rattle.hs_syntax.specs.Texts.{bytes_at}
use Rattle.hs_forms.specs.declared.token.Kind.{Kind}
use Rattle.hs_forms.specs.declared.token.Kind.TheVariants as k
use Rattle.hs_forms.specs.declared.token.Token.{Token}
use Rattle.hs_forms.specs.Lexis.{lexis, same}
use Rattle.hs_forms.specs.Tokens.{placed, tokens_of}
use Rattle.hs_forms.specs.Kinds.{named as kind_named, reserved, names, short_marks, long_marks, reserved_kind, name_kind, mark_kind, kind_of}
use Rattle.hs_forms.specs.Reading.{name_kinds}
use Rattle.hs_shapes.proofs.Sure.{IsSure, AllSure}

-- ---- kinds

-- the kind is none of a name, and not that of digits
abbrev IsOther : Kind → Type 0
IsOther kind = (has lexis name_kinds kind ≡ false) × (has lexis (k.Digits ∷ []) kind ≡ false)

abbrev RowsHold : (Kind → Type 0) → List (List ℕ × Kind) → Type 0
RowsHold P [] = Unit {0}
RowsHold P (row ∷ rows) = P row.1 × RowsHold P rows

-- what holds of each kind of a table, and of another one, holds of what the table names
table_holds : (P : Kind → Type 0) (rows : List (List ℕ × Kind)) (other : Kind) (bytes : List ℕ) → RowsHold P rows → P other → P (kind_named rows other bytes)
table_holds P [] other bytes rs e = e
table_holds P (row ∷ rows) other bytes (r, rs) e = either (bytes_eq bytes row.0) (table_holds P rows other bytes rs e)
  where
    either : (b : Bool) → P (kind_named rows other bytes) → P (if b then row.1 else kind_named rows other bytes)
    either true i = r
    either false i = i

reserved_other : (bytes : List ℕ) → IsOther (reserved_kind bytes)
unfolding reserved_kind
reserved_other bytes = table_holds IsOther reserved k.Unused bytes ((refl, refl), ((refl, refl), ((refl, refl), ((refl, refl), ((refl, refl), ((refl, refl), ((refl, refl), ((refl, refl), ((refl, refl), ((refl, refl), ((refl, refl), ((refl, refl), ((refl, refl), ((refl, refl), ((refl, refl), ((refl, refl), ((refl, refl), ((refl, refl), tt)))))))))))))))))) (refl, refl)

mark_other : (bytes : List ℕ) → IsOther (mark_kind bytes)
unfolding mark_kind
mark_other bytes =
    table_holds IsOther short_marks (kind_named long_marks k.Unused bytes) bytes ((refl, refl), ((refl, refl), ((refl, refl), ((refl, refl), ((refl, refl), ((refl, refl), ((refl, refl), ((refl, refl), ((refl, refl), ((refl, refl), ((refl, refl), ((refl, refl), ((refl, refl), ((refl, refl), ((refl, refl), ((refl, refl), ((refl, refl), ((refl, refl), ((refl, refl), ((refl, refl), ((refl, refl), ((refl, refl), ((refl, refl), ((refl, refl), ((refl, refl), tt)))))))))))))))))))))))))
    (table_holds IsOther long_marks k.Unused bytes ((refl, refl), ((refl, refl), ((refl, refl), ((refl, refl), ((refl, refl), ((refl, refl), ((refl, refl), ((refl, refl), ((refl, refl), ((refl, refl), ((refl, refl), ((refl, refl), ((refl, refl), ((refl, refl), ((refl, refl), ((refl, refl), ((refl, refl), ((refl, refl), ((refl, refl), ((refl, refl), ((refl, refl), ((refl, refl), tt)))))))))))))))))))))) (refl, refl))

name_no_digits : (bytes : List ℕ) → has lexis (k.Digits ∷ []) (name_kind bytes) ≡ false
unfolding name_kind
name_no_digits bytes = table_holds (λ kind. has lexis (k.Digits ∷ []) kind ≡ false) names k.Name bytes (refl, (refl, (refl, (refl, (refl, (refl, (refl, (refl, (refl, tt))))))))) refl

false_true : (b : Bool) → b ≡ false → b ≡ true → ⊥
false_true b e f = cc

-- ---- tokens

-- the bytes of a token are those that spell it
abbrev Sure : List ℕ → Kind → Spelled → Type 0
Sure text kind t = (has lexis name_kinds kind ≡ true → is_name (spelling_of text t) ≡ true) × (has lexis (k.Digits ∷ []) kind ≡ true → all_ascii_digits (spelling_of text t) ≡ true)

other_sure : (text : List ℕ) (kind : Kind) (t : Spelled) → IsOther kind → Sure text kind t
other_sure text kind t o = (λ h. absurd (false_true (has lexis name_kinds kind) o.0 h), λ h. absurd (false_true (has lexis (k.Digits ∷ []) kind) o.1 h))

number_sure : (text : List ℕ) (t : Spelled) (b : Bool) → all_ascii_digits (spelling_of text t) ≡ b → Sure text (if b then k.Digits else k.Int) t
number_sure text t true e = (λ h. absurd (false_true false refl h), λ h. e)
number_sure text t false e = (λ h. absurd (false_true false refl h), λ h. absurd (false_true false refl h))

kind_sure : (text : List ℕ) (t : Spelled) (kind : TokenKind) → t.kind ≡ kind → IsName text t → Sure text (kind_of kind (spelling_of text t)) t
unfolding kind_of
kind_sure text t token.Name e n =
    (λ h. (n e).0, λ h. absurd (false_true (has lexis (k.Digits ∷ []) (name_kind (spelling_of text t))) (name_no_digits (spelling_of text t)) h))
kind_sure text t token.Reserved e n = other_sure text (reserved_kind (spelling_of text t)) t (reserved_other (spelling_of text t))
kind_sure text t (token.Int value suffix) e n = number_sure text t (all_ascii_digits (spelling_of text t)) refl
kind_sure text t token.Text e n = other_sure text k.Text t (refl, refl)
kind_sure text t token.Mark e n = other_sure text (mark_kind (spelling_of text t)) t (mark_other (spelling_of text t))

placed_sure : (text : List ℕ) (kind : Kind) (t : Spelled) → Sure text kind t → IsSure text (placed kind t)
unfolding bytes_at
placed_sure text kind t s = record { name = s.0; digits = s.1 }

both_sure : (text : List ℕ) (b : Bool) (kind : Kind) (t : Spelled) (rest : List Token) → Sure text kind t → AllSure text rest
    → AllSure text ((if b then placed k.ShiftFront t ∷ placed k.ShiftBack t ∷ [] else placed kind t ∷ []) ++ rest)
both_sure text true kind t rest s r =
    (placed_sure text k.ShiftFront t (other_sure text k.ShiftFront t (refl, refl)), (placed_sure text k.ShiftBack t (other_sure text k.ShiftBack t (refl, refl)), r))
both_sure text false kind t rest s r = (placed_sure text kind t s, r)

pub tokens_sure : (text : List ℕ) (ts : List Spelled) → All (IsName text) ts → AllSure text (tokens_of text ts)
unfolding tokens_of
tokens_sure text [] h = tt {0}
tokens_sure text (t ∷ ts) h =
    both_sure text (same (kind_of t.kind (spelling_of text t)) k.ShiftFront) (kind_of t.kind (spelling_of text t)) t (tokens_of text ts)
    (kind_sure text t t.kind refl (All-head (IsName text) t ts h)) (tokens_sure text ts (All-tail (IsName text) t ts h))
