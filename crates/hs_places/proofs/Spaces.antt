-- Tokens between two places.
use Rattle.std.proofs.Common.{◌≡◌, ℕ, ◌≤◌, ◌<◌, arith, Bool, true, false, List, [], ◌∷◌, ◌++◌, refl, sym, ap, ◌∙◌, subst}
use Rattle.std.specs.Prelude.{if◌then◌else◌, bytes_eq}
use Rattle.std.specs.Str.{all_ascii_digits}
use Rattle.hs_lexer.specs.declared.token.TokenKind.{TokenKind}
use Rattle.hs_lexer.specs.declared.token.TokenKind.TheVariants as token
use Rattle.hs_lexer.specs.declared.token.Token.{Token as Spelled}
use Rattle.hs_lexer.specs.Places.{Placed, spelling_of}
use Rattle.hs_grammar.specs.Kinds.{has}
use Rattle.hs_grammar.specs.Derives.{Where}
use Rattle.hs_forms.specs.declared.token.Kind.{Kind}
use Rattle.hs_forms.specs.declared.token.Kind.TheVariants as k
use Rattle.hs_forms.specs.declared.token.Token.{Token}
use Rattle.hs_forms.specs.Lexis.{lexis, same, decides}
use Rattle.hs_forms.specs.Tokens.{placed, tokens_of}
use Rattle.hs_forms.specs.Kinds.{named, reserved, names, short_marks, long_marks, reserved_kind, name_kind, mark_kind, kind_of}
use Rattle.hs_places.specs.Spaced.{Behind, Spaced}

behind_end : (b : Bool) (low start end : ℕ) → Where b (end ≡ low) (low ≤ start) → start < end → low ≤ end
behind_end true low start end e l = omega (arith, e)
behind_end false low start end h l = omega (arith, h, l)

pub low_end : (low : ℕ) (t : Token) → Behind low t → t.span.start < t.span.end → low ≤ t.span.end
low_end low t b l = behind_end (same t.kind k.ShiftBack) low t.span.start t.span.end b l

-- the first place is not behind the second
pub in_order : (low high : ℕ) (w : List Token) → Spaced low high w → low ≤ high
in_order low high [] s = s
in_order low high (t ∷ w) (b, l, s) = let i = in_order t.span.end high w s in let j = low_end low t b l in omega (arith, i, j)

-- a place between two parts
pub divide : (low high : ℕ) (u v : List Token) → Spaced low high (u ++ v) → (m : ℕ) × Spaced low m u × Spaced m high v
divide low high [] v s = (low, omega arith, s)
divide low high (t ∷ u) v (b, l, s) = let i = divide t.span.end high u v s in (i.0, (b, l, i.1), i.2)

-- a token of another kind than the second half of a `>>`
pub behind_start : (low : ℕ) (t : Token) → same t.kind k.ShiftBack ≡ false → Behind low t → low ≤ t.span.start
behind_start low t e b = subst (λ (c : Bool). Where c (t.span.end ≡ low) (low ≤ t.span.start)) e b

not_true : (b : Bool) → (b ≡ true → ⊥) → b ≡ false
not_true true h = absurd (h refl)
not_true false h = refl

pub no_half : (ks : List Kind) (kind : Kind) → has lexis ks k.ShiftBack ≡ false → has lexis ks kind ≡ true → same kind k.ShiftBack ≡ false
no_half ks kind lacks found =
    not_true (same kind k.ShiftBack) (λ e.
    let wrong : true ≡ false = sym found ∙ ap (has lexis ks) (decides.one kind k.ShiftBack e) ∙ lacks in cc)

-- ---- the tokens of a text

placed_behind : (low : ℕ) (kind : Kind) (t : Spelled) → same kind k.ShiftBack ≡ false → low ≤ t.start → Behind low (placed kind t)
placed_behind low kind t e h = subst (λ (c : Bool). Where c (t.end ≡ low) (low ≤ t.start)) (sym e) h

-- no token of a text is a second half by itself
both_spaced : (low high : ℕ) (b : Bool) (kind : Kind) (t : Spelled) (rest : List Token) → same kind k.ShiftBack ≡ false → low ≤ t.start → t.start < t.end → Spaced t.end high rest
    → Spaced low high ((if b then placed k.ShiftFront t ∷ placed k.ShiftBack t ∷ [] else placed kind t ∷ []) ++ rest)
both_spaced low high true kind t rest e h l s = (h, l, (refl, l, s))
both_spaced low high false kind t rest e h l s = (placed_behind low kind t e h, l, s)

-- no row of a table has it
abbrev AreWhole : List (List ℕ × Kind) → Type 0
AreWhole [] = Unit {0}
AreWhole (row ∷ rows) = (same row.1 k.ShiftBack ≡ false) × AreWhole rows

named_whole : (rows : List (List ℕ × Kind)) (other : Kind) (bytes : List ℕ) → AreWhole rows → same other k.ShiftBack ≡ false → same (named rows other bytes) k.ShiftBack ≡ false
named_whole [] other bytes rs e = e
named_whole (row ∷ rows) other bytes (r, rs) e = either (bytes_eq bytes row.0) (named_whole rows other bytes rs e)
  where
    either : (b : Bool) → same (named rows other bytes) k.ShiftBack ≡ false → same (if b then row.1 else named rows other bytes) k.ShiftBack ≡ false
    either true i = r
    either false i = i

number_whole : (b : Bool) → same (if b then k.Digits else k.Int) k.ShiftBack ≡ false
number_whole true = refl
number_whole false = refl

kind_whole : (kind : TokenKind) (bytes : List ℕ) → same (kind_of kind bytes) k.ShiftBack ≡ false
unfolding kind_of reserved_kind name_kind mark_kind
kind_whole token.Name bytes = named_whole names k.Name bytes (refl, (refl, (refl, (refl, (refl, (refl, (refl, (refl, (refl, tt))))))))) refl
kind_whole token.Reserved bytes =
    named_whole reserved k.Unused bytes
    (refl, (refl, (refl, (refl, (refl, (refl, (refl, (refl, (refl, (refl, (refl, (refl, (refl, (refl, (refl, (refl, (refl, (refl, tt)))))))))))))))))) refl
kind_whole (token.Int value suffix) bytes = number_whole (all_ascii_digits bytes)
kind_whole token.Text bytes = refl
kind_whole token.Mark bytes =
    named_whole short_marks (named long_marks k.Unused bytes) bytes
    (refl, (refl, (refl, (refl, (refl, (refl, (refl, (refl, (refl, (refl, (refl, (refl, (refl, (refl, (refl, (refl, (refl, (refl, (refl, (refl, (refl, (refl, (refl, (refl, (refl, tt)))))))))))))))))))))))))
    (named_whole long_marks k.Unused bytes
    (refl, (refl, (refl, (refl, (refl, (refl, (refl, (refl, (refl, (refl, (refl, (refl, (refl, (refl, (refl, (refl, (refl, (refl, (refl, (refl, (refl, (refl, tt)))))))))))))))))))))) refl)

pub tokens_spaced : (text : List ℕ) (ts : List Spelled) (low high : ℕ) → Placed low high ts → Spaced low high (tokens_of text ts)
unfolding tokens_of
tokens_spaced text [] low high p = p
tokens_spaced text (t ∷ ts) low high (h, l, p) =
    both_spaced low high (same (kind_of t.kind (spelling_of text t)) k.ShiftFront) (kind_of t.kind (spelling_of text t)) t (tokens_of text ts) (kind_whole t.kind (spelling_of text t)) h l
    (tokens_spaced text ts t.end high p)
