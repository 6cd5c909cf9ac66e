-- The names that tokens spell are names of programs, and the numbers that they spell are numbers of 32 bits.
use Rattle.std.proofs.Common.{◌≡◌, ℕ, ◌^◌, ◌<◌, Bool, true, false, cond, not, ◌&&◌, ◌||◌, leb, ltb, List, [], ◌∷◌, length, codes, bytes_eq, Option, Some, None, Result, Ok, Err, All, refl, sym, ◌∙◌, arith}
use Rattle.std.specs.Prelude.{filter, take, drop}
use Rattle.std.specs.List.{list_any, list_all, prefix_len, AllByRecursion}
use Rattle.std.proofs.lemmas.Bool.{false≢true, ltb-true}
use Rattle.std.proofs.lemmas.List.Elements.{All-head, All-tail}
use Rattle.hs_base.specs.declared.rule.Rule.{Rule}
use Rattle.hs_base.specs.declared.rule.Rule.TheVariants.{X3, X5, X6, S9}
use Rattle.hs_words.specs.declared.kinds.IntTy.{IntTy}
use Rattle.hs_lexer.specs.declared.token.TokenKind.{TokenKind}
use Rattle.hs_lexer.specs.declared.token.TokenKind.TheVariants as token
use Rattle.hs_lexer.specs.declared.token.Token.{Token}
use Rattle.hs_base.specs.Names.{is_digit, begins_name, is_word_byte, is_reserved, is_name}
use Rattle.hs_lexer.specs.Numbers.{fits, limited, with_suffix, integer_of, based, is_digit_of, is_run_byte, suffix_of}
use Rattle.std.specs.Str.{all_ascii_digits}
use Rattle.std.specs.Str.Parse.{digits_value}
use Rattle.hs_lexer.specs.Pieces.{kind_of_name, kind_of_word}
use Rattle.hs_lexer.specs.Spellings.{is_word}
use Rattle.hs_lexer.specs.Places.{spelling_of, IsNamed}
use Rattle.hs_front.specs.declared.symbol.Kind.{Kind}
use Rattle.hs_front.specs.declared.symbol.Kind.TheVariants.{Pub, Fn, Let, Mut, U32, BuiltIn, Name, Number, LeftParenthesis, RightParenthesis, LeftBrace, RightBrace, Comma, Colon, Semicolon, Arrow, Equals, Plus, Other}
use Rattle.hs_front.specs.declared.symbol.Symbol.{Symbol}
use Rattle.hs_front.specs.Lexis.{lexis}
use Rattle.hs_front.specs.Kinds.{reserved_kind, number_kind, mark_kind, is_none, kind_of}
use Rattle.hs_front.specs.Symbols.{symbol_of, symbols_of, value_of}
use Rattle.hs_front.specs.Scope.{text_at}
use Rattle.hs_grammar.specs.Kinds.{has}

-- ---- words

split : (a b : Bool) → (a && b) ≡ true → (a ≡ true) × (b ≡ true)
split true b e = (refl, e)
split false b e = absurd (false≢true e)

-- no number is a name
suffixed : (b c : Bool) (v : ℕ) (suffix : Option IntTy) → cond b (cond c (Ok (token.Int v suffix)) (Err X6)) (Err X5) ≡ Ok token.Name → ⊥
suffixed true true v suffix e = cc
suffixed true false v suffix e = cc
suffixed false c v suffix e = cc

limited_int : (suffix : Option IntTy) (v : ℕ) → limited suffix v ≡ Ok token.Name → ⊥
unfolding limited
limited_int suffix v e = suffixed (ltb v (2 ^ 128)) (fits suffix v) v suffix e

suffix_int : (base : ℕ) (digits : List ℕ) (s : Option (Option IntTy)) → with_suffix base digits s ≡ Ok token.Name → ⊥
suffix_int base digits None e = cc
suffix_int base digits (Some suffix) e = limited_int suffix (digits_value base digits) e

either_int : (b : Bool) (r : Result TokenKind Rule) → (r ≡ Ok token.Name → ⊥) → cond b r (Err X3) ≡ Ok token.Name → ⊥
either_int true r h e = h e
either_int false r h e = cc

integer_int : (w : List ℕ) → integer_of w ≡ Ok token.Name → ⊥
unfolding integer_of
integer_int w e =
    let base = (based w).0 in
    let body = (based w).1 in
    let run = take (prefix_len (is_run_byte base) body) body in
    let ending = drop (prefix_len (is_run_byte base) body) body in
    either_int (list_any (is_digit_of base) run) (with_suffix base (filter (is_digit_of base) run) (suffix_of ending))
    (suffix_int base (filter (is_digit_of base) run) (suffix_of ending)) e

-- what a name is not
named_parts : (a b c : Bool) → cond a (Ok token.Mark) (cond b (Ok token.Reserved) (cond c (Ok token.Name) (Err S9))) ≡ Ok token.Name → (a ≡ false) × (b ≡ false)
named_parts true b c e = absurd (cc e)
named_parts false true c e = absurd (cc e)
named_parts false false c e = (refl, refl)

name_parts : (w : List ℕ) → kind_of_name w ≡ Ok token.Name → (bytes_eq w (codes "_") ≡ false) × (is_reserved w ≡ false)
unfolding kind_of_name
name_parts w e = named_parts (bytes_eq w (codes "_")) (is_reserved w) (leb (length w) 64) e

begins_letter : (b : ℕ) (bs : List ℕ) (d : Bool) → is_digit b ≡ d → cond d (integer_of (b ∷ bs)) (kind_of_name (b ∷ bs)) ≡ Ok token.Name → (is_digit b ≡ false) × (kind_of_name (b ∷ bs) ≡ Ok token.Name)
begins_letter b bs true e f = absurd (integer_int (b ∷ bs) f)
begins_letter b bs false e f = (e, f)

word_parts : (b : ℕ) (bs : List ℕ) → kind_of_word (b ∷ bs) ≡ Ok token.Name → (is_digit b ≡ false) × (kind_of_name (b ∷ bs) ≡ Ok token.Name)
unfolding kind_of_word
word_parts b bs e = begins_letter b bs (is_digit b) refl e

-- a byte of words that is no digit begins names
begins_from : (a b : Bool) → (a || b) ≡ true → b ≡ false → a ≡ true
begins_from true b e f = refl
begins_from false b e f = absurd (false≢true (sym f ∙ e))

begins_of : (b : ℕ) → is_word_byte b ≡ true → is_digit b ≡ false → begins_name b ≡ true
unfolding is_word_byte
begins_of b e f = begins_from (begins_name b) (is_digit b) e f

all_four : (a b c d : Bool) → a ≡ true → b ≡ true → c ≡ false → d ≡ false → (a && b && not c && not d) ≡ true
all_four a b c d e f g h = rw (e, f, g, h) refl

-- the bytes that spell a name are one
pub spelled_name : (w : List ℕ) → is_word w ≡ true → kind_of_word w ≡ Ok token.Name → is_name w ≡ true
unfolding is_word is_name
spelled_name [] e f = absurd (false≢true e)
spelled_name (b ∷ bs) e f =
    let bytes = split (is_word_byte b) (list_all is_word_byte bs) e in
    let word = word_parts b bs f in
    let name = name_parts (b ∷ bs) word.1 in
    all_four (begins_name b) (list_all is_word_byte bs) (bytes_eq (b ∷ bs) (codes "_")) (is_reserved (b ∷ bs))
    (begins_of b bytes.0 word.0) bytes.1 name.0 name.1

-- ---- kinds

-- the kinds of names
abbrev pub names_kinds : List lexis.kind
names_kinds = Name ∷ BuiltIn ∷ U32 ∷ []

-- of two kinds, none is a name's
neither : (b : Bool) (x y : Kind) → has lexis names_kinds x ≡ false → has lexis names_kinds y ≡ false → has lexis names_kinds (cond b x y) ≡ false
neither true x y e f = e
neither false x y e f = f

reserved_no_name : (w : List ℕ) → has lexis names_kinds (reserved_kind w) ≡ false
unfolding reserved_kind
reserved_no_name w = neither (bytes_eq w (codes "pub")) Pub _ refl (neither (bytes_eq w (codes "fn")) Fn _ refl (neither (bytes_eq w (codes "let")) Let _ refl (neither (bytes_eq w (codes "mut")) Mut Other refl refl)))

number_no_name : (v : ℕ) (s : Option IntTy) (w : List ℕ) → has lexis names_kinds (number_kind v s w) ≡ false
number_no_name v s w = neither (all_ascii_digits w && (ltb v (2 ^ 32) && is_none s)) Number Other refl refl

mark_no_name : (w : List ℕ) → has lexis names_kinds (mark_kind w) ≡ false
unfolding mark_kind
mark_no_name w =
    neither (bytes_eq w (codes "(")) LeftParenthesis _ refl (neither (bytes_eq w (codes ")")) RightParenthesis _ refl (neither (bytes_eq w (codes "{")) LeftBrace _ refl
    (neither (bytes_eq w (codes "}")) RightBrace _ refl (neither (bytes_eq w (codes ",")) Comma _ refl (neither (bytes_eq w (codes ":")) Colon _ refl (neither (bytes_eq w (codes ";")) Semicolon _ refl
    (neither (bytes_eq w (codes "->")) Arrow _ refl (neither (bytes_eq w (codes "=")) Equals _ refl (neither (bytes_eq w (codes "+")) Plus Other refl refl)))))))))

-- only a name's token is of a name's kind
name_token : (k : TokenKind) (w : List ℕ) → has lexis names_kinds (kind_of k w) ≡ true → k ≡ token.Name
name_token token.Name w e = refl
name_token token.Reserved w e = absurd (false≢true (sym (reserved_no_name w) ∙ e))
name_token (token.Int v s) w e = absurd (false≢true (sym (number_no_name v s w) ∙ e))
name_token token.Text w e = absurd (false≢true e)
name_token token.Mark w e = absurd (false≢true (sym (mark_no_name w) ∙ e))

-- ---- symbols

-- a name's bytes are a name, and a number's value is one of 32 bits
pub record IsFair (text : List ℕ) (s : Symbol) : Type 0 where
  pub named : has lexis names_kinds s.kind ≡ true → is_name (text_at text s.span) ≡ true
  pub short : s.value < 2 ^ 32

below : (b : Bool) (v : ℕ) → ltb v (2 ^ 32) ≡ b → cond b v 0 < 2 ^ 32
below true v e = ltb-true v (2 ^ 32) e
below false v e = omega arith

value_below : (k : TokenKind) → value_of k < 2 ^ 32
value_below (token.Int v s) = below (ltb v (2 ^ 32)) v refl
value_below token.Name = omega arith
value_below token.Reserved = omega arith
value_below token.Text = omega arith
value_below token.Mark = omega arith

symbol_fair : (text : List ℕ) (t : Token) → IsNamed text t → IsFair text (symbol_of text t)
symbol_fair text t h = record {
  named = λ e. let both = h (name_token t.kind (spelling_of text t) e) in spelled_name (spelling_of text t) both.0 both.1;
  short = value_below t.kind;
}

-- so the symbols of a text are
pub symbols_fair : (text : List ℕ) (ts : List Token) → All (IsNamed text) ts → AllByRecursion (IsFair text) (symbols_of text ts)
symbols_fair text [] h = tt
symbols_fair text (t ∷ ts) h = (symbol_fair text t (All-head (IsNamed text) t ts h), symbols_fair text ts (All-tail (IsNamed text) t ts h))
