-- The tokens that are names spell names.
use Rattle.std.proofs.Common.{◌≡◌, ℕ, ◌^◌, ◌≤◌, Bool, true, false, cond, not, ◌&&◌, ◌||◌, leb, ltb, List, [], ◌∷◌, length, codes, bytes_eq, Option, Some, None, Result, Ok, Err, All, refl, sym, ◌∙◌}
use Rattle.std.specs.Prelude.{filter, take, drop}
use Rattle.std.specs.List.{list_any, list_all, prefix_len}
use Rattle.std.proofs.lemmas.Bool.{false≢true, leb-true}
use Rattle.std.proofs.lemmas.List.Elements.{All-weaker}
use Rattle.std.specs.Str.Parse.{digits_value}
use Rattle.hs_base.specs.Names.{begins_name, is_digit, is_word_byte, is_reserved, is_name}
use Rattle.hs_base.specs.declared.rule.Rule.{Rule}
use Rattle.hs_base.specs.declared.rule.Rule.TheVariants.{X3, X5, X6, S9}
use Rattle.hs_words.specs.declared.kinds.IntTy.{IntTy}
use Rattle.hs_lexer.specs.declared.token.TokenKind.{TokenKind}
use Rattle.hs_lexer.specs.declared.token.TokenKind.TheVariants.{Name, Reserved, Int, Mark}
use Rattle.hs_lexer.specs.declared.token.Token.{Token}
use Rattle.hs_lexer.specs.Numbers.{fits, limited, with_suffix, integer_of, based, is_digit_of, is_run_byte, suffix_of}
use Rattle.hs_lexer.specs.Pieces.{kind_of_name, kind_of_word}
use Rattle.hs_lexer.specs.Spellings.{is_word}
use Rattle.hs_lexer.specs.Places.{spelling_of, IsNamed, IsName}

-- no integer is a name
suffixed : (b c : Bool) (v : ℕ) (suffix : Option IntTy) → cond b (cond c (Ok (Int v suffix)) (Err X6)) (Err X5) ≡ Ok Name → ⊥
suffixed true true v suffix e = cc
suffixed true false v suffix e = cc
suffixed false c v suffix e = cc

limited_int : (suffix : Option IntTy) (v : ℕ) → limited suffix v ≡ Ok Name → ⊥
unfolding limited
limited_int suffix v e = suffixed (ltb v (2 ^ 128)) (fits suffix v) v suffix e

suffix_int : (base : ℕ) (digits : List ℕ) (s : Option (Option IntTy)) → with_suffix base digits s ≡ Ok Name → ⊥
suffix_int base digits None e = cc
suffix_int base digits (Some suffix) e = limited_int suffix (digits_value base digits) e

either_int : (b : Bool) (r : Result TokenKind Rule) → (r ≡ Ok Name → ⊥) → cond b r (Err X3) ≡ Ok Name → ⊥
either_int true r h e = h e
either_int false r h e = cc

integer_int : (w : List ℕ) → integer_of w ≡ Ok Name → ⊥
unfolding integer_of
integer_int w e =
    let base = (based w).0 in
    let body = (based w).1 in
    let run = take (prefix_len (is_run_byte base) body) body in
    let ending = drop (prefix_len (is_run_byte base) body) body in
    either_int (list_any (is_digit_of base) run) (with_suffix base (filter (is_digit_of base) run) (suffix_of ending))
    (suffix_int base (filter (is_digit_of base) run) (suffix_of ending)) e

-- what a name is not, and its length
named_parts : (a b c : Bool) → cond a (Ok Mark) (cond b (Ok Reserved) (cond c (Ok Name) (Err S9))) ≡ Ok Name → (a ≡ false) × (b ≡ false) × (c ≡ true)
named_parts true b c e = absurd (cc e)
named_parts false true c e = absurd (cc e)
named_parts false false false e = absurd (cc e)
named_parts false false true e = (refl, refl, refl)

name_parts : (w : List ℕ) → kind_of_name w ≡ Ok Name → (bytes_eq w (codes "_") ≡ false) × (is_reserved w ≡ false) × (leb (length w) 64 ≡ true)
unfolding kind_of_name
name_parts w e = named_parts (bytes_eq w (codes "_")) (is_reserved w) (leb (length w) 64) e

no_digit : (b : ℕ) (bs : List ℕ) (d : Bool) → is_digit b ≡ d → cond d (integer_of (b ∷ bs)) (kind_of_name (b ∷ bs)) ≡ Ok Name → (is_digit b ≡ false) × (kind_of_name (b ∷ bs) ≡ Ok Name)
no_digit b bs true e f = absurd (integer_int (b ∷ bs) f)
no_digit b bs false e f = (e, f)

word_parts : (b : ℕ) (bs : List ℕ) → kind_of_word (b ∷ bs) ≡ Ok Name → (is_digit b ≡ false) × (kind_of_name (b ∷ bs) ≡ Ok Name)
unfolding kind_of_word
word_parts b bs e = no_digit b bs (is_digit b) refl e

letter_from : (a b : Bool) → (a || b) ≡ true → b ≡ false → a ≡ true
letter_from true b e f = refl
letter_from false b e f = absurd (false≢true (sym f ∙ e))

first_of : (b : ℕ) → is_word_byte b ≡ true → is_digit b ≡ false → begins_name b ≡ true
unfolding is_word_byte
first_of b e f = letter_from (begins_name b) (is_digit b) e f

split : (a b : Bool) → (a && b) ≡ true → (a ≡ true) × (b ≡ true)
split true b e = (refl, e)
split false b e = absurd (false≢true e)

whole : (a b c d : Bool) → a ≡ true → b ≡ true → c ≡ false → d ≡ false → (a && b && not c && not d) ≡ true
whole a b c d e f g h = rw (e, f, g, h) refl

a_name : (w : List ℕ) → is_word w ≡ true → kind_of_word w ≡ Ok Name → (is_name w ≡ true) × (length w ≤ 64)
unfolding is_word is_name
a_name [] e f = absurd (false≢true e)
a_name (b ∷ bs) e f =
    let bytes = split (is_word_byte b) (list_all is_word_byte bs) e in
    let word = word_parts b bs f in
    let name = name_parts (b ∷ bs) word.1 in (
      whole (begins_name b) (list_all is_word_byte bs) (bytes_eq (b ∷ bs) (codes "_")) (is_reserved (b ∷ bs))
          (first_of b bytes.0 word.0) bytes.1 name.0 name.1,
      leb-true (length (b ∷ bs)) 64 name.2,
    )

pub names_from : (text : List ℕ) (tokens : List Token) → All (IsNamed text) tokens → All (IsName text) tokens
names_from text =
    All-weaker (IsNamed text) (IsName text)
    (λ t h is. let word = h is in a_name (spelling_of text t) word.0 word.1)
