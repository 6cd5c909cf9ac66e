-- Each token is the longest spelling that begins at its place.
use Rattle.std.proofs.Common.{◌≡◌, ◌⊎◌, inl, inr, ℕ, zero, suc, ◌+◌, ◌≤◌, List, [], ◌∷◌, ◌++◌, length, take, drop, Bool, true, false, eqb, leb, ◌&&◌, ◌||◌, Option, Some, None, Result, Ok, Err, refl, sym, ◌∙◌, ap, subst, arith, All}
use Rattle.std.specs.Prelude.{bytes_eq, codes, not, if◌then◌else◌}
use Rattle.std.specs.List.{prefix_len, list_all, take_while, starts_with}
use Rattle.std.proofs.lemmas.Bool.Decides.{nat_tests}
use Rattle.std.proofs.lemmas.Bool.{false≢true, cases_lt, le-leb, leb-true}
use Rattle.std.proofs.lemmas.List.{drop-drop, length-append}
use Rattle.std.proofs.Math.Seq.{take-append_seam}
use Rattle.std.proofs.lemmas.List.Folds.{prefix_len-append}
use Rattle.std.proofs.lemmas.List.Elements.{All-nil, All-cons}
use Rattle.std.proofs.lemmas.Slice.Eq.{bytes_eq-Decides}
use Rattle.hs_base.specs.declared.rule.Rule.{Rule}
use Rattle.hs_base.specs.declared.rule.Rule.TheVariants.{X1}
use Rattle.hs_lexer.specs.declared.token.TokenKind.{TokenKind}
use Rattle.hs_lexer.specs.declared.token.TokenKind.TheVariants.{Text, Mark}
use Rattle.hs_lexer.specs.declared.token.Token.{Token}
use Rattle.hs_lexer.specs.declared.piece.Piece.{Piece}
use Rattle.hs_base.specs.Names.{is_word_byte, begins_name, is_letter, is_upper, is_digit}
use Rattle.hs_base.specs.Positions.{is_in_line}
use Rattle.hs_lexer.specs.Bytes.{is_blank, is_text_byte}
use Rattle.hs_lexer.specs.Marks.{is_one_of, is_mark, punctuation, operators, assignments, pairs}
use Rattle.hs_lexer.specs.Pieces.{gap, spelling, spelled, closed, closed_after, kind_of_word, longest_front, begins_quote, piece_at, word_at, mark_of, mark_at, string_before, comment_before, spelling_at}
use Rattle.hs_lexer.specs.Spellings.{is_word, is_string, is_spelling, IsLongest}
use Rattle.hs_lexer.specs.Lexes.{Cut, token_before, tokens_of, Lexes}

and_left : (a b : Bool) → (a && b) ≡ true → a ≡ true
and_left true b e = refl
and_left false b e = absurd (false≢true e)

and_right : (a b : Bool) → (a && b) ≡ true → b ≡ true
and_right true b e = e
and_right false b e = absurd (false≢true e)

and_both : (a b : Bool) → a ≡ true → b ≡ true → (a && b) ≡ true
and_both true b e f = f
and_both false b e f = absurd (false≢true e)

or_cases : (a b : Bool) → (a || b) ≡ true → (a ≡ true) ⊎ (b ≡ true)
or_cases true b e = inl refl
or_cases false b e = inr e

eqb_means : (m n : ℕ) → eqb m n ≡ true → m ≡ n
eqb_means m n e = grind (arith, nat_tests)

-- what passes a test in a list of lists passes it where it is one of them
passes : (test : List ℕ → Bool) (w : List ℕ) (those : List (List ℕ))
    → list_all test those ≡ true → is_one_of those w ≡ true → test w ≡ true
passes test w [] all one = absurd (false≢true one)
passes test w (t ∷ ts) all one =
    elim (or_cases (bytes_eq w t) (is_one_of ts w) one) [
      | inl e ↦ subst (λ x. test x ≡ true) (sym ((bytes_eq-Decides w t).0 e)) (and_left (test t) (list_all test ts) all)
      | inr e ↦ passes test w ts (and_right (test t) (list_all test ts) all) e
    ]

-- a mark has at most three bytes, and one alone where it begins with a byte of a word; none begins with `"`
abbrev mark_shape : List ℕ → Bool
mark_shape [] = false
mark_shape (b ∷ bs) = leb (length bs) 2 && ((not (is_word_byte b) || eqb (length bs) 0) && not (eqb b 34))

punctuation_shape : list_all mark_shape punctuation ≡ true
unfolding is_word_byte begins_name is_letter is_upper is_digit
punctuation_shape = refl

operators_shape : list_all mark_shape operators ≡ true
unfolding is_word_byte begins_name is_letter is_upper is_digit
operators_shape = refl

assignments_shape : list_all mark_shape assignments ≡ true
unfolding is_word_byte begins_name is_letter is_upper is_digit
assignments_shape = refl

pairs_shape : list_all mark_shape pairs ≡ true
unfolding is_word_byte begins_name is_letter is_upper is_digit
pairs_shape = refl

mark_has_shape : (w : List ℕ) → is_mark w ≡ true → mark_shape w ≡ true
unfolding is_mark
mark_has_shape w e =
    let a : Bool = is_one_of punctuation w in
    let b : Bool = is_one_of operators w in
    let c : Bool = is_one_of assignments w in
    let d : Bool = is_one_of pairs w in
    elim (or_cases ((a || b) || c) d e) [
      | inr h ↦ passes mark_shape w pairs pairs_shape h
      | inl h ↦ elim (or_cases (a || b) c h) [
        | inr k ↦ passes mark_shape w assignments assignments_shape k
        | inl k ↦ elim (or_cases a b k) [
          | inl l ↦ passes mark_shape w punctuation punctuation_shape l
          | inr l ↦ passes mark_shape w operators operators_shape l
        ]
      ]
    ]

-- the greatest front that passes is no shorter than any that passes
choice : (c : Bool) (m n r : ℕ) → n ≤ suc m → (n ≡ suc m → c ≡ true) → (n ≤ m → n ≤ r) → n ≤ (if c then suc m else r)
choice true m n r h e k = h
choice false m n r h e k =
    elim (cases_lt m n) [ inl over ↦ absurd (false≢true (e (omega arith))) | inr within ↦ k within ]

front_greatest : (test : List ℕ → Bool) (most n : ℕ) (s : List ℕ)
    → n ≤ most → n ≤ length s → test (take n s) ≡ true → n ≤ longest_front test most s
front_greatest test zero n s h k e = h
front_greatest test (suc m) n s h k e =
    choice (leb (suc m) (length s) && test (take (suc m) s)) m n (longest_front test m s) h
    (λ q. and_both (leb (suc m) (length s)) (test (take (suc m) s))
    (le-leb (suc m) (length s) (subst (λ (x : ℕ). x ≤ length s) q k))
    (subst (λ (x : ℕ). test (take x s) ≡ true) q e))
    (λ within. front_greatest test m n s within k e)

run_covers : (test : ℕ → Bool) (xs ys : List ℕ) → list_all test xs ≡ true → length xs ≤ prefix_len test (xs ++ ys)
run_covers test [] ys e = omega arith
run_covers test (x ∷ xs) ys e =
    let here : test x ≡ true = and_left (test x) (list_all test xs) e in
    let more = run_covers test xs ys (and_right (test x) (list_all test xs) e) in
    rw here (omega arith)

quote_no_word : is_word_byte 34 ≡ false
unfolding is_word_byte begins_name is_letter is_upper is_digit
quote_no_word = refl

word_head : (b : ℕ) (bs : List ℕ) → is_word (b ∷ bs) ≡ true → is_word_byte b ≡ true
unfolding is_word
word_head b bs e = and_left (is_word_byte b) (list_all is_word_byte bs) e

word_all : (w : List ℕ) → is_word w ≡ true → list_all is_word_byte w ≡ true
unfolding is_word
word_all [] e = absurd (false≢true e)
word_all (b ∷ bs) e = e

string_head : (b : ℕ) (bs : List ℕ) → is_string (b ∷ bs) ≡ true → b ≡ 34
unfolding is_string
string_head b bs e =
    eqb_means b 34 (and_left (eqb b 34)
    (begins_quote (drop (prefix_len is_text_byte bs) bs) && eqb (length bs) (prefix_len is_text_byte bs + 1)) e)

string_length : (b : ℕ) (bs : List ℕ) → is_string (b ∷ bs) ≡ true → length bs ≡ prefix_len is_text_byte bs + 1
unfolding is_string
string_length b bs e =
    let q : Bool = begins_quote (drop (prefix_len is_text_byte bs) bs) in
    let n : Bool = eqb (length bs) (prefix_len is_text_byte bs + 1) in
    eqb_means (length bs) (prefix_len is_text_byte bs + 1) (and_right q n (and_right (eqb b 34) (q && n) e))

mark_short : (b : ℕ) (bs : List ℕ) → is_mark (b ∷ bs) ≡ true → length bs ≤ 2
mark_short b bs e =
    leb-true (length bs) 2 (and_left (leb (length bs) 2) ((not (is_word_byte b) || eqb (length bs) 0) && not (eqb b 34))
    (mark_has_shape (b ∷ bs) e))

mark_not_quote : (bs : List ℕ) → is_mark (34 ∷ bs) ≡ true → ⊥
mark_not_quote bs e =
    let shape = mark_has_shape (34 ∷ bs) e in
    let rest = and_right (leb (length bs) 2) ((not (is_word_byte 34) || eqb (length bs) 0) && false) shape in
    false≢true (and_right (not (is_word_byte 34) || eqb (length bs) 0) false rest)

mark_alone : (b : ℕ) (bs : List ℕ) → is_mark (b ∷ bs) ≡ true → is_word_byte b ≡ true → length bs ≡ 0
mark_alone b bs e word =
    let a : Bool = not (is_word_byte b) in
    let z : Bool = eqb (length bs) 0 in
    let rest = and_right (leb (length bs) 2) ((a || z) && not (eqb b 34)) (mark_has_shape (b ∷ bs) e) in
    elim (or_cases a z (and_left (a || z) (not (eqb b 34)) rest)) [
      | inl h ↦ absurd (false≢true (rw word at h))
      | inr h ↦ eqb_means (length bs) 0 h
    ]

longest_word : (b : ℕ) (bs : List ℕ) → is_word_byte b ≡ true → (w rest : List ℕ) → b ∷ bs ≡ w ++ rest
    → is_spelling w ≡ true → length w ≤ prefix_len is_word_byte (b ∷ bs)
longest_word b bs word [] rest e s = omega arith
longest_word b bs word (c ∷ ws) rest e s =
    let head : b ≡ c = cc in
    elim (or_cases (is_word (c ∷ ws)) (is_string (c ∷ ws) || is_mark (c ∷ ws)) s) [
      | inl h ↦ subst (λ (x : List ℕ). length (c ∷ ws) ≤ prefix_len is_word_byte x) (sym e)
          (run_covers is_word_byte (c ∷ ws) rest (word_all (c ∷ ws) h))
      | inr h ↦ elim (or_cases (is_string (c ∷ ws)) (is_mark (c ∷ ws)) h) [
        | inl k ↦ absurd (false≢true (sym quote_no_word ∙ ap is_word_byte (sym (head ∙ string_head c ws k)) ∙ word))
        | inr k ↦ let alone = mark_alone c ws k (ap is_word_byte (sym head) ∙ word) in rw word (omega arith)
      ]
    ]

longest_string : (bs w rest : List ℕ) → 34 ∷ bs ≡ w ++ rest
    → is_spelling w ≡ true → length w ≤ prefix_len is_text_byte bs + 2
longest_string bs [] rest e s = omega arith
longest_string bs (c ∷ ws) rest e s =
    let head : c ≡ 34 = cc in
    let tail : bs ≡ ws ++ rest = cc in
    elim (or_cases (is_word (c ∷ ws)) (is_string (c ∷ ws) || is_mark (c ∷ ws)) s) [
      | inl h ↦ absurd (false≢true (sym quote_no_word ∙ ap is_word_byte (sym head) ∙ word_head c ws h))
      | inr h ↦ elim (or_cases (is_string (c ∷ ws)) (is_mark (c ∷ ws)) h) [
        | inl k ↦
            let n = string_length c ws k in
            let other : eqb (prefix_len is_text_byte ws) (length ws) ≡ false = grind (arith, nat_tests) in
            let same : prefix_len is_text_byte bs ≡ prefix_len is_text_byte ws =
            ap (prefix_len is_text_byte) tail ∙ rw other at (prefix_len-append is_text_byte ws rest) in
            omega arith
        | inr k ↦ absurd (mark_not_quote ws (subst (λ (x : ℕ). is_mark (x ∷ ws) ≡ true) head k))
      ]
    ]

longest_mark : (b : ℕ) (bs : List ℕ) → is_word_byte b ≡ false → eqb b 34 ≡ false → (w rest : List ℕ)
    → b ∷ bs ≡ w ++ rest → is_spelling w ≡ true → length w ≤ longest_front is_mark 3 (b ∷ bs)
longest_mark b bs other unquoted [] rest e s = omega arith
longest_mark b bs other unquoted (c ∷ ws) rest e s =
    let head : c ≡ b = cc in
    elim (or_cases (is_word (c ∷ ws)) (is_string (c ∷ ws) || is_mark (c ∷ ws)) s) [
      | inl h ↦ absurd (false≢true (sym other ∙ ap is_word_byte (sym head) ∙ word_head c ws h))
      | inr h ↦ elim (or_cases (is_string (c ∷ ws)) (is_mark (c ∷ ws)) h) [
        | inl k ↦ let quote : b ≡ 34 = sym head ∙ string_head c ws k in absurd (grind (arith, nat_tests))
        | inr k ↦
            let short = mark_short c ws k in
            let fits : length (c ∷ ws) ≤ length (b ∷ bs) =
            let n = ap length e in let m = length-append (c ∷ ws) rest in omega arith in
            let front : take (length (c ∷ ws)) (b ∷ bs) ≡ c ∷ ws =
            ap (take (length (c ∷ ws))) e ∙ take-append_seam (c ∷ ws) rest in
            front_greatest is_mark 3 (length (c ∷ ws)) (b ∷ bs) (omega arith) fits (ap is_mark front ∙ k)
      ]
    ]

pub pick : (c : Bool) (x y : Result Piece Rule) (p : Piece) → (if c then x else y) ≡ Ok p
    → ((c ≡ true) × (x ≡ Ok p)) ⊎ ((c ≡ false) × (y ≡ Ok p))
pick true x y p e = inl (refl, e)
pick false x y p e = inr (refl, e)

pub gap_no_kind : (n : ℕ) (p : Piece) (k : TokenKind) → ◌≡◌ {A = Result Piece Rule} (Ok (gap n)) (Ok p) → p.kind ≡ Some k → ⊥
gap_no_kind n p k e f = let same : gap n ≡ p = cc in let none = ap (λ q. q.kind) same in cc

comment_no_kind : (o : Option ℕ) (p : Piece) (k : TokenKind) → closed o ≡ Ok p → p.kind ≡ Some k → ⊥
comment_no_kind None p k e f = cc
comment_no_kind (Some n) p k e f = gap_no_kind (n + 2) p k e f

spelled_length : (n : ℕ) (r : Result TokenKind Rule) (p : Piece) → spelled n r ≡ Ok p → p.length ≡ n
spelled_length n (Ok kind) p e = let same : spelling kind n ≡ p = cc in ap (λ q. q.length) (sym same)
spelled_length n (Err rule) p e = cc

mark_length : (n : ℕ) (p : Piece) → mark_of n ≡ Ok p → p.length ≡ n
mark_length zero p e = cc
mark_length (suc n) p e = let same : spelling Mark (suc n) ≡ p = cc in ap (λ q. q.length) (sym same)

word_length : (s : List ℕ) (p : Piece) → word_at s ≡ Ok p → p.length ≡ prefix_len is_word_byte s
unfolding word_at
word_length s p e = spelled_length (prefix_len is_word_byte s) (kind_of_word (take_while is_word_byte s)) p e

mark_at_length : (s : List ℕ) (p : Piece) → mark_at s ≡ Ok p → p.length ≡ longest_front is_mark 3 s
unfolding mark_at
mark_at_length s p e = mark_length (longest_front is_mark 3 s) p e

pub comment_at_no_kind : (s : List ℕ) (p : Piece) (k : TokenKind) → comment_before s ≡ Ok p → p.kind ≡ Some k → ⊥
unfolding comment_before
comment_at_no_kind s p k e f = comment_no_kind (closed_after 0 s) p k e f

string_at_length : (s : List ℕ) (p : Piece) → string_before s ≡ Ok p → p.length ≡ prefix_len is_text_byte s + 2
unfolding string_before
string_at_length s p e =
    let n : ℕ = prefix_len is_text_byte s in
    elim (pick (begins_quote (drop n s)) (Ok (spelling Text (n + 2))) (Err X1) p e) [
      | inl h ↦ let found = h.1 in let same : spelling Text (n + 2) ≡ p = cc in ap (λ q. q.length) (sym same)
      | inr h ↦ let lost = h.1 in cc
    ]

longest_spelling : (b : ℕ) (bs : List ℕ) (p : Piece) → spelling_at (b ∷ bs) ≡ Ok p → eqb b 34 ≡ false
    → (w rest : List ℕ) → b ∷ bs ≡ w ++ rest → is_spelling w ≡ true → length w ≤ p.length
unfolding spelling_at
longest_spelling b bs p e unquoted w rest joined s =
    elim (pick (is_word_byte b) (word_at (b ∷ bs)) (mark_at (b ∷ bs)) p e) [
      | inl h ↦ rw (word_length (b ∷ bs) p h.1) (longest_word b bs h.0 w rest joined s)
      | inr h ↦ rw (mark_at_length (b ∷ bs) p h.1) (longest_mark b bs h.0 unquoted w rest joined s)
    ]

longest_quoted : (b : ℕ) (bs : List ℕ) (p : Piece) → string_before bs ≡ Ok p → b ≡ 34
    → (w rest : List ℕ) → b ∷ bs ≡ w ++ rest → is_spelling w ≡ true → length w ≤ p.length
longest_quoted b bs p e quote w rest joined s =
    rw (string_at_length bs p e) (longest_string bs w rest (ap (λ x. x ∷ bs) (sym quote) ∙ joined) s)

longest_at : (s : List ℕ) (p : Piece) (k : TokenKind) → piece_at s ≡ Ok p → p.kind ≡ Some k
    → (w rest : List ℕ) → s ≡ w ++ rest → is_spelling w ≡ true → length w ≤ p.length
unfolding piece_at
longest_at [] p k h e w rest joined s = cc
longest_at (b ∷ bs) p k h e w rest joined s =
    let t : List ℕ = b ∷ bs in
    let spelled_here : Result Piece Rule = spelling_at t in
    let quoted : Result Piece Rule = if eqb b 34 then string_before bs else spelled_here in
    let block : Result Piece Rule = if starts_with eqb t (codes "/*") then comment_before (drop 1 bs) else quoted in
    let line : Result Piece Rule =
    if starts_with eqb t (codes "//") then Ok (gap (prefix_len is_in_line (drop 1 bs) + 2)) else block in
    elim (pick (is_blank b) (Ok (gap 1)) line p h) [
      | inl q ↦ absurd (gap_no_kind 1 p k q.1 e)
      | inr q ↦ elim (pick (starts_with eqb t (codes "//")) (Ok (gap (prefix_len is_in_line (drop 1 bs) + 2))) block p q.1) [
        | inl r ↦ absurd (gap_no_kind (prefix_len is_in_line (drop 1 bs) + 2) p k r.1 e)
        | inr r ↦ elim (pick (starts_with eqb t (codes "/*")) (comment_before (drop 1 bs)) quoted p r.1) [
          | inl u ↦ absurd (comment_at_no_kind (drop 1 bs) p k u.1 e)
          | inr u ↦ elim (pick (eqb b 34) (string_before bs) spelled_here p u.1) [
            | inl v ↦ longest_quoted b bs p v.1 (eqb_means b 34 v.0) w rest joined s
            | inr v ↦ longest_spelling b bs p v.1 v.0 w rest joined s
          ]
        ]
      ]
    ]

with_token : (text : List ℕ) (at n : ℕ) (kind : Option TokenKind) (ts : List Token)
    → ((k : TokenKind) → kind ≡ Some k → IsLongest text (record { kind = k; start = at; end = at + n }))
    → All (IsLongest text) ts → All (IsLongest text) (token_before at n kind ts)
with_token text at n None ts one more = more
with_token text at n (Some k) ts one more =
    All-cons (IsLongest text) (record { kind = k; start = at; end = at + n }) ts (one k refl) more

all_longest : (ps : List Piece) (text : List ℕ) (at : ℕ) (rest : List ℕ)
    → Cut ps (drop at text) rest → All (IsLongest text) (tokens_of at ps)
all_longest [] text at rest c = All-nil (IsLongest text)
all_longest (p ∷ ps) text at rest c =
    with_token text at p.length p.kind (tokens_of (at + p.length) ps)
    (λ k e w behind joined s.
    let short = longest_at (drop at text) p k c.0 e w behind joined s in omega arith)
    (all_longest ps text (at + p.length) rest
    (subst (λ (t : List ℕ). Cut ps t rest) (drop-drop p.length at text) c.1))

pub longest_from : (text : List ℕ) (tokens : List Token) → Lexes text tokens → All (IsLongest text) tokens
longest_from text tokens h =
    subst (λ (ts : List Token). All (IsLongest text) ts) (sym h.1.2) (all_longest h.1.0 text 0 [] h.1.1)
