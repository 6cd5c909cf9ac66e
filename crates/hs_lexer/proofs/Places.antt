-- Where tokens stand, and the names among them.
use Rattle.std.proofs.Common.{◌≡◌, inl, inr, ℕ, zero, suc, ◌+◌, ◌-◌, ◌≤◌, ◌<◌, List, [], ◌∷◌, ◌++◌, take, drop, Bool, true, false, eqb, ◌&&◌, Option, Some, None, Result, Ok, Err, refl, sym, ◌∙◌, ap, subst, arith, All, cond}
use Rattle.std.specs.Prelude.{codes, if◌then◌else◌}
use Rattle.std.specs.List.{prefix_len, list_all, take_while, starts_with}
use Rattle.std.proofs.lemmas.List.{drop-drop}
use Rattle.std.proofs.lemmas.List.Elements.{All-nil, All-cons}
use Rattle.std.proofs.lemmas.List.Sums.{take_while-cons}
use Rattle.hs_base.specs.declared.rule.Rule.{Rule}
use Rattle.hs_base.specs.declared.rule.Rule.TheVariants.{X1}
use Rattle.hs_lexer.specs.declared.token.TokenKind.{TokenKind}
use Rattle.hs_lexer.specs.declared.token.TokenKind.TheVariants.{Name, Text, Mark}
use Rattle.hs_lexer.specs.declared.token.Token.{Token}
use Rattle.hs_lexer.specs.declared.piece.Piece.{Piece}
use Rattle.hs_base.specs.Names.{is_word_byte}
use Rattle.hs_base.specs.Positions.{is_in_line}
use Rattle.hs_lexer.specs.Bytes.{is_blank, is_text_byte}
use Rattle.hs_lexer.specs.Marks.{is_mark}
use Rattle.hs_lexer.specs.Pieces.{gap, spelling, spelled, kind_of_word, longest_front, begins_quote, piece_at, word_at, mark_of, mark_at, string_before, comment_before, spelling_at}
use Rattle.hs_lexer.specs.Spellings.{is_word}
use Rattle.hs_lexer.specs.Places.{Placed, IsNamed}
use Rattle.hs_lexer.specs.Lexes.{Cut, token_before, tokens_of, Lexes}
use Rattle.hs_lexer.proofs.Longest.{pick, gap_no_kind, comment_at_no_kind}

-- ---- places

pub placed_further : (from to more : ℕ) (ts : List Token) → to ≤ more → Placed from to ts → Placed from more ts
placed_further from to more [] h p = omega (arith, h, p)
placed_further from to more (t ∷ ts) h (a, b, p) = (a, b, placed_further t.end to more ts h p)

placed_last : (from at end : ℕ) (k : TokenKind) (ts : List Token) → at < end → Placed from at ts → Placed from end (ts ++ record { kind = k; start = at; end = end } ∷ [])
placed_last from at end k [] h p = (p, h, omega arith)
placed_last from at end k (t ∷ ts) h (a, b, p) = (a, b, placed_last t.end at end k ts h p)

-- with the token of a piece, if it has one
pub placed_more : (at end n : ℕ) (kind : Option TokenKind) (ts more : List Token) → at < end → end ≡ at + n → more ≡ ts ++ token_before at n kind [] → Placed 0 at ts → Placed 0 end more
placed_more at end n None ts more h e f p = subst (Placed 0 end) (sym f) (rw (append_none ts) (placed_further 0 at end ts (omega (arith, h)) p))
  where
    append_none : (ts : List Token) → ts ++ [] ≡ ts
    append_none [] = refl
    append_none (t ∷ ts) = ap (λ us. t ∷ us) (append_none ts)
placed_more at end n (Some k) ts more h e f p =
    subst (Placed 0 end) (sym f) (subst (λ i. Placed 0 end (ts ++ record { kind = k; start = at; end = i } ∷ [])) e (placed_last 0 at end k ts h p))

-- ---- names

text_no_name : (n : ℕ) (p : Piece) → ◌≡◌ {A = Result Piece Rule} (Ok (spelling Text n)) (Ok p) → p.kind ≡ Some Name → ⊥
text_no_name n p e f = let same : spelling Text n ≡ p = cc in let kind = ap (λ q. q.kind) same in cc

string_no_name : (s : List ℕ) (p : Piece) → string_before s ≡ Ok p → p.kind ≡ Some Name → ⊥
unfolding string_before
string_no_name s p e f =
    let n : ℕ = prefix_len is_text_byte s in
    elim (pick (begins_quote (drop n s)) (Ok (spelling Text (n + 2))) (Err X1) p e) [
      | inl h ↦ text_no_name (n + 2) p h.1 f
      | inr h ↦ let lost = h.1 in cc
    ]

mark_no_name : (n : ℕ) (p : Piece) → mark_of n ≡ Ok p → p.kind ≡ Some Name → ⊥
mark_no_name zero p e f = cc
mark_no_name (suc n) p e f = let same : spelling Mark (suc n) ≡ p = cc in let kind = ap (λ q. q.kind) same in cc

mark_at_no_name : (s : List ℕ) (p : Piece) → mark_at s ≡ Ok p → p.kind ≡ Some Name → ⊥
unfolding mark_at
mark_at_no_name s p e f = mark_no_name (longest_front is_mark 3 s) p e f

run_passes : (test : ℕ → Bool) (s : List ℕ) → list_all test (take_while test s) ≡ true
run_passes test [] = refl
run_passes test (b ∷ bs) = ap (list_all test) (take_while-cons test b bs) ∙ go (test b) refl (run_passes test bs)
  where
    go : (c : Bool) → test b ≡ c → list_all test (take_while test bs) ≡ true → list_all test (cond c (b ∷ take_while test bs) []) ≡ true
    go true e h = ap (λ x. x && list_all test (take_while test bs)) e ∙ h
    go false e h = refl

-- what a name's piece says of the text
abbrev Named : List ℕ → ℕ → Type 0
Named s n = (is_word (take n s) ≡ true) × (kind_of_word (take n s) ≡ Ok Name)

word_run : (b : ℕ) (bs : List ℕ) → is_word_byte b ≡ true → is_word (take_while is_word_byte (b ∷ bs)) ≡ true
unfolding is_word
word_run b bs e =
    ap is_word (take_while-cons is_word_byte b bs)
    ∙ (ap (λ c. is_word (cond c (b ∷ take_while is_word_byte bs) [])) e
    ∙ (ap (λ c. c && list_all is_word_byte (take_while is_word_byte bs)) e ∙ run_passes is_word_byte bs))

spelled_name : (n : ℕ) (r : Result TokenKind Rule) (p : Piece) → spelled n r ≡ Ok p → p.kind ≡ Some Name → (p.length ≡ n) × (r ≡ Ok Name)
spelled_name n (Ok kind) p e f =
    let same : spelling kind n ≡ p = cc in
    let one : Some kind ≡ p.kind = ap (λ q. q.kind) same in
    let two : kind ≡ Name = cc in
    (ap (λ q. q.length) (sym same), ap (λ k. Ok k) two)
spelled_name n (Err rule) p e f = cc

word_named : (b : ℕ) (bs : List ℕ) (p : Piece) → is_word_byte b ≡ true → word_at (b ∷ bs) ≡ Ok p → p.kind ≡ Some Name → Named (b ∷ bs) p.length
unfolding word_at
word_named b bs p w e f =
    let both = spelled_name (prefix_len is_word_byte (b ∷ bs)) (kind_of_word (take_while is_word_byte (b ∷ bs))) p e f in
    let front : take p.length (b ∷ bs) ≡ take_while is_word_byte (b ∷ bs) = ap (λ n. take n (b ∷ bs)) both.0 in
    (ap is_word front ∙ word_run b bs w, ap kind_of_word front ∙ both.1)

spelling_named : (b : ℕ) (bs : List ℕ) (p : Piece) → spelling_at (b ∷ bs) ≡ Ok p → p.kind ≡ Some Name → Named (b ∷ bs) p.length
unfolding spelling_at
spelling_named b bs p e f =
    elim (pick (is_word_byte b) (word_at (b ∷ bs)) (mark_at (b ∷ bs)) p e) [
      | inl h ↦ word_named b bs p h.0 h.1 f
      | inr h ↦ absurd (mark_at_no_name (b ∷ bs) p h.1 f)
    ]

named_at : (s : List ℕ) (p : Piece) → piece_at s ≡ Ok p → p.kind ≡ Some Name → Named s p.length
unfolding piece_at
named_at [] p h e = cc
named_at (b ∷ bs) p h e =
    let t : List ℕ = b ∷ bs in
    let spelled_here : Result Piece Rule = spelling_at t in
    let quoted : Result Piece Rule = if eqb b 34 then string_before bs else spelled_here in
    let block : Result Piece Rule = if starts_with eqb t (codes "/*") then comment_before (drop 1 bs) else quoted in
    let line : Result Piece Rule =
    if starts_with eqb t (codes "//") then Ok (gap (prefix_len is_in_line (drop 1 bs) + 2)) else block in
    elim (pick (is_blank b) (Ok (gap 1)) line p h) [
      | inl q ↦ absurd (gap_no_kind 1 p Name q.1 e)
      | inr q ↦ elim (pick (starts_with eqb t (codes "//")) (Ok (gap (prefix_len is_in_line (drop 1 bs) + 2))) block p q.1) [
        | inl r ↦ absurd (gap_no_kind (prefix_len is_in_line (drop 1 bs) + 2) p Name r.1 e)
        | inr r ↦ elim (pick (starts_with eqb t (codes "/*")) (comment_before (drop 1 bs)) quoted p r.1) [
          | inl u ↦ absurd (comment_at_no_kind (drop 1 bs) p Name u.1 e)
          | inr u ↦ elim (pick (eqb b 34) (string_before bs) spelled_here p u.1) [
            | inl v ↦ absurd (string_no_name bs p v.1 e)
            | inr v ↦ spelling_named b bs p v.1 e
          ]
        ]
      ]
    ]

with_token : (text : List ℕ) (at n : ℕ) (kind : Option TokenKind) (ts : List Token) → (kind ≡ Some Name → Named (drop at text) n)
    → All (IsNamed text) ts → All (IsNamed text) (token_before at n kind ts)
with_token text at n None ts one more = more
with_token text at n (Some k) ts one more =
    All-cons (IsNamed text) (record { kind = k; start = at; end = at + n }) ts
    (λ e. let long : at + n - at ≡ n = omega arith in let named = one (ap Some e) in
    (ap (λ i. is_word (take i (drop at text))) long ∙ named.0, ap (λ i. kind_of_word (take i (drop at text))) long ∙ named.1)) more

all_named : (ps : List Piece) (text : List ℕ) (at : ℕ) (rest : List ℕ) → Cut ps (drop at text) rest → All (IsNamed text) (tokens_of at ps)
all_named [] text at rest c = All-nil (IsNamed text)
all_named (p ∷ ps) text at rest c =
    with_token text at p.length p.kind (tokens_of (at + p.length) ps) (named_at (drop at text) p c.0)
    (all_named ps text (at + p.length) rest (subst (λ (t : List ℕ). Cut ps t rest) (drop-drop p.length at text) c.1))

pub named_from : (text : List ℕ) (tokens : List Token) → Lexes text tokens → All (IsNamed text) tokens
named_from text tokens h = subst (λ (ts : List Token). All (IsNamed text) ts) (sym h.1.2) (all_named h.1.0 text 0 [] h.1.1)
