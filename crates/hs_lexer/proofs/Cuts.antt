-- A text is cut into pieces in one way.
use Rattle.std.proofs.Common.{◌≡◌, IfOk, IfErr, ◌⊎◌, inl, inr, ℕ, ◌+◌, ◌<◌, ◌≤◌, List, [], ◌∷◌, ◌++◌, length, take, drop, Option, Some, None, Result, Ok, Err, refl, sym, ◌∙◌, ap, subst, arith, add_assoc, add-zero, zero-add}
use Rattle.std.proofs.lemmas.List.{drop-drop, take-append-drop, append_cancel_right, drop_all, length-drop}
use Rattle.hs_base.specs.declared.rule.Rule.TheVariants.{X1}
use Rattle.hs_base.specs.declared.place.Pos.{Pos}
use Rattle.hs_base.specs.declared.place.Broken.{Broken}
use Rattle.hs_base.specs.declared.place.Stop.{Stop}
use Rattle.hs_base.specs.declared.place.Stop.TheVariants as stop
use Rattle.hs_base.specs.declared.place.Stop.TheVariants.{NoMemory}
use Rattle.hs_base.specs.declared.rule.Rule.{Rule}
use Rattle.hs_lexer.specs.declared.token.TokenKind.{TokenKind}
use Rattle.hs_lexer.specs.declared.token.Token.{Token}
use Rattle.hs_lexer.specs.declared.piece.Piece.{Piece}
use Rattle.hs_lexer.specs.Pieces.{piece_at}
use Rattle.hs_lexer.specs.Lexes.{Cut, token_before, tokens_of, Lexes, LexBreak, place_behind}

-- how many bytes the pieces have together
abbrev pub bytes_of : List Piece → ℕ
bytes_of [] = 0
bytes_of (p ∷ ps) = p.length + bytes_of ps

pub cut_push : (ps : List Piece) (s rest : List ℕ) (p : Piece)
    → Cut ps s rest → piece_at rest ≡ Ok p → Cut (ps ++ p ∷ []) s (drop p.length rest)
cut_push [] s rest p c h = (ap piece_at c ∙ h, ap (drop p.length) c)
cut_push (q ∷ ps) s rest p c h = (c.0, cut_push ps (drop q.length s) rest p c.1 h)

pub cut_once : (ps qs : List Piece) (s r t : List ℕ) (e f : Rule)
    → Cut ps s r → piece_at r ≡ Err e → Cut qs s t → piece_at t ≡ Err f → (ps ≡ qs) × (r ≡ t)
cut_once [] [] s r t e f c h d k = (refl, sym c ∙ d)
cut_once [] (q ∷ qs) s r t e f c h d k = let d0 = d.0 in cc
cut_once (p ∷ ps) [] s r t e f c h d k = let c0 = c.0 in cc
cut_once (p ∷ ps) (q ∷ qs) s r t e f c h d k =
    let c0 = c.0 in
    let d0 = d.0 in
    let same : q ≡ p = cc in
    let d1 = subst (λ (x : Piece). Cut qs (drop x.length s) t) same d.1 in
    let both = cut_once ps qs (drop p.length s) r t e f c.1 h d1 k in
    let tails = both.0 in
    (cc, both.1)

token_before-append : (at n : ℕ) (kind : Option TokenKind) (ts us : List Token)
    → token_before at n kind (ts ++ us) ≡ token_before at n kind ts ++ us
token_before-append at n None ts us = refl
token_before-append at n (Some kind) ts us = refl

pub tokens_of-push : (ps : List Piece) (at : ℕ) (p : Piece)
    → tokens_of at (ps ++ p ∷ []) ≡ tokens_of at ps ++ token_before (at + bytes_of ps) p.length p.kind []
tokens_of-push [] at p = ap (λ n. token_before n p.length p.kind []) (sym (add-zero at))
tokens_of-push (q ∷ ps) at p =
    let more = tokens_of (at + q.length) ps in
    ap (token_before at q.length q.kind) (tokens_of-push ps (at + q.length) p)
    ∙ token_before-append at q.length q.kind more (token_before (at + q.length + bytes_of ps) p.length p.kind [])
    ∙ ap (λ n. token_before at q.length q.kind more ++ token_before n p.length p.kind []) (add_assoc at q.length (bytes_of ps))

bytes_of-push : (ps : List Piece) (p : Piece) → bytes_of (ps ++ p ∷ []) ≡ bytes_of ps + p.length
bytes_of-push [] p = omega arith
bytes_of-push (q ∷ ps) p = let more = bytes_of-push ps p in omega arith

-- the first `at` bytes of a text are whole pieces, and these are their tokens
pub record Read (text : List ℕ) (at : ℕ) (tokens : List Token) : Type 0 where
  pub pieces : List Piece
  pub cut : Cut pieces text (drop at text)
  pub spelled : tokens ≡ tokens_of 0 pieces
  pub so_far : at ≡ bytes_of pieces

pub read_none : (text : List ℕ) → Read text 0 []
read_none text = record { pieces = []; cut = refl; spelled = refl; so_far = refl }

pub read_more : (text : List ℕ) (at end : ℕ) (tokens more : List Token) (p : Piece)
    → Read text at tokens → piece_at (drop at text) ≡ Ok p → end ≡ at + p.length
    → more ≡ tokens ++ token_before at p.length p.kind [] → Read text end more
read_more text at end tokens more p r here e f =
    let pieces : List Piece = r.pieces ++ p ∷ [] in
    let place : drop p.length (drop at text) ≡ drop end text =
    drop-drop p.length at text ∙ ap (λ n. drop n text) (sym e) in
    let cut : Cut pieces text (drop end text) =
    subst (λ (rest : List ℕ). Cut pieces text rest) place (cut_push r.pieces text (drop at text) p r.cut here) in
    let joined : tokens_of 0 pieces ≡ tokens_of 0 r.pieces ++ token_before at p.length p.kind [] =
    tokens_of-push r.pieces 0 p
    ∙ ap (λ n. tokens_of 0 r.pieces ++ token_before n p.length p.kind []) (zero-add (bytes_of r.pieces) ∙ sym r.so_far) in
    record {
      pieces = pieces;
      cut = cut;
      spelled = f ∙ ap (λ ts. ts ++ token_before at p.length p.kind []) r.spelled ∙ sym joined;
      so_far = let sum = bytes_of-push r.pieces p in let so_far = r.so_far in omega arith;
    }

pub lexes_from : (text : List ℕ) (at : ℕ) (tokens : List Token)
    → Read text at tokens → length text ≤ at → length text ≤ 262144 → Lexes text tokens
lexes_from text at tokens r h short =
    let nothing : drop at text ≡ [] = drop_all at text h in
    (short, (r.pieces, subst (λ (rest : List ℕ). Cut r.pieces text rest) nothing r.cut, r.spelled))

pub break_from : (text : List ℕ) (at : ℕ) (tokens : List Token) (b : Broken)
    → Read text at tokens → at < length text → piece_at (drop at text) ≡ Err b.rule → b.at ≡ place_behind (take at text)
    → length text ≤ 262144 → LexBreak text b
break_from text at tokens b r h here place short =
    let some : drop at text ≡ [] → ⊥ =
    λ none. let n = length-drop at text in let z = ap length none in omega arith in
    inr (short, (r.pieces, take at text, drop at text, sym (take-append-drop at text), r.cut, some, here, place))

nothing_begins : piece_at [] ≡ Err X1
unfolding piece_at
nothing_begins = refl

pub lexes_once : (text : List ℕ) (tokens others : List Token) → Lexes text tokens → Lexes text others → tokens ≡ others
lexes_once text tokens others h k =
    let same = (cut_once h.1.0 k.1.0 text [] [] X1 X1 h.1.1 nothing_begins k.1.1 nothing_begins).0 in
    h.1.2 ∙ ap (tokens_of 0) same ∙ sym k.1.2

pub lexes_or_breaks : (text : List ℕ) (tokens : List Token) (b : Broken) → Lexes text tokens → LexBreak text b → ⊥
lexes_or_breaks text tokens b h (inl long) = let short = h.0 in let l = long.0 in omega arith
lexes_or_breaks text tokens b h (inr k) =
    k.1.5 (sym (cut_once h.1.0 k.1.0 text [] k.1.2 X1 b.rule h.1.1 nothing_begins k.1.4 k.1.6).1)

same_broken : (b c : Broken) → b.rule ≡ c.rule → b.at ≡ c.at → b ≡ c
same_broken b c e f =
    let make : Rule → Pos → Broken = λ r a. record { rule = r; at = a } in
    ap (λ r. make r b.at) e ∙ ap (make c.rule) f

same_err : (r q : Rule) → ◌≡◌ {A = Result Piece Rule} (Err r) (Err q) → r ≡ q
same_err r q e = cc

pub break_once : (text : List ℕ) (b c : Broken) → LexBreak text b → LexBreak text c → b ≡ c
break_once text b c (inl h) (inl k) = h.1 ∙ sym k.1
break_once text b c (inl h) (inr k) = let l = h.0 in let short = k.0 in absurd (omega arith)
break_once text b c (inr h) (inl k) = let l = k.0 in let short = h.0 in absurd (omega arith)
break_once text b c (inr h) (inr k) =
    let rests : h.1.2 ≡ k.1.2 = (cut_once h.1.0 k.1.0 text h.1.2 k.1.2 b.rule c.rule h.1.4 h.1.6 k.1.4 k.1.6).1 in
    let fronts : h.1.1 ≡ k.1.1 =
    append_cancel_right h.1.1 k.1.1 k.1.2 (ap (λ rest. h.1.1 ++ rest) (sym rests) ∙ sym h.1.3 ∙ k.1.3) in
    same_broken b c
    (same_err b.rule c.rule (sym h.1.6 ∙ ap piece_at rests ∙ k.1.6))
    (h.1.7 ∙ ap place_behind fronts ∙ sym k.1.7)

abbrev ok_of : List Token → Result (List Token) Stop
ok_of tokens = Ok tokens

abbrev broken_of : Broken → Result (List Token) Stop
broken_of b = Err (stop.Broken b)

-- what the answer to a text can be, where what it says is so
pub only_tokens_from : (text : List ℕ) (r : Result (List Token) Stop)
    → IfOk r (λ tokens. Lexes text tokens) → IfErr r (λ e. (b : Broken) → e ≡ stop.Broken b → LexBreak text b)
    → (tokens : List Token) → Lexes text tokens → (r ≡ Ok tokens) ⊎ (r ≡ Err NoMemory)
only_tokens_from text (Ok found) h k tokens l = inl (ap (λ ts. ok_of ts) (lexes_once text found tokens h l))
only_tokens_from text (Err (stop.Broken b)) h k tokens l = absurd (lexes_or_breaks text tokens b l (k b refl))
only_tokens_from text (Err NoMemory) h k tokens l = inr refl

pub only_break_from : (text : List ℕ) (r : Result (List Token) Stop)
    → IfOk r (λ tokens. Lexes text tokens) → IfErr r (λ e. (b : Broken) → e ≡ stop.Broken b → LexBreak text b)
    → (b : Broken) → LexBreak text b → (r ≡ Err (stop.Broken b)) ⊎ (r ≡ Err NoMemory)
only_break_from text (Ok found) h k b l = absurd (lexes_or_breaks text found b h l)
only_break_from text (Err (stop.Broken c)) h k b l = inl (ap (λ x. broken_of x) (break_once text c b (k c refl) l))
only_break_from text (Err NoMemory) h k b l = inr refl
