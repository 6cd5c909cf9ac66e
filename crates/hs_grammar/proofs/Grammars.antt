-- The theorems on the grammar as it is written, by the parser of the one that is parsed.
use Rattle.std.proofs.Common.{◌≡◌, ℕ, ◌+◌, ◌-◌, ◌*◌, ◌<◌, ◌≤◌, arith, List, [], ◌∷◌, ◌++◌, Result, Ok, Err, length, length-append, sym, ap, ◌∙◌, subst, append_assoc}
use Rattle.hs_grammar.specs.declared.error.Refusal.{Refusal}
use Rattle.hs_grammar.specs.declared.error.Refusal.TheVariants as refusals
use Rattle.hs_grammar.specs.Whole.{StopsAt, Finishes, ParseBreak, Parses, ParsesAll, Only}
use Rattle.hs_grammar.specs.Form.{Lexis, Rules, Grammar}
use Rattle.hs_grammar.specs.Kinds.{Decides}
use Rattle.hs_grammar.specs.Derives.{DerivesBy, DerivesAs, IsBegun}
use Rattle.hs_grammar.specs.Break.{Breaks}
use Rattle.hs_grammar.specs.Lookahead.{Tables, FitsRule}
use Rattle.hs_grammar.specs.Depth.{Ranked}
use Rattle.hs_grammar.specs.Parser.{Res, Done, Stop, Deep, parse_by, Exact}
use Rattle.hs_grammar.specs.Same.{SameGrammars}
use Rattle.hs_grammar.proofs.Heights as whole
use Rattle.hs_grammar.proofs.Depths.{Shallow, deep_enough}
use Rattle.hs_grammar.proofs.Same.{derived_to, derives_to, derives_from, breaks_from}

module _ {L : Lexis} {R : Rules} (K : Decides L) (h g : Grammar L R) (each : SameGrammars h g) (τ : Tables L R) (fits : (N : R.rule) → FitsRule τ g N) where
  answer_of : (N : R.rule) (w : List L.token) (r : Res L.token (R.value N)) → Exact g N w r → Exact h N w r
  answer_of N w (Done x []) e = derives_from h g each N w x e
  answer_of N w (Done x (t ∷ rest)) e = breaks_from h g each N w (t ∷ rest) e
  answer_of N w (Stop rest) e = breaks_from h g each N w rest e
  answer_of N w Deep e = tt

  -- the parser's answer is exact
  pub answers : (n : ℕ) (N : R.rule) (w : List L.token) → Exact h N w (parse_by τ g n N w)
  answers n N w = answer_of N w (parse_by τ g n N w) (whole.exact K τ g fits n N w)

  -- what nests no deeper than the parser may go is found
  pub found : (m n : ℕ) (N : R.rule) (w : List L.token) (x : R.value N) → m ≤ n → DerivesBy h m N w x → parse_by τ g n N w ≡ Done x []
  found m n N w x le d = whole.found K τ g fits m n N w x le (derived_to h g each m N w x d)

  -- no list of tokens derives two values
  pub unique : (N : R.rule) (w : List L.token) (x y : R.value N) → DerivesAs h N w x → DerivesAs h N w y → x ≡ y
  unique N w x y d e = whole.unique K τ g fits N w x y (derives_to h g each N w x d) (derives_to h g each N w y e)

  -- where a rule breaks it derives nothing
  pub apart : (N : R.rule) (w rest : List L.token) (x : R.value N) → Breaks h N w rest → ¬ DerivesAs h N w x
  apart N w rest x b d = whole.breaks_none τ h N w rest x b d

  place_of : (N : R.rule) (w rest : List L.token) (place : ℕ) → place ≡ length w - length rest → Breaks h N w rest → place + length rest ≡ length w
  place_of N w rest place e b =
      let same : length w ≡ length (b.before ++ rest) = ap length b.whole in
      let sum = length-append b.before rest in
      omega (arith, same, sum)

  break_of : (N : R.rule) (w rest : List L.token) (place : ℕ) (r : Res L.token (R.value N)) → Exact h N w r → place ≡ length w - length rest → StopsAt r rest → ParseBreak h N w place
  break_of N w rest place (Done x []) e p (i, j) = absurd (j (sym i))
  break_of N w rest place (Done x (t ∷ left)) e p (i, j) = (rest, subst (Breaks h N w) i e, place_of N w rest place p (subst (Breaks h N w) i e))
  break_of N w rest place (Stop left) e p i = (rest, subst (Breaks h N w) i e, place_of N w rest place p (subst (Breaks h N w) i e))
  break_of N w rest place Deep e p i = absurd i

  -- the answer for all the tokens says what they are
  pub parses : (n : ℕ) (N : R.rule) (w : List L.token) (r : Result (R.value N) Refusal) → Finishes (parse_by τ g n N w) w r → Parses h N n w r
  parses n N w (Ok x) f = subst (Exact h N w) f (answers n N w)
  parses n N w (Err (refusals.At place)) (rest, p, s) = break_of N w rest place (parse_by τ g n N w) (answers n N w) p s
  parses n N w (Err refusals.TooDeep) f = λ m x le d. let both : Deep ≡ Done x [] = sym f ∙ found m n N w x le d in absurd (cc)
  parses n N w (Err refusals.NoMemory) f = tt

  -- what is derived is answered
  pub only : (n : ℕ) (N : R.rule) (w : List L.token) (x : R.value N) (r : Result (R.value N) Refusal) → DerivesAs h N w x → Parses h N n w r → Only x r
  only n N w x (Ok y) d p = unique N w y x p d
  only n N w x (Err (refusals.At place)) d (rest, b, e) = apart N w rest x b d
  only n N w x (Err refusals.TooDeep) d p = tt
  only n N w x (Err refusals.NoMemory) d p = tt

  -- what is derived is derived by the grammar that is parsed
  pub agrees : (N : R.rule) (w : List L.token) (x : R.value N) → DerivesAs h N w x → DerivesAs g N w x
  agrees N w x d = derives_to h g each N w x d

  -- what a rule derives begins it
  pub begun : (N : R.rule) (w : List L.token) (x : R.value N) → DerivesAs h N w x → IsBegun h N w
  begun N w x (m, d) = (m, whole.begun_of τ h m N w x d)

  -- a break of a front is one of the whole
  pub farther : (N : R.rule) (w more : List L.token) (place : ℕ) → place < length w → ParseBreak h N w place → ParseBreak h N (w ++ more) place
  farther N w more place lt ([], b, e) = absurd (omega arith)
  farther N w more place lt ((t ∷ rest), b, e) = (
    (t ∷ rest) ++ more,
    record { before = b.before; whole = ap (λ z. z ++ more) b.whole ∙ append_assoc b.before (t ∷ rest) more; begun = b.begun; over = b.over },
    omega (arith, e, length-append w more, length-append (t ∷ rest) more),
  )

  -- the parser is never too deep within this depth
  pub parses_all : (rank : R.rule → ℕ) (ranks : ℕ) → Ranked τ g rank ranks → (n : ℕ) (N : R.rule) (w : List L.token) (r : Result (R.value N) Refusal)
      → rank N + ranks * length w < n → Finishes (parse_by τ g n N w) w r → ParsesAll h N w r
  parses_all rank ranks k n N w (Ok x) room f = parses n N w (Ok x) f
  parses_all rank ranks k n N w (Err (refusals.At place)) room f = parses n N w (Err (refusals.At place)) f
  parses_all rank ranks k n N w (Err refusals.TooDeep) room f = subst Shallow f (deep_enough K τ g fits rank ranks k.below k.falls n N w room)
  parses_all rank ranks k n N w (Err refusals.NoMemory) room f = tt
