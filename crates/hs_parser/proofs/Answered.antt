-- What is answered of tokens.
use Rattle.std.proofs.Common.{◌≡◌, ◌≢◌, ◌⊎◌, inl, inr, ℕ, ◌+◌, ◌<◌, ◌≤◌, arith, List, [], ◌∷◌, ◌++◌, length, take, drop, Result, Ok, Err, refl, sym, ap, ◌∙◌, subst, append-nil}
use Rattle.std.proofs.lemmas.List.{take-append-drop, length-take-le}
use Rattle.hs_base.specs.declared.place.Broken.{Broken}
use Rattle.hs_grammar.specs.Derives.{DerivesAs, IsBegun}
use Rattle.hs_grammar.specs.Break.{Breaks}
use Rattle.hs_grammar.specs.Whole.{ParseBreak}
use Rattle.hs_syntax.specs.declared.item.Item.{Item}
use Rattle.hs_syntax.specs.declared.file.File.{File}
use Rattle.hs_marks.specs.declared.breach.Breach.{Breach}
use Rattle.hs_marks.specs.Told.{Told as IsTold}
use Rattle.hs_limits.specs.Breaks.{marks_of}
use Rattle.hs_forms.specs.declared.token.Token.{Token}
use Rattle.hs_forms.specs.Reading.{RFile}
use Rattle.hs_forms.specs.Written.{written}
use Rattle.hs_parser.specs.declared.stop.ParseStop.{ParseStop}
use Rattle.hs_parser.specs.declared.stop.ParseStop.TheVariants as stop
use Rattle.hs_parser.specs.Nesting.{nesting, least_depth}
use Rattle.hs_parser.specs.Told.{FileOf, break_at, BreaksOf, TellsOf, Gives, Limited, Unanswered}
use Rattle.hs_parser.proofs.Breaks.{place_once}

-- a file that passes no limit has none that is told
pub none_passed : (x : File) (p : Breach) → marks_of x ≡ [] → IsTold (marks_of x) p → ⊥
none_passed x p e t = (subst (λ ms. IsTold ms p) e t).1

same_file : (x y : File) → x.items ≡ y.items → x.text ≡ y.text → x ≡ y
same_file x y i t = ap (λ a. record { text = x.text; items = a }) i ∙ ap (λ b. record { text = b; items = y.items }) t

module _ (unique : (w : List Token) (x y : List Item) → DerivesAs written RFile w x → DerivesAs written RFile w y → x ≡ y)
    (apart : (w rest : List Token) (x : List Item) → Breaks written RFile w rest → DerivesAs written RFile w x → ⊥)
    (text : List ℕ) (seen : List Token) where
  -- no tokens have two files
  pub one_file : (x y : File) → FileOf text seen x → FileOf text seen y → x ≡ y
  one_file x y (d, s) (e, t) = same_file x y (unique seen x.items y.items d e) (s ∙ sym t)

  -- tokens that have a file do not break the grammar
  pub file_breaks_not : (x : File) (b : Broken) → FileOf text seen x → BreaksOf text seen b → ⊥
  file_breaks_not x b (d, s) (number, (rest, h, n), e) = apart seen rest x.items h d

  -- one break is told
  pub one_break : (b c : Broken) → BreaksOf text seen b → BreaksOf text seen c → b ≡ c
  one_break b c (n, h, e) (m, k, f) = e ∙ (ap (break_at text seen) (place_once seen n m h k) ∙ sym f)

  -- nothing is told of a file that passes no limit
  pub read_tells_not : (x : File) (b : Broken) → FileOf text seen x → marks_of x ≡ [] → TellsOf text seen b → ⊥
  read_tells_not x b d e (inl h) = file_breaks_not x b d h
  read_tells_not x b d e (inr (y, c, (p, t, i))) = none_passed x p e (subst (λ z. IsTold (marks_of z) p) (one_file y x c d) t)

  -- the answer for a file
  pub file_gives : (x : File) → FileOf text seen x → (r : Result File ParseStop) → Limited text x r → Gives text seen r
  file_gives x d (Ok y) (e, n) = (subst (FileOf text seen) (sym e) d, ap marks_of e ∙ n)
  file_gives x d (Err (stop.Broken b)) (l, o) = (
    inr (x, d, l),
    λ c. elim [
      | inl h ↦ absurd (file_breaks_not x c d h)
      | inr h ↦ o h.2.0 (subst (λ z. IsTold (marks_of z) h.2.0) (one_file h.0 x h.1 d) h.2.1) ∙ sym h.2.2
    ],
  )
  file_gives x d (Err stop.TooDeep) l = absurd l
  file_gives x d (Err stop.NoMemory) l = tt

  -- the answer for a break
  pub break_gives : (number : ℕ) → ParseBreak written RFile seen number → (b : Broken) → b ≡ break_at text seen number → Gives text seen (Err (stop.Broken b))
  break_gives number h b e = (
    inl (number, h, e),
    λ c. elim [
      | inl k ↦ one_break b c (number, h, e) k
      | inr k ↦ absurd (file_breaks_not k.0 b k.1 (number, h, e))
    ],
  )

  -- a break of the tokens before a place
  pub front_breaks : ((w more : List Token) (number : ℕ) → number < length w → ParseBreak written RFile w number → ParseBreak written RFile (w ++ more) number)
      → (place number : ℕ) → place < length seen → number < place → ParseBreak written RFile (take place seen) number → ParseBreak written RFile seen number
  front_breaks farther place number inside lt h =
      let long : length (take place seen) ≡ place = length-take-le place seen (omega arith) in
      subst (λ w. ParseBreak written RFile w number) (take-append-drop place seen) (farther (take place seen) (drop place seen) number (omega (arith, long)) h)

  -- what tells is given where the answer is given
  pub gives_only_file : (r : Result File ParseStop) → Gives text seen r → (x : File) → FileOf text seen x → marks_of x ≡ [] → (r ≡ Ok x) ⊎ Unanswered r
  gives_only_file (Ok y) (d, e) x f m = inl (ap (λ z. Ok z) (one_file y x d f))
  gives_only_file (Err (stop.Broken b)) (t, o) x f m = absurd (read_tells_not x b f m t)
  gives_only_file (Err stop.TooDeep) g x f m = inr (inl refl)
  gives_only_file (Err stop.NoMemory) g x f m = inr (inr refl)

  pub gives_only_told : (r : Result File ParseStop) → Gives text seen r → (b : Broken) → TellsOf text seen b → (r ≡ Err (stop.Broken b)) ⊎ Unanswered r
  gives_only_told (Ok y) (d, e) b t = absurd (read_tells_not y b d e t)
  gives_only_told (Err (stop.Broken c)) (t, o) b u = inl (ap (λ z. Err (stop.Broken z)) (o b u))
  gives_only_told (Err stop.TooDeep) g b t = inr (inl refl)
  gives_only_told (Err stop.NoMemory) g b t = inr (inr refl)

-- tokens that break at their end begin a file
pub begun_at_end : (w : List Token) (number : ℕ) → (number < length w → ⊥) → ParseBreak written RFile w number → IsBegun written RFile w
begun_at_end w number far ([], h, e) = subst (IsBegun written RFile) (sym (h.whole ∙ append-nil h.before)) (h.begun h.before [] (sym (append-nil h.before)))
begun_at_end w number far ((t ∷ rest), h, e) = absurd (far (omega (arith, e)))

-- so do those before a place, where they do not break before it
pub begun_before : (seen : List Token) (place number : ℕ) → place < length seen → place ≤ number → ParseBreak written RFile (take place seen) number → IsBegun written RFile (take place seen)
begun_before seen place number inside far h =
    let long : length (take place seen) ≡ place = length-take-le place seen (omega arith) in
    begun_at_end (take place seen) number (λ lt. omega (arith, long)) h

-- an answer of tokens is not that too much nests where little does
pub gives_shallow : (text : List ℕ) (seen : List Token) (r : Result File ParseStop) → Gives text seen r → ((place : ℕ) → nesting (take place seen) ≤ least_depth) → r ≢ Err stop.TooDeep
gives_shallow text seen (Ok x) g few e = absurd (cc)
gives_shallow text seen (Err (stop.Broken b)) g few e = absurd (cc)
gives_shallow text seen (Err stop.TooDeep) (place, inside, deep, begun) few e = let most : nesting (take (place + 1) seen) ≤ 320 = few (place + 1) in omega (arith, most, deep)
gives_shallow text seen (Err stop.NoMemory) g few e = absurd (cc)
