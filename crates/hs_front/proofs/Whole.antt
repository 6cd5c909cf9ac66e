-- What is answered of the tokens of a text.
use Rattle.std.proofs.Common.{◌≡◌, ◌⊎◌, inl, inr, ℕ, List, [], ◌∷◌, ◌++◌, length, Result, Ok, Err, IfOk, refl, sym, ap, ◌∙◌, subst, append_assoc, arith}
use Rattle.hs_base.specs.declared.place.Broken.{Broken}
use Rattle.hs_base.specs.declared.place.Stop.{Stop}
use Rattle.hs_base.specs.declared.place.Stop.TheVariants as lexed
use Rattle.hs_parser.specs.declared.stop.ParseStop.{ParseStop}
use Rattle.hs_parser.specs.declared.stop.ParseStop.TheVariants as stop
use Rattle.hs_first_tree.specs.Plain as tree
use Rattle.hs_grammar.specs.Derives.{DerivesAs}
use Rattle.hs_grammar.specs.Break.{Breaks, CannotGoOn}
use Rattle.hs_grammar.specs.Whole.{ParseBreak}
use Rattle.hs_lexer.specs.declared.token.Token.{Token}
use Rattle.hs_lexer.specs.Places.{Placed}
use Rattle.hs_lexer.specs.Lexes.{Lexes, LexBreak}
use Rattle.hs_syntax.specs.declared.file.File.{File as Whole}
use Rattle.hs_parser.specs.Told.{IsFile, IsRead, Diagnosis, Unanswered}
use Rattle.hs_front.specs.declared.symbol.Symbol.{Symbol}
use Rattle.hs_front.specs.declared.syntax.File.{File}
use Rattle.hs_front.specs.Symbols.{symbols_of}
use Rattle.hs_front.specs.Written.{AFile, written}
use Rattle.hs_front.specs.Marks.{Mark, name_marks, type_marks, IsFirst}
use Rattle.hs_front.specs.Program.{program_from}
use Rattle.hs_front.specs.Stages.{KeepsRules, TellsRules, Keeps}
use Rattle.hs_front.specs.Told.{AcceptedBehind, AcceptedTokens, Accepted, break_at, told_at, FileBreak, ToldBehind, IsWhole, RulesBreak, ToldTokens, Told}
use Rattle.hs_front.specs.Walk.{Makes, Breaks as Marked, file_walk, Gives}
use Rattle.hs_front.specs.Answers.{Only, IsFree, OnlyBreak, IsBreak, OnBreak}
use Rattle.hs_front.proofs.Walked.{IsHead, FileAgrees, file_agrees}
use Rattle.hs_front.proofs.Order.{Spread, marks_ends, file_spread, names_spread, types_spread, head_first, first_head}

-- ---- a list of tokens breaks the grammar at one place

-- of two fronts of a list one is a front of the other
fronts : (a b c d : List Symbol) → a ++ b ≡ c ++ d → ((e : List Symbol) × (c ≡ a ++ e) × (b ≡ e ++ d)) ⊎ ((e : List Symbol) × (a ≡ c ++ e) × (d ≡ e ++ b))
fronts [] b c d e = inl (c, refl, e)
fronts (x ∷ a) b [] d e = inr (x ∷ a, refl, sym e)
fronts (x ∷ a) b (y ∷ c) d e =
    let one : x ≡ y = cc in
    let rest : a ++ b ≡ c ++ d = cc in
    elim (fronts a b c d rest) [
      | inl (f, i, j) ↦ inl (f, ap (λ z. z ∷ c) (sym one) ∙ ap (λ l. x ∷ l) i, j)
      | inr (f, i, j) ↦ inr (f, ap (λ z. z ∷ a) one ∙ ap (λ l. y ∷ l) i, j)
    ]

no_further : (w b d : List Symbol) (h : Breaks written AFile w b) (k : Breaks written AFile w d) (e : List Symbol) → k.before ≡ h.before ++ e → b ≡ e ++ d → b ≡ d
no_further w b d h k [] i j = j
no_further w b d h k (t ∷ e) i j =
    let over : CannotGoOn written AFile h.before (t ∷ (e ++ d)) = subst (CannotGoOn written AFile h.before) j h.over in
    absurd (over (k.begun (h.before ++ t ∷ []) e (i ∙ sym (append_assoc h.before (t ∷ []) e))))

breaks_once : (w b d : List Symbol) → Breaks written AFile w b → Breaks written AFile w d → b ≡ d
breaks_once w b d h k = elim (fronts h.before b k.before d (sym h.whole ∙ k.whole)) [
  | inl (e, i, j) ↦ no_further w b d h k e i j
  | inr (e, i, j) ↦ sym (no_further w d b k h e i j)
]

place_once : (w : List Symbol) (at to : ℕ) → ParseBreak written AFile w at → ParseBreak written AFile w to → at ≡ to
place_once w at to (b, h, n) (d, k, m) =
    let same : length b ≡ length d = ap length (breaks_once w b d h k) in omega (arith, n, m, same)

-- ---- the answer for a file

module _ (text : List ℕ) (tokens : List Token) (placed : Placed 0 (length text) tokens)
    (unique : (w : List Symbol) (x y : File) → DerivesAs written AFile w x → DerivesAs written AFile w y → x ≡ y)
    (apart : (w rest : List Symbol) (x : File) → Breaks written AFile w rest → DerivesAs written AFile w x → ⊥) where
  derived : File → Type 0
  derived f = DerivesAs written AFile (symbols_of text tokens) f

  names_apart : (f : File) → DerivesAs written AFile (symbols_of text tokens) f → Spread 0 (marks_ends (name_marks text f)) (length text)
  names_apart f d = names_spread text f (length text) (file_spread text tokens (length text) f placed d)

  types_apart : (f : File) → DerivesAs written AFile (symbols_of text tokens) f → Spread 0 (marks_ends (type_marks text f)) (length text)
  types_apart f d = types_spread text f (length text) (file_spread text tokens (length text) f placed d)

  -- the mark that the steps give is the one that is told
  mark_told : (f : File) (m : Mark) → DerivesAs written AFile (symbols_of text tokens) f → file_walk text f ≡ Marked m → FileBreak text f (told_at text m)
  mark_told f m d e = (
    m,
    refl,
    elim (subst (FileAgrees text f) e (file_agrees text f)) [
      | inl h ↦ inl (head_first m h.0 (name_marks text f) (length text) h.1 (names_apart f d))
      | inr h ↦ inr (h.0, head_first m h.1.0 (type_marks text f) (length text) h.1.1 (types_apart f d))
    ],
  )

  same_head : (m n : Mark) (ms : List Mark) → IsHead m ms → IsHead n ms → m ≡ n
  same_head m n ms (r, e) (q, f) = let both : m ∷ r ≡ n ∷ q = sym e ∙ f in cc

  no_head : (m : Mark) (ms : List Mark) → ms ≡ [] → IsHead m ms → ⊥
  no_head m ms e (r, f) = let both : [] ≡ m ∷ r = sym e ∙ f in cc

  -- and no other is
  mark_only : (f : File) (m n : Mark) → DerivesAs written AFile (symbols_of text tokens) f → FileAgrees text f (Marked m)
      → IsFirst n (name_marks text f) ⊎ ((name_marks text f ≡ []) × IsFirst n (type_marks text f)) → m ≡ n
  mark_only f m n d (inl h) (inl i) = same_head m n (name_marks text f) h (first_head n (name_marks text f) (length text) (names_apart f d) i)
  mark_only f m n d (inl h) (inr (e, i)) = absurd (no_head m (name_marks text f) e h)
  mark_only f m n d (inr (e, h)) (inl i) = absurd (no_head n (name_marks text f) e (first_head n (name_marks text f) (length text) (names_apart f d) i))
  mark_only f m n d (inr (e, h)) (inr (g, i)) = same_head m n (type_marks text f) h (first_head n (type_marks text f) (length text) (types_apart f d) i)

  no_mark : (f : File) (p : List tree.Function) (n : Mark) → FileAgrees text f (Makes p) → IsFirst n (name_marks text f) ⊎ ((name_marks text f ≡ []) × IsFirst n (type_marks text f)) → ⊥
  no_mark f p n (e, g, h) (inl i) = (subst (IsFirst n) e i).0
  no_mark f p n (e, g, h) (inr (k, i)) = (subst (IsFirst n) g i).0

  module _ {A : Type 0} (of : A → List tree.Function) (f : File) (d : DerivesAs written AFile (symbols_of text tokens) f) where
    pub file_accepted : (r : Result A ParseStop) → Gives text (file_walk text f) of r → IfOk r (λ p. AcceptedBehind text tokens (of p))
    file_accepted (Ok x) g = let made = subst (FileAgrees text f) g (file_agrees text f) in (f, d, made.0, made.1, made.2)
    file_accepted (Err e) g = tt

    pub file_told : (r : Result A ParseStop) → Gives text (file_walk text f) of r → OnBreak r (ToldBehind text tokens)
    file_told (Ok x) g = tt
    file_told (Err (stop.Broken b)) (m, e, i) = inr (f, d, subst (FileBreak text f) (sym i) (mark_told f m d e))
    file_told (Err stop.TooDeep) g = absurd g
    file_told (Err stop.NoMemory) g = tt

    pub file_only : (r : Result A ParseStop) → Gives text (file_walk text f) of r → (p : List tree.Function) → AcceptedBehind text tokens p → Only of p r
    file_only r g p (h, c, n, t, e) = go r g
      where
        go : (r : Result A ParseStop) → Gives text (file_walk text f) of r → Only of p r
        go (Ok x) g = let made = subst (FileAgrees text f) g (file_agrees text f) in made.2 ∙ (ap (program_from text) (unique (symbols_of text tokens) f h d c) ∙ sym e)
        go (Err (stop.Broken b)) (m, k, i) =
            let same : f ≡ h = unique (symbols_of text tokens) f h d c in
            elim (subst (FileAgrees text f) k (file_agrees text f)) [
              | inl q ↦ no_head m (name_marks text f) (ap (name_marks text) same ∙ n) q
              | inr q ↦ no_head m (type_marks text f) (ap (type_marks text) same ∙ t) q.1
            ]
        go (Err stop.TooDeep) g = absurd g
        go (Err stop.NoMemory) g = tt

    pub file_only_break : (r : Result A ParseStop) → Gives text (file_walk text f) of r → (b : Broken) → ToldBehind text tokens b → OnlyBreak b r
    file_only_break r g b (inl (at, (rest, h, n), i)) = absurd (apart (symbols_of text tokens) rest f h d)
    file_only_break r g b (inr (h, c, (m, i, first))) = go r g
      where
        go : (r : Result A ParseStop) → Gives text (file_walk text f) of r → OnlyBreak b r
        go (Ok x) g =
            no_mark f (of x) m (subst (FileAgrees text f) g (file_agrees text f))
            (subst (λ (q : File). IsFirst m (name_marks text q) ⊎ ((name_marks text q ≡ []) × IsFirst m (type_marks text q))) (sym (unique (symbols_of text tokens) f h d c)) first)
        go (Err (stop.Broken e)) (l, k, j) =
            let one : l ≡ m = mark_only f l m d (subst (FileAgrees text f) k (file_agrees text f))
            (subst (λ (q : File). IsFirst m (name_marks text q) ⊎ ((name_marks text q ≡ []) × IsFirst m (type_marks text q))) (sym (unique (symbols_of text tokens) f h d c)) first) in
            j ∙ (ap (told_at text) one ∙ sym i)
        go (Err stop.TooDeep) g = absurd g
        go (Err stop.NoMemory) g = tt

  -- ---- the answer where the tokens break the grammar

  pub break_told : (at : ℕ) → ParseBreak written AFile (symbols_of text tokens) at → ToldBehind text tokens (break_at text tokens at)
  break_told at h = inl (at, h, refl)

  pub break_accepts_none : (at : ℕ) → ParseBreak written AFile (symbols_of text tokens) at → (p : List tree.Function) → AcceptedBehind text tokens p → ⊥
  break_accepts_none at (rest, h, n) p (f, d, _, _, _) = apart (symbols_of text tokens) rest f h d

  pub break_only : (at : ℕ) → ParseBreak written AFile (symbols_of text tokens) at → (b : Broken) → ToldBehind text tokens b → break_at text tokens at ≡ b
  break_only at h b (inl (to, k, i)) = ap (break_at text tokens) (place_once (symbols_of text tokens) at to h k) ∙ sym i
  break_only at (rest, h, n) b (inr (f, d, m)) = absurd (apart (symbols_of text tokens) rest f h d)

-- ---- the answer for the tokens

-- what the parser answered
abbrev Parsed : Type 0
Parsed = Result Whole ParseStop

abbrev parsed_ok : Whole → Parsed
parsed_ok x = Ok x

abbrev parsed_err : ParseStop → Parsed
parsed_err s = Err s

-- what was answered of the rules of the stages behind
abbrev ruled_err : Stop → Result (Unit {0}) Stop
ruled_err s = Err s

-- the same stop, of the parser
abbrev pub parse_stop : Stop → ParseStop
parse_stop s = elim s [ lexed.Broken b ↦ stop.Broken b | lexed.NoMemory ↦ stop.NoMemory ]

module _ (text : List ℕ) (tokens : List Token) where
  -- a file of the whole language that breaks no rule of the stages behind
  pub whole_accepted : {A : Type 0} (of : A → List tree.Function) (r : Result A ParseStop) → IsWhole text tokens → IfOk r (λ p. AcceptedBehind text tokens (of p))
      → IfOk r (λ p. AcceptedTokens text tokens (of p))
  whole_accepted of (Ok p) w a = (w, a)
  whole_accepted of (Err s) w a = tt

  pub whole_told : {A : Type 0} (r : Result A ParseStop) → IsWhole text tokens → OnBreak r (ToldBehind text tokens) → OnBreak r (ToldTokens text tokens)
  whole_told (Ok p) w t = tt
  whole_told (Err (stop.Broken b)) w t = inr (inr (w, t))
  whole_told (Err stop.TooDeep) w t = tt
  whole_told (Err stop.NoMemory) w t = tt

  -- what is said of a file is said of the one that is read
  module _ (read_one : (text : List ℕ) (tokens : List Token) (x y : Whole) → IsFile text tokens x → IsFile text tokens y → x ≡ y)
      (read_apart : (text : List ℕ) (tokens : List Token) (x : Whole) (b : Broken) → IsRead text tokens x → Diagnosis text tokens b → ⊥)
      (rules_apart : (x : Whole) (b : Broken) → KeepsRules x → TellsRules x b → ⊥) (x : Whole) (r : IsRead text tokens x) where
    keeps : IsWhole text tokens → KeepsRules x
    keeps (y, q, k) = subst KeepsRules (read_one text tokens y x q.0 r.0) k

    tells : (b : Broken) → RulesBreak text tokens b → TellsRules x b
    tells b (y, q, h) = subst (λ z. TellsRules z b) (read_one text tokens y x q.0 r.0) h

    -- where these rules are kept: what is told behind them, and nothing else
    pub kept_only_break : {A : Type 0} (a : Result A ParseStop) → KeepsRules x → ((b : Broken) → ToldBehind text tokens b → OnlyBreak b a)
        → (b : Broken) → ToldTokens text tokens b → OnlyBreak b a
    kept_only_break a k h b (inl t) = absurd (read_apart text tokens x b r t)
    kept_only_break a k h b (inr (inl t)) = absurd (rules_apart x b k (tells b t))
    kept_only_break a k h b (inr (inr (w, t))) = h b t

    -- where they break one
    module _ (s : Stop) (p : ParseStop) (e : p ≡ parse_stop s) (made : Keeps {A = Unit {0}} x (Err s)) where
      pub broken_told : (A : Type 0) (a : Result A ParseStop) → a ≡ Err p → OnBreak a (ToldTokens text tokens)
      broken_told A a f = subst (λ b. OnBreak b (ToldTokens text tokens)) (sym (f ∙ ap (λ q. Err q) e)) (go s made)
        where
          go : (s : Stop) → Keeps {A = Unit {0}} x (Err s) → OnBreak {A = A} (Err (parse_stop s)) (ToldTokens text tokens)
          go (lexed.Broken b) t = inr (inl (x, r, t))
          go lexed.NoMemory t = tt

      -- no program is accepted
      pub broken_only : (q : List tree.Function) → AcceptedTokens text tokens q → IsFree p
      broken_only q (w, a) = subst IsFree (sym e) (go s made)
        where
          go : (s : Stop) → Keeps {A = Unit {0}} x (Err s) → IsFree (parse_stop s)
          go (lexed.Broken b) t = absurd (rules_apart x b (keeps w) t)
          go lexed.NoMemory t = tt

      -- nothing else is told
      pub broken_only_break : ((b : Broken) → TellsRules x b → (ruled_err s ≡ ruled_err (lexed.Broken b)) ⊎ (ruled_err s ≡ ruled_err lexed.NoMemory))
          → (b : Broken) → ToldTokens text tokens b → IsBreak b p
      broken_only_break only b told = subst (IsBreak b) (sym e) (go s made (only b) told)
        where
          go : (s : Stop) → Keeps {A = Unit {0}} x (Err s) → (TellsRules x b → (ruled_err s ≡ ruled_err (lexed.Broken b)) ⊎ (ruled_err s ≡ ruled_err lexed.NoMemory))
              → ToldTokens text tokens b → IsBreak b (parse_stop s)
          go lexed.NoMemory t only told = tt
          go (lexed.Broken c) t only (inl d) = absurd (read_apart text tokens x b r d)
          go (lexed.Broken c) t only (inr (inl h)) = elim (only (tells b h)) [ inl f ↦ cc | inr f ↦ absurd (cc) ]
          go (lexed.Broken c) t only (inr (inr (w, h))) = absurd (rules_apart x c (keeps w) t)

  -- none
  pub none_only_break : (s : ParseStop) → ((x : Whole) → IsRead text tokens x → (parsed_err s ≡ parsed_ok x) ⊎ Unanswered (parsed_err s))
      → ((b : Broken) → Diagnosis text tokens b → (parsed_err s ≡ parsed_err (stop.Broken b)) ⊎ Unanswered (parsed_err s))
      → (b : Broken) → ToldTokens text tokens b → IsBreak b s
  none_only_break stop.NoMemory h k b t = tt
  none_only_break stop.TooDeep h k b t = tt
  none_only_break (stop.Broken c) h k b (inl t) = elim (k b t) [ inl e ↦ cc | inr (inl e) ↦ absurd (cc) | inr (inr e) ↦ absurd (cc) ]
  none_only_break (stop.Broken c) h k b (inr (inl (x, r, t))) = elim (h x r) [ inl e ↦ absurd (cc) | inr (inl e) ↦ absurd (cc) | inr (inr e) ↦ absurd (cc) ]
  none_only_break (stop.Broken c) h k b (inr (inr ((x, r, n), t))) = elim (h x r) [ inl e ↦ absurd (cc) | inr (inl e) ↦ absurd (cc) | inr (inr e) ↦ absurd (cc) ]

-- ---- the answer for a text

module _ (text : List ℕ) (one : (ts us : List Token) → Lexes text ts → Lexes text us → ts ≡ us)
    (lexed_apart : (ts : List Token) (b : Broken) → Lexes text ts → LexBreak text b → ⊥)
    (read_apart : (ts : List Token) (x : Whole) (b : Broken) → IsRead text ts x → Diagnosis text ts b → ⊥)
    (read_one : (ts : List Token) (x y : Whole) → IsRead text ts x → IsRead text ts y → x ≡ y)
    (rules_apart : (x : Whole) (b : Broken) → KeepsRules x → TellsRules x b → ⊥)
    (unique : (w : List Symbol) (x y : File) → DerivesAs written AFile w x → DerivesAs written AFile w y → x ≡ y)
    (apart : (w rest : List Symbol) (x : File) → Breaks written AFile w rest → DerivesAs written AFile w x → ⊥) where
  -- no text has two programs
  pub accepted_once : (p q : List tree.Function) → Accepted text p → Accepted text q → p ≡ q
  accepted_once p q (ts, l, (w, (f, d, n, t, e))) (us, k, (v, (g, c, m, s, i))) =
      let same : us ≡ ts = one us ts k l in
      e ∙ (ap (program_from text) (unique (symbols_of text ts) f g d (subst (λ vs. DerivesAs written AFile (symbols_of text vs) g) same c)) ∙ sym i)

  first_apart : (f : File) (m : Mark) → name_marks text f ≡ [] → type_marks text f ≡ [] → IsFirst m (name_marks text f) ⊎ ((name_marks text f ≡ []) × IsFirst m (type_marks text f)) → ⊥
  first_apart f m n t (inl i) = (subst (IsFirst m) n i).0
  first_apart f m n t (inr i) = (subst (IsFirst m) t i.1).0

  -- no rule is told of a text that is accepted
  pub accepted_apart : (p : List tree.Function) (b : Broken) → Accepted text p → Told text b → ⊥
  accepted_apart p b (ts, l, (w, a)) (inl h) = lexed_apart ts b l h
  accepted_apart p b (ts, l, ((x, r, n), a)) (inr (us, k, inl h)) = read_apart ts x b r (subst (λ vs. Diagnosis text vs b) (one us ts k l) h)
  accepted_apart p b (ts, l, ((x, r, n), a)) (inr (us, k, inr (inl (y, q, h)))) =
      let same : y ≡ x = read_one ts y x (subst (λ vs. IsRead text vs y) (one us ts k l) q) r in
      rules_apart x b n (subst (λ z. TellsRules z b) same h)
  accepted_apart p b (ts, l, (w, (f, d, n, t, e))) (inr (us, k, inr (inr (v, inl (at, (rest, h, r), i))))) =
      apart (symbols_of text ts) rest f (subst (λ vs. Breaks written AFile (symbols_of text vs) rest) (one us ts k l) h) d
  accepted_apart p b (ts, l, (w, (f, d, n, t, e))) (inr (us, k, inr (inr (v, inr (g, c, (m, i, first)))))) =
      let same : g ≡ f = unique (symbols_of text ts) g f (subst (λ vs. DerivesAs written AFile (symbols_of text vs) g) (one us ts k l) c) d in
      first_apart f m n t (subst (λ (q : File). IsFirst m (name_marks text q) ⊎ ((name_marks text q ≡ []) × IsFirst m (type_marks text q))) same first)

  module _ {A : Type 0} (of : A → List tree.Function) (ts : List Token) (l : Lexes text ts) where
    pub behind_accepted : (r : Result A ParseStop) → IfOk r (λ p. AcceptedTokens text ts (of p)) → IfOk r (λ p. Accepted text (of p))
    behind_accepted (Ok x) h = (ts, l, h)
    behind_accepted (Err e) h = tt

    pub behind_told : (r : Result A ParseStop) → OnBreak r (ToldTokens text ts) → OnBreak r (Told text)
    behind_told (Ok x) h = tt
    behind_told (Err (stop.Broken b)) h = inr (ts, l, h)
    behind_told (Err stop.TooDeep) h = tt
    behind_told (Err stop.NoMemory) h = tt

    pub behind_only : (r : Result A ParseStop) → ((p : List tree.Function) → AcceptedTokens text ts p → Only of p r) → (p : List tree.Function) → Accepted text p → Only of p r
    behind_only r h p (us, k, a) = h p (subst (λ vs. AcceptedTokens text vs p) (one us ts k l) a)

    pub behind_only_break : (r : Result A ParseStop) → ((b : Broken) → ToldTokens text ts b → OnlyBreak b r) → (b : Broken) → Told text b → OnlyBreak b r
    behind_only_break r h b (inl k) = absurd (lexed_apart ts b l k)
    behind_only_break r h b (inr (us, k, a)) = h b (subst (λ vs. ToldTokens text vs b) (one us ts k l) a)

-- ---- the answer for a text without tokens

-- what the lexer answered
abbrev Lexed : Type 0
Lexed = Result (List Token) Stop

abbrev lexed_ok : List Token → Lexed
lexed_ok ts = Ok ts

abbrev lexed_err : Stop → Lexed
lexed_err s = Err s

module _ (text : List ℕ) where
  pub stop_only : (s : Stop) (t : ParseStop) → t ≡ parse_stop s → ((ts : List Token) → Lexes text ts → (lexed_err s ≡ lexed_ok ts) ⊎ (lexed_err s ≡ lexed_err lexed.NoMemory))
      → (p : List tree.Function) → Accepted text p → IsFree t
  stop_only lexed.NoMemory t i h p a = subst IsFree (sym i) tt
  stop_only (lexed.Broken b) t i h p (ts, l, a) = absurd (elim (h ts l) [ inl e ↦ cc | inr e ↦ cc ])

  pub stop_only_break : (s : Stop) (t : ParseStop) → t ≡ parse_stop s → ((ts : List Token) → Lexes text ts → (lexed_err s ≡ lexed_ok ts) ⊎ (lexed_err s ≡ lexed_err lexed.NoMemory))
      → ((b : Broken) → LexBreak text b → (lexed_err s ≡ lexed_err (lexed.Broken b)) ⊎ (lexed_err s ≡ lexed_err lexed.NoMemory))
      → (b : Broken) → Told text b → IsBreak b t
  stop_only_break lexed.NoMemory t i h k b a = subst (IsBreak b) (sym i) tt
  stop_only_break (lexed.Broken c) t i h k b (inl l) = subst (IsBreak b) (sym i) (elim (k b l) [ inl e ↦ cc | inr e ↦ absurd (cc) ])
  stop_only_break (lexed.Broken c) t i h k b (inr (ts, l, a)) = absurd (elim (h ts l) [ inl e ↦ cc | inr e ↦ cc ])
