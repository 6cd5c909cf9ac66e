-- What forms give of sure tokens.
use Rattle.std.proofs.Common.{◌≡◌, ℕ, Bool, true, false, List, [], ◌∷◌, ◌++◌, Option, Some, None, inl, inr, refl, subst}
use Rattle.hs_grammar.specs.Form.{Step, More, Last, Pure, Tok, Map, Seq, Split, Alt, Loop, Unless}
use Rattle.hs_grammar.specs.Kinds.{has, starts}
use Rattle.hs_grammar.specs.Derives.{Derivings, Derives, Turns, Where}
use Rattle.hs_grammar.specs.Combinators.{rule, ◌>>◌, ◌<<◌, ◌&◌, optional, star, list_read}
use Rattle.hs_syntax.specs.declared.ty.Ty.{Ty}
use Rattle.hs_syntax.specs.WellFormed.{named, well_ty, well_pat, well_exp, well_if, well_block, well_item}
use Rattle.hs_forms.specs.declared.token.Kind.{Kind}
use Rattle.hs_forms.specs.declared.token.Token.{Token}
use Rattle.hs_forms.specs.Lexis.{lexis}
use Rattle.hs_forms.specs.Reading.{Rule, RFile, RType, RMaybe, RPat, RExp, RUnary, RBlock, RIf, ROpen, RPlace, RPlaced, rules, value, F, name}
use Rattle.hs_shapes.proofs.Sure.{IsSure, AllSure, divide}
use Rattle.hs_shapes.proofs.Facts.{Fact, good, anything, by, pair, perhaps, Perhaps, rows, Row, row_each, each_of, some_of, turns}

-- of what the form derives from sure tokens, this is known
pub record Gives (text : List ℕ) (ρ : Derivings lexis rules) {C : Type 0} (f : F C) (P : Fact C) : Type 0 where
  pub known : (w : List Token) (x : C) → Derives ρ f w x → AllSure text w → P.holds x

module _ (text : List ℕ) (ρ : Derivings lexis rules) where
  -- ---- tokens

  one_token : {C : Type 0} (ks : List Kind) (h : Token → C) (P : Fact C) → ((t : Token) → has lexis ks t.kind ≡ true → IsSure text t → P.holds (h t))
      → (w : List Token) (x : C) (t : Token) → w ≡ t ∷ [] → starts lexis ks w ≡ true → h t ≡ x → AllSure text w → P.holds x
  one_token ks h P fact w x t e y i s =
      let here : AllSure text (t ∷ []) = subst (λ (v : List Token). AllSure text v) e s in
      let found : has lexis ks t.kind ≡ true = subst (λ (v : List Token). starts lexis ks v ≡ true) e y in
      subst P.holds i (fact t found here.0)

  -- a token of one of these kinds
  pub token : {C : Type 0} {ks : List Kind} {h : Token → C} {P : Fact C} → ((t : Token) → has lexis ks t.kind ≡ true → IsSure text t → P.holds (h t)) → Gives text ρ (Tok ks h) P
  token {ks = ks} {h = h} {P = P} fact = record { known = λ w x d s. one_token ks h P fact w x d.0 d.1 d.2 d.3 s }

  -- a name
  pub name_gives : Gives text ρ name (good (named text))
  unfolding name
  name_gives = token (λ t i s. s.name i)

  -- ---- any form

  -- tokens of whose value nothing is asked
  pub none_kept : {C : Type 0} {f : F C} → Gives text ρ f anything
  none_kept = record { known = λ w x d s. tt {0} }

  -- no token
  pub empty : {C : Type 0} {c : C} {P : Fact C} → P.holds c → Gives text ρ (Pure c) P
  empty {c = c} {P = P} fact = record { known = λ w x d s. subst P.holds d.1 fact }

  -- another value of the same tokens
  pub map_to : {A C : Type 0} {h : A → C} {f : F A} {P : Fact A} {Q : Fact C} → ((a : A) → P.holds a → Q.holds (h a)) → Gives text ρ f P → Gives text ρ (Map h f) Q
  map_to {P = P} {Q = Q} to g = record { known = λ w x d s. subst Q.holds d.2 (to d.0 (g.known w d.0 d.1 s)) }

  cut : (w u v : List Token) → w ≡ u ++ v → AllSure text w → AllSure text u × AllSure text v
  cut w u v e s = divide text u v (subst (λ (z : List Token). AllSure text z) e s)

  -- one behind the other
  pub seq : {A B C : Type 0} {h : A → B → C} {f : F A} {g : F B} {P : Fact A} {Q : Fact B} {R : Fact C} → ((a : A) (b : B) → P.holds a → Q.holds b → R.holds (h a b)) → Gives text ρ f P → Gives text ρ g Q → Gives text ρ (Seq h f g) R
  seq {R = R} join p q = record {
    known = λ w x d s.
        let c = cut w d.0 d.1 d.4 s in
        subst R.holds d.7 (join d.2 d.3 (p.known d.0 d.2 d.5 c.0) (q.known d.1 d.3 d.6 c.1));
  }

  where_known : {B : Type 0} (c : Bool) (g k : F B) (Q : Fact B) (v : List Token) (b : B) → Gives text ρ g Q → Gives text ρ k Q → Where c (Derives ρ g v b) (Derives ρ k v b) → AllSure text v → Q.holds b
  where_known true g k Q v b p q d s = p.known v b d s
  where_known false g k Q v b p q d s = q.known v b d s

  -- the same, where the first value decides what stands behind
  pub split : {A B C : Type 0} {c : A → Bool} {h : A → B → C} {f : F A} {g k : F B} {P : Fact A} {Q : Fact B} {R : Fact C} → ((a : A) (b : B) → P.holds a → Q.holds b → R.holds (h a b))
      → Gives text ρ f P → Gives text ρ g Q → Gives text ρ k Q → Gives text ρ (Split c h f g k) R
  split {c = c} {g = g} {k = k} {Q = Q} {R = R} join p q r = record {
    known = λ w x d s.
        let u = cut w d.0 d.1 d.4 s in
        subst R.holds d.7 (join d.2 d.3 (p.known d.0 d.2 d.5 u.0) (where_known (c d.2) g k Q d.1 d.3 q r d.6 u.1));
  }

  either : {C : Type 0} (f g : F C) (P : Fact C) → Gives text ρ f P → Gives text ρ g P → (w : List Token) (x : C) → Derives ρ (Alt f g) w x → AllSure text w → P.holds x
  either f g P p q w x (inl d) s = p.known w x d s
  either f g P p q w x (inr d) s = q.known w x d s

  -- the one or the other
  pub alt : {C : Type 0} {f g : F C} {P : Fact C} → Gives text ρ f P → Gives text ρ g P → Gives text ρ (Alt f g) P
  alt {f = f} {g = g} {P = P} p q = record { known = either f g P p q }

  -- under a side sentence
  pub unless : {C : Type 0} {ks : List Kind} {f : F C} {P : Fact C} → Gives text ρ f P → Gives text ρ (Unless ks f) P
  unless p = record { known = λ w x d s. p.known w x d.1 s }

  turns_known : {A E : Type 0} (f : F (Step A E)) (P : Fact A) (Q : Fact E) → Gives text ρ f (turns P Q) → (as' : List A) (e : Option E) (w : List Token) → Turns (Derives ρ f) as' e w → AllSure text w
      → Row P as' × Perhaps Q e
  turns_known f P Q g [] None w t s = (tt {0}, tt {0})
  turns_known f P Q g [] (Some e) w t s = (tt {0}, g.known w (Last e) t s)
  turns_known f P Q g (a ∷ as') e w (u, v, i, d, t) s =
      let c = cut w u v i s in
      let more = turns_known f P Q g as' e v t c.1 in
      ((g.known u (More a) d c.0, more.0), more.1)

  -- items, and perhaps a last thing
  pub loop : {A E C : Type 0} {h : List A → Option E → C} {f : F (Step A E)} {R : Fact C} (P : Fact A) (Q : Fact E) → ((as' : List A) (e : Option E) → Row P as' → Perhaps Q e → R.holds (h as' e)) → Gives text ρ f (turns P Q) → Gives text ρ (Loop h f) R
  loop {f = f} {R = R} P Q join g = record {
    known = λ w x d s.
        let t = turns_known f P Q g d.0 d.1 w d.2 s in
        subst R.holds d.3 (join d.0 d.1 t.0 t.1);
  }

  -- ---- words of grammars

  -- behind tokens of whose value nothing is asked
  pub then_ : {A B : Type 0} {f : F A} {g : F B} {Q : Fact B} → Gives text ρ g Q → Gives text ρ (f >> g) Q
  then_ q = seq {P = anything} (λ a b u p. p) none_kept q

  -- before such tokens
  pub and_then : {A B : Type 0} {f : F A} {g : F B} {P : Fact A} → Gives text ρ f P → Gives text ρ (f << g) P
  and_then p = seq {Q = anything} (λ a b p u. p) p none_kept

  -- two values
  pub both : {A B : Type 0} {f : F A} {g : F B} {P : Fact A} {Q : Fact B} → Gives text ρ f P → Gives text ρ g Q → Gives text ρ (f & g) (pair P Q)
  both p q = seq (λ a b x y. (x, y)) p q

  -- the value of the first alone is asked for
  pub both_first : {A B : Type 0} {f : F A} {g : F B} {P : Fact A} → Gives text ρ f P → Gives text ρ (f & g) (by (λ (x : A × B). x.0) P)
  both_first p = seq {Q = anything} (λ a b x y. x) p none_kept

  -- a form or nothing
  pub may : {A : Type 0} {f : F A} {P : Fact A} → Gives text ρ f P → Gives text ρ (optional f) (perhaps P)
  may p = alt (map_to (λ a h. h) p) (empty (tt {0}))

  -- any number
  pub many : {A : Type 0} {f : F A} {P : Fact A} → Gives text ρ f P → Gives text ρ (star f) (rows P)
  many {P = P} p = loop P anything (λ as' e r l. r) (map_to (λ a h. h) p)

  -- any number that pass a test
  pub many_good : {A : Type 0} {f : F A} {test : A → Bool} → Gives text ρ f (good test) → Gives text ρ (star f) (each_of test)
  many_good {test = test} p = loop (good test) anything (λ as' e r l. row_each test as' r) (map_to (λ a h. h) p)

  -- a list with separators
  pub listed : {A S : Type 0} {s : F S} {f : F A} {test : A → Bool} → Gives text ρ f (good test) → Gives text ρ (list_read s f) (some_of test)
  listed {test = test} p =
      seq {Q = rows (good test)} (λ a as' h r. (refl, row_each test (a ∷ as') (h, r))) p
      (loop (good test) anything (λ as' e r l. r) (then_ (alt (map_to (λ a h. h) p) (empty (tt {0})))))

-- ---- rules

-- what is known of the value of each rule
abbrev pub fact : List ℕ → (N : Rule) → Fact (value N)
fact text RFile = each_of (well_item text)
fact text RType = good (well_ty text)
fact text RMaybe = by (λ (t : Ty × Bool). t.0) (good (well_ty text))
fact text RPat = good (well_pat text)
fact text RExp = good (well_exp text)
fact text RUnary = good (well_exp text)
fact text RBlock = good (well_block text)
fact text RIf = good (well_if text)
fact text ROpen = anything
fact text RPlace = anything
fact text RPlaced = anything

-- it is known of what these rules derive
pub record Knots (text : List ℕ) (ρ : Derivings lexis rules) : Type 0 where
  pub known : (N : Rule) (w : List Token) (x : value N) → ρ N w x → AllSure text w → (fact text N).holds x

-- of a rule in a form
pub of_rule : (text : List ℕ) (ρ : Derivings lexis rules) → Knots text ρ → (N : Rule) → Gives text ρ (rule N) (fact text N)
of_rule text ρ knots N = record { known = λ w x d s. subst (fact text N).holds d.2 (knots.known N w d.0 d.1 s) }
