-- What forms give of spaced tokens.
use Rattle.std.proofs.Common.{◌≡◌, ℕ, ◌≤◌, ◌<◌, arith, Bool, true, false, List, [], ◌∷◌, ◌++◌, Option, Some, None, inl, inr, subst}
use Rattle.hs_grammar.specs.Form.{Step, More, Last, Pure, Tok, Map, Seq, Split, Alt, Loop, Unless}
use Rattle.hs_grammar.specs.Kinds.{has, starts}
use Rattle.hs_grammar.specs.Derives.{Derivings, Derives, Turns, Where}
use Rattle.hs_grammar.specs.Combinators.{rule, ◌>>◌, ◌<<◌, ◌&◌, optional, star, list_read}
use Rattle.hs_forms.specs.declared.token.Kind.{Kind}
use Rattle.hs_forms.specs.declared.token.Kind.TheVariants as k
use Rattle.hs_forms.specs.declared.token.Token.{Token}
use Rattle.hs_forms.specs.Lexis.{lexis}
use Rattle.hs_forms.specs.Nodes.{span_of}
use Rattle.hs_syntax.specs.declared.ty.Ty.{Ty}
use Rattle.hs_forms.specs.Reading.{Rule, RFile, RType, RMaybe, RPat, RExp, RUnary, RBlock, RIf, ROpen, RPlace, RPlaced, rules, value, F}
use Rattle.hs_limits.specs.Nested.{Nested}
use Rattle.hs_limits.specs.Spans.{SpansAgree}
use Rattle.hs_limits.specs.Nodes.{name, node_of_item, node_of_ty, node_of_pat, node_of_exp, node_of_if, node_of_block}
use Rattle.hs_places.specs.Spaced.{Spaced}
use Rattle.hs_places.proofs.Spaces.{in_order, divide, behind_start, low_end, no_half}
use Rattle.hs_places.proofs.Facts.{Fact, nodes, spans, ends, nothing, anything, by, pair, perhaps, Perhaps, rows, Row, turns}

-- of what the form derives from tokens between two places, this is known
pub record Gives (ρ : Derivings lexis rules) {C : Type 0} (f : F C) (P : Fact C) : Type 0 where
  pub known : (w : List Token) (x : C) (low high : ℕ) → Derives ρ f w x → Spaced low high w → P.holds low high x

-- a token that is no second half of a `>>` lies between the places around it
one_token : {C : Type 0} (ks : List Kind) (h : Token → C) (P : Fact C) → has lexis ks k.ShiftBack ≡ false → ((t : Token) (low high : ℕ) → Nested (name t.span) low high → P.holds low high (h t))
    → (w : List Token) (x : C) (low high : ℕ) (t : Token) → w ≡ t ∷ [] → starts lexis ks w ≡ true → h t ≡ x → Spaced low high w → P.holds low high x
one_token ks h P lacks fact w x low high t e y i s =
    let here : Spaced low high (t ∷ []) = subst (λ (v : List Token). Spaced low high v) e s in
    let found : has lexis ks t.kind ≡ true = subst (λ (v : List Token). starts lexis ks v ≡ true) e y in
    let start : low ≤ t.span.start = behind_start low t (no_half ks t.kind lacks found) here.0 in
    let long : t.span.start < t.span.end = here.1 in
    subst (P.holds low high) i (fact t low high (start, here.1, here.2, omega (arith, long)))

any_token : {C : Type 0} (ks : List Kind) (h : Token → C) (P : Fact C) → ((t : Token) (low high : ℕ) → low ≤ t.span.end → t.span.end ≤ high → P.holds low high (h t))
    → (w : List Token) (x : C) (low high : ℕ) (t : Token) → w ≡ t ∷ [] → h t ≡ x → Spaced low high w → P.holds low high x
any_token ks h P fact w x low high t e i s =
    let here : Spaced low high (t ∷ []) = subst (λ (v : List Token). Spaced low high v) e s in
    subst (P.holds low high) i (fact t low high (low_end low t here.0 here.1) here.2)

module _ {A B C : Type 0} (h : A → B → C) (P : Fact A) (Q : Fact B) (R : Fact C) (join : (low m high : ℕ) (a : A) (b : B) → P.holds low m a → Q.holds m high b → R.holds low high (h a b)) where
  both_parts : (low high : ℕ) (w u v : List Token) (a : A) (b : B) (x : C) → w ≡ u ++ v → ((low high : ℕ) → Spaced low high u → P.holds low high a) → ((low high : ℕ) → Spaced low high v → Q.holds low high b) → h a b ≡ x
      → Spaced low high w → R.holds low high x
  both_parts low high w u v a b x e p q i s =
      let d = divide low high u v (subst (λ (z : List Token). Spaced low high z) e s) in
      subst (R.holds low high) i (join low d.0 high a b (p low d.0 d.1) (q d.0 high d.2))

-- where items are over, whether or not anything stands at the end
may_end : (m high : ℕ) (e : Option (Unit {0})) → Perhaps nothing m high e → m ≤ high
may_end m high None l = l
may_end m high (Some e) l = l

module _ (ρ : Derivings lexis rules) where
  -- ---- tokens

  -- a token of kinds among which the second half of a `>>` is not

  pub token : {C : Type 0} {ks : List Kind} {h : Token → C} {P : Fact C} → has lexis ks k.ShiftBack ≡ false → ((t : Token) (low high : ℕ) → Nested (name t.span) low high → P.holds low high (h t)) → Gives ρ (Tok ks h) P
  token {ks = ks} {h = h} {P = P} lacks fact = record { known = λ w x low high d s. one_token ks h P lacks fact w x low high d.0 d.1 d.2 d.3 s }

  -- a token by its bytes
  pub span : {ks : List Kind} → has lexis ks k.ShiftBack ≡ false → Gives ρ (Tok ks span_of) spans
  span lacks = token lacks (λ t low high n. n)

  -- where an angle closes
  pub closing : {ks : List Kind} → Gives ρ (Tok ks span_of) ends
  closing {ks = ks} = record { known = λ w x low high d s. any_token ks span_of ends (λ t low high l h. (l, h)) w x low high d.0 d.1 d.3 s }

  -- ---- any form

  -- tokens whose value is not kept
  pub none_kept : {C : Type 0} {f : F C} → Gives ρ f nothing
  none_kept = record { known = λ w x low high d s. in_order low high w s }

  -- no token
  pub empty : {C : Type 0} {c : C} {P : Fact C} → ((low high : ℕ) → low ≤ high → P.holds low high c) → Gives ρ (Pure c) P
  empty {c = c} {P = P} fact = record { known = λ w x low high d s. subst (P.holds low high) d.1 (fact low high (in_order low high w s)) }

  -- another value of the same tokens
  pub map_to : {A C : Type 0} {h : A → C} {f : F A} {P : Fact A} {Q : Fact C} → ((low high : ℕ) (a : A) → P.holds low high a → Q.holds low high (h a)) → Gives ρ f P → Gives ρ (Map h f) Q
  map_to {P = P} {Q = Q} to g = record { known = λ w x low high d s. subst (Q.holds low high) d.2 (to low high d.0 (g.known w d.0 low high d.1 s)) }

  -- one behind the other
  pub seq : {A B C : Type 0} {h : A → B → C} {f : F A} {g : F B} {P : Fact A} {Q : Fact B} {R : Fact C} → ((low m high : ℕ) (a : A) (b : B) → P.holds low m a → Q.holds m high b → R.holds low high (h a b)) → Gives ρ f P → Gives ρ g Q → Gives ρ (Seq h f g) R
  seq {h = h} {P = P} {Q = Q} {R = R} join p q = record {
    known = λ w x low high d s. both_parts h P Q R join low high w d.0 d.1 d.2 d.3 x d.4 (λ l r t. p.known d.0 d.2 l r d.5 t) (λ l r t. q.known d.1 d.3 l r d.6 t) d.7 s;
  }

  where_known : {B : Type 0} (c : Bool) (g k : F B) (Q : Fact B) (v : List Token) (b : B) → Gives ρ g Q → Gives ρ k Q → Where c (Derives ρ g v b) (Derives ρ k v b) → (low high : ℕ) → Spaced low high v → Q.holds low high b
  where_known true g k Q v b p q d low high s = p.known v b low high d s
  where_known false g k Q v b p q d low high s = q.known v b low high d s

  -- the same, where the first value decides what stands behind
  pub split : {A B C : Type 0} {c : A → Bool} {h : A → B → C} {f : F A} {g k : F B} {P : Fact A} {Q : Fact B} {R : Fact C} → ((low m high : ℕ) (a : A) (b : B) → P.holds low m a → Q.holds m high b → R.holds low high (h a b))
      → Gives ρ f P → Gives ρ g Q → Gives ρ k Q → Gives ρ (Split c h f g k) R
  split {c = c} {h = h} {g = g} {k = k} {P = P} {Q = Q} {R = R} join p q r = record {
    known = λ w x low high d s. both_parts h P Q R join low high w d.0 d.1 d.2 d.3 x d.4 (λ l r t. p.known d.0 d.2 l r d.5 t) (λ l o t. where_known (c d.2) g k Q d.1 d.3 q r d.6 l o t) d.7 s;
  }

  either : {C : Type 0} (f g : F C) (P : Fact C) → Gives ρ f P → Gives ρ g P → (w : List Token) (x : C) (low high : ℕ) → Derives ρ (Alt f g) w x → Spaced low high w → P.holds low high x
  either f g P p q w x low high (inl d) s = p.known w x low high d s
  either f g P p q w x low high (inr d) s = q.known w x low high d s

  -- the one or the other
  pub alt : {C : Type 0} {f g : F C} {P : Fact C} → Gives ρ f P → Gives ρ g P → Gives ρ (Alt f g) P
  alt {f = f} {g = g} {P = P} p q = record { known = either f g P p q }

  -- under a side sentence
  pub unless : {C : Type 0} {ks : List Kind} {f : F C} {P : Fact C} → Gives ρ f P → Gives ρ (Unless ks f) P
  unless p = record { known = λ w x low high d s. p.known w x low high d.1 s }

  turns_known : {A E : Type 0} (f : F (Step A E)) (P : Fact A) (Q : Fact E) → Gives ρ f (turns P Q) → (as' : List A) (e : Option E) (w : List Token) (low high : ℕ) → Turns (Derives ρ f) as' e w → Spaced low high w
      → (pair (rows P) (perhaps Q)).holds low high (as', e)
  turns_known f P Q g [] None w low high t s = let i = in_order low high w s in (low, omega arith, i)
  turns_known f P Q g [] (Some e) w low high t s = (low, omega arith, g.known w (Last e) low high t s)
  turns_known f P Q g (a ∷ as') e w low high (u, v, i, d, t) s =
      let c = divide low high u v (subst (λ (z : List Token). Spaced low high z) i s) in
      let more = turns_known f P Q g as' e v c.0 high t c.2 in
      (more.0, (c.0, g.known u (More a) low c.0 d c.1, more.1), more.2)

  -- items, and perhaps a last thing
  pub loop : {A E C : Type 0} {h : List A → Option E → C} {f : F (Step A E)} {R : Fact C} (P : Fact A) (Q : Fact E) → ((low m high : ℕ) (as' : List A) (e : Option E) → Row P low m as' → Perhaps Q m high e → R.holds low high (h as' e)) → Gives ρ f (turns P Q) → Gives ρ (Loop h f) R
  loop {f = f} {R = R} P Q join g = record {
    known = λ w x low high d s.
        let t = turns_known f P Q g d.0 d.1 w low high d.2 s in
        subst (R.holds low high) d.3 (join low t.0 high d.0 d.1 t.1 t.2);
  }

  -- ---- words of grammars

  -- behind tokens whose value is not kept
  pub then_ : {A B : Type 0} {f : F A} {g : F B} {Q : Fact B} → Gives ρ g Q → Gives ρ (f >> g) Q
  then_ {Q = Q} q = seq {P = nothing} (λ low m high a b l p. Q.wider m high low high b l (omega arith) p) none_kept q

  -- before tokens whose value is not kept
  pub and_then : {A B : Type 0} {f : F A} {g : F B} {P : Fact A} → Gives ρ f P → Gives ρ (f << g) P
  and_then {P = P} p = seq {Q = nothing} (λ low m high a b p l. P.wider low m low high a (omega arith) l p) p none_kept

  -- two values
  pub both : {A B : Type 0} {f : F A} {g : F B} {P : Fact A} {Q : Fact B} → Gives ρ f P → Gives ρ g Q → Gives ρ (f & g) (pair P Q)
  both p q = seq (λ low m high a b x y. (m, x, y)) p q

  -- a form or nothing
  pub may : {A : Type 0} {f : F A} {P : Fact A} → Gives ρ f P → Gives ρ (optional f) (perhaps P)
  may p = alt (map_to (λ low high a h. h) p) (empty (λ low high l. l))

  -- any number
  pub many : {A : Type 0} {f : F A} {P : Fact A} → Gives ρ f P → Gives ρ (star f) (rows P)
  many {P = P} p =
      loop P nothing (λ low m high as' e r l. (rows P).wider low m low high as' (omega arith) (may_end m high e l) r) (map_to (λ low high a h. h) p)

  -- a list with separators
  pub listed : {A S : Type 0} {s : F S} {f : F A} {P : Fact A} → Gives ρ f P → Gives ρ (list_read s f) (rows P)
  listed {P = P} p =
      seq {Q = rows P} (λ low m high a as' h r. (m, h, r)) p
      (loop P nothing (λ low m high as' e r l. (rows P).wider low m low high as' (omega arith) (may_end m high e l) r)
      (then_ (alt (map_to (λ low high a h. h) p) (empty (λ low high l. l)))))

-- ---- rules

-- what is known of the value of each rule
abbrev pub fact : (N : Rule) → Fact (value N)
fact RFile = rows (nodes node_of_item)
fact RType = nodes node_of_ty
fact RMaybe = by (λ (t : Ty × Bool). t.0) (nodes node_of_ty)
fact RPat = nodes node_of_pat
fact RExp = nodes node_of_exp
fact RUnary = nodes node_of_exp
fact RBlock = nodes node_of_block
fact RIf = nodes node_of_if
fact ROpen = anything
fact RPlace = anything
fact RPlaced = anything

-- it is known of what these rules derive, and that nodes have the bytes of what they stand for
pub record Knots (ρ : Derivings lexis rules) : Type 0 where
  pub known : (N : Rule) (w : List Token) (x : value N) (low high : ℕ) → ρ N w x → Spaced low high w → (fact N).holds low high x
  pub agree : SpansAgree

-- of a rule in a form
pub of_rule : (ρ : Derivings lexis rules) → Knots ρ → (N : Rule) → Gives ρ (rule N) (fact N)
of_rule ρ knots N = record { known = λ w x low high d s. subst ((fact N).holds low high) d.2 (knots.known N w d.0 low high d.1 s) }
