-- What is seen of parts against the sets and conditions of sources: how both go from parts to what is made of them.
use mathlib.Core.Path.{fun_ext}
use Rattle.std.proofs.Common.{◌≡◌, ◌↔◌, ◌⊎◌, inl, inr, ℕ, Bool, true, false, not, ◌&&◌, ◌||◌, cond, List, [], ◌∷◌, ◌++◌, Some, None, refl, sym, ap, subst, ◌∙◌, arith}
use Rattle.std.specs.Prelude.{IsTrue}
use Rattle.std.specs.Bool.{⊤}
use Rattle.std.specs.List.{filter}
use Rattle.hs_base.specs.declared.rule.Rule.{Rule}
use Rattle.hs_tree.specs.Store.{among}
use Rattle.hs_tree.specs.Moves.{Holding, also, less, every, joined, Kept}
use Rattle.hs_tree.specs.declared.node.Span.{Span}
use Rattle.hs_linear.specs.Rules.{of_read, of_lent, of_operation, of_place}
use Rattle.hs_linear.specs.Seen.{Seen, Part, idle, nowhere, gives, breaks, asked, read, followed, ◌&◌, after_either, either, lost, not_given_back, turns}
use Rattle.hs_linear.specs.declared.told.Breach.{Breach}
use Rattle.hs_linear.specs.declared.told.Take.{Take}

-- a list is empty where both of its parts are
pub both_empty : {A : Type 0} (xs ys : List A) → (xs ++ ys ≡ []) ↔ ((xs ≡ []) × (ys ≡ []))
both_empty [] ys = (λ e. (refl, e), λ h. h.1)
both_empty (x ∷ xs) ys = (λ e. absurd (cc), λ h. absurd (cc))

pub both_true : (a b : Bool) → IsTrue (a && b) ↔ (IsTrue a × IsTrue b)
both_true true b = (λ h. (refl, h), λ h. h.1)
both_true false b = (λ h. absurd (cc), λ h. absurd (cc))

-- a read of the local is among these
abbrev pub Takes : ℕ → List Take → Type 0
Takes k [] = ⊥
Takes k (t ∷ ts) = (k ≡ t.local) ⊎ Takes k ts

takes_first : (k : ℕ) (ts us : List Take) → Takes k ts → Takes k (ts ++ us)
takes_first k [] us h = absurd h
takes_first k (t ∷ ts) us (inl e) = inl e
takes_first k (t ∷ ts) us (inr h) = inr (takes_first k ts us h)

takes_second : (k : ℕ) (ts us : List Take) → Takes k us → Takes k (ts ++ us)
takes_second k [] us h = h
takes_second k (t ∷ ts) us h = inr (takes_second k ts us h)

-- each local that holds a value in the first set and none in the second is read so
abbrev pub Loses : Holding → Holding → List Take → Type 0
Loses d e ts = (k : ℕ) → d k ≡ true → e k ≡ false → Takes k ts

pub loses_nothing : (d : Holding) (ts : List Take) → Loses d d ts
loses_nothing d ts k h i = absurd (cc)

pub loses_both : (d e f : Holding) (ts us : List Take) → Loses d e ts → Loses e f us → Loses d f (ts ++ us)
loses_both d e f ts us h i k a b = go (e k) refl
  where
    go : (x : Bool) → e k ≡ x → Takes k (ts ++ us)
    go true c = takes_second k ts us (i k c b)
    go false c = takes_first k ts us (h k a c)

pub loses_joined : (d e f : Holding) (ts us : List Take) → Loses d e ts → Loses d f us → Loses d (joined e f) (ts ++ us)
loses_joined d e f ts us h i k a b = go (e k) refl
  where
    go : (x : Bool) → e k ≡ x → Takes k (ts ++ us)
    go true c = takes_second k ts us (i k a (sym (ap (λ y. y && f k) c) ∙ b))
    go false c = takes_first k ts us (h k a c)

-- a part that goes on with a set is broken nowhere exactly where a condition holds
pub record Ok (s : Seen) (d e : Holding) (M : Type 0) : Type 0 where
  pub after : s.after ≡ Some e
  pub clear : (s.broken ≡ []) ↔ M
  pub loses : Loses d e s.taken

-- the same of one that may always exit; then each local is in the set behind it
pub record Ends (s : Seen) (d : Holding) (exits : Bool) (e : Holding) (M : Type 0) : Type 0 where
  pub after : s.after ≡ cond exits None (Some e)
  pub whole : exits ≡ true → (k : ℕ) → e k ≡ true
  pub clear : (s.broken ≡ []) ↔ M
  pub loses : Loses d e s.taken

pub ends_ok : (s : Seen) (d e : Holding) (M : Type 0) → Ends s d false e M → Ok s d e M
ends_ok s d e M h = record { after = h.after; clear = h.clear; loses = h.loses }

pub ok_ends : (s : Seen) (d e : Holding) (M : Type 0) → Ok s d e M → Ends s d false e M
ok_ends s d e M h = record { after = h.after; whole = λ i. absurd (cc); clear = h.clear; loses = h.loses }

-- another condition that says the same
pub ok_as : (s : Seen) (d e : Holding) (M N : Type 0) → Ok s d e M → (M ↔ N) → Ok s d e N
ok_as s d e M N h i = record { after = h.after; clear = (λ e. i.0 (h.clear.0 e), λ n. h.clear.1 (i.1 n)); loses = h.loses }

pub ends_as : (s : Seen) (d : Holding) (x : Bool) (e : Holding) (M N : Type 0) → Ends s d x e M → (M ↔ N) → Ends s d x e N
ends_as s d x e M N h i =
    record { after = h.after; whole = h.whole; clear = (λ e. i.0 (h.clear.0 e), λ n. h.clear.1 (i.1 n)); loses = h.loses }

pub ok_idle : (d : Holding) → Ok (idle d) d d ⊤
ok_idle d = record { after = refl; clear = (λ e. tt, λ h. refl); loses = loses_nothing d [] }

also_keeps : (ks : List ℕ) (d : Holding) (k : ℕ) → d k ≡ true → also ks d k ≡ true
also_keeps ks d k h = go (among k ks)
  where
    go : (a : Bool) → (a || d k) ≡ true
    go true = refl
    go false = h

pub ok_gives : (ks : List ℕ) (d : Holding) → Ok (gives ks d) d (also ks d) ⊤
ok_gives ks d =
    record { after = refl; clear = (λ e. tt, λ h. refl); loses = λ k h i. absurd (also_keeps_not k h i) }
  where
    also_keeps_not : (k : ℕ) → d k ≡ true → also ks d k ≡ false → ⊥
    also_keeps_not k h i = let e : true ≡ false = sym (also_keeps ks d k h) ∙ i in absurd (cc)

-- a node that is asked for rules, which are none exactly where a condition holds
pub ok_asked : (at : Span) (rules : Holding → List Rule) (d : Holding) (M : Type 0) → ((breaks at (rules d) ≡ []) ↔ M) → Ok (asked at rules d) d d M
ok_asked at rules d M h = record { after = refl; clear = h; loses = loses_nothing d [] }

-- ---- one part after the other

seq_clear : (xs ys : List Breach) (M N : Type 0) → ((xs ≡ []) ↔ M) → ((ys ≡ []) ↔ N) → (xs ++ ys ≡ []) ↔ (M × N)
seq_clear xs ys M N h i = (
  λ e. (h.0 ((both_empty xs ys).0 e).0, i.0 ((both_empty xs ys).0 e).1),
  λ m. (both_empty xs ys).1 (h.1 m.0, i.1 m.1),
)

pub ok_then : (p q : Part) (d e f : Holding) (M N : Type 0) → Ok (p d) d e M → Ok (q e) e f N → Ok ((p & q) d) d f (M × N)
ok_then p q d e f M N h i =
    subst (λ a. Ok (followed (p d) a q) d f (M × N)) (sym h.after) (record {
      after = i.after;
      clear = seq_clear (p d).broken (q e).broken M N h.clear i.clear;
      loses = loses_both d e f (p d).taken (q e).taken h.loses i.loses;
    })

pub ends_then : (p q : Part) (d e : Holding) (x : Bool) (f : Holding) (M N : Type 0) → Ok (p d) d e M → Ends (q e) e x f N → Ends ((p & q) d) d x f (M × N)
ends_then p q d e x f M N h i =
    subst (λ a. Ends (followed (p d) a q) d x f (M × N)) (sym h.after) (record {
      after = i.after;
      whole = i.whole;
      clear = seq_clear (p d).broken (q e).broken M N h.clear i.clear;
      loses = loses_both d e f (p d).taken (q e).taken h.loses i.loses;
    })

-- what always exits
pub ends_nowhere : (d : Holding) → Ends (nowhere d) d true every ⊤
ends_nowhere d =
    record { after = refl; whole = λ h k. refl; clear = (λ e. tt, λ h. refl); loses = λ k h i. absurd (cc) }

-- ---- one part or the other

joined_left : (d e : Holding) → ((k : ℕ) → e k ≡ true) → joined d e ≡ d
joined_left d e h = fun_ext (λ k. go (d k) (e k) (h k))
  where
    go : (a b : Bool) → b ≡ true → (a && b) ≡ a
    go true b i = i
    go false b i = refl

joined_right : (d e : Holding) → ((k : ℕ) → d k ≡ true) → joined d e ≡ e
joined_right d e h = fun_ext (λ k. ap (λ b. b && e k) (h k))

joined_whole : (d e : Holding) → ((k : ℕ) → d k ≡ true) → ((k : ℕ) → e k ≡ true) → (k : ℕ) → joined d e k ≡ true
joined_whole d e h i k = ap (λ b. b && e k) (h k) ∙ i k

either_after : (x y : Bool) (a b : Holding) → (x ≡ true → (k : ℕ) → a k ≡ true) → (y ≡ true → (k : ℕ) → b k ≡ true) → after_either (cond x None (Some a)) (cond y None (Some b)) ≡ cond (x && y) None (Some (joined a b))
either_after true true a b h i = refl
either_after true false a b h i = ap Some (sym (joined_right a b (h refl)))
either_after false true a b h i = ap Some (sym (joined_left a b (i refl)))
either_after false false a b h i = refl

either_whole : (x y : Bool) (a b : Holding) → (x ≡ true → (k : ℕ) → a k ≡ true) → (y ≡ true → (k : ℕ) → b k ≡ true) → (x && y) ≡ true → (k : ℕ) → joined a b k ≡ true
either_whole true true a b h i e = joined_whole a b (h refl) (i refl)
either_whole true false a b h i e = absurd (cc)
either_whole false y a b h i e = absurd (cc)

pub ends_either : (p q : Part) (d : Holding) (x y : Bool) (a b : Holding) (M N : Type 0) → Ends (p d) d x a M → Ends (q d) d y b N → Ends (either p q d) d (x && y) (joined a b) (M × N)
ends_either p q d x y a b M N h i =
    record {
      after = ap (λ z. after_either z (q d).after) h.after ∙ ap (after_either (cond x None (Some a))) i.after ∙ either_after x y a b h.whole i.whole;
      whole = either_whole x y a b h.whole i.whole;
      clear = seq_clear (p d).broken (q d).broken M N h.clear i.clear;
      loses = loses_joined d a b (p d).taken (q d).taken h.loses i.loses;
    }

-- ---- loops

-- what is told of the reads that are lost
abbrev told_lost : Holding → Holding → List Take → List Breach
told_lost began ended ts = not_given_back (filter (λ t. began t.local && not (ended t.local)) ts)

kept_nothing : (began ended : Holding) (ts : List Take) → Kept began ended → told_lost began ended ts ≡ []
kept_nothing began ended [] h = refl
kept_nothing began ended (t ∷ ts) h = go (began t.local) refl (kept_nothing began ended ts h)
  where
    go : (b : Bool) → began t.local ≡ b → told_lost began ended ts ≡ []
        → not_given_back (cond (b && not (ended t.local)) (t ∷ filter (λ t. began t.local && not (ended t.local)) ts) (filter (λ t. began t.local && not (ended t.local)) ts)) ≡ []
    go true e i =
        ap (λ c. not_given_back (cond (not c) (t ∷ filter (λ t. began t.local && not (ended t.local)) ts) (filter (λ t. began t.local && not (ended t.local)) ts))) (h t.local e) ∙ i
    go false e i = i

nothing_of : (began ended : Holding) (ts : List Take) (k : ℕ) → Takes k ts → began k ≡ true → ended k ≡ false → told_lost began ended ts ≡ [] → ⊥
nothing_of began ended [] k h a b e = h
nothing_of began ended (t ∷ ts) k (inl i) a b e =
    let began_t : began t.local ≡ true = ap began (sym i) ∙ a in
    let ended_t : ended t.local ≡ false = ap ended (sym i) ∙ b in
    let test : (began t.local && not (ended t.local)) ≡ true = ap (λ x. x && not (ended t.local)) began_t ∙ ap not ended_t in
    let more : not_given_back (t ∷ filter (λ t. began t.local && not (ended t.local)) ts) ≡ [] =
    sym (ap (λ c. not_given_back (cond c (t ∷ filter (λ t. began t.local && not (ended t.local)) ts) (filter (λ t. began t.local && not (ended t.local)) ts))) test) ∙ e in
    absurd (cc)
nothing_of began ended (t ∷ ts) k (inr i) a b e = go (began t.local && not (ended t.local)) (nothing_of began ended ts k i a b) e
  where
    go : (c : Bool) → (told_lost began ended ts ≡ [] → ⊥)
        → not_given_back (cond c (t ∷ filter (λ t. began t.local && not (ended t.local)) ts) (filter (λ t. began t.local && not (ended t.local)) ts)) ≡ [] → ⊥
    go true f e' = absurd (cc)
    go false f e' = f e'

nothing_kept : (began ended : Holding) (ts : List Take) → Loses began ended ts → told_lost began ended ts ≡ [] → Kept began ended
nothing_kept began ended ts h e k a = go (ended k) refl
  where
    go : (b : Bool) → ended k ≡ b → b ≡ true
    go true i = refl
    go false i = absurd (nothing_of began ended ts k (h k a i) a i e)

lost_clear : (d ended : Holding) (x : Bool) (ts : List Take) → (x ≡ true → (k : ℕ) → ended k ≡ true) → Loses d ended ts → (not_given_back (lost d (cond x None (Some ended)) ts) ≡ []) ↔ Kept d ended
lost_clear d ended true ts w h = (λ e k i. w refl k, λ k. refl)
lost_clear d ended false ts w h = (nothing_kept d ended ts h, kept_nothing d ended ts)

loses_from : (i : ℕ) (d ended : Holding) (ts : List Take) → Loses (also (i ∷ []) d) ended ts → Loses d ended ts
loses_from i d ended ts h k a b = h k (also_keeps (i ∷ []) d k a) b

pub ok_turns : (i : ℕ) (body : Part) (d : Holding) (x : Bool) (ended : Holding) (M : Type 0) → Ends (body (also (i ∷ []) d)) (also (i ∷ []) d) x ended M → Ok (turns i body d) d d (M × Kept d ended)
ok_turns i body d x ended M h =
    let s = body (also (i ∷ []) d) in
    record {
      after = refl;
      clear =
          seq_clear s.broken (not_given_back (lost d s.after s.taken)) M (Kept d ended) h.clear
          (subst (λ a. (not_given_back (lost d a s.taken) ≡ []) ↔ Kept d ended) (sym h.after) (lost_clear d ended x s.taken h.whole (loses_from i d ended s.taken h.loses)));
      loses = loses_nothing d s.taken;
    }

-- ---- single nodes

pub read_clear : (at : Span) (h t r : Bool) → (breaks at (of_read h (t && r)) ≡ []) ↔ (IsTrue h × (t ≡ true → r ≡ false))
read_clear at true true true = (λ e. absurd (cc), λ h. absurd (not_both (h.1 refl)))
  where
    not_both : true ≡ false → ⊥
    not_both e = absurd (cc)
read_clear at true true false = (λ e. (refl, λ i. refl), λ h. refl)
read_clear at true false r = (λ e. (refl, λ i. absurd (cc)), λ h. refl)
read_clear at false true true = (λ e. absurd (cc), λ h. absurd (cc))
read_clear at false true false = (λ e. absurd (cc), λ h. absurd (cc))
read_clear at false false r = (λ e. absurd (cc), λ h. absurd (cc))

less_keeps : (k j : ℕ) (d : Holding) → d j ≡ true → less k d j ≡ false → j ≡ k
less_keeps k j d h i = grind arith

pub ok_read : (t r : Bool) (k : ℕ) (at : Span) (d : Holding) → Ok (read t (t && r) k at d) d (cond t (less k d) d) (IsTrue (d k) × (t ≡ true → r ≡ false))
ok_read t r k at d = record { after = refl; clear = read_clear at (d k) t r; loses = go t }
  where
    held : (b : Bool) → d k ≡ b → Loses d (less k d) (cond b (record { local = k; span = at } ∷ []) [])
    held true e = λ j h i. inl (less_keeps k j d h i)
    held false e = λ j h i.
        let same : j ≡ k = less_keeps k j d h i in
        let none : true ≡ false = sym h ∙ ap d same ∙ e in
        absurd (cc)

    go : (u : Bool) → Loses d (cond u (less k d) d) (cond (u && d k) (record { local = k; span = at } ∷ []) [])
    go true = held (d k) refl
    go false = loses_nothing d []

pub lent_clear : (at : Span) (h : Bool) → (breaks at (of_lent h) ≡ []) ↔ IsTrue h
lent_clear at true = (λ e. refl, λ h. refl)
lent_clear at false = (λ e. absurd (cc), λ h. absurd (cc))

pub operation_clear : (at : Span) (part lent copied : Bool) → (breaks at (of_operation part lent copied) ≡ []) ↔ IsTrue (not part || lent || copied)
operation_clear at false lent copied = (λ e. refl, λ h. refl)
operation_clear at true true copied = (λ e. refl, λ h. refl)
operation_clear at true false true = (λ e. refl, λ h. refl)
operation_clear at true false false = (λ e. absurd (cc), λ h. absurd (cc))

pub place_clear : (at : Span) (whole holds : Bool) → (breaks at (of_place whole holds) ≡ []) ↔ (whole ≡ false → IsTrue holds)
place_clear at true holds = (λ e i. absurd (cc), λ h. refl)
place_clear at false true = (λ e i. refl, λ h. refl)
place_clear at false false = (λ e. absurd (cc), λ h. absurd (no (h refl)))
  where
    no : false ≡ true → ⊥
    no e = absurd (cc)
