-- Moments of a walk, one behind the other.
use mathlib.Core.Path.{fun_ext}
use Rattle.std.proofs.Common.{◌≡◌, ◌≢◌, ℕ, ◌≤◌, Bool, true, false, ◌&&◌, List, [], ◌∷◌, ◌++◌, map, length, drop, append_assoc, Option, Some, None, Result, Ok, Err, refl, sym, ap, ap₂, subst, ◌∙◌, arith, length-append}
use Rattle.std.specs.Prelude.{OnOk}
use Rattle.hs_tree.specs.Moves.{Holding, also}
use Rattle.hs_linear.specs.Seen.{Part, idle, nowhere, gives, followed, ◌&◌, after_either, either, lost, not_given_back, turns}
use Rattle.hs_linear.specs.Told.{told_of, earlier}
use Rattle.hs_linear.specs.Sets.{set_of, changes_of, changed, LedFrom, IsAt, GoesOn, after_branches, won_of, joined_won, lost_with, won_with, lost_by, won_by, ended_at, ended_with}
use Rattle.hs_linear.specs.Moments.{Led, Passed, Exited, Walks}
use Rattle.hs_linear.specs.declared.told.Breach.{Breach}
use Rattle.hs_linear.specs.declared.held.Held.{Held}
use Rattle.hs_linear.specs.declared.state.State.{State}
use Rattle.hs_linear.specs.declared.joined.Joined.{Joined}
use Rattle.hs_linear.specs.declared.joined.Left.{Left}
use Rattle.hs_linear.specs.declared.joined.Left.TheVariants as left
use Rattle.hs_linear.proofs.Sets.{changed_append, also_more, joins}

pub told_append : (o : Option Breach) (bs cs : List Breach) → told_of o (bs ++ cs) ≡ told_of (told_of o bs) cs
told_append o [] cs = refl
told_append o (b ∷ bs) cs = told_append (earlier o b) bs cs

pub append_nothing : {A : Type 0} (xs : List A) → xs ++ [] ≡ xs
append_nothing [] = refl
append_nothing (x ∷ xs) = ap (λ ys. x ∷ ys) (append_nothing xs)

drop_front : {A : Type 0} (xs ys : List A) → drop (length xs) (xs ++ ys) ≡ ys
drop_front [] ys = refl
drop_front (x ∷ xs) ys = drop_front xs ys

-- ---- changes

pub led_nowhere : (h : Held) → LedFrom (set_of h) (changes_of h) h
led_nowhere h = ([], sym (append_nothing (changes_of h)), refl)

pub led_on : (d : Holding) (before : List ℕ) (h k : Held) → LedFrom d before h → LedFrom (set_of h) (changes_of h) k → LedFrom d before k
led_on d before h k (s, c, e) (t, f, g) = (
  s ++ t,
  f ∙ ap (λ x. x ++ t) c ∙ append_assoc before s t,
  g ∙ ap (changed t) e ∙ sym (changed_append s t d),
)

led_from : (d : Holding) (before : List ℕ) (h k : Held) → IsAt d before h → LedFrom (set_of h) (changes_of h) k → LedFrom d before k
led_from d before h k (e, c) l = subst (λ x. LedFrom x before k) e (subst (λ x. LedFrom (set_of h) x k) c l)

at_led : (d : Holding) (before : List ℕ) (h : Held) → IsAt d before h → LedFrom d before h
at_led d before h (e, c) = ([], c ∙ sym (append_nothing before), e)

room : (d : Holding) (before : List ℕ) (h : Held) → LedFrom d before h → length before ≤ length (changes_of h)
room d before h (s, c, e) = subst (λ x. length before ≤ length x) (sym c) (grind (arith, length-append))

-- ---- a front of a part

-- of a part that began at a moment this is left at another one
pub record Front (p q : Part) (old now : State) : Type 0 where
  pub after : (p (set_of old.held)).after ≡ (q (set_of now.held)).after
  pub told : told_of old.told (p (set_of old.held)).broken ≡ told_of now.told (q (set_of now.held)).broken
  pub taken : old.taken.items ++ (p (set_of old.held)).taken ≡ now.taken.items ++ (q (set_of now.held)).taken
  pub led : Led old now

pub whole : (p : Part) (s : State) → Front p p s s
whole p s = record { after = refl; told = refl; taken = refl; led = led_nowhere s.held }

-- what is left is seen so too
pub left_as : (p q r : Part) (old now : State) → q (set_of now.held) ≡ r (set_of now.held) → Front p q old now → Front p r old now
left_as p q r old now e f =
    record {
      after = f.after ∙ ap (λ s. s.after) e;
      told = f.told ∙ ap (λ s. told_of now.told s.broken) e;
      taken = f.taken ∙ ap (λ s. now.taken.items ++ s.taken) e;
      led = f.led;
    }

-- its first part is walked
pub goes : (w p q : Part) (old now next : State) → Front w (p & q) old now → Passed p now next → Front w q old next
goes w p q old now next f (e, (n, t), l) =
    let s = p (set_of now.held) in
    let same : (p & q) (set_of now.held) ≡ followed s (Some (set_of next.held)) q = ap (λ a. followed s a q) e in
    record {
      after = f.after ∙ ap (λ x. x.after) same;
      told =
          f.told ∙ ap (λ x. told_of now.told x.broken) same ∙ told_append now.told s.broken (q (set_of next.held)).broken
          ∙ ap (λ x. told_of x (q (set_of next.held)).broken) (sym n);
      taken =
          f.taken ∙ ap (λ x. now.taken.items ++ x.taken) same ∙ sym (append_assoc now.taken.items s.taken (q (set_of next.held)).taken)
          ∙ ap (λ x. x ++ (q (set_of next.held)).taken) (sym t);
      led = led_on (set_of old.held) (changes_of old.held) now.held next.held f.led l;
    }

-- and it always exits
pub exits : (w p q : Part) (old now next : State) → Front w (p & q) old now → Exited p now next → Exited w old next
exits w p q old now next f (e, (n, t), l) =
    let s = p (set_of now.held) in
    let same : (p & q) (set_of now.held) ≡ s = ap (λ a. followed s a q) e in (
      f.after ∙ ap (λ x. x.after) same ∙ e,
      (
        n ∙ sym (f.told ∙ ap (λ x. told_of now.told x.broken) same),
        t ∙ sym (f.taken ∙ ap (λ x. now.taken.items ++ x.taken) same),
      ),
      led_on (set_of old.held) (changes_of old.held) now.held next.held f.led l,
    )

pub stops : (A B : Type 0) (w p q : Part) (old now next : State) (x : Left) → Front w (p & q) old now → Walks {A = A} p now next (Err x) → Walks {A = B} w old next (Err x)
stops A B w p q old now next left.Exits f h = exits w p q old now next f h
stops A B w p q old now next left.NoMemory f h = tt {0}

-- all that is left is walked
pub ends : (A : Type 0) (w p : Part) (old now next : State) (r : Result A Left) → Front w p old now → Walks {A = A} p now next r → Walks {A = A} w old next r
ends A w p old now next (Ok a) f (e, (n, t), l) = (
  f.after ∙ e,
  (n ∙ sym f.told, t ∙ sym f.taken),
  led_on (set_of old.held) (changes_of old.held) now.held next.held f.led l,
)
ends A w p old now next (Err left.Exits) f (e, (n, t), l) = (
  f.after ∙ e,
  (n ∙ sym f.told, t ∙ sym f.taken),
  led_on (set_of old.held) (changes_of old.held) now.held next.held f.led l,
)
ends A w p old now next (Err left.NoMemory) f h = tt {0}

-- nothing is left
pub done : (w : Part) (old now : State) → Front w idle old now → Passed w old now
done w old now f = (
  f.after,
  (sym f.told, sym (f.taken ∙ append_nothing now.taken.items)),
  f.led,
)

-- what is left is reached nowhere
pub gone : (w : Part) (old now : State) → Front w nowhere old now → Exited w old now
gone w old now f = (
  f.after,
  (sym f.told, sym (f.taken ∙ append_nothing now.taken.items)),
  f.led,
)

-- the same, of what is seen as this
pub as_seen : (A : Type 0) (v w : Part) (old new : State) (r : Result A Left) → v ≡ w → Walks {A = A} w old new r → Walks {A = A} v old new r
as_seen A v w old new r e h = subst (λ (p : Part). Walks {A = A} p old new r) (sym e) h

-- its first part ends the walk
pub stopped : (A B : Type 0) (v w p q : Part) (old now next : State) (x : Left) (r : Result B Left) → r ≡ Err x → v ≡ w → Front w (p & q) old now → Walks {A = A} p now next (Err x) → Walks {A = B} v old next r
stopped A B v w p q old now next x r is e f h =
    as_seen B v w old next r e (subst (λ (y : Result B Left). Walks {A = B} w old next y) (sym is) (stops A B w p q old now next x f h))

-- the last part is walked
pub ended : (A : Type 0) (v w p : Part) (old now next : State) (r : Result A Left) → v ≡ w → Front w p old now → Walks {A = A} p now next r → Walks {A = A} v old next r
ended A v w p old now next r e f h = as_seen A v w old next r e (ends A w p old now next r f h)

-- the first of two parts is walked
pub begun : (p q : Part) (old now : State) → Passed p old now → Front (p & q) q old now
begun p q old now h = goes (p & q) p q old old now (whole (p & q) old) h

pub idle_walked : (s : State) → Passed idle s s
idle_walked s = done idle s s (whole idle s)

-- a loop's body does not take back reads
pub reads_room : (m : ℕ) (p q : Part) (s0 s1 s2 : State) → m ≡ length s0.taken.items → Passed p s0 s1 → Passed q s1 s2 → m ≤ length s2.taken.items
reads_room m p q s0 s1 s2 e (a, (n, t), l) (b, (o, u), k) =
    let first : length s1.taken.items ≡ length (s0.taken.items ++ (p (set_of s0.held)).taken) = ap length t in
    let second : length s2.taken.items ≡ length (s1.taken.items ++ (q (set_of s1.held)).taken) = ap length u in
    omega (arith, e, first, second, length-append s0.taken.items (p (set_of s0.held)).taken, length-append s1.taken.items (q (set_of s1.held)).taken)

-- ---- locals that get values

gives_more : (ks js : List ℕ) (d : Holding) → gives (ks ++ js) d ≡ (gives ks & gives js) d
gives_more ks js d = ap (λ e. record { after = Some e; broken = []; taken = [] }) (sym (also_more ks js d))

pub gives_on : (w : Part) (ks js : List ℕ) (old now next : State) → Front w (gives (ks ++ js)) old now → Passed (gives ks) now next → Front w (gives js) old next
gives_on w ks js old now next f h = goes w (gives ks) (gives js) old now next (left_as w (gives (ks ++ js)) (gives ks & gives js) old now (gives_more ks js (set_of now.held)) f) h

pub gives_done : (w : Part) (old now : State) → Front w (gives []) old now → Passed w old now
gives_done w old now f = done w old now (left_as w (gives []) idle old now refl f)

-- ---- branches

-- of a node with branches, which began at a moment, these are joined, and this is left at another one
pub record Branches (p q : Part) (j : Joined) (old now : State) : Type 0 where
  pub after : (p (set_of old.held)).after ≡ after_either (after_branches j (set_of old.held)) (q (set_of old.held)).after
  pub told : told_of old.told (p (set_of old.held)).broken ≡ told_of now.told (q (set_of old.held)).broken
  pub taken : old.taken.items ++ (p (set_of old.held)).taken ≡ now.taken.items ++ (q (set_of old.held)).taken
  pub back : IsAt (set_of old.held) (changes_of old.held) now.held

pub no_branch : (p : Part) (j : Joined) (s : State) → ((d : Holding) → after_branches j d ≡ None) → Branches p p j s s
no_branch p j s e =
    record {
      after = ap (λ a. after_either a (p (set_of s.held)).after) (sym (e (set_of s.held)));
      told = refl;
      taken = refl;
      back = (refl, refl);
    }

pub idle_branch : (q : Part) (j : Joined) (s : State) → ((d : Holding) → after_branches j d ≡ Some d) → Branches (either idle q) q j s s
idle_branch q j s e =
    record {
      after = ap (λ a. after_either a (q (set_of s.held)).after) (sym (e (set_of s.held)));
      told = refl;
      taken = refl;
      back = (refl, refl);
    }

either_nothing : (a : Option Holding) → after_either a None ≡ a
either_nothing None = refl
either_nothing (Some d) = refl

either_three : (a b c : Option Holding) → after_either a (after_either b c) ≡ after_either (after_either a b) c
either_three None b c = refl
either_three (Some d) None c = refl
either_three (Some d) (Some e) None = refl
either_three (Some d) (Some e) (Some f) = ap Some (fun_ext (λ j. go (d j) (e j) (f j)))
  where
    go : (x y z : Bool) → (x && (y && z)) ≡ ((x && y) && z)
    go true y z = refl
    go false y z = refl

-- a branch that was walked from a set
record Walked (p : Part) (d : Holding) (before : List ℕ) (now next : State) (r : Result (Unit {0}) Left) : Type 0 where
  after : (p d).after ≡ ended_with (set_of next.held) r
  told : next.told ≡ told_of now.told (p d).broken
  taken : next.taken.items ≡ now.taken.items ++ (p d).taken
  led : LedFrom d before next.held

walked : (p : Part) (d : Holding) (before : List ℕ) (now next : State) (r : Result (Unit {0}) Left) → r ≢ Err left.NoMemory → IsAt d before now.held
    → Walks {A = Unit {0}} p now next r → Walked p d before now next r
walked p d before now next (Ok u) n (e, c) (a, (t, k), l) =
    record {
      after = ap (λ x. (p x).after) (sym e) ∙ a;
      told = t ∙ ap (λ x. told_of now.told (p x).broken) e;
      taken = k ∙ ap (λ x. now.taken.items ++ (p x).taken) e;
      led = led_from d before now.held next.held (e, c) l;
    }
walked p d before now next (Err left.Exits) n (e, c) (a, (t, k), l) =
    record {
      after = ap (λ x. (p x).after) (sym e) ∙ a;
      told = t ∙ ap (λ x. told_of now.told (p x).broken) e;
      taken = k ∙ ap (λ x. now.taken.items ++ (p x).taken) e;
      led = led_from d before now.held next.held (e, c) l;
    }
walked p d before now next (Err left.NoMemory) n b h = absurd (n refl)

-- what is known where a branch ended
abbrev pub Ended : Holding → List ℕ → Joined → Joined → State → State → Result (Unit {0}) Left → Type 0
Ended d before j k next back r =
    (LedFrom d before next.held → IsAt d before back.held)
    × (LedFrom d before next.held → after_branches k d ≡ after_either (after_branches j d) (ended_with (set_of next.held) r))
    × (back.taken.items ≡ next.taken.items) × (back.told ≡ next.told) × (r ≢ Err left.NoMemory)

-- a branch is walked, and ended
pub branch : (w p q : Part) (j k : Joined) (old now next back : State) (r : Result (Unit {0}) Left) → Branches w (either p q) j old now → Walks {A = Unit {0}} p now next r
    → Ended (set_of old.held) (changes_of old.held) j k next back r → Branches w q k old back
branch w p q j k old now next back r b h (i, jn, tk, td, n) =
    let d = set_of old.held in
    let g : Walked p d (changes_of old.held) now next r = walked p d (changes_of old.held) now next r n b.back h in
    record {
      after =
          b.after ∙ either_three (after_branches j d) (p d).after (q d).after
          ∙ ap (λ x. after_either x (q d).after) (ap (after_either (after_branches j d)) g.after ∙ sym (jn g.led));
      told =
          b.told ∙ told_append now.told (p d).broken (q d).broken ∙ ap (λ x. told_of x (q d).broken) (sym (td ∙ g.told));
      taken =
          b.taken ∙ sym (append_assoc now.taken.items (p d).taken (q d).taken) ∙ ap (λ x. x ++ (q d).taken) (sym (tk ∙ g.taken));
      back = i g.led;
    }

-- the last one
pub last_branch : (w p : Part) (j k : Joined) (old now next back : State) (r : Result (Unit {0}) Left) → Branches w p j old now → Walks {A = Unit {0}} p now next r
    → Ended (set_of old.held) (changes_of old.held) j k next back r → Branches w nowhere k old back
last_branch w p j k old now next back r b h i =
    let d = set_of old.held in
    branch w p nowhere j k old now next back r (record {
      after = b.after ∙ ap (after_either (after_branches j d)) (sym (either_nothing (p d).after));
      told = b.told ∙ ap (told_of now.told) (sym (append_nothing (p d).broken));
      taken = b.taken ∙ ap (λ x. now.taken.items ++ x) (sym (append_nothing (p d).taken));
      back = b.back;
    }) h i

-- the walk goes on behind all branches
pub behind : (A : Type 0) (w : Part) (j : Joined) (old now new : State) (r : Result A Left) → Branches w nowhere j old now → GoesOn {A = A} (after_branches j (set_of now.held)) now.held new.held r
    → new.taken.items ≡ now.taken.items → new.told ≡ now.told → Walks {A = A} w old new r
behind A w j old now new (Ok u) b (e, l) t n = (
  b.after ∙ either_nothing (after_branches j (set_of old.held)) ∙ ap (after_branches j) (sym b.back.0) ∙ e,
  (n ∙ sym b.told, t ∙ sym (b.taken ∙ append_nothing now.taken.items)),
  led_from (set_of old.held) (changes_of old.held) now.held new.held b.back l,
)
behind A w j old now new (Err left.Exits) b (e, a) t n = (
  b.after ∙ either_nothing (after_branches j (set_of old.held)) ∙ ap (after_branches j) (sym b.back.0) ∙ e,
  (n ∙ sym b.told, t ∙ sym (b.taken ∙ append_nothing now.taken.items)),
  led_from (set_of old.held) (changes_of old.held) now.held new.held b.back (at_led (set_of now.held) (changes_of now.held) new.held a),
)
behind A w j old now new (Err left.NoMemory) b g t n = tt {0}

-- a branch that does not always exit has changed nothing before it
pub has_room : (A : Type 0) (p : Part) (before : List ℕ) (m : ℕ) (now next : State) (r : Result A Left) → m ≡ length before → changes_of now.held ≡ before → Walks {A = A} p now next r
    → OnOk r (m ≤ length (changes_of next.held))
has_room A p before m now next (Ok u) e c (a, n, l) =
    subst (λ x. x ≤ length (changes_of next.held)) (sym e) (subst (λ x. length x ≤ length (changes_of next.held)) c (room (set_of now.held) (changes_of now.held) next.held l))
has_room A p before m now next (Err x) e c h = tt {0}

-- what differs since a moment, joined to what was joined before
pub joined_more : (j k : Joined) (old new : Held) (d : Holding) (before : List ℕ) (m : ℕ) (ends : List (ℕ × Bool)) (lost won : List ℕ) → LedFrom d before old → m ≡ length before → IsAt d before new
    → ends ≡ map (ended_at (set_of old)) (drop m (changes_of old)) → lost ≡ lost_by (set_of new) ends → won ≡ won_by (set_of new) ends
    → k.lost.items ≡ lost_with (won_of j) j.lost.items lost → won_of k ≡ won_with (won_of j) won → after_branches k d ≡ after_either (after_branches j d) (Some (set_of old))
joined_more j k old new d before m ends lost won (since, c, e) is at es ls ws l w =
    let these : drop m (changes_of old) ≡ since = ap₂ drop is c ∙ drop_front before since in
    let ends_are : ends ≡ map (ended_at (set_of old)) since = es ∙ ap (map (ended_at (set_of old))) these in
    let lost_is : lost ≡ lost_by d (map (ended_at (set_of old)) since) = ls ∙ ap₂ lost_by at.0 ends_are in
    let won_is : won ≡ won_by d (map (ended_at (set_of old)) since) = ws ∙ ap₂ won_by at.0 ends_are in
    ap₂ (λ x y. joined_won x y d) (l ∙ ap (lost_with (won_of j) j.lost.items) lost_is) (w ∙ ap (won_with (won_of j)) won_is)
    ∙ joins j.lost.items (won_of j) since d (set_of old) e

-- ---- loops

-- a body that is walked to its end, and what is told of it
pub turned_once : (i : ℕ) (body : Part) (m : ℕ) (s0 s1 s2 s3 : State) → Passed (gives (i ∷ [])) s0 s1 → Passed body s1 s2 → m ≡ length s0.taken.items
    → (LedFrom (set_of s0.held) (changes_of s0.held) s2.held → IsAt (set_of s0.held) (changes_of s0.held) s3.held)
    → s3.taken.items ≡ s2.taken.items
    → s3.told ≡ told_of s2.told (not_given_back (lost (set_of s3.held) (Some (set_of s2.held)) (drop m s2.taken.items)))
    → Passed (turns i body) s0 s3
turned_once i body m s0 s1 s2 s3 (e, (n, t), l) (f, (o, u), k) c back same told =
    let d = set_of s0.held in
    let led : LedFrom d (changes_of s0.held) s2.held = led_on d (changes_of s0.held) s1.held s2.held l k in
    let at : IsAt d (changes_of s0.held) s3.held = back led in
    let is : also (i ∷ []) d ≡ set_of s1.held = some_is (also (i ∷ []) d) (set_of s1.held) e in
    let s = body (also (i ∷ []) d) in
    let seen : body (set_of s1.held) ≡ s = ap body (sym is) in
    let taken : s2.taken.items ≡ s0.taken.items ++ s.taken = u ∙ ap₂ (λ x y. x ++ y.taken) (t ∙ append_nothing s0.taken.items) seen in
    let ended : Some (set_of s2.held) ≡ s.after = sym f ∙ ap (λ x. x.after) seen in
    let reads : drop m s2.taken.items ≡ s.taken = ap₂ drop c taken ∙ drop_front s0.taken.items s.taken in
    let broken : s2.told ≡ told_of s0.told s.broken = o ∙ ap₂ (λ x y. told_of x y.broken) n seen in (
      ap Some (sym at.0),
      (
        told ∙ ap₂ told_of broken (ap not_given_back (ap₂ (λ x y. lost x y (drop m s2.taken.items)) at.0 ended ∙ ap (lost d s.after) reads))
            ∙ sym (told_append s0.told s.broken (not_given_back (lost d s.after s.taken))),
        same ∙ taken,
      ),
      at_led d (changes_of s0.held) s3.held at,
    )
  where
    some_is : (x y : Holding) → Some x ≡ Some y → x ≡ y
    some_is x y e = cc

-- one that always exits
pub turned_never : (i : ℕ) (body : Part) (s0 s1 s2 s3 : State) → Passed (gives (i ∷ [])) s0 s1 → Exited body s1 s2
    → (LedFrom (set_of s0.held) (changes_of s0.held) s2.held → IsAt (set_of s0.held) (changes_of s0.held) s3.held)
    → s3.taken.items ≡ s2.taken.items → s3.told ≡ s2.told → Passed (turns i body) s0 s3
turned_never i body s0 s1 s2 s3 (e, (n, t), l) (f, (o, u), k) back same told =
    let d = set_of s0.held in
    let led : LedFrom d (changes_of s0.held) s2.held = led_on d (changes_of s0.held) s1.held s2.held l k in
    let at : IsAt d (changes_of s0.held) s3.held = back led in
    let is : also (i ∷ []) d ≡ set_of s1.held = some_is (also (i ∷ []) d) (set_of s1.held) e in
    let s = body (also (i ∷ []) d) in
    let seen : body (set_of s1.held) ≡ s = ap body (sym is) in
    let taken : s2.taken.items ≡ s0.taken.items ++ s.taken = u ∙ ap₂ (λ x y. x ++ y.taken) (t ∙ append_nothing s0.taken.items) seen in
    let ended : s.after ≡ None = ap (λ x. x.after) (sym seen) ∙ f in
    let broken : s2.told ≡ told_of s0.told s.broken = o ∙ ap₂ (λ x y. told_of x y.broken) n seen in (
      ap Some (sym at.0),
      (
        told ∙ broken ∙ ap (told_of s0.told) (sym (ap (λ x. s.broken ++ not_given_back (lost d x s.taken)) ended ∙ append_nothing s.broken)),
        same ∙ taken,
      ),
      at_led d (changes_of s0.held) s3.held at,
    )
  where
    some_is : (x y : Holding) → Some x ≡ Some y → x ≡ y
    some_is x y e = cc
