-- Names that stand for locals are spelled as their binding places, and what more that is known leaves of that.
use Rattle.std.proofs.Common.{ℕ, zero, suc, ◌≡◌, refl, sym, ◌∙◌, ap, subst, Bool, true, false, bytes_eq, if◌then◌else◌, Option, Some, None, List, [], ◌∷◌, ◌++◌, length, option_map, slice_get, append_assoc, length-append, arith}
use Rattle.std.proofs.lemmas.List.{append-nil}
use Rattle.std.proofs.lemmas.Option.{none-some, same_Some}
use Rattle.std.proofs.lemmas.Slice.Eq.{bytes_eq-Decides}
use Rattle.hs_syntax.specs.declared.span.Span.{Span}
use Rattle.hs_syntax.specs.Texts.{bytes_at}
use Rattle.hs_scope.specs.Scope.{Binding, look}
use Rattle.hs_symbols.specs.declared.referent.BuiltIn.{BuiltIn}
use Rattle.hs_symbols.specs.declared.referent.Referent.{Referent}
use Rattle.hs_symbols.specs.declared.referent.Referent.TheVariants as r
use Rattle.hs_symbols.specs.Words.{or_else}
use Rattle.hs_symbols.specs.Symbols.{built}
use Rattle.hs_resolver.specs.declared.known.Use.{Use}
use Rattle.hs_resolver.specs.declared.known.Known.{Known}
use Rattle.hs_resolver.specs.Parts.{bound, used, meaning, placed, exited}
use Rattle.hs_resolver.specs.Spelled.{IsPlace}

-- the number of the local that a name stands for
abbrev pub local_of : Referent → Option ℕ
local_of (r.Local k) = Some k
local_of _ = None

abbrev pub local_in : Option Referent → Option ℕ
local_in None = None
local_in (Some to) = local_of to

-- ---- what is no local

pub built_other : (b : Option BuiltIn) → local_in (built b) ≡ None
built_other None = refl
built_other (Some b) = refl

pub either_other : (a b : Option Referent) → local_in a ≡ None → local_in b ≡ None → local_in (or_else a b) ≡ None
either_other None b p q = q
either_other (Some to) b p q = p

pub item_other : (o : Option ℕ) → local_in (option_map (λ k. r.Item k) o) ≡ None
item_other None = refl
item_other (Some k) = refl

pub ctor_other : (k : ℕ) (o : Option ℕ) → local_in (option_map (λ c. r.Ctor k c) o) ≡ None
ctor_other k None = refl
ctor_other k (Some c) = refl

pub struct_other : (o : Option ℕ) → local_in (option_map (λ k. r.Ctor k 0) o) ≡ None
struct_other None = refl
struct_other (Some k) = refl

-- a local that was found, before what is none
pub found_before : (o : Option ℕ) (rest : Option Referent) (number : ℕ) → local_in rest ≡ None
    → local_in (or_else (option_map (λ k. r.Local k) o) rest) ≡ Some number → o ≡ Some number
found_before None rest number p e = absurd (none-some number (sym p ∙ e))
found_before (Some k) rest number p e = e

pub found_alone : (o : Option ℕ) (number : ℕ) → local_in (option_map (λ number. r.Local number) o) ≡ Some number → o ≡ Some number
found_alone None number e = e
found_alone (Some k) number e = e

-- ---- binding places

-- the places of one are the first of the other's
abbrev pub Longer : List Span → List Span → Type 0
Longer ps qs = (i : ℕ) (s : Span) → slice_get ps i ≡ Some s → slice_get qs i ≡ Some s

pub longer_more : (ps qs : List Span) → Longer ps (ps ++ qs)
longer_more [] qs i s e = absurd (none-some s e)
longer_more (p ∷ ps) qs zero s e = e
longer_more (p ∷ ps) qs (suc i) s e = longer_more ps qs i s e

last_place : (ps : List Span) (s : Span) → slice_get (ps ++ s ∷ []) (length ps) ≡ Some s
last_place [] s = refl
last_place (p ∷ ps) s = last_place ps s

module _ (text : List ℕ) where
  place_longer : (ps qs : List Span) (number : ℕ) (word : List ℕ) → Longer ps qs → IsPlace text ps number word → IsPlace text qs number word
  place_longer ps qs number word l (s, at, is) = (s, l number s at, is)

  -- ---- names in scope

  -- each name in scope is that of its binding place
  abbrev pub InScope : List Span → List Binding → Type 0
  InScope places [] = Unit {0}
  InScope places (b ∷ bs) = IsPlace text places b.number b.name × InScope places bs

  pub scope_longer : (ps qs : List Span) (scope : List Binding) → Longer ps qs → InScope ps scope → InScope qs scope
  scope_longer ps qs [] l h = tt {0}
  scope_longer ps qs (b ∷ bs) l (p, h) = (place_longer ps qs b.number b.name l p, scope_longer ps qs bs l h)

  looked : (places : List Span) (word name : List ℕ) (number : ℕ) (rest : Option ℕ) (same : Bool) → bytes_eq word name ≡ same → IsPlace text places number name
      → ((k : ℕ) → rest ≡ Some k → IsPlace text places k word) → (k : ℕ) → (if same then Some number else rest) ≡ Some k → IsPlace text places k word
  looked places word name number rest true e (s, at, is) more k f =
      let here : IsPlace text places number word = (s, at, (bytes_eq-Decides word name).0 e ∙ is) in
      subst (λ (k : ℕ). IsPlace text places k word) (same_Some number k f) here
  looked places word name number rest false e p more k f = more k f

  pub look_place : (places : List Span) (scope : List Binding) (word : List ℕ) → InScope places scope → (number : ℕ) → look word scope ≡ Some number → IsPlace text places number word
  look_place places [] word h number e = absurd (none-some number e)
  look_place places (b ∷ bs) word (p, h) number e =
      looked places word b.name b.number (look word bs) (bytes_eq word b.name) refl p (look_place places bs word h) number e

  -- names that are bound are in scope behind their places
  pub bound_in_scope : (ns : List Span) (places : List Span) (scope : List Binding) → InScope places scope
      → InScope (places ++ ns) (bound text ns (length places) scope)
  bound_in_scope [] places scope h = subst (λ (ps : List Span). InScope ps scope) (sym (append-nil places)) h
  bound_in_scope (n ∷ ns) places scope h =
      let more : List Span = places ++ n ∷ [] in
      let number : length more ≡ suc (length places) = omega (arith, length-append places (n ∷ [])) in
      let here : InScope more (record { name = bytes_at text n; number = length places } ∷ scope) =
      ((n, last_place places n, refl), scope_longer places more scope (longer_more places (n ∷ [])) h) in
      let rest = bound_in_scope ns more (record { name = bytes_at text n; number = length places } ∷ scope) here in
      subst (λ (ps : List Span). InScope ps (bound text ns (suc (length places)) (record { name = bytes_at text n; number = length places } ∷ scope))) (append_assoc places (n ∷ []) ns)
      (subst (λ (i : ℕ). InScope (more ++ ns) (bound text ns i (record { name = bytes_at text n; number = length places } ∷ scope))) number rest)

  -- ---- what is known

  -- each name that stands for a local is spelled as its place
  abbrev pub Spelled : List Span → List Use → Type 0
  Spelled places [] = Unit {0}
  Spelled places (u ∷ us) = ((number : ℕ) → local_of u.referent ≡ Some number → IsPlace text places number (bytes_at text u.name)) × Spelled places us

  spelled_longer : (ps qs : List Span) (us : List Use) → Longer ps qs → Spelled ps us → Spelled qs us
  spelled_longer ps qs [] l h = tt {0}
  spelled_longer ps qs (u ∷ us) l (p, h) = (λ number e. place_longer ps qs number (bytes_at text u.name) l (p number e), spelled_longer ps qs us l h)

  spelled_more : (ps : List Span) (us : List Use) (u : Use) → Spelled ps us → ((number : ℕ) → local_of u.referent ≡ Some number → IsPlace text ps number (bytes_at text u.name))
      → Spelled ps (us ++ u ∷ [])
  spelled_more ps [] u h p = (p, tt {0})
  spelled_more ps (v ∷ us) u (q, h) p = (q, spelled_more ps us u h p)

  pub spelled_at : (ps : List Span) (us : List Use) → Spelled ps us → (k number : ℕ) (u : Use) → slice_get us k ≡ Some u → u.referent ≡ r.Local number
      → IsPlace text ps number (bytes_at text u.name)
  spelled_at ps [] h k number u e f = absurd (none-some u e)
  spelled_at ps (v ∷ us) (p, h) zero number u e f =
      subst (λ (u : Use). u.referent ≡ r.Local number → IsPlace text ps number (bytes_at text u.name)) (same_Some v u e) (λ (f : v.referent ≡ r.Local number). p number (ap local_of f)) f
  spelled_at ps (v ∷ us) (p, h) (suc k) number u e f = spelled_at ps us h k number u e f

  -- places come to those that are there, and names stay spelled so
  pub record Keeps (k m : Known) : Type 0 where
    pub longer : Longer k.places m.places
    pub spelled : Spelled k.places k.uses → Spelled m.places m.uses

  pub keeps : {k : Known} → Keeps k k
  keeps = record { longer = λ i s e. e; spelled = λ h. h }

  pub keeps_then : {k l m : Known} → Keeps k l → Keeps l m → Keeps k m
  keeps_then p q = record { longer = λ i s e. q.longer i s (p.longer i s e); spelled = λ h. q.spelled (p.spelled h) }

  -- a name that stands for a local in scope, for what is no local, or for nothing
  pub keeps_means : (n : Span) (to : Option Referent) {k : Known} → ((number : ℕ) → local_in to ≡ Some number → IsPlace text k.places number (bytes_at text n)) → Keeps k (meaning n to k)
  keeps_means n None h = keeps
  keeps_means n (Some to) {k} h =
      record { longer = λ i s e. e; spelled = λ g. spelled_more k.places k.uses (record { name = n; referent = to }) g h }

  pub keeps_other : (n : Span) (to : Option Referent) {k : Known} → local_in to ≡ None → Keeps k (meaning n to k)
  keeps_other n to p = keeps_means n to (λ number e. absurd (none-some number (sym p ∙ e)))

  pub keeps_place : (s : Span) {k : Known} → Keeps k (placed s k)
  keeps_place s {k} =
      let l : Longer k.places (k.places ++ s ∷ []) = longer_more k.places (s ∷ []) in
      record { longer = l; spelled = λ h. spelled_longer k.places (k.places ++ s ∷ []) k.uses l h }

  -- a binding place whose name stands for its local
  pub keeps_bound : (n : Span) {k : Known} → Keeps k (placed n (used n (r.Local (length k.places)) k))
  keeps_bound n {k} =
      let l : Longer k.places (k.places ++ n ∷ []) = longer_more k.places (n ∷ []) in
      record {
        longer = l;
        spelled = λ h. spelled_more (k.places ++ n ∷ []) k.uses (record { name = n; referent = r.Local (length k.places) }) (spelled_longer k.places (k.places ++ n ∷ []) k.uses l h)
            (λ number e. subst (λ (i : ℕ). IsPlace text (k.places ++ n ∷ []) i (bytes_at text n)) (same_Some (length k.places) number e) (n, last_place k.places n, refl));
      }

  -- an exit is no name and no place
  pub keeps_exit : (s : Span) {k m : Known} → Keeps k m → Keeps k (exited s m)
  keeps_exit s p = record { longer = p.longer; spelled = p.spelled }
