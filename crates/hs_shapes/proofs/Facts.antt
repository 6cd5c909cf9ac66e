-- What is known of the values of forms.
use Rattle.std.proofs.Common.{◌≡◌, ℕ, Bool, true, false, ◌&&◌, List, [], ◌∷◌, ◌++◌, Option, Some, None, map, option_map, refl}
use Rattle.hs_grammar.specs.Form.{Step, More, Last}
use Rattle.hs_syntax.specs.declared.span.Span.{Span}
use Rattle.hs_syntax.specs.WellFormed.{named, at_least_one, at_least_two, each, if_any}

-- what is known of a value
pub record Fact (C : Type 0) : Type 1 where
  pub holds : C → Type 0

-- it passes a test
abbrev pub good : {C : Type 0} → (C → Bool) → Fact C
good f = record { holds = λ x. f x ≡ true }

-- nothing
abbrev pub anything : {C : Type 0} → Fact C
anything = record { holds = λ x. Unit {0} }

-- what is known of what is made of it
abbrev pub by : {C D : Type 0} → (D → C) → Fact C → Fact D
by f P = record { holds = λ x. P.holds (f x) }

-- of both parts
abbrev pub pair : {A B : Type 0} → Fact A → Fact B → Fact (A × B)
pair P Q = record { holds = λ x. P.holds x.0 × Q.holds x.1 }

-- each item of a list passes a test
abbrev pub each_of : {C : Type 0} → (C → Bool) → Fact (List C)
each_of f = record { holds = λ xs. each (map f xs) ≡ true }

-- and there is one
abbrev pub some_of : {C : Type 0} → (C → Bool) → Fact (List C)
some_of f = record { holds = λ xs. (at_least_one xs ≡ true) × (each (map f xs) ≡ true) }

-- of what makes a value of a name
abbrev pub behind_name : {C : Type 0} → List ℕ → Fact C → Fact (Span → C)
behind_name text P = record { holds = λ g. (n : Span) → named text n ≡ true → P.holds (g n) }

-- of what makes a value of a mark
abbrev pub behind_mark : {C : Type 0} → Fact C → Fact (Span → C)
behind_mark P = record { holds = λ g. (n : Span) → P.holds (g n) }

module _ {A : Type 0} (P : Fact A) where
  abbrev pub Perhaps : Option A → Type 0
  Perhaps None = Unit {0}
  Perhaps (Some a) = P.holds a

  -- of a value that may be missing
  abbrev pub perhaps : Fact (Option A)
  perhaps = record { holds = Perhaps }

  abbrev pub Row : List A → Type 0
  Row [] = Unit {0}
  Row (a ∷ as') = P.holds a × Row as'

  -- of each item
  abbrev pub rows : Fact (List A)
  rows = record { holds = Row }

module _ {A E : Type 0} (P : Fact A) (Q : Fact E) where
  abbrev pub Turn : Step A E → Type 0
  Turn (More a) = P.holds a
  Turn (Last e) = Q.holds e

  -- of a turn of a loop
  abbrev pub turns : Fact (Step A E)
  turns = record { holds = Turn }

-- ---- tests

pub both_true : {a b : Bool} → a ≡ true → b ≡ true → (a && b) ≡ true
both_true {a = true} {b = b} p q = q
both_true {a = false} {b = b} p q = absurd (cc)

pub first_true : (a b : Bool) → (a && b) ≡ true → a ≡ true
first_true true b p = refl
first_true false b p = absurd (cc)

pub second_true : (a b : Bool) → (a && b) ≡ true → b ≡ true
second_true true b p = p
second_true false b p = absurd (cc)

module _ {C : Type 0} (f : C → Bool) where
  pub row_each : (xs : List C) → Row (good f) xs → each (map f xs) ≡ true
  row_each [] r = refl
  row_each (x ∷ xs) (p, r) = both_true p (row_each xs r)

  pub one_mapped : (xs : List C) → at_least_one xs ≡ true → at_least_one (map f xs) ≡ true
  one_mapped [] p = absurd (cc)
  one_mapped (x ∷ xs) p = refl

  -- one or more, of a list with one or more
  pub some_mapped : (xs : List C) → (some_of f).holds xs → (at_least_one (map f xs) && each (map f xs)) ≡ true
  some_mapped xs (p, q) = both_true (one_mapped xs p) q

  -- two or more
  pub two_mapped : (x : C) (xs : List C) → f x ≡ true → (some_of f).holds xs → (at_least_two (map f (x ∷ xs)) && each (map f (x ∷ xs))) ≡ true
  two_mapped x xs p (q, r) = both_true (one_mapped xs q) (both_true p r)

  pub each_more : (xs : List C) (x : C) → each (map f xs) ≡ true → f x ≡ true → each (map f (xs ++ x ∷ [])) ≡ true
  each_more [] x p q = both_true q refl
  each_more (y ∷ ys) x p q = both_true (first_true (f y) (each (map f ys)) p) (each_more ys x (second_true (f y) (each (map f ys)) p) q)

  pub perhaps_any : (x : Option C) → Perhaps (good f) x → if_any (option_map f x) ≡ true
  perhaps_any None p = refl
  perhaps_any (Some a) p = p
