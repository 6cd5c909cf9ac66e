-- Of all that is broken one is told, and no other.
use Rattle.std.proofs.Common.{◌≡◌, ◌⊎◌, inl, inr, ℕ, Bool, true, false, cond, List, [], ◌∷◌, Option, Some, None, refl, sym, ap, subst, ◌∙◌, arith, ⊎_elim}
use Rattle.std.proofs.lemmas.Bool.Decides.{nat_tests}
use Rattle.std.specs.List.{AllByRecursion}
use Rattle.hs_base.specs.declared.rule.Rule.{Rule}
use Rattle.hs_base.specs.Rules.{number_of}
use Rattle.hs_linear.specs.declared.told.Breach.{Breach}
use Rattle.hs_linear.proofs.Numbers.{same_rule}
use Rattle.hs_linear.specs.Told.{Before, Among, Told, Answers, is_before, told_of}

before_itself : (a : Breach) → Before a a
before_itself a = inr (refl, inr (refl, omega arith))

-- the test holds of what is told before, and else the other is told before
is_before_holds : (a b : Breach) → is_before a b ≡ true → Before a b
is_before_holds a b h = grind (arith, nat_tests)

is_before_fails : (a b : Breach) → is_before a b ≡ false → Before b a
is_before_fails a b h = grind (arith, nat_tests)

before_before : (a b c : Breach) → Before a b → Before b c → Before a c
before_before a b c h k = grind arith

each_before : (a b : Breach) (bs : List Breach) → Before a b → AllByRecursion (Before b) bs → AllByRecursion (Before a) bs
each_before a b [] h k = tt
each_before a b (c ∷ cs) h k = (before_before a b c h k.0, each_before a b cs h k.1)

-- what is told of one that is told so far and others
abbrev TellsOne : Breach → List Breach → Option Breach → Type 0
TellsOne a bs None = ⊥
TellsOne a bs (Some b) = ((b ≡ a) ⊎ Among b bs) × Before b a × AllByRecursion (Before b) bs

one_more : (a b : Breach) (bs : List Breach) (o : Option Breach) → Before a b → TellsOne a bs o → TellsOne a (b ∷ bs) o
one_more a b bs None h k = k
one_more a b bs (Some c) h k = (⊎_elim inl (λ m. inr (inr m)) k.0, k.1, (before_before c a b k.1 h, k.2))

other_more : (a b : Breach) (bs : List Breach) (o : Option Breach) → Before b a → TellsOne b bs o → TellsOne a (b ∷ bs) o
other_more a b bs None h k = k
other_more a b bs (Some c) h k = (⊎_elim (λ e. inr (inl e)) (λ m. inr (inr m)) k.0, before_before c b a k.1 h, (k.1, k.2))

tells_one : (a : Breach) (bs : List Breach) → TellsOne a bs (told_of (Some a) bs)
tells_one a [] = (inl refl, before_itself a, tt)
tells_one a (b ∷ bs) = go (is_before b a) refl (tells_one a bs) (tells_one b bs)
  where
    go : (t : Bool) → is_before b a ≡ t → TellsOne a bs (told_of (Some a) bs) → TellsOne b bs (told_of (Some b) bs) → TellsOne a (b ∷ bs) (told_of (cond t (Some b) (Some a)) bs)
    go true e h k = other_more a b bs (told_of (Some b) bs) (is_before_holds b a e) k
    go false e h k = one_more a b bs (told_of (Some a) bs) (is_before_fails b a e) h

answers_one : (a : Breach) (bs : List Breach) (o : Option Breach) → TellsOne a bs o → Answers (a ∷ bs) o
answers_one a bs None k = absurd k
answers_one a bs (Some b) k = (k.0, (k.1, k.2))

-- the told one of all is told
pub told_answers : (bs : List Breach) → Answers bs (told_of None bs)
told_answers [] = refl
told_answers (a ∷ bs) = answers_one a bs (told_of (Some a) bs) (tells_one a bs)

among_before : (a b : Breach) (bs : List Breach) → AllByRecursion (Before a) bs → Among b bs → Before a b
among_before a b [] h m = absurd m
among_before a b (c ∷ cs) h (inl e) = subst (Before a) (sym e) h.0
among_before a b (c ∷ cs) h (inr m) = among_before a b cs h.1 m

abbrev breach_of : Rule → ℕ → ℕ → Breach
breach_of rule start end = record { rule = rule; span = record { start = start; end = end } }

same_parts : (q r : Rule) (i j k l : ℕ) → q ≡ r → i ≡ j → k ≡ l → breach_of q i k ≡ breach_of r j l
same_parts q r i j k l a b c = ap (λ x. breach_of x i k) a ∙ ap (λ x. breach_of r x k) b ∙ ap (λ x. breach_of r j x) c

-- what is told of each other before the other is one
same_breach : (a b : Breach) → Before a b → Before b a → a ≡ b
same_breach a b h k =
    let ends : a.span.end ≡ b.span.end = grind arith in
    let starts : a.span.start ≡ b.span.start = grind arith in
    let numbers : number_of a.rule ≡ number_of b.rule = grind arith in
    same_parts a.rule b.rule a.span.start b.span.start a.span.end b.span.end (same_rule a.rule b.rule numbers) starts ends

same_told : (bs : List Breach) (a b : Breach) → Told bs a → Told bs b → a ≡ b
same_told bs a b h k = same_breach a b (among_before a b bs h.1 k.0) (among_before b a bs k.1 h.0)

-- what is answered is that
pub only_told : (bs : List Breach) (o : Option Breach) → Answers bs o → o ≡ told_of None bs
only_told [] None h = refl
only_told [] (Some b) h = absurd h.0
only_told (a ∷ bs) None h = absurd (cc)
only_told (a ∷ bs) (Some b) h = go (told_of None (a ∷ bs)) (told_answers (a ∷ bs)) refl
  where
    go : (o : Option Breach) → Answers (a ∷ bs) o → o ≡ told_of None (a ∷ bs) → Some b ≡ told_of None (a ∷ bs)
    go None k e = absurd (cc)
    go (Some c) k e = ap Some (same_told (a ∷ bs) b c h k) ∙ e
