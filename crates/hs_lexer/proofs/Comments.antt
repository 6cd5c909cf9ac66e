-- The end of a comment by a count of what is open is its end as a tree.
use Rattle.std.proofs.Common.{◌≡◌, ℕ, zero, suc, ◌+◌, ◌-◌, ◌<◌, ◌≤◌, List, [], ◌∷◌, ◌++◌, length, Bool, true, false, eqb, ◌&&◌, ◌||◌, Option, Some, None, refl, sym, ◌∙◌, ap, ap₂, subst, arith}
use Rattle.std.specs.Option.{option_map}
use Rattle.std.proofs.lemmas.List.{append_assoc, length-append}
use Rattle.std.proofs.lemmas.Bool.Decides.{nat_tests}
use Rattle.hs_lexer.specs.Pieces.{closed_after}
use Rattle.hs_lexer.specs.Comments.{Inside, Close, Byte, Comment, bytes_of, begins_mark, IsRead, Closes}
use Rattle.hs_lexer.proofs.Closings.{two_more, step_opens, step_last, step_closes, step_goes_on, step_ends}

-- up to where so many comments are closed
abbrev closed_by : ℕ → List ℕ → Option ℕ
closed_by zero s = Some 0
closed_by (suc d) s = closed_after d s

behind_close : (d : ℕ) (s : List ℕ) → closed_after d (42 ∷ (47 ∷ s)) ≡ option_map (λ n. n + 2) (closed_by d s)
behind_close zero s = step_last 42 47 s refl refl
behind_close (suc d) s =
    let e : suc d - 1 ≡ d = omega arith in
    let nonzero : eqb (suc d) 0 ≡ false = grind (arith, nat_tests) in
    step_closes (suc d) 42 47 s refl refl nonzero ∙ ap (λ k. option_map (λ n. n + 2) (closed_after k s)) e

neither : (a b : Bool) → (a || b) ≡ false → (a ≡ false) × (b ≡ false)
neither true b h = let f : true ≡ false = h in cc
neither false b h = (refl, h)

no_answer : (o : Option ℕ) (n : ℕ) → o ≡ None → o ≡ Some n → ⊥
no_answer o n e f = let g : None ≡ Some n = sym e ∙ f in cc

behind_byte : (d b : ℕ) (w s : List ℕ) → 0 < length w → begins_mark b w ≡ false
    → closed_after d (b ∷ (w ++ s)) ≡ option_map (λ n. n + 1) (closed_after d (w ++ s))
behind_byte d b [] s h e = absurd (omega (arith, h))
behind_byte d b (c ∷ w) s h e =
    let both = neither (eqb b 47 && eqb c 42) (eqb b 42 && eqb c 47) e in
    step_goes_on d b c (w ++ s) both.0 both.1

some_bytes : (i : Inside) → 0 < length (bytes_of i)
some_bytes Close = omega arith
some_bytes (Byte b i) = omega arith
some_bytes (Comment i j) = omega arith

-- behind the inside of a comment and its `*/` the search goes on with one comment less
behind : (i : Inside) → IsRead i → (d : ℕ) (s : List ℕ) → closed_after d (bytes_of i ++ s) ≡ option_map (λ n. n + length (bytes_of i)) (closed_by d s)
behind Close r d s = behind_close d s
behind (Byte b i) r d s =
    let e : 1 + length (bytes_of i) ≡ length (b ∷ bytes_of i) = omega arith in
    behind_byte d b (bytes_of i) s (some_bytes i) r.0
    ∙ ap (λ o. option_map (λ n. n + 1) o) (behind i r.1 d s)
    ∙ two_more (closed_by d s) 1 (length (bytes_of i))
    ∙ ap (λ k. option_map (λ n. n + k) (closed_by d s)) e
behind (Comment i j) r d s =
    let next : d + 1 ≡ suc d = omega arith in
    let sum : 2 + (length (bytes_of i) + length (bytes_of j)) ≡ length (47 ∷ (42 ∷ (bytes_of i ++ bytes_of j))) = omega (arith, length-append (bytes_of i) (bytes_of j)) in
    let inside : closed_after (d + 1) (bytes_of i ++ bytes_of j ++ s) ≡ option_map (λ n. n + length (bytes_of i)) (closed_after d (bytes_of j ++ s)) =
    ap (λ w. closed_after (d + 1) w) (append_assoc (bytes_of i) (bytes_of j) s)
    ∙ behind i r.0 (d + 1) (bytes_of j ++ s)
    ∙ ap (λ k. option_map (λ n. n + length (bytes_of i)) (closed_by k (bytes_of j ++ s))) next in
    step_opens d 47 42 (bytes_of i ++ bytes_of j ++ s) refl refl
    ∙ ap (λ o. option_map (λ n. n + 2) o) (inside ∙ ap (λ o. option_map (λ n. n + length (bytes_of i)) o) (behind j r.1 d s)
    ∙ two_more (closed_by d s) (length (bytes_of i)) (length (bytes_of j)))
    ∙ two_more (closed_by d s) 2 (length (bytes_of i) + length (bytes_of j))
    ∙ ap (λ k. option_map (λ n. n + k) (closed_by d s)) sum

pub closes_only : (s : List ℕ) (n : ℕ) → Closes s n → closed_after 0 s ≡ Some n
closes_only s n c =
    let e : 0 + length (bytes_of c.0) ≡ n = omega (arith, c.4) in
    ap (λ w. closed_after 0 w) c.3 ∙ behind c.0 c.2 0 c.1 ∙ ap (λ k. Some k) e

-- the search ends behind the inside of a comment, and what is left is as it would have been with one comment less
abbrev Found : ℕ → List ℕ → ℕ → Type 0
Found d s n = (i : Inside) × (rest : List ℕ) × (m : ℕ) × IsRead i × (s ≡ bytes_of i ++ rest) × (closed_by d rest ≡ Some m) × (n ≡ m + length (bytes_of i))

-- what is under a sum
under : (o : Option ℕ) (k n : ℕ) → option_map (λ m. m + k) o ≡ Some n → (m : ℕ) × (o ≡ Some m) × (n ≡ m + k)
under None k n e = let f : None ≡ Some n = e in cc
under (Some m) k n e = let f : Some (m + k) ≡ Some n = e in (m, refl, cc)

same_begin : (b c : ℕ) (w s rest : List ℕ) → 0 < length w → c ∷ s ≡ w ++ rest → begins_mark b w ≡ begins_mark b (c ∷ s)
same_begin b c [] s rest h e = absurd (omega (arith, h))
same_begin b c (x ∷ w) s rest h e = let g : c ∷ s ≡ x ∷ (w ++ rest) = e in let f : x ≡ c = cc in ap (λ y. (eqb b 47 && eqb y 42) || (eqb b 42 && eqb y 47)) f

shorter : (w rest s : List ℕ) → s ≡ w ++ rest → length rest ≤ length s
shorter w rest s e = omega (arith, ap length e, length-append w rest)

close_found : (d : ℕ) (s : List ℕ) (n : ℕ) → option_map (λ m. m + 2) (closed_by d s) ≡ Some n → Found d (42 ∷ (47 ∷ s)) n
close_found d s n e = let u = under (closed_by d s) 2 n e in (Close, s, u.0, tt {0}, refl, u.1, u.2)

module _ (fuel : ℕ) (shorter_found : (d : ℕ) (s : List ℕ) (n : ℕ) → length s ≤ fuel → closed_after d s ≡ Some n → Found d s n) where
  comment_found : (d : ℕ) (s : List ℕ) (n : ℕ) → length s ≤ fuel → option_map (λ m. m + 2) (closed_after (d + 1) s) ≡ Some n → Found d (47 ∷ (42 ∷ s)) n
  comment_found d s n h e =
      let u = under (closed_after (d + 1) s) 2 n e in
      let first = shorter_found (d + 1) s u.0 h u.1 in
      let next : d + 1 ≡ suc d = omega arith in
      let left : closed_after d first.1 ≡ Some first.2 = ap (λ k. closed_by k first.1) (sym next) ∙ first.5 in
      let fits : length first.1 ≤ fuel = omega (arith, h, shorter (bytes_of first.0) first.1 s first.4) in
      let second = shorter_found d first.1 first.2 fits left in
      let bytes : s ≡ bytes_of first.0 ++ bytes_of second.0 ++ second.1 =
      first.4 ∙ ap (λ w. bytes_of first.0 ++ w) second.4 ∙ sym (append_assoc (bytes_of first.0) (bytes_of second.0) second.1) in
      let sum : n ≡ second.2 + length (47 ∷ (42 ∷ (bytes_of first.0 ++ bytes_of second.0))) =
      omega (arith, u.2, first.6, second.6, length-append (bytes_of first.0) (bytes_of second.0)) in
      (Comment first.0 second.0, second.1, second.2, (first.3, second.3), ap (λ w. 47 ∷ (42 ∷ w)) bytes, second.5, sum)

  byte_found : (d b c : ℕ) (s : List ℕ) (n : ℕ) → length (c ∷ s) ≤ fuel → begins_mark b (c ∷ s) ≡ false
      → option_map (λ m. m + 1) (closed_after d (c ∷ s)) ≡ Some n → Found d (b ∷ (c ∷ s)) n
  byte_found d b c s n h read e =
      let u = under (closed_after d (c ∷ s)) 1 n e in
      let f = shorter_found d (c ∷ s) u.0 h u.1 in
      let alone : begins_mark b (bytes_of f.0) ≡ false = same_begin b c (bytes_of f.0) s f.1 (some_bytes f.0) f.4 ∙ read in
      let sum : n ≡ f.2 + length (b ∷ bytes_of f.0) = omega (arith, u.2, f.6) in
      (Byte b f.0, f.1, f.2, (alone, f.3), ap (λ w. b ∷ w) f.4, f.5, sum)

  ends_found : (d a b : ℕ) (s : List ℕ) (n : ℕ) → a ≡ 42 → b ≡ 47 → closed_after d (a ∷ (b ∷ s)) ≡ Some n → Found d (a ∷ (b ∷ s)) n
  ends_found d a b s n e f g =
      let at : closed_after d (42 ∷ (47 ∷ s)) ≡ Some n = subst (λ x. closed_after d (x ∷ (47 ∷ s)) ≡ Some n) e (subst (λ y. closed_after d (a ∷ (y ∷ s)) ≡ Some n) f g) in
      subst (λ x. Found d (x ∷ (b ∷ s)) n) (sym e) (subst (λ y. Found d (42 ∷ (y ∷ s)) n) (sym f) (close_found d s n (sym (behind_close d s) ∙ at)))

  opens_found : (d a b : ℕ) (s : List ℕ) (n : ℕ) → length s ≤ fuel → a ≡ 47 → b ≡ 42 → closed_after d (a ∷ (b ∷ s)) ≡ Some n → Found d (a ∷ (b ∷ s)) n
  opens_found d a b s n h e f g =
      let found = comment_found d s n h (sym (step_opens d a b s e f) ∙ g) in
      subst (λ x. Found d (x ∷ (b ∷ s)) n) (sym e) (subst (λ y. Found d (47 ∷ (y ∷ s)) n) (sym f) found)

  two_found : (d a b : ℕ) (s : List ℕ) (n : ℕ) → length (b ∷ s) ≤ fuel → (x y : Bool) → x ≡ (eqb a 47 && eqb b 42) → y ≡ (eqb a 42 && eqb b 47)
      → closed_after d (a ∷ (b ∷ s)) ≡ Some n → Found d (a ∷ (b ∷ s)) n
  two_found d a b s n h true y e f g = opens_found d a b s n (omega (arith, h)) (grind (arith, nat_tests, e)) (grind (arith, nat_tests, e)) g
  two_found d a b s n h false true e f g = ends_found d a b s n (grind (arith, nat_tests, f)) (grind (arith, nat_tests, f)) g
  two_found d a b s n h false false e f g =
      byte_found d a b s n h (ap₂ (λ p q. p || q) (sym e) (sym f)) (sym (step_goes_on d a b s (sym e) (sym f)) ∙ g)

found : (fuel d : ℕ) (s : List ℕ) (n : ℕ) → length s ≤ fuel → closed_after d s ≡ Some n → Found d s n
found zero d s n h e = absurd (no_answer (closed_after d s) n (step_ends d s (omega (arith, h))) e)
found (suc fuel) d [] n h e = absurd (no_answer (closed_after d []) n (step_ends d [] (omega arith)) e)
found (suc fuel) d (b ∷ []) n h e = absurd (no_answer (closed_after d (b ∷ [])) n (step_ends d (b ∷ []) (omega arith)) e)
found (suc fuel) d (b ∷ (c ∷ s)) n h e =
    two_found fuel (found fuel) d b c s n (omega (arith, h)) (eqb b 47 && eqb c 42) (eqb b 42 && eqb c 47) refl refl e

pub closes : (s : List ℕ) (n : ℕ) → closed_after 0 s ≡ Some n → Closes s n
closes s n e =
    let f = found (length s) 0 s n (omega arith) e in
    let g : Some 0 ≡ Some f.2 = f.5 in let m : 0 ≡ f.2 = cc in
    (f.0, f.1, f.3, f.4, omega (arith, m, f.6))
