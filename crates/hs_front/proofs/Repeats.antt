-- Loops that read a form at most so many times.
use Rattle.std.proofs.Common.{◌≡◌, ℕ, zero, suc, ◌-◌, ◌≤◌, ◌<◌, true, false, cond, List, [], ◌∷◌, ◌++◌, Err, length, refl, sym, ap, ◌∙◌, subst, append_assoc, append-nil, arith, length-append}
use Rattle.hs_grammar.specs.declared.error.ParseError.{ParseError}
use Rattle.hs_grammar.specs.Kinds.{starts}
use Rattle.hs_grammar.specs.Reads.{Reads}
use Rattle.hs_grammar.specs.Lookahead.{empty, begin}
use Rattle.hs_grammar.specs.Parser.{Res, Done, giving, and_then}
use Rattle.hs_grammar.proofs.Reading.{giving-giving, giving-same, reads_err}
use Rattle.hs_front.specs.declared.symbol.Symbol.{Symbol}
use Rattle.hs_front.specs.Lexis.{lexis}
use Rattle.hs_front.specs.Written.{F, up_to}
use Rattle.hs_front.specs.Reading.{tables, reads}

module _ {A : Type 0} (f : F A) (full : empty tables f ≡ false) where
  begins : (n : ℕ) (w : List Symbol) → starts lexis (begin tables f ++ cond (empty tables f) (begin tables (up_to n f)) []) w ≡ starts lexis (begin tables f) w
  begins n w = ap (λ b. starts lexis (begin tables f ++ cond b (begin tables (up_to n f)) []) w) full ∙ ap (λ ks. starts lexis ks w) (append-nil (begin tables f))

  -- where no item begins there is none
  pub none_left : (n : ℕ) (w : List Symbol) → starts lexis (begin tables f) w ≡ false → reads (up_to n f) w ≡ Done [] w
  unfolding up_to
  none_left zero w e = refl
  none_left (suc n) w e =
      ap (λ b. cond b (and_then (reads f w) (λ a r. giving (λ as'. a ∷ as') (reads (up_to n f) r))) (Done [] w)) (begins n w ∙ e)

  -- where no more may follow there is none
  pub none_more : (w : List Symbol) → reads (up_to 0 f) w ≡ Done [] w
  unfolding up_to
  none_more w = refl

  -- where one begins it is read, and then the others
  pub one_more : (n : ℕ) (w : List Symbol) → starts lexis (begin tables f) w ≡ true → reads (up_to (suc n) f) w ≡ and_then (reads f w) (λ a r. giving (λ as'. a ∷ as') (reads (up_to n f) r))
  unfolding up_to
  one_more n w e =
      ap (λ b. cond b (and_then (reads f w) (λ a r. giving (λ as'. a ∷ as') (reads (up_to n f) r))) (Done [] w)) (begins n w ∙ e)

  -- what a loop over at most m items has to give: behind the items so far it reads the others
  pub record Going {B : Type 0} (m : ℕ) (made : List A → B) (l : List A) (w : List Symbol) (whole : Res Symbol B) : Type 0 where
    pub few : length l ≤ m
    pub rest : giving (λ as'. made (l ++ as')) (reads (up_to (m - length l) f) w) ≡ whole

  -- at the start
  pub going_start : {B : Type 0} (m : ℕ) (made : List A → B) (l : List A) (w : List Symbol) → l ≡ [] → Going m made l w (giving made (reads (up_to m f) w))
  going_start m made l w e = subst (λ k. Going m made k w (giving made (reads (up_to m f) w))) (sym e) (record { few = omega arith; rest = let n : m - 0 ≡ m = omega arith in ap (λ i. giving made (reads (up_to i f) w)) n })

  -- with one more item
  pub going_on : {B : Type 0} (m : ℕ) (made : List A → B) (l : List A) (w r : List Symbol) (a : A) (whole : Res Symbol B) → length l < m → starts lexis (begin tables f) w ≡ true
      → reads f w ≡ Done a r → Going m made l w whole → Going m made (l ++ a ∷ []) r whole
  going_on m made l w r a whole short at read g =
      let n : m - length l ≡ suc (m - length (l ++ a ∷ [])) = omega (arith, length-append l (a ∷ []), short) in
      record {
        few = omega (arith, length-append l (a ∷ []), short);
        rest =
            giving-same (λ as'. made ((l ++ a ∷ []) ++ as')) (λ as'. made (l ++ a ∷ as')) (λ as'. ap made (append_assoc l (a ∷ []) as')) (reads (up_to (m - length (l ++ a ∷ [])) f) r)
            ∙ (sym (giving-giving (λ as'. made (l ++ as')) (λ as'. a ∷ as') (reads (up_to (m - length (l ++ a ∷ [])) f) r))
            ∙ (ap (λ q. giving (λ as'. made (l ++ as')) (and_then q (λ b r. giving (λ as'. b ∷ as') (reads (up_to (m - length (l ++ a ∷ [])) f) r)))) (sym read)
            ∙ (ap (λ q. giving (λ as'. made (l ++ as')) q) (sym (one_more (m - length (l ++ a ∷ [])) w at))
            ∙ (ap (λ k. giving (λ as'. made (l ++ as')) (reads (up_to k f) w)) (sym n) ∙ g.rest))));
      }

  -- where the next item cannot be read, neither can the whole
  pub going_wrong : {B : Type 0} (m : ℕ) (made : List A → B) (l : List A) (w r : List Symbol) (e : ParseError) (whole : Res Symbol B) → length l < m → starts lexis (begin tables f) w ≡ true
      → Reads {A = A} (reads f w) (Err e) r → Going m made l w whole → Reads {A = B} whole (Err e) r
  going_wrong m made l w r e whole short at read g =
      let n : m - length l ≡ suc (m - suc (length l)) = omega (arith, short) in
      subst (λ q. Reads q (Err e) r)
      (ap (λ q. giving (λ as'. made (l ++ as')) q) (sym (one_more (m - suc (length l)) w at))
      ∙ (ap (λ k. giving (λ as'. made (l ++ as')) (reads (up_to k f) w)) (sym n) ∙ g.rest))
      (reads_err (λ as' z. Done (made (l ++ as')) z) (and_then (reads f w) (λ b z. giving (λ as'. b ∷ as') (reads (up_to (m - suc (length l)) f) z))) e r
      (reads_err (λ b z. giving (λ as'. b ∷ as') (reads (up_to (m - suc (length l)) f) z)) (reads f w) e r read))

  -- where there is none any more
  pub going_ended : {B : Type 0} (m : ℕ) (made : List A → B) (l : List A) (w : List Symbol) (whole : Res Symbol B) → starts lexis (begin tables f) w ≡ false → Going m made l w whole → whole ≡ Done (made l) w
  going_ended m made l w whole at g =
      sym g.rest ∙ (ap (λ q. giving (λ as'. made (l ++ as')) q) (none_left (m - length l) w at) ∙ ap (λ k. Done (made k) w) (append-nil l))

  -- where no more may follow
  pub going_full : {B : Type 0} (m : ℕ) (made : List A → B) (l : List A) (w : List Symbol) (whole : Res Symbol B) → m ≤ length l → Going m made l w whole → whole ≡ Done (made l) w
  going_full m made l w whole long g =
      let n : m - length l ≡ 0 = omega (arith, long) in
      sym g.rest ∙ (ap (λ k. giving (λ as'. made (l ++ as')) (reads (up_to k f) w)) n ∙ (ap (λ q. giving (λ as'. made (l ++ as')) q) (none_more w) ∙ ap (λ k. Done (made k) w) (append-nil l)))

  -- the same behind a first item
  pub record GoingFrom (m : ℕ) (first : A) (l : List A) (w : List Symbol) (whole : Res Symbol (List A)) : Type 0 where
    pub others : List A
    pub all : l ≡ first ∷ others
    pub going : Going m (λ as'. first ∷ as') others w whole

  pub from_start : (m : ℕ) (first : A) (l : List A) (w : List Symbol) → l ≡ first ∷ [] → GoingFrom m first l w (giving (λ as'. first ∷ as') (reads (up_to m f) w))
  from_start m first l w e = record { others = []; all = e; going = going_start m (λ as'. first ∷ as') [] w refl }

  pub from_on : (m : ℕ) (first : A) (l more : List A) (w r : List Symbol) (a : A) (whole : Res Symbol (List A)) → length l ≤ m → starts lexis (begin tables f) w ≡ true
      → reads f w ≡ Done a r → more ≡ l ++ a ∷ [] → GoingFrom m first l w whole → GoingFrom m first more r whole
  from_on m first l more w r a whole short at read e g =
      let n : length l ≡ suc (length g.others) = ap length g.all in
      record {
        others = g.others ++ a ∷ [];
        all = e ∙ ap (λ k. k ++ a ∷ []) g.all;
        going = going_on m (λ as'. first ∷ as') g.others w r a whole (omega (arith, n, short)) at read g.going;
      }

  pub from_wrong : (m : ℕ) (first : A) (l : List A) (w r : List Symbol) (e : ParseError) (whole : Res Symbol (List A)) → length l ≤ m → starts lexis (begin tables f) w ≡ true
      → Reads {A = A} (reads f w) (Err e) r → GoingFrom m first l w whole → Reads {A = List A} whole (Err e) r
  from_wrong m first l w r e whole short at read g =
      let n : length l ≡ suc (length g.others) = ap length g.all in
      going_wrong m (λ as'. first ∷ as') g.others w r e whole (omega (arith, n, short)) at read g.going

  pub from_ended : (m : ℕ) (first : A) (l : List A) (w : List Symbol) (whole : Res Symbol (List A)) → starts lexis (begin tables f) w ≡ false → GoingFrom m first l w whole → whole ≡ Done l w
  from_ended m first l w whole at g = going_ended m (λ as'. first ∷ as') g.others w whole at g.going ∙ ap (λ k. Done k w) (sym g.all)

  pub from_full : (m : ℕ) (first : A) (l : List A) (w : List Symbol) (whole : Res Symbol (List A)) → m < length l → GoingFrom m first l w whole → whole ≡ Done l w
  from_full m first l w whole long g =
      let n : length l ≡ suc (length g.others) = ap length g.all in
      going_full m (λ as'. first ∷ as') g.others w whole (omega (arith, n, long)) g.going ∙ ap (λ k. Done k w) (sym g.all)
