-- The printed text of a module reads as that module.
use Rattle.std.proofs.Common.{◌≡◌, ℕ, zero, suc, ◌+◌, ◌%◌, ◌^◌, ◌<◌, List, [], ◌∷◌, ◌++◌, flat_map, length, Some, Bool, true, false, ◌&&◌, not, eqb, leb, codes, decimal, refl, sym, ap, ◌∙◌, subst, append_assoc, arith}
use Rattle.std.specs.Prelude.{bytes_eq}
use Rattle.std.proofs.lemmas.Bool.{true≢false, eqb-true, and_parts, and_from, or_right, false_from_ne_true}
use Rattle.std.proofs.lemmas.Bool.Decides.{nat_tests}
use Rattle.std.proofs.lemmas.Fmt.{decimal_by_steps, decimal_nonempty}
use Rattle.hs_first_tree.specs.Value.{ValType, U32}
use Rattle.hs_base.specs.Names.{is_upper, is_letter, is_digit, begins_name, is_word_byte, is_reserved, is_name}
use Rattle.hs_fstar.specs.Bytes.{begins_word}
use Rattle.std.specs.List.{list_all}
use Rattle.hs_first_em.specs.Plain.{EmVar, Em, local, number, op, bind, given, Ems, no_ems, em, EmPar, EmDef, Module}
use Rattle.hs_first_em.specs.Spelled.{is_module_name, is_let, SpelledVar, SpelledEm, SpelledEms, SpelledPars, SpelledDefs, Spelled, begins_upper}
use Rattle.hs_fstar.specs.Tokens.{Token, Word, Mark, Outside, begins, with_word, tokens_from}
use Rattle.hs_fstar.specs.Reads.{var_text, type_text, em_tokens, ems_tokens, par_tokens, pars_tokens, def_tokens, Reads}
use Rattle.hs_fstar.specs.Layout.{spaces, bound_text, em_text, ems_text, par_text, pars_text, def_text, layout}

-- the text has these tokens, and begins with no `*`
record Has (text : List ℕ) (ts : List Token) : Type 0 where
  tokens : tokens_from Outside text ≡ Some ts
  star : begins 42 text ≡ false

-- nor with a byte of a word
record Apart (text : List ℕ) (ts : List Token) : Type 0 where
  has : Has text ts
  word : begins_word text ≡ false

-- a byte with a property is none without it
other : (p : ℕ → Bool) (b k : ℕ) → p b ≡ true → p k ≡ false → eqb b k ≡ false
other p b k y n = false_from_ne_true (eqb b k) (λ e. true≢false (sym y ∙ ap p (eqb-true b k e) ∙ n))

-- a byte of a word goes before what follows
letter_before : (b : ℕ) (text : List ℕ) (ts : List Token) → is_word_byte b ≡ true → tokens_from Outside text ≡ Some ts → tokens_from Outside (b ∷ text) ≡ Some (with_word b text ts)
unfolding is_word_byte begins_name is_letter is_upper is_digit
letter_before b text ts y e =
    let e1 : eqb b 40 ≡ false = other is_word_byte b 40 y refl in
    let e2 : eqb b 32 ≡ false = other is_word_byte b 32 y refl in
    let e3 : eqb b 9 ≡ false = other is_word_byte b 9 y refl in
    let e4 : eqb b 10 ≡ false = other is_word_byte b 10 y refl in
    let e5 : eqb b 13 ≡ false = other is_word_byte b 13 y refl in
    simp (e1, e2, e3, e4, e5, e, y)

-- a run of bytes of a word is one word
word_before : (b : ℕ) (w : List ℕ) (text : List ℕ) (ts : List Token) → list_all is_word_byte (b ∷ w) ≡ true → Apart text ts → tokens_from Outside (b ∷ (w ++ text)) ≡ Some (Word (b ∷ w) ∷ ts)
word_before b [] text ts y h =
    letter_before b text ts (and_parts (is_word_byte b) true y).0 h.has.tokens ∙ rw h.word refl
word_before b (c ∷ w) text ts y h =
    let p : (is_word_byte b ≡ true) × (list_all is_word_byte (c ∷ w) ≡ true) = and_parts (is_word_byte b) (list_all is_word_byte (c ∷ w)) y in
    let q : (is_word_byte c ≡ true) × (list_all is_word_byte w ≡ true) = and_parts (is_word_byte c) (list_all is_word_byte w) p.1 in
    letter_before b (c ∷ (w ++ text)) (Word (c ∷ w) ∷ ts) p.0 (word_before c w text ts p.1 h) ∙ rw (q.0) refl

-- whether it is a word
abbrev IsWord : List ℕ → Type 0
IsWord [] = ⊥
IsWord (b ∷ w) = list_all is_word_byte (b ∷ w) ≡ true

-- the same, with what the text begins with
word_has : (w : List ℕ) (text : List ℕ) (ts : List Token) → IsWord w → Apart text ts → Has (w ++ text) (Word w ∷ ts)
unfolding is_word_byte begins_name is_letter is_upper is_digit
word_has [] text ts y h = absurd y
word_has (b ∷ w) text ts y h = record { tokens = word_before b w text ts y h; star = other is_word_byte b 42 (and_parts (is_word_byte b) (list_all is_word_byte w) y).0 refl }

-- the bytes of a decimal are digits
digit_of : (n : ℕ) → n < 10 → is_digit (48 + n) ≡ true
unfolding is_digit
digit_of n l = grind (arith, nat_tests)

-- what holds of all bytes of two lists
all_append : (p : ℕ → Bool) (a b : List ℕ) → list_all p a ≡ true → list_all p b ≡ true → list_all p (a ++ b) ≡ true
all_append p [] b x y = y
all_append p (c ∷ a) b x y =
    let q : (p c ≡ true) × (list_all p a ≡ true) = and_parts (p c) (list_all p a) x in
    and_from (p c) (list_all p (a ++ b)) q.0 (all_append p a b q.1 y)

-- a decimal holds digits
pub decimal_digits : (n : ℕ) → n < 2 ^ 64 → list_all is_digit (decimal n) ≡ true
decimal_digits = decimal_by_steps (λ n ds. list_all is_digit ds ≡ true)
    (λ n l. and_from (is_digit (48 + n)) true (digit_of n l) refl)
    (λ n ds l e. all_append is_digit ds ((48 + n % 10) ∷ []) e (and_from (is_digit (48 + n % 10)) true (digit_of (n % 10) (omega arith)) refl))

-- what holds of all bytes, and what follows from it
all_more : (p q : ℕ → Bool) → ((b : ℕ) → p b ≡ true → q b ≡ true) → (w : List ℕ) → list_all p w ≡ true → list_all q w ≡ true
all_more p q h [] y = refl
all_more p q h (b ∷ w) y =
    let r : (p b ≡ true) × (list_all p w ≡ true) = and_parts (p b) (list_all p w) y in
    and_from (q b) (list_all q w) (h b r.0) (all_more p q h w r.1)

-- a decimal holds bytes of words
pub decimal_word : (n : ℕ) → n < 2 ^ 64 → list_all is_word_byte (decimal n) ≡ true
unfolding is_word_byte
decimal_word n l = all_more is_digit is_word_byte (λ b y. or_right (begins_name b) (is_digit b) y) (decimal n) (decimal_digits n l)

-- bytes of a word, one at least, are a word
some_word : (w : List ℕ) → 0 < length w → list_all is_word_byte w ≡ true → IsWord w
some_word [] l y = absurd (omega arith)
some_word (b ∷ w) l y = y

-- a decimal is a word
decimal_is_word : (n : ℕ) → n < 2 ^ 64 → IsWord (decimal n)
decimal_is_word n l = some_word (decimal n) (decimal_nonempty n l) (decimal_word n l)

-- a name holds bytes of words
pub name_word : (w : List ℕ) → is_name w ≡ true → list_all is_word_byte w ≡ true
unfolding is_name is_word_byte
name_word [] y = refl
name_word (b ∷ w) y =
    let a : ((begins_name b && list_all is_word_byte w && not (bytes_eq (b ∷ w) (codes "_"))) ≡ true) × (not (is_reserved (b ∷ w)) ≡ true) = and_parts (begins_name b && list_all is_word_byte w && not (bytes_eq (b ∷ w) (codes "_"))) (not (is_reserved (b ∷ w))) y in
    let c : ((begins_name b && list_all is_word_byte w) ≡ true) × (not (bytes_eq (b ∷ w) (codes "_")) ≡ true) = and_parts (begins_name b && list_all is_word_byte w) (not (bytes_eq (b ∷ w) (codes "_"))) a.0 in
    let d : (begins_name b ≡ true) × (list_all is_word_byte w ≡ true) = and_parts (begins_name b) (list_all is_word_byte w) c.0 in
    and_from (is_word_byte b) (list_all is_word_byte w) (rw d.0 refl) d.1

-- a local is a word
var_is_word : (x : EmVar) → SpelledVar x → IsWord (var_text x)
unfolding is_word_byte begins_name is_letter is_upper is_digit
var_is_word x s = all_append is_word_byte x.name (95 ∷ decimal x.number) (name_word x.name s.0) (decimal_word x.number s.1)

-- a module's name is a word
module_word : (w : List ℕ) → is_module_name w ≡ true → IsWord w
module_word [] y = absurd (true≢false (sym y))
module_word (b ∷ w) y =
    let u : Bool = begins_upper (b ∷ w) && list_all is_word_byte (b ∷ w) in
    let a : ((begins_upper (b ∷ w) && list_all is_word_byte (b ∷ w) && leb (length (b ∷ w)) 64) ≡ true) × (not (bytes_eq (b ∷ w) (codes "Hs_prelude")) ≡ true) = and_parts (u && leb (length (b ∷ w)) 64) (not (bytes_eq (b ∷ w) (codes "Hs_prelude"))) y in
    let c : ((begins_upper (b ∷ w) && list_all is_word_byte (b ∷ w)) ≡ true) × (leb (length (b ∷ w)) 64 ≡ true) = and_parts u (leb (length (b ∷ w)) 64) a.0 in
    (and_parts (begins_upper (b ∷ w)) (list_all is_word_byte (b ∷ w)) c.0).1

-- an opening mark
opened : (text : List ℕ) (ts : List Token) → Has text ts → Apart (40 ∷ text) (Mark 40 ∷ ts)
unfolding is_word_byte begins_name is_letter is_upper is_digit
opened text ts h = record { has = record { tokens = rw (h.star, h.tokens) refl; star = refl }; word = refl }

-- a closing mark
closed : (text : List ℕ) (ts : List Token) → Has text ts → Apart (41 ∷ text) (Mark 41 ∷ ts)
unfolding is_word_byte begins_name is_letter is_upper is_digit
closed text ts h = record { has = record { tokens = rw h.tokens refl; star = refl }; word = refl }

-- a space
spaced : (text : List ℕ) (ts : List Token) → Has text ts → Apart (32 ∷ text) ts
unfolding is_word_byte begins_name is_letter is_upper is_digit
spaced text ts h = record { has = record { tokens = rw h.tokens refl; star = refl }; word = refl }

-- a line's end
lined : (text : List ℕ) (ts : List Token) → Has text ts → Apart (10 ∷ text) ts
unfolding is_word_byte begins_name is_letter is_upper is_digit
lined text ts h = record { has = record { tokens = rw h.tokens refl; star = refl }; word = refl }

-- a colon between spaces
colon : (text : List ℕ) (ts : List Token) → Has text ts → Apart (codes " : " ++ text) (Mark 58 ∷ ts)
unfolding is_word_byte begins_name is_letter is_upper is_digit
colon text ts h = record { has = record { tokens = rw h.tokens refl; star = refl }; word = refl }

-- the mark before a body
equals : (text : List ℕ) (ts : List Token) → Has text ts → Apart (codes " =" ++ text) (Mark 61 ∷ ts)
unfolding is_word_byte begins_name is_letter is_upper is_digit
equals text ts h = record { has = record { tokens = rw h.tokens refl; star = refl }; word = refl }

-- the head of a number
literal : (text : List ℕ) (ts : List Token) → Has text ts → Has (codes "(u32_lit " ++ text) (Mark 40 ∷ Word (codes "u32_lit") ∷ ts)
unfolding is_word_byte begins_name is_letter is_upper is_digit
literal text ts h = record { tokens = rw h.tokens refl; star = refl }

-- the head of a definition
let_before : (text : List ℕ) (ts : List Token) → Has text ts → Has (codes "let " ++ text) (Word (codes "let") ∷ ts)
unfolding is_word_byte begins_name is_letter is_upper is_digit
let_before text ts h = record { tokens = rw h.tokens refl; star = refl }

-- the line before the definitions
open_before : (text : List ℕ) (ts : List Token) → Has text ts → Has (codes "open Hs_prelude" ++ (10 ∷ text)) (Word (codes "open") ∷ Word (codes "Hs_prelude") ∷ ts)
unfolding is_word_byte begins_name is_letter is_upper is_digit
open_before text ts h = record { tokens = rw h.tokens refl; star = refl }

-- the head of a module
module_before : (text : List ℕ) (ts : List Token) → Has text ts → Has (codes "module " ++ text) (Word (codes "module") ∷ ts)
unfolding is_word_byte begins_name is_letter is_upper is_digit
module_before text ts h = record { tokens = rw h.tokens refl; star = refl }

-- a local's text, regrouped
var_has : (x : EmVar) (text : List ℕ) (ts : List Token) → SpelledVar x → Apart text ts → Has (codes "v_" ++ (x.name ++ (codes "_" ++ (decimal x.number ++ text)))) (Word (var_text x) ∷ ts)
var_has x text ts s h = let k : Has (var_text x ++ text) (Word (var_text x) ∷ ts) = word_has (var_text x) text ts (var_is_word x s) h in simp append_assoc at k

-- an indent
spaces_has : (n : ℕ) (text : List ℕ) (ts : List Token) → Has text ts → Has (spaces n ++ text) ts
spaces_has zero text ts h = h
spaces_has (suc n) text ts h = (spaced _ _ (spaces_has n text ts h)).has

-- what a local is bound to, before what stands apart
bound_has : (q : Bool) (n : ℕ) (e : ℕ → List ℕ) (us : List Token) → ((m : ℕ) (text : List ℕ) (ts : List Token) → Apart text ts → Has (e m ++ text) (us ++ ts)) → (text : List ℕ) (ts : List Token) → Apart text ts → Apart (bound_text q n e ++ text) (us ++ (Word (codes "in") ∷ ts))
unfolding is_word_byte begins_name is_letter is_upper is_digit
bound_has false n e us g text ts h = simp append_assoc (spaced _ _ (g n _ _ (spaced _ _ (word_has (codes "in") text ts refl h))))
bound_has true n e us g text ts h =
    simp append_assoc (lined _ _ (spaces_has (n + 2) _ _ (g (n + 2) _ _ (lined _ _ (spaces_has n _ _ (word_has (codes "in") text ts refl h))))))

-- the name of the sum is a word
sum_is_word : IsWord (codes "u32_add")
unfolding is_word_byte begins_name is_letter is_upper is_digit
sum_is_word = refl

mutual
  -- an expression's text has its tokens, before what stands apart
  em_has : (n : ℕ) (e : Em) (text : List ℕ) (ts : List Token) → SpelledEm e → Apart text ts → Has (em_text n e ++ text) (em_tokens e ++ ts)
  em_has n (local x) text ts s h = word_has (var_text x) text ts (var_is_word x s) h
  em_has n (number k) text ts s h =
      simp append_assoc (literal _ _ (word_has (decimal k) (41 ∷ text) (Mark 41 ∷ ts) (decimal_is_word k (omega (arith, s))) (closed text ts h.has)))
  em_has n (op w es) text ts s h =
      let k : IsWord w = subst IsWord (sym s.0) sum_is_word in
      simp append_assoc (opened _ _ (word_has w (ems_text n es ++ (41 ∷ text)) (ems_tokens es ++ (Mark 41 ∷ ts)) k (ems_apart n es (41 ∷ text) (Mark 41 ∷ ts) s.2 (closed text ts h.has)))).has
  em_has n (bind x a b) text ts s h =
      simp append_assoc
      (let_before _ _ (var_has x _ _ s.0
      (equals _ _ (bound_has (is_let a) n (λ m. em_text m a) (em_tokens a) (λ m u us k. em_has m a u us s.1 k) _ _
      (lined _ _ (spaces_has n _ _ (em_has n b text ts s.2 h)))).has)))
  em_has n (given v) text ts s h = absurd s

  ems_apart : (n : ℕ) (es : Ems) (text : List ℕ) (ts : List Token) → SpelledEms es → Apart text ts → Apart (ems_text n es ++ text) (ems_tokens es ++ ts)
  ems_apart n no_ems text ts s h = h
  ems_apart n (em e es) text ts s h = simp append_assoc (spaced _ _ (em_has n e (ems_text n es ++ text) (ems_tokens es ++ ts) s.1 (ems_apart n es text ts s.2 h)))

-- a type
type_has : (t : ValType) (text : List ℕ) (ts : List Token) → Apart text ts → Has (type_text t ++ text) (Word (type_text t) ∷ ts)
unfolding is_word_byte begins_name is_letter is_upper is_digit
type_has U32 text ts h = word_has (codes "u32") text ts refl h

-- a parameter
par_apart : (p : EmPar) (text : List ℕ) (ts : List Token) → SpelledVar p.var → Has text ts → Apart (par_text p ++ text) (par_tokens p ++ ts)
par_apart p text ts s h =
    simp append_assoc (spaced _ _ (opened _ _ (var_has p.var _ _ s (colon _ _ (type_has p.type _ _ (closed text ts h))))).has)

-- parameters
more_pars : (ps : List EmPar) (text : List ℕ) (ts : List Token) → SpelledPars ps → Has text ts → Has (flat_map par_text ps ++ text) (flat_map par_tokens ps ++ ts)
more_pars [] text ts s h = h
more_pars (p ∷ ps) text ts s h = rw (append_assoc (par_text p) (flat_map par_text ps) text, append_assoc (par_tokens p) (flat_map par_tokens ps) ts) (par_apart p _ _ s.0 (more_pars ps text ts s.1 h)).has

-- the parameters of a definition
pars_apart : (ps : List EmPar) (text : List ℕ) (ts : List Token) → SpelledPars ps → Has text ts → Apart (pars_text ps ++ text) (pars_tokens ps ++ ts)
unfolding is_word_byte begins_name is_letter is_upper is_digit
pars_apart [] text ts s h = record { has = record { tokens = rw h.tokens refl; star = refl }; word = refl }
pars_apart (p ∷ ps) text ts s h = rw (append_assoc (par_text p) (flat_map par_text ps) text, append_assoc (par_tokens p) (flat_map par_tokens ps) ts) (par_apart p _ _ s.0 (more_pars ps text ts s.1 h))

-- a definition
def_has : (d : EmDef) (text : List ℕ) (ts : List Token) → is_name d.name ≡ true → SpelledPars d.params → SpelledEm d.body → Has text ts → Has (def_text d ++ text) (def_tokens d ++ ts)
unfolding is_word_byte begins_name is_letter is_upper is_digit
def_has d text ts n p s h =
    simp append_assoc
    (lined _ _ (let_before _ _ (word_has (codes "f_" ++ d.name) _ _ (name_word d.name n)
    (pars_apart d.params _ _ p (colon _ _ (type_has d.returns _ _ (equals _ _ (lined _ _ (spaced _ _ (spaced _ _ (em_has 2 d.body _ _ s (lined _ _ h))).has).has).has))).has)))).has

-- definitions
defs_has : (ds : List EmDef) → SpelledDefs ds → Has (flat_map def_text ds) (flat_map def_tokens ds)
defs_has [] s = record { tokens = refl; star = refl }
defs_has (d ∷ ds) s = def_has d _ _ s.0.0 s.0.1 s.0.2 (defs_has ds s.1)

-- the printed text reads as the module
pub layout_reads : (m : Module) → Spelled m → Reads (layout m) m
layout_reads m s = record {
  tokens = (module_before _ _ (word_has m.name _ _ (module_word m.name s.name) (lined _ _ (lined _ _ (open_before _ _ (defs_has m.defs s.defs))).has))).tokens;
  spelled = s;
}
