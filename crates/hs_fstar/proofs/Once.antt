-- No text reads as two modules.
use Rattle.std.proofs.Common.{◌≡◌, ℕ, List, [], ◌∷◌, ◌++◌, flat_map, Some, Bool, true, false, eqb, codes, decimal, refl, sym, ap, ◌∙◌, append_assoc, arith}
use Rattle.std.specs.Prelude.{bytes_eq}
use Rattle.std.proofs.lemmas.Bool.{true≢false, and_parts}
use Rattle.std.proofs.lemmas.Fmt.{decimal_injective}
use Rattle.hs_first_tree.specs.Value.{ValType, U32}
use Rattle.hs_base.specs.Names.{is_digit}
use Rattle.std.specs.List.{list_all}
use Rattle.hs_first_em.specs.Plain.{EmVar, Em, local, number, op, bind, given, Ems, no_ems, em, EmPar, EmDef, Module}
use Rattle.hs_first_em.specs.Spelled.{SpelledVar, SpelledEm, SpelledEms, SpelledPars, SpelledDefs}
use Rattle.hs_fstar.specs.Tokens.{Token, Word, Mark}
use Rattle.hs_fstar.specs.Reads.{var_text, type_text, em_tokens, ems_tokens, par_tokens, pars_tokens, def_tokens, module_tokens, Reads}
use Rattle.hs_fstar.proofs.Printed.{decimal_digits}

-- no `_` stands among digits
no_underscore : (b d : List ℕ) → list_all is_digit (b ++ (95 ∷ d)) ≡ true → ⊥
unfolding is_digit
no_underscore [] d y = true≢false (sym y)
no_underscore (c ∷ b) d y = no_underscore b d (and_parts (is_digit c) (list_all is_digit (b ++ (95 ∷ d))) y).1

-- the last `_` parts a name from its digits
last_underscore : (a b d k : List ℕ) → list_all is_digit d ≡ true → list_all is_digit k ≡ true → a ++ (95 ∷ d) ≡ b ++ (95 ∷ k) → (a ≡ b) × (d ≡ k)
last_underscore [] [] d k p q e = ((cc), (cc))
last_underscore [] (c ∷ b) d k p q e = let t : d ≡ b ++ (95 ∷ k) = cc in absurd (no_underscore b k (ap (list_all is_digit) (sym t) ∙ p))
last_underscore (c ∷ a) [] d k p q e = let t : a ++ (95 ∷ d) ≡ k = cc in absurd (no_underscore a d (ap (list_all is_digit) t ∙ q))
last_underscore (c ∷ a) (h ∷ b) d k p q e =
    let t : a ++ (95 ∷ d) ≡ b ++ (95 ∷ k) = cc in
    let i : (a ≡ b) × (d ≡ k) = last_underscore a b d k p q t in
    let z : c ≡ h = cc in
    ((cc), i.1)

-- a local from its parts
abbrev mk_var : List ℕ → ℕ → EmVar
mk_var n k = record { name = n; number = k }

-- locals with the same parts are the same
var_from : (x y : EmVar) → x.name ≡ y.name → x.number ≡ y.number → x ≡ y
var_from x y e f = ap (λ n. mk_var n x.number) e ∙ ap (mk_var y.name) f

-- a text is the text of one local
var_once : (x y : EmVar) → SpelledVar x → SpelledVar y → var_text x ≡ var_text y → x ≡ y
var_once x y s t e =
    let u : x.name ++ (95 ∷ decimal x.number) ≡ y.name ++ (95 ∷ decimal y.number) = cc in
    let p : (x.name ≡ y.name) × (decimal x.number ≡ decimal y.number) = last_underscore x.name y.name _ _ (decimal_digits x.number s.1) (decimal_digits y.number t.1) u in
    var_from x y p.0 (decimal_injective x.number y.number s.1 t.1 p.1)

-- the two words differ
differ : (u v w : List ℕ) → bytes_eq u u ≡ true → bytes_eq v u ≡ false → u ≡ w → w ≡ v → ⊥
differ u v w y n e f = true≢false (sym y ∙ ap (λ x. bytes_eq x u) (e ∙ f) ∙ n)

-- whether the first token is this mark
abbrev starts : ℕ → List Token → Bool
starts k [] = false
starts k (Word w ∷ ts) = false
starts k (Mark m ∷ ts) = eqb m k

-- whether the second token is a word that begins with this byte
abbrev then_word : ℕ → List Token → Bool
then_word k (t ∷ Word (b ∷ w) ∷ ts) = eqb b k
then_word k ts = false

-- whether the first token is a word that begins with `v`
abbrev begins_v : List Token → Bool
begins_v [] = false
begins_v (Mark m ∷ ts) = false
begins_v (Word [] ∷ ts) = false
begins_v (Word (b ∷ w) ∷ ts) = eqb b 118

-- the same parts make the same `let`
bind_same : (v w : EmVar) (a c b d : Em) → v ≡ w → a ≡ c → b ≡ d → bind v a b ≡ bind w c d
bind_same v w a c b d e f g = cc

-- no expression begins with `)`
no_close : (e : Em) (x y : List Token) → SpelledEm e → Mark 41 ∷ x ≡ em_tokens e ++ y → ⊥
no_close (local v) x y s e = true≢false (ap (starts 41) e)
no_close (number n) x y s e = true≢false (ap (starts 41) e)
no_close (op w es) x y s e = true≢false (ap (starts 41) e)
no_close (bind v a b) x y s e = absurd (cc)
no_close (given v) x y s e = s

-- tokens begin one expression
mutual
  em_once : (a b : Em) (x y : List Token) → SpelledEm a → SpelledEm b → em_tokens a ++ x ≡ em_tokens b ++ y → (a ≡ b) × (x ≡ y)
  em_once (local v) (local w) x y s t e = (ap local (var_once v w s t (cc)), (cc))
  em_once (local v) (number n) x y s t e = absurd (cc)
  em_once (local v) (op w es) x y s t e = absurd (cc)
  em_once (local v) (bind w a b) x y s t e = absurd (true≢false (ap (begins_v) e))
  em_once (local v) (given w) x y s t e = absurd t
  em_once (number n) (local v) x y s t e = absurd (cc)
  em_once (number n) (number m) x y s t e = (ap number (decimal_injective n m (omega (arith, s)) (omega (arith, t)) (cc)), (cc))
  em_once (number n) (op w es) x y s t e = absurd (differ (codes "u32_lit") (codes "u32_add") w refl refl (cc) t.0)
  em_once (number n) (bind w a b) x y s t e = absurd (cc)
  em_once (number n) (given w) x y s t e = absurd t
  em_once (op w es) (local v) x y s t e = absurd (cc)
  em_once (op w es) (number n) x y s t e = absurd (differ (codes "u32_lit") (codes "u32_add") w refl refl (cc) s.0)
  em_once (op w es) (op u fs) x y s t e =
      let k : (ems_tokens es ++ (Mark 41 ∷ [])) ++ x ≡ (ems_tokens fs ++ (Mark 41 ∷ [])) ++ y = cc in
      let i : (es ≡ fs) × (x ≡ y) = ems_once es fs x y s.2 t.2 (simp append_assoc at k) in
      let z : w ≡ u = cc in
      ((cc), i.1)
  em_once (op w es) (bind v a b) x y s t e = absurd (cc)
  em_once (op w es) (given v) x y s t e = absurd t
  em_once (bind v a b) (local w) x y s t e = absurd (true≢false (sym (ap (begins_v) e)))
  em_once (bind v a b) (number n) x y s t e = absurd (cc)
  em_once (bind v a b) (op w es) x y s t e = absurd (cc)
  em_once (bind v a b) (bind w c d) x y s t e =
      let k : (em_tokens a ++ (Word (codes "in") ∷ em_tokens b)) ++ x ≡ (em_tokens c ++ (Word (codes "in") ∷ em_tokens d)) ++ y = cc in
      let i : (a ≡ c) × (Word (codes "in") ∷ (em_tokens b ++ x) ≡ Word (codes "in") ∷ (em_tokens d ++ y)) = em_once a c _ _ s.1 t.1 (simp append_assoc at k) in
      let j : (b ≡ d) × (x ≡ y) = em_once b d x y s.2 t.2 (cc (i.1)) in
      (bind_same v w a c b d (var_once v w s.0 t.0 (cc)) i.0 j.0, j.1)
  em_once (bind v a b) (given w) x y s t e = absurd t
  em_once (given v) b x y s t e = absurd s

  ems_once : (es fs : Ems) (x y : List Token) → SpelledEms es → SpelledEms fs → ems_tokens es ++ (Mark 41 ∷ x) ≡ ems_tokens fs ++ (Mark 41 ∷ y) → (es ≡ fs) × (x ≡ y)
  ems_once no_ems no_ems x y s t e = (refl, (cc))
  ems_once no_ems (em f fs) x y s t e = absurd (no_close f x (ems_tokens fs ++ (Mark 41 ∷ y)) t.1 (e ∙ append_assoc (em_tokens f) (ems_tokens fs) (Mark 41 ∷ y)))
  ems_once (em f fs) no_ems x y s t e = absurd (no_close f y (ems_tokens fs ++ (Mark 41 ∷ x)) s.1 (sym e ∙ append_assoc (em_tokens f) (ems_tokens fs) (Mark 41 ∷ x)))
  ems_once (em a es) (em b fs) x y s t e =
      let p : (a ≡ b) × (ems_tokens es ++ (Mark 41 ∷ x) ≡ ems_tokens fs ++ (Mark 41 ∷ y)) =
      em_once a b _ _ s.1 t.1 (sym (append_assoc (em_tokens a) (ems_tokens es) (Mark 41 ∷ x)) ∙ e ∙ append_assoc (em_tokens b) (ems_tokens fs) (Mark 41 ∷ y)) in
      let i : (es ≡ fs) × (x ≡ y) = ems_once es fs x y s.2 t.2 p.1 in
      ((cc), i.1)

-- a text is the text of one type
type_once : (t u : ValType) → type_text t ≡ type_text u → t ≡ u
type_once U32 U32 e = refl

-- a parameter from its parts
abbrev mk_par : EmVar → ValType → EmPar
mk_par x t = record { var = x; type = t }

-- parameters with the same parts are the same
par_from : (p q : EmPar) → p.var ≡ q.var → p.type ≡ q.type → p ≡ q
par_from p q e f = ap (λ x. mk_par x p.type) e ∙ ap (mk_par q.var) f

-- tokens begin one parameter
par_once : (p q : EmPar) (x y : List Token) → SpelledVar p.var → SpelledVar q.var → par_tokens p ++ x ≡ par_tokens q ++ y → (p ≡ q) × (x ≡ y)
par_once p q x y s t e = (par_from p q (var_once p.var q.var s t (cc)) (type_once p.type q.type (cc)), (cc))

-- tokens before a colon begin one list of parameters
more_once : (ps qs : List EmPar) (x y : List Token) → SpelledPars ps → SpelledPars qs → flat_map par_tokens ps ++ (Mark 58 ∷ x) ≡ flat_map par_tokens qs ++ (Mark 58 ∷ y) → (ps ≡ qs) × (x ≡ y)
more_once [] [] x y s t e = (refl, (cc))
more_once [] (q ∷ qs) x y s t e = absurd (true≢false (ap (starts 58) e))
more_once (p ∷ ps) [] x y s t e = absurd (true≢false (ap (starts 40) e))
more_once (p ∷ ps) (q ∷ qs) x y s t e =
    let h : (p ≡ q) × (flat_map par_tokens ps ++ (Mark 58 ∷ x) ≡ flat_map par_tokens qs ++ (Mark 58 ∷ y)) = par_once p q _ _ s.0 t.0 e in
    let i : (ps ≡ qs) × (x ≡ y) = more_once ps qs x y s.1 t.1 h.1 in
    ((cc), i.1)

-- the same, with the form of no parameters
pars_once : (ps qs : List EmPar) (x y : List Token) → SpelledPars ps → SpelledPars qs → pars_tokens ps ++ (Mark 58 ∷ x) ≡ pars_tokens qs ++ (Mark 58 ∷ y) → (ps ≡ qs) × (x ≡ y)
pars_once [] [] x y s t e = (refl, (cc))
pars_once [] (q ∷ qs) x y s t e = absurd (true≢false (ap (then_word 95) e))
pars_once (p ∷ ps) [] x y s t e = absurd (true≢false (ap (then_word 118) e))
pars_once (p ∷ ps) (q ∷ qs) x y s t e = more_once (p ∷ ps) (q ∷ qs) x y s t e

-- a definition from its parts
abbrev mk_def : List ℕ → List EmPar → ValType → Em → EmDef
mk_def n ps t e = record { name = n; params = ps; returns = t; body = e }

-- definitions with the same parts are the same
def_from : (d g : EmDef) → d.name ≡ g.name → d.params ≡ g.params → d.returns ≡ g.returns → d.body ≡ g.body → d ≡ g
def_from d g a b c e = ap (λ n. mk_def n d.params d.returns d.body) a ∙ ap (λ p. mk_def g.name p d.returns d.body) b ∙ ap (λ t. mk_def g.name g.params t d.body) c ∙ ap (mk_def g.name g.params g.returns) e

-- tokens begin one definition
def_once : (d g : EmDef) (x y : List Token) → SpelledPars d.params → SpelledEm d.body → SpelledPars g.params → SpelledEm g.body → def_tokens d ++ x ≡ def_tokens g ++ y → (d ≡ g) × (x ≡ y)
def_once d g x y s1 s2 t1 t2 e =
    let n : d.name ≡ g.name = cc in
    let k : pars_tokens d.params ++ (Mark 58 ∷ Word (type_text d.returns) ∷ Mark 61 ∷ em_tokens d.body) ++ x ≡ pars_tokens g.params ++ (Mark 58 ∷ Word (type_text g.returns) ∷ Mark 61 ∷ em_tokens g.body) ++ y = cc in
    let p : (d.params ≡ g.params) × (Word (type_text d.returns) ∷ Mark 61 ∷ (em_tokens d.body ++ x) ≡ Word (type_text g.returns) ∷ Mark 61 ∷ (em_tokens g.body ++ y)) = pars_once d.params g.params _ _ s1 t1 (simp append_assoc at k) in
    let b : (d.body ≡ g.body) × (x ≡ y) = em_once d.body g.body x y s2 t2 (cc (p.1)) in
    (def_from d g n p.0 (type_once d.returns g.returns (cc (p.1))) b.0, b.1)

-- tokens are those of one list of definitions
defs_once : (ds gs : List EmDef) → SpelledDefs ds → SpelledDefs gs → flat_map def_tokens ds ≡ flat_map def_tokens gs → ds ≡ gs
defs_once [] [] s t e = refl
defs_once [] (g ∷ gs) s t e = absurd (cc)
defs_once (d ∷ ds) [] s t e = absurd (cc)
defs_once (d ∷ ds) (g ∷ gs) s t e =
    let p : (d ≡ g) × (flat_map def_tokens ds ≡ flat_map def_tokens gs) = def_once d g _ _ s.0.1 s.0.2 t.0.1 t.0.2 e in
    let i : ds ≡ gs = defs_once ds gs s.1 t.1 p.1 in
    cc

-- a module from its parts
abbrev mk_module : List ℕ → List EmDef → Module
mk_module n ds = record { name = n; defs = ds }

-- modules with the same parts are the same
module_from : (m n : Module) → m.name ≡ n.name → m.defs ≡ n.defs → m ≡ n
module_from m n a b = ap (λ x. mk_module x m.defs) a ∙ ap (mk_module n.name) b

-- no text reads as two modules
pub reads_once : (text : List ℕ) (m n : Module) → Reads text m → Reads text n → m ≡ n
reads_once text m n p q =
    let e : Some (module_tokens m) ≡ Some (module_tokens n) = sym p.tokens ∙ q.tokens in
    let d : flat_map def_tokens m.defs ≡ flat_map def_tokens n.defs = cc in
    module_from m n (cc) (defs_once m.defs n.defs p.spelled.defs q.spelled.defs d)
