-- Nodes in a list, one after the other.
use Rattle.std.proofs.Common.{ℕ, suc, ◌+◌, ◌≡◌, ◌<◌, refl, sym, ◌∙◌, ap, ap₂, cond, Bool, true, false, Option, Some, None, List, [], ◌∷◌, ◌++◌, map, length, get_or, drop, drop-cons, arith, nat_eq}
use Rattle.hs_base.specs.declared.rule.Rule.{Rule}
use Rattle.hs_syntax.specs.declared.span.Span.{Span}
use Rattle.hs_marks.specs.declared.breach.Breach.{Breach}
use Rattle.hs_marks.specs.First.{or_else, or_own, breach}
use Rattle.hs_limits.specs.Outline.{Outline, Node, Surplus, none, join, node, parameter, statement, part, one, all, numbered, rise}
use Rattle.hs_limits.specs.Breaks.{broken, too_high, too_many}
use Rattle.hs_limits.specs.Walk.{first_high, high, first_in, first_chain, high_chain, reach, is_limit, listed}

-- the nodes that are left, from number i on
abbrev pub row : Option ℕ → Surplus → ℕ → List Node → Outline
row limit what i [] = none
row limit what i (n ∷ ns) = join (node n.at n.kind (cond (is_limit limit i) (Some what) None) n.parts) (row limit what (i + 1) ns)

all_row : (what : Surplus) (i : ℕ) (ns : List Node) → all ns ≡ row None what i ns
all_row what i [] = refl
all_row what i (n ∷ ns) = ap (join (one n)) (all_row what (i + 1) ns)

some_row : (limit : ℕ) (what : Surplus) (i : ℕ) (ns : List Node) → numbered limit what i ns ≡ row (Some limit) what i ns
some_row limit what i [] = refl
some_row limit what i (n ∷ ns) = ap (join (node n.at n.kind (cond (nat_eq i limit) (Some what) None) n.parts)) (some_row limit what (i + 1) ns)

pub all_of : {E : Type 0} (f : E → Node) (limit : Option ℕ) (what : Surplus) (xs : List E) → first_in (listed limit what (map f xs)) ≡ first_in (row limit what 0 (map f (drop 0 xs)))
all_of f None what xs = ap first_in (all_row what 0 (map f xs))
all_of f (Some limit) what xs = ap first_in (some_row limit what 0 (map f xs))

next : {E : Type 0} (f : E → Node) (i : ℕ) (xs : List E) (x : E) → i < length xs → x ≡ get_or xs i x → map f (drop i xs) ≡ f x ∷ map f (drop (i + 1) xs)
next f i xs x h e =
    let more : suc i ≡ i + 1 = omega arith in
    ap (map f) (drop-cons xs i x h) ∙ ap (λ y. f y ∷ map f (drop (suc i) xs)) (sym e) ∙ ap (λ k. f x ∷ map f (drop k xs)) more

only_own : (parts rest : Option Breach) (at : Span) (high : List Rule) (what : Surplus) (b : Bool) (p : Breach) → or_own parts (breach at (high ++ [])) ≡ None
    → breach at (cond b (too_many (Some what)) []) ≡ Some p → or_else (or_own parts (breach at (high ++ too_many (cond b (Some what) None)))) rest ≡ Some p
only_own None rest at [] parameter true p e g = g
only_own None rest at [] statement true p e g = g
only_own None rest at [] part true p e g = g
only_own None rest at [] what false p e g = absurd (cc)
only_own None rest at (r ∷ rs) what b p e g = absurd (cc)
only_own (Some q) rest at [] what b p e g = absurd (cc)
only_own (Some q) rest at (r ∷ rs) what b p e g = absurd (cc)

-- an item that breaks nothing but is one too many
pub past_limit : {E : Type 0} (f : E → Node) (limit : Option ℕ) (what : Surplus) (i : ℕ) (xs : List E) (x : E) (told : Option Breach) (s : Span) (b : Bool) (p : Breach) → i < length xs → x ≡ get_or xs i x
    → told ≡ first_in (row limit what i (map f (drop i xs))) → first_in (one (f x)) ≡ None → b ≡ is_limit limit i → (f x).at ≡ s → breach s (cond b (too_many (Some what)) []) ≡ Some p → told ≡ Some p
past_limit f limit what i xs x told s b p h e t k l m g =
    t ∙ ap (λ ns. first_in (row limit what i ns)) (next f i xs x h e)
    ∙ ap (λ b. or_else (or_own (first_in (f x).parts) (breach (f x).at (broken (f x).kind (cond b (Some what) None) (high (f x).parts 0)))) (first_in (row limit what (i + 1) (map f (drop (i + 1) xs))))) (sym l)
    ∙ only_own (first_in (f x).parts) (first_in (row limit what (i + 1) (map f (drop (i + 1) xs)))) (f x).at (too_high (f x).kind (rise (f x).kind (high (f x).parts 0))) what b p k
    (ap (λ s. breach s (cond b (too_many (Some what)) [])) m ∙ g)

pub height_of : {E : Type 0} (f : E → Node) (limit : Option ℕ) (what : Surplus) (xs : List E) (h : ℕ) → high (listed limit what (map f xs)) h ≡ high (row limit what 0 (map f (drop 0 xs))) h
height_of f None what xs h = ap (λ o. high o h) (all_row what 0 (map f xs))
height_of f (Some limit) what xs h = ap (λ o. high o h) (some_row limit what 0 (map f xs))

-- an item of a chain that breaks nothing: what its node breaks, else what follows
here : {E : Type 0} (f : E → Node) (start i h k : ℕ) (xs : List E) (x : E) (s : Span) (told : Option Breach) → i < length xs → x ≡ get_or xs i x → told ≡ first_chain start (map f (drop i xs)) h
    → first_in (one (f x)) ≡ None → k ≡ high (one (f x)) h → s ≡ reach start (f x) → told ≡ or_else (first_high s k) (first_chain start (map f (drop (i + 1) xs)) (suc k))
here f start i h k xs x s told l e t a b r =
    t ∙ ap (λ ns. first_chain start ns h) (next f i xs x l e)
    ∙ ap (λ q. or_else q (or_else (first_high (reach start (f x)) (high (one (f x)) h)) (first_chain start (map f (drop (i + 1) xs)) (suc (high (one (f x)) h))))) a
    ∙ ap₂ (λ s k. or_else (first_high s k) (first_chain start (map f (drop (i + 1) xs)) (suc k))) (sym r) (sym b)

-- an item of a chain whose node is too high
pub chain_stops : {E : Type 0} (f : E → Node) (start i h k : ℕ) (xs : List E) (x : E) (s : Span) (told : Option Breach) (p : Breach) → i < length xs → x ≡ get_or xs i x → told ≡ first_chain start (map f (drop i xs)) h
    → first_in (one (f x)) ≡ None → k ≡ high (one (f x)) h → s ≡ reach start (f x) → first_high s k ≡ Some p → told ≡ Some p
chain_stops f start i h k xs x s told p l e t a b r g =
    here f start i h k xs x s told l e t a b r ∙ ap (λ q. or_else q (first_chain start (map f (drop (i + 1) xs)) (suc k))) g

-- an item of a chain whose node is not
pub chain_goes : {E : Type 0} (f : E → Node) (start i h k : ℕ) (xs : List E) (x : E) (s : Span) (told : Option Breach) → i < length xs → x ≡ get_or xs i x → told ≡ first_chain start (map f (drop i xs)) h
    → first_in (one (f x)) ≡ None → k ≡ high (one (f x)) h → s ≡ reach start (f x) → first_high s k ≡ None → told ≡ first_chain start (map f (drop (i + 1) xs)) (suc k)
chain_goes f start i h k xs x s told l e t a b r g =
    here f start i h k xs x s told l e t a b r ∙ ap (λ q. or_else q (first_chain start (map f (drop (i + 1) xs)) (suc k))) g

pub chain_rises : {E : Type 0} (f : E → Node) (i h k : ℕ) (xs : List E) (x : E) (height : ℕ) → i < length xs → x ≡ get_or xs i x → height ≡ high_chain (map f (drop i xs)) h
    → k ≡ high (one (f x)) h → height ≡ high_chain (map f (drop (i + 1) xs)) (suc k)
chain_rises f i h k xs x height l e t b =
    t ∙ ap (λ ns. high_chain ns h) (next f i xs x l e) ∙ ap (λ k. high_chain (map f (drop (i + 1) xs)) (suc k)) (sym b)
