-- One token of lookahead is enough for the language.
use Rattle.std.proofs.Common.{◌≡◌, ℕ, zero, suc, true, false, List, [], ◌∷◌, ◌++◌, ◌&&◌, ◌||◌, cond, refl, ap}
use Rattle.hs_grammar.specs.Kinds.{disjoint}
use Rattle.hs_grammar.specs.Lookahead.{Fits, FitsRule, empty, begin, go_on}
use Rattle.hs_grammar.specs.Combinators.{word, ◌&◌, ◌>>◌, ◌<<◌}
use Rattle.hs_grammar.proofs.Fits.{fits_by}
use Rattle.hs_front.specs.declared.symbol.Kind.TheVariants.{Plus, Comma, RightParenthesis, RightBrace, Semicolon, Equals}
use Rattle.hs_front.specs.declared.syntax.Span.{Span}
use Rattle.hs_front.specs.declared.syntax.Body.{Body}
use Rattle.hs_front.specs.Lexis.{lexis, decides}
use Rattle.hs_front.specs.Written.{Rule, AFile, rules, F, up_to, local, prim, addend, sum, param, next_param, params, assigned, mutable, binding, visibility, title, opening}
use Rattle.hs_front.specs.Reading.{more, behind_name, numeric, body_read, file_read, grammar, tables}
use Rattle.hs_front.specs.UpTo.{up_to_empty, up_to_begins, up_to_goes_on, up_to_fits, disjoint-none, disjoint-append, disjoint-cond}

abbrev K : Type 0
K = lexis.kind

-- ---- '+' Prim, ',' Param

pub addend_full : empty tables addend ≡ false
unfolding addend
addend_full = refl

pub next_param_full : empty tables next_param ≡ false
unfolding next_param
next_param_full = refl

addend_fits : Fits tables addend
unfolding addend prim local
addend_fits = fits_by lexis rules decides tables addend refl

addend_ends : (zs : List K) → disjoint lexis (go_on tables addend) zs ≡ true
unfolding addend prim local
addend_ends zs = refl

next_ends : (zs : List K) → disjoint lexis (go_on tables next_param) zs ≡ true
unfolding next_param param local
next_ends zs = refl

next_fits : Fits tables next_param
unfolding next_param param local
next_fits = fits_by lexis rules decides tables next_param refl

-- ---- sums

more_fits : Fits tables more
unfolding more
more_fits = up_to_fits addend addend_full 61 (λ n. addend_ends (begin tables (up_to n addend))) addend_fits

pub more_empty : empty tables more ≡ true
unfolding more
more_empty = up_to_empty addend addend_full 61

plus_begins : (zs : List K) → disjoint lexis (Plus ∷ []) zs ≡ true → disjoint lexis (begin tables addend) zs ≡ true
unfolding addend
plus_begins zs e = e

-- a `+` alone may go on
more_goes_on : (zs : List K) → disjoint lexis (Plus ∷ []) zs ≡ true → disjoint lexis (go_on tables more) zs ≡ true
unfolding more
more_goes_on zs e = up_to_goes_on addend addend_full 61 zs (addend_ends zs) (plus_begins zs e)

prim_ends : (zs : List K) → disjoint lexis (go_on tables prim) zs ≡ true
unfolding prim local
prim_ends zs = refl

prim_fits : Fits tables prim
unfolding prim local
prim_fits = fits_by lexis rules decides tables prim refl

sum_fits : Fits tables sum
unfolding sum more
sum_fits = (prim_fits, more_fits, prim_ends (begin tables more))

sum_goes_on : (zs : List K) → disjoint lexis (Plus ∷ []) zs ≡ true → disjoint lexis (go_on tables sum) zs ≡ true
unfolding sum more
sum_goes_on zs e = disjoint-append (go_on tables more) (cond (empty tables more) (go_on tables prim) []) zs (more_goes_on zs e) (disjoint-cond (empty tables more) (go_on tables prim) zs (prim_ends zs))

-- ---- parameters

comma_begins : (zs : List K) → disjoint lexis (Comma ∷ []) zs ≡ true → disjoint lexis (begin tables next_param) zs ≡ true
unfolding next_param
comma_begins zs e = e

param_ends : (zs : List K) → disjoint lexis (go_on tables param) zs ≡ true
unfolding param local
param_ends zs = refl

param_fits : Fits tables param
unfolding param local
param_fits = fits_by lexis rules decides tables param refl

param_begins : disjoint lexis (begin tables param) (RightParenthesis ∷ []) ≡ true
unfolding param local
param_begins = refl

param_full : empty tables param ≡ false
unfolding param local
param_full = refl

some_params : Fits tables (up_to 31 next_param)
some_params = up_to_fits next_param next_param_full 31 (λ n. next_ends (begin tables (up_to n next_param))) next_fits

params_fits : Fits tables params
unfolding params
params_fits = (
  (param_fits, some_params, param_ends (begin tables (up_to 31 next_param))),
  tt,
  disjoint-none (begin tables param ++ cond (empty tables param) (begin tables (up_to 31 next_param)) []),
  ap (λ b. b && empty tables (up_to 31 next_param)) param_full,
)

-- a comma alone may go on, or where there is none a parameter
params_go_on : disjoint lexis (go_on tables params) (RightParenthesis ∷ []) ≡ true
unfolding params
params_go_on =
    let zs : List K = RightParenthesis ∷ [] in
    let rest = up_to_goes_on next_param next_param_full 31 zs (next_ends zs) (comma_begins zs refl) in
    let items = disjoint-append (go_on tables (up_to 31 next_param)) (cond (empty tables (up_to 31 next_param)) (go_on tables param) []) zs rest (disjoint-cond (empty tables (up_to 31 next_param)) (go_on tables param) zs (param_ends zs)) in
    let starts = up_to_begins next_param next_param_full 31 zs (comma_begins zs refl) in
    disjoint-append (go_on tables (up_to 31 next_param) ++ cond (empty tables (up_to 31 next_param)) (go_on tables param) [] ++ []) (begin tables param ++ cond (empty tables param) (begin tables (up_to 31 next_param)) []) zs
    (disjoint-append (go_on tables (up_to 31 next_param) ++ cond (empty tables (up_to 31 next_param)) (go_on tables param) []) [] zs items refl)
    (disjoint-append (begin tables param) (cond (empty tables param) (begin tables (up_to 31 next_param)) []) zs param_begins (disjoint-cond (empty tables param) (begin tables (up_to 31 next_param)) zs starts))

-- ---- bodies

assigned_fits : Fits tables assigned
unfolding assigned
assigned_fits = (tt, (sum_fits, tt, sum_goes_on (Semicolon ∷ []) refl), refl)

mutable_ends : disjoint lexis (go_on tables mutable) (begin tables (param & assigned)) ≡ true
unfolding mutable param local assigned
mutable_ends = refl

binding_fits : Fits tables binding
unfolding binding mutable
binding_fits = (tt, (fits_by lexis rules decides tables mutable refl, (param_fits, assigned_fits, param_ends (begin tables assigned)), mutable_ends), refl)

numeric_fits : Fits tables numeric
unfolding numeric
numeric_fits = (tt, more_fits, refl)

body_full : (n : ℕ) → empty tables (body_read n) ≡ false
unfolding body_read sum prim local binding numeric
body_full zero = refl
body_full (suc n) = refl

binding_ends : (zs : List K) → disjoint lexis (go_on tables binding) zs ≡ true
unfolding binding mutable param assigned sum prim local
binding_ends zs = refl

assigned_ends : (zs : List K) → disjoint lexis (go_on tables assigned) zs ≡ true
unfolding assigned sum prim local
assigned_ends zs = refl

assigned_full : empty tables assigned ≡ false
unfolding assigned
assigned_full = refl

assigned_begins : (zs : List K) → disjoint lexis (Equals ∷ []) zs ≡ true → disjoint lexis (begin tables assigned) zs ≡ true
unfolding assigned
assigned_begins zs e = e

-- behind a name a `+` or a `=` may go on
behind_goes_on : (rest : F Body) (zs : List K) → empty tables rest ≡ false → disjoint lexis (go_on tables rest) zs ≡ true
    → disjoint lexis (Plus ∷ []) zs ≡ true → disjoint lexis (Equals ∷ []) zs ≡ true → disjoint lexis (go_on tables (behind_name rest)) zs ≡ true
unfolding behind_name
behind_goes_on rest zs full ends e f =
    let value = disjoint-append (go_on tables rest) (cond (empty tables rest) (go_on tables assigned) []) zs ends (disjoint-cond (empty tables rest) (go_on tables assigned) zs (assigned_ends zs)) in
    let starts = disjoint-append (begin tables assigned) (cond (empty tables assigned) (begin tables rest) []) zs (assigned_begins zs f) (ap (λ c. disjoint lexis (cond c (begin tables rest) []) zs) assigned_full) in
    disjoint-append (go_on tables rest ++ cond (empty tables rest) (go_on tables assigned) [] ++ go_on tables more) (cond (empty tables more) (begin tables assigned ++ cond (empty tables assigned) (begin tables rest) []) []) zs
    (disjoint-append (go_on tables rest ++ cond (empty tables rest) (go_on tables assigned) []) (go_on tables more) zs value (more_goes_on zs e))
    (disjoint-cond (empty tables more) (begin tables assigned ++ cond (empty tables assigned) (begin tables rest) []) zs starts)

local_ends : (zs : List K) → disjoint lexis (go_on tables local) zs ≡ true
unfolding local
local_ends zs = refl

numeric_goes_on : (zs : List K) → disjoint lexis (Plus ∷ []) zs ≡ true → disjoint lexis (go_on tables numeric) zs ≡ true
unfolding numeric
numeric_goes_on zs e = disjoint-append (go_on tables more) (cond (empty tables more) [] []) zs (more_goes_on zs e) (disjoint-cond (empty tables more) [] zs refl)

numeric_full : empty tables numeric ≡ false
unfolding numeric
numeric_full = refl

no_empty : (name : F (Span → Body)) (zs xs : List K) → disjoint lexis (cond ((empty tables local && empty tables name) || empty tables numeric) xs []) zs ≡ true
unfolding local numeric
no_empty name zs xs = refl

-- a `+` may go on, or a `=` behind a name
body_goes_on : (n : ℕ) (zs : List K) → disjoint lexis (Plus ∷ []) zs ≡ true → disjoint lexis (Equals ∷ []) zs ≡ true → disjoint lexis (go_on tables (body_read n)) zs ≡ true
unfolding body_read
body_goes_on zero zs e f = sum_goes_on zs e
body_goes_on (suc n) zs e f =
    let rest = body_goes_on n zs e f in
    let statement = disjoint-append (go_on tables (body_read n)) (cond (empty tables (body_read n)) (go_on tables binding) []) zs rest (disjoint-cond (empty tables (body_read n)) (go_on tables binding) zs (binding_ends zs)) in
    let name = behind_name (body_read n) in
    let named = disjoint-append (go_on tables name) (cond (empty tables name) (go_on tables local) []) zs (behind_goes_on (body_read n) zs (body_full n) rest e f) (disjoint-cond (empty tables name) (go_on tables local) zs (local_ends zs)) in
    let starts = begin tables local ++ cond (empty tables local) (begin tables name) [] in
    let other = disjoint-append (go_on tables name ++ cond (empty tables name) (go_on tables local) [] ++ go_on tables numeric) (cond (empty tables numeric) starts []) zs
    (disjoint-append (go_on tables name ++ cond (empty tables name) (go_on tables local) []) (go_on tables numeric) zs named (numeric_goes_on zs e))
    (ap (λ c. disjoint lexis (cond c starts []) zs) numeric_full) in
    let first = go_on tables (body_read n) ++ cond (empty tables (body_read n)) (go_on tables binding) [] in
    let second = go_on tables name ++ cond (empty tables name) (go_on tables local) [] ++ go_on tables numeric ++ cond (empty tables numeric) starts [] in
    disjoint-append (first ++ second) (cond ((empty tables local && empty tables name) || empty tables numeric) (begin tables binding ++ cond (empty tables binding) (begin tables (body_read n)) []) []) zs
    (disjoint-append first second zs statement other)
    (no_empty name zs (begin tables binding ++ cond (empty tables binding) (begin tables (body_read n)) []))

-- what begins the rest behind a name
assigned_first : (rest : F Body) → disjoint lexis (begin tables assigned ++ cond (empty tables assigned) (begin tables rest) []) (begin tables more) ≡ true
unfolding assigned more up_to addend
assigned_first rest = refl

names_apart : (rest : F Body) → disjoint lexis (begin tables local ++ cond (empty tables local) (begin tables (behind_name rest)) []) (begin tables numeric) ≡ true
unfolding local numeric
names_apart rest = refl

let_apart : (rest : F Body) (name : F (Span → Body)) → disjoint lexis (begin tables binding ++ cond (empty tables binding) (begin tables rest) []) (begin tables local ++ cond (empty tables local) (begin tables name) [] ++ begin tables numeric) ≡ true
unfolding binding local numeric
let_apart rest name = refl

let_first : (rest : F Body) → (empty tables binding && empty tables rest) ≡ false
unfolding binding
let_first rest = refl

equals_first : (rest : F Body) → (empty tables assigned && empty tables rest) ≡ false
unfolding assigned
equals_first rest = refl

name_first : (name : F (Span → Body)) → (empty tables local && empty tables name) ≡ false
unfolding local
name_first name = refl

local_fits : Fits tables local
unfolding local
local_fits = tt

body_fits : (n : ℕ) → Fits tables (body_read n)
unfolding body_read behind_name
body_fits zero = sum_fits
body_fits (suc n) = (
  (binding_fits, body_fits n, binding_ends (begin tables (body_read n))),
  (
    (local_fits, ((assigned_fits, body_fits n, assigned_ends (begin tables (body_read n))), more_fits, assigned_first (body_read n), equals_first (body_read n)), local_ends (begin tables (behind_name (body_read n)))),
    numeric_fits,
    names_apart (body_read n),
    name_first (behind_name (body_read n)),
  ),
  let_apart (body_read n) (behind_name (body_read n)),
  let_first (body_read n),
)

-- ---- files

title_fits : Fits tables title
unfolding title visibility
title_fits = fits_by lexis rules decides tables title refl

title_ends : (zs : List K) → disjoint lexis (go_on tables title) zs ≡ true
unfolding title
title_ends zs = refl

opening_fits : Fits tables opening
unfolding opening
opening_fits = fits_by lexis rules decides tables opening refl

opening_ends : (zs : List K) → disjoint lexis (go_on tables opening) zs ≡ true
unfolding opening
opening_ends zs = refl

params_end : disjoint lexis (go_on tables params) (begin tables (opening >> (body_read 1024 << word RightBrace))) ≡ true
unfolding opening
params_end = params_go_on

file_fits : Fits tables file_read
unfolding file_read
file_fits = (
  title_fits,
  (params_fits, (opening_fits, (body_fits 1024, tt, body_goes_on 1024 (RightBrace ∷ []) refl refl), opening_ends (begin tables (body_read 1024 << word RightBrace))), params_end),
  title_ends (begin tables (params & (opening >> (body_read 1024 << word RightBrace)))),
)

pub fits : (N : Rule) → FitsRule tables grammar N
unfolding file_read title visibility opening body_read binding local numeric params param
fits AFile = record { fits = file_fits; empty_is = refl; begin_in = refl; go_on_in = refl }
