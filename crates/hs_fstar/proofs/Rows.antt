-- Small texts and their tokens, computed.
use Rattle.std.proofs.Common.{◌≡◌, ℕ, List, [], ◌∷◌, ◌++◌, Some, None, codes, refl}
use Rattle.std.specs.Fmt.{digits}
use Rattle.hs_base.specs.Names.{is_upper, is_letter, is_digit, begins_name, is_word_byte}
use Rattle.hs_first_tree.specs.Value.{U32}
use Rattle.hs_first_em.specs.Plain.{EmVar, Em, local, number, op, bind, no_ems, em, EmPar, EmDef, Module}
use Rattle.hs_fstar.specs.Tokens.{Word, tokens_of}
use Rattle.hs_fstar.specs.Reads.{module_tokens}
use Rattle.hs_fstar.specs.Layout.{layout, em_text}

-- a local `a` with this number
abbrev a : ℕ → EmVar
a k = record { name = codes "a"; number = k }

-- a local `b` with this number
abbrev b : ℕ → EmVar
b k = record { name = codes "b"; number = k }

-- a u32 parameter
abbrev par : EmVar → EmPar
par x = record { var = x; type = U32 }

-- the sum of two locals
abbrev add : EmDef
add = record { name = codes "add"; params = par (a 0) ∷ par (b 1) ∷ []; returns = U32; body = op (codes "u32_add") (em (local (a 0)) (em (local (b 1)) no_ems)) }

-- the number 7, from no parameters
abbrev seven : EmDef
seven = record { name = codes "seven"; params = []; returns = U32; body = number 7 }

-- the module of the two
abbrev sums : Module
sums = record { name = codes "Add"; defs = add ∷ seven ∷ [] }

-- a line
abbrev line : List ℕ → List ℕ
line t = t ++ (10 ∷ [])

-- its lines
abbrev sums_text : List ℕ
sums_text =
    line (codes "module Add") ++ (line [] ++ (line (codes "open Hs_prelude") ++ (line []
    ++ (line (codes "let f_add (v_a_0 : u32) (v_b_1 : u32) : u32 =") ++ (line (codes "  (u32_add v_a_0 v_b_1)") ++ (line []
    ++ (line (codes "let f_seven (_ : unit) : u32 =") ++ line (codes "  (u32_lit 7)"))))))))

-- the module's text
sums_layout : layout sums ≡ sums_text
unfolding digits
sums_layout = refl

-- and its tokens
sums_tokens : tokens_of sums_text ≡ Some (module_tokens sums)
unfolding digits is_word_byte begins_name is_letter is_upper is_digit
sums_tokens = refl

-- blanks and a comment between tokens change none
spaced : tokens_of (codes "let  x(* : = ) *):u32") ≡ tokens_of (codes "let x : u32")
unfolding is_word_byte begins_name is_letter is_upper is_digit
spaced = refl

-- a comment parts two words
parted : tokens_of (codes "ab(**)c") ≡ Some (Word (codes "ab") ∷ Word (codes "c") ∷ [])
unfolding is_word_byte begins_name is_letter is_upper is_digit
parted = refl

-- a comment that isn't closed has no tokens
unclosed : tokens_of (codes "x (* y") ≡ None
unfolding is_word_byte begins_name is_letter is_upper is_digit
unclosed = refl

-- nor has one whose opening is no closing
short : tokens_of (codes "(*)") ≡ None
unfolding is_word_byte begins_name is_letter is_upper is_digit
short = refl

-- nor one that holds another
nested : tokens_of (codes "(* (*) *)") ≡ None
unfolding is_word_byte begins_name is_letter is_upper is_digit
nested = refl

-- nor a star outside comments
star : tokens_of (codes "x * y") ≡ None
unfolding is_word_byte begins_name is_letter is_upper is_digit
star = refl

-- a local `x`
abbrev x : ℕ → EmVar
x k = record { name = codes "x"; number = k }

-- the number 1 added to a local
abbrev one_more : EmVar → Em
one_more y = op (codes "u32_add") (em (local y) (em (number 1) no_ems))

-- a second `let` of a local hides the first
abbrev inc : EmDef
inc = record { name = codes "inc"; params = par (a 0) ∷ []; returns = U32; body = bind (x 1) (local (a 0)) (bind (x 1) (one_more (x 1)) (local (x 1))) }

-- its module
abbrev incs : Module
incs = record { name = codes "Inc"; defs = inc ∷ [] }

-- its lines
abbrev incs_text : List ℕ
incs_text =
    line (codes "module Inc") ++ (line [] ++ (line (codes "open Hs_prelude") ++ (line []
    ++ (line (codes "let f_inc (v_a_0 : u32) : u32 =") ++ (line (codes "  let v_x_1 = v_a_0 in")
    ++ (line (codes "  let v_x_1 = (u32_add v_x_1 (u32_lit 1)) in") ++ line (codes "  v_x_1")))))))

-- the module's text
incs_layout : layout incs ≡ incs_text
unfolding digits
incs_layout = refl

-- and its tokens
incs_tokens : tokens_of incs_text ≡ Some (module_tokens incs)
unfolding digits is_word_byte begins_name is_letter is_upper is_digit
incs_tokens = refl

-- a `let` that is bound to a `let` has it on lines of its own
abbrev inner : Em
inner = bind (x 2) (bind (x 1) (local (a 0)) (one_more (x 1))) (local (x 2))

-- its lines, behind an indent of 2
inner_text : line (em_text 2 inner) ≡ line (codes "let v_x_2 =") ++ (line (codes "    let v_x_1 = v_a_0 in") ++ (line (codes "    (u32_add v_x_1 (u32_lit 1))") ++ (line (codes "  in") ++ line (codes "  v_x_2"))))
unfolding digits
inner_text = refl
