-- Texts of lists, item by item: behind one more item one less is left.
use Rattle.std.proofs.Common.{◌≡◌, ℕ, ◌+◌, ◌<◌, ◌≤◌, List, [], ◌∷◌, ◌++◌, map, length, get_or, drop, append_assoc, append-nil, codes, Result, Ok, Err, OnOk, ap, refl, sym, ◌∙◌, if◌then◌else◌}
use Rattle.std.specs.Result.{is_ok}
use Rattle.hs_values.specs.declared.types.TypeDef.{TypeDef}
use Rattle.hs_tree.specs.Plain.{Name, Block, Param, Function}
use Rattle.hs_tree.specs.Text.{Form, bytes_of, first_bytes, next_bytes, lines_of, framed, shown_rest, shown_param, shown_params, shown_function}
use Rattle.hs_tree.specs.Pending.{bytes_on}
use Rattle.hs_tree.proofs.Pieces.{left_from, none_left, whole_bytes}

module _ {E : Type 0} (table : List TypeDef) where
  -- parameters
  pub params_more : (of : E → Param) (xs : List E) (i : ℕ) (x : E) (old mid new all : List ℕ) → i < length xs → x ≡ get_or xs i x → mid ≡ old ++ 32 ∷ [] → new ≡ mid ++ bytes_of (shown_param table (of x)) → old ++ next_bytes (shown_params table (map of (drop i xs))) ≡ all → new ++ next_bytes (shown_params table (map of (drop (i + 1) xs))) ≡ all
  params_more of xs i x old mid new all h e m n k =
      let rest : List ℕ = next_bytes (shown_params table (map of (drop (i + 1) xs))) in
      ap (λ y. y ++ rest) (n ∙ ap (λ y. y ++ bytes_of (shown_param table (of x))) m)
      ∙ append_assoc (old ++ 32 ∷ []) (bytes_of (shown_param table (of x))) rest
      ∙ append_assoc old (32 ∷ []) (bytes_of (shown_param table (of x)) ++ rest)
      ∙ ap (λ y. old ++ next_bytes (shown_params table (map of y))) (sym (left_from i xs x h e)) ∙ k

  -- functions
  pub functions_more : (of : E → Function) (xs : List E) (i : ℕ) (x : E) (old new all : List ℕ) → i < length xs → x ≡ get_or xs i x → new ≡ old ++ (bytes_of (shown_function table (of x)) ++ 10 ∷ []) → old ++ lines_of (map (shown_function table) (map of (drop i xs))) ≡ all → new ++ lines_of (map (shown_function table) (map of (drop (i + 1) xs))) ≡ all
  functions_more of xs i x old new all h e n k =
      let rest : List ℕ = lines_of (map (shown_function table) (map of (drop (i + 1) xs))) in
      let line : List ℕ = bytes_of (shown_function table (of x)) in
      ap (λ y. y ++ rest) n
      ∙ append_assoc old (line ++ 10 ∷ []) rest
      ∙ ap (λ y. old ++ y) (append_assoc line (10 ∷ []) rest)
      ∙ ap (λ y. old ++ lines_of (map (shown_function table) (map of y))) (sym (left_from i xs x h e)) ∙ k

  -- behind the last one none is left
  pub params_end : {T R : Type 0} (r : Result T R) (of : E → Param) (xs : List E) (i : ℕ) (old new all : List ℕ) → length xs ≤ i → new ≡ (if is_ok r then old ++ 41 ∷ [] else old) → old ++ next_bytes (shown_params table (map of (drop i xs))) ≡ all → OnOk r (new ≡ all)
  params_end (Err e) of xs i old new all h n k = tt
  params_end (Ok t) of xs i old new all h n k =
      n ∙ ap (λ y. old ++ next_bytes (shown_params table (map of y))) (sym (none_left i xs h)) ∙ k

  pub functions_end : (of : E → Function) (xs : List E) (i : ℕ) (old all : List ℕ) → length xs ≤ i → old ++ lines_of (map (shown_function table) (map of (drop i xs))) ≡ all → old ≡ all
  functions_end of xs i old all h k =
      sym (append-nil old) ∙ ap (λ y. old ++ lines_of (map (shown_function table) (map of y))) (sym (none_left i xs h)) ∙ k

  -- the lines of a list that is held elsewhere, behind nothing
  pub functions_whole : (of : E → Function) (held : List TypeDef) (xs ys : List E) (old new : List ℕ) → old ≡ [] → held ≡ table → xs ≡ ys → new ≡ old ++ lines_of (map (shown_function held) (map of xs)) → new ≡ lines_of (map (shown_function table) (map of ys))
  functions_whole of held xs ys old new o t e n =
      n ∙ ap (λ y. y ++ lines_of (map (shown_function held) (map of xs))) o
      ∙ ap (λ y. lines_of (map (shown_function y) (map of xs))) t
      ∙ ap (λ y. lines_of (map (shown_function table) (map of y))) e

  -- parameters, by names that are held elsewhere
  pub params_held : (of : List Name → E → Param) (held names : List Name) (xs ys : List E) (old new : List ℕ) → held ≡ names → xs ≡ ys → new ≡ old ++ first_bytes (shown_params table (map (of held) xs)) → new ≡ old ++ first_bytes (shown_params table (map (of names) ys))
  params_held of held names xs ys old new h e n =
      n ∙ ap (λ y. old ++ first_bytes (shown_params table (map (of y) xs))) h
      ∙ ap (λ y. old ++ first_bytes (shown_params table (map (of names) y))) e

-- a form behind a space, once nothing is left to be written
pub whole : (f : Form) (text left old : List ℕ) → left ≡ [] → text ++ left ≡ old ++ 32 ∷ bytes_on f [] → text ≡ old ++ 32 ∷ bytes_of f
whole f text left old e k = sym (append-nil text) ∙ ap (λ x. text ++ x) (sym e) ∙ k ∙ ap (λ x. old ++ 32 ∷ x) (whole_bytes f)

-- a block, by names that are held elsewhere
pub block_held : (table : List TypeDef) (of : List Name → Block) (held names : List Name) (old new : List ℕ) → held ≡ names → new ≡ old ++ 32 ∷ bytes_of (framed (shown_rest table (of held))) → new ≡ old ++ 32 ∷ bytes_of (framed (shown_rest table (of names)))
block_held table of held names old new h n = n ∙ ap (λ y. old ++ 32 ∷ bytes_of (framed (shown_rest table (of y)))) h

-- the pieces of a function's line, from the bracket to the line feed
abbrev pub line_bytes : (name ps type body : List ℕ) → List ℕ
line_bytes name ps type body = (codes "(fn " ++ (name ++ (codes " (" ++ (ps ++ 32 ∷ (type ++ 32 ∷ (body ++ 41 ∷ [])))))) ++ 10 ∷ []

pub function_line : {T R : Type 0} (r : Result T R) (name ps type body old a b c d e f g h : List ℕ) → a ≡ old ++ codes "(fn " → b ≡ a ++ name → c ≡ b ++ codes " (" → d ≡ c ++ ps → e ≡ d ++ codes " " → f ≡ e ++ type → g ≡ f ++ 32 ∷ body → h ≡ (if is_ok r then g ++ codes ")\n" else g) → OnOk r (h ≡ old ++ line_bytes name ps type body)
function_line (Err x) name ps type body old a b c d e f g h ea eb ec ed ee ef eg eh = tt
function_line (Ok x) name ps type body old a b c d e f g h ea eb ec ed ee ef eg eh =
    eh ∙ rw (eg, ef, ee, ed, ec, eb, ea) (simp (append_assoc) refl)
