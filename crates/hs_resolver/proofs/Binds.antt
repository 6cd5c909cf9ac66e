-- What patterns and statements bind.
use Rattle.std.proofs.Common.{ℕ, suc, ◌+◌, ◌-◌, ◌<◌, ◌≡◌, refl, sym, ◌∙◌, ap, ap₂, subst, Bool, List, [], ◌∷◌, ◌++◌, map, drop, get_or, length, append_assoc, length-append, drop-cons, arith}
use Rattle.hs_syntax.specs.declared.span.Span.{Span}
use Rattle.hs_syntax.specs.declared.file.File.{File}
use Rattle.hs_syntax.specs.declared.pat.Pat.{Pat}
use Rattle.hs_syntax.specs.declared.exp.Variable.{Variable}
use Rattle.hs_syntax.specs.declared.exp.Variable.TheVariants as variable
use Rattle.hs_syntax.specs.declared.exp.Arg.TheOpen.{Stmt-F}
use Rattle.hs_syntax.specs.declared.exp.Arg.TheOpen as exp
use Rattle.hs_syntax.specs.declared.exp.Arg.TheFolds.{fold_out-Stmt}
use Rattle.hs_syntax.specs.declared.exp.Stmt.{Stmt}
use Rattle.hs_syntax.specs.Texts.{bytes_at}
use Rattle.hs_scope.specs.Scope.{Binding, oldest}
use Rattle.hs_resolver.specs.declared.known.Known.{Known}
use Rattle.hs_resolver.specs.Parts.{Scoped, Line, bound, scope_behind}
use Rattle.hs_resolver.specs.Names.{Behind, with_variable, binds, binds_all, names_of_stmt, arg_layer, else_layer, exp_layer, postfix_layer, step_layer, stmt_layer, arm_layer, block_layer, if_layer, operand_layer}
use Rattle.hs_resolver.specs.Walks.{Grows}

-- binding more leaves what was in scope
pub bound_grows : (text : List ℕ) (names : List Span) (number : ℕ) (scope : List Binding) → Grows scope (bound text names number scope)
bound_grows text [] number scope = ([], refl)
bound_grows text (n ∷ ns) number scope =
    let more = bound_grows text ns (suc number) (record { name = bytes_at text n; number = number } ∷ scope) in
    (more.0 ++ record { name = bytes_at text n; number = number } ∷ [], more.1 ∙ sym (append_assoc more.0 (record { name = bytes_at text n; number = number } ∷ []) scope))

-- leaving what came to a scope gives it back
behind_more : (more old : List Binding) → drop (length more) (more ++ old) ≡ old
behind_more [] old = refl
behind_more (b ∷ bs) old = behind_more bs old

pub grown_oldest : (old new : List Binding) → Grows old new → oldest (length old) new ≡ old
grown_oldest old new (more, e) =
    let gone : length (more ++ old) - length old ≡ length more = omega (arith, length-append more old) in
    ap (λ (s : List Binding). drop (length s - length old) s) e ∙ ap (λ (n : ℕ). drop n (more ++ old)) gone ∙ behind_more more old

pub bound_oldest : (text : List ℕ) (names : List Span) (number : ℕ) (scope : List Binding) → oldest (length scope) (bound text names number scope) ≡ scope
bound_oldest text names number scope = grown_oldest scope (bound text names number scope) (bound_grows text names number scope)

-- names bound one behind the other
pub bound_both : (text : List ℕ) (ms ns : List Span) (number : ℕ) (scope : List Binding)
    → bound text (ms ++ ns) number scope ≡ bound text ns (number + length ms) (bound text ms number scope)
bound_both text [] ns number scope = ap (λ (i : ℕ). bound text ns i scope) (omega arith)
bound_both text (m ∷ ms) ns number scope =
    let i = bound_both text ms ns (suc number) (record { name = bytes_at text m; number = number } ∷ scope) in
    let e : suc number + length ms ≡ number + suc (length ms) = omega arith in
    i ∙ ap (λ (i : ℕ). bound text ns i (bound text ms (suc number) (record { name = bytes_at text m; number = number } ∷ scope))) e

-- the first that is left, and the others
pub next : {E F : Type 0} (f : E → F) (i : ℕ) (xs : List E) (x : E) → i < length xs → x ≡ get_or xs i x → map f (drop i xs) ≡ f x ∷ map f (drop (i + 1) xs)
next f i xs x h e =
    let more : suc i ≡ i + 1 = omega arith in
    ap (map f) (drop-cons xs i x h) ∙ ap (λ y. f y ∷ map f (drop (suc i) xs)) (sym e) ∙ ap (λ k. f x ∷ map f (drop k xs)) more

-- the names of one pattern more
pub bind_step : (text : List ℕ) (i : ℕ) (ps : List Pat) (p : Pat) (number behind : ℕ) (scope more : List Binding) → i < length ps → p ≡ get_or ps i p
    → more ≡ bound text (binds p) number scope → behind ≡ number + length (binds p)
    → bound text (binds_all (map binds (drop i ps))) number scope ≡ bound text (binds_all (map binds (drop (i + 1) ps))) behind more
bind_step text i ps p number behind scope more h e s n =
    ap (λ (bs : List (List Span)). bound text (binds_all bs) number scope) (next binds i ps p h e)
    ∙ bound_both text (binds p) (binds_all (map binds (drop (i + 1) ps))) number scope
    ∙ ap₂ (λ (m : ℕ) (o : List Binding). bound text (binds_all (map binds (drop (i + 1) ps))) m o) (sym n) (sym s)

pub count_step : (i : ℕ) (ps : List Pat) (p : Pat) (number behind : ℕ) → i < length ps → p ≡ get_or ps i p → behind ≡ number + length (binds p)
    → number + length (binds_all (map binds (drop i ps))) ≡ behind + length (binds_all (map binds (drop (i + 1) ps)))
count_step i ps p number behind h e n =
    let all : length (binds_all (map binds (drop i ps))) ≡ length (binds p ++ binds_all (map binds (drop (i + 1) ps))) =
    ap (λ (bs : List (List Span)). length (binds_all bs)) (next binds i ps p h e) in
    omega (arith, all, length-append (binds p) (binds_all (map binds (drop (i + 1) ps))), n)

module _ (file : File) (in_function : Bool) where
  variable_grows : (x : Variable) (number : ℕ) (scope : List Binding) → Grows scope (with_variable file in_function x number scope)
  variable_grows (variable.Name n) number scope = (record { name = bytes_at file.text n; number = number } ∷ [], refl)
  variable_grows (variable.Any s) number scope = ([], refl)

  pub variable_oldest : (x : Variable) (number : ℕ) (scope : List Binding) → oldest (length scope) (with_variable file in_function x number scope) ≡ scope
  variable_oldest x number scope = grown_oldest scope (with_variable file in_function x number scope) (variable_grows x number scope)

  abbrev LineGrows : Line → Type 0
  LineGrows l = (scope : List Binding) (k : Known) → Grows scope (l.after scope k)

  stmt_layer_grows : (y : Stmt-F Scoped Scoped Scoped Behind Scoped Line Scoped Scoped Scoped Scoped) → LineGrows (stmt_layer file in_function y)
  stmt_layer_grows (exp.Let s p t e) scope k = bound_grows file.text (binds p) (length k.places) scope
  stmt_layer_grows (exp.Assign s t ps o e) scope k = ([], refl)
  stmt_layer_grows (exp.For s x e f b) scope k = ([], refl)
  stmt_layer_grows (exp.Return s e) scope k = ([], refl)
  stmt_layer_grows (exp.Bare e) scope k = ([], refl)
  stmt_layer_grows (exp.Exp s e) scope k = ([], refl)

  -- a statement leaves what was in scope
  stmt_grows : (s : Stmt) → LineGrows (names_of_stmt file in_function s)
  stmt_grows s =
      subst LineGrows
      (sym (fold_out-Stmt Scoped Scoped Scoped Behind Scoped Line Scoped Scoped Scoped Scoped (arg_layer file in_function) (else_layer file in_function) (exp_layer file in_function) (postfix_layer file in_function) (step_layer file in_function) (stmt_layer file in_function) (arm_layer file in_function) (block_layer file in_function) (if_layer file in_function) (operand_layer file in_function) s))
      (stmt_layer_grows _)

  lines_grow : (ss : List Stmt) (scope : List Binding) (k : Known) → Grows scope (scope_behind (map (names_of_stmt file in_function) ss) scope k)
  lines_grow [] scope k = ([], refl)
  lines_grow (s ∷ ss) scope k =
      let here = stmt_grows s scope k in
      let more = lines_grow ss ((names_of_stmt file in_function s).after scope k) ((names_of_stmt file in_function s).part scope k).behind in
      (more.0 ++ here.0, more.1 ∙ ap (λ (o : List Binding). more.0 ++ o) here.1 ∙ sym (append_assoc more.0 here.0 scope))

  -- a block leaves what was in scope before it
  pub lines_oldest : (ss : List Stmt) (scope : List Binding) (k : Known) → oldest (length scope) (scope_behind (map (names_of_stmt file in_function) ss) scope k) ≡ scope
  lines_oldest ss scope k = grown_oldest scope (scope_behind (map (names_of_stmt file in_function) ss) scope k) (lines_grow ss scope k)
