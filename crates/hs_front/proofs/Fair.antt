-- What a file is made of, where its tokens are fair: names, and numbers of 32 bits; and not too many.
use Rattle.std.proofs.Common.{◌≡◌, inl, inr, ℕ, zero, suc, ◌^◌, ◌<◌, ◌≤◌, Bool, true, false, ◌||◌, List, [], ◌∷◌, ◌++◌, length, refl, subst, arith}
use Rattle.std.specs.List.{AllByRecursion}
use Rattle.hs_base.specs.Names.{is_name}
use Rattle.hs_grammar.specs.Form.{Pure, Tok, Map, Seq, Alt}
use Rattle.hs_grammar.specs.Kinds.{has, starts}
use Rattle.hs_grammar.specs.Derives.{Derivings, Derives, DerivesBy, DerivesAs}
use Rattle.hs_front.specs.declared.symbol.Symbol.{Symbol}
use Rattle.hs_front.specs.declared.symbol.Kind.TheVariants.{Name, BuiltIn, U32}
use Rattle.hs_front.specs.declared.syntax.Span.{Span}
use Rattle.hs_front.specs.declared.syntax.Prim.{Prim}
use Rattle.hs_front.specs.declared.syntax.Prim.TheVariants as prims
use Rattle.hs_front.specs.declared.syntax.Sum.{Sum}
use Rattle.hs_front.specs.declared.syntax.Stmt.{Stmt}
use Rattle.hs_front.specs.declared.syntax.Stmt.TheVariants as stmts
use Rattle.hs_front.specs.declared.syntax.Body.{Body}
use Rattle.hs_front.specs.declared.syntax.File.{File}
use Rattle.hs_front.specs.Lexis.{lexis}
use Rattle.hs_front.specs.Written.{AFile, rules, F, up_to, local, prim, addend, sum, sum_of, param, next_param, params, assigned, mutable, binding, assignment, stmt, body, only, with_stmt, visibility, title, opening, file, written}
use Rattle.hs_front.specs.Scope.{text_at}
use Rattle.hs_front.proofs.Names.{IsFair, names_kinds}

module _ (text : List ℕ) where
  -- a name
  abbrev pub IsNamed : Span → Type 0
  IsNamed n = is_name (text_at text n) ≡ true

  -- a name, or a number of 32 bits
  abbrev pub PrimFair : Prim → Type 0
  PrimFair (prims.Name n) = IsNamed n
  PrimFair (prims.Int v) = v < 2 ^ 32

  abbrev pub SumFair : Sum → Type 0
  SumFair s = PrimFair s.first × AllByRecursion PrimFair s.more

  abbrev pub StmtFair : Stmt → Type 0
  StmtFair (stmts.Let m n s) = IsNamed n × SumFair s
  StmtFair (stmts.Set n s) = IsNamed n × SumFair s

  abbrev pub BodyFair : Body → Type 0
  BodyFair b = AllByRecursion StmtFair b.statements × SumFair b.value

  pub record FileFair (f : File) : Type 0 where
    pub name : IsNamed f.name
    pub params : AllByRecursion IsNamed f.parameters
    pub few : length f.parameters ≤ 32
    pub body : BodyFair f.body

  module _ (ρ : Derivings lexis rules) where
    -- from fair tokens the form derives what has the property
    record Fairly {C : Type 0} (f : F C) (Q : C → Type 0) : Type 0 where
      fairly : (w : List Symbol) (x : C) → Derives ρ f w x → AllByRecursion (IsFair text) w → Q x

    anything : {C : Type 0} (f : F C) → Fairly f (λ _. Unit {0})
    anything f = record { fairly = λ w x d h. tt }

    all_left : (u v : List Symbol) → AllByRecursion (IsFair text) (u ++ v) → AllByRecursion (IsFair text) u
    all_left [] v h = tt
    all_left (s ∷ u) v (a, h) = (a, all_left u v h)

    all_right : (u v : List Symbol) → AllByRecursion (IsFair text) (u ++ v) → AllByRecursion (IsFair text) v
    all_right [] v h = h
    all_right (s ∷ u) v (a, h) = all_right u v h

    one_token : {C : Type 0} (ks : List lexis.kind) (h : Symbol → C) (Q : C → Type 0) → ((t : Symbol) → has lexis ks t.kind ≡ true → IsFair text t → Q (h t)) → Fairly (Tok ks h) Q
    one_token {C} ks h Q good = record { fairly = go }
      where
        go : (w : List Symbol) (x : C) → Derives {L = lexis} {R = rules} ρ (Tok ks h) w x → AllByRecursion (IsFair text) w → Q x
        go w x (t, i, k, j) fair =
            let one : AllByRecursion (IsFair text) (t ∷ []) = subst (AllByRecursion (IsFair text)) i fair in
            let kind : starts lexis ks (t ∷ []) ≡ true = subst (λ v. starts lexis ks v ≡ true) i k in
            subst Q j (good t kind one.0)

    mapped : {A C : Type 0} (h : A → C) (f : F A) (P : A → Type 0) (Q : C → Type 0) → ((a : A) → P a → Q (h a)) → Fairly f P → Fairly (Map h f) Q
    mapped h f P Q good o = record { fairly = λ w x (a, d, e) fair. subst Q e (good a (o.fairly w a d fair)) }

    in_turn : {A B C : Type 0} (h : A → B → C) (f : F A) (g : F B) (P : A → Type 0) (R : B → Type 0) (Q : C → Type 0) → ((a : A) (b : B) → P a → R b → Q (h a b)) → Fairly f P → Fairly g R → Fairly (Seq h f g) Q
    in_turn {A} {B} {C} h f g P R Q good o p = record { fairly = go }
      where
        go : (w : List Symbol) (x : C) → Derives ρ (Seq h f g) w x → AllByRecursion (IsFair text) w → Q x
        go w x (u, v, a, b, i, d, c, j) fair =
            let both : AllByRecursion (IsFair text) (u ++ v) = subst (AllByRecursion (IsFair text)) i fair in
            subst Q j (good a b (o.fairly u a d (all_left u v both)) (p.fairly v b c (all_right u v both)))

    either : {C : Type 0} (f g : F C) (Q : C → Type 0) → Fairly f Q → Fairly g Q → Fairly (Alt f g) Q
    either {C} f g Q o p = record { fairly = go }
      where
        go : (w : List Symbol) (x : C) → Derives ρ (Alt f g) w x → AllByRecursion (IsFair text) w → Q x
        go w x (inl d) fair = o.fairly w x d fair
        go w x (inr d) fair = p.fairly w x d fair

    nothing : {C : Type 0} (c : C) (Q : C → Type 0) → Q c → Fairly (Pure c) Q
    nothing c Q q = record { fairly = λ w x (i, j) fair. subst Q j q }

    local_fair : Fairly local IsNamed
    unfolding local
    local_fair = one_token names_kinds (λ s. s.span) IsNamed (λ t k fair. fair.named k)

    prim_fair : Fairly prim PrimFair
    unfolding prim
    prim_fair = either _ _ PrimFair (mapped prims.Name local IsNamed PrimFair (λ n h. h) local_fair) (one_token _ _ PrimFair (λ t k fair. fair.short))

    addend_fair : Fairly addend PrimFair
    unfolding addend
    addend_fair = in_turn _ _ prim _ PrimFair PrimFair (λ a b p r. r) (anything _) prim_fair

    items_fair : {A : Type 0} (Q : A → Type 0) (f : F A) → Fairly f Q → (n : ℕ) → Fairly (up_to n f) (λ as'. AllByRecursion Q as' × (length as' ≤ n))
    unfolding up_to
    items_fair Q f o zero = nothing [] _ (tt, omega arith)
    items_fair Q f o (suc n) =
        either _ _ _ (in_turn (λ a as'. a ∷ as') f (up_to n f) Q (λ as'. AllByRecursion Q as' × (length as' ≤ n)) _ (λ a as' q h. let l = h.1 in ((q, h.0), omega (arith, l))) o (items_fair Q f o n))
        (nothing [] _ (tt, omega arith))

    sum_fair : Fairly sum SumFair
    unfolding sum
    sum_fair = in_turn sum_of prim (up_to 61 addend) PrimFair (λ ps. AllByRecursion PrimFair ps × (length ps ≤ 61)) SumFair (λ a b p r. (p, r.0)) prim_fair (items_fair PrimFair addend addend_fair 61)

    param_fair : Fairly param IsNamed
    unfolding param
    param_fair = in_turn _ local _ IsNamed (λ _. Unit {0}) IsNamed (λ a b p r. p) local_fair (anything _)

    next_fair : Fairly next_param IsNamed
    unfolding next_param
    next_fair = in_turn _ _ param _ IsNamed IsNamed (λ a b p r. r) (anything _) param_fair

    params_fair : Fairly params (λ ps. AllByRecursion IsNamed ps × (length ps ≤ 32))
    unfolding params
    params_fair =
        either _ _ _ (in_turn (λ p ps. p ∷ ps) param (up_to 31 next_param) IsNamed (λ ps. AllByRecursion IsNamed ps × (length ps ≤ 31)) _ (λ a ps p h. let l = h.1 in ((p, h.0), omega (arith, l))) param_fair (items_fair IsNamed next_param next_fair 31))
        (nothing [] _ (tt, omega arith))

    assigned_fair : Fairly assigned SumFair
    unfolding assigned
    assigned_fair = in_turn _ _ _ _ SumFair SumFair (λ a b p r. r) (anything _) (in_turn _ sum _ SumFair (λ _. Unit {0}) SumFair (λ a b p r. p) sum_fair (anything _))

    binding_fair : Fairly binding StmtFair
    unfolding binding
    binding_fair =
        in_turn _ _ _ _ StmtFair StmtFair (λ a b p r. r) (anything _)
        (in_turn (λ m (r : Span × Sum). stmts.Let m r.0 r.1) mutable _ (λ _. Unit {0}) (λ (r : Span × Sum). IsNamed r.0 × SumFair r.1) StmtFair (λ m r p q. q) (anything mutable)
        (in_turn _ param assigned IsNamed SumFair (λ (r : Span × Sum). IsNamed r.0 × SumFair r.1) (λ a b p r. (p, r)) param_fair assigned_fair))

    assignment_fair : Fairly assignment StmtFair
    unfolding assignment
    assignment_fair = in_turn stmts.Set local assigned IsNamed SumFair StmtFair (λ a b p r. (p, r)) local_fair assigned_fair

    stmt_fair : Fairly stmt StmtFair
    unfolding stmt
    stmt_fair = either binding assignment StmtFair binding_fair assignment_fair

    body_fair : (n : ℕ) → Fairly (body n) BodyFair
    unfolding body
    body_fair zero = mapped only sum SumFair BodyFair (λ s h. (tt, h)) sum_fair
    body_fair (suc n) =
        either _ _ BodyFair (in_turn with_stmt stmt (body n) StmtFair BodyFair BodyFair (λ x b p h. ((p, h.0), h.1)) stmt_fair (body_fair n)) (mapped only sum SumFair BodyFair (λ s h. (tt, h)) sum_fair)

    wider : (k : lexis.kind) → has lexis (Name ∷ []) k ≡ true → has lexis names_kinds k ≡ true
    wider k e = go (lexis.same Name k) e
      where
        go : (b : Bool) → (b || false) ≡ true → (b || has lexis (BuiltIn ∷ U32 ∷ []) k) ≡ true
        go true f = refl
        go false f = absurd (cc f)

    title_fair : Fairly title IsNamed
    unfolding title
    title_fair =
        in_turn _ visibility _ _ IsNamed IsNamed (λ a b p r. r) (anything visibility)
        (in_turn _ _ _ _ IsNamed IsNamed (λ a b p r. r) (anything _)
        (in_turn _ _ _ IsNamed (λ _. Unit {0}) IsNamed (λ a b p r. p) (one_token (Name ∷ []) (λ s. s.span) IsNamed (λ t k fair. fair.named (wider t.kind k))) (anything _)))

    abbrev RestFair : List Span × Body → Type 0
    RestFair r = (AllByRecursion IsNamed r.0 × (length r.0 ≤ 32)) × BodyFair r.1

    file_fair : Fairly file FileFair
    unfolding file
    file_fair =
        in_turn _ title _ IsNamed RestFair FileFair (λ n r p h. record { name = p; params = h.0.0; few = h.0.1; body = h.1 }) title_fair
        (in_turn _ params _ (λ ps. AllByRecursion IsNamed ps × (length ps ≤ 32)) BodyFair RestFair (λ a b p r. (p, r)) params_fair
        (in_turn _ opening _ _ BodyFair BodyFair (λ a b p r. r) (anything opening)
        (in_turn _ (body 1024) _ BodyFair (λ _. Unit {0}) BodyFair (λ a b p r. p) (body_fair 1024) (anything _))))

  -- what fair tokens say is fair
  pub derived_fair : (w : List Symbol) (f : File) → DerivesAs written AFile w f → AllByRecursion (IsFair text) w → FileFair f
  derived_fair w f (zero, d) h = absurd d
  derived_fair w f (suc n, d) h = (file_fair (DerivesBy written n)).fairly w f d h
