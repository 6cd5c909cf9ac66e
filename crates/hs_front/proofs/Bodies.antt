-- The loop that reads a body.
use Rattle.std.proofs.Common.{◌≡◌, ℕ, suc, ◌-◌, ◌≤◌, ◌<◌, Bool, true, false, cond, List, [], ◌∷◌, ◌++◌, Err, length, refl, sym, ap, ◌∙◌, subst, append_assoc, append-nil, arith, length-append}
use Rattle.hs_grammar.specs.declared.error.ParseError.{ParseError}
use Rattle.hs_grammar.specs.Kinds.{starts}
use Rattle.hs_grammar.specs.Form.{Tok}
use Rattle.hs_grammar.specs.Parser.{Res, Done, Stop, Deep, giving, and_then}
use Rattle.hs_grammar.specs.Reads.{Reads}
use Rattle.hs_grammar.proofs.Reading.{reads_err, giving-self, giving-same, giving-giving}
use Rattle.hs_front.specs.declared.symbol.Symbol.{Symbol}
use Rattle.hs_front.specs.declared.symbol.Kind.TheVariants.{Let, Name, BuiltIn, U32, Number, Equals}
use Rattle.hs_front.specs.declared.syntax.Span.{Span}
use Rattle.hs_front.specs.declared.syntax.Prim.{Prim}
use Rattle.hs_front.specs.declared.syntax.Prim.TheVariants as prims
use Rattle.hs_front.specs.declared.syntax.Sum.{Sum}
use Rattle.hs_front.specs.declared.syntax.Stmt.{Stmt}
use Rattle.hs_front.specs.declared.syntax.Stmt.TheVariants as stmts
use Rattle.hs_front.specs.declared.syntax.Body.{Body}
use Rattle.hs_front.specs.declared.parse.Part.{Part}
use Rattle.hs_front.specs.declared.parse.Part.TheVariants as parts
use Rattle.hs_front.specs.Lexis.{lexis}
use Rattle.hs_front.specs.Written.{local, assigned, binding, sum, sum_of, only, with_stmt}
use Rattle.hs_front.specs.Reading.{reads, more, numeric, behind, behind_name, body_read, step, assigns, begins_value, named, named_step}

-- a body that goes on with this part, and then as the parser says
abbrev pub after : (List Symbol → Res Symbol Body) → Part → List Symbol → Res Symbol Body
after rest (parts.Statement x) w = giving (with_stmt x) (rest w)
after rest (parts.Value s) w = Done (only s) w

named_cases : (b : Bool) (name : Span) (v : Res Symbol Sum) (others : Res Symbol (List Prim)) (rest : List Symbol → Res Symbol Body)
    → giving (named name) (cond b (and_then v (λ x r. giving (assigns x) (rest r))) (giving (λ ps (n : Span). begins_value ps (prims.Name n)) others))
    ≡ and_then (giving (named_step name) (cond b (giving (λ x (n : Span). parts.Statement (stmts.Set n x)) v) (giving (λ ps (n : Span). parts.Value (sum_of (prims.Name n) ps)) others))) (after rest)
named_cases true name (Done x z) others rest = go (rest z)
  where
    go : (q : Res Symbol Body) → giving (named name) (giving (assigns x) q) ≡ giving (with_stmt (stmts.Set name x)) q
    go (Done b y) = refl
    go (Stop y) = refl
    go Deep = refl
named_cases true name (Stop z) others rest = refl
named_cases true name Deep others rest = refl
named_cases false name v (Done ps z) rest = refl
named_cases false name v (Stop z) rest = refl
named_cases false name v Deep rest = refl

-- behind a name
name_step : (n : ℕ) (name : Span) (w : List Symbol) → giving (named name) (reads (behind_name (body_read n)) w) ≡ and_then (giving (named_step name) (reads behind w)) (after (reads (body_read n)))
unfolding behind_name behind assigned
name_step n name w = named_cases (starts lexis (Equals ∷ []) w) name (reads assigned w) (reads more w) (reads (body_read n))

step_cases : (b c : Bool) (x : Res Symbol Stmt) (l : Res Symbol Span) (p : Res Symbol Prim) (others : List Symbol → Res Symbol (List Prim)) (rest : List Symbol → Res Symbol Body)
    (name : List Symbol → Res Symbol (Span → Body)) (part : List Symbol → Res Symbol (Span → Part))
    → ((s : Span) (z : List Symbol) → giving (named s) (name z) ≡ and_then (giving (named_step s) (part z)) (after rest))
    → cond b (and_then x (λ y r. giving (with_stmt y) (rest r))) (cond c (and_then l (λ s r. giving (named s) (name r))) (and_then p (λ first r. giving (λ ps. begins_value ps first) (others r))))
    ≡ and_then (cond b (giving (λ y. parts.Statement y) x) (cond c (and_then l (λ s r. giving (named_step s) (part r))) (and_then p (λ first r. giving (λ ps. parts.Value (sum_of first ps)) (others r))))) (after rest)
step_cases true c (Done y z) l p others rest name part same = refl
step_cases true c (Stop z) l p others rest name part same = refl
step_cases true c Deep l p others rest name part same = refl
step_cases false true x (Done s z) p others rest name part same = same s z
step_cases false true x (Stop z) p others rest name part same = refl
step_cases false true x Deep p others rest name part same = refl
step_cases false false x l (Done first z) others rest name part same = go (others z)
  where
    go : (q : Res Symbol (List Prim)) → giving (λ ps. begins_value ps first) q ≡ and_then (giving (λ ps. parts.Value (sum_of first ps)) q) (after rest)
    go (Done ps y) = refl
    go (Stop y) = refl
    go Deep = refl
step_cases false false x l (Stop z) others rest name part same = refl
step_cases false false x l Deep others rest name part same = refl

-- a body of some statements at most is a part, and then what is left
pub body_step : (n : ℕ) (w : List Symbol) → reads (body_read (suc n)) w ≡ and_then (reads step w) (after (reads (body_read n)))
unfolding body_read step binding local numeric
body_step n w =
    step_cases (starts lexis (Let ∷ []) w) (starts lexis (Name ∷ BuiltIn ∷ U32 ∷ []) w) (reads binding w) (reads local w) (reads (Tok (Number ∷ []) (λ s. prims.Int s.value)) w) (reads more) (reads (body_read n))
    (reads (behind_name (body_read n))) (reads behind) (name_step n)

-- a body with further statements before it
abbrev pub behind_all : List Stmt → Body → Body
behind_all xs b = record { statements = xs ++ b.statements; value = b.value }

-- behind the statements so far the loop has to read the rest
pub record Going (l : List Stmt) (w : List Symbol) (whole : Res Symbol Body) : Type 0 where
  pub few : length l ≤ 1024
  pub rest : giving (behind_all l) (reads (body_read (1024 - length l)) w) ≡ whole

left : (l : List Stmt) → length l < 1024 → 1024 - length l ≡ suc (1024 - suc (length l))
left l h = omega (arith, h)

unroll : (l : List Stmt) (w : List Symbol) (whole : Res Symbol Body) → length l < 1024 → Going l w whole
    → giving (behind_all l) (and_then (reads step w) (after (reads (body_read (1024 - suc (length l)))))) ≡ whole
unroll l w whole short g =
    ap (λ q. giving (behind_all l) q) (sym (body_step (1024 - suc (length l)) w))
    ∙ (ap (λ n. giving (behind_all l) (reads (body_read n) w)) (sym (left l short)) ∙ g.rest)

pub going_start : (l : List Stmt) (w : List Symbol) → l ≡ [] → Going l w (reads (body_read 1024) w)
going_start l w e = subst (λ k. Going k w (reads (body_read 1024) w)) (sym e) (record { few = omega arith; rest = giving-self (behind_all []) (λ b. refl) (reads (body_read 1024) w) })

-- with one more statement
pub going_on : (l more : List Stmt) (w r : List Symbol) (x : Stmt) (whole : Res Symbol Body) → length l < 1024 → reads step w ≡ Done (parts.Statement x) r → more ≡ l ++ x ∷ [] → Going l w whole → Going more r whole
going_on l more w r x whole short read e g =
    subst (λ k. Going k r whole) (sym e)
    (record {
      few = omega (arith, length-append l (x ∷ []), short);
      rest =
          let n : 1024 - length (l ++ x ∷ []) ≡ 1024 - suc (length l) = omega (arith, length-append l (x ∷ [])) in
          ap (λ i. giving (behind_all (l ++ x ∷ [])) (reads (body_read i) r)) n
          ∙ (giving-same (behind_all (l ++ x ∷ [])) (λ b. behind_all l (with_stmt x b)) (λ b. ap (λ xs. with_all xs b) (append_assoc l (x ∷ []) b.statements)) (reads (body_read (1024 - suc (length l))) r)
          ∙ (sym (giving-giving (behind_all l) (with_stmt x) (reads (body_read (1024 - suc (length l))) r))
          ∙ (ap (λ q. giving (behind_all l) (and_then q (after (reads (body_read (1024 - suc (length l))))))) (sym read) ∙ unroll l w whole short g)));
    })
  where
    with_all : List Stmt → Body → Body
    with_all xs b = record { statements = xs; value = b.value }

-- where the value is read the body is whole
pub going_value : (l : List Stmt) (w r : List Symbol) (s : Sum) (whole : Res Symbol Body) → length l < 1024 → reads step w ≡ Done (parts.Value s) r → Going l w whole → whole ≡ Done (record { statements = l; value = s }) r
going_value l w r s whole short read g =
    sym (unroll l w whole short g)
    ∙ (ap (λ q. giving (behind_all l) (and_then q (after (reads (body_read (1024 - suc (length l))))))) read
    ∙ ap (λ xs. value_behind xs) (append-nil l))
  where
    value_behind : List Stmt → Res Symbol Body
    value_behind xs = Done (record { statements = xs; value = s }) r

-- where no part is read, neither is the whole
pub going_wrong : (l : List Stmt) (w r : List Symbol) (e : ParseError) (whole : Res Symbol Body) → length l < 1024 → Reads {A = Part} (reads step w) (Err e) r → Going l w whole → Reads {A = Body} whole (Err e) r
going_wrong l w r e whole short read g =
    subst (λ q. Reads q (Err e) r) (unroll l w whole short g)
    (reads_err (λ b z. Done (behind_all l b) z) (and_then (reads step w) (after (reads (body_read (1024 - suc (length l)))))) e r
    (reads_err (after (reads (body_read (1024 - suc (length l))))) (reads step w) e r read))

last_step : (l : List Stmt) (w : List Symbol) (whole : Res Symbol Body) → 1024 ≤ length l → Going l w whole → giving (behind_all l) (giving only (reads sum w)) ≡ whole
unfolding body_read
last_step l w whole long g = let n : 0 ≡ 1024 - length l = omega (arith, long) in ap (λ i. giving (behind_all l) (reads (body_read i) w)) n ∙ g.rest

-- where no more statements may follow, the value is read
pub going_full : (l : List Stmt) (w r : List Symbol) (s : Sum) (whole : Res Symbol Body) → 1024 ≤ length l → reads sum w ≡ Done s r → Going l w whole → whole ≡ Done (record { statements = l; value = s }) r
going_full l w r s whole long read g =
    sym (last_step l w whole long g) ∙ (ap (λ q. giving (behind_all l) (giving only q)) read ∙ ap (λ xs. value_behind xs) (append-nil l))
  where
    value_behind : List Stmt → Res Symbol Body
    value_behind xs = Done (record { statements = xs; value = s }) r

pub going_last_wrong : (l : List Stmt) (w r : List Symbol) (e : ParseError) (whole : Res Symbol Body) → 1024 ≤ length l → Reads {A = Sum} (reads sum w) (Err e) r → Going l w whole → Reads {A = Body} whole (Err e) r
going_last_wrong l w r e whole long read g =
    subst (λ q. Reads q (Err e) r) (last_step l w whole long g)
    (reads_err (λ b z. Done (behind_all l b) z) (giving only (reads sum w)) e r (reads_err (λ s z. Done (only s) z) (reads sum w) e r read))
