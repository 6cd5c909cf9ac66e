-- Where expressions lie.
use Rattle.std.proofs.Common.{◌≡◌, ℕ, ◌≤◌, arith, Bool, true, false, List, [], ◌∷◌, Option, Some, None, refl, map}
use Rattle.hs_grammar.specs.Derives.{Derivings}
use Rattle.hs_syntax.specs.declared.span.Span.{Span}
use Rattle.hs_syntax.specs.declared.span.Int.{Int}
use Rattle.hs_syntax.specs.declared.ty.Ty.{Ty}
use Rattle.hs_syntax.specs.declared.pat.ArmPat.{ArmPat}
use Rattle.hs_syntax.specs.declared.pat.ArmPat.TheVariants as arm_pat
use Rattle.hs_syntax.specs.declared.exp.Path.{Path}
use Rattle.hs_syntax.specs.declared.exp.Path.TheVariants as path
use Rattle.hs_syntax.specs.declared.exp.BinaryOp.{BinaryOp}
use Rattle.hs_syntax.specs.declared.exp.Exp.{Exp}
use Rattle.hs_syntax.specs.declared.exp.Exp.TheVariants as exp
use Rattle.hs_syntax.specs.declared.exp.Operand.{Operand}
use Rattle.hs_syntax.specs.declared.exp.Postfix.{Postfix}
use Rattle.hs_syntax.specs.declared.exp.Postfix.TheVariants as postfix
use Rattle.hs_syntax.specs.declared.exp.Step.TheVariants as step
use Rattle.hs_syntax.specs.declared.exp.Else.{Else}
use Rattle.hs_syntax.specs.declared.exp.Level.{Level}
use Rattle.hs_syntax.specs.declared.exp.Level.TheVariants as level
use Rattle.hs_syntax.specs.declared.exp.Arg.{Arg}
use Rattle.hs_syntax.specs.declared.exp.Arg.TheVariants as arg
use Rattle.hs_syntax.specs.declared.exp.Arm.{Arm}
use Rattle.hs_syntax.specs.declared.exp.Block.{Block}
use Rattle.hs_syntax.specs.Spans.{span_of_arm_pat, span_of_path, span_of_exp, span_of_postfix, span_of_else, span_of_block}
use Rattle.hs_forms.specs.declared.token.Kind.TheVariants as k
use Rattle.hs_forms.specs.declared.token.Token.{Token}
use Rattle.hs_forms.specs.Lexis.{lexis}
use Rattle.hs_forms.specs.Nodes.{span_of, across, last_of, operand_of, right_of, binary_of, cast_of, post_of, prefix_of, prefix_named, group_of, tuple_of, call_of, if_of, match_of, arm_of}
use Rattle.hs_forms.specs.Blocks.{step_of}
use Rattle.hs_forms.specs.Reading.{rules, F, RExp, RUnary, RBlock, RIf, RMaybe, int, path_type, path_of_type, behind_separator, named_path, path_form, expression, block, lent, lent_arg, list_arg, arg_form, args_rest, args, call_form, behind_first, grouped_rest, grouped, else_branch, else_form, if_form, block_value, closed_value, exp_value, arm_form, next_arms, arms_of, arms, match_form, literal, alone, prim, method, behind_dot, index, postfix_form, post, unary, cast, operand, operands, one_or_none, binary}
use Rattle.hs_limits.specs.Outline.{none, join, one, all, counted, through, apart, part}
use Rattle.hs_limits.specs.Nodes.{word, name, tall, ty_outline, node_of_ty, node_of_arm_pat, node_of_path, node_of_exp, node_of_if, node_of_else, node_of_arg, node_of_step, node_of_postfix, node_of_arm, node_of_block, node_of_operand}
use Rattle.hs_limits.specs.Nested.{Nested}
use Rattle.hs_limits.specs.Spans.{SpansAgree}
use Rattle.hs_places.proofs.Outlines.{before, beyond, begun, opened, around, until, start_of}
use Rattle.hs_places.proofs.Layers.{on, exp_int, exp_bool, exp_unit, exp_group, exp_tuple, exp_path, exp_call, exp_block, exp_if, if_is, else_chain, else_last, exp_match, exp_post, exp_prefix, exp_cast, exp_binary, arg_value, arg_shared, arg_lent, arg_list, postfix_try, postfix_method, postfix_step, step_index, step_part, arm_is, operand_is}
use Rattle.hs_places.proofs.Facts.{row_more, Fact, nodes, spans, nothing, by, pair, perhaps, Perhaps, rows, Row, row_nested, Turn, after, listed_in, tuple_in, closes, chained}
use Rattle.hs_places.proofs.Gives.{Gives, Knots, of_rule, token, span, none_kept, empty, map_to, seq, split, alt, unless, loop, then_, and_then, both, may, many, listed}
use Rattle.hs_places.proofs.Types.{name_gives}
use Rattle.hs_places.proofs.Patterns.{arm_pattern_gives}

abbrev pub exps : Fact Exp
exps = nodes node_of_exp

abbrev elses : Fact Else
elses = nodes node_of_else

-- arguments in a bracket
abbrev pub arg_lists : Fact (List Arg × Span)
arg_lists = pair (rows (nodes node_of_arg)) spans

-- ---- paths

path_at : (p : Path) → (node_of_path p).at ≡ span_of_path p
unfolding span_of_path
path_at (path.Name s) = refl
path_at (path.Member s t n) = refl
path_at (path.Of s n t m) = refl

path_of_nested : (low m high : ℕ) (t : Ty) (n : Span) (first : Span) (start : ℕ) → Nested (name first) start low → Nested (one (node_of_ty t)) low m → Nested (name n) m high
    → Nested (one (node_of_path (path.Of (across first n) first t n))) start high
path_of_nested low m high t n first start p q r =
    begun (across first n) apart (word first) (join (ty_outline t) (name n)) start low high refl p (m, q, (r.0, r.1, omega arith, r.3)) r.2

member_nested : (low high : ℕ) (n first : Span) (start : ℕ) → Nested (name first) start low → Nested (name n) low high → Nested (one (node_of_path (path.Member (across first n) first n))) start high
member_nested low high n first start p r = begun (across first n) apart (word first) (name n) start low high refl p (r.0, r.1, omega arith, r.3) r.2

path_nested : (low m high : ℕ) (n : Span) (more : Option (Span → Path)) → Nested (name n) low m → (perhaps (after node_of_path)).holds m high more → Nested (one (node_of_path (named_path n more))) low high
path_nested low m high n None p l = beyond (name n) low m high l p
path_nested low m high n (Some f) p h = h n low p

-- ---- arguments and calls

lent_nested : (low high : ℕ) (n s : Span) (start : ℕ) → Nested (name s) start low → Nested (name n) low high → Nested (one (node_of_arg (arg.Lent (across s n) n))) start high
lent_nested low high n s start p q = on (arg_lent (across s n) n) (opened (across s n) through s (one (tall n none)) start low high refl p (q.0, q.1, omega arith, q.3) q.2)

shared_nested : SpansAgree → (low high : ℕ) (e : Exp) (s : Span) (start : ℕ) → Nested (name s) start low → Nested (one (node_of_exp e)) low high → Nested (one (node_of_arg (arg.Shared (across s (span_of_exp e)) e))) start high
shared_nested agree low high e s start p q =
    let u = until (node_of_exp e) (span_of_exp e) low high (agree.of_exp e) q in
    on (arg_shared (across s (span_of_exp e)) e) (opened (across s (span_of_exp e)) through s (one (node_of_exp e)) start low high refl p u.0 u.1)

call_nested : (low m high : ℕ) (p : Path) (more : Option (List Arg × Span)) → Nested (one (node_of_path p)) low m → (perhaps arg_lists).holds m high more → Nested (one (node_of_exp (call_of p more))) low high
call_nested low m high p None q l = on (exp_path p) (around (span_of_path p) counted (node_of_path p) low high (path_at p) (beyond (one (node_of_path p)) low m high l q))
call_nested low m high p (Some (as', close)) q (k, r, c) =
    on (exp_call (across (span_of_path p) close) p as')
    (begun (across (span_of_path p) close) counted (node_of_path p) (all (map node_of_arg as')) low m high (start_of (node_of_path p) (span_of_path p) (path_at p)) q
    (beyond (all (map node_of_arg as')) m k close.end (closes close k high c) (row_nested node_of_arg as' m k r)) c.2)

-- ---- brackets

-- what is made of an opening bracket and the expression behind it
abbrev pub inside : Fact (Span → Exp → Exp)
inside = record {
  holds = λ low high f. (o : Span) (e : Exp) (start m : ℕ) → Nested (name o) start m → Nested (one (node_of_exp e)) m low → Nested (one (node_of_exp (f o e))) start high;
  wider = λ low high lower higher f l h p o e start m q r. beyond (one (node_of_exp (f o e))) start high higher h (p o e start m q (beyond (one (node_of_exp e)) m lower low l r));
}

group_nested : (low high : ℕ) (close o : Span) (e : Exp) (start m : ℕ) → Nested (name close) low high → Nested (name o) start m → Nested (one (node_of_exp e)) m low → Nested (one (node_of_exp (group_of o e close))) start high
group_nested low high close o e start m c p q =
    on (exp_group (across o close) e) (opened (across o close) counted o (one (node_of_exp e)) start m high refl p (beyond (one (node_of_exp e)) m low close.end (closes close low high c) q) c.2)

tuple_nested : (low high : ℕ) (r : List Exp × Span) (o : Span) (e : Exp) (start m : ℕ) → (pair (rows exps) spans).holds low high r → Nested (name o) start m → Nested (one (node_of_exp e)) m low
    → Nested (one (node_of_exp (tuple_of o e r.0 r.1))) start high
tuple_nested low high r o e start m (k, es, c) p q =
    on (exp_tuple (across o r.1) (e ∷ r.0)) (tuple_in node_of_exp (across o r.1) counted 12 part o (e ∷ r.0) start m k high refl p (low, q, es) (closes r.1 k high c) c.2)

unit_nested : (low high : ℕ) (close o : Span) (start : ℕ) → Nested (name o) start low → Nested (name close) low high → Nested (one (node_of_exp (exp.Unit (across o close)))) start high
unit_nested low high close o start p c = on (exp_unit (across o close)) (opened (across o close) counted o none start low high refl p (closes close low high c) c.2)

-- ---- what stands alone

if_nested : SpansAgree → (low m k l high : ℕ) (s : Span) (c : Exp) (b : Block) (o : Option Else) → Nested (name s) low m → Nested (one (node_of_exp c)) m k → Nested (one (node_of_block b)) k l → Perhaps elses l high o
    → Nested (one (node_of_if (if_of s c b o))) low high
if_nested agree low m k l high s c b None p q r h =
    let u = until (node_of_block b) (span_of_block b) k l (agree.of_block b) r in
    let e : (span_of_block b).end ≤ l = u.1 in
    on (if_is (across s (span_of_block b)) c b None)
    (opened (across s (span_of_block b)) counted s (join (one (node_of_exp c)) (join (one (node_of_block b)) none)) low m high refl p (k, q, ((span_of_block b).end, u.0, omega arith)) (omega (arith, e, h)))
if_nested agree low m k l high s c b (Some o) p q r h =
    let u = until (node_of_else o) (span_of_else o) l high (agree.of_else o) h in
    on (if_is (across s (span_of_else o)) c b (Some o))
    (opened (across s (span_of_else o)) counted s (join (one (node_of_exp c)) (join (one (node_of_block b)) (one (node_of_else o)))) low m high refl p (k, q, (l, r, u.0)) u.1)

closed_nested : (low m high : ℕ) (e : Exp) (o : Option (Unit {0})) → Nested (one (node_of_exp e)) low m → Perhaps nothing m high o → Nested (one (node_of_exp (closed_value e o).0)) low high
closed_nested low m high e None p l = beyond (one (node_of_exp e)) low m high l p
closed_nested low m high e (Some c) p l = beyond (one (node_of_exp e)) low m high l p

arm_pat_at : (p : ArmPat) → (node_of_arm_pat p).at ≡ span_of_arm_pat p
unfolding span_of_arm_pat
arm_pat_at (arm_pat.Any s) = refl
arm_pat_at (arm_pat.Ctor s n ps) = refl
arm_pat_at (arm_pat.Member s t n ps) = refl

arm_nested : SpansAgree → (low m high : ℕ) (p : ArmPat) (e : Exp) → Nested (one (node_of_arm_pat p)) low m → Nested (one (node_of_exp e)) m high → Nested (one (node_of_arm (arm_of p e))) low high
arm_nested agree low m high p e q r =
    let u = until (node_of_exp e) (span_of_exp e) m high (agree.of_exp e) r in
    on (arm_is (record { span = across (span_of_arm_pat p) (span_of_exp e); pattern = p; value = e }))
    (begun (across (span_of_arm_pat p) (span_of_exp e)) through (node_of_arm_pat p) (one (node_of_exp e)) low m high (start_of (node_of_arm_pat p) (span_of_arm_pat p) (arm_pat_at p)) q u.0 u.1)

arm_step : (low high : ℕ) (x : Arm × Bool) → Nested (one (node_of_arm x.0)) low high → Turn (nodes node_of_arm) (nodes node_of_arm) low high (step_of x)
arm_step low high (a, true) h = h
arm_step low high (a, false) h = h

arms_nested : (low m high : ℕ) (first : Arm × Bool) (more : List Arm × Option Arm) → Nested (one (node_of_arm first.0)) low m → (pair (rows (nodes node_of_arm)) (perhaps (nodes node_of_arm))).holds m high more
    → Row (nodes node_of_arm) low high (arms_of first more)
arms_nested low m high first (more, None) n (k, r, l) = (m, n, (rows (nodes node_of_arm)).wider m k m high more (omega arith) l r)
arms_nested low m high first (more, Some last) n (k, r, l) = (m, n, row_more node_of_arm more last m k high r l)

match_nested : (low m k l high : ℕ) (s : Span) (e : Exp) (as' : List Arm) (close : Span) → Nested (name s) low m → Nested (one (node_of_exp e)) m k → Row (nodes node_of_arm) k l as' → Nested (name close) l high
    → Nested (one (node_of_exp (match_of s e as' close))) low high
match_nested low m k l high s e as' close p q r c =
    on (exp_match (across s close) e as')
    (opened (across s close) counted s (join (one (node_of_exp e)) (all (map node_of_arm as'))) low m high refl p
    (k, q, beyond (all (map node_of_arm as')) k l close.end (closes close l high c) (row_nested node_of_arm as' k l r)) c.2)

-- ---- steps

method_nested : (low m high : ℕ) (n : Span) (r : List Arg × Span) (s : Span) (start : ℕ) → Nested (name s) start low → Nested (name n) low m → arg_lists.holds m high r → Nested (one (node_of_postfix (postfix.Method (across s r.1) n r.0))) start high
method_nested low m high n r s start p q (k, as', c) =
    on (postfix_method (across s r.1) n r.0)
    (opened (across s r.1) through s (join (name n) (all (map node_of_arg r.0))) start low high refl p
    (m, q, beyond (all (map node_of_arg r.0)) m k r.1.end (closes r.1 k high c) (row_nested node_of_arg r.0 m k as')) c.2)

part_nested : (low high : ℕ) (i : Int) (s : Span) (start : ℕ) → Nested (name s) start low → Nested (name i.span) low high → Nested (one (node_of_postfix (postfix.Step (step.Part (across s i.span) i)))) start high
part_nested low high i s start p q =
    on (postfix_step (step.Part (across s i.span) i))
    (on (step_part (across s i.span) i) (opened (across s i.span) through s (name i.span) start low high refl p (q.0, q.1, omega arith, q.3) q.2))

index_nested : (low m k high : ℕ) (o : Span) (e : Exp) (close : Span) → Nested (name o) low m → Nested (one (node_of_exp e)) m k → Nested (name close) k high → Nested (one (node_of_step (step.Index (across o close) e))) low high
index_nested low m k high o e close p q c =
    on (step_index (across o close) e) (opened (across o close) through o (one (node_of_exp e)) low m high refl p (beyond (one (node_of_exp e)) m k close.end (closes close k high c) q) c.2)

post_nested : SpansAgree → (low m high : ℕ) (e : Exp) (ps : List Postfix) → Nested (one (node_of_exp e)) low m → Row (nodes node_of_postfix) m high ps → Nested (one (node_of_exp (post_of e ps))) low high
post_nested agree low m high e [] p l = beyond (one (node_of_exp e)) low m high l p
post_nested agree low m high e (q ∷ qs) p r =
    on (exp_post (across (span_of_exp e) (span_of_postfix (last_of q qs))) e (q ∷ qs))
    (chained node_of_postfix (across (span_of_exp e) (span_of_postfix (last_of q qs))) through (node_of_exp e) q qs (span_of_postfix (last_of q qs)) low m high
    (start_of (node_of_exp e) (span_of_exp e) (agree.of_exp e)) refl (agree.of_postfix (last_of q qs)) p r)

-- ---- operators

prefix_nested : SpansAgree → (low m high : ℕ) (t : Token) (e : Exp) → Nested (name t.span) low m → Nested (one (node_of_exp e)) m high → Nested (one (node_of_exp (prefix_of t e))) low high
prefix_nested agree low m high t e p q =
    let u = until (node_of_exp e) (span_of_exp e) m high (agree.of_exp e) q in
    on (exp_prefix (across t.span (span_of_exp e)) (prefix_named t.kind) e) (opened (across t.span (span_of_exp e)) counted t.span (one (node_of_exp e)) low m high refl p u.0 u.1)

cast_nested : SpansAgree → (low m high : ℕ) (e : Exp) (ns : List Span) → Nested (one (node_of_exp e)) low m → Row spans m high ns → Nested (one (node_of_exp (cast_of e ns))) low high
cast_nested agree low m high e [] p l = beyond (one (node_of_exp e)) low m high l p
cast_nested agree low m high e (n ∷ ns) p r =
    on (exp_cast (across (span_of_exp e) (last_of n ns)) e (n ∷ ns))
    (chained word (across (span_of_exp e) (last_of n ns)) through (node_of_exp e) n ns (last_of n ns) low m high (start_of (node_of_exp e) (span_of_exp e) (agree.of_exp e)) refl refl p r)

operand_nested : (low m high : ℕ) (o : BinaryOp) (e : Exp) → low ≤ m → Nested (one (node_of_exp e)) m high → Nested (one (node_of_operand (operand_of o e))) low high
operand_nested low m high o e l p = on (operand_is (record { op = o; right = e })) (before (one (node_of_exp e)) m high low l p)

binary_nested : SpansAgree → (low m high : ℕ) (e : Exp) (os : List Operand) → Nested (one (node_of_exp e)) low m → Row (nodes node_of_operand) m high os → Nested (one (node_of_exp (binary_of e os))) low high
binary_nested agree low m high e [] p l = beyond (one (node_of_exp e)) low m high l p
binary_nested agree low m high e (o ∷ os) p r =
    on (exp_binary (across (span_of_exp e) (span_of_exp (right_of (last_of o os)))) e (o ∷ os))
    (chained node_of_operand (across (span_of_exp e) (span_of_exp (right_of (last_of o os)))) through (node_of_exp e) o os (span_of_exp (right_of (last_of o os))) low m high
    (start_of (node_of_exp e) (span_of_exp e) (agree.of_exp e)) refl (agree.of_operand (last_of o os)) p r)

one_row : (low high : ℕ) (o : Option Operand) → Perhaps (nodes node_of_operand) low high o → Row (nodes node_of_operand) low high (one_or_none o)
one_row low high None p = p
one_row low high (Some o) p = (high, p, omega arith)

module _ (ρ : Derivings lexis rules) (knots : Knots ρ) where
  pub expression_gives : Gives ρ expression exps
  expression_gives = of_rule ρ knots RExp

  pub block_gives : Gives ρ block (nodes node_of_block)
  block_gives = of_rule ρ knots RBlock

  pub int_gives : Gives ρ int (by (λ (i : Int). i.span) spans)
  unfolding int
  int_gives = token ρ refl (λ t low high n. n)

  path_type_gives : Gives ρ path_type (nodes node_of_ty)
  unfolding path_type
  path_type_gives = then_ ρ (split ρ {Q = nothing} (λ low m high t u p l. beyond (one (node_of_ty t.0)) low m high l p) (of_rule ρ knots RMaybe) (none_kept ρ) (none_kept ρ))

  path_of_type_gives : Gives ρ path_of_type (after node_of_path)
  unfolding path_of_type
  path_of_type_gives = seq ρ (λ low m high t n p q first start r. path_of_nested low m high t n first start r p q) path_type_gives (then_ ρ (name_gives ρ knots))

  behind_separator_gives : Gives ρ behind_separator (after node_of_path)
  unfolding behind_separator
  behind_separator_gives = alt ρ path_of_type_gives (map_to ρ (λ low high n p first start r. member_nested low high n first start r p) (name_gives ρ knots))

  path_form_gives : Gives ρ path_form (nodes node_of_path)
  unfolding path_form
  path_form_gives = seq ρ path_nested (name_gives ρ knots) (may ρ (then_ ρ behind_separator_gives))

  lent_gives : Gives ρ lent (after node_of_arg)
  unfolding lent
  lent_gives =
      alt ρ (then_ ρ (map_to ρ (λ low high n p s start q. lent_nested low high n s start q p) (name_gives ρ knots)))
      (map_to ρ (λ low high e p s start q. shared_nested knots.agree low high e s start q p) expression_gives)

  lent_arg_gives : Gives ρ lent_arg (nodes node_of_arg)
  unfolding lent_arg
  lent_arg_gives = seq ρ (λ low m high s f p h. h s low p) (span ρ refl) lent_gives

  list_arg_gives : Gives ρ list_arg (nodes node_of_arg)
  unfolding list_arg
  list_arg_gives =
      seq ρ (λ low m high o r p q. on (arg_list (across o r.1) r.0) (listed_in node_of_exp (across o r.1) through o r.0 low m q.0 high refl p q.1 (closes r.1 q.0 high q.2) q.2.2)) (span ρ refl)
      (both ρ (listed ρ expression_gives) (span ρ refl))

  arg_form_gives : Gives ρ arg_form (nodes node_of_arg)
  unfolding arg_form
  arg_form_gives = alt ρ lent_arg_gives (alt ρ list_arg_gives (map_to ρ (λ low high e p. on (arg_value e) p) expression_gives))

  args_rest_gives : Gives ρ args_rest arg_lists
  unfolding args_rest
  args_rest_gives = alt ρ (map_to ρ (λ low high close c. (low, omega arith, c)) (span ρ {ks = k.RightParenthesis ∷ []} refl)) (both ρ (listed ρ arg_form_gives) (span ρ refl))

  args_gives : Gives ρ args arg_lists
  unfolding args
  args_gives = then_ ρ args_rest_gives

  call_form_gives : Gives ρ call_form exps
  unfolding call_form
  call_form_gives = seq ρ call_nested path_form_gives (may ρ args_gives)

  behind_first_gives : Gives ρ behind_first inside
  unfolding behind_first
  behind_first_gives =
      alt ρ (map_to ρ (λ low high close c o e start m p q. group_nested low high close o e start m c p q) (span ρ {ks = k.RightParenthesis ∷ []} refl))
      (then_ ρ (map_to ρ (λ low high r h o e start m p q. tuple_nested low high r o e start m h p q) (both ρ (listed ρ expression_gives) (span ρ refl))))

  grouped_rest_gives : Gives ρ grouped_rest (after node_of_exp)
  unfolding grouped_rest
  grouped_rest_gives =
      alt ρ (map_to ρ (λ low high close c o start p. unit_nested low high close o start p c) (span ρ {ks = k.RightParenthesis ∷ []} refl))
      (seq ρ (λ low m high e f p h o start q. h o e start low q p) expression_gives behind_first_gives)

  grouped_gives : Gives ρ grouped exps
  unfolding grouped
  grouped_gives = seq ρ (λ low m high o f p h. h o low p) (span ρ refl) grouped_rest_gives

  else_branch_gives : Gives ρ else_branch elses
  unfolding else_branch
  else_branch_gives =
      alt ρ (map_to ρ (λ low high i p. on (else_chain i) p) (of_rule ρ knots RIf)) (map_to ρ (λ low high b p. on (else_last b) p) block_gives)

  else_form_gives : Gives ρ else_form (perhaps elses)
  unfolding else_form
  else_form_gives = may ρ (then_ ρ else_branch_gives)

  -- If
  pub if_form_gives : Gives ρ if_form (nodes node_of_if)
  unfolding if_form
  if_form_gives =
      seq ρ (λ low m high s r p q. if_nested knots.agree low m q.0 q.2.0 high s r.0 r.1.0 r.1.1 p q.1 q.2.1 q.2.2) (span ρ refl)
      (both ρ expression_gives (both ρ block_gives else_form_gives))

  block_value_gives : Gives ρ block_value (by (λ (v : Exp × Bool). v.0) exps)
  unfolding block_value
  block_value_gives = map_to ρ (λ low high b p. on (exp_block b) p) (and_then ρ block_gives)

  exp_value_gives : Gives ρ exp_value (by (λ (v : Exp × Bool). v.0) exps)
  unfolding exp_value
  exp_value_gives = seq ρ closed_nested (unless ρ expression_gives) (may ρ (none_kept ρ))

  arm_form_gives : Gives ρ arm_form (by (λ (a : Arm × Bool). a.0) (nodes node_of_arm))
  unfolding arm_form
  arm_form_gives = seq ρ (λ low m high p v q r. arm_nested knots.agree low m high p v.0 q r) (arm_pattern_gives ρ knots) (then_ ρ (alt ρ block_value_gives exp_value_gives))

  next_arms_gives : Gives ρ next_arms (pair (rows (nodes node_of_arm)) (perhaps (nodes node_of_arm)))
  unfolding next_arms
  next_arms_gives = loop ρ (nodes node_of_arm) (nodes node_of_arm) (λ low m high as' o r l. (m, r, l)) (map_to ρ arm_step arm_form_gives)

  arms_gives : Gives ρ arms (rows (nodes node_of_arm))
  unfolding arms
  arms_gives = split ρ arms_nested arm_form_gives (empty ρ (λ low high l. (low, omega arith, l))) next_arms_gives

  match_form_gives : Gives ρ match_form exps
  unfolding match_form
  match_form_gives =
      seq ρ (λ low m high s r p q. match_nested low m q.0 q.2.0 high s r.0 r.1.0 r.1.1 p q.1 q.2.1 q.2.2) (span ρ refl)
      (both ρ expression_gives (then_ ρ (both ρ arms_gives (span ρ refl))))

  literal_gives : Gives ρ literal exps
  unfolding literal
  literal_gives =
      alt ρ (map_to ρ (λ low high i p. on (exp_int i) p) int_gives)
      (alt ρ (token ρ refl (λ t low high p. on (exp_bool t.span true) p)) (token ρ refl (λ t low high p. on (exp_bool t.span false) p)))

  -- If | Match | Block
  pub alone_gives : Gives ρ alone exps
  unfolding alone
  alone_gives = alt ρ (map_to ρ (λ low high i p. on (exp_if i) p) if_form_gives) (alt ρ match_form_gives (map_to ρ (λ low high b p. on (exp_block b) p) block_gives))

  prim_gives : Gives ρ prim exps
  unfolding prim
  prim_gives = alt ρ literal_gives (alt ρ grouped_gives (alt ρ call_form_gives alone_gives))

  method_gives : Gives ρ method (after node_of_postfix)
  unfolding method
  method_gives = seq ρ (λ low m high n r p q s start t. method_nested low m high n r s start t p q) (name_gives ρ knots) args_gives

  behind_dot_gives : Gives ρ behind_dot (after node_of_postfix)
  unfolding behind_dot
  behind_dot_gives = alt ρ (map_to ρ {P = by (λ (i : Int). i.span) spans} (λ low high i p s start q. part_nested low high i s start q p) (token ρ refl (λ t low high n. n))) method_gives

  index_gives : Gives ρ index (nodes node_of_step)
  unfolding index
  index_gives = seq ρ (λ low m high o r p q. index_nested low m q.0 high o r.0 r.1 p q.1 q.2) (span ρ refl) (both ρ expression_gives (span ρ refl))

  postfix_form_gives : Gives ρ postfix_form (nodes node_of_postfix)
  unfolding postfix_form
  postfix_form_gives =
      alt ρ (map_to ρ (λ low high s p. on (postfix_try s) p) (span ρ {ks = k.Question ∷ []} refl))
      (alt ρ (seq ρ (λ low m high s f p h. h s low p) (span ρ refl) behind_dot_gives) (map_to ρ (λ low high t p. on (postfix_step t) p) index_gives))

  post_gives : Gives ρ post exps
  unfolding post
  post_gives = seq ρ (post_nested knots.agree) prim_gives (many ρ postfix_form_gives)

  -- Unary
  pub unary_gives : Gives ρ unary exps
  unfolding unary
  unary_gives = alt ρ (seq ρ {P = by span_of spans} (prefix_nested knots.agree) (token ρ refl (λ t low high n. n)) (of_rule ρ knots RUnary)) post_gives

  cast_gives : Gives ρ cast exps
  unfolding cast
  cast_gives = seq ρ (cast_nested knots.agree) unary_gives (many ρ (then_ ρ (name_gives ρ knots)))

  operand_gives : (l : Level) (below : F Exp) → Gives ρ below exps → Gives ρ (operand l below) (nodes node_of_operand)
  unfolding operand
  operand_gives l below g = seq ρ {P = nothing} operand_nested (none_kept ρ) g

  operands_gives : (l : Level) (below : F Exp) → Gives ρ below exps → Gives ρ (operands l below) (rows (nodes node_of_operand))
  unfolding operands
  operands_gives level.Product below g = many ρ (operand_gives level.Product below g)
  operands_gives level.Sum below g = many ρ (operand_gives level.Sum below g)
  operands_gives level.Shift below g = many ρ (operand_gives level.Shift below g)
  operands_gives level.BitAnd below g = many ρ (operand_gives level.BitAnd below g)
  operands_gives level.BitXor below g = many ρ (operand_gives level.BitXor below g)
  operands_gives level.BitOr below g = many ρ (operand_gives level.BitOr below g)
  operands_gives level.Compare below g = map_to ρ one_row (may ρ (operand_gives level.Compare below g))
  operands_gives level.And below g = many ρ (operand_gives level.And below g)
  operands_gives level.Or below g = many ρ (operand_gives level.Or below g)

  -- the expressions of these levels
  pub binary_gives : (ls : List Level) → Gives ρ (binary ls) exps
  unfolding binary
  binary_gives [] = cast_gives
  binary_gives (l ∷ ls) = seq ρ (binary_nested knots.agree) (binary_gives ls) (operands_gives l (binary ls) (binary_gives ls))
