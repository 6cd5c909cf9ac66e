-- The grammar as one token of lookahead reads it: where a name is read, what is behind it tells a statement from the value.
use Rattle.std.specs.Prelude.{ℕ, zero, suc, false, List, [], ◌∷◌}
use Rattle.hs_grammar.specs.Form.{Tok, Map, Seq, Alt, Grammar}
use Rattle.hs_grammar.specs.Lookahead.{Tables}
use Rattle.hs_grammar.specs.Parser.{Res}
use Rattle.hs_grammar.specs.Reads.{read}
use Rattle.hs_front.specs.declared.symbol.Kind.TheVariants.{Pub, Fn, Number}
use Rattle.hs_front.specs.declared.syntax.Span.{Span}
use Rattle.hs_front.specs.declared.syntax.Prim.{Prim}
use Rattle.hs_front.specs.declared.syntax.Prim.TheVariants as prims
use Rattle.hs_front.specs.declared.syntax.Sum.{Sum}
use Rattle.hs_front.specs.declared.syntax.Stmt.TheVariants as stmts
use Rattle.hs_front.specs.declared.syntax.Body.{Body}
use Rattle.hs_front.specs.declared.syntax.File.{File}
use Rattle.hs_front.specs.declared.parse.Part.{Part}
use Rattle.hs_front.specs.declared.parse.Part.TheVariants as parts
use Rattle.hs_front.specs.Lexis.{lexis}
use Rattle.hs_front.specs.Written.{Rule, AFile, rules, F, up_to, local, addend, sum_of, sum, binding, assigned, only, with_stmt, file_of}

-- behind the name of an assignment: its value, and the rest of the body
abbrev pub assigns : Sum → Body → Span → Body
assigns v b name = with_stmt (stmts.Set name v) b

-- behind the first part of the body's value: the other parts
abbrev pub begins_value : List Prim → Prim → Body
begins_value more first = only (sum_of first more)

abbrev pub named : Span → (Span → Body) → Body
named name f = f name

-- ('+' Prim)*
unfoldable pub more : F (List Prim)
more = up_to 61 addend

-- the body behind its first name, of which the body is made
unfoldable pub behind_name : F Body → F (Span → Body)
behind_name rest =
    Alt (Seq assigns assigned rest) (Map (λ ps (name : Span). begins_value ps (prims.Name name)) more)

-- a body whose first token is a number
unfoldable pub numeric : F Body
numeric = Seq (λ first ps. begins_value ps first) (Tok (Number ∷ []) (λ s. prims.Int s.value)) more

-- a body as it is read
unfoldable pub body_read : ℕ → F Body
body_read zero = Map only sum
body_read (suc n) = Alt (Seq with_stmt binding (body_read n)) (Alt (Seq named local (behind_name (body_read n))) numeric)

unfoldable pub file_read : F File
file_read = file_of (body_read 1024)

abbrev pub grammar : Grammar lexis rules
grammar AFile = file_read

abbrev pub rule_begin : Rule → List lexis.kind
rule_begin AFile = Pub ∷ Fn ∷ []

abbrev pub tables : Tables lexis rules
tables = record { empty = λ N. false; begin = rule_begin; go_on = λ N. [] }

-- the parser of a form; no rule nests in another
abbrev pub reads : {A : Type 0} → F A → List lexis.token → Res lexis.token A
reads f w = read tables grammar 0 f w

-- what a body goes on with behind a name
unfoldable pub behind : F (Span → Part)
behind = Alt (Map (λ v (name : Span). parts.Statement (stmts.Set name v)) assigned) (Map (λ ps (name : Span). parts.Value (sum_of (prims.Name name) ps)) more)

abbrev pub named_step : Span → (Span → Part) → Part
named_step name f = f name

-- a statement, or the value
unfoldable pub step : F Part
step =
    Alt (Map parts.Statement binding)
    (Alt (Seq named_step local behind) (Seq (λ first ps. parts.Value (sum_of first ps)) (Tok (Number ∷ []) (λ s. prims.Int s.value)) more))
