-- The language: one function over `u32`, with bindings and assignments, whose value is a sum. Its grammar, one form for each rule.
use Rattle.std.specs.Prelude.{ℕ, zero, suc, Bool, true, false, List, [], ◌∷◌}
use Rattle.hs_grammar.specs.Form.{Rules, rules_of, Form, Pure, Tok, Map, Seq, Alt, Grammar}
use Rattle.hs_grammar.specs.Combinators.{word, ◌>>◌, ◌<<◌, ◌&◌}
use Rattle.hs_front.specs.declared.symbol.Kind.TheVariants.{Pub, Fn, Let, Mut, U32, BuiltIn, Name, Number, LeftParenthesis, RightParenthesis, LeftBrace, RightBrace, Comma, Colon, Semicolon, Arrow, Equals, Plus}
use Rattle.hs_front.specs.declared.symbol.Symbol.{Symbol}
use Rattle.hs_front.specs.declared.syntax.Span.{Span}
use Rattle.hs_front.specs.declared.syntax.Prim.{Prim}
use Rattle.hs_front.specs.declared.syntax.Prim.TheVariants as prims
use Rattle.hs_front.specs.declared.syntax.Sum.{Sum}
use Rattle.hs_front.specs.declared.syntax.Stmt.{Stmt}
use Rattle.hs_front.specs.declared.syntax.Stmt.TheVariants as stmts
use Rattle.hs_front.specs.declared.syntax.Body.{Body}
use Rattle.hs_front.specs.declared.syntax.File.{File}
use Rattle.hs_front.specs.Lexis.{lexis}

-- the grammar has one rule, since nothing nests
pub data Rule : Type 0 where
  AFile : Rule

abbrev pub value : Rule → Type 0
value AFile = File

abbrev pub rules : Rules
rules = rules_of value

abbrev pub F : Type 0 → Type 1
F = Form lexis rules

-- a form at most so many times
unfoldable pub up_to : {A : Type 0} → ℕ → F A → F (List A)
up_to zero f = Pure []
up_to (suc n) f = Alt (Seq (λ a as'. a ∷ as') f (up_to n f)) (Pure [])

abbrev pub span_of : Symbol → Span
span_of s = s.span

-- NAME, which for a local may be a built-in one
unfoldable pub local : F Span
local = Tok (Name ∷ BuiltIn ∷ U32 ∷ []) span_of

-- Prim ::= NAME | INT
unfoldable pub prim : F Prim
prim = Alt (Map prims.Name local) (Tok (Number ∷ []) (λ s. prims.Int s.value))

-- '+' Prim
unfoldable pub addend : F Prim
addend = word Plus >> prim

abbrev pub sum_of : Prim → List Prim → Sum
sum_of first more = record { first = first; more = more }

-- Sum ::= Prim ('+' Prim)*, with at most 61 '+'
unfoldable pub sum : F Sum
sum = Seq sum_of prim (up_to 61 addend)

-- Param ::= NAME ':' 'u32'
unfoldable pub param : F Span
param = local << (word Colon >> word U32)

-- ',' Param
unfoldable pub next_param : F Span
next_param = word Comma >> param

-- (Param (',' Param)*)?, at most 32 of them
unfoldable pub params : F (List Span)
params = Alt (Seq (λ p ps. p ∷ ps) param (up_to 31 next_param)) (Pure [])

-- '=' Sum ';'
unfoldable pub assigned : F Sum
assigned = word Equals >> (sum << word Semicolon)

-- 'mut'?
unfoldable pub mutable : F Bool
mutable = Alt (Map (λ _. true) (word Mut)) (Pure false)

-- 'let' 'mut'? NAME ':' 'u32' '=' Sum ';'
unfoldable pub binding : F Stmt
binding = word Let >> Seq (λ m (r : Span × Sum). stmts.Let m r.0 r.1) mutable (param & assigned)

-- NAME '=' Sum ';'
unfoldable pub assignment : F Stmt
assignment = Seq stmts.Set local assigned

-- Stmt ::= 'let' 'mut'? NAME ':' 'u32' '=' Sum ';' | NAME '=' Sum ';'
unfoldable pub stmt : F Stmt
stmt = Alt binding assignment

abbrev pub only : Sum → Body
only s = record { statements = []; value = s }

abbrev pub with_stmt : Stmt → Body → Body
with_stmt x b = record { statements = x ∷ b.statements; value = b.value }

-- Body ::= Stmt Body | Sum, with at most so many statements
unfoldable pub body : ℕ → F Body
body zero = Map only sum
body (suc n) = Alt (Seq with_stmt stmt (body n)) (Map only sum)

-- 'pub'?
unfoldable pub visibility : F (Unit {0})
visibility = Alt (word Pub) (Pure tt)

-- 'pub'? 'fn' NAME '('
unfoldable pub title : F Span
title = visibility >> (word Fn >> (Tok (Name ∷ []) span_of << word LeftParenthesis))

-- ')' '->' 'u32' '{'
unfoldable pub opening : F (Unit {0})
opening = word RightParenthesis >> (word Arrow >> (word U32 >> word LeftBrace))

-- '{' Stmt* Sum '}', with at most 1,024 statements
abbrev pub file_of : F Body → F File
file_of b = Seq (λ (name : Span) (r : List Span × Body). record { name = name; parameters = r.0; body = r.1 }) title (params & (opening >> (b << word RightBrace)))

-- File ::= 'pub'? 'fn' NAME '(' (Param (',' Param)*)? ')' '->' 'u32' '{' Stmt* Sum '}'
unfoldable pub file : F File
file = file_of (body 1024)

abbrev pub written : Grammar lexis rules
written AFile = file
