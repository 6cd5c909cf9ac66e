-- A small grammar, to show that the definitions compute: List ::= '(' list(Item)? ')' and Item ::= 'a' | List.
use Rattle.std.specs.Prelude.{ℕ, ◌==◌, Bool, false, List, [], ◌∷◌, Option, Some, None, sum}
use Rattle.hs_grammar.specs.Form.{Lexis, Rules, Form, Tok, Alt, Map, Grammar, lexis_of, rules_of}
use Rattle.hs_grammar.specs.Lookahead.{Tables}
use Rattle.hs_grammar.specs.Combinators.{word, rule, ◌>>◌, ◌<<◌, optional, list, list_read}

-- the tokens, which are their own kinds
pub data Sign : Type 0 where
  Open : Sign
  Close : Sign
  Comma : Sign
  A : Sign

-- a number for each kind
abbrev pub code : Sign → ℕ
code Open = 0
code Close = 1
code Comma = 2
code A = 3

-- whether two kinds are one
abbrev pub same : Sign → Sign → Bool
same x y = code x == code y

-- the tokens and their kinds
abbrev pub lexis : Lexis
lexis = lexis_of (λ (s : Sign). s) same

-- the only rule
pub data Rule : Type 0 where
  RList : Rule

-- a list gives the number of its letters
abbrev pub value : Rule → Type 0
value RList = ℕ

-- the rules and what they give
abbrev pub rules : Rules
rules = rules_of value

-- 'a' or a list
abbrev pub item : Form lexis rules ℕ
item = Alt (Tok (A ∷ []) (λ _. 1)) (rule RList)

-- the number of letters in items that may be missing
abbrev pub count_of : Option (List ℕ) → ℕ
count_of None = 0
count_of (Some ns) = sum ns

-- the grammar as it is written
abbrev pub written : Grammar lexis rules
written RList = word Open >> (Map count_of (optional (list (word Comma) item)) << word Close)

-- the grammar as one token of lookahead reads it
abbrev pub parsed : Grammar lexis rules
parsed RList = word Open >> (Map count_of (optional (list_read (word Comma) item)) << word Close)

-- a list is never empty
abbrev pub rule_empty : Rule → Bool
rule_empty RList = false

-- a list begins with its bracket
abbrev pub rule_begin : Rule → List Sign
rule_begin RList = Open ∷ []

-- nothing goes on behind a list
abbrev pub rule_go_on : Rule → List Sign
rule_go_on RList = []

-- what is said of the rule
abbrev pub tables : Tables lexis rules
tables = record { empty = rule_empty; begin = rule_begin; go_on = rule_go_on }
