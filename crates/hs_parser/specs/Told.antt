-- The file of a text, and what is told where there is none or a limit is passed.
use Rattle.std.specs.Prelude.{◌≡◌, ◌⊎◌, ℕ, ◌<◌, List, [], ◌∷◌, length, take, drop, Result, Ok, Err}
use Rattle.hs_base.specs.declared.place.Broken.{Broken}
use Rattle.hs_base.specs.Positions.{told_at}
use Rattle.hs_grammar.specs.Derives.{DerivesAs, IsBegun}
use Rattle.hs_grammar.specs.Whole.{ParseBreak}
use Rattle.hs_lexer.specs.declared.token.Token.{Token as Spelled}
use Rattle.hs_syntax.specs.declared.file.File.{File}
use Rattle.hs_marks.specs.declared.breach.Breach.{Breach}
use Rattle.hs_marks.specs.Told.{Told as IsTold}
use Rattle.hs_limits.specs.Breaks.{marks_of}
use Rattle.hs_forms.specs.declared.token.Token.{Token}
use Rattle.hs_forms.specs.Tokens.{tokens_of}
use Rattle.hs_forms.specs.Reading.{RFile}
use Rattle.hs_forms.specs.Written.{written}
use Rattle.hs_parser.specs.declared.stop.ParseStop.{ParseStop}
use Rattle.hs_parser.specs.declared.stop.ParseStop.TheVariants as stop
use Rattle.hs_parser.specs.BreakRule.{break_rule}
use Rattle.hs_parser.specs.Nesting.{NestsAt}

-- ---- of the tokens that the grammar sees

-- the file of this text has the items that the grammar derives from the tokens
abbrev pub FileOf : List ℕ → List Token → File → Type 0
FileOf text seen x = DerivesAs written RFile seen x.items × (x.text ≡ text)

-- the byte at which the first of these tokens begins, and the text's end where there is none
abbrev pub start_of : List ℕ → List Token → ℕ
start_of text [] = length text
start_of text (t ∷ ts) = t.span.start

-- what is told where the tokens break at the one of this number, or at the end
abbrev pub break_at : List ℕ → List Token → ℕ → Broken
break_at text seen number = told_at text (break_rule (take number seen) (drop number seen)) (start_of text (drop number seen))

-- the tokens break the grammar: at the first with which no file goes on, or at the end where they end too early
abbrev pub BreaksOf : List ℕ → List Token → Broken → Type 0
BreaksOf text seen b = (number : ℕ) × ParseBreak written RFile seen number × (b ≡ break_at text seen number)

-- what is told of a limit that is passed
abbrev pub limit_at : List ℕ → Breach → Broken
limit_at text p = told_at text p.rule p.span.start

-- the file that is derived passes limits, of which this is told
abbrev pub LimitsOf : List ℕ → List Token → Broken → Type 0
LimitsOf text seen b = (x : File) × FileOf text seen x × ((p : Breach) × IsTold (marks_of x) p × (b ≡ limit_at text p))

-- this is told of the tokens
abbrev pub TellsOf : List ℕ → List Token → Broken → Type 0
TellsOf text seen b = BreaksOf text seen b ⊎ LimitsOf text seen b

-- behind the token at some place more nests than is always read, and the tokens before it begin a file
abbrev pub NestsTooDeep : List Token → Type 0
NestsTooDeep seen = (place : ℕ) × (place < length seen) × NestsAt seen place × IsBegun written RFile (take place seen)

-- the answer: a file that passes no limit; what is told, and nothing else is; more nests than is always read; there was no memory
abbrev pub Gives : List ℕ → List Token → Result File ParseStop → Type 0
Gives text seen (Ok x) = FileOf text seen x × (marks_of x ≡ [])
Gives text seen (Err (stop.Broken b)) = TellsOf text seen b × ((c : Broken) → TellsOf text seen c → b ≡ c)
Gives text seen (Err stop.TooDeep) = NestsTooDeep seen
Gives text seen (Err stop.NoMemory) = Unit {0}

-- of a file the limit that is passed and told, or the file where none is
abbrev pub Limited : List ℕ → File → Result File ParseStop → Type 0
Limited text x (Ok y) = (y ≡ x) × (marks_of x ≡ [])
Limited text x (Err (stop.Broken b)) =
    ((p : Breach) × IsTold (marks_of x) p × (b ≡ limit_at text p)) × ((p : Breach) → IsTold (marks_of x) p → b ≡ limit_at text p)
Limited text x (Err stop.TooDeep) = ⊥
Limited text x (Err stop.NoMemory) = ⊥

-- ---- of the tokens of a text

-- the file has the text, and the items that the grammar derives from its tokens
abbrev pub IsFile : List ℕ → List Spelled → File → Type 0
IsFile text tokens x = FileOf text (tokens_of text tokens) x

-- the file is derived, and passes no limit
abbrev pub IsRead : List ℕ → List Spelled → File → Type 0
IsRead text tokens x = IsFile text tokens x × (marks_of x ≡ [])

-- the tokens break the grammar
abbrev pub ParseBreaks : List ℕ → List Spelled → Broken → Type 0
ParseBreaks text tokens b = BreaksOf text (tokens_of text tokens) b

-- the file that is derived passes limits
abbrev pub LimitBreaks : List ℕ → List Spelled → Broken → Type 0
LimitBreaks text tokens b = LimitsOf text (tokens_of text tokens) b

-- this is told of the tokens
abbrev pub Diagnosis : List ℕ → List Spelled → Broken → Type 0
Diagnosis text tokens b = ParseBreaks text tokens b ⊎ LimitBreaks text tokens b

-- the answer is a file that passes no limit, or what is told, or more nests than is always read, or there was no memory
abbrev pub Answers : List ℕ → List Spelled → Result File ParseStop → Type 0
Answers text tokens (Ok x) = IsRead text tokens x
Answers text tokens (Err (stop.Broken b)) = Diagnosis text tokens b
Answers text tokens (Err stop.TooDeep) = NestsTooDeep (tokens_of text tokens)
Answers text tokens (Err stop.NoMemory) = Unit {0}

-- no answer is given but that too much nests, or that there was no memory
abbrev pub Unanswered : Result File ParseStop → Type 0
Unanswered r = (r ≡ Err stop.TooDeep) ⊎ (r ≡ Err stop.NoMemory)
