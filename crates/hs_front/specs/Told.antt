-- Which texts are accepted, the program of each, and the rule and the place that are told of any other.
use Rattle.std.specs.Prelude.{◌≡◌, ◌⊎◌, ℕ, List, [], length, slice_get, Option, Some, None}
use Rattle.hs_base.specs.declared.rule.Rule.TheVariants.{G8}
use Rattle.hs_base.specs.declared.place.Broken.{Broken}
use Rattle.hs_base.specs.Positions as positions
use Rattle.hs_first_tree.specs.Plain as tree
use Rattle.hs_grammar.specs.Derives.{DerivesAs}
use Rattle.hs_grammar.specs.Whole.{ParseBreak}
use Rattle.hs_lexer.specs.declared.token.Token.{Token}
use Rattle.hs_lexer.specs.Lexes.{Lexes, LexBreak}
use Rattle.hs_syntax.specs.declared.file.File.{File as Whole}
use Rattle.hs_forms.specs.Tokens.{tokens_of}
use Rattle.hs_parser.specs.Told.{IsRead, Diagnosis, NestsTooDeep}
use Rattle.hs_front.specs.declared.syntax.File.{File}
use Rattle.hs_front.specs.Stages.{KeepsRules, TellsRules}
use Rattle.hs_front.specs.Symbols.{symbols_of}
use Rattle.hs_front.specs.Written.{AFile, written}
use Rattle.hs_front.specs.Marks.{Mark, name_marks, type_marks, IsFirst}
use Rattle.hs_front.specs.Program.{program_from}

-- the tokens are a file of the whole language, which passes no limit and breaks no rule of the stages behind
abbrev pub IsWhole : List ℕ → List Token → Type 0
IsWhole text tokens = (x : Whole) × IsRead text tokens x × KeepsRules x

-- the tokens are a file of the whole language which passes no limit, and this is told of it by the stages behind
abbrev pub RulesBreak : List ℕ → List Token → Broken → Type 0
RulesBreak text tokens b = (x : Whole) × IsRead text tokens x × TellsRules x b

-- the first language's grammar derives a file from these tokens of the text, its names break no rule, and this is its program
abbrev pub AcceptedBehind : List ℕ → List Token → List tree.Function → Type 0
AcceptedBehind text tokens p =
    (f : File) × DerivesAs written AFile (symbols_of text tokens) f × (name_marks text f ≡ []) × (type_marks text f ≡ []) × (p ≡ program_from text f)

-- the tokens are a file of the whole language and of the first one, and this is its program
abbrev pub AcceptedTokens : List ℕ → List Token → List tree.Function → Type 0
AcceptedTokens text tokens p = IsWhole text tokens × AcceptedBehind text tokens p

-- the text breaks no rule, and this is its program
abbrev pub Accepted : List ℕ → List tree.Function → Type 0
Accepted text p = (tokens : List Token) × Lexes text tokens × AcceptedTokens text tokens p

-- the byte at which the token of this number begins, and the text's end where there is no such token
abbrev pub start_of : List ℕ → Option Token → ℕ
start_of text (Some t) = t.start
start_of text None = length text

-- G8 at the token of this number, or at the end
abbrev pub break_at : List ℕ → List Token → ℕ → Broken
break_at text tokens at = positions.told_at text G8 (start_of text (slice_get tokens at))

-- the tokens break the first language's grammar: G8 is told at the first with which no file of it goes on, or at the end
-- where they end too early
abbrev pub GrammarBreak : List ℕ → List Token → Broken → Type 0
GrammarBreak text tokens b =
    (at : ℕ) × ParseBreak written AFile (symbols_of text tokens) at × (b ≡ break_at text tokens at)

-- a mark is told at its name's first byte
abbrev pub told_at : List ℕ → Mark → Broken
told_at text m = positions.told_at text m.rule m.at.start

-- the file breaks rules on names, the first of which is told, or else on types
abbrev pub FileBreak : List ℕ → File → Broken → Type 0
FileBreak text f b =
    (m : Mark) × (b ≡ told_at text m)
    × (IsFirst m (name_marks text f) ⊎ ((name_marks text f ≡ []) × IsFirst m (type_marks text f)))

-- this is told of a file of the whole language: what breaks the first language's grammar, or else the names of the file that
-- this derives
abbrev pub ToldBehind : List ℕ → List Token → Broken → Type 0
ToldBehind text tokens b =
    GrammarBreak text tokens b ⊎ ((f : File) × DerivesAs written AFile (symbols_of text tokens) f × FileBreak text f b)

-- this is told of the tokens: what breaks the whole language's grammar, or a limit that its file passes; or else what its names
-- or its declarations break; or else what the first language tells of them
abbrev pub ToldTokens : List ℕ → List Token → Broken → Type 0
ToldTokens text tokens b = Diagnosis text tokens b ⊎ (RulesBreak text tokens b ⊎ (IsWhole text tokens × ToldBehind text tokens b))

-- this is told of the text: what breaks its tokens, or else what is told of these
abbrev pub Told : List ℕ → Broken → Type 0
Told text b = LexBreak text b ⊎ ((tokens : List Token) × Lexes text tokens × ToldTokens text tokens b)

-- the text has tokens, which nest deeper than is always read
abbrev pub NestsTooDeepIn : List ℕ → Type 0
NestsTooDeepIn text = (tokens : List Token) × Lexes text tokens × NestsTooDeep (tokens_of text tokens)
