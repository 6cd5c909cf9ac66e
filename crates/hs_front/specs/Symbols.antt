-- The tokens of a text as the grammar sees them.
use Rattle.std.specs.Prelude.{ℕ, ◌^◌, List, map, ltb, if◌then◌else◌}
use Rattle.hs_lexer.specs.declared.token.TokenKind.{TokenKind}
use Rattle.hs_lexer.specs.declared.token.TokenKind.TheVariants as token
use Rattle.hs_lexer.specs.declared.token.Token.{Token}
use Rattle.hs_lexer.specs.Places.{spelling_of}
use Rattle.hs_front.specs.declared.symbol.Symbol.{Symbol}
use Rattle.hs_front.specs.Kinds.{kind_of}

-- the value of a number below 2^32, and 0 for any other token
abbrev pub value_of : TokenKind → ℕ
value_of (token.Int value suffix) = if ltb value (2 ^ 32) then value else 0
value_of token.Name = 0
value_of token.Reserved = 0
value_of token.Text = 0
value_of token.Mark = 0

-- a token of this text
abbrev pub symbol_of : List ℕ → Token → Symbol
symbol_of text t =
    record {
      kind = kind_of t.kind (spelling_of text t);
      span = record { start = t.start; end = t.end };
      value = value_of t.kind;
    }

abbrev pub symbols_of : List ℕ → List Token → List Symbol
symbols_of text ts = map (symbol_of text) ts
