use Rattle.hs_grammar.proofs.Grammars as grammars
use Rattle.hs_grammar.proofs.grammar.exact.Goals as goal

pub returns-clause-answers : goal.returns-clause-answers
returns-clause-answers g c = grammars.answers g.G.Grammar.decides g.G.Grammar.written g.G.Grammar.parsed g.G.Grammar.agree g.G.Grammar.tables g.G.Grammar.fits

pub returns-clause-found : goal.returns-clause-found
returns-clause-found g c = grammars.found g.G.Grammar.decides g.G.Grammar.written g.G.Grammar.parsed g.G.Grammar.agree g.G.Grammar.tables g.G.Grammar.fits

pub returns-clause-unique : goal.returns-clause-unique
returns-clause-unique g c = grammars.unique g.G.Grammar.decides g.G.Grammar.written g.G.Grammar.parsed g.G.Grammar.agree g.G.Grammar.tables g.G.Grammar.fits

pub returns-clause-apart : goal.returns-clause-apart
returns-clause-apart g c = grammars.apart g.G.Grammar.decides g.G.Grammar.written g.G.Grammar.parsed g.G.Grammar.agree g.G.Grammar.tables g.G.Grammar.fits

pub returns-clause-parses : goal.returns-clause-parses
returns-clause-parses g c = grammars.parses g.G.Grammar.decides g.G.Grammar.written g.G.Grammar.parsed g.G.Grammar.agree g.G.Grammar.tables g.G.Grammar.fits

pub returns-clause-only : goal.returns-clause-only
returns-clause-only g c = grammars.only g.G.Grammar.decides g.G.Grammar.written g.G.Grammar.parsed g.G.Grammar.agree g.G.Grammar.tables g.G.Grammar.fits

pub returns-clause-agrees : goal.returns-clause-agrees
returns-clause-agrees g c = grammars.agrees g.G.Grammar.decides g.G.Grammar.written g.G.Grammar.parsed g.G.Grammar.agree g.G.Grammar.tables g.G.Grammar.fits

pub returns-clause-begun : goal.returns-clause-begun
returns-clause-begun g c = grammars.begun g.G.Grammar.decides g.G.Grammar.written g.G.Grammar.parsed g.G.Grammar.agree g.G.Grammar.tables g.G.Grammar.fits

pub returns-clause-farther : goal.returns-clause-farther
returns-clause-farther g c = grammars.farther g.G.Grammar.decides g.G.Grammar.written g.G.Grammar.parsed g.G.Grammar.agree g.G.Grammar.tables g.G.Grammar.fits

pub returns-clause-parses_all : goal.returns-clause-parses_all
returns-clause-parses_all g c = grammars.parses_all g.G.Grammar.decides g.G.Grammar.written g.G.Grammar.parsed g.G.Grammar.agree g.G.Grammar.tables g.G.Grammar.fits
