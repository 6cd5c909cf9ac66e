use Rattle.std.proofs.Common.{length, ap, ◌∙◌, subst}
use Rattle.hs_forms.specs.Tokens.{tokens_of}
use Rattle.hs_forms.specs.Reading.{RFile}
use Rattle.hs_parser.specs.Told.{Gives}
use Rattle.hs_parser.proofs.Answered.{gives_only_file, gives_only_told}
use Rattle.hs_parser.proofs.parser.parse.Goals as goal

pub returns-in_err-seen-clause-nested : goal.returns-in_err-seen-clause-nested
returns-in_err-seen-clause-nested c = λ x f.
    c.nodes_are_nested.ensures.nested (tokens_of c.args.bytes.now c.args.tokens.now) x.items 0 (length c.args.bytes.now)
    (c.exact.ensures.agrees RFile (tokens_of c.args.bytes.now c.args.tokens.now) x.items f.0)
    (c.nodes_are_nested.ensures.spaced c.args.bytes.now c.args.tokens.now 0 (length c.args.bytes.now) c.requires)

pub returns-clause-nested : goal.returns-clause-nested
returns-clause-nested c = λ x f.
    c.nodes_are_nested.ensures.nested (tokens_of c.args.bytes.now c.args.tokens.now) x.items 0 (length c.args.bytes.now)
    (c.exact.ensures.agrees RFile (tokens_of c.args.bytes.now c.args.tokens.now) x.items f.0)
    (c.nodes_are_nested.ensures.spaced c.args.bytes.now c.args.tokens.now 0 (length c.args.bytes.now) c.requires)

pub returns-in_err-seen-clause-well_formed : goal.returns-in_err-seen-clause-well_formed
returns-in_err-seen-clause-well_formed c = λ x names f.
    c.items_are_well_formed.ensures c.args.bytes.now c.args.tokens.now x.items names
    (c.exact.ensures.agrees RFile (tokens_of c.args.bytes.now c.args.tokens.now) x.items f.0)

pub returns-clause-well_formed : goal.returns-clause-well_formed
returns-clause-well_formed c = λ x names f.
    c.items_are_well_formed.ensures c.args.bytes.now c.args.tokens.now x.items names
    (c.exact.ensures.agrees RFile (tokens_of c.args.bytes.now c.args.tokens.now) x.items f.0)

-- the answer for what the grammar sees
given : (c : goal.After-drop-seen-inside) → Gives c.args.bytes.now (tokens_of c.args.bytes.now c.args.tokens.now) c.answer.result
given c = subst (λ seen. Gives c.args.bytes.now seen c.answer.result) (c.as_slice-2.ensures ∙ (c.in_ok-seen.ensures ∙ ap (tokens_of c.args.bytes.now) c.as_slice.ensures)) c.answer.ensures

pub returns-clause-only_file : goal.returns-clause-only_file
returns-clause-only_file c = λ x r.
    gives_only_file (c.exact.ensures.unique RFile) (c.exact.ensures.apart RFile) c.args.bytes.now (tokens_of c.args.bytes.now c.args.tokens.now) c.answer.result (given c) x r.0 r.1

pub returns-clause-only_told : goal.returns-clause-only_told
returns-clause-only_told c = gives_only_told (c.exact.ensures.unique RFile) (c.exact.ensures.apart RFile) c.args.bytes.now (tokens_of c.args.bytes.now c.args.tokens.now) c.answer.result (given c)
