use Rattle.std.proofs.Common.{◌≡◌, subst, rules}
use Rattle.hs_syntax.specs.declared.file.File.{File}
use Rattle.hs_symbols.specs.Symbols.{data_of, data_on, way_named}
use Rattle.hs_symbols.specs.Ends.{Reached, follow}
use Rattle.hs_symbols.proofs.Hops.{data_found}
use Rattle.hs_symbols.proofs.paths.Paths.data_of.Goals as goal

pub returns-in-Data : goal.returns-in-Data
returns-in-Data c =
    let reached : Reached c.args.self.now.text c.args.self.now.items 262144 c.self.inside.ends =
    subst (λ (s : File). Reached s.text s.items 262144 c.self.inside.ends) c.self.view_is c.self.invariant in
    let e : data_of c.args.self.now.text c.args.self.now.items c.args.name.now ≡ data_on (follow c.self.inside.ends (way_named c.args.self.now.text c.args.self.now.items c.args.name.now)) =
    data_found c.args.self.now.text c.args.self.now.items c.self.inside.ends c.args.name.now reached in
    search rules

pub returns-in-Alias : goal.returns-in-Alias
returns-in-Alias c =
    let reached : Reached c.args.self.now.text c.args.self.now.items 262144 c.self.inside.ends =
    subst (λ (s : File). Reached s.text s.items 262144 c.self.inside.ends) c.self.view_is c.self.invariant in
    let e : data_of c.args.self.now.text c.args.self.now.items c.args.name.now ≡ data_on (follow c.self.inside.ends (way_named c.args.self.now.text c.args.self.now.items c.args.name.now)) =
    data_found c.args.self.now.text c.args.self.now.items c.self.inside.ends c.args.name.now reached in
    search rules
