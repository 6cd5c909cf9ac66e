-- The layout of a module that keeps a program is exactly that module.
use Rattle.std.proofs.Common.{◌≡◌, ℕ, List, sym, subst}
use Rattle.hs_first_tree.specs.Plain as tree
use Rattle.hs_first_em.specs.Plain.{Module}
use Rattle.hs_first_em.specs.Spelled.{Spelled}
use Rattle.hs_first_em.specs.Scoped.{Scoped}
use Rattle.hs_fstar.specs.Reads.{Reads}
use Rattle.hs_fstar.specs.Layout.{layout}
use Rattle.hs_pipeline.specs.Same.{Same, Shape}
use Rattle.hs_cli.specs.Output.{Prints}

pub laid_prints : (name : List ℕ) (p : List tree.Function) (made : Module) (text : List ℕ)
    → ((m : Module) → Spelled m → Reads (layout m) m) → ((text : List ℕ) (m n : Module) → Reads text m → Reads text n → m ≡ n)
    → text ≡ layout made → made.name ≡ name → Spelled made → Scoped made → Same p made → Shape p made.defs → Prints name p text
laid_prints name p made text read once laid named spelled scoped same shape =
    let reads = subst (λ t. Reads t made) (sym laid) (read made spelled) in
    record {
      made = made;
      reads = reads;
      once = λ other h. once text other made h reads;
      laid = laid;
      named = named;
      spelled = spelled;
      scoped = scoped;
      same = same;
      shape = shape;
    }
