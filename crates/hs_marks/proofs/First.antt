-- What is broken first on a walk is the first in the list of all that is broken.
use Rattle.std.proofs.Common.{ℕ, suc, ◌≡◌, refl, sym, ◌∙◌, ap₂, Option, Some, None, List, [], ◌∷◌, ◌++◌, map}
use Rattle.hs_base.specs.declared.rule.Rule.{Rule}
use Rattle.hs_syntax.specs.declared.span.Span.{Span}
use Rattle.hs_marks.specs.declared.breach.Breach.{Breach}
use Rattle.hs_marks.specs.First.{or_else, or_own, breach, first}
use Rattle.hs_marks.specs.Marked.{Marked, Mark, none, join, node, mark, marks}

abbrev pub head_of : List Mark → Option Breach
head_of [] = None
head_of (m ∷ ms) = Some (record { rule = m.rule; span = m.at })

head_append : (xs ys : List Mark) → head_of (xs ++ ys) ≡ or_else (head_of xs) (head_of ys)
head_append [] ys = refl
head_append (x ∷ xs) ys = refl

head_own : (at : Span) (depth : ℕ) (rules : List Rule) → head_of (map (mark at depth) rules) ≡ breach at rules
head_own at depth [] = refl
head_own at depth (r ∷ rs) = refl

or_own_is : (p q : Option Breach) → or_own p q ≡ or_else p q
or_own_is None None = refl
or_own_is None (Some q) = refl
or_own_is (Some p) None = refl
or_own_is (Some p) (Some q) = refl

pub first_is : (m : Marked) (depth : ℕ) → first m ≡ head_of (marks m depth)
first_is none depth = refl
first_is (join a b) depth = ap₂ or_else (first_is a depth) (first_is b depth) ∙ sym (head_append (marks a depth) (marks b depth))
first_is (node at rules parts) depth =
    or_own_is (first parts) (breach at rules)
    ∙ ap₂ or_else (first_is parts (suc depth)) (sym (head_own at depth rules))
    ∙ sym (head_append (marks parts (suc depth)) (map (mark at depth) rules))
