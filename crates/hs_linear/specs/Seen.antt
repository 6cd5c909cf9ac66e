-- What is seen of a part of a source: the locals that hold a value after it, by those before it, and the rules that its nodes break.
use Rattle.std.specs.Prelude.{ℕ, suc, Bool, not, ◌&&◌, cond, List, [], ◌∷◌, ◌++◌, map, Option, Some, None}
use Rattle.std.specs.List.{filter}
use Rattle.hs_base.specs.declared.rule.Rule.{Rule}
use Rattle.hs_base.specs.declared.rule.Rule.TheVariants.{L3}
use Rattle.hs_tree.specs.Moves.{Holding, also, less, joined}
use Rattle.hs_tree.specs.declared.node.Span.{Span}
use Rattle.hs_linear.specs.Rules.{of_read}
use Rattle.hs_linear.specs.declared.told.Breach.{Breach}
use Rattle.hs_linear.specs.declared.told.Take.{Take}

pub record Seen : Type 0 where
  -- the locals that hold a value after the part, or none where it always exits
  pub after : Option Holding
  -- the rules that its nodes break, but for L3 by loops around it
  pub broken : List Breach
  -- the reads in it that take a value out of a local
  pub taken : List Take

-- a part, by the locals that hold a value before it
abbrev pub Part : Type 0
Part = Holding → Seen

-- nothing is read or assigned
abbrev pub idle : Part
idle d = record { after = Some d; broken = []; taken = [] }

-- what is reached nowhere
abbrev pub nowhere : Part
nowhere d = record { after = None; broken = []; taken = [] }

-- these locals get values
abbrev pub gives : List ℕ → Part
gives ks d = record { after = Some (also ks d); broken = []; taken = [] }

-- the rules that a node breaks
abbrev pub breaks : Span → List Rule → List Breach
breaks at rules = map (λ r. record { rule = r; span = at }) rules

-- a node that is asked for rules by the locals that hold a value before it
abbrev pub asked : Span → (Holding → List Rule) → Part
asked at rules d = record { after = Some d; broken = breaks at (rules d); taken = [] }

-- a read of a local: whether it takes the value out, and whether it does so through a reference
abbrev pub read : Bool → Bool → ℕ → Span → Part
read takes through k at d =
    record {
      after = Some (cond takes (less k d) d);
      broken = breaks at (of_read (d k) through);
      taken = cond (takes && d k) (record { local = k; span = at } ∷ []) [];
    }

-- what is seen of two parts, where the second begins with these locals, unless the first always exits
abbrev pub followed : Seen → Option Holding → Part → Seen
followed s None q = s
followed s (Some d) q = record { after = (q d).after; broken = s.broken ++ (q d).broken; taken = s.taken ++ (q d).taken }

-- one part after the other; nothing is reached behind what always exits
infixr 20 ◌&◌
abbrev pub ◌&◌ : Part → Part → Part
(p & q) d = followed (p d) (p d).after q

-- parts one after the other
abbrev pub each : List Part → Part
each [] = idle
each (p ∷ ps) = p & each ps

-- expressions one after the other, each by whether it is lent
abbrev pub in_row : (ℕ → Bool) → List (Bool → Part) → Part
in_row lent [] = idle
in_row lent (p ∷ ps) = p (lent 0) & in_row (λ i. lent (suc i)) ps

-- the locals that hold a value after one of two branches or the other; a branch that always exits joins with anything
abbrev pub after_either : Option Holding → Option Holding → Option Holding
after_either None e = e
after_either (Some d) None = Some d
after_either (Some d) (Some e) = Some (joined d e)

-- one part or the other
abbrev pub either : Part → Part → Part
either p q d =
    record { after = after_either (p d).after (q d).after; broken = (p d).broken ++ (q d).broken; taken = (p d).taken ++ (q d).taken }

-- one of these parts
abbrev pub one_of : List Part → Part
one_of [] = nowhere
one_of (p ∷ ps) = either p (one_of ps)

-- the reads that take out a local which held a value when a loop's body began, and may hold none at the body's end
abbrev pub lost : Holding → Option Holding → List Take → List Take
lost began None takes = []
lost began (Some ended) takes = filter (λ t. began t.local && not (ended t.local)) takes

-- L3 at these reads
abbrev pub not_given_back : List Take → List Breach
not_given_back takes = map (λ t. record { rule = L3; span = t.span }) takes

-- what is seen of a loop by what is seen of its body; after the loop the locals hold values that did when its body first began
abbrev pub looped : Holding → Seen → Seen
looped began s =
    record { after = Some began; broken = s.broken ++ not_given_back (lost began s.after s.taken); taken = s.taken }

-- a loop behind its bounds, by its variable
abbrev pub turns : ℕ → Part → Part
turns i body d = looped d (body (also (i ∷ []) d))
