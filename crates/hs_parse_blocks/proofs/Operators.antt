-- Operators and their operands, level by level.
use Rattle.std.proofs.Common.{◌≡◌, ◌≢◌, ℕ, zero, suc, ◌-◌, ◌<◌, ◌≤◌, Bool, true, false, cond, List, [], ◌∷◌, length, get_or, take, drop, length-drop, take_all, drop-cons, Some, None, Result, Err, arith, refl, sym, ap, ◌∙◌, subst}
use Rattle.hs_grammar.specs.declared.error.ParseError.{ParseError}
use Rattle.hs_grammar.specs.Kinds.{starts}
use Rattle.hs_grammar.specs.Lookahead.{begin, empty}
use Rattle.hs_grammar.specs.Parser.{Done, and_then, giving, token_of}
use Rattle.hs_grammar.specs.Reads.{Reads}
use Rattle.hs_grammar.specs.Repeat.{repeated}
use Rattle.hs_grammar.specs.Until.{pushed}
use Rattle.hs_grammar.specs.Combinators.{star}
use Rattle.hs_grammar.proofs.Reading.{reads_err, reads_star}
use Rattle.hs_syntax.specs.declared.exp.BinaryOp.{BinaryOp}
use Rattle.hs_syntax.specs.declared.exp.Level.{Level}
use Rattle.hs_syntax.specs.declared.exp.Level.TheVariants as level
use Rattle.hs_syntax.specs.declared.exp.Exp.{Exp}
use Rattle.hs_syntax.specs.declared.exp.Operand.{Operand}
use Rattle.hs_forms.specs.declared.token.Kind.{Kind}
use Rattle.hs_forms.specs.declared.token.Token.{Token}
use Rattle.hs_forms.specs.Lexis.{lexis}
use Rattle.hs_forms.specs.Nodes.{binary_of}
use Rattle.hs_forms.specs.Reading.{F, grammar, tables, op_of, operator, operand, one_or_none, operands, binary, cast}
use Rattle.hs_forms.specs.Parsers.{reads}

-- an operand begins with its operator
pub operand_begin : (l : Level) (below : F Exp) → begin tables (operand l below) ≡ begin tables (operator l)
unfolding operator operand
operand_begin level.Product below = refl
operand_begin level.Sum below = refl
operand_begin level.Shift below = refl
operand_begin level.BitAnd below = refl
operand_begin level.BitXor below = refl
operand_begin level.BitOr below = refl
operand_begin level.Compare below = refl
operand_begin level.And below = refl
operand_begin level.Or below = refl

-- and is never empty
pub operand_full : (l : Level) (below : F Exp) → empty tables (operand l below) ≡ false
unfolding operator operand
operand_full level.Product below = refl
operand_full level.Sum below = refl
operand_full level.Shift below = refl
operand_full level.BitAnd below = refl
operand_full level.BitXor below = refl
operand_full level.BitOr below = refl
operand_full level.Compare below = refl
operand_full level.And below = refl
operand_full level.Or below = refl

-- an operator that is no shift is one token
mark_reads : (depth : ℕ) (l : Level) (w : List Token) → l ≢ level.Shift → reads depth (operator l) w ≡ giving op_of (token_of lexis (begin tables (operator l)) w)
unfolding operator
mark_reads depth level.Product w h = refl
mark_reads depth level.Sum w h = refl
mark_reads depth level.Shift w h = absurd (h refl)
mark_reads depth level.BitAnd w h = refl
mark_reads depth level.BitXor w h = refl
mark_reads depth level.BitOr w h = refl
mark_reads depth level.Compare w h = refl
mark_reads depth level.And w h = refl
mark_reads depth level.Or w h = refl

module _ (depth : ℕ) (l : Level) (ks : List Kind) (w new : List Token) (other : l ≢ level.Shift) (e : ks ≡ begin tables (operator l)) where
  marked : reads depth (operator l) w ≡ giving op_of (token_of lexis ks w)
  marked = mark_reads depth l w other ∙ ap (λ ks. giving op_of (token_of lexis ks w)) (sym e)

  pub mark_ok : (t : Token) → token_of lexis ks w ≡ Done t new → reads depth (operator l) w ≡ Done (op_of t) new
  mark_ok t h = marked ∙ ap (λ r. giving op_of r) h

  pub mark_err : (x : ParseError) → Reads {A = Token} (token_of lexis ks w) (Err x) new → Reads {A = BinaryOp} (reads depth (operator l) w) (Err x) new
  mark_err x h = subst (λ r. Reads {A = BinaryOp} r (Err x) new) (sym marked) (reads_err (λ t q. Done (op_of t) q) (token_of lexis ks w) x new h)

-- operators that are no comparisons may follow each other
star_reads : (depth : ℕ) (l : Level) (below : F Exp) (w : List Token) → l ≢ level.Compare → reads depth (operands l below) w ≡ reads depth (star (operand l below)) w
unfolding operands
star_reads depth level.Product below w h = refl
star_reads depth level.Sum below w h = refl
star_reads depth level.Shift below w h = refl
star_reads depth level.BitAnd below w h = refl
star_reads depth level.BitXor below w h = refl
star_reads depth level.BitOr below w h = refl
star_reads depth level.Compare below w h = absurd (h refl)
star_reads depth level.And below w h = refl
star_reads depth level.Or below w h = refl

-- what the loop over operands answers is what they answer
pub operands_read : (depth : ℕ) (l : Level) (below : F Exp) (ks : List Kind) (os : List Operand) (w new : List Token) (r : Result (List Operand) ParseError) → l ≢ level.Compare
    → ks ≡ begin tables (operator l) → os ≡ [] → Reads (repeated (starts lexis ks) (λ os v. giving (pushed os) (reads depth (operand l below) v)) os w) r new → Reads (reads depth (operands l below) w) r new
operands_read depth l below ks os w new r other e i h =
    subst (λ q. Reads q r new) (sym (star_reads depth l below w other))
    (reads_star tables grammar depth (operand l below) os w new r i
    (subst (λ ks. Reads (repeated (starts lexis ks) (λ os v. giving (pushed os) (reads depth (operand l below) v)) os w) r new) (e ∙ sym (operand_begin l below)) h))

-- an operand alone
pub pushed_alone : (l m : List Operand) (o : Operand) → m ≡ pushed l o → l ≡ [] → m ≡ o ∷ []
pushed_alone l m o e i = e ∙ ap (λ l. pushed l o) i

-- a comparison has one operand or none
module _ (depth : ℕ) (below : F Exp) (ks : List Kind) (b : Bool) (w new : List Token) (e : ks ≡ begin tables (operator level.Compare)) (i : b ≡ starts lexis ks w) where
  compared : reads depth (operands level.Compare below) w ≡ giving one_or_none (cond b (giving (λ o. Some o) (reads depth (operand level.Compare below) w)) (Done None w))
  unfolding operands
  compared =
      ap (λ b. giving one_or_none (cond b (giving (λ o. Some o) (reads depth (operand level.Compare below) w)) (Done None w)))
      (ap (λ ks. starts lexis ks w) (operand_begin level.Compare below ∙ sym e) ∙ sym i)

  pub compared_one : (o : Operand) → b ≡ true → reads depth (operand level.Compare below) w ≡ Done o new → reads depth (operands level.Compare below) w ≡ Done (o ∷ []) new
  compared_one o t h =
      compared ∙ ap (λ b. giving one_or_none (cond b (giving (λ o. Some o) (reads depth (operand level.Compare below) w)) (Done None w))) t
      ∙ ap (λ r. giving one_or_none (giving (λ o. Some o) r)) h

  pub compared_err : (x : ParseError) → b ≡ true → Reads {A = Operand} (reads depth (operand level.Compare below) w) (Err x) new
      → Reads {A = List Operand} (reads depth (operands level.Compare below) w) (Err x) new
  compared_err x t h =
      subst (λ r. Reads {A = List Operand} r (Err x) new)
      (sym (compared ∙ ap (λ b. giving one_or_none (cond b (giving (λ o. Some o) (reads depth (operand level.Compare below) w)) (Done None w))) t))
      (reads_err (λ o q. Done (one_or_none o) q) (giving (λ o. Some o) (reads depth (operand level.Compare below) w)) x new
      (reads_err (λ o q. Done (Some o) q) (reads depth (operand level.Compare below) w) x new h))

  pub compared_none : b ≡ false → reads depth (operands level.Compare below) w ≡ Done [] w
  compared_none t = compared ∙ ap (λ b. giving one_or_none (cond b (giving (λ o. Some o) (reads depth (operand level.Compare below) w)) (Done None w))) t

-- with no level an operand stands alone
pub binary_start : (depth : ℕ) (ls : List Level) (w : List Token) → reads depth (binary (drop (length ls) ls)) w ≡ reads depth cast w
unfolding binary
binary_start depth [] w = refl
binary_start depth (l ∷ ls) w = binary_start depth ls w

-- the level at place n, behind which those from place m on are so many
module _ (depth : ℕ) (ls : List Level) (l : Level) (n m k : ℕ) (w v new : List Token) (x : Exp) (h : n < length ls) (e : m ≡ suc n) (i : k ≡ length ls - m) where
  stronger : take k (drop m ls) ≡ drop m ls
  stronger =
      let long : length (drop m ls) ≡ length ls - m = length-drop m ls in
      let all : length (drop m ls) ≤ k = omega arith in
      take_all k (drop m ls) all

  from_here : get_or ls n l ∷ take k (drop m ls) ≡ drop n ls
  from_here = ap (λ rest. get_or ls n l ∷ rest) (stronger ∙ ap (λ m. drop m ls) e) ∙ sym (drop-cons ls n l h)

  first : reads depth (binary (drop m ls)) w ≡ Done x v → reads depth (binary (take k (drop m ls))) w ≡ Done x v
  first r = subst (λ ls. reads depth (binary ls) w ≡ Done x v) (sym stronger) r

  on : (os : List Operand) → reads depth (binary (take k (drop m ls))) w ≡ Done x v → reads depth (operands (get_or ls n l) (binary (take k (drop m ls)))) v ≡ Done os new
      → reads depth (binary (get_or ls n l ∷ take k (drop m ls))) w ≡ Done (binary_of x os) new
  unfolding binary
  on os r more =
      ap (λ r. and_then r (λ a q. giving (binary_of a) (reads depth (operands (get_or ls n l) (binary (take k (drop m ls)))) q))) r ∙ ap (λ r. giving (binary_of x) r) more

  stops : (y : ParseError) → reads depth (binary (take k (drop m ls))) w ≡ Done x v → Reads {A = List Operand} (reads depth (operands (get_or ls n l) (binary (take k (drop m ls)))) v) (Err y) new
      → Reads {A = Exp} (reads depth (binary (get_or ls n l ∷ take k (drop m ls))) w) (Err y) new
  unfolding binary
  stops y r more =
      subst (λ r. Reads {A = Exp} r (Err y) new)
      (sym (ap (λ r. and_then r (λ a q. giving (binary_of a) (reads depth (operands (get_or ls n l) (binary (take k (drop m ls)))) q))) r))
      (reads_err (λ os q. Done (binary_of x os) q) (reads depth (operands (get_or ls n l) (binary (take k (drop m ls)))) v) y new more)

  -- its expressions are its operands behind an expression of the stronger ones
  pub binary_on : (os : List Operand) → reads depth (binary (drop m ls)) w ≡ Done x v → reads depth (operands (get_or ls n l) (binary (take k (drop m ls)))) v ≡ Done os new
      → reads depth (binary (drop n ls)) w ≡ Done (binary_of x os) new
  binary_on os r more = subst (λ ls. reads depth (binary ls) w ≡ Done (binary_of x os) new) from_here (on os (first r) more)

  -- where its operands fail it fails
  pub binary_stops : (y : ParseError) → reads depth (binary (drop m ls)) w ≡ Done x v → Reads {A = List Operand} (reads depth (operands (get_or ls n l) (binary (take k (drop m ls)))) v) (Err y) new
      → Reads {A = Exp} (reads depth (binary (drop n ls)) w) (Err y) new
  binary_stops y r more = subst (λ ls. Reads {A = Exp} (reads depth (binary ls) w) (Err y) new) from_here (stops y (first r) more)

binary_up : (depth : ℕ) (l : Level) (ls : List Level) (w new : List Token) (e : ParseError) → Reads {A = Exp} (reads depth (binary ls) w) (Err e) new → Reads {A = Exp} (reads depth (binary (l ∷ ls)) w) (Err e) new
unfolding binary
binary_up depth l ls w new e r = reads_err (λ a q. giving (binary_of a) (reads depth (operands l (binary ls)) q)) (reads depth (binary ls) w) e new r

-- where the levels from some place on fail all fail
pub binary_fails : (depth : ℕ) (ls : List Level) (n : ℕ) (w new : List Token) (e : ParseError) → Reads {A = Exp} (reads depth (binary (drop n ls)) w) (Err e) new → Reads {A = Exp} (reads depth (binary ls) w) (Err e) new
binary_fails depth ls zero w new e r = r
binary_fails depth [] (suc n) w new e r = r
binary_fails depth (l ∷ ls) (suc n) w new e r = binary_up depth l ls w new e (binary_fails depth ls n w new e r)
