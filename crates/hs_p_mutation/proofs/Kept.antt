-- What a program keeps without assignments: its headers, loops and calls, and that it is sound.
use Rattle.std.proofs.Common.{◌≡◌, ℕ, List, [], ◌∷◌, map, Bool, true, false, ◌||◌, eqb, bytes_eq, length, refl, sym, ap, ap₂, subst, arith, true≢false}
use Rattle.std.specs.List.{AllByRecursion, IsDistinct, list_any}
use Rattle.hs_first_tree.specs.Value.{ValType}
use Rattle.hs_first_tree.specs.Plain.{Exp, var, lit, op, Exps, no_exps, exp, Rhs, plain, bind, set, Stmts, no_stmts, stmt, Block, ends, Function}
use Rattle.hs_first_tree.specs.Features.{Feature, no_exit, no_assign}
use Rattle.hs_first_tree.specs.Count.{Weights, looping, calling, total_stmts, total_block, uses, loops, calls}
use Rattle.hs_first_tree.specs.Call.{header_of}
use Rattle.hs_first_tree.specs.Sound.{ScopedExp, ScopedExps, ScopedRhs, ScopedStmts, ScopedBlock, TypedStmts, TypedBlock, SoundFunction, Sound}
use Rattle.hs_p_mutation.specs.Without.{stmts_without, block_without, function_without, program_without}

pub headers_kept : (p : List Function) → map header_of (program_without p) ≡ map header_of p
headers_kept [] = refl
headers_kept (f ∷ p) = ap (λ hs. header_of f ∷ hs) (headers_kept p)

names_kept : (p : List Function) → map (λ f. f.name) (program_without p) ≡ map (λ f. f.name) p
names_kept [] = refl
names_kept (f ∷ p) = ap (λ ws. f.name ∷ ws) (names_kept p)

-- what counts a binding as an assignment counts the same
module _ (w : Weights) (even : (k : ℕ) (r : Rhs) → w.of_stmt (bind k r) ≡ w.of_stmt (set k r)) where
  stmts_count : (xs : Stmts) → total_stmts w (stmts_without xs) ≡ total_stmts w xs
  stmts_count no_stmts = refl
  stmts_count (stmt (bind k r) xs) = omega (arith, stmts_count xs)
  stmts_count (stmt (set k r) xs) = omega (arith, even k r, stmts_count xs)

  block_count : (b : Block) → total_block w (block_without b) ≡ total_block w b
  block_count (ends xs r) = omega (arith, stmts_count xs)

pub loops_kept : (p : List Function) → map loops (program_without p) ≡ map loops p
loops_kept [] = refl
loops_kept (f ∷ p) = ap₂ (λ n ns. n ∷ ns) (block_count looping (λ k r. refl) f.block) (loops_kept p)

pub calls_kept : (p : List Function) (name : List ℕ) → map (calls name) (program_without p) ≡ map (calls name) p
calls_kept [] name = refl
calls_kept (f ∷ p) name = ap₂ (λ n ns. n ∷ ns) (block_count (calling name) (λ k r. refl) f.block) (calls_kept p name)

-- the first list's locals are in the second
abbrev In : List ℕ → List ℕ → Type 0
In a b = (j : ℕ) → list_any (eqb j) a ≡ true → list_any (eqb j) b ≡ true

or_more : (x a b : Bool) → (a ≡ true → b ≡ true) → (x || a) ≡ true → (x || b) ≡ true
or_more true a b h e = refl
or_more false a b h e = h e

or_last : (x a : Bool) → a ≡ true → (x || a) ≡ true
or_last true a e = refl
or_last false a e = e

in_both : (k : ℕ) (a b : List ℕ) → In a b → In (k ∷ a) (k ∷ b)
in_both k a b h j e = or_more (eqb j k) _ _ (h j) e

in_more : (k : ℕ) (a b : List ℕ) → In a b → In a (k ∷ b)
in_more k a b h j e = or_last (eqb j k) _ (h j e)

module _ (count : ℕ) where
  mutual
    exp_scoped : (e : Exp) (a b : List ℕ) → In a b → ScopedExp count a e → ScopedExp count b e
    exp_scoped (var k) a b h q = (q.0, h k q.1)
    exp_scoped (lit n) a b h q = q
    exp_scoped (op name es) a b h q = exps_scoped es a b h q

    exps_scoped : (es : Exps) (a b : List ℕ) → In a b → ScopedExps count a es → ScopedExps count b es
    exps_scoped no_exps a b h q = q
    exps_scoped (exp e es) a b h q = (exp_scoped e a b h q.0, exps_scoped es a b h q.1)

  rhs_scoped : (r : Rhs) (a b : List ℕ) → In a b → ScopedRhs count a r → ScopedRhs count b r
  rhs_scoped (plain e) a b h q = exp_scoped e a b h q

  stmts_scoped : (xs : Stmts) (tail : Rhs) (a b : List ℕ) → In a b → ScopedStmts count a xs tail → ScopedStmts count b (stmts_without xs) tail
  stmts_scoped no_stmts tail a b h q = rhs_scoped tail a b h q
  stmts_scoped (stmt (bind k r) xs) tail a b h q =
      (rhs_scoped r a b h q.0, q.1, stmts_scoped xs tail (k ∷ a) (k ∷ b) (in_both k a b h) q.2)
  stmts_scoped (stmt (set k r) xs) tail a b h q =
      (rhs_scoped r a b h q.0, q.1, stmts_scoped xs tail a (k ∷ b) (in_more k a b h) q.3)

stmts_typed : (types : ℕ → ValType) (xs : Stmts) → TypedStmts types xs → TypedStmts types (stmts_without xs)
stmts_typed types no_stmts q = q
stmts_typed types (stmt (bind k r) xs) q = (q.0, stmts_typed types xs q.1)
stmts_typed types (stmt (set k r) xs) q = (q.0, stmts_typed types xs q.1)

block_scoped : (count : ℕ) (bound : List ℕ) (b : Block) → ScopedBlock count bound b → ScopedBlock count bound (block_without b)
block_scoped count bound (ends xs r) q = stmts_scoped count xs r bound bound (λ j e. e) q

block_typed : (types : ℕ → ValType) (b : Block) (t : ValType) → TypedBlock types b t → TypedBlock types (block_without b) t
block_typed types (ends xs r) t q = (stmts_typed types xs q.0, q.1)

function_sound : (f : Function) → SoundFunction f → SoundFunction (function_without f)
function_sound f q =
    record {
      name = q.name;
      locals = q.locals;
      few = q.few;
      apart = q.apart;
      within = q.within;
      scoped = block_scoped (length f.locals) _ f.block q.scoped;
      typed = (q.typed.0, q.typed.1, block_typed q.typed.0 f.block f.returns q.typed.2);
    }

each_sound : (p : List Function) → AllByRecursion SoundFunction p → AllByRecursion SoundFunction (program_without p)
each_sound [] q = q
each_sound (f ∷ p) q = (function_sound f q.0, each_sound p q.1)

-- a sound program is sound for the next stage, where it uses no feature that this stage lacks
pub sound_kept : (p : List Function) → Sound no_exit p → ((f : Feature) → no_assign f ≡ false → uses f (program_without p) ≡ 0) → Sound no_assign (program_without p)
sound_kept p q absent =
    record {
      absent = absent;
      names = subst (IsDistinct bytes_eq) (sym (names_kept p)) q.names;
      each = each_sound p q.each;
      once = λ e. absurd (true≢false (sym e));
    }
