-- Entries of operations, one behind the other.
use Rattle.std.proofs.Common.{◌≡◌, ℕ, ◌+◌, ◌<◌, List, [], ◌∷◌, ◌++◌, length, map, take, get_or, true, false, sym, ap, ◌∙◌, append_assoc, add-one}
use Rattle.std.proofs.Math.Seq.{take-suc}
use Rattle.std.proofs.lemmas.List.{map-append, append-nil}
use Rattle.std.proofs.lemmas.List.Elements.{filter-append}
use Rattle.hs_words.specs.declared.kinds.IntTy.{IntTy}
use Rattle.hs_ops.specs.declared.operation.Operation.{Operation}
use Rattle.hs_ops.specs.declared.table.Entry.{Entry}
use Rattle.hs_ops.specs.Known.{is_known}
use Rattle.hs_ops.specs.Standard.{entry_for, rows_of, for_kind, for_kinds, for_tuple, for_tuples}

pub rows_of_append : (xs ys : List Operation) → rows_of (xs ++ ys) ≡ rows_of xs ++ rows_of ys
unfolding rows_of
rows_of_append xs ys = ap (map entry_for) (filter-append is_known xs ys) ∙ map-append entry_for _ _

pub rows_of_known : (o : Operation) → is_known o ≡ true → rows_of (o ∷ []) ≡ entry_for o ∷ []
unfolding rows_of
rows_of_known o e = rw e

pub rows_of_unknown : (o : Operation) → is_known o ≡ false → rows_of (o ∷ []) ≡ []
unfolding rows_of
rows_of_unknown o e = rw e

for_kinds_more : (xs : List IntTy) (k : IntTy) → for_kinds (xs ++ k ∷ []) ≡ for_kinds xs ++ for_kind k
unfolding for_kinds
for_kinds_more [] k = append-nil (for_kind k)
for_kinds_more (x ∷ xs) k = ap (λ l. for_kind x ++ l) (for_kinds_more xs k) ∙ sym (append_assoc (for_kind x) (for_kinds xs) (for_kind k))

for_tuples_more : (xs : List ℕ) (n : ℕ) → for_tuples (xs ++ n ∷ []) ≡ for_tuples xs ++ for_tuple n
unfolding for_tuples
for_tuples_more [] n = append-nil (for_tuple n)
for_tuples_more (x ∷ xs) n = ap (λ l. for_tuple x ++ l) (for_tuples_more xs n) ∙ sym (append_assoc (for_tuple x) (for_tuples xs) (for_tuple n))

-- one more step of a loop over operations, over kinds and over numbers of parts
module _ (start now next : List Entry) (i : ℕ) where
  pub rows_more : (xs : List Operation) (x d : Operation) → i < length xs → x ≡ get_or xs i d → now ≡ start ++ rows_of (take i xs) → next ≡ now ++ rows_of (x ∷ []) → next ≡ start ++ rows_of (take (i + 1) xs)
  rows_more xs x d h at e f =
      f ∙ ap (λ l. l ++ rows_of (x ∷ [])) e ∙ append_assoc start _ _ ∙ ap (λ l. start ++ l) (sym (rows_of_append (take i xs) (x ∷ []))) ∙ ap (λ l. start ++ rows_of l) (sym (rw (add-one, at) (take-suc xs i d h)))

  pub kinds_more : (xs : List IntTy) (x d : IntTy) (made : List Operation) → i < length xs → x ≡ get_or xs i d → now ≡ start ++ rows_of (for_kinds (take i xs)) → made ≡ for_kind x → next ≡ now ++ rows_of made → next ≡ start ++ rows_of (for_kinds (take (i + 1) xs))
  kinds_more xs x d made h at e m f =
      f ∙ ap (λ l. now ++ rows_of l) m ∙ ap (λ l. l ++ rows_of (for_kind x)) e ∙ append_assoc start _ _ ∙ ap (λ l. start ++ l) (sym (rows_of_append (for_kinds (take i xs)) (for_kind x))) ∙ ap (λ l. start ++ rows_of l) (sym (for_kinds_more (take i xs) x)) ∙ ap (λ l. start ++ rows_of (for_kinds l)) (sym (rw (add-one, at) (take-suc xs i d h)))

  pub tuples_more : (xs : List ℕ) (x d : ℕ) (made : List Operation) → i < length xs → x ≡ get_or xs i d → now ≡ start ++ rows_of (for_tuples (take i xs)) → made ≡ for_tuple x → next ≡ now ++ rows_of made → next ≡ start ++ rows_of (for_tuples (take (i + 1) xs))
  tuples_more xs x d made h at e m f =
      f ∙ ap (λ l. now ++ rows_of l) m ∙ ap (λ l. l ++ rows_of (for_tuple x)) e ∙ append_assoc start _ _ ∙ ap (λ l. start ++ l) (sym (rows_of_append (for_tuples (take i xs)) (for_tuple x))) ∙ ap (λ l. start ++ rows_of l) (sym (for_tuples_more (take i xs) x)) ∙ ap (λ l. start ++ rows_of (for_tuples l)) (sym (rw (add-one, at) (take-suc xs i d h)))

-- no step yet
pub rows_first : (start : List Entry) (xs : List Operation) → start ≡ start ++ rows_of (take 0 xs)
unfolding rows_of
rows_first start xs = sym (append-nil start)

pub kinds_first : (start : List Entry) (xs : List IntTy) → start ≡ start ++ rows_of (for_kinds (take 0 xs))
unfolding rows_of for_kinds
kinds_first start xs = sym (append-nil start)

pub tuples_first : (start : List Entry) (xs : List ℕ) → start ≡ start ++ rows_of (for_tuples (take 0 xs))
unfolding rows_of for_tuples
tuples_first start xs = sym (append-nil start)
