-- Methods by their names.
use Rattle.std.proofs.Common.{◌≡◌, refl, sym, ◌∙◌, ap, Bool, true, false, cond, List, [], ◌∷◌, ◌++◌, map, Option, Some, None}
use Rattle.std.specs.Prelude.{bytes_eq, codes}
use Rattle.std.proofs.lemmas.Option.{same_Some}
use Rattle.std.proofs.lemmas.Slice.Eq.{bytes_eq-Decides}
use Rattle.hs_words.specs.declared.kinds.IntTy.{IntTy}
use Rattle.hs_values.specs.declared.types.ValType.{ValType}
use Rattle.hs_tree.specs.Plain.{Name}
use Rattle.hs_typing.specs.declared.words.NumberWord.{NumberWord}
use Rattle.hs_typing.specs.declared.words.RowWord.{RowWord}
use Rattle.hs_typing.specs.Operations.{Listing, row_named, number_methods, row_methods, seq_methods}
use Rattle.hs_typing.specs.Spelled.{listed, number_text, number_words, row_text, row_words}

-- each stands behind its own text
abbrev AllSpelled : {A : Type 0} → (A → Name) → List (Name × A) → Type 0
AllSpelled text [] = Unit {0}
AllSpelled text (r ∷ rows) = (text r.1 ≡ r.0) × AllSpelled text rows

at_row : {A : Type 0} (b : Bool) (x w : A) (o : Option A) → b ≡ true → cond b (Some x) o ≡ Some w → x ≡ w
at_row b x w o h e = same_Some x w (sym (ap (λ (b : Bool). cond b (Some x) o) h) ∙ e)

past_row : {A : Type 0} (b : Bool) (x : A) (o q : Option A) → b ≡ false → cond b (Some x) o ≡ q → o ≡ q
past_row b x o q h e = sym (ap (λ (b : Bool). cond b (Some x) o) h) ∙ e

listed_is : {A : Type 0} (text : A → Name) (rows : List (Name × A)) → AllSpelled text rows → (name : Name) (w : A) → listed rows name ≡ Some w → name ≡ text w
listed_is text [] s name w e = absurd cc
listed_is text (r ∷ rows) s name w e = go (listed_is text rows s.1 name w) (bytes_eq name r.0) refl
  where
    go : (listed rows name ≡ Some w → name ≡ text w) → (b : Bool) → bytes_eq name r.0 ≡ b → name ≡ text w
    go rest true h = (bytes_eq-Decides name r.0).0 h ∙ sym s.0 ∙ ap text (at_row (bytes_eq name r.0) r.1 w (listed rows name) h e)
    go rest false h = rest (past_row (bytes_eq name r.0) r.1 (listed rows name) (Some w) h e)

abbrev firsts : {A : Type 0} → List (Name × A) → List Name
firsts rows = map (λ r. r.0) rows

none_ahead : {A : Type 0} (b : Bool) (x : A) (o : Option A) → cond b (Some x) o ≡ None → (b ≡ false) × (o ≡ None)
none_ahead true x o e = absurd cc
none_ahead false x o e = (refl, e)

-- what is not among words is not among methods with the texts of the first of them
none_named : {A : Type 0} (rows : List (Name × A)) (methods : Listing) (rest : List Name) → firsts rows ≡ firsts methods ++ rest → (name : Name) → listed rows name ≡ None → row_named methods name ≡ None
unfolding row_named
none_named rows [] rest same name e = refl
none_named [] (m ∷ methods) rest same name e = absurd cc
none_named (r ∷ rows) (m ∷ methods) rest same name e =
    let none = none_ahead (bytes_eq name r.0) r.1 (listed rows name) e in
    let first : r.0 ≡ m.0 = cc in
    let others : firsts rows ≡ firsts methods ++ rest = cc in
    ap (λ (b : Bool). cond b m.1 (row_named methods name)) (ap (bytes_eq name) (sym first) ∙ none.0) ∙ none_named rows methods rest others name none.1

-- ---- numbers

pub number_spelled : (name : Name) (w : NumberWord) → listed number_words name ≡ Some w → name ≡ number_text w
number_spelled name w e = listed_is number_text number_words (refl, (refl, (refl, (refl, (refl, (refl, (refl, (refl, tt)))))))) name w e

pub number_unspelled : (kind : IntTy) (name : Name) → listed number_words name ≡ None → row_named (number_methods (Some kind)) name ≡ None
number_unspelled kind name e = none_named number_words (number_methods (Some kind)) [] refl name e

-- ---- sequences and arrays

-- the methods of a sequence, or of an array
abbrev pub methods_of_row : ValType → ValType → Bool → Listing
methods_of_row own item pushes = row_methods own (Some item) ++ cond pushes (seq_methods own (Some item)) []

pub row_spelled : (name : Name) (w : RowWord) → listed row_words name ≡ Some w → name ≡ row_text w
row_spelled name w e = listed_is row_text row_words (refl, (refl, (refl, (refl, (refl, (refl, (refl, (refl, tt)))))))) name w e

pub row_unspelled : (own item : ValType) (pushes : Bool) (name : Name) → listed row_words name ≡ None → row_named (methods_of_row own item pushes) name ≡ None
row_unspelled own item true name e = none_named row_words (methods_of_row own item true) [] refl name e
row_unspelled own item false name e = none_named row_words (methods_of_row own item false) (codes "push" ∷ []) refl name e
