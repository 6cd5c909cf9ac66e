-- What is asked of a built-in name, by how many types stand behind it.
use Rattle.std.proofs.Common.{ℕ, zero, suc, ◌≡◌, ◌≢◌, refl, ap, List}
use Rattle.hs_syntax.specs.declared.file.File.{File}
use Rattle.hs_symbols.specs.declared.referent.BuiltIn.TheVariants as b
use Rattle.hs_symbols.specs.Words.{maker_word}
use Rattle.hs_symbols.specs.Symbols.{built, type_named}
use Rattle.hs_resolver.specs.Rules.{type_of}
use Rattle.hs_items.specs.declared.facts.Facts.{Facts}
use Rattle.hs_items.specs.declared.shape.Shape.TheVariants as shape
use Rattle.hs_items.specs.Walk.{over, single, built_facts}

pub seq_one : (n : ℕ) (f : Facts) → n ≡ 1 → built_facts b.Seq n f ≡ over shape.Sequence f
seq_one n f h = ap (λ (k : ℕ). built_facts b.Seq k f) h

pub seq_else : (n : ℕ) (f : Facts) → n ≢ 1 → built_facts b.Seq n f ≡ single
seq_else zero f h = refl
seq_else (suc zero) f h = absurd (h refl)
seq_else (suc (suc n)) f h = refl

pub option_one : (n : ℕ) (f : Facts) → n ≡ 1 → built_facts b.Option n f ≡ over shape.Choice f
option_one n f h = ap (λ (k : ℕ). built_facts b.Option k f) h

pub option_else : (n : ℕ) (f : Facts) → n ≢ 1 → built_facts b.Option n f ≡ single
option_else zero f h = refl
option_else (suc zero) f h = absurd (h refl)
option_else (suc (suc n)) f h = refl

pub result_two : (n : ℕ) (f : Facts) → n ≡ 2 → built_facts b.Result n f ≡ over shape.Choice f
result_two n f h = ap (λ (k : ℕ). built_facts b.Result k f) h

pub result_else : (n : ℕ) (f : Facts) → n ≢ 2 → built_facts b.Result n f ≡ single
result_else zero f h = refl
result_else (suc zero) f h = refl
result_else (suc (suc zero)) f h = absurd (h refl)
result_else (suc (suc (suc n))) f h = refl

-- ---- a name with types behind it

pub type_alone : (file : File) (w : List ℕ) (n : ℕ) → n ≡ 0 → type_of file w n ≡ type_named file.text file.items w
type_alone file w n h = ap (type_of file w) h

pub type_behind : (file : File) (w : List ℕ) (n : ℕ) → n ≢ 0 → type_of file w n ≡ built (maker_word w n)
type_behind file w zero h = absurd (h refl)
type_behind file w (suc n) h = refl
