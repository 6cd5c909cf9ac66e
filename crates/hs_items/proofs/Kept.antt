-- What an accepted item makes keeps what the rules of the stage ask.
use Rattle.std.proofs.Common.{ℕ, zero, suc, ◌*◌, ◌≡◌, ◌≤◌, refl, sym, ◌∙◌, ap, ap₂, subst, Bool, true, false, not, ◌&&◌, ◌||◌, leb, List, [], ◌∷◌, ◌++◌, map, Option, Some, None, arith}
use Rattle.std.specs.List.{list_all}
use Rattle.std.proofs.Math.Nat.{le-mul_of_pos_right}
use Rattle.std.proofs.lemmas.List.{length-map}
use Rattle.std.proofs.lemmas.Bool.Decides.{nat_tests}
use Rattle.hs_base.specs.declared.rule.Rule.TheVariants.{N8, N9, N11}
use Rattle.hs_words.specs.declared.kinds.IntTy.TheVariants as int
use Rattle.hs_syntax.specs.declared.ty.Ty.{Ty}
use Rattle.hs_syntax.specs.declared.file.File.{File}
use Rattle.hs_syntax.specs.declared.item.Ctor.{Ctor}
use Rattle.hs_syntax.specs.declared.item.Param.{Param}
use Rattle.hs_syntax.specs.declared.item.Mode.{Mode}
use Rattle.hs_syntax.specs.declared.item.Mode.TheVariants as written
use Rattle.hs_syntax.specs.declared.item.ItemKind.{ItemKind}
use Rattle.hs_syntax.specs.declared.item.ItemKind.TheVariants as item
use Rattle.hs_marks.specs.Marked.{Marked}
use Rattle.hs_values.specs.declared.types.ValType.{ValType, roll-ValType}
use Rattle.hs_values.specs.declared.types.ValType.TheOpen as type
use Rattle.hs_values.specs.declared.types.ValType.TheFolds.{fold-roll-ValType}
use Rattle.hs_values.specs.declared.types.TypeDef.{TypeDef}
use Rattle.hs_items.specs.declared.facts.Facts.{Facts}
use Rattle.hs_items.specs.Whole.{Whole, expand_layer, entry, expanded, facts_of}
use Rattle.hs_items.specs.Whole as whole
use Rattle.hs_items.specs.Rules.{wrong_count, part_moves, unfit, too_great}
use Rattle.hs_items.specs.Meaning.{unit, passing_of, lent_type, lent_types, given, meaning, meanings, result_type, ctors, definitions, declaration, stands, known}
use Rattle.hs_items.specs.Nodes.{row, in_types, in_ctor, in_param, in_optional, in_kind}
use Rattle.hs_items.specs.Marks.{when, all_copied, ctors_copied, broken_by, asked_of, means_of, written}
use Rattle.hs_items.specs.Promises.{array_counted, fits_limits, parts_fit, is_copied, copies_well, declaration_fits, lent, HeaderGiven}
use Rattle.hs_items.proofs.Below.{both}
use Rattle.hs_items.proofs.Clear.{Clear, left_none, right_none, clear_first, clear_second, not_when, ty_fits}

head_is : {A : Type 0} (x y : A) → x ∷ [] ≡ y ∷ [] → x ≡ y
head_is x y e = cc

-- ---- counts

count_fits : (n m : ℕ) → wrong_count (n * m) ≡ false → (leb 1 n && leb n 65536) ≡ true
count_fits zero m e =
    let none : zero * m ≡ 0 = omega arith in
    let clash : true ≡ false = sym (ap wrong_count none) ∙ e in
    absurd cc
count_fits (suc n) zero e =
    let none : suc n * zero ≡ 0 = omega arith in
    let clash : true ≡ false = sym (ap wrong_count none) ∙ e in
    absurd cc
count_fits (suc n) (suc m) e =
    let more : suc n ≤ suc n * suc m = le-mul_of_pos_right (suc n) (omega arith) in
    let most : suc n * suc m ≤ 65536 = at_most (suc n * suc m) e in
    let low : leb 1 (suc n) ≡ true = grind (arith, nat_tests) in
    let high : leb (suc n) 65536 ≡ true = grind (arith, nat_tests) in
    both (leb 1 (suc n)) (leb (suc n) 65536) low high
  where
    by : (p : ℕ) (b c : Bool) → leb 1 p ≡ b → leb p 65536 ≡ c → not (b && c) ≡ false → p ≤ 65536
    by p true true f g e = grind (arith, nat_tests)
    by p true false f g e = cc
    by p false c f g e = cc

    at_most : (p : ℕ) → wrong_count p ≡ false → p ≤ 65536
    at_most p e = by p (leb 1 p) (leb p 65536) refl refl e

moves_not : (a b c : Bool) → part_moves a b ≡ false → c ≡ b → (not a || c) ≡ true
moves_not true true c e f = f
moves_not true false c e f = absurd cc
moves_not false b c e f = refl

module _ (file : File) (order : List ℕ) where
  abbrev table : List TypeDef
  table = (known file order).table

  abbrev stand : ℕ → ValType
  stand = stands (known file order)

  abbrev asked_in : Ty → Facts
  asked_in t = asked_of file order (means_of file order t)

  abbrev nodes_in : Ty → Marked
  nodes_in t = (written file order t).nodes

  -- what is asked of a secret byte, and of `()`
  byte_asked : facts_of (expanded table (roll-ValType (type.Int int.SU8))) ≡ facts_of whole.single
  byte_asked = ap facts_of (fold-roll-ValType Whole (expand_layer (entry table)) (type.Int int.SU8))

  unit_asked : facts_of (expanded table unit) ≡ facts_of whole.single
  unit_asked = ap facts_of (fold-roll-ValType Whole (expand_layer (entry table)) type.Unit)

  -- ---- arrays

  pub counted : (copies : Bool) (k : ItemKind) (t : TypeDef) → definitions file stand copies k ≡ t ∷ [] → broken_by asked_in nodes_in copies k ≡ [] → array_counted t.kind ≡ true
  counted copies item.Use t e b = absurd cc
  counted copies (item.Const n u x) t e b = absurd cc
  counted copies (item.Alias n u) t e b = absurd cc
  counted copies (item.Struct n ts) t e b = subst (λ (t : TypeDef). array_counted t.kind ≡ true) (head_is _ t e) refl
  counted copies (item.Enum n cs) t e b = subst (λ (t : TypeDef). array_counted t.kind ≡ true) (head_is _ t e) refl
  counted copies (item.Fn n ps u x) t e b = absurd cc
  counted copies (item.Array n i u) t e b =
      subst (λ (t : TypeDef). array_counted t.kind ≡ true) (head_is _ t e)
      (count_fits i.value (asked_in u).items (not_when _ N8 (left_none (when (wrong_count (i.value * (asked_in u).items)) N8) _ b)))
  counted copies (item.Bytes n i) t e b =
      subst (λ (t : TypeDef). array_counted t.kind ≡ true) (head_is _ t e)
      (count_fits i.value (facts_of whole.single).items (not_when _ N8 (left_none (when (wrong_count (i.value * (facts_of whole.single).items)) N8) _ b)))
  counted copies (item.NatMod n c i m) t e b = absurd cc

  -- ---- limits

  type_fits : (u : Ty) → Clear (nodes_in u) → fits_limits table (meaning file stand u) ≡ true
  type_fits u c = ap not (ty_fits file order u c)

  types_fit : (ts : List Ty) → Clear (in_types nodes_in ts) → list_all (fits_limits table) (meanings file stand ts) ≡ true
  types_fit [] c = refl
  types_fit (t ∷ ts) c = both (fits_limits table (meaning file stand t)) (list_all (fits_limits table) (meanings file stand ts)) (type_fits t (clear_first c)) (types_fit ts (clear_second c))

  ctors_fit : (cs : List Ctor) → Clear (row (map (in_ctor nodes_in) cs)) → list_all (λ (c : List ℕ × List ValType). list_all (fits_limits table) c.1) (ctors file stand cs) ≡ true
  ctors_fit [] c = refl
  ctors_fit (x ∷ xs) c =
      both (list_all (fits_limits table) (meanings file stand x.parts)) (list_all (λ (c : List ℕ × List ValType). list_all (fits_limits table) c.1) (ctors file stand xs))
      (types_fit x.parts (clear_first c)) (ctors_fit xs (clear_second c))

  byte_fits : fits_limits table (roll-ValType (type.Int int.SU8)) ≡ true
  byte_fits = ap (λ (f : Facts). not (too_great f)) byte_asked

  unit_fits : fits_limits table unit ≡ true
  unit_fits = ap (λ (f : Facts). not (too_great f)) unit_asked

  pub sized : (copies : Bool) (k : ItemKind) (t : TypeDef) → definitions file stand copies k ≡ t ∷ [] → Clear (in_kind nodes_in k) → parts_fit table t.kind ≡ true
  sized copies item.Use t e c = absurd cc
  sized copies (item.Const n u x) t e c = absurd cc
  sized copies (item.Alias n u) t e c = absurd cc
  sized copies (item.Struct n ts) t e c =
      subst (λ (t : TypeDef). parts_fit table t.kind ≡ true) (head_is _ t e) (both (list_all (fits_limits table) (meanings file stand ts)) true (types_fit ts c) refl)
  sized copies (item.Enum n cs) t e c = subst (λ (t : TypeDef). parts_fit table t.kind ≡ true) (head_is _ t e) (ctors_fit cs c)
  sized copies (item.Fn n ps u x) t e c = absurd cc
  sized copies (item.Array n i u) t e c = subst (λ (t : TypeDef). parts_fit table t.kind ≡ true) (head_is _ t e) (type_fits u c)
  sized copies (item.Bytes n i) t e c = subst (λ (t : TypeDef). parts_fit table t.kind ≡ true) (head_is _ t e) byte_fits
  sized copies (item.NatMod n c' i m) t e c = absurd cc

  params_fit : (ps : List Param) → Clear (row (map (in_param nodes_in) ps)) → list_all (fits_limits table) (map (λ (p : Param). meaning file stand p.ty) ps) ≡ true
  params_fit [] c = refl
  params_fit (p ∷ ps) c =
      both (fits_limits table (meaning file stand p.ty)) (list_all (fits_limits table) (map (λ (p : Param). meaning file stand p.ty) ps)) (type_fits p.ty (clear_first c)) (params_fit ps (clear_second c))

  own_fits : (t : Option Ty) → Clear (in_optional nodes_in t) → fits_limits table (result_type file stand t) ≡ true
  own_fits None c = unit_fits
  own_fits (Some t) c = type_fits t c

  pub declared_sized : (n : ℕ) (k : ItemKind) → Clear (in_kind nodes_in k) → declaration_fits table (declaration file stand n k) ≡ true
  declared_sized n item.Use c = refl
  declared_sized n (item.Const m u x) c = type_fits u (clear_first c)
  declared_sized n (item.Alias m u) c = refl
  declared_sized n (item.Struct m ts) c = refl
  declared_sized n (item.Enum m cs) c = refl
  declared_sized n (item.Fn m ps t b) c =
      both (list_all (fits_limits table) (map (λ (p : Param). meaning file stand p.ty) ps)) (fits_limits table (result_type file stand t)) (params_fit ps (clear_first c)) (own_fits t (clear_first (clear_second c)))
  declared_sized n (item.Array m i u) c = refl
  declared_sized n (item.Bytes m i) c = refl
  declared_sized n (item.NatMod m c' i x) c = refl

  -- ---- copies

  all_are_copied : (ts : List Ty) → list_all (is_copied table) (meanings file stand ts) ≡ all_copied asked_in nodes_in ts
  all_are_copied [] = refl
  all_are_copied (t ∷ ts) = ap (λ (b : Bool). is_copied table (meaning file stand t) && b) (all_are_copied ts)

  ctors_are_copied : (cs : List Ctor) → list_all (λ (c : List ℕ × List ValType). list_all (is_copied table) c.1) (ctors file stand cs) ≡ ctors_copied asked_in nodes_in cs
  ctors_are_copied [] = refl
  ctors_are_copied (c ∷ cs) = ap₂ (λ (a b : Bool). a && b) (all_are_copied c.parts) (ctors_are_copied cs)

  only : (b : Bool) → (b && true) ≡ b
  only true = refl
  only false = refl

  pub copied_well : (copies : Bool) (k : ItemKind) (t : TypeDef) → definitions file stand copies k ≡ t ∷ [] → broken_by asked_in nodes_in copies k ≡ [] → copies_well table t.copies t.kind ≡ true
  copied_well copies item.Use t e b = absurd cc
  copied_well copies (item.Const n u x) t e b = absurd cc
  copied_well copies (item.Alias n u) t e b = absurd cc
  copied_well copies (item.Struct n ts) t e b =
      subst (λ (t : TypeDef). copies_well table t.copies t.kind ≡ true) (head_is _ t e)
      (moves_not copies (all_copied asked_in nodes_in ts) (list_all (is_copied table) (meanings file stand ts) && true) (not_when _ N9 b) (only (list_all (is_copied table) (meanings file stand ts)) ∙ all_are_copied ts))
  copied_well copies (item.Enum n cs) t e b =
      subst (λ (t : TypeDef). copies_well table t.copies t.kind ≡ true) (head_is _ t e)
      (moves_not copies (ctors_copied asked_in nodes_in cs) (list_all (λ (c : List ℕ × List ValType). list_all (is_copied table) c.1) (ctors file stand cs)) (not_when _ N9 b) (ctors_are_copied cs))
  copied_well copies (item.Fn n ps u x) t e b = absurd cc
  copied_well copies (item.Array n i u) t e b =
      subst (λ (t : TypeDef). copies_well table t.copies t.kind ≡ true) (head_is _ t e)
      (ap not (not_when (unfit (asked_in u)) N11 (right_none (when (wrong_count (i.value * (asked_in u).items)) N8) (when (unfit (asked_in u)) N11) b)))
  copied_well copies (item.Bytes n i) t e b =
      subst (λ (t : TypeDef). copies_well table t.copies t.kind ≡ true) (head_is _ t e) (ap (λ (f : Facts). not (unfit f)) byte_asked)
  copied_well copies (item.NatMod n c i m) t e b = absurd cc

  -- ---- headers

  lent_is : (ps : List Param) → lent_types file stand ps ≡ lent (map (λ (p : Param). passing_of p.mode) ps) (map (λ (p : Param). meaning file stand p.ty) ps)
  lent_is [] = refl
  lent_is (p ∷ ps) = by (lent_is ps) p.mode (meaning file stand p.ty)
    where
      by : lent_types file stand ps ≡ lent (map (λ (p : Param). passing_of p.mode) ps) (map (λ (p : Param). meaning file stand p.ty) ps) → (m : Mode) (t : ValType) → lent_type m t ++ lent_types file stand ps ≡ lent (passing_of m ∷ map (λ (p : Param). passing_of p.mode) ps) (t ∷ map (λ (p : Param). meaning file stand p.ty) ps)
      by f written.Value t = f
      by f written.Mut t = f
      by f written.Shared t = f
      by f written.Lent t = ap (λ (us : List ValType). t ∷ us) f

  pub header_given : (n : ℕ) (k : ItemKind) → HeaderGiven (declaration file stand n k)
  header_given n item.Use = tt {0}
  header_given n (item.Const m u x) = tt {0}
  header_given n (item.Alias m u) = tt {0}
  header_given n (item.Struct m ts) = tt {0}
  header_given n (item.Enum m cs) = tt {0}
  header_given n (item.Fn m ps t b) =
      (length-map ps (λ (p : Param). passing_of p.mode) ∙ sym (length-map ps (λ (p : Param). meaning file stand p.ty)), ap (λ (us : List ValType). given us (result_type file stand t)) (lent_is ps))
  header_given n (item.Array m i u) = tt {0}
  header_given n (item.Bytes m i) = tt {0}
  header_given n (item.NatMod m c i x) = tt {0}
