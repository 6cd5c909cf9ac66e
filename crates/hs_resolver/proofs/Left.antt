-- The items of a file that are left to walk through.
use Rattle.std.proofs.Common.{ℕ, suc, ◌+◌, ◌<◌, ◌≡◌, sym, ◌∙◌, ap, ap₂, List, [], ◌∷◌, ◌++◌, map, drop, get_or, length, append_assoc, drop-cons, Option, Some, None, if◌then◌else◌, arith}
use Rattle.hs_syntax.specs.declared.file.File.{File}
use Rattle.hs_syntax.specs.declared.item.Item.{Item}
use Rattle.hs_marks.specs.declared.breach.Breach.{Breach}
use Rattle.hs_marks.specs.First.{first, or_else}
use Rattle.hs_resolver.specs.declared.names.ItemNames.{ItemNames}
use Rattle.hs_resolver.specs.Parts.{Seen}
use Rattle.hs_resolver.specs.Names.{names_by, is_function, item_part, items_behind, rows, fresh}
use Rattle.hs_resolver.specs.Order.{kept}

pub left : {E : Type 0} (i : ℕ) (xs : List E) (x : E) → i < length xs → x ≡ get_or xs i x → drop i xs ≡ x ∷ drop (i + 1) xs
left i xs x h e =
    let more : suc i ≡ i + 1 = omega arith in
    drop-cons xs i x h ∙ ap (λ y. y ∷ drop (suc i) xs) (sym e) ∙ ap (λ k. x ∷ drop k xs) more

module _ (file : File) (i : ℕ) (items : List Item) (x : Item) (functions more : ℕ) (before names : List (List ℕ)) where
  abbrev here : Seen
  here = item_part file x functions before fresh

  abbrev behind : List Seen
  behind = items_behind file (drop (i + 1) items) (if is_function x.kind then suc functions else functions) (before ++ names_by file x.kind)

  split : i < length items → x ≡ get_or items i x → items_behind file (drop i items) functions before ≡ here ∷ behind
  split h e = ap (λ (is : List Item). items_behind file is functions before) (left i items x h e)

  same : more ≡ (if is_function x.kind then suc functions else functions) → names ≡ before ++ names_by file x.kind → behind ≡ items_behind file (drop (i + 1) items) more names
  same f b = ap₂ (λ (n : ℕ) (ns : List (List ℕ)). items_behind file (drop (i + 1) items) n ns) (sym f) (sym b)

  -- what is kept of one item more
  pub kept_more : (made all : List ItemNames) → i < length items → x ≡ get_or items i x → more ≡ (if is_function x.kind then suc functions else functions) → names ≡ before ++ names_by file x.kind
      → all ≡ made ++ kept here ∷ [] → made ++ map kept (items_behind file (drop i items) functions before) ≡ all ++ map kept (items_behind file (drop (i + 1) items) more names)
  kept_more made all h e f b m =
      ap (λ (as' : List Seen). made ++ map kept as') (split h e)
      ∙ sym (append_assoc made (kept here ∷ []) (map kept behind))
      ∙ ap₂ (λ (ks : List ItemNames) (as' : List Seen). ks ++ map kept as') (sym m) (same f b)

  -- an item in which nothing is broken
  pub none_broken : i < length items → x ≡ get_or items i x → more ≡ (if is_function x.kind then suc functions else functions) → names ≡ before ++ names_by file x.kind → first here.nodes ≡ None
      → first (rows file (items_behind file (drop i items) functions before)) ≡ first (rows file (items_behind file (drop (i + 1) items) more names))
  none_broken h e f b n =
      ap (λ (as' : List Seen). first (rows file as')) (split h e) ∙ ap (λ (o : Option Breach). or_else o (first (rows file behind))) n
      ∙ ap (λ (as' : List Seen). first (rows file as')) (same f b)

  -- an item in which a rule is broken
  pub one_broken : (b : Breach) → i < length items → x ≡ get_or items i x → first here.nodes ≡ Some b → first (rows file (items_behind file (drop i items) functions before)) ≡ Some b
  one_broken b h e n = ap (λ (as' : List Seen). first (rows file as')) (split h e) ∙ ap (λ (o : Option Breach). or_else o (first (rows file behind))) n
