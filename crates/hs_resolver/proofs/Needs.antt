-- What items need, and how many there are.
use Rattle.std.proofs.Common.{ℕ, suc, ◌≡◌, ◌<◌, refl, sym, ◌∙◌, ap, subst, Option, Some, None, List, [], ◌∷◌, map, length, slice_get}
use Rattle.hs_syntax.specs.declared.span.Span.{Span}
use Rattle.hs_syntax.specs.declared.file.File.{File}
use Rattle.hs_syntax.specs.declared.item.Item.{Item}
use Rattle.hs_marks.specs.declared.breach.Breach.{Breach}
use Rattle.hs_marks.specs.Marked.{Mark}
use Rattle.hs_marks.specs.Told.{Answers, Told}
use Rattle.hs_resolver.specs.declared.names.ItemNames.{ItemNames}
use Rattle.hs_resolver.specs.Parts.{Seen}
use Rattle.hs_resolver.specs.Names.{names_of, items_behind}
use Rattle.hs_resolver.specs.Order.{kept, items_of, needs, name_of, Ordered, EachBehindNeeds, NeedsItself}
use Rattle.hs_order.specs.Order.{IsOrder, IsLeftOut, StandBehindNeeds}

kept_needs : (as' : List Seen) → map (λ (i : ItemNames). items_of i.uses) (map kept as') ≡ map (λ (a : Seen). items_of a.behind.uses) as'
kept_needs [] = refl
kept_needs (a ∷ as') = ap (λ (ns : List (List ℕ)). items_of a.behind.uses ∷ ns) (kept_needs as')

-- what is kept of each item tells what it needs
pub needs_kept : (file : File) (items : List ItemNames) → items ≡ map kept (names_of file) → map (λ (i : ItemNames). items_of i.uses) items ≡ needs file
needs_kept file items e = ap (map (λ (i : ItemNames). items_of i.uses)) e ∙ kept_needs (names_of file)

count_behind : (file : File) (items : List Item) (functions : ℕ) (before : List (List ℕ)) → length (items_behind file items functions before) ≡ length items
count_behind file [] functions before = refl
count_behind file (i ∷ is) functions before = ap suc (count_behind file is _ _)

count_mapped : (as' : List Seen) → length (map (λ (a : Seen). items_of a.behind.uses) as') ≡ length as'
count_mapped [] = refl
count_mapped (a ∷ as') = ap suc (count_mapped as')

-- there are needs for each item
pub needs_count : (file : File) → length (needs file) ≡ length file.items
needs_count file = count_mapped (names_of file) ∙ count_behind file file.items 0 []

pub told_where : (ms : List Mark) (m : Option Breach) (b : Breach) → m ≡ Some b → Answers ms m → Told ms b
told_where ms m b e a = subst (Answers ms) e a

pub none_where : (ms : List Mark) (m : Option Breach) → m ≡ None → Answers ms m → ms ≡ []
none_where ms m e a = subst (Answers ms) e a

-- the answers, where what each item needs is known
pub ordered : (file : File) (ns : List (List ℕ)) (listed : List ℕ) → ns ≡ needs file → IsOrder ns [] listed → IsLeftOut listed (length ns) None → Ordered file listed
ordered file ns listed e o l = subst (λ (ns : List (List ℕ)). IsOrder ns [] listed × IsLeftOut listed (length ns) None) e (o, l)

pub each_behind : (file : File) (ns : List (List ℕ)) (listed : List ℕ) → ns ≡ needs file → IsLeftOut listed (length ns) None → StandBehindNeeds ns listed → EachBehindNeeds file listed
each_behind file ns listed e l s =
    (λ item h. l item (subst (λ (n : ℕ). item < n) (sym (ap length e ∙ needs_count file)) h), subst (λ (ns : List (List ℕ)). StandBehindNeeds ns listed) e s)

pub within : (file : File) (ns : List (List ℕ)) (item : ℕ) → ns ≡ needs file → item < length ns → item < length file.items
within file ns item e h = subst (λ (n : ℕ). item < n) (ap length e ∙ needs_count file) h

pub itself : (file : File) (ns : List (List ℕ)) (listed : List ℕ) (k : ℕ) (n : Span) → ns ≡ needs file → IsOrder ns [] listed → IsLeftOut listed (length ns) (Some k)
    → (i : Item) × (slice_get file.items k ≡ Some i) × (n ≡ name_of i) → NeedsItself file n
itself file ns listed k n e o l (i, at, is) =
    (listed, k, i, subst (λ (ns : List (List ℕ)). IsOrder ns [] listed) e o, subst (λ (ns : List (List ℕ)). IsLeftOut listed (length ns) (Some k)) e l, at, is)
