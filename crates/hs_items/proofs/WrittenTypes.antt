-- The types that are written in a file: their names, their tuples and their size.
use Rattle.std.proofs.Common.{ℕ, ◌≡◌, refl, ◌∙◌, ap, true, not, List, [], length, slice_get, Option, Some, None}
use Rattle.hs_syntax.specs.declared.ty.Ty.{Ty}
use Rattle.hs_syntax.specs.declared.file.File.{File}
use Rattle.hs_syntax.specs.WellFormed.{well_ty}
use Rattle.hs_limits.specs.Nodes.{ty_outline}
use Rattle.hs_limits.specs.Breaks as limits
use Rattle.hs_marks.specs.Marked.{marks}
use Rattle.hs_values.specs.declared.types.ValType.{ValType}
use Rattle.hs_values.specs.declared.types.TypeDef.{TypeDef}
use Rattle.hs_items.specs.declared.decls.Decls.{Decls}
use Rattle.hs_items.specs.declared.decls.Declaration.{Declaration}
use Rattle.hs_items.specs.declared.decls.Declaration.TheVariants as d
use Rattle.hs_items.specs.Meaning.{meaning, type_in, stands, known}
use Rattle.hs_items.specs.Marks.{written}
use Rattle.hs_items.specs.Declares.{below, declaration_below, NamesEntries, AreDecls}
use Rattle.hs_items.specs.Walk.{stands_in}
use Rattle.hs_items.specs.Promises.{IsReadWell, fits_limits, well_made}
use Rattle.hs_items.proofs.Below.{unit_below, meaning_below}
use Rattle.hs_items.proofs.Told.{entries_of}
use Rattle.hs_items.proofs.Clear.{ty_fits, clear_inside}
use Rattle.hs_items.proofs.Promised.{as_known, index_some, index_none}
use Rattle.hs_items.proofs.Tuples.{tuples, is_made, ty_tuples, known_tuples}

type_below : (n : ℕ) (one : Declaration) → declaration_below n one ≡ true → below n (type_in one) ≡ true
type_below n d.Nothing h = unit_below n
type_below n (d.Named t) h = h
type_below n (d.Constant t) h = unit_below n
type_below n (d.Function f) h = unit_below n

stand_below : (items : List Declaration) (table : List TypeDef) → NamesEntries table items → (k : ℕ) → below (length table) (stands_in items k) ≡ true
stand_below items table e k = by (slice_get items k) refl
  where
    by : (o : Option Declaration) → slice_get items k ≡ o → below (length table) (stands_in items k) ≡ true
    by None h = ap (λ (one : Declaration). below (length table) (type_in one)) (index_none items k d.Nothing h) ∙ unit_below (length table)
    by (Some one) h = ap (λ (one : Declaration). below (length table) (type_in one)) (index_some items k d.Nothing one h) ∙ type_below (length table) one (e k one h)

pub written_below : (file : File) (items : List Declaration) (table : List TypeDef) (t : Ty) → NamesEntries table items → below (length table) (meaning file (stands_in items) t) ≡ true
written_below file items table t e = meaning_below (length table) (stands_in items) (stand_below items table e) file t

pub written_made : (file : File) (order : List ℕ) (decls : Decls) (t : Ty) (depth : ℕ) → IsReadWell file → AreDecls file order decls → well_ty file.text t ≡ true → marks (limits.marked (ty_outline t)) depth ≡ []
    → well_made true (length decls.table) (meaning file (stands_in decls.items) t) ≡ true
written_made file order decls t depth read are well clear =
    let same = (as_known file order decls are).stands in
    is_made true (length decls.table) (meaning file (stands_in decls.items) t)
    (written_below file decls.items decls.table t (entries_of file order decls are))
    (ap (λ (st : ℕ → ValType). tuples true (meaning file st t)) same
    ∙ ty_tuples file (stands (known file order)) (known_tuples file read.0 read.1 order) t well (clear_inside (record { depth = depth; keeps = clear })))

pub written_fits : (file : File) (order : List ℕ) (decls : Decls) (t : Ty) (depth : ℕ) → AreDecls file order decls → marks (written file order t).nodes depth ≡ [] → fits_limits decls.table (meaning file (stands_in decls.items) t) ≡ true
written_fits file order decls t depth are clear =
    let same = (as_known file order decls are).stands in
    ap (λ (st : ℕ → ValType). fits_limits decls.table (meaning file st t)) same
    ∙ ap (λ (ts : List TypeDef). fits_limits ts (meaning file (stands (known file order)) t)) are.table
    ∙ ap not (ty_fits file order t (record { depth = depth; keeps = clear }))
