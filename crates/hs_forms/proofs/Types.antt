-- Types and paths: what is written is what is read, where a type that may be open is a type, or one that lacks its bracket and half of a `>>`.
use Rattle.std.proofs.Common.{zero, Bool, true, false, List, [], ◌∷◌, ◌++◌, Option, None, inl, inr, refl, ap, ◌∙◌, subst}
use Rattle.hs_grammar.specs.Form.{Pure, Map, Seq, Alt, Grammar}
use Rattle.hs_grammar.specs.Derives.{Derivings, Beginnings, Derives, Begun, DerivesBy, BegunBy}
use Rattle.hs_grammar.specs.Same.{Same, Sane}
use Rattle.hs_grammar.specs.Combinators.{word, rule, ◌>>◌, ◌&◌, optional, star, separated, list_read}
use Rattle.hs_syntax.specs.declared.span.Span.{Span}
use Rattle.hs_syntax.specs.declared.ty.Ty.{Ty}
use Rattle.hs_syntax.specs.declared.ty.Ty.TheVariants as ty
use Rattle.hs_syntax.specs.declared.exp.Path.{Path}
use Rattle.hs_syntax.specs.declared.exp.Path.TheVariants as path
use Rattle.hs_forms.specs.declared.token.Kind.TheVariants as k
use Rattle.hs_forms.specs.Lexis.{lexis}
use Rattle.hs_forms.specs.Nodes.{across, tuple_ty, all_types}
use Rattle.hs_forms.specs.Reading.{Rule, RType, RMaybe, ROpen, rules, F, at, name, comma, type_, next_type, next_types, types, angle, applied_of, closed, close_maybe, maybe_closed, named_ty, named_maybe, tuple_items, tuple_rest, bracketed, type_form, maybe_form, path_type, path_of_type, behind_separator, named_path, path_form, open_form, grammar}
use Rattle.hs_forms.specs.Written.{open_ty, opened, unit_type, tuple_type, applied_type, applied_open, written_type, written_maybe, path_of, path_of_open, written_path}
use Rattle.hs_forms.proofs.Factor.{same_by}
use Rattle.hs_forms.proofs.Flags.{flagged, parted, split_flag, loop_flag, behind_each, between_them, shift}
use Rattle.hs_forms.proofs.Inside.{keep, by, back, seq, alt, along, maybe, lists_read}

-- what may be open is a type, or one that lacks its bracket and half of a `>>`
abbrev pub Maybes : Derivings lexis rules → Beginnings lexis rules → Type 0
Maybes ρ β = Same ρ β (rule RMaybe) (flagged type_ opened)

-- (Type (',' Type)*, Type (',' Type)* ',' Open or Open)
types_parted : F (List Ty × Bool)
types_parted =
    Alt (Seq (λ t (r : List Ty × Option Ty). all_types (t, false) r) type_ (Seq (λ ts last. (ts, last)) (star (comma >> type_)) (optional (comma >> opened))))
    (Seq (λ t (r : List Ty × Option Ty). all_types (t, true) r) opened (Pure ([], None)))

-- items that end in an open one
abbrev open_items : F (List Ty)
open_items = between_them comma type_ opened (λ ts t. ts ++ t ∷ [])

-- the same, as it is written
abbrev open_items_written : F (List Ty)
open_items_written = behind_each comma type_ opened (λ ts t. ts ++ t ∷ [])

abbrev angle_parted : F (List Ty × Bool)
angle_parted = flagged (word k.Less >> separated comma type_) (word k.Less >> open_items)

abbrev angle_with : F (List Ty) → F (List Ty × Bool)
angle_with f = flagged (word k.Less >> separated comma type_) (word k.Less >> f)

-- what closes a bracket, by what is in it
closed_with : F (List Ty) → F (Span → Ty)
closed_with f =
    Alt (Seq {C = Span → Ty} (λ ts close n. applied_of n ts close) (word k.Less >> separated comma type_) (at k.Greater))
    (Seq {C = Span → Ty} (λ ts close n. applied_of n ts close) (word k.Less >> f) (at k.ShiftBack))

maybe_with : F (List Ty) → F (Span → Ty × Bool)
maybe_with f =
    Alt (Seq {C = Span → Ty × Bool} (λ ts (close : Span × Bool) n. (applied_of n ts close.0, close.1)) (word k.Less >> separated comma type_) close_maybe)
    (Seq {C = Span → Ty × Bool} (λ ts (close : Span × Bool) n. (applied_of n ts close.0, close.1)) (word k.Less >> f) (Map (λ s. (s, false)) (at k.ShiftBack)))

type_with : F (List Ty) → F Ty
type_with f = Alt bracketed (Seq named_ty name (optional (closed_with f)))

maybe_form_with : F (List Ty) → F (Ty × Bool)
maybe_form_with f = Alt (Map (λ t. (t, false)) bracketed) (Seq named_maybe name (optional (maybe_with f)))

-- Type, with this list
written_with : F (List Ty) → F Ty
written_with ts =
    Alt (Map ty.Name name) (Alt unit_type (Alt
    (Seq (λ o (r : Ty × (List Ty × Span)). tuple_ty o r.0 r.1.0 r.1.1) (at k.LeftParenthesis) (type_ & (comma >> (ts & at k.RightParenthesis))))
    (Alt applied_type applied_open)))

path_type_parted : F Ty
path_type_parted = Alt (Seq (λ t _. t) type_ (word k.Greater)) (Seq (λ t _. t) opened (word k.ShiftBack))

path_parted : F Path
path_parted =
    Seq named_path name (optional (word k.PathSeparator >>
    Alt (Seq {C = Span → Path} (λ t m n. path.Of (across n m) n t m) (word k.Less >> path_type_parted) (word k.PathSeparator >> name))
    (Map {C = Span → Path} (λ m n. path.Member (across n m) n m) name)))

-- a type that may be open, by one that is and one that is not
abbrev maybe_alone : F Ty → F (Ty × Bool)
maybe_alone t = Alt (Map (λ t. (t, false)) t) (Seq (λ (o : Span × List Ty) close. (open_ty o close, true)) open_form (at k.ShiftFront))

module _ (ρ : Derivings lexis rules) (β : Beginnings lexis rules) (sane : Sane lexis rules ρ β) (maybes : Maybes ρ β) where
  next_flag : Same ρ β next_type (flagged (comma >> type_) (comma >> opened))
  unfolding next_type opened
  next_flag = by ρ β (comma >> flagged type_ opened) (seq ρ β (keep ρ β) maybes) (same_by lexis rules ρ β sane (Ty × Bool) (comma >> flagged type_ opened) (flagged (comma >> type_) (comma >> opened)) (0 ∷ 1 ∷ []) (0 ∷ 1 ∷ []) refl refl)

  next_same : Same ρ β next_types (Seq (λ ts last. (ts, last)) (star (comma >> type_)) (optional (comma >> opened)))
  unfolding next_types
  next_same = loop_flag lexis rules ρ β sane (comma >> type_) (comma >> opened) (λ ts last. (ts, last)) next_type next_flag

  types_same : Same ρ β types types_parted
  unfolding types types_parted
  types_same = by ρ β
      (parted all_types type_ opened (Pure ([], None)) next_types)
      (split_flag lexis rules ρ β all_types type_ opened (Pure ([], None)) next_types (rule RMaybe) maybes)
      (alt ρ β (seq ρ β (keep ρ β) next_same) (keep ρ β))

  angle_factored : Same ρ β (word k.Less >> types_parted) angle_parted
  unfolding types_parted opened
  angle_factored = same_by lexis rules ρ β sane (List Ty × Bool) (word k.Less >> types_parted) angle_parted (2 ∷ 0 ∷ 1 ∷ []) (1 ∷ 2 ∷ 0 ∷ []) refl refl

  angle_same : Same ρ β angle (angle_with open_items_written)
  unfolding angle
  angle_same = by ρ β (word k.Less >> types_parted) (seq ρ β (keep ρ β) types_same) (by ρ β angle_parted angle_factored
      (alt ρ β (keep ρ β) (along ρ β (seq ρ β (keep ρ β) (back ρ β (shift lexis rules ρ β sane comma type_ opened (λ ts t. ts ++ t ∷ [])))))))

  closed_same : Same ρ β closed (closed_with open_items_written)
  unfolding closed closed_with
  closed_same =
      split_flag lexis rules ρ β {C = Span → Ty} (λ ts close n. applied_of n ts.0 close) (word k.Less >> separated comma type_) (word k.Less >> open_items_written) (at k.ShiftBack) (at k.Greater) angle angle_same

  maybe_closed_same : Same ρ β maybe_closed (maybe_with open_items_written)
  unfolding maybe_closed maybe_with
  maybe_closed_same =
      split_flag lexis rules ρ β {C = Span → Ty × Bool} (λ ts (close : Span × Bool) n. (applied_of n ts.0 close.0, close.1)) (word k.Less >> separated comma type_) (word k.Less >> open_items_written) (Map (λ s. (s, false)) (at k.ShiftBack)) close_maybe angle angle_same

  type_parted : Same ρ β type_form (type_with open_items_written)
  unfolding type_form type_with
  type_parted = alt ρ β (keep ρ β) (seq ρ β (keep ρ β) (maybe ρ β closed_same))

  maybe_parted : Same ρ β maybe_form (maybe_form_with open_items_written)
  unfolding maybe_form maybe_form_with
  maybe_parted = alt ρ β (keep ρ β) (seq ρ β (keep ρ β) (maybe ρ β maybe_closed_same))

  written_inside : Same ρ β written_type (written_with (list_read comma type_))
  unfolding written_type written_with tuple_type
  written_inside = alt ρ β (keep ρ β) (alt ρ β (keep ρ β) (alt ρ β (seq ρ β (keep ρ β) (seq ρ β (keep ρ β) (seq ρ β (keep ρ β) (seq ρ β (lists_read ρ β sane (keep ρ β)) (keep ρ β))))) (keep ρ β)))

  type_factored : Same ρ β (written_with (list_read comma type_)) (type_with open_items_written)
  unfolding written_with type_with unit_type applied_type applied_open opened closed_with bracketed tuple_rest tuple_items name
  type_factored = same_by lexis rules ρ β sane Ty (written_with (list_read comma type_)) (type_with open_items_written) (4 ∷ 0 ∷ 1 ∷ 2 ∷ 3 ∷ []) (1 ∷ 2 ∷ 3 ∷ 4 ∷ 0 ∷ []) refl refl

  -- types
  pub type_same : Same ρ β written_type type_form
  type_same = by ρ β (written_with (list_read comma type_)) written_inside (by ρ β (type_with open_items_written) type_factored (back ρ β type_parted))

  maybe_factored : Same ρ β (maybe_form_with open_items_written) (maybe_alone (type_with open_items_written))
  unfolding maybe_form_with type_with opened closed_with maybe_with close_maybe bracketed tuple_rest tuple_items name open_form
  maybe_factored = same_by lexis rules ρ β sane (Ty × Bool) (maybe_form_with open_items_written) (maybe_alone (type_with open_items_written)) (0 ∷ 1 ∷ 2 ∷ 5 ∷ 3 ∷ 4 ∷ []) (0 ∷ 1 ∷ 2 ∷ 4 ∷ 5 ∷ 3 ∷ []) refl refl

  -- what may be open, a rule deeper
  pub maybe_deeper : Same ρ β maybe_form (maybe_alone type_form)
  maybe_deeper = by ρ β (maybe_form_with open_items_written) maybe_parted (by ρ β (maybe_alone (type_with open_items_written)) maybe_factored
      (alt ρ β (along ρ β (back ρ β type_parted)) (keep ρ β)))

  pub maybe_same : Same ρ β written_maybe maybe_form
  unfolding written_maybe
  maybe_same = by ρ β (maybe_alone type_form) (alt ρ β (along ρ β type_same) (keep ρ β)) (back ρ β maybe_deeper)

  path_type_same : Same ρ β path_type (word k.Less >> path_type_parted)
  unfolding path_type path_type_parted
  path_type_same = seq ρ β (keep ρ β)
      (split_flag lexis rules ρ β (λ (t : Ty × Bool) (_ : Unit {0}). t.0) type_ opened (word k.ShiftBack) (word k.Greater) (rule RMaybe) maybes)

  path_inside : Same ρ β path_form path_parted
  unfolding path_form path_parted behind_separator path_of_type
  path_inside = seq ρ β (keep ρ β) (maybe ρ β (seq ρ β (keep ρ β) (alt ρ β (seq ρ β path_type_same (keep ρ β)) (keep ρ β))))

  path_factored : Same ρ β written_path path_parted
  unfolding written_path path_parted path_type_parted path_of path_of_open opened name
  path_factored = same_by lexis rules ρ β sane Path written_path path_parted (3 ∷ 2 ∷ 0 ∷ 1 ∷ []) (2 ∷ 3 ∷ 1 ∷ 0 ∷ []) refl refl

  -- paths
  pub path_same : Same ρ β written_path path_form
  path_same = by ρ β path_parted path_factored (back ρ β path_inside)

-- where nothing is derived
pub maybes_zero : (f : Grammar lexis rules) → Maybes (DerivesBy f zero) (BegunBy f zero)
unfolding opened
maybes_zero f = record {
  to = λ w x d. absurd d.1;
  from = λ w x d. elim d [ inl i ↦ absurd i.1.1 | inr i ↦ absurd i.1.5.1 ];
  begun_to = λ w b. inl b;
  begun_from = λ w b. elim b [ inl i ↦ i | inr i ↦ elim i [ inl j ↦ j | inr j ↦ absurd j.4.1 ] ];
}

module _ (ρ : Derivings lexis rules) (β : Beginnings lexis rules) (sane : Sane lexis rules ρ β) (maybes : Maybes ρ β) (f : Grammar lexis rules) (each : (N : Rule) → Same ρ β (f N) (grammar N)) where
  -- what may be open, by the forms of a grammar
  parted_form : Same ρ β (f RMaybe) (Alt (Map (λ t. (t, false)) (f RType)) (Seq (λ (o : Span × List Ty) close. (open_ty o close, true)) (f ROpen) (at k.ShiftFront)))
  parted_form = by ρ β maybe_form (each RMaybe) (by ρ β (maybe_alone type_form) (maybe_deeper ρ β sane maybes)
      (alt ρ β (along ρ β (back ρ β (each RType))) (seq ρ β (back ρ β (each ROpen)) (keep ρ β))))

  -- the same fact a rule deeper
  pub maybes_deeper : Maybes (λ N w x. Derives ρ (f N) w x) (λ N w. Begun ρ β (f N) w)
  unfolding opened
  maybes_deeper = record {
    to = λ w x d. elim (parted_form.to w x (subst (λ z. Derives ρ (f RMaybe) w z) d.2 d.1)) [
      | inl (t, i, j) ↦ inl (t, (t, i, refl), j)
      | inr (u, v, o, s, e, i, c, j) ↦ inr (open_ty o s, (u, v, o, s, e, (o, i, refl), c, refl), j)
    ];
    from = λ w x d. elim d [
      | inl (t, (t', i, j), l) ↦ (x, parted_form.from w x (inl (t', i, ap (λ z. (z, false)) j ∙ l)), refl)
      | inr (t, (u, v, o, s, e, (o', i, j), c, l), m) ↦ (x, parted_form.from w x (inr (u, v, o', s, e, i, c, ap (λ z. (open_ty z s, true)) j ∙ ap (λ z. (z, true)) l ∙ m)), refl)
    ];
    begun_to = λ w b. elim (parted_form.begun_to w b) [
      | inl i ↦ inl i
      | inr (inl i) ↦ inr (inl i)
      | inr (inr (u, v, o, e, i, c)) ↦ inr (inr (u, v, o, e, (o, i, refl), c))
    ];
    begun_from = λ w b. parted_form.begun_from w (elim b [
      | inl i ↦ inl i
      | inr (inl i) ↦ inr (inl i)
      | inr (inr (u, v, o, e, (o', i, j), c)) ↦ inr (inr (u, v, o', e, i, c))
    ]);
  }
