-- The index of a scope, and of names, after one of its names is written.
use Rattle.std.proofs.Common.{◌≡◌, ℕ, cond, List, [], ◌∷◌, ◌++◌, map, bytes_eq, Option, Some, sym, ap, subst, ◌∙◌}
use denote.Ref.{Bor}
use Rattle.std.specs.Prelude.{reverse}
use Rattle.std.proofs.lemmas.List.{reverse-append}
use Rattle.indexmap.specs.IndexMap.{IndexMap, get_by, UpdatesBy}
use Rattle.hs_scope.specs.declared.scope.Entry.{Entry}
use Rattle.hs_scope.specs.Scope.{look}
use Rattle.hs_scope.specs.Index.{Answers}
use Rattle.hs_scope.specs.Entries.{binding_of, scope_of, Remembers, Indexed}
use Rattle.hs_scope.proofs.Meanings.{look_bound, look_left, look_latest}

-- the index has the latest entry
pub latest_there : {S : Type 0} (index : IndexMap (Bor (List ℕ)) ℕ S) (es more : List Entry) (e : Entry)
    → more ≡ es ++ e ∷ [] → Indexed more index → get_by (λ key. bytes_eq e.name.now key.now) index ≡ Some e.number
latest_there index es more e i h =
    h.latest e.name.now
    ∙ ap (λ (zs : List Entry). look e.name.now (map binding_of zs)) (ap reverse i ∙ reverse-append es (e ∷ []))
    ∙ look_latest (binding_of e) (scope_of es)

module _ {S : Type 0} (old new : IndexMap (Bor (List ℕ)) ℕ S) where
  -- it has another number for the name, or none
  abbrev pub Written : Bor (List ℕ) → Option ℕ → Type 0
  Written name number = UpdatesBy (λ x y. bytes_eq x.now y.now) (λ key. bytes_eq name.now key.now) old new number

  -- it answers what the names mean then
  pub answers_written : (f g : List ℕ → Option ℕ) (name : Bor (List ℕ)) (number : Option ℕ)
      → Answers f old → Written name number → ((w : List ℕ) → g w ≡ cond (bytes_eq name.now w) number (f w)) → Answers g new
  answers_written f g name number a h m =
      λ w. h.0 (record { ref_ptr = name.ref_ptr; now = w }) ∙ ap (cond (bytes_eq name.now w) number) (a w) ∙ sym (m w)

  module _ (es more : List Entry) (e : Entry) where
    -- with one entry more
    pub indexed_more : more ≡ es ++ e ∷ [] → Indexed es old → e.hidden ≡ look e.name.now (scope_of es) → Written e.name (Some e.number) → Indexed more new
    indexed_more i h k u =
        let turned : reverse more ≡ e ∷ reverse es = ap reverse i ∙ reverse-append es (e ∷ []) in
        record {
          hidden = subst Remembers (sym turned) (k, h.hidden);
          latest =
              answers_written (λ w. look w (scope_of es)) (λ w. look w (scope_of more)) e.name (Some e.number) h.latest u
              (λ w. ap (λ (zs : List Entry). look w (map binding_of zs)) turned ∙ look_bound (binding_of e) (scope_of es) w);
        }

    -- with one entry less
    pub indexed_less : (number : Option ℕ) → more ≡ es ++ e ∷ [] → Indexed more old → e.hidden ≡ number → Written e.name number → Indexed es new
    indexed_less number i h k u =
        let turned : reverse more ≡ e ∷ reverse es = ap reverse i ∙ reverse-append es (e ∷ []) in
        let known : Remembers (e ∷ reverse es) = subst Remembers turned h.hidden in
        record {
          hidden = known.1;
          latest =
              answers_written (λ w. look w (scope_of more)) (λ w. look w (scope_of es)) e.name number h.latest u
              (λ w. look_left (binding_of e) (scope_of es) w
              ∙ ap (λ (o : Option ℕ). cond (bytes_eq e.name.now w) o (look w (binding_of e ∷ scope_of es))) (sym known.0 ∙ k)
              ∙ ap (λ (zs : List Entry). cond (bytes_eq e.name.now w) number (look w (map binding_of zs))) (sym turned));
        }
