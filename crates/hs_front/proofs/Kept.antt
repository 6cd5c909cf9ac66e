-- What is told by the stages behind the grammar.
use Rattle.std.proofs.Common.{◌≡◌, ◌⊎◌, inl, inr, Result, Ok, Err, refl, ap}
use Rattle.hs_base.specs.declared.place.Broken.{Broken}
use Rattle.hs_base.specs.declared.place.Stop.{Stop}
use Rattle.hs_base.specs.declared.place.Stop.TheVariants as stop
use Rattle.hs_syntax.specs.declared.file.File.{File}
use Rattle.hs_resolver.specs.declared.names.Names.{Names}
use Rattle.hs_resolver.specs.Order.{KeepsNames, TellsNames, Resolves}
use Rattle.hs_items.specs.declared.decls.Decls.{Decls}
use Rattle.hs_items.specs.Declares.{KeepsDecls, TellsDecls, Declares}
use Rattle.hs_front.specs.Stages.{KeepsRules, TellsRules, Keeps}

abbrev OnlyOne : {A : Type 0} → Result A Stop → Broken → Type 0
OnlyOne r t = (r ≡ Err (stop.Broken t)) ⊎ (r ≡ Err stop.NoMemory)

-- the same stop, of an answer without a value
only_as : {A B : Type 0} (s : Stop) (t : Broken) → OnlyOne {A = A} (Err s) t → OnlyOne {A = B} (Err s) t
only_as (stop.Broken u) t (inl e) = inl (cc)
only_as (stop.Broken u) t (inr e) = absurd (cc)
only_as stop.NoMemory t o = inr refl

module _ (file : File) (names_apart : (x : File) (b : Broken) → KeepsNames x → TellsNames x b → ⊥) where
  module _ (decls_apart : (x : File) (b : Broken) → KeepsDecls x → TellsDecls x b → ⊥) where
    pub rules_apart : (b : Broken) → KeepsRules file → TellsRules file b → ⊥
    rules_apart b (k, d) (inl t) = names_apart file b k t
    rules_apart b (k, d) (inr (n, t)) = decls_apart file b d t

  -- where the names break a rule
  module _ (s : Stop) (made : Resolves file (Err s)) where
    pub names_told : {A : Type 0} → ((t : Broken) → TellsNames file t → OnlyOne {A = Names} (Err s) t) → (t : Broken) → TellsRules file t → OnlyOne {A = A} (Err s) t
    names_told only t (inl h) = only_as s t (only t h)
    names_told only t (inr (k, h)) = go s made
      where
        go : {A : Type 0} (s : Stop) → Resolves file (Err s) → OnlyOne {A = A} (Err s) t
        go (stop.Broken b) told = absurd (names_apart file b k told)
        go stop.NoMemory told = inr refl

  -- where they break none
  module _ (names : Names) (resolved : Resolves file (Ok names)) where
    keeps_names : KeepsNames file
    keeps_names = (resolved.0, names.order, resolved.1.order)

    all_kept : (decls : Decls) → Declares file names (Ok decls) → KeepsRules file
    all_kept decls d = (keeps_names, (names.order, resolved.1.order, d.0))

    pub decls_told : {A : Type 0} (s : Stop) → ((t : Broken) → TellsDecls file t → OnlyOne {A = Decls} (Err s) t) → (t : Broken) → TellsRules file t → OnlyOne {A = A} (Err s) t
    decls_told s only t (inl h) = absurd (names_apart file t keeps_names h)
    decls_told s only t (inr (k, h)) = only_as s t (only t h)

    -- nothing is told where no rule is broken
    pub none_told : {A : Type 0} → ((x : File) (b : Broken) → KeepsDecls x → TellsDecls x b → ⊥) → (decls : Decls) → Declares file names (Ok decls) → (r : Result A Stop) (t : Broken)
        → TellsRules file t → OnlyOne r t
    none_told decls_apart decls d r t h = absurd (rules_apart decls_apart t (all_kept decls d) h)
