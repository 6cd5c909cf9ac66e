-- What the words of a form ask.
use Rattle.std.proofs.Common.{◌≡◌, ℕ, List, [], ◌∷◌, Bool, true, false, cond, Option, Some, None, bytes_eq, codes, refl, sym, subst}
use Rattle.hs_first_em.specs.Spelled.{is_module_name}
use Rattle.hs_cli.specs.declared.command.Dialect.{Dialect}
use Rattle.hs_cli.specs.Command.{Print, Command, AsksPrint, Named, dialect_of, print_of, command_of}

print_named : (dialect : Option Dialect) (name file : List ℕ) (form : Print) → print_of dialect name file ≡ Some (AsksPrint form) → is_module_name form.module_name ≡ true
print_named None name file form e = absurd (cc e)
print_named (Some dialect) name file form e = go (is_module_name name) refl e
  where
    go : (b : Bool) → is_module_name name ≡ b → cond b (Some (AsksPrint (record { dialect = dialect; module_name = name; file = file }))) None ≡ Some (AsksPrint form) → is_module_name form.module_name ≡ true
    go true d f = let same : record { dialect = dialect; module_name = name; file = file } ≡ form = cc f in subst (λ (x : Print). is_module_name x.module_name ≡ true) same d
    go false d f = absurd (cc f)

asked_named : (command dialect name file : List ℕ) (form : Print) → command_of (command ∷ dialect ∷ name ∷ file ∷ []) ≡ Some (AsksPrint form) → is_module_name form.module_name ≡ true
asked_named command dialect name file form e = go (bytes_eq command (codes "print")) e
  where
    go : (b : Bool) → cond b (print_of (dialect_of dialect) name file) None ≡ Some (AsksPrint form) → is_module_name form.module_name ≡ true
    go true f = print_named (dialect_of dialect) name file form f
    go false f = absurd (cc f)

-- the name that is asked for is a module's name
form_named : (words : List (List ℕ)) (form : Print) → command_of words ≡ Some (AsksPrint form) → is_module_name form.module_name ≡ true
form_named [] form e = absurd (cc e)
form_named (a ∷ []) form e = absurd (cc e)
form_named (a ∷ b ∷ []) form e = absurd (cc e)
form_named (a ∷ b ∷ c ∷ []) form e = absurd (cc e)
form_named (a ∷ b ∷ c ∷ d ∷ []) form e = asked_named a b c d form e
form_named (a ∷ b ∷ c ∷ d ∷ x ∷ xs) form e = absurd (cc e)

-- what a command of the words names is a name of its kind
pub command_named : (words : List (List ℕ)) (command : Command) → Some command ≡ command_of words → Named command
command_named words (AsksPrint form) e = form_named words form (sym e)
