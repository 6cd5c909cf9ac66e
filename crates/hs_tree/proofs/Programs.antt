-- A call holds exactly where the function gives it, for whole programs.
use Rattle.std.proofs.Common.{◌≡◌, ◌⊎◌, ◌↔◌, inl, inr, ℕ, ◌+◌, Bool, true, false, List, [], ◌∷◌, reverse, Option, Some, None, refl, ap, ◌∙◌, ⊎_elim}
use Rattle.std.specs.Prelude.{bytes_eq, if◌then◌else◌}
use Rattle.std.specs.Bool.{⊤}
use Rattle.hs_tree.specs.Plain.{Name, Function, Program}
use Rattle.hs_tree.specs.Store.{Store, Outcome, Out, Stuck, Ran, Result, Back, Ended, Calls, CallRel}
use Rattle.hs_tree.specs.World.{World}
use Rattle.hs_tree.specs.Run.{run_block}
use Rattle.hs_tree.specs.Meaning.{RunsBlock}
use Rattle.hs_tree.specs.Call.{entered, lent_locals, result_of, ended, back_of, back_at, Moves, world_of, call_function, calls, CallsOf, Results, results}
use Rattle.hs_tree.proofs.Bridge.{Gave, CallsSame, same_block}

result_from : (y : Option Result) (m : ℕ) (r : Result) (n : ℕ) → ((y ≡ Some r) × (n ≡ 1 + m)) ↔ (ended y m ≡ Ended r n)
result_from None m r n = (λ h. absurd (cc (h.0)), λ e. absurd (cc))
result_from (Some x) m r n = (λ h. cc (h.0, h.1), λ e. ((cc), (cc)))

back_from : (ks : List ℕ) (x : Out) (r : Result) (n : ℕ) → ((o : Outcome) × (s : Store) × (m : ℕ) × (x ≡ Ran o s m) × (result_of ks o s ≡ Some r) × (n ≡ 1 + m)) ↔ (back_of ks x ≡ Ended r n)
back_from ks Stuck r n = (λ h. absurd (cc (h.3)), λ e. absurd (cc))
back_from ks (Ran o s m) r n = (
  λ h. ap (back_of ks) h.3 ∙ (result_from (result_of ks h.0 h.1) h.2 r n).0 (h.4, h.5),
  λ e. let q = (result_from (result_of ks o s) m r n).1 e in (o, s, m, refl, q.0, q.1),
)

module _ (world : Name → World) where
  function_from : (g : Function) (C : CallRel) (c : Calls) → CallsSame C c → (x : Option Store) (r : Result) (n : ℕ) → ((s : Store) × (o : Outcome) × (s' : Store) × (m : ℕ) × (x ≡ Some s) × RunsBlock (world g.name) C g.body s o s' m × (result_of (lent_locals g.params) o s' ≡ Some r) × (n ≡ 1 + m)) ↔ (back_at (lent_locals g.params) x (run_block (world g.name) c g.body) ≡ Ended r n)
  function_from g C c h None r n = (λ q. absurd (cc (q.4)), λ e. absurd (cc))
  function_from g C c h (Some s) r n = (
    λ q.
        let d : s ≡ q.0 = cc (q.4) in
        ap (λ z. back_of (lent_locals g.params) (run_block (world g.name) c g.body z)) d
        ∙ (back_from (lent_locals g.params) _ r n).0 (q.1, q.2, q.3, (same_block (world g.name) C c h g.body ⊤ q.0 q.1 q.2 q.3).0 q.5, q.6, q.7),
    λ e.
        let q = (back_from (lent_locals g.params) (run_block (world g.name) c g.body s) r n).1 e in
        (s, q.0, q.1, q.2, refl, (same_block (world g.name) C c h g.body ⊤ s q.0 q.1 q.2).1 q.3, q.4, q.5),
  )

  named_from : (b : Bool) (x y : Back) (R S : Type 0) (r : Result) (n : ℕ) → R ↔ Gave x r n → S ↔ Gave y r n → (((b ≡ true) × R) ⊎ ((b ≡ false) × S)) ↔ Gave (if b then x else y) r n
  named_from true x y R S r n h k = (⊎_elim (λ q. h.0 q.1) (λ q. absurd (cc (q.0))), λ e. inl (refl, h.1 e))
  named_from false x y R S r n h k = (⊎_elim (λ q. absurd (cc (q.0))) (λ q. k.0 q.1), λ e. inr (refl, k.1 e))

  calls_same : (fs : List Function) → CallsSame (CallsOf world fs) (calls world fs)
  calls_same [] f vs r n = (λ h. absurd h, λ e. absurd (cc))
  calls_same (g ∷ before) f vs r n =
      named_from (bytes_eq g.name f) (call_function world g (calls world before) vs) (calls world before f vs) _ _ r n
      (function_from g (CallsOf world before) (calls world before) (calls_same before) (entered g.params vs) r n)
      (calls_same before f vs r n)

-- what a function of a program gives: the relation is the function
pub same_results : (p : Program) (moves : Moves) → CallsSame (Results p moves) (results p moves)
same_results p moves = calls_same (world_of p moves) (reverse p.functions)
