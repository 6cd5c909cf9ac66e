-- How deep rules nest while tokens are read.
use Rattle.std.specs.Prelude.{◌≡◌, ℕ, ◌<◌, Bool, true, not, ◌&&◌, ◌||◌, nat_lt}
use Rattle.hs_grammar.specs.Form.{Lexis, Rules, Form, Pure, Tok, Nt, Map, Seq, Split, Alt, Loop, Unless, Grammar}
use Rattle.hs_grammar.specs.Lookahead.{Tables, empty}

-- whether each rule to which the form leads before a token has been read has a rank below this
abbrev pub leads_below : {L : Lexis} {R : Rules} → Tables L R → (R.rule → ℕ) → ℕ → {C : Type 0} → Form L R C → Bool
leads_below τ rank n (Pure c) = true
leads_below τ rank n (Tok ks h) = true
leads_below τ rank n (Nt N h) = nat_lt (rank N) n
leads_below τ rank n (Map h f) = leads_below τ rank n f
leads_below τ rank n (Seq h f g) = leads_below τ rank n f && (not (empty τ f) || leads_below τ rank n g)
leads_below τ rank n (Split p h f g k) = leads_below τ rank n f && (not (empty τ f) || (leads_below τ rank n g && leads_below τ rank n k))
leads_below τ rank n (Alt f g) = leads_below τ rank n f && leads_below τ rank n g
leads_below τ rank n (Loop h f) = leads_below τ rank n f
leads_below τ rank n (Unless ks f) = leads_below τ rank n f

-- the rules have ranks below this number, which fall from a rule to each to which it leads before a token has been read: so none leads back to itself before that
pub record Ranked {L : Lexis} {R : Rules} (τ : Tables L R) (g : Grammar L R) (rank : R.rule → ℕ) (ranks : ℕ) : Type 0 where
  pub below : (N : R.rule) → rank N < ranks
  pub falls : (N : R.rule) → leads_below τ rank (rank N) (g N) ≡ true
