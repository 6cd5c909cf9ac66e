-- The range that upper-case letters are.
use Rattle.std.proofs.Common.{◌≡◌, ℕ, ◌&&◌, leb, refl}
use Rattle.hs_base.specs.Names.{is_upper}

pub upper_range : (b : ℕ) → is_upper b ≡ (leb 65 b && leb b 90)
unfolding is_upper
upper_range b = refl
