-- Two's complement, at any width.
use Prim.Native.Nat.{ℕ, suc, ◌-◌, ◌<◌}
use mathlib.Core.Bool.{Bool, true, false}
use mathlib.Core.Path.{◌≡◌, refl, ap, ◌∙◌}
use native.Mathlib.Omega.{arith}
use lib.IntN.{ℤ, pos, negsuc}
use lib.Dec.{ltb}
use lib.Signed.{mag}
use borrow.Author.Tests.{ltb-true, ltb-false}
use mir.Syntax.{Width, w16}
use mir.Val.{sel, to_z, of_z, SFits}
use mir.Facts.{to_z-of_z}

pub signed_of : {w : Width} {z : ℤ} {v u : ℕ} → SFits w z → z ≡ to_z w v → v ≡ u → to_z w (of_z w z) ≡ to_z w u
signed_of {w} f e h = to_z-of_z f ∙ (e ∙ ap (to_z w) h)

-- An i16 is −32,768 to 32,767, whatever its bits are.
pub signed_small : (n : ℕ) → mag (to_z w16 n) < 32768
signed_small n = go (ltb n 32768) refl
  where
    go : (b : Bool) → ltb n 32768 ≡ b → mag (sel b (pos n) (negsuc (65536 - suc n))) < 32768
    go true e = ltb-true n 32768 e
    go false e = let l = ltb-false n 32768 e in omega arith
