-- Signed numbers as the code holds them.
use Prim.Native.Nat.{ℕ, zero, suc, ◌<◌, ◌^◌}
use mathlib.Core.Path.{◌≡◌, ◌∙◌}
use mathlib.Core.Bool.{Bool, true, false, cond}
use native.Mathlib.Omega.{arith}
use lib.Dec.{T, leb}
use lib.IntN.{ℤ, pos, neg_ℤ, ◌-ℤ◌, +ℤ_idl}
use mir.Syntax.{Width}
use mir.Val.{to_z, of_z, hbits, SFits}
use mir.Facts.{to_z-of_z, sfits_widen}

-- A number that is cast to a wider type.
pub cast_fits : {w v : Width} {z : ℤ} → T (leb (hbits w) (hbits v)) → SFits w z → SFits v (to_z w (of_z w z))
cast_fits t f = rw (to_z-of_z f) (sfits_widen t f)

pub cast_is : {w : Width} (v : Width) {z : ℤ} → T (leb (hbits w) (hbits v)) → SFits w z → to_z v (of_z v (to_z w (of_z w z))) ≡ z
cast_is v t f = to_z-of_z {w = v} (cast_fits t f) ∙ to_z-of_z f

-- The one of two numbers that a test chooses.
pub chosen : {w : Width} {a b : ℤ} {t : Bool} (test : ℤ → ℤ → Bool) → SFits w a → SFits w b → test (to_z w (of_z w a)) (to_z w (of_z w b)) ≡ t → to_z w (of_z w (cond t b a)) ≡ cond (test a b) b a
chosen {t = true} test f g e = rw (to_z-of_z g, rw (to_z-of_z f, to_z-of_z g) at e)
chosen {t = false} test f g e = rw (to_z-of_z f, rw (to_z-of_z f, to_z-of_z g) at e)

-- A test of a number against a limit that is cast to its type.
pub tested : {w v : Width} {z u limit : ℤ} {b : Bool} (test : ℤ → ℤ → Bool) → T (leb (hbits w) (hbits v)) → SFits v z → SFits w limit → z ≡ u
    → b ≡ test (to_z v (of_z v z)) (to_z v (of_z v (to_z w (of_z w limit)))) → b ≡ test u limit
tested {v = v} test t f g e h = rw (to_z-of_z f, cast_is v t g, e) at h

-- The negative of a number that is not negative.
pub minus_is : (n : ℕ) → pos 0 -ℤ pos n ≡ neg_ℤ (pos n)
minus_is n = +ℤ_idl (neg_ℤ (pos n))

pub minus_fits : {w : Width} (n : ℕ) → n < 2 ^ hbits w → SFits w (neg_ℤ (pos n))
minus_fits zero h = record { sfits = h }
minus_fits (suc n) h = record { sfits = omega arith }
