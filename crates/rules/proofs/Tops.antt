-- The top state.
use Prim.Native.Nat.{ℕ, zero, suc}
use mathlib.Core.Path.{◌≡◌, refl}
use Rattle.rules.specs.Evaluation.{top}

pub top_is : (t : ℕ) → t ≡ top t
top_is zero = refl
top_is (suc t) = refl
