-- The top state of a rule's time.
use Prim.Native.Nat.{ℕ, zero, suc, ◌≤◌, ◌<◌}
use mathlib.Core.Path.{◌≡◌, refl}
use native.Mathlib.Omega.{arith}
use Rattle.rules.specs.Evaluation.{top}

pub top_fits : (t : ℕ) → t < 256 → top t ≤ 256
top_fits zero h = omega arith
top_fits (suc t) h = omega arith

pub top_pos : (t : ℕ) → (t ≡ 0 → ⊥) → 0 < top t
top_pos zero n = absurd (n refl)
top_pos (suc t) n = omega arith

pub positive_top : {m t : ℕ} → m ≡ top t → 0 < t → 0 < m
positive_top {m} {t} e h = let p = top_pos t (λ z. omega arith) in omega arith
