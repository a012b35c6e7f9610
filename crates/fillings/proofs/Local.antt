-- What is possible after k ticks depends on the first k ticks alone.
use Prim.Native.Nat.{ℕ, zero, suc, ◌<◌}
use native.Mathlib.Omega.{arith}
use mathlib.Core.Path.{◌≡◌, refl, ap₂}
use mathlib.Core.Bool.{cond}
use Rattle.rules.specs.Evaluation.{evaluated}
use Rattle.fillings.specs.Fillings.{Rule, last, Shown}
use Rattle.fillings.specs.PossibleStates.{next, moves, possible}

pub possible_local : (r : Rule) (a b : ℕ → Shown) (k : ℕ) → ((t : ℕ) → t < k → a t ≡ b t) → possible r a k ≡ possible r b k
unfolding possible
possible_local r a b zero h = refl
possible_local r a b (suc k) h =
    ap₂ (λ w p. cond (evaluated r.row k) (next (last r) (moves r w) p) p) (h k (omega arith)) (possible_local r a b k (λ t l. h t (omega arith)))
