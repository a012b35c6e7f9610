-- The states after j unseen evaluations, for j up to the top state, one by one.
use Prim.Native.Nat.{ℕ, zero, suc, ◌-◌, ◌≤◌, ◌<◌}
use mathlib.Core.Path.{◌≡◌, ap, ap₂, sym, ◌∙◌, subst}
use mathlib.Core.Bool.{Bool, true, false, ◌&&◌, ◌||◌, or-false, or_assoc, or_comm}
use mathlib.Core.List.{List}
use native.Mathlib.Omega.{arith}
use lib.Dec.{T}
use lib.ListN.{length}
use Rattle.lists.specs.Lists.{some_below}
use Rattle.lists.proofs.Bools.{is_true}
use Rattle.fillings.specs.PossibleStates.{has, anything, unseen_times}
use Rattle.fillings.proofs.Next.{next_between, next_top}
use Rattle.fillings.proofs.Still.{fills, stays, kept}

some_last : (n : ℕ) (f : ℕ → Bool) → some_below (suc n) f ≡ (some_below n f || f n)
some_last zero f = or-false (f 0)
some_last (suc n) f =
    ap (λ (b : Bool). f 0 || b) (some_last n (λ i. f (suc i))) ∙ sym (or_assoc (f 0) (some_below n (λ i. f (suc i))) (f (suc n)))

-- The state from which i evaluations lead to the top is possible.
abbrev pub below_top : ℕ → List Bool → ℕ → Bool
below_top m p i = has p (m - i)

module _ (m : ℕ) (recovers : Bool) (p : List Bool) where
  -- below the top, j unseen evaluations count a state up by j
  pub counted_up : (j s : ℕ) → j ≤ s → s < m → has (unseen_times j m recovers p) s ≡ has p (s - j)
  unfolding unseen_times
  counted_up zero s h l = let e : s ≡ s - 0 = omega arith in ap (has p) e
  counted_up (suc j) zero h l = absurd (omega arith)
  counted_up (suc j) (suc s) h l =
      let e : s - j ≡ suc s - suc j = omega arith in
      next_between m (anything recovers) (unseen_times j m recovers p) s l ∙ counted_up j s (omega arith) (omega arith) ∙ ap (has p) e

  -- the top state is possible exactly if some i evaluations lead to it
  pub top_within : (j : ℕ) → 0 < m → j ≤ m → has (unseen_times j m recovers p) m ≡ some_below (suc j) (below_top m p)
  unfolding unseen_times
  top_within zero pos h = let e : m ≡ m - 0 = omega arith in ap (has p) e ∙ sym (or-false (has p (m - 0)))
  top_within (suc j) pos h =
      let e : suc (m - 1) ≡ m = omega arith in
      let d : m - 1 - j ≡ m - suc j = omega arith in
      next_top m (anything recovers) (unseen_times j m recovers p) (m - 1) e
      ∙ ap₂ ◌||◌ (counted_up j (m - 1) (omega arith) (omega arith) ∙ ap (has p) d) (top_within j pos (omega arith))
      ∙ or_comm (below_top m p (suc j)) (some_below (suc j) (below_top m p))
      ∙ sym (some_last (suc j) (below_top m p))

  -- once 0 can be reached, so can every state below j
  pub first_states : (some_below m (has p) || recovers && has p m) ≡ true → (j s : ℕ) → s < j → s < m → has (unseen_times j m recovers p) s ≡ true
  first_states e j s l h = is_true (has (unseen_times j m recovers p) s) (fills m recovers p (subst T (sym e) tt) j s l h)

  -- if 0 cannot be reached, nothing moves
  pub unmoved_times : length p ≡ suc m → (some_below m (has p) || recovers && has p m) ≡ false → (j : ℕ) → unseen_times j m recovers p ≡ p
  unfolding unseen_times
  unmoved_times n e j = stays m recovers p 0 (kept m recovers p n e) j (omega arith)
