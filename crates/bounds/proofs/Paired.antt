-- Two lanes for each of the sixteen rules, by their numbers.
use Prim.Native.Nat.{ℕ, ◌+◌, ◌-◌, ◌<◌}
use native.Mathlib.Omega.{arith}
use mathlib.Core.Path.{◌≡◌, refl, ap, ◌∙◌}
use mathlib.Core.Bool.{Bool, true, false, cond}
use lib.Dec.{ltb}
use lib.ListN.{get_or, length}
use borrow.Author.Tests.{lt-ltb, le-ltb, ltb-true, ltb-false}
use Rattle.lists.proofs.Bools.{length_tabulate, get_d_tabulate, tabulate_same}
use Rattle.bounds.specs.Lanes.{paired}

module _ {A : Type 0} (f g : ℕ → A) where
  abbrev lane : ℕ → A
  lane j = cond (ltb j 16) (f j) (g (j - 16))

  lane_low : (i : ℕ) → i < 16 → lane i ≡ f i
  lane_low i h = ap (λ (b : Bool). cond b (f i) (g (i - 16))) (lt-ltb i 16 h)

  lane_high : (i : ℕ) → lane (16 + i) ≡ g i
  lane_high i =
      let e : 16 + i - 16 ≡ i = omega arith in
      ap (λ (b : Bool). cond b (f (16 + i)) (g (16 + i - 16))) (le-ltb (16 + i) 16 (omega arith)) ∙ ap g e

  pub paired_length : length (paired f g) ≡ 32
  unfolding paired
  paired_length = length_tabulate 32 lane

  pub paired_low : (d : A) (i : ℕ) → i < 16 → get_or (paired f g) i d ≡ f i
  unfolding paired
  paired_low d i h = get_d_tabulate 32 lane d i (omega arith) ∙ lane_low i h

  pub paired_high : (d : A) (i : ℕ) → i < 16 → get_or (paired f g) (16 + i) d ≡ g i
  unfolding paired
  paired_high d i h = get_d_tabulate 32 lane d (16 + i) (omega arith) ∙ lane_high i

pub paired_same : {A : Type 0} (f g f' g' : ℕ → A) → ((i : ℕ) → i < 16 → f i ≡ f' i) → ((i : ℕ) → i < 16 → g i ≡ g' i) → paired f g ≡ paired f' g'
unfolding paired
paired_same f g f' g' low high = tabulate_same 32 (lane f g) (lane f' g') same
  where
    same : (j : ℕ) → j < 32 → lane f g j ≡ lane f' g' j
    same j h = go (ltb j 16) refl
      where
        go : (b : Bool) → ltb j 16 ≡ b → cond b (f j) (g (j - 16)) ≡ cond b (f' j) (g' (j - 16))
        go true e = low j (ltb-true j 16 e)
        go false e = let l = ltb-false j 16 e in high (j - 16) (omega arith)
