-- What stands at equal distances.
use Prim.Native.Nat.{ℕ, zero, suc, ◌+◌, ◌-◌, ◌*◌, ◌≤◌, ◌<◌, min}
use mathlib.Core.Path.{◌≡◌, refl, ap, ap₂, ◌∙◌}
use mathlib.Core.List.{◌∷◌}
use native.Mathlib.Omega.{arith}
use native.Mathlib.Nat.{suc-mul, mul-suc, mul-zero, add_assoc}
use lib.ListN.{length, get_or, take}
use Rattle.bytes_le.specs.Numbers.{spaced}

module _ {A : Type 0} (f : ℕ → A) (w : ℕ) where
  pub spaced_next : (k at : ℕ) → 0 < k → spaced f w k at ≡ f at ∷ spaced f w (k - 1) (at + w)
  unfolding spaced
  spaced_next zero at h = absurd (omega arith)
  spaced_next (suc k) at h = let e : suc k - 1 ≡ k = omega arith in rw e

  pub length_spaced : (k at : ℕ) → length (spaced f w k at) ≡ k
  unfolding spaced
  length_spaced zero at = refl
  length_spaced (suc k) at = ap suc (length_spaced k (at + w))

  pub spaced_at : (d : A) (k at i : ℕ) → i < k → get_or (spaced f w k at) i d ≡ f (at + w * i)
  unfolding spaced
  spaced_at d zero at i h = absurd (omega arith)
  spaced_at d (suc k) at zero h = let z = mul-zero w in let e : at ≡ at + w * 0 = omega arith in ap f e
  spaced_at d (suc k) at (suc i) h =
      let z = mul-suc w i in
      let e : at + w + w * i ≡ at + w * suc i = omega arith in
      spaced_at d k (at + w) i (omega arith) ∙ ap f e

  pub take_spaced : (j k at : ℕ) → take j (spaced f w k at) ≡ spaced f w (min k j) at
  unfolding spaced
  take_spaced zero k at = let e : min k 0 ≡ 0 = omega arith in rw e
  take_spaced (suc j) zero at = let e : min 0 (suc j) ≡ 0 = omega arith in rw e
  take_spaced (suc j) (suc k) at =
      let e : min (suc k) (suc j) ≡ suc (min k j) = omega arith in
      rw e (ap (λ l. f at ∷ l) (take_spaced j k (at + w)))

  -- Two that agree where what they read ends by m.
  pub same_spaced : (g : ℕ → A) (m : ℕ) → ((x : ℕ) → x + w ≤ m → f x ≡ g x) → (k at : ℕ) → at + k * w ≤ m → spaced f w k at ≡ spaced g w k at
  unfolding spaced
  same_spaced g m same zero at h = refl
  same_spaced g m same (suc k) at h =
      let e = suc-mul k w in
      ap₂ (λ x l. x ∷ l) (same at (omega arith)) (same_spaced g m same k (at + w) (omega arith))

  -- The same, read n bytes on.
  pub spaced_behind : (g : ℕ → A) (n : ℕ) → ((x : ℕ) → f (n + x) ≡ g x) → (k at : ℕ) → spaced f w k (n + at) ≡ spaced g w k at
  unfolding spaced
  spaced_behind g n same zero at = refl
  spaced_behind g n same (suc k) at =
      ap₂ (λ x l. x ∷ l) (same at) (ap (spaced f w k) (add_assoc n at w) ∙ spaced_behind g n same k (at + w))
