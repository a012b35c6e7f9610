-- Exclusive or of numbers is associative.
use Prim.Native.Nat.{ℕ, zero, suc, ◌*◌, ◌+◌, ◌/◌, ◌%◌, ◌<◌}
use mathlib.Core.Path.{◌≡◌, refl, sym, ap, ap₂, ◌∙◌}
use native.Mathlib.Nat.{mod-lt}
use native.Mathlib.Omega.{arith}
use lib.Arith.{bin_ind}
use lib.Bits.{bit_xor, differ, xor_step, xor_shr, xor_mod, xor_zero_l}

below_two : (P : ℕ → Type 0) → P 0 → P 1 → (x : ℕ) → x < 2 → P x
below_two P a b zero h = a
below_two P a b (suc zero) h = b
below_two P a b (suc (suc x)) h = absurd (omega arith)

digits : (x y z : ℕ) → x < 2 → y < 2 → z < 2 → differ (bit_xor x y) z ≡ differ x (bit_xor y z)
digits x y z hx hy hz =
    below_two (λ x. differ (bit_xor x y) z ≡ differ x (bit_xor y z))
    (below_two (λ y. differ (bit_xor 0 y) z ≡ differ 0 (bit_xor y z)) (below_two (λ z. differ 0 z ≡ differ 0 (bit_xor 0 z)) refl refl z hz)
    (below_two (λ z. differ 1 z ≡ bit_xor 1 z) refl refl z hz) y hy)
    (below_two (λ y. differ (bit_xor 1 y) z ≡ differ 1 (bit_xor y z)) (below_two (λ z. differ 1 z ≡ differ 1 (bit_xor 0 z)) refl refl z hz)
    (below_two (λ z. differ 0 z ≡ differ 1 (bit_xor 1 z)) refl refl z hz) y hy)
    x hx

pub xor_assoc : (a b c : ℕ) → bit_xor (bit_xor a b) c ≡ bit_xor a (bit_xor b c)
xor_assoc =
    bin_ind (λ (a : ℕ). (b c : ℕ) → bit_xor (bit_xor a b) c ≡ bit_xor a (bit_xor b c))
    (λ b c. ap (λ (x : ℕ). bit_xor x c) (xor_zero_l b) ∙ sym (xor_zero_l (bit_xor b c)))
    (λ a ih b c.
    xor_step (bit_xor a b) c
    ∙ ap₂ (λ (x y : ℕ). x * 2 + y)
    (ap (λ (x : ℕ). bit_xor x (c / 2)) (xor_shr a b 1) ∙ ih (b / 2) (c / 2) ∙ ap (bit_xor (a / 2)) (sym (xor_shr b c 1)))
    (ap (λ (x : ℕ). differ x (c % 2)) (xor_mod a b 1) ∙ digits (a % 2) (b % 2) (c % 2) (mod-lt a (omega arith)) (mod-lt b (omega arith)) (mod-lt c (omega arith)) ∙ ap (differ (a % 2)) (sym (xor_mod b c 1)))
    ∙ sym (xor_step a (bit_xor b c)))
