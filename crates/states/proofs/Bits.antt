-- Laws of one bit of a word.
use Prim.Native.Nat.{ℕ, zero, suc, ◌+◌, ◌*◌, ◌^◌, ◌-◌, ◌/◌, ◌%◌, ◌≤◌, ◌<◌}
use mathlib.Core.Path.{◌≡◌, refl, ap, ap₂, sym, ◌∙◌}
use mathlib.Core.Bool.{true, false, ◌||◌}
use mathlib.Core.Logic.{⊎_elim}
use native.Mathlib.Omega.{arith}
use native.Mathlib.Nat.{div-eq_of_lt, mod-lt, one-mul, pow-suc, eq-or-lt_of_le, div-eq_of_lt-le, lt_of_lt_of_le, le_of_eq, le_of_lt, mod-eq_of_lt, mul_assoc}
use native.Mathlib.Numerals.{add-one}
use lib.Dec.{eqb}
use lib.Pow.{shr-shr, field, mod-mod-pow, pow_pos, pow-add, pow-lt, shl-shr}
use lib.Bits.{bit_or, or_shr, or_mod}
use Rattle.lists.proofs.Bools.{below?}
use Rattle.states.specs.Records.{bit}

-- below bit k, the part of a number below 2 ^ k has the number's bits
pub bit_mod : (n k r : ℕ) → r < k → bit (n % 2 ^ k) r ≡ bit n r
unfolding bit
bit_mod n k r h =
    let e : n % 2 ^ k ≡ n % 2 ^ ((k - r - 1 + 1) + r) = ap (λ (x : ℕ). n % 2 ^ x) (omega arith) in
    ap (λ (x : ℕ). eqb x 1)
    (ap (λ (x : ℕ). x / 2 ^ r % 2) e ∙ ap (λ (x : ℕ). x % 2) (field n (k - r - 1 + 1) r) ∙ mod-mod-pow (n / 2 ^ r) (k - r - 1) 1)

pub bit_double : (n c r : ℕ) → c < 2 → bit (n * 2 + c) (r + 1) ≡ bit n r
unfolding bit
bit_double n c r h =
    ap (λ (x : ℕ). eqb (x % 2) 1)
    (ap (λ (x : ℕ). (n * 2 + c) / 2 ^ x) (omega arith) ∙ sym (shr-shr (n * 2 + c) 1 r) ∙ ap (λ (x : ℕ). x / 2 ^ r) (omega arith))

-- the word x a place up, with c below
pub bit_up : (x c r : ℕ) → c < 2 → r < 63 → bit (x % 2 ^ 63 * 2 + c) (r + 1) ≡ bit x r
bit_up x c r h k = bit_double (x % 2 ^ 63) c r h ∙ bit_mod x 63 r k

pub bit_up_first : (x y : ℕ) → y < 2 ^ 64 → bit (x % 2 ^ 63 * 2 + y / 2 ^ 63) 0 ≡ bit y 63
unfolding bit
bit_up_first x y h =
    let e : (x % 2 ^ 63 * 2 + y / 2 ^ 63) / 2 ^ 0 % 2 ≡ y / 2 ^ 63 % 2 = omega arith in
    ap (λ (n : ℕ). eqb n 1) e

pub bit_zero : (r : ℕ) → bit 0 r ≡ false
unfolding bit
bit_zero r = ap (λ (n : ℕ). eqb (n % 2) 1) (div-eq_of_lt (pow_pos r))

or_digit : (a b : ℕ) → a < 2 → b < 2 → eqb (bit_or a b) 1 ≡ (eqb a 1 || eqb b 1)
or_digit zero zero p q = refl
or_digit zero (suc zero) p q = refl
or_digit zero (suc (suc b)) p q = absurd (omega arith)
or_digit (suc zero) zero p q = refl
or_digit (suc zero) (suc zero) p q = refl
or_digit (suc zero) (suc (suc b)) p q = absurd (omega arith)
or_digit (suc (suc a)) b p q = absurd (omega arith)

pub bit_or_lem : (a b r : ℕ) → bit (bit_or a b) r ≡ (bit a r || bit b r)
unfolding bit
bit_or_lem a b r =
    ap (λ (x : ℕ). eqb (x % 2) 1) (or_shr a b r)
    ∙ ap (λ (x : ℕ). eqb x 1) (or_mod (a / 2 ^ r) (b / 2 ^ r) 1)
    ∙ or_digit (a / 2 ^ r % 2) (b / 2 ^ r % 2) (omega arith) (omega arith)

-- 2 ^ k has bit k alone
pub bit_pow_same : (k : ℕ) → bit (2 ^ k) k ≡ true
unfolding bit
bit_pow_same k = ap (λ (x : ℕ). eqb (x % 2) 1) (ap (λ (x : ℕ). x / 2 ^ k) (sym (one-mul (2 ^ k))) ∙ shl-shr 1 k)

pub bit_pow_above : (k r : ℕ) → k < r → bit (2 ^ k) r ≡ false
unfolding bit
bit_pow_above k r h = ap (λ (x : ℕ). eqb (x % 2) 1) (div-eq_of_lt (pow-lt h))

pub bit_pow_below : (k r : ℕ) → r < k → bit (2 ^ k) r ≡ false
unfolding bit
bit_pow_below k r h =
    let d : ℕ = k - r - 1 in
    let e : k ≡ suc d + r = omega arith in
    let q : 2 ^ k / 2 ^ r ≡ 2 ^ d * 2 = ap (λ (x : ℕ). x / 2 ^ r) (ap (λ (x : ℕ). 2 ^ x) e ∙ pow-add 2 (suc d) r) ∙ shl-shr (2 ^ suc d) r ∙ pow-suc 2 d in
    let z : 2 ^ k / 2 ^ r % 2 ≡ 0 = omega arith in
    ap (λ (x : ℕ). eqb x 1) z

pub bit_pow_other : (k r : ℕ) → (r ≡ k → ⊥) → bit (2 ^ k) r ≡ false
bit_pow_other k r n =
    ⊎_elim (bit_pow_below k r) (λ h. bit_pow_above k r (⊎_elim (λ e. absurd (n (sym e))) (λ g. g) (eq-or-lt_of_le h))) (below? r k)

-- from bit k on, the part of a number below 2 ^ k has no bit
pub bit_mod_above : (n k r : ℕ) → k ≤ r → bit (n % 2 ^ k) r ≡ false
unfolding bit
bit_mod_above n k r h =
    let l : n % 2 ^ k < 2 ^ r = lt_of_lt_of_le (mod-lt n (pow_pos k)) (⊎_elim (λ e. le_of_eq (ap (λ (x : ℕ). 2 ^ x) e)) (λ l. le_of_lt (pow-lt l)) (eq-or-lt_of_le h)) in
    ap (λ (x : ℕ). eqb (x % 2) 1) (div-eq_of_lt l)

-- a shift of 1 within a word
pub one_shifted : (k : ℕ) → k < 64 → 1 * 2 ^ k % 2 ^ 64 ≡ 2 ^ k
one_shifted k h = ap (λ (x : ℕ). x % 2 ^ 64) (one-mul (2 ^ k)) ∙ mod-eq_of_lt (pow-lt {j = 64} h)

-- a shift down, and a shift up within and below its places
pub bit_shr : (x a r : ℕ) → bit (x / 2 ^ a) r ≡ bit x (a + r)
unfolding bit
bit_shr x a r = ap (λ (n : ℕ). eqb (n % 2) 1) (shr-shr x a r)

pub bit_shl : (x k r : ℕ) → k ≤ r → bit (x * 2 ^ k) r ≡ bit x (r - k)
bit_shl x k r h =
    let e : r ≡ k + (r - k) = omega arith in
    ap (bit (x * 2 ^ k)) e ∙ sym (bit_shr (x * 2 ^ k) k (r - k)) ∙ ap (λ (n : ℕ). bit n (r - k)) (shl-shr x k)

pub bit_shl_below : (x k r : ℕ) → r < k → bit (x * 2 ^ k) r ≡ false
unfolding bit
bit_shl_below x k r h =
    let d : ℕ = k - r - 1 in
    let e : k ≡ suc d + r = omega arith in
    let q : x * 2 ^ k / 2 ^ r ≡ x * 2 ^ d * 2 =
    ap (λ (n : ℕ). n / 2 ^ r) (ap (λ (n : ℕ). x * 2 ^ n) e ∙ ap (λ (n : ℕ). x * n) (pow-add 2 (suc d) r) ∙ sym (mul_assoc x (2 ^ suc d) (2 ^ r)))
    ∙ shl-shr (x * 2 ^ suc d) r
    ∙ ap (λ (n : ℕ). x * n) (pow-suc 2 d)
    ∙ sym (mul_assoc x (2 ^ d) 2) in
    let z : x * 2 ^ k / 2 ^ r % 2 ≡ 0 = omega arith in
    ap (λ (n : ℕ). eqb n 1) z

-- a word has no bit from 64 on
pub bit_past : (x r : ℕ) → x < 2 ^ 64 → 64 ≤ r → bit x r ≡ false
bit_past x r h l = ap (λ (n : ℕ). bit n r) (sym (mod-eq_of_lt h)) ∙ bit_mod_above x 64 r l

-- 2 ^ k − 1 has every bit below k
pub bit_ones : (k r : ℕ) → r < k → bit (2 ^ k - 1) r ≡ true
unfolding bit
bit_ones zero r h = absurd (omega arith)
bit_ones (suc k) zero h =
    let e : (2 ^ suc k - 1) / 2 ^ 0 % 2 ≡ 1 = omega (arith, pow-suc 2 k, pow_pos k) in ap (λ (n : ℕ). eqb n 1) e
bit_ones (suc k) (suc r) h =
    let e : 2 ^ suc k - 1 ≡ (2 ^ k - 1) * 2 + 1 = omega (arith, pow-suc 2 k, pow_pos k) in
    ap₂ bit e (sym (add-one r)) ∙ bit_double (2 ^ k - 1) 1 r (omega arith) ∙ bit_ones k r (omega arith)

bit_top : (k w : ℕ) → 2 ^ k ≤ w → w < 2 ^ suc k → bit w k ≡ true
unfolding bit
bit_top k w l h =
    let e : 2 ^ suc k ≡ 2 ^ k * 2 = pow-suc 2 k in
    ap (λ (x : ℕ). eqb (x % 2) 1) (div-eq_of_lt-le {k = 1} (2 ^ k) (omega arith) (omega arith))

-- a number that is not 0 has a bit
pub bit_some : (k w : ℕ) → 0 < w → w < 2 ^ k → (r : ℕ) × ((r < k) × (bit w r ≡ true))
bit_some zero w p h = absurd (omega arith)
bit_some (suc k) w p h =
    ⊎_elim
    (λ l. let q : (r : ℕ) × ((r < k) × (bit w r ≡ true)) = bit_some k w p l in (q.0, (omega arith, q.1.1)))
    (λ l. (k, (omega arith, bit_top k w l h)))
    (below? w (2 ^ k))
