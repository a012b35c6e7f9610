-- The fewest digits of a number are its decimal.
use Prim.Native.Nat.{ℕ, zero, suc, ◌+◌, ◌-◌, ◌/◌, ◌%◌, ◌^◌, ◌≤◌, ◌<◌}
use mathlib.Core.Path.{◌≡◌, refl, ap, sym, subst, ◌∙◌}
use mathlib.Core.Bool.{Bool, true, false, cond}
use mathlib.Core.List.{List, [], ◌∷◌, ◌++◌}
use native.Mathlib.Omega.{arith}
use native.Mathlib.Nat.{pow-suc}
use native.Mathlib.Numerals.{add-one}
use lib.Dec.{ltb}
use lib.ListN.{length, length-append}
use borrow.Author.Tests.{lt-ltb, le-ltb}
use Rattle.io.specs.Digits.{hex_digit_ascii, last_digits, IsDigitCount}
use Rattle.bytes_le.specs.Writing.{put_at}
use Rattle.lines.specs.Lines.{decimal_up_to, decimal}
use Rattle.bytes_le.proofs.Copying.{put_then}

power_positive : (k : ℕ) → 1 ≤ 10 ^ k
power_positive zero = omega arith
power_positive (suc k) = omega (arith, pow-suc 10 k, power_positive k)

pub decimal_is : (k n r : ℕ) → n < 10 ^ suc k → IsDigitCount 10 1 n r → last_digits 10 r n ≡ decimal_up_to k n
unfolding decimal_up_to
decimal_is k n zero b f = absurd (omega (arith, f.0))
decimal_is zero n (suc zero) b f = refl
decimal_is zero n (suc (suc r)) b f =
    let e : suc (suc r) - 1 ≡ suc r = omega arith in
    let low : 10 ^ suc r ≤ n = subst (λ (z : ℕ). 10 ^ z ≤ n) e (f.2 (omega arith)) in
    absurd (omega (arith, b, low, pow-suc 10 0, pow-suc 10 r, power_positive r))
decimal_is (suc k) n (suc zero) b f = rw (lt-ltb n 10 (omega (arith, f.1, pow-suc 10 0))) refl
decimal_is (suc k) n (suc (suc r)) b f =
    let e : suc (suc r) - 1 ≡ suc r = omega arith in
    let low : 10 ^ suc r ≤ n = subst (λ (z : ℕ). 10 ^ z ≤ n) e (f.2 (omega arith)) in
    let big : 10 ≤ n = omega (arith, low, pow-suc 10 r, power_positive r) in
    let fewer : IsDigitCount 10 1 (n / 10) (suc r) =
    (omega arith, omega (arith, f.1, pow-suc 10 (suc r)), λ h. let d : suc r - 1 ≡ r = omega arith in subst (λ (z : ℕ). 10 ^ z ≤ n / 10) (sym d) (omega (arith, low, pow-suc 10 r))) in
    rw (le-ltb n 10 big) (ap (λ (z : List ℕ). z ++ (hex_digit_ascii (n % 10) ∷ [])) (decimal_is k (n / 10) (suc r) (omega (arith, b, pow-suc 10 (suc k))) fewer))

one_more : (k n : ℕ) (b : Bool) (l : List ℕ) → length l ≤ suc k
    → length (cond b (hex_digit_ascii (n % 10) ∷ []) (l ++ (hex_digit_ascii (n % 10) ∷ []))) ≤ suc (suc k)
one_more k n true l h = omega arith
one_more k n false l h = omega (arith, length-append l (hex_digit_ascii (n % 10) ∷ []))

-- A decimal has at most k + 1 digits.
pub decimal_short : (k n : ℕ) → length (decimal_up_to k n) ≤ suc k
unfolding decimal_up_to
decimal_short zero n = omega arith
decimal_short (suc k) n = one_more k n (ltb n 10) (decimal_up_to k (n / 10)) (decimal_short k (n / 10))

-- As many digits as were asked for.
digits_length : (b k n : ℕ) → length (last_digits b k n) ≡ k
digits_length b zero n = refl
digits_length b (suc k) n =
    length-append (last_digits b k (n / b)) (hex_digit_ascii (n % b) ∷ []) ∙ ap (λ (z : ℕ). z + 1) (digits_length b k (n / b)) ∙ add-one k

digits_decimal : (n k : ℕ) → n < 2 ^ 64 → IsDigitCount 10 1 n k → last_digits 10 k n ≡ decimal n
digits_decimal n k b f =
    let p : 10 ^ 20 ≡ 100000000000000000000 = refl in
    let q : 2 ^ 64 ≡ 18446744073709551616 = refl in
    decimal_is 19 n k (omega (arith, b, p, q)) f

digits_count : (n k : ℕ) → n < 2 ^ 64 → IsDigitCount 10 1 n k → length (decimal n) ≡ k
digits_count n k b f = ap length (sym (digits_decimal n k b f)) ∙ digits_length 10 k n

-- A number of 64 bits has at most twenty digits.
pub digits_few : (n k : ℕ) → n < 2 ^ 64 → IsDigitCount 10 1 n k → k ≤ 20
digits_few n k b f = omega (arith, digits_count n k b f, decimal_short 19 n)

-- A word put into 64 bytes, and a number behind it.
pub number_put : (s : List ℕ) (at : ℕ) (word : List ℕ) (n k : ℕ) {text t u : List ℕ} → 64 ≡ length s → at + length word ≤ 40 → n < 2 ^ 64
    → IsDigitCount 10 1 n k → text ≡ last_digits 10 k n → t ≡ put_at s at word → u ≡ put_at t (at + length word) text
    → (at + length word + k ≡ at + length (word ++ decimal n)) × (u ≡ put_at s at (word ++ decimal n))
number_put s at word n k {text} {t} {u} l h b f e first second = (
  omega (arith, digits_count n k b f, length-append word (decimal n)),
  second
      ∙ ap (λ (z : List ℕ). put_at t (at + length word) z) (e ∙ digits_decimal n k b f)
      ∙ ap (λ (z : List ℕ). put_at z (at + length word) (decimal n)) first
      ∙ put_then s at word (decimal n) (omega (arith, l, decimal_short 19 n)),
)
