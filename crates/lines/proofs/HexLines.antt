-- A report turned into hex digits.
use Prim.Native.Nat.{ℕ, zero, suc, ◌+◌, ◌*◌, ◌/◌, ◌%◌, ◌<◌}
use mathlib.Core.Path.{◌≡◌, refl, ap, ◌∙◌}
use mathlib.Core.Bool.{Bool, true, ◌&&◌}
use mathlib.Core.List.{List, [], ◌∷◌, ◌++◌}
use native.Mathlib.Omega.{arith}
use lib.Dec.{eqb}
use Rattle.std.proofs.Common.{inl, inr}
use Rattle.std.proofs.lemmas.Bool.{and_parts, cases_lt, eqb-true}
use lib.ListN.{length, get_or, length-append}
use Rattle.io.specs.Digits.{hex_digit_ascii}
use Rattle.hex.specs.Hex.{lower_digits, encode_with, encode_lower}
use Rattle.lines.specs.Lines.{hex_digits, hex_line}

-- The first n digits of the library's table are those of the definition.
abbrev agrees : ℕ → Bool
agrees d = eqb (get_or lower_digits d 0) (hex_digit_ascii d)

abbrev all_agree : ℕ → Bool
all_agree zero = true
all_agree (suc n) = agrees n && all_agree n

agrees_below : (n d : ℕ) → all_agree n ≡ true → d < n → get_or lower_digits d 0 ≡ hex_digit_ascii d
agrees_below zero d h lt = absurd (omega arith)
agrees_below (suc n) d h lt =
    let parts = and_parts (agrees n) (all_agree n) h in
    elim (cases_lt d n) [
      | inl below ↦ agrees_below n d parts.1 below
      | inr top ↦
          let e : d ≡ n = omega arith in
          rw e (eqb-true (get_or lower_digits n 0) (hex_digit_ascii n) parts.0)
    ]

digit : (d : ℕ) → d < 16 → get_or lower_digits d 0 ≡ hex_digit_ascii d
digit d h = agrees_below 16 d refl h

encoded : (xs : List ℕ) → ((i : ℕ) → get_or xs i 0 < 256) → encode_lower xs ≡ hex_digits xs
unfolding encode_with hex_digits
encoded [] fits = refl
encoded (x ∷ xs) fits =
    let first : x < 256 = fits 0 in
    let small : x / 16 ≡ x / 16 % 16 = omega arith in
    let high : get_or lower_digits (x / 16) 0 ≡ hex_digit_ascii (x / 16 % 16) = digit (x / 16) (omega arith) ∙ ap hex_digit_ascii small in
    let low : get_or lower_digits (x % 16) 0 ≡ hex_digit_ascii (x % 16) = digit (x % 16) (omega arith) in
    rw (high, low) (ap (λ (z : List ℕ). hex_digit_ascii (x / 16 % 16) ∷ hex_digit_ascii (x % 16) ∷ z) (encoded xs (λ i. fits (suc i))))

-- The library's digits of a report, and the end of the line.
pub line_encoded : (report text : List ℕ) → ((i : ℕ) → get_or report i 0 < 256) → text ≡ encode_lower report → text ++ (10 ∷ []) ≡ hex_line report
line_encoded report text fits e = ap (λ (z : List ℕ). z ++ (10 ∷ [])) (e ∙ encoded report fits)

hex_length : (xs : List ℕ) → length (hex_digits xs) ≡ 2 * length xs
unfolding hex_digits
hex_length [] = refl
hex_length (x ∷ xs) = omega (arith, hex_length xs)

-- A line has two digits for each byte, and its end.
pub hex_line_length : (xs : List ℕ) → length (hex_line xs) ≡ 2 * length xs + 1
hex_line_length xs = length-append (hex_digits xs) (10 ∷ []) ∙ ap (λ (n : ℕ). n + 1) (hex_length xs)
