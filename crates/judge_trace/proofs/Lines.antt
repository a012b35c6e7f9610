-- Lines put at the start of 8,192 bytes.
use Prim.Native.Nat.{ℕ, ◌+◌, ◌%◌, ◌≤◌}
use mathlib.Core.Path.{◌≡◌, refl, ap, sym, ◌∙◌}
use mathlib.Core.List.{List, [], ◌∷◌, ◌++◌}
use native.Mathlib.Omega.{arith}
use lib.ListN.{length, length-append, length-map}
use lib.Seq.{length-take-le}
use borrow.Author.Tests.{le-leb}
use Rattle.io.specs.Counts.{IsPrefixLen}
use Rattle.io.specs.Digits.{hex_digit_ascii}
use Rattle.bytes_le.specs.Writing.{put_at}
use Rattle.lines.specs.Lines.{refusal_line, accepted_line, accepted_lines, hex_line, verdict_digits, put_length}
use Rattle.bytes_le.proofs.Copying.{put_then, put_long}
use Rattle.lines.proofs.HexLines.{hex_line_length}
use Rattle.lines.proofs.Refusals.{refusal_short}

-- A text stands at the start of what was out, and is r bytes long.
abbrev pub Stands : List ℕ → List ℕ → ℕ → List ℕ → Type 0
Stands out t r text = (r ≡ length text) × ((t ≡ put_at out 0 text) × IsPrefixLen r t)

-- The same text, written otherwise.
pub stands_as : (out : List ℕ) {t : List ℕ} {r : ℕ} (text text' : List ℕ) → text ≡ text' → Stands out t r text → Stands out t r text'
stands_as out text text' e (l, (put, counts)) = (l ∙ ap length e, (put ∙ ap (put_at out 0) e, counts))

-- The line of a refusal fits.
pub refusal_stands : (out : List ℕ) {t : List ℕ} {r : ℕ} (number place : ℕ) → 8192 ≡ length out
    → (r ≡ put_length out (refusal_line number place)) × ((t ≡ put_at out 0 (refusal_line number place)) × IsPrefixLen r t)
    → Stands out t r (refusal_line number place)
refusal_stands out number place l (e, rest) =
    let line : List ℕ = refusal_line number place in
    (e ∙ rw (le-leb (length line) (length out) (omega (arith, refusal_short number place))) refl, rest)

-- The three lines, put one after the other.
pub accepted_stands : (out report verdicts : List ℕ) {digits t u v w : List ℕ} → 8192 ≡ length out → length report ≡ 187 → length verdicts ≤ 7000
    → digits ≡ verdict_digits verdicts → t ≡ put_at out 0 accepted_line → u ≡ put_at t 9 (hex_line report) → v ≡ put_at u 384 digits
    → w ≡ put_at v (384 + length digits) (10 ∷ []) → Stands out w (385 + length digits) (accepted_lines report verdicts)
accepted_stands out report verdicts {digits} {t} {u} {v} {w} l n few d first second third fourth =
    let xs : List ℕ = accepted_line in
    let ys : List ℕ = hex_line report in
    let zs : List ℕ = verdict_digits verdicts in
    let e : length ys ≡ 375 = hex_line_length report ∙ omega (arith, n) in
    let two : length (xs ++ ys) ≡ 384 = length-append xs ys ∙ omega (arith, e) in
    let long : length zs ≡ length verdicts = length-map verdicts (λ (v : ℕ). hex_digit_ascii (v % 10)) in
    let same : length digits ≡ length zs = ap length d in
    let three : length (xs ++ ys ++ zs) ≡ 384 + length digits = length-append (xs ++ ys) zs ∙ omega (arith, two, same) in
    let four : length (accepted_lines report verdicts) ≡ 385 + length digits = length-append (xs ++ ys ++ zs) (10 ∷ []) ∙ omega (arith, three) in
    let a : u ≡ put_at out 0 (xs ++ ys) = second ∙ ap (λ (s : List ℕ). put_at s 9 ys) first ∙ put_then out 0 xs ys (omega (arith, l, e)) in
    let b : v ≡ put_at out 0 (xs ++ ys ++ zs) =
    third
    ∙ ap (λ (s : List ℕ). put_at u 384 s) d
    ∙ ap (λ (s : List ℕ). put_at s 384 zs) a
    ∙ ap (λ (at : ℕ). put_at (put_at out 0 (xs ++ ys)) at zs) (omega (arith, two))
    ∙ put_then out 0 (xs ++ ys) zs (omega (arith, l, two, long)) in
    let whole : w ≡ put_at out 0 (accepted_lines report verdicts) =
    fourth
    ∙ ap (λ (s : List ℕ). put_at s (384 + length digits) (10 ∷ [])) b
    ∙ ap (λ (at : ℕ). put_at (put_at out 0 (xs ++ ys ++ zs)) at (10 ∷ [])) (omega (arith, three))
    ∙ put_then out 0 (xs ++ ys ++ zs) (10 ∷ []) (omega (arith, l, three, same, long)) in
    let k : length w ≡ length out = ap length whole ∙ put_long out 0 (accepted_lines report verdicts) in
    let fits : 385 + length digits ≤ length w = omega (arith, k, l, same, long) in
    (sym four, (whole, (fits, sym (length-take-le (385 + length digits) w fits))))
