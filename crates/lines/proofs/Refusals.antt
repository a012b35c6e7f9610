-- The line of a refusal, put together.
use Prim.Native.Nat.{ℕ, ◌+◌, ◌≤◌, ◌<◌}
use mathlib.Core.Path.{◌≡◌, refl, ap, ap₂, sym, ◌∙◌}
use mathlib.Core.List.{List, [], ◌∷◌, ◌++◌}
use native.Mathlib.Omega.{arith}
use lib.ListN.{length, take, length-append}
use lib.Seq.{length-take-le}
use borrow.Author.Tests.{le-leb, lt-leb}
use Rattle.io.specs.Counts.{IsPrefixLen}
use Rattle.bytes_le.specs.Writing.{put_at}
use Rattle.lines.specs.Lines.{decimal, refused_word, at_word, refusal_line, put_length}
use Rattle.lines.proofs.Decimals.{decimal_short}
use Rattle.bytes_le.proofs.Puts.{put_none}
use Rattle.bytes_le.proofs.Copying.{put_then, put_long, put_read}

-- What `put_number` leaves.
abbrev pub NumberPut : List ℕ → List ℕ → ℕ → List ℕ → ℕ → ℕ → Type 0
NumberPut s t at word n end = (end ≡ at + length (word ++ decimal n)) × (t ≡ put_at s at (word ++ decimal n))

-- A number takes at most twenty bytes, and the buffer stays as long.
pub number_short : (s : List ℕ) {t : List ℕ} (at : ℕ) (word : List ℕ) (n : ℕ) {end : ℕ} → NumberPut s t at word n end → 64 ≡ length s
    → (64 ≡ length t) × (end ≤ at + length word + 20)
number_short s at word n p l = (
  l ∙ sym (ap length p.1 ∙ put_long s at (word ++ decimal n)),
  omega (arith, p.0, length-append word (decimal n), decimal_short 19 n),
)

pub refusal_short : (number place : ℕ) → length (refusal_line number place) ≤ 53
refusal_short number place =
    omega (
      arith,
      decimal_short 19 number,
      decimal_short 19 place,
      length-append ((refused_word ++ decimal number) ++ (at_word ++ decimal place)) (10 ∷ []),
      length-append (refused_word ++ decimal number) (at_word ++ decimal place),
      length-append refused_word (decimal number),
      length-append at_word (decimal place),
    )

-- The whole line in 64 bytes.
pub refusal_put : (s : List ℕ) {t u v : List ℕ} (number place n p : ℕ) {a b : ℕ} → 64 ≡ length s → n ≡ number → p ≡ place
    → NumberPut s t 0 refused_word n a → NumberPut t u a at_word p b → v ≡ put_at u b (10 ∷ [])
    → (b + 1 ≡ length (refusal_line number place)) × (v ≡ put_at s 0 (refusal_line number place))
refusal_put s {t} {u} {v} number place n p {a} {b} l e f first second third =
    let xs : List ℕ = refused_word ++ decimal n in
    let ys : List ℕ = at_word ++ decimal p in
    let same : refusal_line n p ≡ refusal_line number place = ap₂ refusal_line e f in
    let short = refusal_short n p in
    let whole = length-append (xs ++ ys) (10 ∷ []) in
    let two = length-append xs ys in
    let at : a ≡ 0 + length xs = first.0 in
    let end : b ≡ 0 + length (xs ++ ys) = omega (arith, at, second.0, two) in
    let both : u ≡ put_at s 0 (xs ++ ys) =
    second.1
    ∙ ap (λ (z : ℕ). put_at t z ys) at
    ∙ ap (λ (z : List ℕ). put_at z (0 + length xs) ys) first.1
    ∙ put_then s 0 xs ys (omega (arith, l, short, whole, two)) in (
      omega (arith, end, whole) ∙ ap length same,
      third
          ∙ ap (λ (z : ℕ). put_at u z (10 ∷ [])) end
          ∙ ap (λ (z : List ℕ). put_at z (0 + length (xs ++ ys)) (10 ∷ [])) both
          ∙ put_then s 0 (xs ++ ys) (10 ∷ []) (omega (arith, l, short, whole))
          ∙ ap (put_at s 0) same,
    )

-- The line is read back from the 64 bytes.
pub refusal_read : (s : List ℕ) {t : List ℕ} (number place : ℕ) {n : ℕ} → 64 ≡ length s
    → (n ≡ length (refusal_line number place)) × (t ≡ put_at s 0 (refusal_line number place)) → (n ≤ length t) × (take n t ≡ refusal_line number place)
refusal_read s {t} number place {n} l (e, put) =
    let line : List ℕ = refusal_line number place in
    let short : length line ≤ length s = omega (arith, l, refusal_short number place) in
    let long : length t ≡ length s = ap length put ∙ put_long s 0 line in
    (omega (arith, e), ap₂ take e put ∙ put_read s line short)

-- A line that does not fit is not put.
pub line_not : (s line : List ℕ) → length s < length line → (0 ≡ put_length s line) × ((s ≡ put_at s 0 line) × IsPrefixLen 0 s)
line_not s line h = (rw (lt-leb (length line) (length s) h) refl, (put_none s 0 line (omega arith), (omega arith, refl)))

-- A line that fits is put whole.
pub line_put : (s line : List ℕ) {t text : List ℕ} {n : ℕ} → n ≡ length line → n ≤ length s → text ≡ line → t ≡ put_at s 0 text
    → (n ≡ put_length s line) × ((t ≡ put_at s 0 line) × IsPrefixLen n t)
line_put s line {t} {text} {n} e h same put =
    let l : length t ≡ length s = ap length put ∙ put_long s 0 text in (
      e ∙ sym (rw (le-leb (length line) (length s) (omega arith)) refl),
      (put ∙ ap (put_at s 0) same, (omega arith, sym (length-take-le n t (omega arith)))),
    )
