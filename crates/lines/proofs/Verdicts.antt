-- Verdicts turned into their digits, one after the other.
use Prim.Native.Nat.{ℕ, ◌+◌, ◌%◌, ◌≤◌, ◌<◌}
use mathlib.Core.Path.{◌≡◌, refl, ap, sym, ◌∙◌}
use mathlib.Core.List.{List}
use native.Mathlib.Omega.{arith}
use lib.ListN.{length, get_or, set, length-set, get_or-map, length-map}
use lib.Seq.{ext_get_or, get_or-set_same, get_or-set_other}
use borrow.Author.Count.{below_more}
use borrow.Author.Tests.{lt-ltb}
use Rattle.io.specs.Digits.{hex_digit_ascii}
use Rattle.lines.specs.Lines.{verdict_digits}

-- A digit below ten.
pub glyph_low : (d : ℕ) → d < 10 → 48 + d ≡ hex_digit_ascii d
glyph_low d h = rw (lt-ltb d 10 h) refl

-- The verdicts below i are digits, the others are as they were.
pub record Turning (v₀ v : List ℕ) (i : ℕ) : Type 0 where
  pub within : i ≤ length v₀
  pub long : length v ≡ length v₀
  pub done : (j : ℕ) → j < i → get_or v j 48 ≡ hex_digit_ascii (get_or v₀ j 0 % 10)
  pub rest : (j : ℕ) → i ≤ j → get_or v j 0 ≡ get_or v₀ j 0

pub turning_start : (v : List ℕ) → Turning v v 0
turning_start v = record { within = omega arith; long = refl; done = λ j h. absurd (omega arith); rest = λ j h. refl }

pub turning_next : {v₀ v : List ℕ} {i : ℕ} → Turning v₀ v i → i < length v → Turning v₀ (set v i (48 + get_or v i 0 % 10)) (i + 1)
turning_next {v₀} {v} {i} t h =
    let a : ℕ = 48 + get_or v i 0 % 10 in
    record {
      within = omega (arith, t.long);
      long = length-set v i a ∙ t.long;
      done = below_more _ i (λ j k. get_or-set_other v i j a 48 (λ z. omega arith) ∙ t.done j k)
          (get_or-set_same v i a 48 h ∙ glyph_low (get_or v i 0 % 10) (omega arith) ∙ ap (λ (z : ℕ). hex_digit_ascii (z % 10)) (t.rest i (omega arith)));
      rest = λ j k. get_or-set_other v i j a 0 (λ z. omega arith) ∙ t.rest j (omega arith);
    }

pub turning_end : {v₀ v : List ℕ} {i : ℕ} → Turning v₀ v i → length v ≤ i → v ≡ verdict_digits v₀
turning_end {v₀} {v} {i} t h =
    ext_get_or 48 v (verdict_digits v₀) (t.long ∙ sym (length-map v₀ (λ (d : ℕ). hex_digit_ascii (d % 10))))
    (λ j k. t.done j (omega arith) ∙ sym (get_or-map (λ (d : ℕ). hex_digit_ascii (d % 10)) v₀ j 0))
