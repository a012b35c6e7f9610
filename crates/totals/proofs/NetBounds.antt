-- The sums of a net charge and its bounds in 64 bits.
use Prim.Native.Nat.{ℕ, zero, suc, ◌+◌, ◌-◌, ◌*◌, ◌≤◌}
use mathlib.Core.Path.{◌≡◌, ap₂}
use mathlib.Core.Bool.{Bool, true, false, cond, ◌&&◌}
use native.Mathlib.Nat.{mul-le-mul}
use native.Mathlib.Omega.{arith}
use lib.Dec.{T, ltb, leb, leb→le}
use lib.IntN.{ℤ, pos, negsuc, neg_ℤ, sub_ℕ, ◌+ℤ◌, ◌-ℤ◌}
use lib.Signed.{mag}
use borrow.Author.Tests.{leb-true}
use mir.Syntax.{w64}
use mir.Val.{SFits, to_z, of_z}
use mir.ValLaws.{to_z-of_z, to_z_pos}
use Rattle.lists.proofs.Bools.{both_true}
use Rattle.totals.specs.Totals.{countable}

mag_subℕ : (a b : ℕ) → mag (sub_ℕ a b) ≤ a + b
mag_subℕ a b = go (ltb a b)
  where
    go : (t : Bool) → mag (cond t (negsuc (b - suc a)) (pos (a - b))) ≤ a + b
    go true = omega arith
    go false = omega arith

mag_add : (x y : ℤ) → mag (x +ℤ y) ≤ suc (mag x + mag y)
mag_add (pos a) (pos b) = omega arith
mag_add (pos a) (negsuc b) = omega (arith, mag_subℕ a (suc b))
mag_add (negsuc a) (pos b) = omega (arith, mag_subℕ b (suc a))
mag_add (negsuc a) (negsuc b) = omega arith

mag_neg : (n : ℕ) → mag (neg_ℤ (pos n)) ≤ n
mag_neg zero = omega arith
mag_neg (suc n) = omega arith

mag_sub : (x : ℤ) (n : ℕ) → mag (x -ℤ pos n) ≤ suc (mag x + n)
mag_sub x n = omega (arith, mag_add x (neg_ℤ (pos n)), mag_neg n)

-- A sum or difference z of i64 numbers whose value is y: it fits, and reads back as y.
pub record Exact (z y : ℤ) : Type 0 where
  pub fits : SFits w64 z
  pub reads : to_z w64 (of_z w64 z) ≡ y

exact : (z y : ℤ) → z ≡ y → SFits w64 y → Exact z y
exact z y e f = rw e (record { fits = f; reads = to_z-of_z w64 y f })

read_nat : (n : ℕ) → n ≤ 32768 * 4294967295 → to_z w64 n ≡ pos n
read_nat n h = to_z_pos w64 n (omega arith)

module _ {charge-in charge-out unseen : ℕ} (b : (charge-in ≤ 32768 * 4294967295) × (charge-out ≤ 32768 * 4294967295) × (unseen ≤ 4294967295)) where
  pub sure_exact : Exact (to_z w64 charge-in -ℤ to_z w64 charge-out) (pos charge-in -ℤ pos charge-out)
  sure_exact =
      exact _ _ (ap₂ (λ x y. x -ℤ y) (read_nat charge-in (omega (arith, b.0))) (read_nat charge-out (omega (arith, b.1))))
      (record { sfits = omega (arith, mag_sub (pos charge-in) charge-out, b.0, b.1) })

  -- k for each unseen tick
  module _ (k : ℕ) (h : T (leb k 32768)) where
    times_small : k * unseen ≤ 32768 * 4294967295
    times_small = mul-le-mul (leb→le k 32768 h) b.2

    pub less_exact : Exact (to_z w64 (of_z w64 (to_z w64 charge-in -ℤ to_z w64 charge-out)) -ℤ to_z w64 (k * unseen)) (pos charge-in -ℤ pos charge-out -ℤ pos (k * unseen))
    less_exact =
        exact _ _ (ap₂ (λ x y. x -ℤ y) sure_exact.reads (read_nat (k * unseen) times_small))
        (record { sfits = omega (arith, mag_sub (pos charge-in) charge-out, mag_sub (pos charge-in -ℤ pos charge-out) (k * unseen), times_small, b.0, b.1) })

    pub more_exact : Exact (to_z w64 (of_z w64 (to_z w64 charge-in -ℤ to_z w64 charge-out)) +ℤ to_z w64 (k * unseen)) (pos charge-in -ℤ pos charge-out +ℤ pos (k * unseen))
    more_exact =
        exact _ _ (ap₂ (λ x y. x +ℤ y) sure_exact.reads (read_nat (k * unseen) times_small))
        (record { sfits = omega (arith, mag_sub (pos charge-in) charge-out, mag_add (pos charge-in -ℤ pos charge-out) (pos (k * unseen)), times_small, b.0, b.1) })

-- What totals that a number of ticks can give are at most.
pub counted : (i o u ticks : ℕ) → countable i o u ticks ≡ true → (i ≤ 32768 * ticks) × (o ≤ 32768 * ticks) × (u ≤ ticks)
counted i o u ticks e =
    let (p, q) = both_true (leb i (32768 * ticks) && leb o (32768 * ticks)) (leb u ticks) e in
    let (a, b) = both_true (leb i (32768 * ticks)) (leb o (32768 * ticks)) p in
    (leb-true i (32768 * ticks) a, leb-true o (32768 * ticks) b, leb-true u ticks q)
