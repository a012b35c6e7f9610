-- The net charge lies between its bounds under every filling, and reaches both.
use Prim.Native.Nat.{ℕ, zero, suc, ◌*◌, ◌≤◌}
use native.Mathlib.Omega.{arith}
use native.Mathlib.Nat.{mul-add}
use mathlib.Core.Path.{◌≡◌, refl, sym, ap, ap₂, ◌∙◌, subst}
use lib.IntN.{ℤ, pos, negsuc, ◌+ℤ◌, ◌-ℤ◌, +ℤ_idl, +ℤ_idr}
use lib.Signed.{le_z}
use lib.Dec.{T, le→leb, lit<}
use Rattle.rules.specs.Samples.{Sample, I16}
use Rattle.fillings.specs.Fillings.{Shown, seen, unseen, Filling, filled}
use Rattle.fillings.specs.Charge.{inward, outward, of_seen, of_unseen, total, charge_in, charge_out, unseen_ticks, net_charge, least_charge, greatest_charge}
use Rattle.fillings.specs.promises.Demand3.{ChargeBounded}
use Rattle.fillings.proofs.Integers.{le_self, add_swap, sub_swap, add_le}
use Rattle.fillings.proofs.Witness.{drawing, drawing_carried}

-- A current is at most 32,768 either way, and at most every tick is unseen.
pub in_most : (z : ℤ) → I16 z → inward z ≤ 32768
in_most (pos k) h = omega arith
in_most (negsuc k) h = omega arith

pub out_most : (z : ℤ) → I16 z → outward z ≤ 32768
out_most (pos k) h = omega arith
out_most (negsuc k) h = omega arith

unseen_one : (w : Shown) → of_unseen w ≤ 1
unseen_one (seen x) = omega arith
unseen_one unseen = omega arith

pub unseen_most : (trace : ℕ → Shown) (k : ℕ) → unseen_ticks trace k ≤ k
unfolding total
unseen_most trace zero = omega arith
unseen_most trace (suc k) = omega (arith, unseen_most trace k, unseen_one (trace k))

-- what a tick is sure to charge, and the least and the greatest that it may
abbrev sure : Shown → ℤ
sure w = pos (of_seen (λ x. inward x.current) w) -ℤ pos (of_seen (λ x. outward x.current) w)

abbrev least_of : Shown → ℤ
least_of w = sure w -ℤ pos (32768 * of_unseen w)

abbrev greatest_of : Shown → ℤ
greatest_of w = sure w +ℤ pos (32767 * of_unseen w)

both_ways : (c : ℤ) → pos (inward c) -ℤ pos (outward c) ≡ c
both_ways (pos k) = +ℤ_idr (pos k)
both_ways (negsuc k) = +ℤ_idl (negsuc k)

least_seen : (x : Sample) → least_of (seen x) ≡ x.current
least_seen x = +ℤ_idr (sure (seen x)) ∙ both_ways x.current

greatest_seen : (x : Sample) → greatest_of (seen x) ≡ x.current
greatest_seen x = +ℤ_idr (sure (seen x)) ∙ both_ways x.current

from_least : (z : ℤ) → I16 z → T (le_z (negsuc 32767) z)
from_least (pos k) h = tt
from_least (negsuc k) h = le→leb k 32767 (omega arith)

to_greatest : (z : ℤ) → I16 z → T (le_z z (pos 32767))
to_greatest (pos k) h = le→leb k 32767 (omega arith)
to_greatest (negsuc k) h = tt

tick_above : (w : Shown) (y : Sample) → (w ≡ unseen → I16 y.current) → T (le_z (least_of w) (filled w y).current)
tick_above (seen x) y h = rw (least_seen x) (le_self x.current)
tick_above unseen y h = from_least y.current (h refl)

tick_below : (w : Shown) (y : Sample) → (w ≡ unseen → I16 y.current) → T (le_z (filled w y).current (greatest_of w))
tick_below (seen x) y h = rw (greatest_seen x) (le_self x.current)
tick_below unseen y h = to_greatest y.current (h refl)

tick_least : (n : ℕ) (w : Shown) → (filled w (drawing n (negsuc 32767))).current ≡ least_of w
tick_least n (seen x) = sym (least_seen x)
tick_least n unseen = refl

tick_greatest : (n : ℕ) (w : Shown) → (filled w (drawing n (pos 32767))).current ≡ greatest_of w
tick_greatest n (seen x) = sym (greatest_seen x)
tick_greatest n unseen = refl

module _ (trace : ℕ → Shown) where
  sure_next : (k : ℕ) → pos (charge_in trace (suc k)) -ℤ pos (charge_out trace (suc k)) ≡ (pos (charge_in trace k) -ℤ pos (charge_out trace k)) +ℤ sure (trace k)
  unfolding total
  sure_next k =
      sub_swap (pos (charge_in trace k)) (pos (of_seen (λ x. inward x.current) (trace k)))
      (pos (charge_out trace k)) (pos (of_seen (λ x. outward x.current) (trace k)))

  unseen_next : (c k : ℕ) → pos (c * unseen_ticks trace (suc k)) ≡ pos (c * unseen_ticks trace k) +ℤ pos (c * of_unseen (trace k))
  unfolding total
  unseen_next c k = ap pos (mul-add c (unseen_ticks trace k) (of_unseen (trace k)))

  least_next : (k : ℕ) → least_charge trace (suc k) ≡ least_charge trace k +ℤ least_of (trace k)
  least_next k =
      ap₂ (λ x y. x -ℤ y) (sure_next k) (unseen_next 32768 k)
      ∙ sub_swap (pos (charge_in trace k) -ℤ pos (charge_out trace k)) (sure (trace k)) (pos (32768 * unseen_ticks trace k)) (pos (32768 * of_unseen (trace k)))

  greatest_next : (k : ℕ) → greatest_charge trace (suc k) ≡ greatest_charge trace k +ℤ greatest_of (trace k)
  greatest_next k =
      ap₂ (λ x y. x +ℤ y) (sure_next k) (unseen_next 32767 k)
      ∙ add_swap (pos (charge_in trace k) -ℤ pos (charge_out trace k)) (sure (trace k)) (pos (32767 * unseen_ticks trace k)) (pos (32767 * of_unseen (trace k)))

  above : (n : ℕ) (f : ℕ → Sample) → Filling n trace f → (k : ℕ) → T (le_z (least_charge trace k) (net_charge trace f k))
  unfolding net_charge total
  above n f fills zero = tt
  above n f fills (suc k) =
      subst (λ z. T (le_z z (net_charge trace f k +ℤ (filled (trace k) (f k)).current))) (sym (least_next k))
      (add_le (least_charge trace k) (net_charge trace f k) (least_of (trace k)) (filled (trace k) (f k)).current (above n f fills k)
      (tick_above (trace k) (f k) (λ e. (fills k e).current)))

  below : (n : ℕ) (f : ℕ → Sample) → Filling n trace f → (k : ℕ) → T (le_z (net_charge trace f k) (greatest_charge trace k))
  unfolding net_charge total
  below n f fills zero = tt
  below n f fills (suc k) =
      subst (λ z. T (le_z (net_charge trace f k +ℤ (filled (trace k) (f k)).current) z)) (sym (greatest_next k))
      (add_le (net_charge trace f k) (greatest_charge trace k) (filled (trace k) (f k)).current (greatest_of (trace k)) (below n f fills k)
      (tick_below (trace k) (f k) (λ e. (fills k e).current)))

  net_least : (n k : ℕ) → net_charge trace (λ t. drawing n (negsuc 32767)) k ≡ least_charge trace k
  unfolding net_charge total
  net_least n zero = refl
  net_least n (suc k) = ap₂ (λ x y. x +ℤ y) (net_least n k) (tick_least n (trace k)) ∙ sym (least_next k)

  net_greatest : (n k : ℕ) → net_charge trace (λ t. drawing n (pos 32767)) k ≡ greatest_charge trace k
  unfolding net_charge total
  net_greatest n zero = refl
  net_greatest n (suc k) = ap₂ (λ x y. x +ℤ y) (net_greatest n k) (tick_greatest n (trace k)) ∙ sym (greatest_next k)

pub charge_bounded : (n : ℕ) (trace : ℕ → Shown) (k : ℕ) → ChargeBounded n trace k
charge_bounded n trace k =
    record {
      above = λ f fills. above trace n f fills k;
      below = λ f fills. below trace n f fills k;
      reached_least = ((λ t. drawing n (negsuc 32767)), (λ t u. drawing_carried n (negsuc 32767) (lit< tt)), net_least trace n k);
      reached_greatest = ((λ t. drawing n (pos 32767)), (λ t u. drawing_carried n (pos 32767) (lit< tt)), net_greatest trace n k);
    }
