-- The totals of an accepted trace fit their places in the report.
use Prim.Native.Nat.{ℕ, zero, suc, ◌+◌, ◌*◌, ◌≤◌, ◌<◌}
use mathlib.Core.Bool.{Bool, true, false, cond}
use mathlib.Core.List.{List, [], ◌∷◌}
use native.Mathlib.Omega.{arith}
use lib.IntN.{ℤ}
use lib.Dec.{eqb}
use lib.ListN.{length}
use Rattle.lists.specs.Lists.{Every}
use Rattle.bytes_le.specs.Numbers.{u16_at}
use Rattle.bytes_le.proofs.Signed.{signed_small}
use Rattle.rules.specs.Samples.{I16}
use Rattle.trace.specs.Records.{Stamped, stamped_at, samples_from, sample_width}
use Rattle.trace.proofs.SampleBytes.{every_spaced}
use Rattle.trace.proofs.TickBounds.{ticks_small}
use Rattle.fillings.specs.Fillings.{seen}
use Rattle.fillings.specs.Charge.{inward, outward, of_seen, total, charge_in, charge_out, unseen_ticks}
use Rattle.fillings.proofs.Charge.{in_most, out_most, unseen_most}
use Rattle.ticks.specs.Traces.{Trace, shown, shown_in, Accepted}

pub ticks_fit : (tr : Trace) → Accepted tr → tr.ticks ≤ 0xFFFFFFFF
ticks_fit tr ok = ticks_small (length tr.holes + length tr.samples) tr.holes tr.samples ok.holes ok.covered

-- A sum of k numbers that are at most b.
total_most : (g : ℕ → ℕ) (b k : ℕ) → ((t : ℕ) → g t ≤ b) → total g k ≤ b * k
unfolding total
total_most g b zero h = omega arith
total_most g b (suc k) h = let l = total_most g b k h in omega (arith, h k)

pub unseen_fit : (tr : Trace) → Accepted tr → unseen_ticks (shown tr) tr.ticks < 4294967296
unseen_fit tr ok =
    let l = ticks_fit tr ok in
    omega (arith, unseen_most (shown tr) tr.ticks)

-- The current of every sample is an i16.
abbrev pub Currents : List Stamped → Type 0
Currents xs = Every (λ x. I16 x.sample.current) xs

pub currents : (n : ℕ) (s : List ℕ) (k at : ℕ) → Currents (samples_from n s k at)
currents n s k at = every_spaced (λ x. I16 x.sample.current) (stamped_at n s) (sample_width n) (λ x. signed_small (u16_at s (x + 4))) k at

-- A number of the current of a shown sample.
of_seen_most : (f : ℤ → ℕ) → ((z : ℤ) → I16 z → f z ≤ 32768) → (xs : List Stamped) → Currents xs → (t : ℕ) → of_seen (λ x. f x.current) (shown_in xs t) ≤ 32768
unfolding shown_in
of_seen_most f most [] c t = omega arith
of_seen_most f most (x ∷ xs) (a, c) t = go (eqb x.tick t) (of_seen_most f most xs c t)
  where
    go : (b : Bool) → of_seen (λ y. f y.current) (shown_in xs t) ≤ 32768 → of_seen (λ y. f y.current) (cond b (seen x.sample) (shown_in xs t)) ≤ 32768
    go true l = most x.sample.current a
    go false l = l

module _ (tr : Trace) (ok : Accepted tr) (c : Currents tr.samples) where
  pub in_fits : charge_in (shown tr) tr.ticks < 18446744073709551616
  in_fits =
      let l = ticks_fit tr ok in
      omega (arith, total_most (λ t. of_seen (λ x. inward x.current) (shown tr t)) 32768 tr.ticks (of_seen_most inward in_most tr.samples c))

  pub out_fits : charge_out (shown tr) tr.ticks < 18446744073709551616
  out_fits =
      let l = ticks_fit tr ok in
      omega (arith, total_most (λ t. of_seen (λ x. outward x.current) (shown tr t)) 32768 tr.ticks (of_seen_most outward out_most tr.samples c))
