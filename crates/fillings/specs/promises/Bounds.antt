-- The least and the greatest possible state: every possible state lies between, both are possible, and the flags follow from them.
use Rattle.std.specs.Prelude.{ℕ, ◌≤◌, ◌≡◌}
use Rattle.rules.specs.Samples.{Sample}
use Rattle.fillings.specs.Fillings.{Rule, last, Shown, Filling, after}
use Rattle.fillings.specs.Flags.{rule_flags}
use Rattle.fillings.specs.Bounds.{least_after, greatest_after, flags_between}

-- What is promised of the two states of one rule over a sequence of ticks.
pub record Bounded (r : Rule) (trace : ℕ → Shown) : Type 0 where
  -- under every filling the state lies between the two
  pub above : (f : ℕ → Sample) → Filling r.cells trace f → (k : ℕ) → least_after r trace k ≤ after r trace f k
  pub below : (f : ℕ → Sample) → Filling r.cells trace f → (k : ℕ) → after r trace f k ≤ greatest_after r trace k
  -- one filling gives the least state after every tick, and one the greatest
  pub reached_least : (f : ℕ → Sample) × Filling r.cells trace f × ((k : ℕ) → after r trace f k ≡ least_after r trace k)
  pub reached_greatest : (f : ℕ → Sample) × Filling r.cells trace f × ((k : ℕ) → after r trace f k ≡ greatest_after r trace k)
  -- alert and status, from the two
  pub flags : (k : ℕ) → rule_flags r trace k ≡ flags_between r.row (last r) (least_after r trace k) (greatest_after r trace k)
