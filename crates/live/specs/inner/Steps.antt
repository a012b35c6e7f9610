-- What the inner functions of the feed answer.
use Rattle.std.specs.Prelude.{ℕ, ◌+◌, ◌-◌, suc, ◌≡◌, ℤ}
use Rattle.refusals.specs.Refusals.{Answer, answer_of, or_kept}
use Rattle.fillings.specs.Charge.{inward, outward}
use Rattle.report.specs.declared.Totals.{Totals}
use Rattle.live.specs.declared.Live.{Live}
use Rattle.live.specs.declared.Step.{Step}

-- A call's answer and state: a new state where it is taken, the old one where it is refused.
pub record Stepped (r : Step) (a : Answer (Unit {0})) (new old : Live) : Type 0 where
  pub answer : answer_of r.answer ≡ a
  pub state : r.state ≡ or_kept a (λ taken. new) old

-- The totals after a sample.
abbrev pub count_sample : Totals → ℤ → Totals
count_sample t current =
    record { charge_in = t.charge_in + inward current; charge_out = t.charge_out + outward current; unseen = t.unseen; ticks = t.ticks + 1 }

-- The totals after a hole up to its last tick.
abbrev pub count_hole : Totals → ℕ → Totals
count_hole t last =
    record { charge_in = t.charge_in; charge_out = t.charge_out; unseen = t.unseen + (suc last - t.ticks); ticks = last + 1 }
