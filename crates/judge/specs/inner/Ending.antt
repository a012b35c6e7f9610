-- What the last steps of the judge start from and give.
use Rattle.std.specs.Prelude.{ℕ, ◌+◌, ◌/◌, ◌≤◌, ◌≡◌, List, get_or, length}
use Rattle.lists.specs.Lists.{tabulate}
use Rattle.refusals.specs.Refusals.{answer}
use Rattle.trace.specs.Records.{replies_in}
use Rattle.trace.specs.Coverage.{replies_answer}
use Rattle.report.specs.declared.FirstTicks.{FirstTicks}
use Rattle.report.specs.declared.Totals.{Totals}
use Rattle.report.specs.Layout.{reported}
use Rattle.fillings.specs.Flags.{flags_at}
use Rattle.demands.specs.Report.{firsts_at}
use Rattle.fillings.specs.Charge.{inward, outward}
use Rattle.totals.specs.Totals.{charge_sum, unseen_sum}
use Rattle.walk.specs.Walk.{start_of}
use Rattle.walk.specs.inner.Places.{shows, Stands}
use Rattle.judge.specs.declared.advance.Frame.{Frame}
use Rattle.judge.specs.inner.Walk.{config_in, Ready}

-- The first ticks of both kinds, by rule.
unfoldable pub joined : List ℕ → List FirstTicks
joined firsts = tabulate 16 (λ i. record { possible = get_or firsts (16 + i) 0; held = get_or firsts i 0 })

-- The totals of the records in their parts.
abbrev pub summed : ℕ → List ℕ → List ℕ → ℕ → Totals
summed cells holes samples ticks =
    record { charge_in = charge_sum inward cells samples; charge_out = charge_sum outward cells samples; unseen = unseen_sum holes; ticks = ticks }

-- The report that the parts give, in a buffer.
abbrev pub report_of : Frame → List ℕ → List ℕ → List ℕ → List ℕ
report_of f holes samples buffer =
    reported (flags_at (config_in f) (shows f.cells samples) f.ticks) (firsts_at (config_in f) (shows f.cells samples) f.ticks)
    (summed f.cells holes samples f.ticks) buffer

-- The parts of an accepted trace, with as many verdicts as replies.
pub record Parts (f : Frame) (holes replies samples : List ℕ) (verdicts : ℕ) : Type 0 where
  pub ready : Ready f
  pub stands : Stands f.cells holes samples f.ticks start_of
  pub ticks_of_replies : replies_answer f.ticks (replies_in replies) 0 0 ≡ answer tt
  pub count : verdicts ≡ length replies / 10
  pub few : length replies ≤ 655350
  pub unseen_few : unseen_sum holes ≤ 4294967295
