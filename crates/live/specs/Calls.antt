-- Paper 01, 'Live feed' and 'Refusal numbers': what each call answers for any state, and the state after it.
use Rattle.std.specs.Prelude.{ℕ, cond, ◌&&◌, List, ltb, leb, eqb, length}
use Rattle.lists.specs.Lists.{tabulate}
use Rattle.refusals.specs.Refusals.{Answer, answer, refused, or_kept}
use Rattle.rules.specs.Table.{rows}
use Rattle.rules.specs.Samples.{Sample, cell_count}
use Rattle.limits.specs.Limits.{limits_answer, settings_of, off}
use Rattle.flags.specs.declared.Flag.TheVariants.{Unknown}
use Rattle.flags.specs.declared.RuleFlags.{RuleFlags}
use Rattle.flags.specs.declared.Output.{Output}
use Rattle.flags.specs.Flags.{number_of}
use Rattle.flags.specs.Outputs.{output_of, drivers, statuses_of}
use Rattle.report.specs.declared.Totals.{Totals}
use Rattle.states.specs.Readings.{all_flags}
use Rattle.totals.specs.declared.NetCharge.{NetCharge}
use Rattle.totals.specs.Totals.{bounds_from}
use Rattle.live.specs.declared.Live.{Live}
use Rattle.live.specs.State.{good, begun, with_sample, with_hole}

-- A beginning: refusals 3, 4, 6 and 7 in that order.
unfoldable pub begin_answer : ℕ → ℕ → List ℕ → Answer (Unit {0})
begin_answer n idle bytes =
    cond (cell_count n)
    (cond (leb idle 32766) (cond (eqb (length bytes) 160) (limits_answer n rows (settings_of bytes) 0) (refused 6 0)) (refused 4 0))
    (refused 3 0)

-- The state that it answers: refused, that begun from n = 3, idle 0 and all rules zero.
abbrev pub begin_state : ℕ → ℕ → List ℕ → Live
begin_state n idle bytes = or_kept (begin_answer n idle bytes) (λ taken. begun n idle (settings_of bytes)) (begun 3 0 (tabulate 16 (λ i. off)))

-- A sample: 16, then 15 for lists that are not n long, then 9 at the expected tick for any other tick, and for FFFFFFFFh.
unfoldable pub sample_answer : Live → ℕ → Sample → Answer (Unit {0})
sample_answer s tick x =
    cond (good s)
    (cond (eqb (length x.volts) s.cells && eqb (length x.temps) s.cells)
    (cond (eqb tick s.totals.ticks && ltb tick 0xFFFFFFFF) (answer tt) (refused 9 s.totals.ticks))
    (refused 15 0))
    (refused 16 0)

abbrev pub sample_state : Live → ℕ → Sample → Live
sample_state s tick x = or_kept (sample_answer s tick x) (λ taken. with_sample s x) s

-- A hole up to its last tick: 16, then 8 at the expected tick for a last tick before it, and for FFFFFFFFh.
unfoldable pub hole_answer : Live → ℕ → Answer (Unit {0})
hole_answer s last =
    cond (good s) (cond (leb s.totals.ticks last && ltb last 0xFFFFFFFF) (answer tt) (refused 8 s.totals.ticks)) (refused 16 0)

abbrev pub hole_state : Live → ℕ → Live
hole_state s last = or_kept (hole_answer s last) (λ taken. with_hole s last) s

-- What a reading call answers of a good state; 16 of any other.
abbrev pub of_good : {A : Type 0} → Live → A → Answer A
of_good s a = cond (good s) (answer a) (refused 16 0)

-- The flags of all rules; of a state that is not a good one all unknown.
abbrev pub flags_read : Live → List RuleFlags
flags_read s = cond (good s) (all_flags s.settings.of s.states.words) (tabulate 16 (λ i. record { alert = Unknown; status = Unknown }))

-- The number of an output's flag: C, D, fuse, and the three status bits.
abbrev pub output_read : Live → Output → Answer ℕ
output_read s o = of_good s (number_of (output_of (drivers o) rows (statuses_of (all_flags s.settings.of s.states.words))))

-- Charge in and out, unseen ticks, ticks.
abbrev pub totals_read : Live → Answer Totals
totals_read s = of_good s s.totals

-- The bounds of the net charge.
abbrev pub net_read : Live → Answer NetCharge
net_read s = of_good s (bounds_from s.totals.charge_in s.totals.charge_out s.totals.unseen)
