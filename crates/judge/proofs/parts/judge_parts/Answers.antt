use mathlib.Core.Path.{refl}
use native.Mathlib.Omega.{arith}
use Rattle.bounds.specs.Lanes.{paired}
use Rattle.judge.specs.inner.Walk.{Planned}
use Rattle.judge.proofs.Ends.{stop_start, report_end}
use Rattle.judge.proofs.parts.judge_parts.Goals as goal

pub judge_records-requires : goal.judge_records-requires
unfolding paired
judge_records-requires c = let g = c.requires in
    let e = c.start_at.ensures in
    (stop_start g refl refl e, rw e (omega arith), (g.ticks_of_replies, g.count, g.few))

pub returns : goal.returns
returns c = let planned : Planned c.args.f c.tests_of.result c.lanes_of.result = record { tests = c.tests_of.ensures; lanes = c.lanes_of.ensures } in
    record { report = report_end c.requires planned _ c.judge_records.ensures.known c.totals_of-totals.ensures c.write_end.ensures; verdicts = c.judge_records.ensures.verdicts }
