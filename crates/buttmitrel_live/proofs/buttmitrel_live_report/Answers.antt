use Rattle.buttmitrel_live.specs.Live.{state_of}
use Rattle.buttmitrel_live.proofs.Feeding.{report_kept}
use Rattle.buttmitrel_live.proofs.buttmitrel_live_report.Goals as goal

pub returns : goal.returns
returns c = let a = c.args in
    let k = c.in-Some.ensures in
    let p = report_kept a.rules.now a.totals.now (state_of a.cells a.idle a.rules.now a.words.now a.totals.now) a.report.now k.0 k.3 (c.report_state.ensures.answer, c.report_state.ensures.bytes) in record { answer = p.0; report = p.1 }
