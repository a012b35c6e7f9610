use mathlib.Core.Path.{refl}
use Rattle.rules.specs.Evaluation.{clears}
use Rattle.states.proofs.Tops.{positive_top}
use Rattle.states.proofs.AtZero.{zero_stays}
use Rattle.states.proofs.RuleSteps.{evaluated_made}
use Rattle.states.proofs.seen.evaluated.Goals as goal

pub returns-then-at_zero : goal.returns-then-at_zero
returns-then-at_zero c = let a = c.args in
    let top = c.top_for-top in
    evaluated_made a.idle a.readings a.setting a.w a.w a.row c.if-not-trips.ensures refl top.ensures.0
    (zero_stays a.w top.result (clears a.row a.setting a.readings) (positive_top top.ensures.0 c.requires) top.ensures.1 (c.at_zero.ensures c.if-at_zero.true))

pub moved-requires : goal.moved-requires
moved-requires c = let top = c.top_for-top.ensures in (positive_top top.0 c.requires, top.1)

pub returns : goal.returns
returns c = let a = c.args in
    evaluated_made a.idle a.readings a.setting a.w _ a.row c.meets_threshold-trips.ensures c.meets_recovery-clears.ensures c.top_for-top.ensures.0 c.moved.ensures
