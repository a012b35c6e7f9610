use mathlib.Core.Path.{◌∙◌}
use Rattle.rules.proofs.Rows.{row_of}
use Rattle.states.proofs.EachRule.{moving_start}
use Rattle.states.proofs.RuleSteps.{missing_moved, missing_off, missing_idle, missing_end}
use Rattle.states.proofs.unseen.miss.Goals as goal
use Rattle.states.proofs.unseen.miss.Goals.{then-setting-ne0+then-n-ne0, else-setting-ne0, else-setting-ne0-via-then-setting-ne0+else-n-ne0, else-setting-ne0-via-else-setting-ne0}

pub loop-i-init : goal.loop-i-init
loop-i-init c = moving_start _ _ _ c.told-words

pub loop-i-preserved : goal.loop-i-preserved
loop-i-preserved c = let a = c.args in
    let l = c.loop-i in
    elim c.if-setting-ne0.branch [
      | then-setting-ne0+then-n-ne0 w ↦
          missing_moved a.settings.of a.first a.last a.words.now l.words _ w.load-w.result w.many_unseen-v.result l.i _ (row_of _ _ _ c.all_rows-table.ensures c.loop-i-test.true)
          l.invariant c.loop-i-test.true w.if-setting-ne0.true c.evaluations_in-n.ensures w.if-n-ne0.true w.top_for.ensures.0 w.load-w.ensures w.many_unseen-v.ensures
          (w.words-is ∙ w.store.ensures)
      | else-setting-ne0 w ↦
          elim w.else-setting-ne0.branch [
            | else-setting-ne0-via-then-setting-ne0+else-n-ne0 v ↦
                missing_idle a.settings.of a.first a.last a.words.now l.words _ l.i _ (row_of _ _ _ c.all_rows-table.ensures c.loop-i-test.true)
                l.invariant c.loop-i-test.true c.evaluations_in-n.ensures v.if-n-ne0.false w.words-is
            | else-setting-ne0-via-else-setting-ne0 v ↦
                missing_off a.settings.of a.first a.last a.words.now l.words _ l.i l.invariant c.loop-i-test.true v.if-setting-ne0.false w.words-is
          ]
    ]

pub returns : goal.returns
returns c = missing_end _ _ _ _ _ _ c.loop-i.invariant c.loop-i-test.false
