use mathlib.Core.Path.{◌∙◌}
use Rattle.rules.proofs.Rows.{row_of}
use Rattle.limits.specs.Limits.{setting_of}
use Rattle.states.proofs.EachRule.{moving_start}
use Rattle.states.proofs.RuleSteps.{moves_on, seeing_moved, seeing_kept, seeing_stays, seeing_end}
use Rattle.states.proofs.seen.see.Goals as goal
use Rattle.states.proofs.seen.see.Goals.{then-moves_by+in-Some, then-moves_by+in_default, else-moves_by}

pub loop-i-init : goal.loop-i-init
loop-i-init c = moving_start _ _ _ c.told-words

pub evaluated-requires : goal.evaluated-requires
evaluated-requires c = moves_on (setting_of c.args.settings.of c.loop-i.i).time _ c.moves_by.ensures c.if-moves_by.true

pub loop-i-preserved : goal.loop-i-preserved
loop-i-preserved c = let a = c.args in
    let l = c.loop-i in
    elim c.if-moves_by.branch [
      | then-moves_by+in-Some w ↦
          seeing_moved a.settings.of a.idle a.tick a.readings a.words.now l.words _ w.load-w.result w.in-Some.v l.i _ (row_of _ _ _ c.all_rows-table.ensures c.loop-i-test.true)
          l.invariant c.loop-i-test.true c.moves_by.ensures w.if-moves_by.true w.load-w.ensures w.in-Some.ensures (w.words-is ∙ w.store.ensures)
      | then-moves_by+in_default w ↦
          seeing_kept a.settings.of a.idle a.tick a.readings a.words.now l.words _ w.load-w.result l.i _ (row_of _ _ _ c.all_rows-table.ensures c.loop-i-test.true)
          l.invariant c.loop-i-test.true c.moves_by.ensures w.if-moves_by.true w.load-w.ensures w.in_default.ensures w.words-is
      | else-moves_by w ↦
          seeing_stays a.settings.of a.idle a.tick a.readings a.words.now l.words _ l.i _ (row_of _ _ _ c.all_rows-table.ensures c.loop-i-test.true)
          l.invariant c.loop-i-test.true c.moves_by.ensures w.if-moves_by.false w.words-is
    ]

pub returns : goal.returns
returns c = seeing_end _ _ _ _ _ _ _ c.loop-i.invariant c.loop-i-test.false
