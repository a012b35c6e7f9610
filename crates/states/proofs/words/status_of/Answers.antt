use Rattle.states.proofs.SetFlags.{status_off, status_right}
use native.Mathlib.Omega.{arith}
use mathlib.Core.Path.{◌∙◌}
use Rattle.states.proofs.words.status_of.Goals as goal

pub returns-then-top-eq0 : goal.returns-then-top-eq0
returns-then-top-eq0 c = rw c.if-top-eq0.true (c.flag_of.ensures ∙ status_off c.args.w _ c.test.ensures)

pub returns : goal.returns
returns c = let a = c.args in
    c.flag_of-2.ensures
    ∙ status_right a.w a.top c.requires c.below-low.result _ _ (omega arith) c.below-low.ensures c.test-2.ensures c.some.ensures
