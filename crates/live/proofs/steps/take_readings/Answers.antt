use mathlib.Core.Path.{sym, ◌∙◌}
use mir.Syntax.{w16}
use mir.ValLaws.{to_z-of_z}
use Rattle.live.proofs.Stepping.{refuses, takes, tick_other, tick_next, tick_late}
use Rattle.live.proofs.steps.take_readings.Goals as goal

pub returns-then-tick-expected : goal.returns-then-tick-expected
returns-then-tick-expected c x e r = refuses c.refuse.ensures (tick_other c.args.state _ c.if-tick-expected.true)

pub returns-then-tick-lt4294967295 : goal.returns-then-tick-lt4294967295
returns-then-tick-lt4294967295 c x e r = takes (c.with_sample.ensures x (e ∙ sym (to_z-of_z w16 c.args.current c.ranges.current)) r) (tick_next c.args.state _ c.if-tick-expected.false c.if-tick-lt4294967295.true)

pub returns : goal.returns
returns c x e r = refuses c.refuse-2.ensures (tick_late c.args.state _ c.if-tick-expected.false c.if-tick-lt4294967295.false)
