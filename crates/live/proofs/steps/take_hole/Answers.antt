use Rattle.live.proofs.Stepping.{refuses, takes, hole_early, hole_late, hole_taken}
use Rattle.live.proofs.steps.take_hole.Goals as goal

pub returns-then-last-expected : goal.returns-then-last-expected
returns-then-last-expected c = refuses c.refuse.ensures (hole_early _ _ c.requires c.if-last-expected.true)

pub returns-then-last-lt4294967295 : goal.returns-then-last-lt4294967295
returns-then-last-lt4294967295 c = takes c.with_hole.ensures (hole_taken _ _ c.requires c.if-last-expected.false c.if-last-lt4294967295.true)

pub returns : goal.returns
returns c = refuses c.refuse-2.ensures (hole_late _ _ c.requires c.if-last-expected.false c.if-last-lt4294967295.false)
