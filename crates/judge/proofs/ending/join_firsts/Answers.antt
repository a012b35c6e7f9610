use Rattle.lists.proofs.Laying.{laying_end}
use Rattle.judge.specs.inner.Ending.{joined}
use Rattle.judge.proofs.ending.join_firsts.Goals as goal

pub returns : goal.returns
unfolding joined
returns c = laying_end _ _ _ c.loop-i.invariant c.loop-i-test.false
