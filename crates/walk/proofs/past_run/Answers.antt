use Rattle.walk.proofs.Looking.{ends_inside, ends_with}
use Rattle.walk.proofs.past_run.Goals as goal

pub returns-then-to-last : goal.returns-then-to-last
returns-then-to-last c = let a = c.args in
    ends_inside a.holes.now a.c a.to _ c.u32_at-last.ensures c.if-to-last.true

pub returns : goal.returns
returns c = let a = c.args in
    ends_with a.holes.now a.c a.to _ c.u32_at-last.ensures c.if-to-last.false
