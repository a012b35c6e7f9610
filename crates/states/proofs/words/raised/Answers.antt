use Rattle.states.proofs.FiveWords.{raised_up, raised_none}
use Rattle.states.proofs.words.raised.Goals as goal

pub returns-then-on : goal.returns-then-on
returns-then-on c = rw c.if-on.true (raised_up c.up_one.ensures)

pub returns-else-on : goal.returns-else-on
returns-else-on c = rw c.if-on.false raised_none
