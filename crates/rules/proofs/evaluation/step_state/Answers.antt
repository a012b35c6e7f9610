use native.Mathlib.Numerals.{add-one}
use borrow.Author.Tests.{lt-ltb, le-ltb}
use Rattle.rules.specs.Evaluation.{step}
use Rattle.rules.proofs.evaluation.step_state.Goals as goal

pub returns-then-trips : goal.returns-then-trips
unfolding step
returns-then-trips c = rw (lt-ltb _ _ c.if-state-top.true, c.if-trips.true) (add-one _)

pub returns-then-state-top : goal.returns-then-state-top
unfolding step
returns-then-state-top c = rw (lt-ltb _ _ c.if-state-top.true, c.if-trips.false)

pub returns-then-clears : goal.returns-then-clears
unfolding step
returns-then-clears c = rw (le-ltb _ _ c.if-state-top.false, c.if-clears.true)

pub returns : goal.returns
unfolding step
returns c = rw (le-ltb _ _ c.if-state-top.false, c.if-clears.false)
