use Rattle.std.proofs.Common.{rules}
use Rattle.trace.specs.Acceptance.{accept_answer}
use Rattle.trace.proofs.Layouts.{parts_are}
use Rattle.trace.proofs.Outcomes.{passed}
use Rattle.trace.proofs.order.accept_layout.Goals as goal

pub slice_bounds-check_rules-end : goal.slice_bounds-check_rules-end
slice_bounds-check_rules-end c = (parts_are _ _ c.requires).long

pub returns-in_err-ticks : goal.returns-in_err-ticks
unfolding accept_answer
returns-in_err-ticks c = rw (c.requires, (passed _ c.in_ok-settings.ensures).0) (search rules)

pub returns : goal.returns
unfolding accept_answer
returns c = let p = passed _ c.in_ok-settings.ensures in rw (c.requires, p.0, p.1, ← c.in_ok-ticks.ensures)
