use mathlib.Core.Path.{sym, ◌∙◌}
use Rattle.totals.specs.Totals.{net_of}
use Rattle.live.proofs.GoodStates.{parts}
use Rattle.live.proofs.net_charge.Goals as goal

pub returns-then-is_good : goal.returns-then-is_good
unfolding net_of
returns-then-is_good c = let g = sym c.is_good.ensures ∙ c.if-is_good.true in
    rw g (rw (parts _ g).counts at c.net_of_totals.ensures)

pub returns : goal.returns
returns c = let g = sym c.is_good.ensures ∙ c.if-is_good.false in
    rw g
