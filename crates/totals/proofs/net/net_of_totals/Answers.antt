use Prim.Native.Nat.{◌<◌}
use mathlib.Core.Path.{ap, sym, ◌∙◌}
use native.Mathlib.Omega.{arith}
use Rattle.refusals.specs.Refusals.{answer}
use Rattle.totals.specs.Totals.{net_of}
use Rattle.totals.proofs.NetBounds.{counted}
use Rattle.totals.proofs.net.net_of_totals.Goals as goal

pub bounds-requires : goal.bounds-requires
bounds-requires c = let a = c.args in
    let (i, o, u) = counted a.charge_in a.charge_out a.unseen a.ticks (sym c.can_count.ensures ∙ c.if-can_count.true) in
    let h : a.ticks < 4294967296 = c.ranges.ticks.fits in
    (omega arith, omega arith, omega arith)

pub returns-then-can_count : goal.returns-then-can_count
unfolding net_of
returns-then-can_count c = rw (sym c.can_count.ensures ∙ c.if-can_count.true) (ap answer c.bounds.ensures)

pub returns : goal.returns
unfolding net_of
returns c = rw (sym c.can_count.ensures ∙ c.if-can_count.false)
