use mir.Syntax.{w16}
use mir.ValLaws.{to_z-of_z}
use Rattle.totals.proofs.Currents.{in_cast, in_is, in_none}
use Rattle.totals.proofs.sums.inward_of.Goals as goal

pub overflow_cast-result : goal.overflow_cast-result
overflow_cast-result c = let z = c.args.current in
    let f = c.ranges.current in
    let e = to_z-of_z w16 z f in
    rw e (in_cast z f (rw e at c.if-current-ge0.true))

pub returns-then-current-ge0 : goal.returns-then-current-ge0
returns-then-current-ge0 c = let z = c.args.current in
    let f = c.ranges.current in
    let e = to_z-of_z w16 z f in
    rw e (in_is z f (rw e at c.if-current-ge0.true))

pub returns-else-current-ge0 : goal.returns-else-current-ge0
returns-else-current-ge0 c = let z = c.args.current in
    in_none z (rw (to_z-of_z w16 z c.ranges.current) at c.if-current-ge0.false)
