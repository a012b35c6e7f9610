use lib.IntN.{pos, ◌-ℤ◌}
use mir.Syntax.{w16, w64}
use mir.ValLaws.{to_z-of_z}
use Rattle.totals.proofs.Currents.{out_none, wide, out_fits, out_cast, out_is}
use Rattle.totals.proofs.sums.outward_of.Goals as goal

pub overflow_cast-result : goal.overflow_cast-result
overflow_cast-result c = let z = c.args.current in
    let f = c.ranges.current in
    rw (to_z-of_z w16 z f) (wide z f)

pub overflow_sub-result : goal.overflow_sub-result
overflow_sub-result c = let z = c.args.current in
    let f = c.ranges.current in
    let e = to_z-of_z w16 z f in
    let d = to_z-of_z w64 z (wide z f) in
    rw (e, d) (out_fits z f (rw e at c.if-current-ge0.false))

pub overflow_cast-result-else-current-ge0 : goal.overflow_cast-result-else-current-ge0
overflow_cast-result-else-current-ge0 c = let z = c.args.current in
    let f = c.ranges.current in
    let e = to_z-of_z w16 z f in
    let d = to_z-of_z w64 z (wide z f) in
    let h = rw e at c.if-current-ge0.false in
    let g = to_z-of_z w64 (pos 0 -ℤ z) (out_fits z f h) in
    rw (e, d, g) (out_cast z f h)

pub returns-then-current-ge0 : goal.returns-then-current-ge0
returns-then-current-ge0 c = let z = c.args.current in
    out_none z (rw (to_z-of_z w16 z c.ranges.current) at c.if-current-ge0.true)

pub returns-else-current-ge0 : goal.returns-else-current-ge0
returns-else-current-ge0 c = let z = c.args.current in
    let f = c.ranges.current in
    let e = to_z-of_z w16 z f in
    let d = to_z-of_z w64 z (wide z f) in
    let h = rw e at c.if-current-ge0.false in
    let g = to_z-of_z w64 (pos 0 -ℤ z) (out_fits z f h) in
    rw (e, d, g) (out_is z f h)
