use Prim.Native.Nat.{◌+◌}
use mathlib.Core.Path.{sym}
use native.Mathlib.Omega.{arith}
use Rattle.trace.proofs.Layouts.{parts_are, holes_start, replies_start, few_holes, few_replies}
use Rattle.trace.proofs.order.accept_records.Goals as goal

pub slice_bounds-holes-count : goal.slice_bounds-holes-count
slice_bounds-holes-count c = holes_start (parts_are _ _ c.requires)

pub slice_bounds-holes-start : goal.slice_bounds-holes-start
slice_bounds-holes-start c = holes_start (parts_are _ _ c.requires)

pub slice_bounds-holes-end : goal.slice_bounds-holes-end
slice_bounds-holes-end c = (parts_are _ _ c.requires).holes_end

pub check_holes-requires : goal.check_holes-requires
check_holes-requires c = let g = c.type_inv.s in
    few_holes (parts_are _ _ c.requires) (omega (arith, g 166, g 167))

pub slice_bounds-cover_ticks-count : goal.slice_bounds-cover_ticks-count
slice_bounds-cover_ticks-count c = (parts_are _ _ c.requires).samples

pub slice_bounds-cover_ticks-start : goal.slice_bounds-cover_ticks-start
slice_bounds-cover_ticks-start c = (parts_are _ _ c.requires).samples

pub cover_ticks-requires : goal.cover_ticks-requires
cover_ticks-requires c = sym c.in_ok-check_holes.ensures

pub slice_bounds-check_replies-count : goal.slice_bounds-check_replies-count
slice_bounds-check_replies-count c = replies_start (parts_are _ _ c.requires)

pub slice_bounds-check_replies-start : goal.slice_bounds-check_replies-start
slice_bounds-check_replies-start c = replies_start (parts_are _ _ c.requires)

pub slice_bounds-check_replies-end : goal.slice_bounds-check_replies-end
slice_bounds-check_replies-end c = (parts_are _ _ c.requires).replies_end

pub check_replies-requires : goal.check_replies-requires
check_replies-requires c = let g = c.type_inv.s in
    let e = c.args.l.holes_end in
    few_replies (parts_are _ _ c.requires) (omega (arith, g e, g (e + 1)))
