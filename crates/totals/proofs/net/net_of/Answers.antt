use mathlib.Core.Path.{ap, ◌∙◌}
use native.Mathlib.Omega.{arith}
use Rattle.trace.proofs.Layouts.{holes_start}
use Rattle.refusals.specs.Refusals.{answer}
use Rattle.totals.proofs.AcceptedTotals.{parts, totalled, bounds_same}
use Rattle.totals.proofs.net.net_of.Goals as goal

pub slice_bounds-count_unseen-count : goal.slice_bounds-count_unseen-count
slice_bounds-count_unseen-count c = holes_start (parts _ _ c.requires)

pub slice_bounds-count_unseen-start : goal.slice_bounds-count_unseen-start
slice_bounds-count_unseen-start c = holes_start (parts _ _ c.requires)

pub slice_bounds-count_unseen-end : goal.slice_bounds-count_unseen-end
slice_bounds-count_unseen-end c = (parts _ _ c.requires).holes_end

pub slice_bounds-sum_charge-count : goal.slice_bounds-sum_charge-count
slice_bounds-sum_charge-count c = (parts _ _ c.requires).samples

pub slice_bounds-sum_charge-start : goal.slice_bounds-sum_charge-start
slice_bounds-sum_charge-start c = (parts _ _ c.requires).samples

pub bounds-requires : goal.bounds-requires
bounds-requires c = let t = (totalled _ _ c.requires (λ i. omega (arith, c.type_inv.s i))) in
    (omega (arith, c.sum_charge-charge.ensures.inwards, t.small_in), omega (arith, c.sum_charge-charge.ensures.outwards, t.small_out), rw c.count_unseen-unseen.ensures t.small_unseen)

pub returns : goal.returns
returns c = ap answer (c.bounds.ensures ∙ bounds_same c.sum_charge-charge.ensures.inwards c.sum_charge-charge.ensures.outwards c.count_unseen-unseen.ensures)
    ∙ ((totalled _ _ c.requires (λ i. omega (arith, c.type_inv.s i)))).net
