use mathlib.Core.Path.{◌∙◌}
use native.Mathlib.Omega.{arith}
use Rattle.trace.proofs.Layouts.{holes_start, replies_start}
use Rattle.judge.proofs.AcceptedParts.{parts, is_parts, report_is, verdicts_are}
use Rattle.judge.proofs.parts.judge_accepted.Goals as goal

pub slice_bounds-holes-count : goal.slice_bounds-holes-count
slice_bounds-holes-count c = holes_start (parts _ _ c.requires.0)

pub slice_bounds-holes-start : goal.slice_bounds-holes-start
slice_bounds-holes-start c = holes_start (parts _ _ c.requires.0)

pub slice_bounds-holes-end : goal.slice_bounds-holes-end
slice_bounds-holes-end c = (parts _ _ c.requires.0).holes_end

pub slice_bounds-replies-count : goal.slice_bounds-replies-count
slice_bounds-replies-count c = replies_start (parts _ _ c.requires.0)

pub slice_bounds-replies-start : goal.slice_bounds-replies-start
slice_bounds-replies-start c = replies_start (parts _ _ c.requires.0)

pub slice_bounds-replies-end : goal.slice_bounds-replies-end
slice_bounds-replies-end c = (parts _ _ c.requires.0).replies_end

pub slice_bounds-judge_parts-count : goal.slice_bounds-judge_parts-count
slice_bounds-judge_parts-count c = (parts _ _ c.requires.0).samples

pub slice_bounds-judge_parts-start : goal.slice_bounds-judge_parts-start
slice_bounds-judge_parts-start c = (parts _ _ c.requires.0).samples

pub judge_parts-requires : goal.judge_parts-requires
judge_parts-requires c = let pre = c.requires in
    is_parts _ _ pre.0 (λ i. omega (arith, c.type_inv.s i)) _ pre.2

pub returns : goal.returns
returns c = let pre = c.requires in
    record { report = c.judge_parts.ensures.report ∙ report_is _ _ pre.0 (λ i. omega (arith, c.type_inv.s i)) _ pre.1; verdicts = c.judge_parts.ensures.verdicts ∙ verdicts_are _ _ pre.0 }
