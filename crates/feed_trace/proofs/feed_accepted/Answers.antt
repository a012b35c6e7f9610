use Rattle.std.proofs.Common.{◌≡◌, refl, arith, ℕ, List, length-take, length-drop}
use Rattle.refusals.specs.Refusals.{answer}
use Rattle.trace.specs.Acceptance.{accept_answer, parsed_of}
use Rattle.trace.specs.declared.Acceptance.{Acceptance}
use Rattle.trace.proofs.Layouts.{PartsAre, holes_start}
use Rattle.totals.proofs.AcceptedTotals.{parts}
use Rattle.feed_trace.proofs.feed_accepted.Goals as goal

laid : (s : List ℕ) (a : Acceptance) → accept_answer s ≡ answer (parsed_of a) → PartsAre s a.layout
laid s a h = parts s a.layout (parsed_of a, h, refl)

pub slice_bounds-begin-end : goal.slice_bounds-begin-end
slice_bounds-begin-end c = (laid _ _ c.requires.1).long

pub slice_bounds-holes-count : goal.slice_bounds-holes-count
slice_bounds-holes-count c = holes_start (laid _ _ c.requires.1)

pub slice_bounds-holes-start : goal.slice_bounds-holes-start
slice_bounds-holes-start c = holes_start (laid _ _ c.requires.1)

pub slice_bounds-holes-end : goal.slice_bounds-holes-end
slice_bounds-holes-end c = (laid _ _ c.requires.1).holes_end

pub slice_bounds-feed_all-count : goal.slice_bounds-feed_all-count
slice_bounds-feed_all-count c = (laid _ _ c.requires.1).samples

pub slice_bounds-feed_all-start : goal.slice_bounds-feed_all-start
slice_bounds-feed_all-start c = (laid _ _ c.requires.1).samples

pub feed_all-requires : goal.feed_all-requires
feed_all-requires c = let h = c.requires.0 in
    simp (length-take, length-drop) (omega arith)
