use mathlib.Core.Path.{refl, sym}
use native.Mathlib.Omega.{arith}
use lib.Seq.{length-take-le}
use borrow.Author.Rules.{rules}
use Rattle.lines.proofs.Refusals.{refusal_read, line_not, line_put}
use Rattle.lines.proofs.put_refusal.Goals as goal

pub returns-then-buffer-n : goal.returns-then-buffer-n
returns-then-buffer-n c = let not = line_not _ _ (omega (arith, c.lay_refusal-n.ensures.value)) in
    record { put = not.0; bytes = not.1.0; counts = not.1.1 }

pub slice_bounds-line-end : goal.slice_bounds-line-end
slice_bounds-line-end c = let laid = c.lay_refusal-n.ensures in
    (refusal_read _ _ _ refl (laid.value, laid.line_after)).0

pub slice_bounds-put_bytes-end : goal.slice_bounds-put_bytes-end
slice_bounds-put_bytes-end c = let laid = c.lay_refusal-n.ensures in
    sym (length-take-le _ _ (refusal_read _ _ _ refl (laid.value, laid.line_after)).0)

pub returns : goal.returns
returns c = let laid = c.lay_refusal-n.ensures in
    let put = line_put _ _ laid.value (search rules) (refusal_read _ _ _ refl (laid.value, laid.line_after)).1 c.put_bytes.ensures in
    record { put = put.0; bytes = put.1.0; counts = put.1.1 }
