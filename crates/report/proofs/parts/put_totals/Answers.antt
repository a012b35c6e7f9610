use native.Mathlib.Omega.{arith}
use Rattle.report.proofs.Puts.{put_bytes, put_then}
use Rattle.report.proofs.parts.put_totals.Goals as goal

pub returns : goal.returns
returns c = put_then
    (put_then
    (put_then (put_bytes _ _ _ 8 _ (omega arith) c.put.ensures) (put_bytes _ _ _ 8 _ (omega arith) c.put-2.ensures))
    (put_bytes _ _ _ 4 _ (omega arith) c.put-3.ensures))
    (put_bytes _ _ _ 4 _ (omega arith) c.put-4.ensures)
