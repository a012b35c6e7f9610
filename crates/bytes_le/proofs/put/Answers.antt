use native.Mathlib.Omega.{arith}
use Rattle.bytes_le.proofs.Puts.{put_number, put_not}
use Rattle.bytes_le.proofs.put.Goals as goal
use Rattle.bytes_le.proofs.put.Goals.{else-at-buffer-via-then-at-buffer+else-count-buffer, else-at-buffer-via-else-at-buffer}

pub returns-then-count-buffer : goal.returns-then-count-buffer
returns-then-count-buffer c = put_number _ _ _ _ _ (omega arith) c.fill.ensures

pub returns-else-at-buffer : goal.returns-else-at-buffer
returns-else-at-buffer c =
    elim c.else-at-buffer.branch [
      | else-at-buffer-via-then-at-buffer+else-count-buffer w ↦ put_not _ _ _ _ (omega arith)
      | else-at-buffer-via-else-at-buffer w ↦ put_not _ _ _ _ (omega arith)
    ]
