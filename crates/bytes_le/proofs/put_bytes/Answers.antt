use native.Mathlib.Omega.{arith}
use Rattle.bytes_le.proofs.Puts.{put_none}
use Rattle.bytes_le.proofs.Copying.{copying_next, copying_end}
use Rattle.bytes_le.proofs.put_bytes.Goals as goal
use Rattle.bytes_le.proofs.put_bytes.Goals.{else-at-buffer-via-then-at-buffer+else-bytes-buffer, else-at-buffer-via-else-at-buffer}

pub loop-i-preserved : goal.loop-i-preserved
loop-i-preserved c = copying_next _ _ _ c.loop-i.invariant c.loop-i-test.true

pub returns-after-loop-i : goal.returns-after-loop-i
returns-after-loop-i c = copying_end _ _ _ c.loop-i.invariant c.loop-i-test.false

pub returns-else-at-buffer : goal.returns-else-at-buffer
returns-else-at-buffer c =
    elim c.else-at-buffer.branch [
      | else-at-buffer-via-then-at-buffer+else-bytes-buffer w ↦ put_none _ _ _ (omega arith)
      | else-at-buffer-via-else-at-buffer w ↦ put_none _ _ _ (omega arith)
    ]
