use Rattle.bytes_le.proofs.Copying.{Copying}
use Rattle.bytes_le.proofs.put_bytes.Given as goal

abbrev pub invariant-loop-i : goal.invariant-loop-i
invariant-loop-i l = Copying l.initial.buffer l.at l.bytes l.buffer l.i
