use Rattle.bytes_le.proofs.Puts.{Filling}
use Rattle.bytes_le.proofs.fill.Given as goal

abbrev pub invariant-loop-byte : goal.invariant-loop-byte
invariant-loop-byte l = Filling l.v l.buffer l.byte-index l.rest
