use mathlib.Core.Path.{◌≡◌}
use lib.ListN.{take}
use Rattle.pec.specs.Code.{pec_of}
use Rattle.pec.proofs.pec.Given as goal

abbrev pub invariant-loop-byte : goal.invariant-loop-byte
invariant-loop-byte l = l.code ≡ pec_of (take l.byte-index l.message)
