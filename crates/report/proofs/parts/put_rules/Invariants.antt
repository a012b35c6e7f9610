use Prim.Native.Nat.{◌*◌}
use lib.ListN.{take}
use Rattle.report.specs.inner.Bytes.{Put}
use Rattle.report.specs.Layout.{rules_bytes}
use Rattle.report.proofs.parts.put_rules.Given as goal

abbrev pub invariant-loop-i : goal.invariant-loop-i
invariant-loop-i l = Put l.initial.buffer l.buffer 0 (l.i * 10) (rules_bytes (take l.i l.flags.of) (take l.i l.firsts.of))
