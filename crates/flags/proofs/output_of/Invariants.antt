use Rattle.flags.specs.Outputs.{drivers}
use Rattle.flags.proofs.Driven.{Driven}
use Rattle.flags.proofs.output_of.Given as goal

abbrev pub invariant-loop-i : goal.invariant-loop-i
invariant-loop-i l = Driven (drivers l.o) l.flags.of l.found l.i
