use Rattle.bounds.specs.Plan.{test_at}
use Rattle.lists.proofs.Laying.{Laying}
use Rattle.limits.specs.Limits.{setting_of}
use Rattle.rules.specs.Table.{row_at}
use lib.IntN.{pos}
use Prim.Native.Nat.{◌/◌, ◌%◌}
use Rattle.bounds.proofs.tests_of.Given as goal

abbrev pub invariant-loop-j : goal.invariant-loop-j
invariant-loop-j l = Laying (pos 0) 64 (λ k. test_at (k / 16) (row_at (k % 16)) (setting_of l.settings.of (k % 16))) l.tests l.j
