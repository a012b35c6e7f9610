use Rattle.lists.proofs.Laying.{Laying}
use lib.IntN.{pos}
use lib.ListN.{get_or}
use lib.Signed.{lt_z}
use mathlib.Core.Bool.{false}
use Prim.Native.Nat.{ℕ, ◌+◌, ◌<◌}
use Rattle.bounds.specs.inner.Marks.{Within}
use Rattle.bounds.proofs.marks.marks_of.Given as goal

abbrev pub invariant-loop-i : goal.invariant-loop-i
invariant-loop-i l = record {
  trips : Laying false 16 (λ j. lt_z (get_or l.tests (l.base + j) (pos 0)) (get_or l.values j (pos 0))) l.trips l.i;
  clears : Laying false 16 (λ j. lt_z (get_or l.values j (pos 0)) (get_or l.tests (48 + j) (pos 0))) l.clears l.i;
  within : (j : ℕ) → j < l.i → Within (get_or l.values j (pos 0));
}
