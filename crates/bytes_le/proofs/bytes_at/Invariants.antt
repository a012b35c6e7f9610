use Prim.Native.Nat.{ℕ, ◌+◌, ◌<◌}
use mathlib.Core.Path.{◌≡◌}
use lib.ListN.{length, get_or}
use Rattle.bytes_le.proofs.bytes_at.Given as goal

abbrev pub invariant-loop-i : goal.invariant-loop-i
invariant-loop-i g l =
    record {
      long : length l.byte-items ≡ g.row.N;
      laid : (k : ℕ) → k < l.i → get_or l.byte-items k 0 ≡ get_or l.s (l.at + k) 0;
    }
