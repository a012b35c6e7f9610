-- Of an enabled rule within its limits every test can be met and none meets both.
use Prim.Native.Nat.{◌<◌}
use native.Mathlib.Omega.{arith}
use mathlib.Core.Path.{sym, subst}
use lib.Dec.{T}
use Rattle.fillings.specs.Fillings.{Rule, Sound, last}
use Rattle.fillings.specs.promises.Tests.{TestsMet}
use Rattle.fillings.proofs.Reach.{Within, off_or_within, not_both_lem, reach_trip, reach_clear}

tests_within : (r : Rule) → Sound r → Within r → TestsMet r
tests_within r ok enabled =
    record {
      threshold = let w = reach_trip r ok enabled in (w.sample, w.carried, subst T (sym w.trips) tt);
      recovery = λ u. let w = reach_clear r ok enabled u in (w.sample, w.carried, subst T (sym w.clears) tt);
      not_both = λ x (t, c). subst T (not_both_lem r ok enabled x t) c;
    }

pub tests_met : (r : Rule) → Sound r → 0 < last r → TestsMet r
tests_met r ok on = off_or_within r ok (λ z. absurd (omega arith)) (tests_within r ok)
