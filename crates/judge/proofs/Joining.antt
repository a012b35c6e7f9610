-- The first ticks of both kinds, put together rule by rule.
use Prim.Native.Nat.{ℕ, ◌+◌}
use mathlib.Core.Path.{◌≡◌, ap₂}
use mathlib.Core.List.{List}
use lib.ListN.{get_or}
use Rattle.lists.proofs.Bools.{tabulate_same}
use Rattle.report.specs.declared.FirstTicks.{FirstTicks}
use Rattle.fillings.specs.Fillings.{Shown, Config}
use Rattle.bounds.specs.promises.Tracking as lanes
use Rattle.bounds.proofs.Paired.{paired_low, paired_high}
use Rattle.demands.specs.Report.{firsts_at}
use Rattle.judge.specs.inner.Ending.{joined}

abbrev pub both : List ℕ → ℕ → FirstTicks
both firsts i = record { possible = get_or firsts (16 + i) 0; held = get_or firsts i 0 }

-- Joined, they are the first ticks of the trace.
pub firsts_joined : (p : Config) (trace : ℕ → Shown) (k : ℕ) → joined (lanes.firsts_at p trace k) ≡ firsts_at p trace k
unfolding joined
firsts_joined p trace k =
    tabulate_same 16 (both (lanes.firsts_at p trace k)) _
    (λ i h. ap₂ (λ (a b : ℕ). record { possible = a; held = b }) (paired_high _ _ 0 i h) (paired_low _ _ 0 i h))
