-- The states and the first ticks of all rules follow a trace, and the states give the flags.
use Prim.Native.Nat.{ℕ}
use mathlib.Core.Path.{refl}
use Rattle.fillings.specs.Fillings.{Shown, Config, SoundConfig}
use Rattle.fillings.specs.Flags.{first_from}
use Rattle.fillings.specs.Bounds.{after_as}
use Rattle.bounds.specs.promises.Tracking.{Tracked}
use Rattle.bounds.proofs.StateTracking.{states_see, states_miss, flags_read_lem}
use Rattle.bounds.proofs.FirstTracking.{firsts_see, firsts_miss}

pub tracked : (p : Config) → SoundConfig p → (trace : ℕ → Shown) → Tracked p trace
unfolding after_as first_from
tracked p ok trace =
    record {
      begins = refl;
      begins_firsts = refl;
      sees = states_see p trace;
      sees_firsts = firsts_see p ok trace;
      misses = states_miss p trace;
      misses_firsts = firsts_miss p ok trace;
      reads = flags_read_lem p trace ok;
    }
