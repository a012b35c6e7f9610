-- The verdict on a reply, and the bits of BatteryStatus, from where the walk stands.
use Prim.Native.Nat.{ℕ}
use mathlib.Core.Path.{◌≡◌, refl, ap, ◌∙◌}
use mathlib.Core.List.{List}
use lib.IntN.{ℤ}
use lib.ListN.{get_or}
use borrow.Author.Tests.{ne_eqb}
use Rattle.bounds.specs.Steps.{flags_of_states}
use Rattle.verdicts.specs.declared.Tick.{Tick}
use Rattle.verdicts.specs.declared.Alarms.{Alarms}
use Rattle.verdicts.specs.Verdicts.{verdict_of}
use Rattle.demands.specs.Verdicts.{alarms_at}
use Rattle.walk.specs.inner.Places.{shows}
use Rattle.judge.specs.declared.advance.Frame.{Frame}
use Rattle.judge.specs.declared.advance.Stop.{Stop}
use Rattle.judge.specs.declared.advance.Tracks.{Tracks}
use Rattle.judge.specs.inner.Walk.{config_in, Ready, Planned, At, alarms_of}
use Rattle.judge.proofs.Knowing.{flags_known}

-- The bits, from the states that are known.
pub alarms_known : {f : Frame} {tests : List ℤ} {lanes holes samples : List ℕ} {x : Stop} {tracks : Tracks} → Ready f → Planned f tests lanes → At f holes samples x tracks
    → {alarms : Alarms} → alarms ≡ alarms_of (flags_of_states lanes tracks.states) → alarms ≡ alarms_at (config_in f) (shows f.cells samples) x.cursor.tick
alarms_known ready planned g e = e ∙ ap alarms_of (flags_known ready planned g.known)

-- The verdict on a reply of another command does not look at the bits.
pub other_command : (tick : Tick) (a b : Alarms) (bytes : List ℕ) → (get_or bytes 1 0 ≡ 0x16 → ⊥) → verdict_of tick a bytes ≡ verdict_of tick b bytes
other_command tick a b bytes n = rw (ne_eqb (get_or bytes 1 0) 0x16 n) refl
