-- From the parts of an accepted trace to the start of the walk, and from its end to the report.
use Prim.Native.Nat.{ℕ}
use mathlib.Core.Path.{◌≡◌, sym, ap, ap₂, subst, ◌∙◌}
use mathlib.Core.List.{List}
use native.Mathlib.Omega.{arith}
use lib.IntN.{ℤ}
use Rattle.flags.specs.declared.RuleFlags.{RuleFlags}
use Rattle.report.specs.declared.FirstTicks.{FirstTicks}
use Rattle.report.specs.declared.Totals.{Totals}
use Rattle.report.specs.Layout.{reported}
use Rattle.bounds.specs.Lanes.{paired}
use Rattle.bounds.specs.Steps.{flags_of_states}
use Rattle.bounds.specs.Firsts.{none}
use Rattle.fillings.specs.Flags.{flags_at}
use Rattle.demands.specs.Report.{firsts_at}
use Rattle.verdicts.specs.declared.Tick.TheVariants.{Unseen}
use Rattle.walk.specs.Walk.{start_of}
use Rattle.walk.specs.inner.Places.{shows}
use Rattle.judge.specs.declared.advance.Frame.{Frame}
use Rattle.judge.specs.declared.advance.Stop.{Stop}
use Rattle.judge.specs.declared.advance.Tracks.{Tracks}
use Rattle.judge.specs.inner.Walk.{config_in, Planned, Known, At}
use Rattle.judge.specs.inner.Ending.{joined, Parts}
use Rattle.judge.proofs.Knowing.{known_start, flags_known}
use Rattle.judge.proofs.Joining.{firsts_joined}

module _ {f : Frame} {holes replies samples : List ℕ} {verdicts : ℕ} (g : Parts f holes replies samples verdicts) where
  pub stop_start : {x : Stop} {tracks : Tracks} → tracks.states ≡ paired (λ i. 0) (λ i. 0) → tracks.firsts ≡ paired (λ i. none) (λ i. none)
      → x ≡ record { cursor = start_of; shown = Unseen } → At f holes samples x tracks
  stop_start {tracks = tracks} s t e =
      subst (λ (y : Stop). At f holes samples y tracks) (sym e)
      (record { stands = g.stands; shown = λ t i. absurd (omega arith); known = known_start samples g.ready s t })

  pub report_end : {tests : List ℤ} {lanes : List ℕ} {tracks : Tracks} {report' : List ℕ} {t t' : Totals} → Planned f tests lanes → (report : List ℕ) → Known (config_in f) samples f.ticks tracks → t ≡ t'
      → report' ≡ reported (flags_of_states lanes tracks.states) (joined tracks.firsts) t report
      → report' ≡ reported (flags_at (config_in f) (shows f.cells samples) f.ticks) (firsts_at (config_in f) (shows f.cells samples) f.ticks) t' report
  report_end {t = t} {t'} planned report k e r =
      let p = config_in f in
      let trace = shows f.cells samples in
      r
      ∙ ap₂ (λ (fs : List RuleFlags) (ts : List FirstTicks). reported fs ts t report) (flags_known g.ready planned k) (ap joined k.firsts ∙ firsts_joined p trace f.ticks)
      ∙ ap (λ (y : Totals). reported (flags_at p trace f.ticks) (firsts_at p trace f.ticks) y report) e
