-- Paper 01, 'Replies': the verdicts on the replies of a trace, from the flags after their ticks' evaluations. Verdict is paper 01's term.
use Rattle.std.specs.Prelude.{ℕ, suc, List, map}
use Rattle.rules.specs.Samples.{sum}
use Rattle.flags.specs.declared.Output.TheVariants.{TerminateChargeAlarm, OverTempAlarm, TerminateDischargeAlarm}
use Rattle.flags.specs.Outputs.{drivers}
use Rattle.verdicts.specs.declared.Tick.{Tick}
use Rattle.verdicts.specs.declared.Tick.TheVariants.{Seen, Unseen}
use Rattle.verdicts.specs.declared.Alarms.{Alarms}
use Rattle.verdicts.specs.Verdicts.{verdict_of}
use Rattle.trace.specs.Records.{Reply}
use Rattle.fillings.specs.Fillings.{Shown, seen, unseen, Config}
use Rattle.fillings.specs.Outputs.{output}
use Rattle.ticks.specs.Traces.{Trace, shown}

-- What a verdict reads of a tick: the sum of cells and the current of its sample, or nothing, inside a hole.
abbrev pub tick_of : Shown → Tick
tick_of (seen x) = Seen (sum x.volts) x.current
tick_of unseen = Unseen

-- The bits 4000h, 1000h and 0800h once the first k ticks have passed.
abbrev pub alarms_at : Config → (ℕ → Shown) → ℕ → Alarms
alarms_at p trace k =
    record {
      terminate_charge = output (drivers TerminateChargeAlarm) p trace k;
      over_temp = output (drivers OverTempAlarm) p trace k;
      terminate_discharge = output (drivers TerminateDischargeAlarm) p trace k;
    }

-- The verdict on a reply.
abbrev pub verdict_on : Config → (ℕ → Shown) → Reply → ℕ
verdict_on p trace r = verdict_of (tick_of (trace r.tick)) (alarms_at p trace (suc r.tick)) r.bytes

-- The verdicts of a trace, one a reply.
unfoldable pub trace_verdicts : Trace → List ℕ
trace_verdicts tr = map (verdict_on tr.config (shown tr)) tr.replies
