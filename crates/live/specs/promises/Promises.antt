-- Paper 01, 'Live feed': a state that the calls answer is a good one, and fed an accepted trace's samples and holes by tick the feed ends with what the trace gives.
use Rattle.std.specs.Prelude.{ℕ, zero, suc, ◌+◌, ◌≡◌, cond, List, [], ◌∷◌, T, ltb, length}
use Rattle.refusals.specs.Refusals.{Answer, answer, and_then}
use Rattle.rules.specs.Samples.{Sample, I16}
use Rattle.trace.specs.Records.{Hole, Stamped}
use Rattle.trace.specs.Sections.{rules_part}
use Rattle.trace.specs.Acceptance.{Parsed, accept_answer}
use Rattle.states.specs.promises.Tracking.{record_at}
use Rattle.flags.specs.declared.Output.{Output}
use Rattle.flags.specs.Flags.{number_of}
use Rattle.flags.specs.Outputs.{drivers}
use Rattle.fillings.specs.Flags.{flags_at}
use Rattle.fillings.specs.Outputs.{output}
use Rattle.fillings.specs.Charge.{least_charge, greatest_charge}
use Rattle.ticks.specs.Traces.{Trace, trace_of, shown}
use Rattle.demands.specs.Report.{totals_at}
use Rattle.live.specs.declared.Live.{Live}
use Rattle.live.specs.State.{good}
use Rattle.live.specs.Calls.{begin_state, begin_answer, sample_answer, sample_state, hole_answer, hole_state, flags_read, output_read, totals_read, net_read}

-- A beginning answers a good state, refused or not, and from a good state every call answers a good one again.
pub record StaysGood : Type 0 where
  pub begins : (n idle : ℕ) (bytes : List ℕ) → T (good (begin_state n idle bytes))
  pub sees : (s : Live) (tick : ℕ) (x : Sample) → I16 x.current → T (good s) → T (good (sample_state s tick x))
  pub misses : (s : Live) (last : ℕ) → T (good s) → T (good (hole_state s last))

-- A record that is fed: a sample with its tick, or a hole.
pub data Event : Type 0 where
  sample : Stamped → Event
  hole : Hole → Event

-- The holes and samples of a trace by tick, up to k of them: the one with the lower tick first.
unfoldable pub by_tick : ℕ → List Hole → List Stamped → List Event
by_tick zero hs xs = []
by_tick (suc k) [] [] = []
by_tick (suc k) [] (x ∷ xs) = sample x ∷ by_tick k [] xs
by_tick (suc k) (h ∷ hs) [] = hole h ∷ by_tick k hs []
by_tick (suc k) (h ∷ hs) (x ∷ xs) = cond (ltb h.first x.tick) (hole h ∷ by_tick k hs (x ∷ xs)) (sample x ∷ by_tick k (h ∷ hs) xs)

-- All of them.
abbrev pub events_of : Trace → List Event
events_of tr = by_tick (length tr.holes + length tr.samples) tr.holes tr.samples

-- What the call for a record answers, and the state after it.
abbrev pub feed_answer : Live → Event → Answer (Unit {0})
feed_answer s (sample x) = sample_answer s x.tick x.sample
feed_answer s (hole h) = hole_answer s h.last

abbrev pub feed_state : Live → Event → Live
feed_state s (sample x) = sample_state s x.tick x.sample
feed_state s (hole h) = hole_state s h.last

-- The state after records fed one by one, or the first refusal.
unfoldable pub feed : Live → List Event → Answer Live
feed s [] = answer s
feed s (e ∷ es) = and_then (feed_answer s e) (λ taken. feed (feed_state s e) es)

-- What the trace gives: its head and rules, its possible states and its totals at its end.
abbrev pub end_of : Trace → Live
end_of tr =
    record {
      cells = tr.config.cells;
      idle = tr.config.idle;
      settings = record { of = tr.config.settings };
      states = record { words = record_at tr.config (shown tr) tr.ticks };
      totals = totals_at (shown tr) tr.ticks;
    }

-- What the reading calls answer at the end of a trace is what the trace gives.
pub record ReadsTrace (tr : Trace) : Type 0 where
  pub flags : flags_read (end_of tr) ≡ flags_at tr.config (shown tr) tr.ticks
  pub outputs : (o : Output) → output_read (end_of tr) o ≡ answer (number_of (output (drivers o) tr.config (shown tr) tr.ticks))
  pub totals : totals_read (end_of tr) ≡ answer (totals_at (shown tr) tr.ticks)
  pub net : net_read (end_of tr) ≡ answer (record { least = least_charge (shown tr) tr.ticks; greatest = greatest_charge (shown tr) tr.ticks })

-- Fed an accepted trace from its own beginning, no call refuses, the state ends with the trace's possible states and totals, and the reading calls give its flags, outputs, bits, totals and net charge bounds.
abbrev pub FedTrace : Type 0
FedTrace = (s : List ℕ) (w : Parsed) → accept_answer s ≡ answer w
    → (begin_answer w.layout.cells w.layout.idle (rules_part s) ≡ answer tt)
    × (feed (begin_state w.layout.cells w.layout.idle (rules_part s)) (events_of (trace_of s w)) ≡ answer (end_of (trace_of s w)))
    × ReadsTrace (trace_of s w)
