-- What is promised of any calls from a fresh start (paper 02, item 1).
use Rattle.std.specs.Prelude.{ℕ, ◌+◌, ◌-◌, ◌*◌, ◌≤◌, ◌<◌, ◌≡◌, cond, ◌&&◌, List, [], ◌∷◌, leb, eqb, length, take, drop}
use Rattle.lists.specs.Lists.{Every}
use Rattle.refusals.specs.Refusals.{answer}
use Rattle.trace.specs.Records.{Hole, Stamped, holes_from}
use Rattle.trace.specs.Acceptance.{Parsed, accept_answer}
use Rattle.trace.specs.Writing.{each_bytes, sample_bytes, trace_bytes, Start}
use Rattle.ticks.specs.Traces.{trace_of}
use Rattle.recording.specs.Recorder.{start_answer, bytes_from, oldest}
use Rattle.recording.specs.declared.Recorder.{Recorder}
use Rattle.histories.specs.Calls.{Call, Typed, Standing, fresh, after_all, stored_in}

-- How many samples bear a tick.
abbrev pub bearing : List Stamped → ℕ → ℕ
bearing [] t = 0
bearing (x ∷ xs) t = cond (eqb x.tick t) 1 0 + bearing xs t

-- How many holes a tick is in.
abbrev pub containing : List Hole → ℕ → ℕ
containing [] t = 0
containing (h ∷ hs) t = cond (leb h.first t && leb t h.last) 1 0 + containing hs t

-- The holes that stand in the store.
abbrev pub holes_of : Standing → List Hole
holes_of s = holes_from s.store s.recorder.holes 0

-- The trace of first 166 bytes (head and rules), the store's holes, no replies, and the drained samples in order.
abbrev pub recorded : List ℕ → ℕ → Standing → List ℕ
recorded start n s = trace_bytes start n (take (8 * s.recorder.holes) s.store) [] s.drained

-- How a recorder of n cells stands that stored the samples xs.
pub record OwnsUp (n : ℕ) (s : Standing) (xs : List Stamped) : Type 0 where
  -- every tick so far is in exactly one sample, drained or stored, or in exactly one hole, and no other tick is in any
  pub once : (t : ℕ) → t < s.recorder.next → bearing xs t + containing (holes_of s) t ≡ 1
  pub none : (t : ℕ) → s.recorder.next ≤ t → bearing xs t + containing (holes_of s) t ≡ 0
  -- samples are drained oldest first and as offered; the others are in the store
  pub ever : length xs ≡ s.recorder.ever
  pub drained : s.drained ≡ each_bytes sample_bytes (take (length xs - s.recorder.stored) xs)
  pub stored : bytes_from s.recorder s.store s.recorder.stored (oldest s.recorder) ≡ each_bytes sample_bytes (drop (length xs - s.recorder.stored) xs)
  -- once all is drained the judge accepts the trace, with as many ticks as were passed, those holes, no replies and those samples
  pub accepted : s.recorder.stored ≡ 0 → (start : List ℕ) → Start n start
      → (w : Parsed)
      × (accept_answer (recorded start n s) ≡ answer w)
      × (w.ticks ≡ s.recorder.next)
      × ((trace_of (recorded start n s) w).holes ≡ holes_of s)
      × ((trace_of (recorded start n s) w).replies ≡ [])
      × ((trace_of (recorded start n s) w).samples ≡ xs)

-- Any calls from a fresh start, beside any store.
abbrev pub OwningUp : Type 0
OwningUp =
    (n number : ℕ) (r : Recorder) (store : List ℕ) (calls : List Call)
    → start_answer n number ≡ answer r → Every Typed calls
    → OwnsUp n (after_all (fresh r store) calls) (stored_in (fresh r store) calls)
