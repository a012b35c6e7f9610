-- One case, computed: three cells and room for two samples. Ticks 0 and 1 are stored, and 1 is refused a second time. After a drain of one sample tick 4 is stored where tick 0 was, and skips 2 and 3; tick 5 finds no room; then all is drained.
use Rattle.std.specs.Prelude.{ℕ, ◌≡◌, List, [], ◌∷◌, ◌++◌, pos, negsuc, replicate}
use Rattle.refusals.specs.Refusals.{answer}
use Rattle.rules.specs.Samples.{Sample, sample_of}
use Rattle.trace.specs.Acceptance.{accept_answer, ticks_of}
use Rattle.recording.specs.Recorder.{stamped}
use Rattle.histories.specs.Calls.{Call, offer, drain, Standing, fresh, after_all, stored_in}
use Rattle.histories.specs.promises.OwningUp.{holes_of, recorded}

abbrev pub reading : Sample
reading = sample_of (negsuc 0) (pos 258) (4300 ∷ 4200 ∷ 4100 ∷ []) (pos 250 ∷ pos 251 ∷ negsuc 9 ∷ [])

abbrev pub begun : Standing
begun = fresh (record { cells = 3; number = 2; next = 0; holes = 0; stored = 0; ever = 0 }) (replicate 8232 0)

abbrev pub calls : List Call
calls = offer 0 reading ∷ offer 1 reading ∷ offer 1 reading ∷ drain (replicate 39 0) ∷ offer 4 reading ∷ offer 5 reading ∷ drain (replicate 60 0) ∷ []

-- The bytes of the reading behind those of its tick.
abbrev pub reading_bytes : List ℕ
reading_bytes = 255 ∷ 255 ∷ 2 ∷ 1 ∷ 204 ∷ 16 ∷ 104 ∷ 16 ∷ 4 ∷ 16 ∷ 250 ∷ 0 ∷ 251 ∷ 0 ∷ 246 ∷ 255 ∷ []

-- Head and rules: three cells, idle 0, every rule off.
abbrev pub start : List ℕ
start = (1 ∷ 3 ∷ 0 ∷ 0 ∷ 16 ∷ 0 ∷ []) ++ replicate 160 0

-- The next tick is 6, two holes stand, from 2 to 3 and at 5, and the trace is accepted with six ticks.
pub record CaseHolds : Type 0 where
  pub recorder : (after_all begun calls).recorder ≡ record { cells = 3; number = 2; next = 6; holes = 2; stored = 0; ever = 3 }
  pub holes : holes_of (after_all begun calls) ≡ record { first = 2; last = 3 } ∷ record { first = 5; last = 5 } ∷ []
  pub stored : stored_in begun calls ≡ stamped 0 reading ∷ stamped 1 reading ∷ stamped 4 reading ∷ []
  pub drained : (after_all begun calls).drained
      ≡ ((0 ∷ 0 ∷ 0 ∷ 0 ∷ []) ++ reading_bytes) ++ (((1 ∷ 0 ∷ 0 ∷ 0 ∷ []) ++ reading_bytes) ++ ((4 ∷ 0 ∷ 0 ∷ 0 ∷ []) ++ reading_bytes))
  pub accepted : ticks_of (accept_answer (recorded start 3 (after_all begun calls))) ≡ answer 6
