-- The recorder for a caller that keeps its record as six numbers: cells, number, next tick, holes, stored and undrained, ever stored.
use Rattle.std.specs.Prelude.{ℕ, cond, List, [], ◌∷◌, eqb, length, get_or}
use Rattle.refusals.specs.Refusals.{Answer, answer, refused, and_then, or_kept}
use Rattle.rules.specs.Samples.{Sample}
use Rattle.recording.specs.Recorder.{AfterOffer, AfterDrain, start_answer, offered, drained}
use Rattle.recording.specs.declared.Recorder.{Recorder}

-- The numbers of a record.
abbrev pub numbers_of : Recorder → List ℕ
numbers_of r = r.cells ∷ r.number ∷ r.next ∷ r.holes ∷ r.stored ∷ r.ever ∷ []

-- The record of six numbers.
abbrev pub recorder_of : List ℕ → Recorder
recorder_of six =
    record { cells = get_or six 0 0; number = get_or six 1 0; next = get_or six 2 0; holes = get_or six 3 0; stored = get_or six 4 0; ever = get_or six 5 0 }

-- A start: 3, then 15 unless six numbers are lent.
abbrev pub start_call : ℕ → ℕ → List ℕ → Answer Recorder
start_call cells number six = and_then (start_answer cells number) (λ r. cond (eqb (length six) 6) (answer r) (refused 15 0))

abbrev pub numbers_after_start : List ℕ → Answer Recorder → List ℕ
numbers_after_start six a = or_kept a numbers_of six

-- An offer: 16 unless six numbers are lent, before all else.
abbrev pub offer_call : List ℕ → List ℕ → ℕ → Sample → Answer AfterOffer
offer_call six store tick x = cond (eqb (length six) 6) (offered (recorder_of six) store tick x) (refused 16 0)

abbrev pub numbers_after_offer : List ℕ → Answer AfterOffer → List ℕ
numbers_after_offer six a = or_kept a (λ after. numbers_of after.recorder) six

-- A drain in the same way.
abbrev pub drain_call : List ℕ → List ℕ → List ℕ → Answer AfterDrain
drain_call six store buffer = cond (eqb (length six) 6) (drained (recorder_of six) store buffer) (refused 16 0)

abbrev pub numbers_after_drain : List ℕ → Answer AfterDrain → List ℕ
numbers_after_drain six a = or_kept a (λ after. numbers_of after.recorder) six
