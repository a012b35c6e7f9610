-- Each C call on the numbers of a record is the call on that record: so the calls of `histories` can be made through the C functions.
use Rattle.std.specs.Prelude.{ℕ, ◌≡◌, List, length}
use Rattle.rules.specs.Samples.{Sample}
use Rattle.recording.specs.Recorder.{start_answer, offered, recorder_after_offer, drained, recorder_after_drain}
use Rattle.recording.specs.declared.Recorder.{Recorder}
use Rattle.buttmitrel_recorder.specs.Numbers.{numbers_of, start_call, offer_call, numbers_after_offer, drain_call, numbers_after_drain}

pub record KeptInNumbers : Type 0 where
  -- a start of six numbers leaves those of the fresh record
  pub start : (n number : ℕ) (six : List ℕ) → length six ≡ 6 → start_call n number six ≡ start_answer n number
  -- a call on the numbers of a record is the call on that record
  pub offer : (r : Recorder) (store : List ℕ) (tick : ℕ) (x : Sample) → offer_call (numbers_of r) store tick x ≡ offered r store tick x
  pub drain : (r : Recorder) (store buffer : List ℕ) → drain_call (numbers_of r) store buffer ≡ drained r store buffer
  -- and leaves the numbers of the record after it
  pub after_offer : (r : Recorder) (store : List ℕ) (tick : ℕ) (x : Sample)
      → numbers_after_offer (numbers_of r) (offered r store tick x) ≡ numbers_of (recorder_after_offer r (offered r store tick x))
  pub after_drain : (r : Recorder) (store buffer : List ℕ) → numbers_after_drain (numbers_of r) (drained r store buffer) ≡ numbers_of (recorder_after_drain r (drained r store buffer))
