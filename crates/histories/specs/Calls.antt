-- Paper 02, item 1: any calls of a recorder from a fresh start, with nobody else writing record or store. What each leaves is what its contract says.
use Rattle.std.specs.Prelude.{ℕ, zero, suc, ◌*◌, List, [], ◌∷◌, ◌++◌, take}
use Rattle.lists.specs.Lists.{Every}
use Rattle.refusals.specs.Refusals.{Answer, answer, refused}
use Rattle.rules.specs.Samples.{Sample, U16, I16}
use Rattle.trace.specs.Records.{Stamped, sample_width}
use Rattle.recording.specs.Recorder.{AfterDrain, stamped, offered, offer_answer, recorder_after_offer, store_after_offer, drained, drain_answer, recorder_after_drain, buffer_after_drain}
use Rattle.recording.specs.declared.Recorder.{Recorder}

-- An offer of a tick's sample, or a drain into a buffer.
pub data Call : Type 0 where
  offer : ℕ → Sample → Call
  drain : List ℕ → Call

-- Readings that their types hold; any tick and any lengths.
abbrev pub Typed : Call → Type 0
Typed (offer tick x) = I16 x.current × I16 x.board × Every U16 x.volts × Every I16 x.temps
Typed (drain buffer) = Unit {0}

-- What stands after some calls: the record, the store, and all bytes that were drained, in order.
pub record Standing : Type 0 where
  pub recorder : Recorder
  pub store : List ℕ
  pub drained : List ℕ

-- A fresh record beside any store.
abbrev pub fresh : Recorder → List ℕ → Standing
fresh r store = record { recorder = r; store = store; drained = [] }

-- The number that a call answered; 0 where it was refused.
abbrev pub number_in : Answer ℕ → ℕ
number_in (answer k) = k
number_in (refused number place) = 0

-- The bytes that a drain handed over: of the buffer, as many samples as it answered.
abbrev pub handed_over : ℕ → List ℕ → Answer AfterDrain → List ℕ
handed_over n buffer a = take (number_in (drain_answer a) * sample_width n) (buffer_after_drain buffer a)

-- What stands after one call, by the calls' contracts.
abbrev pub after : Standing → Call → Standing
after s (offer tick x) =
    record {
      recorder = recorder_after_offer s.recorder (offered s.recorder s.store tick x);
      store = store_after_offer s.store (offered s.recorder s.store tick x);
      drained = s.drained;
    }
after s (drain buffer) =
    record {
      recorder = recorder_after_drain s.recorder (drained s.recorder s.store buffer);
      store = s.store;
      drained = s.drained ++ handed_over s.recorder.cells buffer (drained s.recorder s.store buffer);
    }

-- What stands after a list of calls.
unfoldable pub after_all : Standing → List Call → Standing
after_all s [] = s
after_all s (c ∷ cs) = after_all (after s c) cs

-- A sample whose offer was answered 0 is stored.
abbrev pub stored_if : Answer ℕ → Stamped → List Stamped
stored_if (answer zero) x = x ∷ []
stored_if (answer (suc k)) x = []
stored_if (refused number place) x = []

abbrev pub stored_by : Standing → Call → List Stamped
stored_by s (offer tick x) = stored_if (offer_answer (offered s.recorder s.store tick x)) (stamped tick x)
stored_by s (drain buffer) = []

-- The samples that a list of calls stored, as they were offered and in that order.
unfoldable pub stored_in : Standing → List Call → List Stamped
stored_in s [] = []
stored_in s (c ∷ cs) = stored_by s c ++ stored_in (after s c) cs
