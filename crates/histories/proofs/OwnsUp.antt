-- Any calls from a fresh start own up to every tick.
use Prim.Native.Nat.{ℕ, ◌+◌, ◌-◌, ◌*◌, ◌/◌, ◌≤◌}
use mathlib.Core.Path.{◌≡◌, refl, sym, ap, subst, ◌∙◌}
use mathlib.Core.List.{List, [], ◌∷◌, ◌++◌, append-nil, append_assoc}
use native.Mathlib.Omega.{arith}
use native.Mathlib.Nat.{div-eq_of_eq-mul_left}
use lib.ListN.{length, take, drop, take-append-drop, length-drop}
use lib.Seq.{length-take-le, take_all}
use Rattle.lists.specs.Lists.{Every}
use Rattle.refusals.specs.Refusals.{Answer, answer, refused}
use Rattle.refusals.proofs.Answers.{where_true}
use Rattle.bytes_le.specs.Numbers.{spaced}
use Rattle.bytes_le.proofs.Spaced.{same_spaced}
use Rattle.rules.specs.Samples.{Sample, cell_count}
use Rattle.trace.specs.Records.{Stamped, sample_width, hole_at, stamped_at, holes_from, holes_in}
use Rattle.trace.specs.Coverage.{replies_answer}
use Rattle.trace.specs.Acceptance.{Parsed, accept_answer}
use Rattle.trace.specs.Writing.{each_bytes, sample_bytes, Start, WholeRecords}
use Rattle.trace.proofs.EachBytes.{Held, each_held}
use Rattle.trace.proofs.PartRecords.{hole_within}
use Rattle.trace.proofs.SampleBytes.{Carries, sample_written}
use Rattle.ticks.specs.Traces.{Trace, trace_of, Accepted}
use Rattle.ticks.specs.promises.Promises.{written_trace}
use Rattle.ticks.proofs.AscendingHoles.{in_order}
use Rattle.ticks.proofs.Cuts.{covers}
use Rattle.ticks.proofs.WrittenTraces.{start_sound, written_trace_lem}
use Rattle.recording.specs.Recorder.{AfterOffer, AfterDrain, stamped, offered, drained}
use Rattle.histories.specs.Calls.{Call, offer, drain, Typed, Standing, fresh, after, after_all, stored_by, stored_in}
use Rattle.histories.specs.promises.OwningUp.{holes_of, recorded, OwnsUp, OwningUp}
use Rattle.histories.proofs.CountedOnce.{counted_once, counted_none}
use Rattle.histories.proofs.StoredSamples.{oldest_kept}
use Rattle.histories.proofs.Outcomes.{offer_cases, drain_case}
use Rattle.histories.proofs.Standings.{Stands, stands_fresh, after_drop, after_store, after_drain_lem}

-- One call.
module _ (n : ℕ) (s : Standing) (xs : List Stamped) (now : Stands n s xs) where
  offered_next : (tick : ℕ) (x : Sample) → Typed (offer tick x) → Stands n (after s (offer tick x)) (xs ++ stored_by s (offer tick x))
  offered_next tick x (current, board, volts, temps) = go (offered s.recorder s.store tick x) refl
    where
      go : (a : Answer AfterOffer) → offered s.recorder s.store tick x ≡ a → Stands n (after s (offer tick x)) (xs ++ stored_by s (offer tick x))
      go (refused p q) e = rw (e, append-nil xs) now
      go (answer a) e =
          offer_cases s.recorder s.store tick x a e
          (λ (good, fits) k room h is.
          let v : length x.volts ≡ n = fits.volts ∙ now.cells in
          let t : length x.temps ≡ n = fits.temps ∙ now.cells in
          let last = fits.last in
          let carries : Carries n (stamped tick x) = (record { current = current; board = board; cells = v; volts = volts; sensors = t; temps = temps }, omega arith) in
          rw (e, is) (after_store n s xs now tick k x good fits.passed fits.last carries room h))
          (λ (good, fits) k room h is. rw (e, is, append-nil xs) (after_drop n s xs now tick k good fits.passed fits.last h))

  drained_next : (buffer : List ℕ) → Stands n (after s (drain buffer)) (xs ++ stored_by s (drain buffer))
  drained_next buffer = go (drained s.recorder s.store buffer) refl
    where
      go : (a : Answer AfterDrain) → drained s.recorder s.store buffer ≡ a → Stands n (after s (drain buffer)) (xs ++ stored_by s (drain buffer))
      go (refused p q) e =
          let none : 0 * sample_width s.recorder.cells ≡ 0 = omega arith in
          rw (e, none, append-nil xs, append-nil s.drained) now
      go (answer a) e =
          let (good, is) = drain_case s.recorder s.store buffer a e in
          rw (e, is, append-nil xs) (after_drain_lem n s xs now buffer good)

  next : (c : Call) → Typed c → Stands n (after s c) (xs ++ stored_by s c)
  next (offer tick x) t = offered_next tick x t
  next (drain buffer) t = drained_next buffer

-- Any calls.
all_next : (n : ℕ) (s : Standing) (xs : List Stamped) → Stands n s xs → (cs : List Call) → Every Typed cs → Stands n (after_all s cs) (xs ++ stored_in s cs)
unfolding after_all stored_in
all_next n s xs now [] t = rw (append-nil xs) now
all_next n s xs now (c ∷ cs) (t, ts) =
    rw (← append_assoc xs (stored_by s c) (stored_in (after s c) cs)) (all_next n (after s c) (xs ++ stored_by s c) (next n s xs now c t) cs ts)

-- The holes of a store are whole records, which read the same by themselves.
module _ (store : List ℕ) (k : ℕ) (few : k ≤ 1024) (long : 8 * k ≤ length store) where
  abbrev part : List ℕ
  part = take (8 * k) store

  wide : length part ≡ k * 8
  wide = (let e : 8 * k ≡ k * 8 = omega arith in length-take-le (8 * k) store long ∙ e)

  count : length part / 8 ≡ k
  count = div-eq_of_eq-mul_left (omega arith) wide

  holes_whole : WholeRecords 8 part
  holes_whole = record { whole = rw count (sym wide); few = rw count (omega arith) }

  holes_same : holes_in part ≡ holes_from store k 0
  holes_same =
      let l = wide in
      let q : List ℕ = drop (8 * k) store in
      ap (λ m. holes_from part m 0) count
      ∙ sym (same_spaced (hole_at (part ++ q)) 8 (hole_at part) (8 * k) (λ x h. hole_within part q x (omega arith)) k 0 (omega arith))
      ∙ ap (λ t. holes_from t k 0) (take-append-drop (8 * k) store)

-- The trace once all is drained.
module _ (n : ℕ) (s : Standing) (xs : List Stamped) (now : Stands n s xs) (empty : s.recorder.stored ≡ 0) (start : List ℕ) (ok : Start n start) where
  abbrev A : List ℕ
  A = take (8 * s.recorder.holes) s.store

  all_drained : s.drained ≡ each_bytes sample_bytes xs
  all_drained = now.drained ∙ ap (each_bytes sample_bytes) (take_all (length xs - s.recorder.stored) xs (omega arith))

  samples_held : Held (stamped_at n) (sample_width n) xs s.drained
  samples_held = rw all_drained (each_held (sample_written n) (omega arith) xs now.carried (omega (arith, now.ever, now.few)))

  abbrev trace : Trace
  trace = record { config = (written_trace n start A [] s.drained 0).config; holes = holes_of s; replies = []; samples = xs; ticks = s.recorder.next }

  same : written_trace n start A [] s.drained s.recorder.next ≡ trace
  unfolding spaced
  same = rw (holes_same s.store s.recorder.holes now.covers.few now.covers.long, samples_held.records) refl

  good : Accepted trace
  unfolding replies_answer
  good =
      record {
        rules = start_sound ok;
        holes = in_order (holes_of s) 0 0 now.covers.ascends;
        covered = covers (length (holes_of s) + length xs) (holes_of s) xs 0 now.covers.place now.covers.ascends refl;
        replies = refl;
      }

  none : WholeRecords 10 []
  none = record { whole = refl; few = omega arith }

  judged : (w : Parsed)
      × (accept_answer (recorded start n s) ≡ answer w)
      × (w.ticks ≡ s.recorder.next)
      × ((trace_of (recorded start n s) w).holes ≡ holes_of s)
      × ((trace_of (recorded start n s) w).replies ≡ [])
      × ((trace_of (recorded start n s) w).samples ≡ xs)
  judged =
      let (w, a, b) = written_trace_lem n start A [] s.drained s.recorder.next ok (holes_whole s.store s.recorder.holes now.covers.few now.covers.long) none samples_held.whole (subst Accepted (sym same) good) in
      let e : trace_of (recorded start n s) w ≡ trace = b ∙ same in
      (w, a, ap (λ t. t.ticks) e, ap (λ t. t.holes) e, ap (λ t. t.replies) e, ap (λ t. t.samples) e)

owns_up : (n : ℕ) (s : Standing) (xs : List Stamped) → Stands n s xs → OwnsUp n s xs
owns_up n s xs now =
    let place = now.covers.place in
    record {
      once = λ t l. counted_once (holes_of s) xs 0 place now.covers.ascends t (omega arith) l;
      none = λ t l. counted_none (holes_of s) xs 0 place t l;
      ever = now.ever;
      drained = now.drained;
      stored =
          oldest_kept s.recorder s.store xs now.kept now.ever now.undrained now.room s.recorder.stored (omega arith)
          ∙ ap (each_bytes sample_bytes) (take_all s.recorder.stored (drop (length xs - s.recorder.stored) xs) (omega (arith, length-drop (length xs - s.recorder.stored) xs, now.ever, now.undrained)));
      accepted = judged n s xs now;
    }

pub owning_up : OwningUp
owning_up n number r store calls e typed =
    let (c, f) = where_true (cell_count n) 3 0 _ e in
    let is : record { cells = n; number = number; next = 0; holes = 0; stored = 0; ever = 0 } ≡ r = cc in
    let start : Stands n (fresh r store) [] = rw (← is) (stands_fresh n number store) in
    owns_up n (after_all (fresh r store) calls) (stored_in (fresh r store) calls) (all_next n (fresh r store) [] start calls typed)
