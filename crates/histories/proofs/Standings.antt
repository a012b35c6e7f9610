-- How a recorder stands after any calls, and that each call keeps it so.
use Prim.Native.Nat.{ℕ, ◌+◌, ◌-◌, ◌*◌, ◌≤◌, ◌<◌}
use mathlib.Core.Path.{◌≡◌, refl, sym, ap, ap₂, subst, ◌∙◌}
use mathlib.Core.Bool.{true}
use mathlib.Core.List.{List, [], ◌∷◌, ◌++◌}
use native.Mathlib.Omega.{arith}
use native.Mathlib.Numerals.{add-one}
use lib.ListN.{length, take, drop, length-append, length-drop}
use lib.Seq.{take-append-le, take-add, length-take-le}
use Rattle.lists.specs.Lists.{Every}
use Rattle.refusals.specs.Refusals.{answer}
use Rattle.bytes_le.specs.Numbers.{spaced}
use Rattle.bytes_le.specs.Writing.{put_at}
use Rattle.bytes_le.proofs.Copying.{put_read, put_long}
use Rattle.rules.specs.Samples.{Sample}
use Rattle.trace.specs.Records.{Stamped, sample_width, holes_from}
use Rattle.trace.specs.Writing.{each_bytes, sample_bytes}
use Rattle.trace.proofs.EachBytes.{each_append, each_long}
use Rattle.trace.proofs.SampleBytes.{Carries, sample_written}
use Rattle.ticks.specs.inner.Places.{done}
use Rattle.recording.specs.Recorder.{stamped, slot_of, has_room, holes_with, store_with, stored, dropped, oldest, bytes_from, drain_count, drained_by}
use Rattle.recording.specs.inner.Steps.{Good}
use Rattle.recording.specs.declared.Recorder.{Recorder}
use Rattle.recording.proofs.GoodRecords.{room_facts, slot_within}
use Rattle.recording.proofs.Turns.{whole_fit}
use Rattle.histories.specs.Calls.{Standing}
use Rattle.histories.proofs.LongerPlaces.{sample_more}
use Rattle.histories.proofs.StoredHoles.{holes_kept}
use Rattle.histories.proofs.UnseenTicks.{Covers, unseen_put}
use Rattle.histories.proofs.StoredSamples.{Kept, kept_beside, kept_more, oldest_kept}
use Rattle.histories.proofs.EveryElement.{every_append, every_take, every_drop}

-- A recorder of n cells that stored the samples xs.
pub record Stands (n : ℕ) (s : Standing) (xs : List Stamped) : Type 0 where
  pub cells : s.recorder.cells ≡ n
  pub low : s.recorder.next ≤ 0xFFFFFFFF
  pub covers : Covers s.store s.recorder.holes s.recorder.next xs
  pub ever : length xs ≡ s.recorder.ever
  pub few : s.recorder.ever ≤ 65535
  pub room : s.recorder.stored ≤ s.recorder.number
  pub undrained : s.recorder.stored ≤ s.recorder.ever
  pub carried : Every (Carries n) xs
  pub kept : Kept s.recorder s.store s.recorder.ever s.recorder.stored xs
  pub drained : s.drained ≡ each_bytes sample_bytes (take (length xs - s.recorder.stored) xs)

pub stands_fresh : (n number : ℕ) (store : List ℕ)
    → Stands n (record { recorder = record { cells = n; number = number; next = 0; holes = 0; stored = 0; ever = 0 }; store = store; drained = [] }) []
unfolding spaced each_bytes
stands_fresh n number store =
    record {
      cells = refl;
      low = omega arith;
      covers = record { few = omega arith; long = omega arith; place = done; ascends = tt };
      ever = refl;
      few = omega arith;
      room = omega arith;
      undrained = omega arith;
      carried = tt;
      kept = record { as_offered = λ j a b. absurd (omega arith) };
      drained = refl;
    }

module _ (n : ℕ) (s : Standing) (xs : List Stamped) (now : Stands n s xs) where
  abbrev r : Recorder
  r = s.recorder

  -- A sample that is dropped.
  pub after_drop : (tick k : ℕ) → Good r (length s.store) → r.next ≤ tick → tick < 0xFFFFFFFF → holes_with r s.store (tick + 1) ≡ answer k
      → Stands n (record { recorder = (dropped r s.store tick k).recorder; store = (dropped r s.store tick k).store; drained = s.drained }) xs
  after_drop tick k good forth last h =
      let (covers, same) = unseen_put r s.store (tick + 1) xs (omega (arith, good.room)) now.covers (omega arith) (omega arith) k h in
      record {
        cells = now.cells;
        low = omega arith;
        covers = covers;
        ever = now.ever;
        few = now.few;
        room = now.room;
        undrained = now.undrained;
        carried = now.carried;
        kept = record { as_offered = (kept_beside r s.store (store_with r s.store (tick + 1)) r.ever r.stored xs same now.kept).as_offered };
        drained = now.drained;
      }

  -- A sample that is stored.
  pub after_store : (tick k : ℕ) (x : Sample) → Good r (length s.store) → r.next ≤ tick → tick < 0xFFFFFFFF → Carries n (stamped tick x) → has_room r ≡ true → holes_with r s.store tick ≡ answer k
      → Stands n (record { recorder = (stored r s.store tick x k).recorder; store = (stored r s.store tick x k).store; drained = s.drained }) (xs ++ (stamped tick x ∷ []))
  after_store tick k x good forth last carries room h =
      let y : Stamped = stamped tick x in
      let mid : List ℕ = store_with r s.store tick in
      let (covers, same) = unseen_put r s.store tick xs (omega (arith, good.room)) now.covers forth (omega arith) k h in
      let good' : Good r (length mid) = subst (Good r) (sym same.long) good in
      let (a, b) = room_facts r room in
      let wide : length (sample_bytes y) ≡ sample_width r.cells = (sample_written n).long y carries ∙ ap sample_width (sym now.cells) in
      let within = slot_within good' (omega arith) r.ever in
      let read = holes_kept mid (slot_of r r.ever) (sample_bytes y) (omega arith) k (omega (arith, covers.few)) in
      let count : length (xs ++ (y ∷ [])) ≡ r.ever + 1 = omega (arith, length-append xs (y ∷ []), now.ever) in
      let more = kept_more r mid r.ever r.stored xs y good' a now.ever wide (kept_beside r s.store mid r.ever r.stored xs same now.kept) in
      let left : length (xs ++ (y ∷ [])) - (r.stored + 1) ≡ length xs - r.stored = omega (arith, now.ever) in
      record {
        cells = now.cells;
        low = omega arith;
        covers = record {
          few = covers.few;
          long = omega (arith, covers.long, put_long mid (slot_of r r.ever) (sample_bytes y));
          place = rw (read, add-one tick) (sample_more (holes_from mid k 0) xs 0 covers.place y refl last);
          ascends = rw read covers.ascends;
        };
        ever = count;
        few = omega arith;
        room = omega arith;
        undrained = omega (arith, now.undrained);
        carried = every_append (Carries n) xs y now.carried carries;
        kept = record { as_offered = more.as_offered };
        drained = rw left (now.drained ∙ ap (each_bytes sample_bytes) (sym (take-append-le (length xs - r.stored) xs (y ∷ []) (omega arith))));
      }

  -- A drain.
  pub after_drain_lem : (buffer : List ℕ) → Good r (length s.store)
      → Stands n (record {
        recorder = (drained_by r s.store buffer (drain_count r buffer)).recorder;
        store = s.store;
        drained = s.drained ++ take (drain_count r buffer * sample_width r.cells) (put_at buffer 0 (bytes_from r s.store (drain_count r buffer) (oldest r)));
      }) xs
  after_drain_lem buffer good =
      let k : ℕ = drain_count r buffer in
      let i : ℕ = length xs - r.stored in
      let (few, fits) = whole_fit r buffer k refl in
      let bytes : List ℕ = bytes_from r s.store k (oldest r) in
      let ys : List Stamped = take k (drop i xs) in
      let is : bytes ≡ each_bytes sample_bytes ys = oldest_kept r s.store xs now.kept now.ever now.undrained now.room k few in
      let count : length ys ≡ k = length-take-le k (drop i xs) (omega (arith, length-drop i xs, now.ever, now.undrained)) in
      let wide : length bytes ≡ k * sample_width r.cells =
      ap length is ∙ each_long (sample_written n) ys (every_take (Carries n) k (drop i xs) (every_drop (Carries n) i xs now.carried)) ∙ ap₂ (λ c m. c * sample_width m) count (sym now.cells) in
      let handed : take (k * sample_width r.cells) (put_at buffer 0 bytes) ≡ bytes = ap (λ m. take m (put_at buffer 0 bytes)) (sym wide) ∙ put_read buffer bytes (omega arith) in
      let left : length xs - (r.stored - k) ≡ i + k = omega (arith, now.ever, now.undrained) in
      record {
        cells = now.cells;
        low = now.low;
        covers = now.covers;
        ever = now.ever;
        few = now.few;
        room = omega (arith, now.room);
        undrained = omega (arith, now.undrained);
        carried = now.carried;
        kept = record { as_offered = λ j a b. now.kept.as_offered j (omega arith) b };
        drained =
            rw left
            (ap₂ (λ a b. a ++ b) now.drained (handed ∙ is)
            ∙ sym (each_append sample_bytes (take i xs) ys)
            ∙ ap (each_bytes sample_bytes) (sym (take-add i k xs)));
      }
