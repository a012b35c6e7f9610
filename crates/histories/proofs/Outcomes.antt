-- What an accepted call says of its checks.
use Prim.Native.Nat.{ℕ, ◌+◌}
use mathlib.Core.Path.{◌≡◌, refl, sym}
use mathlib.Core.Bool.{Bool, true, false, cond, ◌&&◌}
use mathlib.Core.List.{List}
use lib.Dec.{ltb, leb, eqb}
use lib.ListN.{length}
use borrow.Author.Tests.{ltb-true, leb-true, eqb-true}
use Rattle.lists.proofs.Bools.{both_true}
use Rattle.refusals.specs.Refusals.{answer, and_then}
use Rattle.refusals.proofs.Answers.{where_true, answered}
use Rattle.rules.specs.Samples.{Sample}
use Rattle.recording.specs.Recorder.{AfterOffer, AfterDrain, is_good, has_room, holes_with, stored, dropped, offered, drain_count, drained_by, drained}
use Rattle.recording.specs.inner.Steps.{Good, Fits}
use Rattle.recording.specs.declared.Recorder.{Recorder}
use Rattle.recording.proofs.GoodRecords.{good_from}

-- An offer that is accepted: the sample is stored or dropped, with k holes.
module _ (r : Recorder) (store : List ℕ) (tick : ℕ) (x : Sample) where
  abbrev Passed : Type 0
  Passed = Good r (length store) × Fits r tick (length x.volts) (length x.temps)

  pub offer_cases : {P : Type 0} (a : AfterOffer) → offered r store tick x ≡ answer a
      → (Passed → (k : ℕ) → has_room r ≡ true → holes_with r store tick ≡ answer k → a ≡ stored r store tick x k → P)
      → (Passed → (k : ℕ) → has_room r ≡ false → holes_with r store (tick + 1) ≡ answer k → a ≡ dropped r store tick k → P)
      → P
  unfolding offered
  offer_cases {P} a h keep drop =
      let (good, h₁) = where_true (is_good r (length store)) 16 0 _ h in
      let (both, h₂) = where_true (eqb (length x.volts) r.cells && eqb (length x.temps) r.cells) 15 0 _ h₁ in
      let (ticks, h₃) = where_true (leb r.next tick && ltb tick 0xFFFFFFFF) 9 r.next _ h₂ in
      let (v, t) = both_true (eqb (length x.volts) r.cells) (eqb (length x.temps) r.cells) both in
      let (n, l) = both_true (leb r.next tick) (ltb tick 0xFFFFFFFF) ticks in
      let passed : Passed = (
        good_from r (length store) good,
        record {
          volts = eqb-true (length x.volts) r.cells v;
          temps = eqb-true (length x.temps) r.cells t;
          passed = leb-true r.next tick n;
          last = ltb-true tick 0xFFFFFFFF l;
        },
      ) in
      go passed (has_room r) refl h₃
    where
      go : Passed → (b : Bool) → has_room r ≡ b
          → cond b (and_then (holes_with r store tick) (λ k. answer (stored r store tick x k))) (and_then (holes_with r store (tick + 1)) (λ k. answer (dropped r store tick k))) ≡ answer a → P
      go p true e h = answered (holes_with r store tick) _ P h (λ k f g. keep p k e f (let z : stored r store tick x k ≡ a = cc in sym z))
      go p false e h = answered (holes_with r store (tick + 1)) _ P h (λ k f g. drop p k e f (let z : dropped r store tick k ≡ a = cc in sym z))

pub drain_case : (r : Recorder) (store buffer : List ℕ) (a : AfterDrain) → drained r store buffer ≡ answer a → Good r (length store) × (a ≡ drained_by r store buffer (drain_count r buffer))
unfolding drained
drain_case r store buffer a h =
    let (good, h₁) = where_true (is_good r (length store)) 16 0 _ h in
    let e : drained_by r store buffer (drain_count r buffer) ≡ a = cc in
    (good_from r (length store) good, sym e)
