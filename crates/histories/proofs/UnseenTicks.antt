-- Unseen ticks put among the holes of a store: the records still cover every tick.
use Prim.Native.Nat.{ℕ, suc, ◌+◌, ◌-◌, ◌*◌, ◌≤◌, ◌<◌}
use mathlib.Core.Path.{◌≡◌, refl, subst}
use mathlib.Core.Bool.{Bool, true, false, cond}
use mathlib.Core.List.{List, [], ◌∷◌, ◌++◌}
use native.Mathlib.Omega.{arith}
use lib.Dec.{ltb, leb, eqb}
use lib.ListN.{length, drop, length-append}
use borrow.Author.Tests.{ltb-true, leb-true, leb-false, eqb-true}
use Rattle.lists.proofs.Bools.{both_true}
use Rattle.refusals.specs.Refusals.{answer, refused}
use Rattle.refusals.proofs.Answers.{clash}
use Rattle.bytes_le.specs.Numbers.{u32_at}
use Rattle.bytes_le.specs.Writing.{bytes_of, put_at}
use Rattle.bytes_le.proofs.ByteLists.{length_bytes}
use Rattle.bytes_le.proofs.Spaced.{length_spaced}
use Rattle.bytes_le.proofs.Copying.{put_long}
use Rattle.trace.specs.Records.{Hole, Stamped, hole_at, holes_from}
use Rattle.ticks.specs.inner.Places.{Place}
use Rattle.ticks.proofs.AscendingHoles.{Ascending}
use Rattle.recording.specs.Recorder.{touches, holes_with, store_with}
use Rattle.recording.specs.declared.Recorder.{Recorder}
use Rattle.histories.proofs.PutParts.{part_behind}
use Rattle.histories.proofs.LongerPlaces as places
use Rattle.histories.proofs.StoredHoles.{hole_new, hole_longer, after_last_lem}

-- A store with k holes, which with the samples xs cover the ticks below m.
pub record Covers (store : List ℕ) (k m : ℕ) (xs : List Stamped) : Type 0 where
  pub few : k ≤ 1024
  pub long : 8 * k ≤ length store
  pub place : Place m (holes_from store k 0) xs 0
  pub ascends : Ascending 0 (holes_from store k 0)

-- A store that is the same but for the room of the holes.
pub record SameSamples (old new : List ℕ) : Type 0 where
  pub long : length new ≡ length old
  pub rest : (at : ℕ) → 8192 ≤ at → drop at new ≡ drop at old

pub same_samples : (s : List ℕ) → SameSamples s s
same_samples s = record { long = refl; rest = λ at h. refl }

put_below : (s : List ℕ) (p : ℕ) (bs : List ℕ) → p + length bs ≤ 8192 → 8192 ≤ length s → SameSamples s (put_at s p bs)
put_below s p bs h long = record { long = put_long s p bs; rest = λ at l. part_behind s p bs (omega arith) at (omega arith) }

module _ (r : Recorder) (store : List ℕ) (end : ℕ) (xs : List Stamped) (long : 8192 ≤ length store) (now : Covers store r.holes r.next xs) (forth : r.next ≤ end) (low : end ≤ 0xFFFFFFFF) where
  abbrev hs : List Hole
  hs = holes_from store r.holes 0

  abbrev Then : ℕ → List ℕ → Type 0
  Then k s = Covers s k end xs × SameSamples store s

  joins : r.next < end → touches r store ≡ true → Then r.holes (put_at store (8 * r.holes - 4) (bytes_of 4 (end - 1)))
  joins l t =
      let (a, b) = both_true (ltb 0 r.holes) (eqb (u32_at store (8 * r.holes - 4) + 1) r.next) t in
      let some : 0 < r.holes = ltb-true 0 r.holes a in
      let k : ℕ = end - 1 in
      let bs = length_bytes 4 k in
      let is = eqb-true (u32_at store (8 * r.holes - 4) + 1) r.next b in
      let after : places.after_last hs ≡ r.next = (let q = after_last_lem store r.holes some in omega arith) in
      let count = length_spaced (hole_at store) 8 r.holes 0 in
      let read = hole_longer store r.holes k some now.long (omega arith) in
      let e : suc k ≡ end = omega arith in
      let place = places.hole_longer hs xs 0 now.place (omega arith) after k (omega arith) (omega arith) in
      let up = places.ascends_longer hs 0 k now.ascends (omega arith) (omega arith) in
      let few = now.few in (
        record {
          few = now.few;
          long = omega (arith, put_long store (8 * r.holes - 4) (bytes_of 4 k), now.long);
          place = rw read (subst (λ m. Place m (places.longer hs k) xs 0) e place);
          ascends = rw read up;
        },
        put_below store (8 * r.holes - 4) (bytes_of 4 k) (omega arith) long,
      )

  opens : r.next < end → r.holes < 1024 → Then (r.holes + 1) (put_at store (8 * r.holes) (bytes_of 4 r.next ++ bytes_of 4 (end - 1)))
  opens l h =
      let k : ℕ = end - 1 in
      let bs : List ℕ = bytes_of 4 r.next ++ bytes_of 4 k in
      let wide : length bs ≡ 8 = omega (arith, length-append (bytes_of 4 r.next) (bytes_of 4 k), length_bytes 4 r.next, length_bytes 4 k) in
      let read = hole_new store r.holes r.next k (omega arith) (omega arith) (omega arith) in
      let e : suc k ≡ end = omega arith in
      let g : Hole = record { first = r.next; last = k } in
      let place = places.hole_more hs xs 0 now.place g refl (omega arith) (omega arith) in
      let up = places.ascends_more hs 0 r.next now.ascends (omega arith) (places.last_low hs xs 0 now.place) g refl (omega arith) (omega arith) in (
        record {
          few = omega arith;
          long = omega (arith, put_long store (8 * r.holes) bs);
          place = rw read (subst (λ m. Place m (hs ++ (g ∷ [])) xs 0) e place);
          ascends = rw read up;
        },
        put_below store (8 * r.holes) bs (omega arith) long,
      )

  pub unseen_put : (k : ℕ) → holes_with r store end ≡ answer k → Then k (store_with r store end)
  unseen_put k h = first (leb end r.next) refl h
    where
      full : (b : Bool) → ltb r.holes 1024 ≡ b → cond b (answer (r.holes + 1)) (refused 17 0) ≡ answer k → r.next < end
          → Then k (put_at store (8 * r.holes) (bytes_of 4 r.next ++ bytes_of 4 (end - 1)))
      full true e h l = let f : r.holes + 1 ≡ k = cc in rw (← f) (opens l (ltb-true r.holes 1024 e))
      full false e h l = absurd (clash h)

      second : (b : Bool) → touches r store ≡ b → cond b (answer r.holes) (cond (ltb r.holes 1024) (answer (r.holes + 1)) (refused 17 0)) ≡ answer k → r.next < end
          → Then k (cond b (put_at store (8 * r.holes - 4) (bytes_of 4 (end - 1))) (put_at store (8 * r.holes) (bytes_of 4 r.next ++ bytes_of 4 (end - 1))))
      second true e h l = let f : r.holes ≡ k = cc in rw (← f) (joins l e)
      second false e h l = full (ltb r.holes 1024) refl h l

      first : (b : Bool) → leb end r.next ≡ b
          → cond b (answer r.holes) (cond (touches r store) (answer r.holes) (cond (ltb r.holes 1024) (answer (r.holes + 1)) (refused 17 0))) ≡ answer k
          → Then k (cond b store (cond (touches r store) (put_at store (8 * r.holes - 4) (bytes_of 4 (end - 1))) (put_at store (8 * r.holes) (bytes_of 4 r.next ++ bytes_of 4 (end - 1)))))
      first true e h =
          let f : r.holes ≡ k = cc in
          let m : r.next ≡ end = omega (arith, leb-true end r.next e) in
          (rw (← f, ← m) now, same_samples store)
      first false e h = second (touches r store) refl h (leb-false end r.next e)
