-- The samples of a store, whose places are used in turn.
use Prim.Native.Nat.{ℕ, zero, suc, ◌+◌, ◌-◌, ◌*◌, ◌%◌, ◌≤◌, ◌<◌}
use mathlib.Core.Path.{◌≡◌, refl, sym, ap, ap₂, ◌∙◌}
use mathlib.Core.List.{List, [], ◌∷◌, ◌++◌}
use native.Mathlib.Omega.{arith}
use native.Mathlib.Nat.{add-zero, add-mul, one-mul, mul-le-mul_right, mod-lt, mod-eq_of_lt, mod-add-mod, mod-eq-sub-mod, add-mod_right}
use lib.IntN.{pos}
use lib.ListN.{length, get_or, take, drop, get_or-append}
use lib.Seq.{drop-cons, get_or_at}
use Rattle.lists.proofs.Bools.{by_order}
use Rattle.bytes_le.specs.Writing.{put_at}
use Rattle.trace.specs.Records.{Stamped, sample_width}
use Rattle.trace.specs.Writing.{each_bytes, sample_bytes}
use Rattle.recording.specs.Recorder.{slot_of, bytes_from, oldest}
use Rattle.recording.specs.inner.Steps.{Good}
use Rattle.recording.specs.declared.Recorder.{Recorder}
use Rattle.recording.proofs.GoodRecords.{slot_within}
use Rattle.histories.proofs.PutParts.{part_before, part_behind, part_put}
use Rattle.histories.proofs.UnseenTicks.{SameSamples}

-- What stands for a sample past the end of a list.
abbrev pub blank : Stamped
blank = record { tick = 0; sample = record { current = pos 0; board = pos 0; volts = []; temps = [] } }

-- Two numbers less than a round apart have different places.
pub turns_apart : (j e n : ℕ) → j < e → e < j + n → j % n ≡ e % n → ⊥
turns_apart j e n l h same =
    let some : 0 < n = omega arith in
    let d : ℕ = e - j in
    let m : ℕ = j % n in
    let lt : m < n = mod-lt j some in
    let is : j + d ≡ e = omega arith in
    let turn : (m + d) % n ≡ m = mod-add-mod j n d ∙ ap (λ k. k % n) is ∙ sym same in
    by_order (m + d) n
    (λ i. let f : (m + d) % n ≡ m + d = mod-eq_of_lt i in omega arith)
    (λ i.
    let f : (m + d) % n ≡ (m + d - n) % n = mod-eq-sub-mod i in
    let k : m + d - n < n = omega arith in
    let g : (m + d - n) % n ≡ m + d - n = mod-eq_of_lt k in
    omega arith)

module _ (r : Recorder) where
  abbrev w : ℕ
  w = sample_width r.cells

  -- The samples stored and undrained are as they were offered.
  pub record Kept (store : List ℕ) (ever stored : ℕ) (xs : List Stamped) : Type 0 where
    pub as_offered : (j : ℕ) → ever ≤ j + stored → j < ever → take (sample_width r.cells) (drop (slot_of r j) store) ≡ sample_bytes (get_or xs j blank)

  places_apart : (a b : ℕ) → a < b → a * w + w ≤ b * w
  places_apart a b h =
      let m : (a + 1) * w ≤ b * w = mul-le-mul_right w (omega arith) in
      let e = add-mul a 1 w in
      let f = one-mul w in
      omega arith

  -- A sample put at the place of another leaves it.
  other_kept : (store : List ℕ) (i j : ℕ) (bs : List ℕ) → Good r (length store) → 0 < r.number → length bs ≡ w → (j % r.number ≡ i % r.number → ⊥)
      → take w (drop (slot_of r j) (put_at store (slot_of r i) bs)) ≡ take w (drop (slot_of r j) store)
  other_kept store i j bs good some l apart =
      let within = slot_within good some i in
      by_order (j % r.number) (i % r.number)
      (λ n. let d = places_apart (j % r.number) (i % r.number) n in part_before store (slot_of r i) bs (omega arith) (slot_of r j) w (omega arith))
      (λ n.
      let less : i % r.number < j % r.number = by_order (i % r.number) (j % r.number) (λ k. k) (λ k. absurd (apart (omega arith))) in
      let d = places_apart (i % r.number) (j % r.number) less in
      ap (take w) (part_behind store (slot_of r i) bs (omega arith) (slot_of r j) (omega arith)))

  -- Changes to the holes leave them all.
  pub kept_beside : (old new : List ℕ) (ever stored : ℕ) (xs : List Stamped) → SameSamples old new → Kept old ever stored xs → Kept new ever stored xs
  kept_beside old new ever stored xs same kept =
      record { as_offered = λ j a b. ap (take w) (same.rest (slot_of r j) (omega arith)) ∙ kept.as_offered j a b }

  pub kept_more : (store : List ℕ) (ever stored : ℕ) (xs : List Stamped) (x : Stamped) → Good r (length store) → stored < r.number → length xs ≡ ever → length (sample_bytes x) ≡ sample_width r.cells
      → Kept store ever stored xs → Kept (put_at store (slot_of r ever) (sample_bytes x)) (ever + 1) (stored + 1) (xs ++ (x ∷ []))
  kept_more store ever stored xs x good h count l kept = record { as_offered = each }
    where
      each : (j : ℕ) → ever + 1 ≤ j + (stored + 1) → j < ever + 1
          → take (sample_width r.cells) (drop (slot_of r j) (put_at store (slot_of r ever) (sample_bytes x))) ≡ sample_bytes (get_or (xs ++ (x ∷ [])) j blank)
      each j a b =
          by_order j ever
          (λ n.
          other_kept store ever j (sample_bytes x) good (omega arith) l (λ e. turns_apart j ever r.number n (omega arith) e)
          ∙ kept.as_offered j (omega arith) n
          ∙ ap sample_bytes (sym (get_or-append xs (x ∷ []) blank j (omega arith))))
          (λ n.
          let e : j ≡ ever = omega arith in
          let within = slot_within good (omega arith) ever in
          ap (λ i. take w (drop (slot_of r i) (put_at store (slot_of r ever) (sample_bytes x)))) e
          ∙ ap (λ k. take k (drop (slot_of r ever) (put_at store (slot_of r ever) (sample_bytes x)))) (sym l)
          ∙ part_put store (slot_of r ever) (sample_bytes x) (omega arith)
          ∙ ap sample_bytes (sym (get_or_at xs x [] blank j (omega arith))))

  -- The oldest k of them, one after the other.
  window : (store : List ℕ) (xs : List Stamped) (k i i' : ℕ) → i + k ≤ length xs → ((t : ℕ) → t < k → take w (drop (slot_of r (i' + t)) store) ≡ sample_bytes (get_or xs (i + t) blank))
      → bytes_from r store k i' ≡ each_bytes sample_bytes (take k (drop i xs))
  unfolding bytes_from each_bytes
  window store xs zero i i' l each = refl
  window store xs (suc k) i i' l each =
      let head : take w (drop (slot_of r i') store) ≡ sample_bytes (get_or xs i blank) =
      ap (λ j. take w (drop (slot_of r j) store)) (sym (add-zero i')) ∙ each 0 (omega arith) ∙ ap (λ j. sample_bytes (get_or xs j blank)) (add-zero i) in
      let ih = window store xs k (suc i) (i' + 1) (omega arith) (λ t h.
      let a : i' + 1 + t ≡ i' + suc t = omega arith in
      let b : i + suc t ≡ suc i + t = omega arith in
      ap (λ j. take w (drop (slot_of r j) store)) a ∙ each (suc t) (omega arith) ∙ ap (λ j. sample_bytes (get_or xs j blank)) b) in
      ap₂ (λ a b. a ++ b) head ih ∙ ap (λ l. each_bytes sample_bytes (take (suc k) l)) (sym (drop-cons xs i blank (omega arith)))

  pub oldest_kept : (store : List ℕ) (xs : List Stamped) → Kept store r.ever r.stored xs → length xs ≡ r.ever → r.stored ≤ r.ever → r.stored ≤ r.number → (k : ℕ) → k ≤ r.stored
      → bytes_from r store k (oldest r) ≡ each_bytes sample_bytes (take k (drop (length xs - r.stored) xs))
  oldest_kept store xs kept count few room k h =
      window store xs k (length xs - r.stored) (oldest r) (omega arith) (λ t l.
      let j : ℕ = length xs - r.stored + t in
      let a : oldest r + t ≡ j + r.number = omega arith in
      let turn : (oldest r + t) % r.number ≡ j % r.number = ap (λ i. i % r.number) a ∙ add-mod_right j r.number in
      ap (λ i. take w (drop (8192 + i * w) store)) turn ∙ kept.as_offered j (omega arith) (omega arith))
