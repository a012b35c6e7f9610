-- A seen tick of all rules, by halves.
use Prim.Native.Nat.{ℕ, ◌+◌, ◌*◌, ◌%◌, ◌<◌}
use mathlib.Core.Path.{◌≡◌, refl, ap, ap₂, sym, ◌∙◌, subst}
use mathlib.Core.Bool.{Bool, true, false}
use mathlib.Core.List.{List, ◌++◌}
use lib.IntN.{ℤ, pos}
use lib.Signed.{lt_z}
use lib.Dec.{eqb}
use lib.ListN.{get_or, length}
use Rattle.lists.specs.Lists.{some_below}
use Rattle.lists.proofs.Bools.{get_d_tabulate, length_tabulate}
use Rattle.rules.specs.declared.Readings.{Readings}
use Rattle.rules.specs.Table.{row_at}
use Rattle.bounds.specs.Plan.{flow_of}
use Rattle.bounds.specs.Steps.{reading, Within32, trips_by, clears_by, seen_by, states_seen}
use Rattle.bounds.specs.Firsts.{noted_at, rules_rise, firsts_seen}
use Rattle.bounds.specs.declared.marks.Marks.{Marks}
use Rattle.bounds.specs.inner.Marks.{values_of, Within, trips_of, clears_of, moved_by, half_moved, either_rises}
use Rattle.bounds.specs.inner.Firsts.{half_noted}
use Rattle.bounds.proofs.Paired.{paired_same}
use Rattle.bounds.proofs.Halves.{halves, Halved, joined, some_same}

pub moved_long : (marks : Marks) (lanes : List ℕ) (even : Bool) (xs : List ℕ) → length (half_moved marks lanes even xs) ≡ 16
unfolding half_moved
moved_long marks lanes even xs = length_tabulate 16 (λ i. moved_by marks lanes even i (get_or xs i 0))

module _ (r : Readings) (values : List ℤ) (read : values ≡ values_of r) where
  value_at : (i : ℕ) → i < 16 → get_or values i (pos 0) ≡ reading (row_at i) r
  unfolding values_of
  value_at i h = ap (λ (l : List ℤ). get_or l i (pos 0)) read ∙ get_d_tabulate 16 (λ j. reading (row_at j) r) (pos 0) i h

  -- What each rule reads is a number of 32 bits.
  pub within_32 : ((i : ℕ) → i < 16 → Within (get_or values i (pos 0))) → Within32 r
  within_32 within i h = subst Within (value_at i h) (within i h)

  -- By the marks of a sample the states are those after a seen tick.
  pub states_seen_lem : (tests : List ℤ) (lanes : List ℕ) (idle tick : ℕ) (marks : Marks)
      → marks.trips ≡ trips_of values (16 * flow_of idle r) tests → marks.clears ≡ clears_of values tests
      → {xs low high : List ℕ} → Halved xs low high
      → half_moved marks lanes (eqb (tick % 2) 0) low ++ half_moved marks lanes (eqb (tick % 2) 0) high ≡ states_seen tests lanes idle tick r xs
  unfolding half_moved states_seen trips_of clears_of
  states_seen_lem tests lanes idle tick marks et ec h =
      halves _ _ ∙ paired_same _ _ _ _ (λ i l. same i l (h.low_at i l)) (λ i l. same i l (h.high_at i))
    where
      trips : (i : ℕ) → i < 16 → get_or marks.trips i false ≡ trips_by tests idle r i
      trips i l =
          ap (λ (m : List Bool). get_or m i false) et
          ∙ get_d_tabulate 16 (λ j. lt_z (get_or tests (16 * flow_of idle r + j) (pos 0)) (get_or values j (pos 0))) false i l
          ∙ ap (lt_z (get_or tests (16 * flow_of idle r + i) (pos 0))) (value_at i l)

      clears : (i : ℕ) → i < 16 → get_or marks.clears i false ≡ clears_by tests r i
      clears i l =
          ap (λ (m : List Bool). get_or m i false) ec
          ∙ get_d_tabulate 16 (λ j. lt_z (get_or values j (pos 0)) (get_or tests (48 + j) (pos 0))) false i l
          ∙ ap (λ (z : ℤ). lt_z z (get_or tests (48 + i) (pos 0))) (value_at i l)

      same : (i : ℕ) → i < 16 → {s t : ℕ} → s ≡ t → moved_by marks lanes (eqb (tick % 2) 0) i s ≡ seen_by tests lanes idle tick r i t
      same i l e = rw (trips i l, clears i l, e) refl

-- The first ticks after a seen tick, by whether a state has come to its top.
module _ (lanes : List ℕ) (tick : ℕ) (ss least' greatest' : List ℕ) (l : length least' ≡ 16) where
  pub risen : {least greatest : List ℕ} → Halved ss least greatest → {any : Bool} → any ≡ some_below 16 (either_rises lanes least least' greatest greatest')
      → any ≡ some_below 16 (rules_rise lanes ss (least' ++ greatest'))
  risen {least} {greatest} h e =
      let h' : Halved (least' ++ greatest') least' greatest' = joined least' greatest' l in
      e ∙ some_same 16 (either_rises lanes least least' greatest greatest') (rules_rise lanes ss (least' ++ greatest'))
      (λ i k. rw (h.low_at i k, h.high_at i, h'.low_at i k, h'.high_at i) refl)

  pub firsts_noted_lem : {any : Bool} → any ≡ some_below 16 (rules_rise lanes ss (least' ++ greatest')) → any ≡ true
      → {fs held possible : List ℕ} → Halved fs held possible
      → half_noted lanes tick least' held ++ half_noted lanes tick greatest' possible ≡ firsts_seen lanes tick ss (least' ++ greatest') fs
  unfolding half_noted firsts_seen
  firsts_noted_lem e t f =
      let h' : Halved (least' ++ greatest') least' greatest' = joined least' greatest' l in
      rw (sym e ∙ t)
      (halves _ _
      ∙ paired_same _ _ _ _ (λ i k. ap₂ (noted_at (get_or lanes i 0) tick) (h'.low_at i k) (f.low_at i k))
      (λ i k. ap₂ (noted_at (get_or lanes i 0) tick) (h'.high_at i) (f.high_at i)))

  pub firsts_kept : (fs : List ℕ) {any : Bool} → any ≡ some_below 16 (rules_rise lanes ss (least' ++ greatest')) → any ≡ false → fs ≡ firsts_seen lanes tick ss (least' ++ greatest') fs
  unfolding firsts_seen
  firsts_kept fs e t = rw (sym e ∙ t) refl
