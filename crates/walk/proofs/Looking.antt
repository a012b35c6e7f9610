-- What is tested at a place, and what comes next by the tests.
use Prim.Native.Nat.{ℕ, ◌+◌, ◌-◌, ◌≤◌, ◌<◌}
use mathlib.Core.Path.{◌≡◌, refl}
use mathlib.Core.Bool.{Bool, true, false}
use mathlib.Core.List.{List}
use native.Mathlib.Omega.{arith}
use lib.Dec.{leb}
use lib.ListN.{length}
use borrow.Author.Tests.{leb-true, leb-false, le-leb, lt-leb}
use Rattle.lists.proofs.Bools.{both_true}
use Rattle.bytes_le.specs.Numbers.{u32_at}
use Rattle.walk.specs.declared.Cursor.{Cursor}
use Rattle.std.specs.Prelude.{Some, None}
use Rattle.walk.specs.declared.Ahead.TheVariants.{Unseen, Sample}
use Rattle.walk.specs.Walk.{hole_here, past_run, past_sample, ahead}

module _ (holes : List ℕ) (c : Cursor) where
  pub ends_inside : (to last : ℕ) → last ≡ u32_at holes (c.hole + 4) → to ≤ last → record { hole = c.hole; sample = c.sample; tick = to } ≡ past_run holes c to
  ends_inside to last e l = rw (le-leb to (u32_at holes (c.hole + 4)) (omega arith))

  pub ends_with : (to last : ℕ) → last ≡ u32_at holes (c.hole + 4) → last < to
      → record { hole = c.hole + 8; sample = c.sample; tick = last + 1 } ≡ past_run holes c to
  ends_with to last e l = rw (lt-leb to (u32_at holes (c.hole + 4)) (omega arith), e)

module _ (holes samples : List ℕ) (width : ℕ) (c : Cursor) (to : ℕ) where
  pub at_the_end : to ≤ c.tick → None ≡ ahead holes samples width c to
  unfolding ahead
  at_the_end h = rw (le-leb to c.tick h)

  pub unseen_ahead : c.tick < to → hole_here holes c ≡ true → Some (Unseen (past_run holes c to)) ≡ ahead holes samples width c to
  unfolding ahead
  unseen_ahead h e = rw (lt-leb to c.tick h, e)

  pub sample_ahead : c.tick < to → hole_here holes c ≡ false → leb (c.sample + width) (length samples) ≡ true → Some (Sample (past_sample width c)) ≡ ahead holes samples width c to
  unfolding ahead
  sample_ahead h e f = rw (lt-leb to c.tick h, e, f)

  pub none_ahead : c.tick < to → hole_here holes c ≡ false → leb (c.sample + width) (length samples) ≡ false → None ≡ ahead holes samples width c to
  unfolding ahead
  none_ahead h e f = rw (lt-leb to c.tick h, e, f)

-- A hole that holds the tick lies within its part, begins at the tick or before, and ends there or after.
pub hole_holds : (holes : List ℕ) (c : Cursor) → hole_here holes c ≡ true
    → (c.hole + 8 ≤ length holes) × (u32_at holes c.hole ≤ c.tick) × (c.tick ≤ u32_at holes (c.hole + 4))
hole_holds holes c e =
    let (lies, h) = both_true (leb (c.hole + 8) (length holes)) _ e in
    let (begun, lasts) = both_true (leb (u32_at holes c.hole) c.tick) (leb c.tick (u32_at holes (c.hole + 4))) h in
    (leb-true _ _ lies, leb-true _ _ begun, leb-true _ _ lasts)
