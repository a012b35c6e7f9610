-- Within its limits an enabled rule never meets threshold and recovery together, and at an unseen tick a sample can meet its threshold, its recovery (if it recovers), or neither.
use Prim.Native.Nat.{ℕ, ◌*◌}
use native.Mathlib.Omega.{arith}
use mathlib.Core.Path.{◌≡◌, ap, ◌∙◌}
use mathlib.Core.Bool.{Bool, true, false, ◌&&◌}
use lib.IntN.{ℤ}
use lib.Signed.{lt_z, le_z}
use lib.Dec.{T, leb, eqb, eqb→eq, le→leb}
use Rattle.lists.proofs.Bools.{and_right, both, three, or_elim, is_true, refuted}
use Rattle.rules.specs.declared.Quantity.{Quantity}
use Rattle.rules.specs.declared.Quantity.TheVariants.{HighestCell, LowestCell, SumOfCells, Current, HighestTempCharging, HighestTempDischarging, Board, LowestTempDischarging, CellDifference}
use Rattle.rules.specs.declared.Side.{Side}
use Rattle.rules.specs.declared.Side.TheVariants.{High, Low}
use Rattle.rules.specs.declared.Setting.{Setting}
use Rattle.rules.specs.Samples.{Sample, Carried, readings_of}
use Rattle.rules.specs.Quantities.{value, qualified, least, most}
use Rattle.limits.specs.Limits.{limits, within, is_zero}
use Rattle.rules.specs.Evaluation.{beyond, opposite, trips, clears, top}
use Rattle.fillings.specs.Fillings.{Rule, Sound, last}
use Rattle.fillings.proofs.Integers.{le_self, lt_le, lt_then_le, clash, le_then_le, no_cycle}
use Rattle.fillings.proofs.Witness.{witness, InRange, witness_carried, witness_value, witness_qualified}

-- the end of the range beyond which the threshold lies on this side
abbrev far : Side → ℤ → ℤ → ℤ
far High lo hi = hi
far Low lo hi = lo

record Facts (rec : Bool) (side : Side) (lo hi : ℤ) (s : Setting) : Type 0 where
  trip : T (beyond side (far side lo hi) s.threshold)
  above : T (le_z lo s.threshold)
  below : T (le_z s.threshold hi)
  back : T rec → T (beyond (opposite side) (far (opposite side) lo hi) s.recovery)
  apart : (v : ℤ) → T (beyond side v s.threshold) → T (rec && beyond (opposite side) v s.recovery) → ⊥
  quiet : T (rec && beyond (opposite side) s.threshold s.recovery) → ⊥

facts : (rec : Bool) (side : Side) (lo hi : ℤ) (s : Setting) → T (within rec side lo hi s) → Facts rec side lo hi s
unfolding within
facts true High lo hi s t =
    let (a, b, c) = three (lt_z lo s.recovery) (le_z s.recovery s.threshold) (lt_z s.threshold hi) t in
    record {
      trip = c;
      above = lt_le lo s.threshold (lt_then_le lo s.recovery s.threshold a b);
      below = lt_le s.threshold hi c;
      back = λ u. a;
      apart = λ v h k. no_cycle v s.recovery s.threshold k b h;
      quiet = λ k. clash s.threshold s.recovery k b;
    }
facts true Low lo hi s t =
    let (a, b, c) = three (lt_z lo s.threshold) (le_z s.threshold s.recovery) (lt_z s.recovery hi) t in
    record {
      trip = a;
      above = lt_le lo s.threshold a;
      below = le_then_le s.threshold s.recovery hi b (lt_le s.recovery hi c);
      back = λ u. c;
      apart = λ v h k. no_cycle v s.threshold s.recovery h b k;
      quiet = λ k. clash s.recovery s.threshold k b;
    }
facts false High lo hi s t =
    let (a, b, c) = three (le_z lo s.threshold) (lt_z s.threshold hi) (is_zero s.recovery) t in
    record { trip = b; above = a; below = lt_le s.threshold hi b; back = λ u. absurd u; apart = λ v h k. k; quiet = λ k. k }
facts false Low lo hi s t =
    let (a, b, c) = three (lt_z lo s.threshold) (le_z s.threshold hi) (is_zero s.recovery) t in
    record { trip = a; above = lt_le lo s.threshold a; below = b; back = λ u. absurd u; apart = λ v h k. k; quiet = λ k. k }

range_order : (q : Quantity) (n : ℕ) → T (le_z (least q) (most q n))
unfolding least most
range_order HighestCell n = tt
range_order LowestCell n = tt
range_order SumOfCells n = le→leb 0 (65535 * n) (omega arith)
range_order Current n = tt
range_order Board n = tt
range_order CellDifference n = tt
range_order HighestTempCharging n = tt
range_order HighestTempDischarging n = tt
range_order LowestTempDischarging n = tt

far_in_range : (side : Side) (q : Quantity) (n : ℕ) → InRange q n (far side (least q) (most q n))
far_in_range High q n = record { lo = range_order q n; hi = le_self (most q n) }
far_in_range Low q n = record { lo = le_self (least q); hi = range_order q n }

beyond_self : (side : Side) (v : ℤ) → beyond side v v ≡ false
beyond_self High v = refuted (lt_z v v) (λ h. clash v v h (le_self v))
beyond_self Low v = refuted (lt_z v v) (λ h. clash v v h (le_self v))

-- Some sample that a trace can carry has this outcome.
pub record Reaches (r : Rule) (trip clear : Bool) : Type 0 where
  pub sample : Sample
  pub carried : Carried r.cells sample
  pub trips : trips r.idle r.row r.setting (readings_of sample) ≡ trip
  pub clears : clears r.row r.setting (readings_of sample) ≡ clear

-- The rule's numbers are within the limits of an enabled rule.
abbrev pub Within : Rule → Type 0
Within r = T (within r.row.recovers r.row.side (least r.row.quantity) (most r.row.quantity r.cells) r.setting)

-- what acceptance leaves: a rule that is switched off, or one within its limits
pub off_or_within : {X : Type 0} (r : Rule) → Sound r → (last r ≡ 0 → X) → (Within r → X) → X
unfolding limits
off_or_within r ok off on =
    or_elim (eqb r.setting.time 0) _ ok.numbers
    (λ u. off (ap top (eqb→eq r.setting.time 0 u)))
    (λ u. on (and_right (leb r.setting.time 255) _ u))

module _ (r : Rule) (ok : Sound r) (enabled : Within r) where
  reach : (v : ℤ) → InRange r.row.quantity r.cells v
      → Reaches r (beyond r.row.side v r.setting.threshold) (r.row.recovers && beyond (opposite r.row.side) v r.setting.recovery)
  unfolding trips clears
  reach v h =
      let x = witness r.row.quantity r.cells v in
      let e = witness_value r.row.quantity r.cells v (let n = ok.least_cells in omega arith) h in
      let q = is_true (qualified r.idle r.row.quantity (readings_of x)) (witness_qualified r.row.quantity r.idle r.cells v ok.idle) in
      record { sample = x; carried = witness_carried r.row.quantity r.cells v h; trips = rw (q, e); clears = rw e }

  abbrev known : Facts r.row.recovers r.row.side (least r.row.quantity) (most r.row.quantity r.cells) r.setting
  known = facts r.row.recovers r.row.side (least r.row.quantity) (most r.row.quantity r.cells) r.setting enabled

  -- none meets both
  pub not_both_lem : (x : Sample) → T (trips r.idle r.row r.setting (readings_of x)) → clears r.row r.setting (readings_of x) ≡ false
  unfolding trips clears
  not_both_lem x t =
      refuted (clears r.row r.setting (readings_of x))
      (known.apart (value r.row.quantity (readings_of x)) (and_right (qualified r.idle r.row.quantity (readings_of x)) _ t))

  -- every test can be met
  pub reach_trip : Reaches r true false
  reach_trip =
      let v = far r.row.side (least r.row.quantity) (most r.row.quantity r.cells) in
      let w = reach v (far_in_range r.row.side r.row.quantity r.cells) in
      record {
        sample = w.sample;
        carried = w.carried;
        trips = w.trips ∙ is_true (beyond r.row.side v r.setting.threshold) known.trip;
        clears = w.clears ∙ refuted (r.row.recovers && beyond (opposite r.row.side) v r.setting.recovery) (known.apart v known.trip);
      }

  pub reach_none : Reaches r false false
  reach_none =
      let v = r.setting.threshold in
      let w = reach v (record { lo = known.above; hi = known.below }) in
      record {
        sample = w.sample;
        carried = w.carried;
        trips = w.trips ∙ beyond_self r.row.side v;
        clears = w.clears ∙ refuted (r.row.recovers && beyond (opposite r.row.side) v r.setting.recovery) known.quiet;
      }

  pub reach_clear : T r.row.recovers → Reaches r false true
  reach_clear u =
      let v = far (opposite r.row.side) (least r.row.quantity) (most r.row.quantity r.cells) in
      let w = reach v (far_in_range (opposite r.row.side) r.row.quantity r.cells) in
      let c = both r.row.recovers (beyond (opposite r.row.side) v r.setting.recovery) u (known.back u) in
      record {
        sample = w.sample;
        carried = w.carried;
        trips = w.trips ∙ refuted (beyond r.row.side v r.setting.threshold) (λ t. known.apart v t c);
        clears = w.clears ∙ is_true (r.row.recovers && beyond (opposite r.row.side) v r.setting.recovery) c;
      }
