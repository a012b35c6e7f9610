-- The least and the greatest states of all rules follow a trace: over a seen tick and over a run of unseen ticks; and they give the flags.
use Prim.Native.Nat.{ℕ, suc, ◌+◌, ◌*◌, ◌/◌, ◌%◌, ◌≤◌, ◌<◌}
use native.Mathlib.Omega.{arith}
use mathlib.Core.Path.{◌≡◌, refl, ap, ap₂, sym, ◌∙◌}
use mathlib.Core.Bool.{Bool, true, false, not, cond, ◌&&◌, ◌||◌}
use mathlib.Core.List.{List}
use lib.IntN.{ℤ, pos}
use lib.Signed.{lt_z}
use lib.Dec.{ltb, eqb}
use lib.ListN.{get_or}
use borrow.Author.Tests.{lt-ltb, eq-eqb}
use Rattle.lists.proofs.Bools.{get_d_tabulate, tabulate_same}
use Rattle.rules.specs.declared.Readings.{Readings}
use Rattle.rules.specs.declared.Setting.{Setting}
use Rattle.rules.specs.Samples.{Sample, readings_of}
use Rattle.rules.specs.Table.{row_at}
use Rattle.rules.specs.Quantities.{value, qualified}
use Rattle.rules.specs.Evaluation.{trips, clears, top, evaluated}
use Rattle.limits.specs.Limits.{setting_of}
use Rattle.fillings.specs.Fillings.{Shown, seen, unseen, Config, rule_of, SoundConfig}
use Rattle.fillings.specs.Flags.{rule_flags, flags_at}
use Rattle.fillings.specs.Bounds.{after_as, least_after, greatest_after, flags_between}
use Rattle.fillings.proofs.Bounds.{bounded}
use Rattle.fillings.proofs.BoundRuns.{least_run, greatest_run}
use Rattle.bounds.specs.Plan.{along, least32, greatest32, flow_of, test_at, tests_of, lanes_of}
use Rattle.bounds.specs.Steps.{reading, Within32, trips_by, clears_by, seen_by, states_seen, states_missed, flags_of_states}
use Rattle.bounds.specs.promises.Tracking.{states_at}
use Rattle.bounds.proofs.Paired.{paired_low, paired_high, paired_same, paired_length}
use Rattle.bounds.proofs.Numbers.{beyond_along, before_along, counts_is, flow_low}

module _ (ss : List Setting) (i : ℕ) (h : i < 16) where
  pub top_lane : get_or (lanes_of ss) i 0 ≡ top (setting_of ss i).time
  unfolding lanes_of
  top_lane = paired_low _ _ 0 i h

  every_lane : get_or (lanes_of ss) (16 + i) 0 ≡ cond (row_at i).even 0 1
  unfolding lanes_of
  every_lane = paired_high _ _ 0 i h

  -- a test of a group
  test_is : (group : ℕ) → group < 4 → get_or (tests_of ss) (16 * group + i) (pos 0) ≡ test_at group (row_at i) (setting_of ss i)
  unfolding tests_of
  test_is group g =
      let q : (16 * group + i) / 16 ≡ group = omega arith in
      let m : (16 * group + i) % 16 ≡ i = omega arith in
      get_d_tabulate 64 (λ j. test_at (j / 16) (row_at (j % 16)) (setting_of ss (j % 16))) (pos 0) (16 * group + i) (omega arith)
      ∙ ap₂ (λ (a b : ℕ). test_at a (row_at b) (setting_of ss b)) q m

  trips_by_lem : (idle : ℕ) (r : Readings) → Within32 r → trips_by (tests_of ss) idle r i ≡ trips idle (row_at i) (setting_of ss i) r
  unfolding test_at trips
  trips_by_lem idle r w =
      let l = flow_low idle r in
      ap (λ (z : ℤ). lt_z z (reading (row_at i) r)) (test_is (flow_of idle r) (omega (arith, l)))
      ∙ ap₂ (λ (a b : Bool). lt_z (cond a (cond b (along (row_at i).side (setting_of ss i).threshold) greatest32) (cond (row_at i).recovers (along (row_at i).side (setting_of ss i).recovery) least32)) (reading (row_at i) r))
      (lt-ltb (flow_of idle r) 3 (omega (arith, l))) (counts_is idle r (row_at i).quantity)
      ∙ go (qualified idle (row_at i).quantity r)
      ∙ ap (λ (b : Bool). qualified idle (row_at i).quantity r && b) (sym (beyond_along (row_at i).side (value (row_at i).quantity r) (setting_of ss i).threshold))
    where
      go : (b : Bool) → lt_z (cond b (along (row_at i).side (setting_of ss i).threshold) greatest32) (reading (row_at i) r)
          ≡ (b && lt_z (along (row_at i).side (setting_of ss i).threshold) (reading (row_at i) r))
      go true = refl
      go false = (w i h).1

  clears_by_lem : (r : Readings) → Within32 r → clears_by (tests_of ss) r i ≡ clears (row_at i) (setting_of ss i) r
  unfolding test_at clears
  clears_by_lem r w =
      ap (lt_z (reading (row_at i) r)) (test_is 3 (omega arith))
      ∙ go (row_at i).recovers
      ∙ ap (λ (b : Bool). (row_at i).recovers && b) (sym (before_along (row_at i).side (value (row_at i).quantity r) (setting_of ss i).recovery))
    where
      go : (b : Bool) → lt_z (reading (row_at i) r) (cond b (along (row_at i).side (setting_of ss i).recovery) least32)
          ≡ (b && lt_z (reading (row_at i) r) (along (row_at i).side (setting_of ss i).recovery))
      go true = refl
      go false = (w i h).0

  evaluated_by : (k : ℕ) → (ltb 0 (get_or (lanes_of ss) (16 + i) 0) || eqb (k % 2) 0) ≡ evaluated (row_at i) k
  evaluated_by k = ap (λ n. ltb 0 n || eqb (k % 2) 0) every_lane ∙ go (row_at i).even
    where
      go : (b : Bool) → (ltb 0 (cond b 0 1) || eqb (k % 2) 0) ≡ (not b || eqb (k % 2) 0)
      go true = refl
      go false = refl

module _ (p : Config) (trace : ℕ → Shown) where
  pub least_at : (k i : ℕ) → i < 16 → get_or (states_at p trace k) i 0 ≡ least_after (rule_of p i) trace k
  least_at k i h = paired_low _ _ 0 i h

  pub greatest_at : (k i : ℕ) → i < 16 → get_or (states_at p trace k) (16 + i) 0 ≡ greatest_after (rule_of p i) trace k
  greatest_at k i h = paired_high _ _ 0 i h

  -- a lane of rule i over a seen tick
  seen_lane : (trip clear : Bool) (k : ℕ) (x : Sample) → trace k ≡ seen x → Within32 (readings_of x) → (i s : ℕ) → i < 16 → s ≡ after_as trip clear (rule_of p i) trace k
      → seen_by (tests_of p.settings) (lanes_of p.settings) p.idle k (readings_of x) i s ≡ after_as trip clear (rule_of p i) trace (suc k)
  unfolding after_as
  seen_lane trip clear k x e w i s h d =
      rw (evaluated_by p.settings i h k, top_lane p.settings i h, trips_by_lem p.settings i h p.idle (readings_of x) w, clears_by_lem p.settings i h (readings_of x) w, d, e)

  pub states_see : (k : ℕ) (x : Sample) → trace k ≡ seen x → Within32 (readings_of x)
      → states_seen (tests_of p.settings) (lanes_of p.settings) p.idle k (readings_of x) (states_at p trace k) ≡ states_at p trace (suc k)
  unfolding states_seen
  states_see k x e w =
      paired_same _ _ _ _ (λ i h. seen_lane false (row_at i).recovers k x e w i _ h (least_at k i h))
      (λ i h. seen_lane true false k x e w i _ h (greatest_at k i h))

  pub states_miss : (first last : ℕ) → first ≤ last → ((t : ℕ) → first ≤ t → t ≤ last → trace t ≡ unseen)
      → states_missed (lanes_of p.settings) first last (states_at p trace first) ≡ states_at p trace (suc last)
  unfolding states_missed
  states_miss first last run hole =
      paired_same _ _ _ _
      (λ i h. rw (top_lane p.settings i h, least_at first i h)
      (sym (least_run (rule_of p i) trace first (suc last) (omega arith) (λ t a b. hole t a (omega arith)))))
      (λ i h. rw (top_lane p.settings i h, greatest_at first i h)
      (sym (greatest_run (rule_of p i) trace first (suc last) (omega arith) (λ t a b. hole t a (omega arith)))))

  pub flags_read_lem : SoundConfig p → (k : ℕ) → flags_of_states (lanes_of p.settings) (states_at p trace k) ≡ flags_at p trace k
  unfolding flags_of_states
  flags_read_lem ok k = rw (eq-eqb _ _ (paired_length (λ i. least_after (rule_of p i) trace k) (λ i. greatest_after (rule_of p i) trace k))) (tabulate_same 16 _ _ same)
    where
      same : (i : ℕ) → i < 16
          → flags_between (row_at i) (get_or (lanes_of p.settings) i 0) (get_or (states_at p trace k) i 0) (get_or (states_at p trace k) (16 + i) 0)
          ≡ rule_flags (rule_of p i) trace k
      same i h = rw (top_lane p.settings i h, least_at k i h, greatest_at k i h) (sym ((bounded (rule_of p i) (ok i h) trace).flags k))
