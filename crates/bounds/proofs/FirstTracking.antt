-- The first ticks of all rules follow a trace: over a seen tick and over a run of unseen ticks.
use Prim.Native.Nat.{ℕ, suc, ◌+◌, ◌≤◌, ◌<◌}
use native.Mathlib.Omega.{arith}
use mathlib.Core.Path.{◌≡◌, refl, ap, sym, ◌∙◌, subst}
use mathlib.Core.Bool.{Bool, true, false, not, cond}
use lib.Dec.{T, T_not, not_T}
use lib.ListN.{get_or}
use Rattle.lists.specs.Lists.{some_below}
use Rattle.lists.proofs.Bools.{refuted, both_false, some_intro}
use Rattle.rules.specs.Table.{row_at}
use Rattle.rules.specs.Evaluation.{status}
use Rattle.flags.specs.Flags.{flag_of}
use Rattle.fillings.specs.Fillings.{Rule, Sound, last, Shown, unseen, Config, rule_of, SoundConfig}
use Rattle.fillings.specs.Flags.{is_held, not_clear, first_held, first_possible}
use Rattle.fillings.specs.Bounds.{after_as, least_after, greatest_after}
use Rattle.fillings.proofs.Flags.{flag_not_clear}
use Rattle.fillings.proofs.Bounds.{as_le, status_up, bounded}
use Rattle.fillings.proofs.BoundRuns.{least_run, greatest_run}
use Rattle.bounds.specs.Lanes.{paired}
use Rattle.bounds.specs.Plan.{lanes_of}
use Rattle.bounds.specs.Steps.{evaluations_of}
use Rattle.bounds.specs.Firsts.{none, noted, noted_at, rises, rules_rise, top_tick, firsts_seen, firsts_missed}
use Rattle.bounds.specs.promises.Tracking.{states_at, firsts_at}
use Rattle.bounds.proofs.Paired.{paired_low, paired_high, paired_same}
use Rattle.bounds.proofs.FirstLaws.{first_same}
use Rattle.bounds.proofs.FirstTicks.{first_of, sees, nothing_rises, misses_greatest, misses_least}
use Rattle.bounds.proofs.StateTracking.{top_lane, least_at, greatest_at}

held_flag : (a b : Bool) → (T b → T a) → is_held (flag_of a (not b)) ≡ b
held_flag true true up = refl
held_flag true false up = refl
held_flag false true up = absurd (up tt)
held_flag false false up = refl

-- The first ticks of a rule, from its two states.
module _ (r : Rule) (ok : Sound r) (trace : ℕ → Shown) where
  status_between : (k : ℕ) → T (status (last r) (least_after r trace k)) → T (status (last r) (greatest_after r trace k))
  status_between k =
      let (f, fills, e) = (bounded r ok trace).reached_least in
      let d = e k in
      let l = (bounded r ok trace).below f fills k in
      status_up (last r) (least_after r trace k) (greatest_after r trace k) (omega arith) (as_le true false r trace k)

  held_is : (k : ℕ) → first_held r trace k ≡ first_of (last r) (least_after r trace) k
  held_is k =
      first_same 0 k _ _
      (λ t a b. ap (λ f. is_held f.status) ((bounded r ok trace).flags (suc t))
      ∙ held_flag (status (last r) (greatest_after r trace (suc t))) (status (last r) (least_after r trace (suc t))) (status_between (suc t)))

  possible_is : (k : ℕ) → first_possible r trace k ≡ first_of (last r) (greatest_after r trace) k
  possible_is k =
      first_same 0 k _ _ (λ t a b. ap (λ f. not_clear f.status) ((bounded r ok trace).flags (suc t))
      ∙ flag_not_clear _ _ (λ n. not_T (status (last r) (least_after r trace (suc t))) (λ u. T_not (status (last r) (greatest_after r trace (suc t))) n (status_between (suc t) u))))

as_begins : (trip clear : Bool) (r : Rule) (trace : ℕ → Shown) → after_as trip clear r trace 0 ≡ 0
unfolding after_as
as_begins trip clear r trace = refl

module _ (p : Config) (ok : SoundConfig p) (trace : ℕ → Shown) where
  abbrev lane : ℕ → ℕ
  lane j = get_or (lanes_of p.settings) j 0

  abbrev state : ℕ → ℕ → ℕ
  state k j = get_or (states_at p trace k) j 0

  abbrev first_tick : ℕ → ℕ → ℕ
  first_tick k j = get_or (firsts_at p trace k) j 0

  module _ (i : ℕ) (l : i < 16) where
    abbrev r : Rule
    r = rule_of p i

    held_at : (k : ℕ) → first_tick k i ≡ first_of (last r) (least_after r trace) k
    held_at k = paired_low _ _ 0 i l ∙ held_is r (ok i l) trace k

    possible_at : (k : ℕ) → first_tick k (16 + i) ≡ first_of (last r) (greatest_after r trace) k
    possible_at k = paired_high _ _ 0 i l ∙ possible_is r (ok i l) trace k

    module _ (k : ℕ) (h : k < none) where
      notes_held : noted_at (lane i) k (state (suc k) i) (first_tick k i) ≡ first_held r trace (suc k)
      notes_held =
          rw (top_lane p.settings i l, least_at p trace (suc k) i l, held_at k, held_is r (ok i l) trace (suc k))
          (sees (last r) (least_after r trace) k h)

      notes_possible : noted_at (lane i) k (state (suc k) (16 + i)) (first_tick k (16 + i)) ≡ first_possible r trace (suc k)
      notes_possible =
          rw (top_lane p.settings i l, greatest_at p trace (suc k) i l, possible_at k, possible_is r (ok i l) trace (suc k))
          (sees (last r) (greatest_after r trace) k h)

      keeps_held : rises (lane i) (state k i) (state (suc k) i) ≡ false → first_held r trace k ≡ first_held r trace (suc k)
      keeps_held still =
          rw (held_is r (ok i l) trace k, held_is r (ok i l) trace (suc k))
          (sym (nothing_rises (last r) (least_after r trace) (as_begins false (row_at i).recovers r trace) k h (as_le false (row_at i).recovers r trace k)
          (rw (top_lane p.settings i l, least_at p trace k i l, least_at p trace (suc k) i l) at still)))

      keeps_possible : rises (lane i) (state k (16 + i)) (state (suc k) (16 + i)) ≡ false → first_possible r trace k ≡ first_possible r trace (suc k)
      keeps_possible still =
          rw (possible_is r (ok i l) trace k, possible_is r (ok i l) trace (suc k))
          (sym (nothing_rises (last r) (greatest_after r trace) (as_begins true false r trace) k h (as_le true false r trace k)
          (rw (top_lane p.settings i l, greatest_at p trace k i l, greatest_at p trace (suc k) i l) at still)))

    module _ (first end : ℕ) (run : first ≤ end) (short : end < none) (hole : (t : ℕ) → first ≤ t → t ≤ end → trace t ≡ unseen) where
      misses_held : first_tick first i ≡ first_held r trace (suc end)
      misses_held =
          rw (held_at first, held_is r (ok i l) trace (suc end))
          (misses_least (last r) (least_after r trace) (as_begins false (row_at i).recovers r trace) first end run short
          (as_le false (row_at i).recovers r trace first) (row_at i) (row_at i).recovers
          (λ t a b. least_run r trace first (suc t) (omega arith) (λ u c d. hole u c (omega arith))))

      misses_possible : noted (top_tick (row_at i) (lane i) first (evaluations_of first end i) (state first (16 + i))) (first_tick first (16 + i))
          ≡ first_possible r trace (suc end)
      misses_possible =
          rw (top_lane p.settings i l, greatest_at p trace first i l, possible_at first, possible_is r (ok i l) trace (suc end))
          (misses_greatest (last r) (greatest_after r trace) (as_begins true false r trace) first end run short
          (as_le true false r trace first) (row_at i)
          (λ t a b. greatest_run r trace first (suc t) (omega arith) (λ u c d. hole u c (omega arith))))

  pub firsts_see : (k : ℕ) → k < none
      → firsts_seen (lanes_of p.settings) k (states_at p trace k) (states_at p trace (suc k)) (firsts_at p trace k) ≡ firsts_at p trace (suc k)
  unfolding firsts_seen
  firsts_see k h = go (some_below 16 some) refl
    where
      some : ℕ → Bool
      some i = rules_rise (lanes_of p.settings) (states_at p trace k) (states_at p trace (suc k)) i

      still : some_below 16 some ≡ false → (i : ℕ) → i < 16
          → (rises (lane i) (state k i) (state (suc k) i) ≡ false) × (rises (lane i) (state k (16 + i)) (state (suc k) (16 + i)) ≡ false)
      still e i l =
          both_false (rises (lane i) (state k i) (state (suc k) i)) (rises (lane i) (state k (16 + i)) (state (suc k) (16 + i)))
          (refuted (some i) (λ t. subst T e (some_intro 16 some i l t)))

      go : (b : Bool) → some_below 16 some ≡ b
          → cond b
          (paired (λ i. noted_at (lane i) k (state (suc k) i) (first_tick k i)) (λ i. noted_at (lane i) k (state (suc k) (16 + i)) (first_tick k (16 + i))))
          (firsts_at p trace k)
          ≡ firsts_at p trace (suc k)
      go true e = paired_same _ _ _ _ (λ i l. notes_held i l k h) (λ i l. notes_possible i l k h)
      go false e = paired_same _ _ _ _ (λ i l. keeps_held i l k h (still e i l).0) (λ i l. keeps_possible i l k h (still e i l).1)

  pub firsts_miss : (first last : ℕ) → first ≤ last → last < none → ((t : ℕ) → first ≤ t → t ≤ last → trace t ≡ unseen)
      → firsts_missed (lanes_of p.settings) first last (states_at p trace first) (firsts_at p trace first) ≡ firsts_at p trace (suc last)
  unfolding firsts_missed
  firsts_miss first last run short hole =
      paired_same _ _ _ _ (λ i l. misses_held i l first last run short hole) (λ i l. misses_possible i l first last run short hole)
