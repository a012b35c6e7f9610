-- A state that a call answers is a good one.
use Prim.Native.Nat.{ℕ, ◌*◌, ◌≤◌}
use mathlib.Core.Path.{◌≡◌, refl, sym, subst}
use mathlib.Core.Bool.{◌&&◌}
use mathlib.Core.List.{List}
use native.Mathlib.Omega.{arith}
use lib.Dec.{T, leb, eqb}
use lib.ListN.{length}
use borrow.Author.Tests.{leb-true}
use Rattle.lists.specs.Lists.{tabulate}
use Rattle.lists.proofs.Bools.{is_true, both_true}
use Rattle.refusals.specs.Refusals.{Answer, answer, refused, or_kept}
use Rattle.rules.specs.Samples.{Sample, I16, cell_count, readings_of}
use Rattle.limits.specs.Limits.{off, settings_of, limits, limits_answer}
use Rattle.refusals.proofs.Answers.{where_true}
use Rattle.states.specs.Validity.{valid_record}
use Rattle.states.proofs.KeptValid.{fresh_valid, seen_valid, unseen_valid}
use Rattle.report.specs.declared.Totals.{Totals}
use Rattle.fillings.proofs.Charge.{in_most, out_most}
use Rattle.live.specs.declared.Live.{Live}
use Rattle.live.specs.State.{good, begun, with_sample, with_hole}
use Rattle.live.specs.Calls.{begin_answer, sample_answer, hole_answer}
use Rattle.live.specs.promises.Promises.{StaysGood}
use Rattle.live.proofs.GoodStates.{GoodState, parts, whole, short, Counted, counted, counts}

holds : (s : Live) → GoodState s → T (good s)
holds s g = subst T (sym (whole s g)) tt

taken_apart : (s : Live) → T (good s) → GoodState s
taken_apart s t = parts s (is_true (good s) t)

-- A state begun within the limits.
pub begun_good : (n idle : ℕ) (bytes : List ℕ) → begin_answer n idle bytes ≡ answer tt → T (good (begun n idle (settings_of bytes)))
unfolding begin_answer
begun_good n idle bytes h =
    let a = where_true (cell_count n) 3 0 _ h in
    let b = where_true (leb idle 32766) 4 0 _ a.1 in
    let c = where_true (eqb (length bytes) 160) 6 0 _ b.1 in
    holds (begun n idle (settings_of bytes))
    (record {
      cells = a.0;
      idle = b.0;
      rules = rw c.1;
      states = is_true _ (fresh_valid (settings_of bytes));
      counts = refl;
    })

-- The state of a refused beginning.
off_good : T (good (begun 3 0 (tabulate 16 (λ i. off))))
unfolding limits_answer limits
off_good =
    holds (begun 3 0 (tabulate 16 (λ i. off)))
    (record { cells = refl; idle = refl; rules = refl; states = is_true _ (fresh_valid (tabulate 16 (λ i. off))); counts = refl })

totals_of_lem : (s : Live) → GoodState s → (s.totals.charge_in ≤ 32768 * s.totals.ticks) × (s.totals.charge_out ≤ 32768 * s.totals.ticks) × (s.totals.unseen ≤ s.totals.ticks)
totals_of_lem s g = let c = counted s.totals g.counts in (c.inwards, c.outwards, c.unseen)

-- New possible states and totals within the same limits.
kept_good : (s : Live) (w : List ℕ) (t : Totals) → GoodState s → T (valid_record s.settings.of w) → Counted t
    → T (good (record { cells = s.cells; idle = s.idle; settings = s.settings; states = record { words = w }; totals = t }))
kept_good s w t g v c =
    holds (record { cells = s.cells; idle = s.idle; settings = s.settings; states = record { words = w }; totals = t })
    (record { cells = g.cells; idle = g.idle; rules = g.rules; states = is_true _ v; counts = counts t c })

valid : (s : Live) → GoodState s → T (valid_record s.settings.of s.states.words)
valid s g = subst T (sym g.states) tt

-- After a sample, and after a hole.
seen_good : (s : Live) (x : Sample) → I16 x.current → T (good s) → T (good (with_sample s x))
unfolding with_sample
seen_good s x i t =
    let g = taken_apart s t in
    let (l, m, n) = totals_of_lem s g in
    let a = in_most x.current i in
    let b = out_most x.current i in
    kept_good s _ _ g (seen_valid s.settings.of s.states.words (valid s g) (short s g) s.idle s.totals.ticks (readings_of x))
    (record { inwards = omega arith; outwards = omega arith; unseen = omega arith })

unseen_good : (s : Live) (last : ℕ) → s.totals.ticks ≤ last → T (good s) → T (good (with_hole s last))
unfolding with_hole
unseen_good s last h t =
    let g = taken_apart s t in
    let (l, m, n) = totals_of_lem s g in
    kept_good s _ _ g (unseen_valid s.settings.of s.states.words (valid s g) (short s g) s.totals.ticks last)
    (record { inwards = omega arith; outwards = omega arith; unseen = omega arith })

hole_forward : (s : Live) (last : ℕ) → hole_answer s last ≡ answer tt → s.totals.ticks ≤ last
unfolding hole_answer
hole_forward s last h =
    let a = where_true (good s) 16 0 _ h in
    let b = where_true (leb s.totals.ticks last && _) 8 s.totals.ticks _ a.1 in
    leb-true s.totals.ticks last (both_true (leb s.totals.ticks last) _ b.0).0

pub stays_good : StaysGood
stays_good = record { begins = begins; sees = sees; misses = misses }
  where
    begins : (n idle : ℕ) (bytes : List ℕ) → T (good (or_kept (begin_answer n idle bytes) (λ taken. begun n idle (settings_of bytes)) (begun 3 0 (tabulate 16 (λ i. off)))))
    begins n idle bytes = go (begin_answer n idle bytes) refl
      where
        go : (a : Answer (Unit {0})) → begin_answer n idle bytes ≡ a → T (good (or_kept a (λ taken. begun n idle (settings_of bytes)) (begun 3 0 (tabulate 16 (λ i. off)))))
        go (answer tt) e = begun_good n idle bytes e
        go (refused k p) e = off_good

    sees : (s : Live) (tick : ℕ) (x : Sample) → I16 x.current → T (good s) → T (good (or_kept (sample_answer s tick x) (λ taken. with_sample s x) s))
    sees s tick x i t = go (sample_answer s tick x)
      where
        go : (a : Answer (Unit {0})) → T (good (or_kept a (λ taken. with_sample s x) s))
        go (answer tt) = seen_good s x i t
        go (refused k p) = t

    misses : (s : Live) (last : ℕ) → T (good s) → T (good (or_kept (hole_answer s last) (λ taken. with_hole s last) s))
    misses s last t = go (hole_answer s last) refl
      where
        go : (a : Answer (Unit {0})) → hole_answer s last ≡ a → T (good (or_kept a (λ taken. with_hole s last) s))
        go (answer tt) e = unseen_good s last (hole_forward s last e) t
        go (refused k p) e = t
