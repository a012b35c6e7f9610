-- Fed an accepted trace's samples and holes by tick, the feed ends with what the trace gives.
use Prim.Native.Nat.{ℕ, zero, suc, ◌+◌, ◌-◌, ◌*◌, ◌≤◌, ◌<◌}
use mathlib.Core.Path.{◌≡◌, refl, ap, ap₂, sym, ◌∙◌, subst}
use mathlib.Core.List.{List, [], ◌∷◌}
use native.Mathlib.Omega.{arith}
use native.Mathlib.Numerals.{add-one}
use lib.Dec.{T}
use lib.IntN.{ℤ}
use lib.ListN.{length}
use borrow.Author.Tests.{lt-ltb, le-ltb, eq-eqb}
use Rattle.lists.specs.Lists.{tabulate, Every}
use Rattle.lists.proofs.Bools.{is_true}
use Rattle.refusals.specs.Refusals.{answer, and_then, or_kept}
use Rattle.rules.specs.Samples.{Sample}
use Rattle.rules.proofs.CellCount.{in_range}
use Rattle.limits.specs.Limits.{off, settings_of}
use Rattle.bytes_le.specs.Numbers.{u16_at, i16_at}
use Rattle.bytes_le.proofs.Spaced.{length_spaced}
use Rattle.trace.specs.Records.{Hole, Stamped, stamped_at, samples_from, sample_width}
use Rattle.trace.proofs.SampleBytes.{every_spaced}
use Rattle.trace.specs.Sections.{rules_part, samples_part}
use Rattle.trace.specs.Acceptance.{Parsed, accept_answer}
use Rattle.fillings.specs.Fillings.{Config, seen, unseen}
use Rattle.fillings.specs.Charge.{inward, outward, of_seen, of_unseen, total, unseen_ticks}
use Rattle.flags.specs.declared.RuleFlags.{RuleFlags}
use Rattle.flags.specs.Flags.{number_of}
use Rattle.flags.specs.Outputs.{output_of, drivers, statuses_of}
use Rattle.rules.specs.Table.{rows}
use Rattle.report.specs.declared.Totals.{Totals}
use Rattle.report.proofs.WholeReport.{totals_same}
use Rattle.states.specs.promises.Tracking.{record_at, ShortTimes}
use Rattle.states.proofs.Tracking.{tracks}
use Rattle.ticks.specs.Traces.{Trace, trace_of, shown, shown_in, Accepted}
use Rattle.ticks.specs.inner.Places.{NotYet, Place, done, hole, sample}
use Rattle.ticks.proofs.Places.{place_start, none_before, shown_first}
use Rattle.ticks.proofs.AcceptedBytes.{checks, accepted, short_times}
use Rattle.ticks.proofs.CoveredOnce.{total_run, Same, same_later}
use Rattle.demands.specs.Report.{totals_at}
use Rattle.demands.proofs.TotalBounds.{Currents, currents}
use Rattle.live.specs.declared.Live.{Live}
use Rattle.live.specs.State.{good, begun, with_sample, with_hole}
use Rattle.live.specs.Calls.{begin_answer, begin_state, sample_answer, sample_state, hole_answer, hole_state}
use Rattle.live.specs.promises.Promises.{Event, by_tick, feed, feed_answer, feed_state, events_of, end_of, ReadsTrace, FedTrace}
use Rattle.live.specs.promises.Promises as events
use Rattle.live.proofs.Stepping.{as_rules, tick_next, hole_taken}
use Rattle.live.proofs.StaysGood.{stays_good}

-- The lists of the samples of a trace of n cells are n long.
abbrev Long : ℕ → List Stamped → Type 0
Long n xs = Every (λ x. (length x.sample.volts ≡ n) × (length x.sample.temps ≡ n)) xs

long : (n : ℕ) (s : List ℕ) (k at : ℕ) → Long n (samples_from n s k at)
long n s k at =
    every_spaced (λ x. (length x.sample.volts ≡ n) × (length x.sample.temps ≡ n)) (stamped_at n s) (sample_width n)
    (λ x. (length_spaced (u16_at s) 2 n (x + 4 + 4), length_spaced (i16_at s) 2 n (x + 4 + 4 + 2 * n))) k at

-- The next sample is not before the next tick.
not_before : {m : ℕ} (hs : List Hole) (x : Stamped) (xs : List Stamped) (e : ℕ) → Place m hs (x ∷ xs) e → e ≤ x.tick
not_before (h ∷ hs) x xs e (hole a b c p) = let l = not_before hs x xs (suc h.last) p in omega arith
not_before hs x xs e (sample a b c p) = omega arith

-- The record that is fed next.
hole_next_lem : {m : ℕ} (k : ℕ) (h : Hole) (hs : List Hole) (xs : List Stamped) (e : ℕ) → h.first ≤ e → e ≤ h.last → Place m hs xs (suc h.last)
    → by_tick (suc k) (h ∷ hs) xs ≡ events.hole h ∷ by_tick k hs xs
unfolding by_tick
hole_next_lem k h hs [] e a b p = refl
hole_next_lem k h hs (x ∷ xs) e a b p = let l = not_before hs x xs (suc h.last) p in rw (lt-ltb h.first x.tick (omega arith))

none_next : by_tick 0 [] [] ≡ []
unfolding by_tick
none_next = refl

sample_next_lem : (k : ℕ) (hs : List Hole) (x : Stamped) (xs : List Stamped) (e : ℕ) → x.tick ≡ e → NotYet hs e
    → by_tick (suc k) hs (x ∷ xs) ≡ events.sample x ∷ by_tick k hs xs
unfolding by_tick
sample_next_lem k [] x xs e a n = refl
sample_next_lem k (h ∷ hs) x xs e a n = rw (le-ltb h.first x.tick (omega arith))

-- A record that is taken, and those after it.
fed_next : (s : Live) (e : Event) (es : List Event) (t : Live) → feed_answer s e ≡ answer tt → feed_state s e ≡ t → feed s (e ∷ es) ≡ feed t es
unfolding feed
fed_next s e es t a b = ap (λ r. and_then r (λ taken. feed (feed_state s e) es)) a ∙ ap (λ (x : Live). feed x es) b

module _ (p : Config) (short : ShortTimes p) (all : List Stamped) where
  -- What the trace gives once the first k ticks have passed.
  abbrev state_at : ℕ → Live
  state_at k =
      record {
        cells = p.cells;
        idle = p.idle;
        settings = record { of = p.settings };
        states = record { words = record_at p (shown_in all) k };
        totals = totals_at (shown_in all) k;
      }

  begins : begun p.cells p.idle p.settings ≡ state_at 0
  unfolding total
  begins =
      ap (λ (w : List ℕ). record {
        cells = p.cells;
        idle = p.idle;
        settings = record { of = p.settings };
        states = record { words = w };
        totals = record { charge_in = 0; charge_out = 0; unseen = 0; ticks = 0 };
      }) (tracks p short (shown_in all)).begins

  with : (w : List ℕ) (t : Totals) → Live
  with w t = record { cells = p.cells; idle = p.idle; settings = record { of = p.settings }; states = record { words = w }; totals = t }

  -- a seen tick
  sees : (k : ℕ) (x : Sample) → shown_in all k ≡ seen x → with_sample (state_at k) x ≡ state_at (suc k)
  unfolding with_sample total with
  sees k x e =
      ap₂ with ((tracks p short (shown_in all)).sees k x e)
      (totals_same (rw e) (rw e) (rw e (omega arith)) (add-one k))

  -- a run of unseen ticks
  misses : (k last : ℕ) → k ≤ last → ((t : ℕ) → k ≤ t → t ≤ last → shown_in all t ≡ unseen) → with_hole (state_at k) last ≡ state_at (suc last)
  unfolding with_hole with
  misses k last l u =
      ap₂ with ((tracks p short (shown_in all)).misses k last l u)
      (totals_same (charged inward) (charged outward) counted (add-one last))
    where
      charged : (f : ℤ → ℕ) → total (λ t. of_seen (λ x. f x.current) (shown_in all t)) k ≡ total (λ t. of_seen (λ x. f x.current) (shown_in all t)) (suc last)
      charged f =
          let r = total_run (λ t. of_seen (λ x. f x.current) (shown_in all t)) 0 k (suc last) (omega arith) (λ t i j. ap (of_seen (λ x. f x.current)) (u t i (omega arith))) in
          omega arith

      counted : unseen_ticks (shown_in all) k + (suc last - k) ≡ unseen_ticks (shown_in all) (suc last)
      counted =
          let r = total_run (λ t. of_unseen (shown_in all t)) 1 k (suc last) (omega arith) (λ t i j. ap of_unseen (u t i (omega arith))) in
          omega arith

  -- one record taken
  fed_sample : (k : ℕ) (x : Stamped) → x.tick ≡ k → k < 0xFFFFFFFF → shown_in all k ≡ seen x.sample → length x.sample.volts ≡ p.cells → length x.sample.temps ≡ p.cells
      → T (good (state_at k)) → (sample_answer (state_at k) x.tick x.sample ≡ answer tt) × (sample_state (state_at k) x.tick x.sample ≡ state_at (suc k))
  unfolding sample_answer
  fed_sample k x e l s v w t =
      let a : sample_answer (state_at k) x.tick x.sample ≡ answer tt =
      rw (is_true (good (state_at k)) t, eq-eqb (length x.sample.volts) p.cells v, eq-eqb (length x.sample.temps) p.cells w) (tick_next (state_at k) x.tick e (omega arith)) in
      (a, ap (λ b. or_kept b (λ taken. with_sample (state_at k) x.sample) (state_at k)) a ∙ sees k x.sample s)

  fed_hole : (k last : ℕ) → k ≤ last → last < 0xFFFFFFFF → ((t : ℕ) → k ≤ t → t ≤ last → shown_in all t ≡ unseen)
      → T (good (state_at k)) → (hole_answer (state_at k) last ≡ answer tt) × (hole_state (state_at k) last ≡ state_at (suc last))
  fed_hole k last l i u t =
      let a = hole_taken (state_at k) last (is_true (good (state_at k)) t) l i in
      (a, ap (λ b. or_kept b (λ taken. with_hole (state_at k) last) (state_at k)) a ∙ misses k last l u)

  -- all records left
  walked : {m : ℕ} (k : ℕ) (hs : List Hole) (xs : List Stamped) (e : ℕ) → Place m hs xs e → k ≡ length hs + length xs → Same all xs e → Long p.cells xs → Currents xs
      → T (good (state_at e)) → (feed (state_at e) (by_tick k hs xs) ≡ answer (state_at m)) × T (good (state_at m))
  unfolding feed
  walked zero [] [] e done q s ls cs t = (rw none_next, t)
  walked (suc k) [] [] e done q s ls cs t = absurd (omega arith)
  walked zero (h ∷ hs) xs e (hole a b c r) q s ls cs t = absurd (omega arith)
  walked (suc k) (h ∷ hs) xs e (hole a b c r) q s ls cs t =
      let (y, z) = fed_hole e h.last b c (λ i l j. s i l ∙ none_before hs xs (suc h.last) r i (omega arith)) t in
      let g = subst (λ (x : Live). T (good x)) z (stays_good.misses (state_at e) h.last t) in
      let (d, n) = walked k hs xs (suc h.last) r (omega arith) (λ i l. s i (omega arith)) ls cs g in
      (ap (feed (state_at e)) (hole_next_lem k h hs xs e a b r) ∙ fed_next (state_at e) (events.hole h) (by_tick k hs xs) (state_at (suc h.last)) y z ∙ d, n)
  walked zero hs (x ∷ xs) e (sample a b c r) q s ls cs t = absurd (omega arith)
  walked (suc k) hs (x ∷ xs) e (sample a b c r) q s ((v, w), ls) (i, cs) t =
      let (y, z) = fed_sample e x a b (s e (omega arith) ∙ shown_first x xs e a) v w t in
      let g = subst (λ (x : Live). T (good x)) z (stays_good.sees (state_at e) x.tick x.sample i t) in
      let (d, n) = walked k hs xs (suc e) r (omega arith) (same_later all x xs e a s) ls cs g in
      (ap (feed (state_at e)) (sample_next_lem k hs x xs e a c) ∙ fed_next (state_at e) (events.sample x) (by_tick k hs xs) (state_at (suc e)) y z ∙ d, n)

module _ (s : List ℕ) (w : Parsed) (h : accept_answer s ≡ answer w) where
  abbrev tr : Trace
  tr = trace_of s w

  ok : Accepted tr
  ok = accepted s w h

  settings : w.settings ≡ settings_of (rules_part s)
  settings = (checks s w h).settings

  short : ShortTimes tr.config
  short =
      let l : length w.settings ≤ 16 = rw settings (omega arith) in
      short_times tr.config ok.rules l

  begun_as : begin_answer w.layout.cells w.layout.idle (rules_part s) ≡ answer tt
  begun_as =
      let r = ok.rules 0 (omega arith) in
      as_rules w.layout.cells w.layout.idle (rules_part s) (in_range r.least_cells r.most_cells) r.idle ∙ (checks s w h).rules

  starts : begin_state w.layout.cells w.layout.idle (rules_part s) ≡ state_at tr.config short tr.samples 0
  starts =
      ap (λ a. or_kept a (λ taken. begun w.layout.cells w.layout.idle (settings_of (rules_part s))) (begun 3 0 (tabulate 16 (λ i. off)))) begun_as
      ∙ ap (begun w.layout.cells w.layout.idle) (sym settings)
      ∙ begins tr.config short tr.samples

  ends : (feed (state_at tr.config short tr.samples 0) (by_tick (length tr.holes + length tr.samples) tr.holes tr.samples) ≡ answer (end_of tr)) × T (good (end_of tr))
  ends =
      walked tr.config short tr.samples (length tr.holes + length tr.samples) tr.holes tr.samples 0 (place_start tr ok) refl (λ t l. refl)
      (long w.layout.cells (samples_part s w.layout) _ 0) (currents w.layout.cells (samples_part s w.layout) _ 0)
      (subst (λ (x : Live). T (good x)) starts (stays_good.begins w.layout.cells w.layout.idle (rules_part s)))

  reads : ReadsTrace tr
  reads =
      let g = is_true (good (end_of tr)) ends.1 in
      let f = (tracks tr.config short (shown tr)).reads tr.ticks in
      record {
        flags = rw g f;
        outputs = λ o. rw g (ap (λ (fs : List RuleFlags). answer (number_of (output_of (drivers o) rows (statuses_of fs)))) f);
        totals = rw g;
        net = rw g;
      }

pub fed_trace : FedTrace
fed_trace s w h =
    (begun_as s w h, ap (λ (x : Live). feed x (events_of (trace_of s w))) (starts s w h) ∙ (ends s w h).0, reads s w h)
