-- What a call answers, from what the code finds.
use Prim.Native.Nat.{ℕ, ◌+◌, ◌≤◌, ◌<◌}
use mathlib.Core.Path.{◌≡◌, refl, ap, ap₂, sym, ◌∙◌}
use mathlib.Core.Bool.{Bool, true, false, cond, ◌&&◌}
use mathlib.Core.List.{List}
use native.Mathlib.Omega.{arith}
use lib.Dec.{ltb, eqb}
use lib.IntN.{ℤ}
use lib.ListN.{length}
use borrow.Author.Tests.{le-leb, lt-leb, lt-ltb, le-ltb, eq-eqb, ne_eqb}
use Rattle.std.specs.Prelude.{Ok, Err}
use Rattle.lists.specs.Lists.{tabulate}
use Rattle.refusals.specs.declared.Refusal.{Refusal}
use Rattle.refusals.specs.Refusals.{Answer, answer, refused, refusal, answer_of, or_kept}
use Rattle.refusals.proofs.Answers.{clash}
use Rattle.rules.specs.declared.Setting.{Setting}
use Rattle.rules.specs.declared.Settings.{Settings}
use Rattle.rules.specs.declared.Readings.{Readings}
use Rattle.rules.specs.Samples.{Sample, cell_count, readings_of}
use Rattle.limits.specs.Limits.{off, settings_of, with_settings, rule_set_answer}
use Rattle.trace.proofs.Outcomes.{passed}
use Rattle.samples.specs.Answers.{read_answer}
use Rattle.fillings.specs.Charge.{inward, outward}
use Rattle.report.specs.declared.Totals.{Totals}
use Rattle.states.specs.declared.States.{States}
use Rattle.states.specs.Records.{fresh}
use Rattle.states.specs.Steps.{after_seen, after_unseen}
use Rattle.live.specs.declared.Live.{Live}
use Rattle.live.specs.declared.Step.{Step}
use Rattle.live.specs.State.{good, begun, with_sample, with_hole}
use Rattle.live.specs.Calls.{begin_answer, begin_state, sample_answer, hole_answer}
use Rattle.live.specs.inner.Steps.{Stepped, count_sample, count_hole}
use Rattle.live.proofs.GoodStates.{parts}

pub refuses : {r : Step} {why : Refusal} {a : Answer (Unit {0})} {new old : Live} → r ≡ record { answer = Err why; state = old } → a ≡ refusal why → Stepped r a new old
refuses e h = rw (e, h) (record { answer = refl; state = refl })

pub takes : {st new old : Live} {a : Answer (Unit {0})} → st ≡ new → a ≡ answer tt → Stepped (record { answer = Ok tt; state = st }) a new old
takes e h = rw h (record { answer = refl; state = e })

-- A refused call, of whatever answer.
pub refused_call : (new : Live) {r : Step} {why : Refusal} {a : Answer (Unit {0})} {old : Live} → r ≡ record { answer = Err why; state = old } → a ≡ refusal why
    → (answer_of r.answer ≡ a) × (r.state ≡ or_kept a (λ taken. new) old)
refused_call new e h = let t = refuses {new = new} e h in (t.answer, t.state)

pub no_sample : (s : Live) (tick : ℕ) (x : Sample) → good s ≡ false → sample_answer s tick x ≡ refused 16 0
unfolding sample_answer
no_sample s tick x g = rw g

pub no_hole : (s : Live) (last : ℕ) → good s ≡ false → hole_answer s last ≡ refused 16 0
unfolding hole_answer
no_hole s last g = rw g

-- The totals after a sample, as code counts them.
pub sample_counted : (t : Totals) (z : ℤ) {i o : ℕ} → i ≡ inward z → o ≡ outward z
    → record { charge_in = t.charge_in + i; charge_out = t.charge_out + o; unseen = t.unseen; ticks = t.ticks + 1 } ≡ count_sample t z
sample_counted t z e f = rw (e, f)

-- The state at the beginning, as code makes it.
pub begun_is : (n idle : ℕ) (ss : Settings) (st : States) → st.words ≡ fresh
    → record { cells = n; idle = idle; settings = ss; states = st; totals = record { charge_in = 0; charge_out = 0; unseen = 0; ticks = 0 } } ≡ begun n idle ss.of
begun_is n idle ss st e =
    ap (λ (w : List ℕ). record { cells = n; idle = idle; settings = ss; states = record { words = w }; totals = record { charge_in = 0; charge_out = 0; unseen = 0; ticks = 0 } }) e

-- A rule set that is refused.
pub unset : (a : Answer (Unit {0})) (ss : List Setting) {n p : ℕ} → refused n p ≡ with_settings a ss → a ≡ refused n p
unset (answer u) ss h = absurd (clash h)
unset (refused n p) ss h = cc

module _ (n idle : ℕ) (bytes : List ℕ) where
  -- a refused beginning, and one that is taken
  pub begin_refused : {r : Step} {why : Refusal} → r ≡ record { answer = Err why; state = begun 3 0 (tabulate 16 (λ i. off)) } → begin_answer n idle bytes ≡ refusal why
      → (answer_of r.answer ≡ begin_answer n idle bytes) × (r.state ≡ begin_state n idle bytes)
  begin_refused e h = (rw (e, h), rw (e, h))

  pub begin_taken : {st : Live} {ss : Settings} → st ≡ begun n idle ss.of → answer ss.of ≡ with_settings (rule_set_answer n bytes) (settings_of bytes)
      → begin_answer n idle bytes ≡ rule_set_answer n bytes → (answer tt ≡ begin_answer n idle bytes) × (st ≡ begin_state n idle bytes)
  begin_taken {ss = ss} e h b =
      let (r, k) = passed _ h in
      let a : begin_answer n idle bytes ≡ answer tt = b ∙ r in
      (sym a, rw (a, ← k) e)

  pub few_cells : cell_count n ≡ false → begin_answer n idle bytes ≡ refused 3 0
  unfolding begin_answer
  few_cells h = rw h

  pub idle_over : cell_count n ≡ true → 32766 < idle → begin_answer n idle bytes ≡ refused 4 0
  unfolding begin_answer
  idle_over h l = rw (h, lt-leb idle 32766 l)

  pub as_rules : cell_count n ≡ true → idle ≤ 32766 → begin_answer n idle bytes ≡ rule_set_answer n bytes
  unfolding begin_answer rule_set_answer
  as_rules h l = rw (h, le-leb idle 32766 l)

-- The new states, as code makes them.
pub hole_state_lem : (s : Live) (last : ℕ) (st : States) (t : Totals) → st.words ≡ after_unseen s.settings.of s.totals.ticks last s.states.words → t ≡ count_hole s.totals last
    → record { cells = s.cells; idle = s.idle; settings = s.settings; states = st; totals = t } ≡ with_hole s last
unfolding with_hole
hole_state_lem s last st t e f =
    ap₂ (λ (w : List ℕ) (u : Totals). record { cells = s.cells; idle = s.idle; settings = s.settings; states = record { words = w }; totals = u }) e f

pub sample_state_lem : (s : Live) (x : Sample) {current : ℤ} {r : Readings} (st : States) (t : Totals) → x.current ≡ current → r ≡ readings_of x
    → st.words ≡ after_seen s.settings.of s.idle s.totals.ticks r s.states.words → t ≡ count_sample s.totals current
    → record { cells = s.cells; idle = s.idle; settings = s.settings; states = st; totals = t } ≡ with_sample s x
unfolding with_sample
sample_state_lem s x st t i j e f =
    ap₂ (λ (w : List ℕ) (u : Totals). record { cells = s.cells; idle = s.idle; settings = s.settings; states = record { words = w }; totals = u })
    (e ∙ ap (λ (q : Readings). after_seen s.settings.of s.idle s.totals.ticks q s.states.words) j) (f ∙ ap (count_sample s.totals) (sym i))

-- A hole that is refused, and one that is taken.
module _ (s : Live) (last : ℕ) (g : good s ≡ true) where
  pub hole_early : last < s.totals.ticks → hole_answer s last ≡ refused 8 s.totals.ticks
  unfolding hole_answer
  hole_early h = rw (g, lt-leb s.totals.ticks last h)

  pub hole_late : s.totals.ticks ≤ last → 0xFFFFFFFF ≤ last → hole_answer s last ≡ refused 8 s.totals.ticks
  unfolding hole_answer
  hole_late h l = rw (g, le-leb s.totals.ticks last h, le-ltb last 0xFFFFFFFF l)

  pub hole_taken : s.totals.ticks ≤ last → last < 0xFFFFFFFF → hole_answer s last ≡ answer tt
  unfolding hole_answer
  hole_taken h l = rw (g, le-leb s.totals.ticks last h, lt-ltb last 0xFFFFFFFF l)

-- The answer for a sample whose lists are long enough.
abbrev pub tick_answer : Live → ℕ → Answer (Unit {0})
tick_answer s tick = cond (eqb tick s.totals.ticks && ltb tick 0xFFFFFFFF) (answer tt) (refused 9 s.totals.ticks)

module _ (s : Live) (tick : ℕ) where
  pub tick_other : (tick ≡ s.totals.ticks → ⊥) → tick_answer s tick ≡ refused 9 s.totals.ticks
  tick_other n = rw (ne_eqb tick s.totals.ticks n)

  pub tick_late : tick ≡ s.totals.ticks → 0xFFFFFFFF ≤ tick → tick_answer s tick ≡ refused 9 s.totals.ticks
  tick_late e l = rw (eq-eqb tick s.totals.ticks e, le-ltb tick 0xFFFFFFFF l)

  pub tick_next : tick ≡ s.totals.ticks → tick < 0xFFFFFFFF → tick_answer s tick ≡ answer tt
  tick_next e l = rw (eq-eqb tick s.totals.ticks e, lt-ltb tick 0xFFFFFFFF l)

-- A sample that is read, and one that is not.
module _ (s : Live) (tick : ℕ) (x : Sample) (g : good s ≡ true) where
  read_is : read_answer s.cells x ≡ cond (eqb (length x.volts) s.cells && eqb (length x.temps) s.cells) (answer (readings_of x)) (refused 15 0)
  unfolding read_answer
  read_is = rw (parts s g).cells

  pub unread : {number place : ℕ} → refused number place ≡ read_answer s.cells x → sample_answer s tick x ≡ refused number place
  unfolding sample_answer
  unread {number} {place} e = go (eqb (length x.volts) s.cells && eqb (length x.temps) s.cells) refl
    where
      go : (b : Bool) → (eqb (length x.volts) s.cells && eqb (length x.temps) s.cells) ≡ b
          → cond (good s) (cond (eqb (length x.volts) s.cells && eqb (length x.temps) s.cells) (tick_answer s tick) (refused 15 0)) (refused 16 0) ≡ refused number place
      go true q = let d : refused number place ≡ answer (readings_of x) = e ∙ read_is ∙ rw q in let z : ◌≡◌ {A = ℕ} 0 1 = cc in absurd (omega arith)
      go false q = let d : refused number place ≡ refused 15 0 = e ∙ read_is ∙ rw q in rw (g, q) cc

  pub read : {r : Readings} → answer r ≡ read_answer s.cells x → (r ≡ readings_of x) × (sample_answer s tick x ≡ tick_answer s tick)
  unfolding sample_answer
  read {r} e = go (eqb (length x.volts) s.cells && eqb (length x.temps) s.cells) refl
    where
      go : (b : Bool) → (eqb (length x.volts) s.cells && eqb (length x.temps) s.cells) ≡ b
          → (r ≡ readings_of x) × (cond (good s) (cond (eqb (length x.volts) s.cells && eqb (length x.temps) s.cells) (tick_answer s tick) (refused 15 0)) (refused 16 0) ≡ tick_answer s tick)
      go true q = let d : answer r ≡ answer (readings_of x) = e ∙ read_is ∙ rw q in (cc, rw (g, q))
      go false q = let d : answer r ≡ refused 15 0 = e ∙ read_is ∙ rw q in let z : ◌≡◌ {A = ℕ} 0 1 = cc in absurd (omega arith)
