-- What a good state is, part by part.
use Prim.Native.Nat.{ℕ, ◌*◌, ◌≤◌}
use mathlib.Core.Path.{◌≡◌, refl, sym}
use mathlib.Core.Bool.{Bool, true, false, ◌&&◌}
use native.Mathlib.Omega.{arith}
use lib.Dec.{leb}
use lib.ListN.{length, get_or, get_or-eq_default}
use borrow.Author.Tests.{leb-true, le-leb}
use Rattle.lists.proofs.Bools.{both_true, by_order}
use Rattle.refusals.specs.Refusals.{Answer, answer, refused, passes}
use Rattle.rules.specs.Samples.{cell_count}
use Rattle.rules.specs.Table.{rows, row_at}
use Rattle.limits.specs.Limits.{off, limits_answer}
use Rattle.limits.proofs.RuleSets.{time_small, rule_within}
use Rattle.report.specs.declared.Totals.{Totals}
use Rattle.states.specs.Validity.{valid_record}
use Rattle.states.proofs.KeptValid.{Short}
use Rattle.live.specs.declared.Live.{Live}
use Rattle.live.specs.State.{good_rules, good_totals, good}

-- The tests of a state, in their order.
abbrev pub head_good : Live → Bool
head_good s = cell_count s.cells && leb s.idle 32766

abbrev pub rules_good : Live → Bool
rules_good s = passes (limits_answer s.cells rows s.settings.of 0)

abbrev pub states_good : Live → Bool
states_good s = valid_record s.settings.of s.states.words

module _ (s : Live) where
  pub all_good : head_good s ≡ true → rules_good s ≡ true → states_good s ≡ true → {b : Bool} → b ≡ good_totals s.totals → b ≡ good s
  unfolding good
  all_good h r v e = rw (h, r, v) e

  pub no_states : head_good s ≡ true → rules_good s ≡ true → states_good s ≡ false → false ≡ good s
  unfolding good
  no_states h r v = rw (h, r, v)

  pub no_rules : head_good s ≡ true → rules_good s ≡ false → false ≡ good s
  unfolding good
  no_rules h r = rw (h, r)

  pub no_head : head_good s ≡ false → false ≡ good s
  unfolding good
  no_head h = rw h

-- The parts of a good state.
pub record GoodState (s : Live) : Type 0 where
  pub cells : cell_count s.cells ≡ true
  pub idle : leb s.idle 32766 ≡ true
  pub rules : rules_good s ≡ true
  pub states : states_good s ≡ true
  pub counts : good_totals s.totals ≡ true

pub parts : (s : Live) → good s ≡ true → GoodState s
unfolding good
parts s g =
    let (a, counts) = both_true (good_rules s && states_good s) (good_totals s.totals) g in
    let (b, states) = both_true (good_rules s) (states_good s) a in
    let (h, rules) = both_true (head_good s) (rules_good s) b in
    let (cells, idle) = both_true (cell_count s.cells) (leb s.idle 32766) h in
    record { cells = cells; idle = idle; rules = rules; states = states; counts = counts }

pub whole : (s : Live) → GoodState s → good s ≡ true
whole s g = let h : head_good s ≡ true = rw (g.cells, g.idle) in sym (all_good s h g.rules g.states (sym g.counts))

-- The totals of a good state.
pub record Counted (t : Totals) : Type 0 where
  pub inwards : t.charge_in ≤ 32768 * t.ticks
  pub outwards : t.charge_out ≤ 32768 * t.ticks
  pub unseen : t.unseen ≤ t.ticks

pub counted : (t : Totals) → good_totals t ≡ true → Counted t
counted t g =
    let (a, c) = both_true (leb t.charge_in (32768 * t.ticks) && leb t.charge_out (32768 * t.ticks)) (leb t.unseen t.ticks) g in
    let (i, o) = both_true (leb t.charge_in (32768 * t.ticks)) (leb t.charge_out (32768 * t.ticks)) a in
    record { inwards = leb-true _ _ i; outwards = leb-true _ _ o; unseen = leb-true _ _ c }

pub counts : (t : Totals) → Counted t → good_totals t ≡ true
counts t c = rw (le-leb _ _ c.inwards, le-leb _ _ c.outwards, le-leb _ _ c.unseen)

-- Rules that pass have times up to 255.
passing : (a : Answer (Unit {0})) → passes a ≡ true → a ≡ answer tt
passing (answer tt) e = refl
passing (refused n p) e = let z : ◌≡◌ {A = ℕ} 0 1 = cc in absurd (omega arith)

pub short : (s : Live) → GoodState s → Short s.settings.of
short s g i h =
    by_order i (length s.settings.of)
    (λ l. time_small s.cells (row_at i) (get_or s.settings.of i off) (rule_within s.cells rows s.settings.of 0 (passing (limits_answer s.cells rows s.settings.of 0) g.rules) i _ off h l))
    (λ l. rw (get_or-eq_default s.settings.of off l) (omega arith))
