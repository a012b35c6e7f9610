-- The fillings of a trace's holes, and the fillings of what the trace shows.
use Prim.Native.Nat.{ℕ, zero, suc, ◌≤◌, ◌<◌}
use native.Mathlib.Omega.{arith}
use mathlib.Core.Path.{◌≡◌, refl, sym, ap, ap₂, ◌∙◌, subst}
use mathlib.Core.Bool.{Bool, true, false, not, cond, ◌||◌}
use mathlib.Core.List.{List, [], ◌∷◌}
use lib.Dec.{T, eqb}
use lib.IntN.{◌+ℤ◌}
use Rattle.lists.proofs.Bools.{is_true, by_order}
use Rattle.rules.specs.Samples.{Sample, Carried}
use Rattle.rules.specs.Evaluation.{evaluated}
use Rattle.trace.specs.Records.{Stamped}
use Rattle.fillings.specs.Fillings.{Rule, Shown, seen, unseen, Filling, filled, evaluate, after}
use Rattle.fillings.specs.Charge.{net_charge}
use Rattle.fillings.specs.promises.Demand3.{Always, Sometimes, Sure, Judged}
use Rattle.fillings.proofs.Witness.{blank, blank_carried}
use Rattle.fillings.proofs.Demand3.{judged}
use Rattle.ticks.specs.Traces.{Trace, shown, shown_in, has_sample, in_hole, Accepted}
use Rattle.ticks.specs.promises.Promises.{CoveredOnce}
use Rattle.ticks.proofs.CoveredOnce.{covered_once}
use Rattle.demands.specs.Reading.{rule_in, Fills, UnderEvery, UnderSome, SureAt}

-- A tick shows the sample that bears it, and nothing where none does.
shows_none : (xs : List Stamped) (t : ℕ) → has_sample xs t ≡ false → shown_in xs t ≡ unseen
unfolding shown_in
shows_none [] t e = refl
shows_none (x ∷ xs) t e = go (eqb x.tick t) e (shows_none xs t)
  where
    go : (b : Bool) → (b || has_sample xs t) ≡ false → (has_sample xs t ≡ false → shown_in xs t ≡ unseen) → cond b (seen x.sample) (shown_in xs t) ≡ unseen
    go true e k = let z : ◌≡◌ {A = ℕ} 0 1 = cc in absurd (omega arith)
    go false e k = k e

shows_one : (xs : List Stamped) (t : ℕ) → has_sample xs t ≡ true → (x : Sample) × (shown_in xs t ≡ seen x)
unfolding shown_in
shows_one [] t e = let z : ◌≡◌ {A = ℕ} 0 1 = cc in absurd (omega arith)
shows_one (x ∷ xs) t e = go (eqb x.tick t) e (shows_one xs t)
  where
    go : (b : Bool) → (b || has_sample xs t) ≡ true → (has_sample xs t ≡ true → (y : Sample) × (shown_in xs t ≡ seen y)) → (y : Sample) × (cond b (seen x.sample) (shown_in xs t) ≡ seen y)
    go true e k = (x.sample, refl)
    go false e k = k e

-- What two fillings give agrees if it agrees where the trace looks.
after_alike : (r : Rule) (trace : ℕ → Shown) (f g : ℕ → Sample) (k : ℕ) → ((t : ℕ) → t < k → filled (trace t) (f t) ≡ filled (trace t) (g t)) → after r trace f k ≡ after r trace g k
unfolding after
after_alike r trace f g zero h = refl
after_alike r trace f g (suc k) h =
    ap₂ (λ x s. cond (evaluated r.row k) (evaluate r x s) s) (h k (omega arith)) (after_alike r trace f g k (λ t l. h t (omega arith)))

net_alike : (trace : ℕ → Shown) (f g : ℕ → Sample) (k : ℕ) → ((t : ℕ) → t < k → filled (trace t) (f t) ≡ filled (trace t) (g t)) → net_charge trace f k ≡ net_charge trace g k
unfolding net_charge
net_alike trace f g zero h = refl
net_alike trace f g (suc k) h = ap₂ (λ z x. z +ℤ x.current) (net_alike trace f g k (λ t l. h t (omega arith))) (h k (omega arith))

-- A filling inside the holes, and some carried sample elsewhere.
abbrev pub within : Trace → (ℕ → Sample) → ℕ → Sample
within tr f t = cond (in_hole tr.holes t) (f t) (blank tr.config.cells)

pub within_fills : (tr : Trace) (f : ℕ → Sample) → Fills tr f → Filling tr.config.cells (shown tr) (within tr f)
within_fills tr f fills t e = go (in_hole tr.holes t) (fills t)
  where
    go : (b : Bool) → (T b → Carried tr.config.cells (f t)) → Carried tr.config.cells (cond b (f t) (blank tr.config.cells))
    go true c = c tt
    go false c = blank_carried tr.config.cells

pub within_alike : (tr : Trace) (f g : ℕ → Sample) (t : ℕ) → (T (in_hole tr.holes t) → f t ≡ g t) → within tr f t ≡ within tr g t
within_alike tr f g t h = go (in_hole tr.holes t) h
  where
    go : (b : Bool) → (T b → f t ≡ g t) → cond b (f t) (blank tr.config.cells) ≡ cond b (g t) (blank tr.config.cells)
    go true h = h tt
    go false h = refl

module _ (tr : Trace) (ok : Accepted tr) where
  pub rule_known : (i : ℕ) → i < 16 → Judged (rule_in tr i) (shown tr) tr.ticks
  rule_known i h = judged (rule_in tr i) (ok.rules i h) (shown tr) tr.ticks

  once : CoveredOnce tr
  once = covered_once tr ok

  -- A tick of a hole shows nothing.
  hole_unseen : (t : ℕ) → T (in_hole tr.holes t) → shown tr t ≡ unseen
  hole_unseen t h =
      let e = is_true (in_hole tr.holes t) h in
      by_order t tr.ticks
      (λ l. shows_none tr.samples t (once.once t l ∙ ap not e))
      (λ l. shows_none tr.samples t (once.none t l).0)

  pub filling_fills : (f : ℕ → Sample) → Filling tr.config.cells (shown tr) f → Fills tr f
  filling_fills f fills t h = fills t (hole_unseen t h)

  -- Up to the last tick the trace looks at a filling inside the holes only.
  looks_within : (f : ℕ → Sample) (t : ℕ) → t < tr.ticks → filled (shown tr t) (f t) ≡ filled (shown tr t) (within tr f t)
  looks_within f t l = go (in_hole tr.holes t) (once.once t l)
    where
      go : (b : Bool) → has_sample tr.samples t ≡ not b → filled (shown tr t) (f t) ≡ filled (shown tr t) (cond b (f t) (blank tr.config.cells))
      go true e = refl
      go false e = let (x, s) = shows_one tr.samples t e in rw s

  pub after_within : (r : Rule) (f : ℕ → Sample) (k : ℕ) → k ≤ tr.ticks → after r (shown tr) f k ≡ after r (shown tr) (within tr f) k
  after_within r f k h = after_alike r (shown tr) f (within tr f) k (λ t l. looks_within f t (omega arith))

  pub net_within : (f : ℕ → Sample) → net_charge (shown tr) f tr.ticks ≡ net_charge (shown tr) (within tr f) tr.ticks
  net_within f = net_alike (shown tr) f (within tr f) tr.ticks (looks_within f)

  -- What holds under every filling, under some, and alike under all.
  pub every : (i t : ℕ) (test : ℕ → Bool) → t < tr.ticks → Always (rule_in tr i) (shown tr) (suc t) test → UnderEvery tr i t test
  every i t test l all f fills =
      subst (λ s. T (test s)) (sym (after_within (rule_in tr i) f (suc t) l)) (all (within tr f) (within_fills tr f fills))

  pub always : (i t : ℕ) (test : ℕ → Bool) → UnderEvery tr i t test → Always (rule_in tr i) (shown tr) (suc t) test
  always i t test all f fills = all f (filling_fills f fills)

  pub some : (i t : ℕ) (test : ℕ → Bool) → Sometimes (rule_in tr i) (shown tr) (suc t) test → UnderSome tr i t test
  some i t test (f, fills, h) = (f, filling_fills f fills, h)

  pub sometimes : (i t : ℕ) (test : ℕ → Bool) → t < tr.ticks → UnderSome tr i t test → Sometimes (rule_in tr i) (shown tr) (suc t) test
  sometimes i t test l (f, fills, h) =
      (within tr f, within_fills tr f fills, subst (λ s. T (test s)) (after_within (rule_in tr i) f (suc t) l) h)

  pub sure_at : (i t : ℕ) → t < tr.ticks → Sure (rule_in tr i) (shown tr) (suc t) → SureAt tr i t
  sure_at i t l sure f g hf hg =
      after_within (rule_in tr i) f (suc t) l
      ∙ sure (within tr f) (within tr g) (within_fills tr f hf) (within_fills tr g hg)
      ∙ sym (after_within (rule_in tr i) g (suc t) l)

  pub sure : (i t : ℕ) → SureAt tr i t → Sure (rule_in tr i) (shown tr) (suc t)
  sure i t same f g hf hg = same f g (filling_fills f hf) (filling_fills g hg)
