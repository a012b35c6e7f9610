-- In the parts of an accepted trace the walk goes on over unseen ticks and over samples up to its last tick.
use Prim.Native.Nat.{ℕ, zero, suc, ◌+◌, ◌-◌, ◌≤◌, ◌<◌}
use mathlib.Core.Path.{◌≡◌, refl, sym, ap, ◌∙◌, subst}
use mathlib.Core.Bool.{Bool, true, false, cond}
use mathlib.Core.List.{List, ◌∷◌}
use native.Mathlib.Omega.{arith}
use native.Mathlib.Numerals.{add-one}
use lib.Dec.{leb}
use lib.ListN.{length}
use borrow.Author.Tests.{leb-true, leb-false, le-leb, eq-eqb, ne_eqb}
use Rattle.bytes_le.specs.Numbers.{u32_at, spaced}
use Rattle.trace.specs.Records.{Hole, Stamped, hole_at, holes_from, samples_from, sample_width, stamped_at}
use Rattle.bytes_le.proofs.Spaced.{spaced_next}
use Rattle.trace.proofs.CoverTurns.{peel}
use Rattle.fillings.specs.Fillings.{seen, unseen}
use Rattle.ticks.specs.Traces.{shown_in}
use Rattle.ticks.specs.inner.Places.{Place, NotYet}
use Rattle.ticks.proofs.Places.{in_hole_lem, hole_stays, no_sample, at_sample}
use Rattle.walk.specs.declared.Cursor.{Cursor}
use Rattle.walk.specs.declared.Ahead.{Ahead}
use Rattle.std.specs.Prelude.{Option, Some, None}
use Rattle.walk.specs.declared.Ahead.TheVariants.{Unseen, Sample}
use Rattle.walk.specs.Walk.{hole_here, past_run, past_sample, ahead}
use Rattle.walk.specs.inner.Places.{shows, Stands, Missed, Passed}
use Rattle.walk.proofs.Looking.{hole_holds, at_the_end, unseen_ahead, sample_ahead, none_ahead}

-- The three things that can come next, each with its tests.
data Found (holes samples : List ℕ) (width : ℕ) (c : Cursor) (to : ℕ) : Option Ahead → Type 0 where
  arrived : to ≤ c.tick → Found holes samples width c to None
  run : c.tick < to → hole_here holes c ≡ true → Found holes samples width c to (Some (Unseen (past_run holes c to)))
  taken : c.tick < to → hole_here holes c ≡ false → c.sample + width ≤ length samples → Found holes samples width c to (Some (Sample (past_sample width c)))
  none : c.tick < to → hole_here holes c ≡ false → length samples < c.sample + width → Found holes samples width c to None

found : (holes samples : List ℕ) (width : ℕ) (c : Cursor) (to : ℕ) → Found holes samples width c to (ahead holes samples width c to)
found holes samples width c to = end (leb to c.tick) refl
  where
    sampled : c.tick < to → hole_here holes c ≡ false → (b : Bool) → leb (c.sample + width) (length samples) ≡ b → Found holes samples width c to (ahead holes samples width c to)
    sampled l h true e = subst (Found holes samples width c to) (sample_ahead holes samples width c to l h e) (taken l h (leb-true _ _ e))
    sampled l h false e = subst (Found holes samples width c to) (none_ahead holes samples width c to l h e) (none l h (leb-false _ _ e))

    held : c.tick < to → (b : Bool) → hole_here holes c ≡ b → Found holes samples width c to (ahead holes samples width c to)
    held l true e = subst (Found holes samples width c to) (unseen_ahead holes samples width c to l e) (run l e)
    held l false e = sampled l e (leb (c.sample + width) (length samples)) refl

    end : (b : Bool) → leb to c.tick ≡ b → Found holes samples width c to (ahead holes samples width c to)
    end true e = subst (Found holes samples width c to) (at_the_end holes samples width c to (leb-true _ _ e)) (arrived (leb-true _ _ e))
    end false e = held (leb-false _ _ e) (hole_here holes c) refl

abbrev NotBoth : Type 0
NotBoth = ◌≡◌ {A = ℕ} 0 1

module _ {holes samples : List ℕ} {width : ℕ} {c : Cursor} {to : ℕ} where
  is_run : {a : Option Ahead} → Found holes samples width c to a → (d : Cursor) → a ≡ Some (Unseen d) → (c.tick < to) × (hole_here holes c ≡ true) × (past_run holes c to ≡ d)
  is_run (arrived l) d e = let z : NotBoth = cc in absurd (omega arith)
  is_run (run l h) d e = (l, h, cc)
  is_run (taken l h f) d e = let z : NotBoth = cc in absurd (omega arith)
  is_run (none l h f) d e = let z : NotBoth = cc in absurd (omega arith)

  is_taken : {a : Option Ahead} → Found holes samples width c to a → (d : Cursor) → a ≡ Some (Sample d)
      → (c.tick < to) × (hole_here holes c ≡ false) × (c.sample + width ≤ length samples) × (past_sample width c ≡ d)
  is_taken (arrived l) d e = let z : NotBoth = cc in absurd (omega arith)
  is_taken (run l h) d e = let z : NotBoth = cc in absurd (omega arith)
  is_taken (taken l h f) d e = (l, h, f, cc)
  is_taken (none l h f) d e = let z : NotBoth = cc in absurd (omega arith)

-- The walk goes on wherever it stands, and not past the tick `to`.
run_goes_on : (holes : List ℕ) (c : Cursor) (to : ℕ) → c.tick < to → hole_here holes c ≡ true → (c.tick < (past_run holes c to).tick) × ((past_run holes c to).tick ≤ to)
run_goes_on holes c to l h = go (leb to (u32_at holes (c.hole + 4))) refl
  where
    go : (b : Bool) → leb to (u32_at holes (c.hole + 4)) ≡ b → (c.tick < (past_run holes c to).tick) × ((past_run holes c to).tick ≤ to)
    go true e = rw e (l, omega arith)
    go false e =
        let (lies, begun, lasts) = hole_holds holes c h in
        let i = leb-false to (u32_at holes (c.hole + 4)) e in
        rw e (omega arith, omega arith)

module _ (holes samples : List ℕ) (width : ℕ) (c : Cursor) (to : ℕ) {d : Cursor} where
  pub unseen_goes_on : Some (Unseen d) ≡ ahead holes samples width c to → (c.tick < d.tick) × (d.tick ≤ to)
  unseen_goes_on e =
      let (l, h, p) = is_run (found holes samples width c to) d (sym e) in
      subst (λ (y : Cursor). (c.tick < y.tick) × (y.tick ≤ to)) p (run_goes_on holes c to l h)

  pub sample_goes_on : Some (Sample d) ≡ ahead holes samples width c to → (c.tick < d.tick) × (d.tick ≤ to) × (c.sample + width ≤ length samples)
  sample_goes_on e =
      let (l, h, f, p) = is_taken (found holes samples width c to) d (sym e) in
      subst (λ (y : Cursor). (c.tick < y.tick) × (y.tick ≤ to) × (c.sample + width ≤ length samples)) p (omega arith, omega arith, f)

module _ {n : ℕ} {holes samples : List ℕ} {m : ℕ} {c : Cursor} (g : Stands n holes samples m c) where
  abbrev hs : List Hole
  hs = holes_from holes g.holes_left c.hole

  abbrev xs : List Stamped
  xs = samples_from n samples g.samples_left c.sample

  abbrev last : ℕ
  last = u32_at holes (c.hole + 4)

  -- the next hole, and the holes after it
  abbrev h : Hole
  h = record { first = u32_at holes c.hole; last = u32_at holes (c.hole + 4) }

  abbrev rest : List Hole
  rest = holes_from holes (g.holes_left - 1) (c.hole + 8)

  in_next : 0 < g.holes_left → u32_at holes c.hole ≤ c.tick → Place m (h ∷ rest) xs c.tick
      × (c.tick ≤ last) × (last < 0xFFFFFFFF) × Place m rest xs (suc last) × ((t : ℕ) → t ≤ last → shown_in xs t ≡ unseen)
  in_next some f =
      let place : Place m (h ∷ rest) xs c.tick = subst (λ (x : List Hole). Place m x xs c.tick) (spaced_next (hole_at holes) 8 g.holes_left c.hole some) g.place in
      let (a, b, r, u) = in_hole_lem h rest xs c.tick place f in
      (place, a, b, r, u)

  -- outside the holes
  not_yet : hole_here holes c ≡ false → NotYet hs c.tick
  unfolding spaced
  not_yet e = by_left g.holes_left refl
    where
      here : 0 < g.holes_left → (b : Bool) → leb (u32_at holes c.hole) c.tick ≡ b → c.tick < u32_at holes c.hole
      here some false q = leb-false _ _ q
      here some true q =
          let (p, a, b, r, u) = in_next some (leb-true _ _ q) in
          let z : ◌≡◌ {A = Bool} true false = sym (rw (le-leb (c.hole + 8) (length holes) (omega (arith, g.in_holes)), q, le-leb c.tick last a)) ∙ e in
          let y : NotBoth = cc in
          absurd (omega arith)

      by_left : (k : ℕ) → g.holes_left ≡ k → NotYet hs c.tick
      by_left zero z = rw z tt
      by_left (suc k) z = let l = here (omega arith) (leb (u32_at holes c.hole) c.tick) refl in rw z l

  -- a run that ends inside the hole, and one that ends with it
  run_past : (to : ℕ) → c.tick < to → to ≤ m → 0 < g.holes_left → u32_at holes c.hole ≤ c.tick → (b : Bool) → leb to last ≡ b
      → Missed n holes samples m c (past_run holes c to) to
  run_past to l k some f true q =
      let (place, a, b, r, u) = in_next some f in
      let i = leb-true to last q in
      let hid : (t : ℕ) → c.tick ≤ t → t < to → shows n samples t ≡ unseen = λ t j o. g.later t j ∙ u t (omega arith) in
      let whole : holes_from holes g.holes_left c.hole ≡ h ∷ rest = spaced_next (hole_at holes) 8 g.holes_left c.hole some in
      rw q
      (record {
        stands = record {
          holes_left = g.holes_left;
          samples_left = g.samples_left;
          in_holes = g.in_holes;
          in_samples = g.in_samples;
          small = g.small;
          place = subst (λ (x : List Hole). Place m x xs to) (sym whole) (hole_stays h rest xs c.tick to place f (omega arith) (omega arith));
          later = λ t j. g.later t (omega arith);
        };
        on = l;
        low = omega arith;
        hidden = hid;
      })
  run_past to l k some f false q =
      let (place, a, b, r, u) = in_next some f in
      let i = leb-false to last q in
      let hid : (t : ℕ) → c.tick ≤ t → t < last + 1 → shows n samples t ≡ unseen = λ t j o. g.later t j ∙ u t (omega arith) in
      rw q
      (record {
        stands = record {
          holes_left = g.holes_left - 1;
          samples_left = g.samples_left;
          in_holes = omega (arith, g.in_holes);
          in_samples = g.in_samples;
          small = g.small;
          place = subst (Place m rest xs) (sym (add-one last)) r;
          later = λ t j. g.later t (omega arith);
        };
        on = omega arith;
        low = omega arith;
        hidden = hid;
      })

  pub missed : (to : ℕ) → to ≤ m → {d : Cursor} → ahead holes samples (sample_width n) c to ≡ Some (Unseen d) → Missed n holes samples m c d to
  missed to k {d} e =
      let (l, f, p) = is_run (found holes samples (sample_width n) c to) d e in
      let (lies, begun, lasts) = hole_holds holes c f in
      let some : 0 < g.holes_left = omega (arith, g.in_holes) in
      subst (λ (y : Cursor). Missed n holes samples m c y to) p (run_past to l k some begun (leb to last) refl)

  abbrev x : Stamped
  x = stamped_at n samples c.sample

  abbrev ys : List Stamped
  ys = samples_from n samples (g.samples_left - 1) (c.sample + sample_width n)

  some_left : NotYet hs c.tick → c.tick < m → (k : ℕ) → g.samples_left ≡ k → 0 < k
  unfolding spaced
  some_left i l zero e = absurd (no_sample hs c.tick (subst (λ (k : ℕ). Place m hs (samples_from n samples k c.sample) c.tick) e g.place) i l)
  some_left i l (suc k) e = omega arith

  sample_past : (to : ℕ) → c.tick < to → to ≤ m → hole_here holes c ≡ false → Passed n holes samples m c (past_sample (sample_width n) c) to
  unfolding shown_in
  sample_past to l k q =
      let i = not_yet q in
      let some = some_left i (omega arith) g.samples_left refl in
      let e : xs ≡ x ∷ ys = spaced_next (stamped_at n samples) (sample_width n) g.samples_left c.sample some in
      let (a, b, rest) = at_sample hs x ys c.tick (subst (λ (zs : List Stamped). Place m hs zs c.tick) e g.place) i in
      let w = peel g.samples_left (sample_width n) some in
      let here : (t : ℕ) → c.tick ≤ t → shows n samples t ≡ shown_in (x ∷ ys) t = λ t j. g.later t j ∙ ap (λ (zs : List Stamped). shown_in zs t) e in
      record {
        stands = record {
          holes_left = g.holes_left;
          samples_left = g.samples_left - 1;
          in_holes = g.in_holes;
          in_samples = omega (arith, g.in_samples);
          small = g.small;
          place = subst (Place m hs ys) (sym (add-one c.tick)) rest;
          later = λ t j. here t (omega arith) ∙ ap (λ (y : Bool). cond y (seen x.sample) (shown_in ys t)) (ne_eqb x.tick t (λ z. omega arith));
        };
        on = add-one c.tick;
        low = omega arith;
        there = omega (arith, g.in_samples);
        shown = here c.tick (omega arith) ∙ ap (λ (y : Bool). cond y (seen x.sample) (shown_in ys c.tick)) (eq-eqb x.tick c.tick a);
      }

  pub passed : (to : ℕ) → to ≤ m → {d : Cursor} → ahead holes samples (sample_width n) c to ≡ Some (Sample d) → Passed n holes samples m c d to
  passed to k {d} e =
      let (l, f, i, p) = is_taken (found holes samples (sample_width n) c to) d e in
      subst (λ (y : Cursor). Passed n holes samples m c y to) p (sample_past to l k f)

  is_end : (to : ℕ) → to ≤ m → {a : Option Ahead} → Found holes samples (sample_width n) c to a → a ≡ None → to ≤ c.tick
  is_end to k (arrived l) e = l
  is_end to k (run l f) e = let z : NotBoth = cc in absurd (omega arith)
  is_end to k (taken l f i) e = let z : NotBoth = cc in absurd (omega arith)
  is_end to k (none l f i) e = let p = (sample_past to l k f).there in absurd (omega arith)

  pub ended : (to : ℕ) → to ≤ m → ahead holes samples (sample_width n) c to ≡ None → to ≤ c.tick
  ended to k e = is_end to k (found holes samples (sample_width n) c to) e
