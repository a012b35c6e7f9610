-- Each covered tick has one record, and the totals of the ticks are sums over the records.
use Prim.Native.Nat.{ℕ, zero, suc, ◌+◌, ◌-◌, ◌*◌, ◌≤◌, ◌<◌}
use mathlib.Core.Path.{◌≡◌, refl, sym, ◌∙◌, ap}
use mathlib.Core.Bool.{Bool, true, false, not, ◌||◌}
use mathlib.Core.List.{List, [], ◌∷◌}
use native.Mathlib.Omega.{arith}
use native.Mathlib.Nat.{zero-add}
use lib.IntN.{ℤ}
use lib.Dec.{T}
use lib.ListN.{length}
use borrow.Author.Tests.{le-leb, lt-leb, eq-eqb, ne_eqb}
use Rattle.lists.proofs.Bools.{by_order}
use Rattle.trace.specs.Records.{Hole, Stamped}
use Rattle.fillings.specs.Charge.{inward, outward, of_seen, of_unseen, total}
use Rattle.ticks.specs.Traces.{Trace, trace_of, shown_in, has_sample, in_hole, Accepted}
use Rattle.ticks.specs.promises.Promises.{over_samples, over_holes, CoveredOnce, MissingSecond}
use Rattle.ticks.proofs.AscendingHoles.{Ascending, ascending, none_in_holes}
use Rattle.ticks.specs.inner.Places.{Place, done, hole, sample}
use Rattle.ticks.proofs.Places.{place_start, place_low, none_before, no_sample_before, ascends_later, shown_first, shown_later}
use Rattle.ticks.proofs.AcceptedBytes.{accepted}

-- A tick in the next hole, and one after it.
within : (h : Hole) (hs : List Hole) (t : ℕ) → h.first ≤ t → t ≤ h.last → in_hole (h ∷ hs) t ≡ true
within h hs t a b = rw (le-leb h.first t a, le-leb t h.last b)

past : (h : Hole) (hs : List Hole) (t : ℕ) → h.first ≤ t → h.last < t → in_hole (h ∷ hs) t ≡ in_hole hs t
past h hs t a b = rw (le-leb h.first t a, lt-leb t h.last b)

-- A tick from the place on has a sample or is in a hole.
once : {m : ℕ} (hs : List Hole) (xs : List Stamped) (e : ℕ) → Place m hs xs e → Ascending e hs → (t : ℕ) → e ≤ t → t < m → has_sample xs t ≡ not (in_hole hs t)
once [] [] e done s t i l = absurd (omega arith)
once (h ∷ hs) xs e (hole a b c p) s t i l =
    by_order h.last t
    (λ n. rw (past h hs t (omega arith) n) (once hs xs (suc h.last) p s.3 t n l))
    (λ n. rw (within h hs t (omega arith) n) (no_sample_before hs xs (suc h.last) p t (omega arith)))
once hs (x ∷ xs) e (sample a b c p) s t i l =
    let after = ascends_later hs e s c in
    by_order e t
    (λ n. rw (ne_eqb x.tick t (λ z. omega arith)) (once hs xs (suc e) p after t n l))
    (λ n. rw (eq-eqb x.tick t (omega arith), none_in_holes hs (suc e) t after (omega arith)))

-- No record left has a tick after the last.
none : {m : ℕ} (hs : List Hole) (xs : List Stamped) (e : ℕ) → Place m hs xs e → (t : ℕ) → m ≤ t → (has_sample xs t ≡ false) × (in_hole hs t ≡ false)
none [] [] e done t l = (refl, refl)
none (h ∷ hs) xs e (hole a b c p) t l =
    let n = place_low hs xs (suc h.last) p in
    let (f, g) = none hs xs (suc h.last) p t l in
    (f, past h hs t (omega arith) (omega arith) ∙ g)
none hs (x ∷ xs) e (sample a b c p) t l =
    let n = place_low hs xs (suc e) p in
    let (f, g) = none hs xs (suc e) p t l in
    (rw (ne_eqb x.tick t (λ z. omega arith)) f, g)

-- A total over ticks that all count the same.
pub total_run : (g : ℕ → ℕ) (c a b : ℕ) → a ≤ b → ((t : ℕ) → a ≤ t → t < b → g t ≡ c) → total g b ≡ total g a + (b - a) * c
unfolding total
total_run g c a zero h f = let z : a ≡ 0 = omega arith in rw z (omega arith)
total_run g c a (suc b) h f =
    by_order b a
    (λ n. let z : a ≡ suc b = omega arith in let d : suc b - suc b ≡ 0 = omega arith in rw (z, d) (omega arith))
    (λ n.
    let e = f b n (omega arith) in
    let r = total_run g c a b n (λ t i l. f t i (omega arith)) in
    let d : suc b - a ≡ suc (b - a) = omega arith in
    rw (d, e, r) (omega arith))

module _ (all : List Stamped) where
  -- From a tick on only the samples left show.
  abbrev pub Same : List Stamped → ℕ → Type 0
  Same xs e = (t : ℕ) → e ≤ t → shown_in all t ≡ shown_in xs t

  pub same_later : (x : Stamped) (xs : List Stamped) (e : ℕ) → x.tick ≡ e → Same (x ∷ xs) e → Same xs (suc e)
  same_later x xs e a s t l = s t (omega arith) ∙ shown_later x xs t (λ z. omega arith)

  abbrev charge_at : (ℤ → ℕ) → ℕ → ℕ
  charge_at f t = of_seen (λ x. f x.current) (shown_in all t)

  -- The samples left give what the ticks left charge.
  charge_left : {m : ℕ} (f : ℤ → ℕ) (hs : List Hole) (xs : List Stamped) (e : ℕ) → Place m hs xs e → Same xs e → total (charge_at f) m ≡ total (charge_at f) e + over_samples f xs
  unfolding over_samples total
  charge_left f [] [] e done s = omega arith
  charge_left f (h ∷ hs) xs e (hole a b c p) s =
      let r = total_run (charge_at f) 0 e (suc h.last) (omega arith) (λ t i l. ap (of_seen (λ x. f x.current)) (s t i ∙ none_before hs xs (suc h.last) p t l)) in
      let k = charge_left f hs xs (suc h.last) p (λ t l. s t (omega arith)) in
      omega arith
  charge_left f hs (x ∷ xs) e (sample a b c p) s =
      let r : charge_at f e ≡ f x.sample.current = ap (of_seen (λ y. f y.current)) (s e (omega arith) ∙ shown_first x xs e a) in
      let k = charge_left f hs xs (suc e) p (same_later x xs e a s) in
      omega arith

  abbrev unseen_at : ℕ → ℕ
  unseen_at t = of_unseen (shown_in all t)

  -- The holes left give the unseen ticks left.
  unseen_left : {m : ℕ} (hs : List Hole) (xs : List Stamped) (e : ℕ) → Place m hs xs e → Ascending e hs → Same xs e → total unseen_at m ≡ total unseen_at e + over_holes hs
  unfolding over_holes total
  unseen_left [] [] e done o s = omega arith
  unseen_left (h ∷ hs) xs e (hole a b c p) o s =
      let r = total_run unseen_at 1 e (suc h.last) (omega arith) (λ t i l. ap of_unseen (s t i ∙ none_before hs xs (suc h.last) p t l)) in
      let k = unseen_left hs xs (suc h.last) p o.3 (λ t l. s t (omega arith)) in
      let z : e ≡ h.first = omega (arith, o.0) in
      omega arith
  unseen_left hs (x ∷ xs) e (sample a b c p) o s =
      let r : unseen_at e ≡ 0 = ap of_unseen (s e (omega arith) ∙ shown_first x xs e a) in
      let k = unseen_left hs xs (suc e) p (ascends_later hs e o c) (same_later x xs e a s) in
      omega arith

-- The samples left and the ticks of the holes left are the ticks left.
count_left : {m : ℕ} (hs : List Hole) (xs : List Stamped) (e : ℕ) → Place m hs xs e → Ascending e hs → m ≡ e + (length xs + over_holes hs)
unfolding over_holes
count_left [] [] e done o = omega arith
count_left (h ∷ hs) xs e (hole a b c p) o =
    let k = count_left hs xs (suc h.last) p o.3 in
    let z : e ≡ h.first = omega (arith, o.0) in
    omega arith
count_left hs (x ∷ xs) e (sample a b c p) o =
    let k = count_left hs xs (suc e) p (ascends_later hs e o c) in
    omega arith

pub ticks_counted : (tr : Trace) → Accepted tr → tr.ticks ≡ length tr.samples + over_holes tr.holes
ticks_counted tr ok = count_left tr.holes tr.samples 0 (place_start tr ok) (ascending tr.holes 0 0 ok.holes) ∙ zero-add _

pub covered_once : (tr : Trace) → Accepted tr → CoveredOnce tr
unfolding total
covered_once tr ok =
    let p = place_start tr ok in
    let o = ascending tr.holes 0 0 ok.holes in
    record {
      once = λ t l. once tr.holes tr.samples 0 p o t (omega arith) l;
      none = none tr.holes tr.samples 0 p;
      charged_in = charge_left tr.samples inward tr.holes tr.samples 0 p (λ t l. refl) ∙ zero-add _;
      charged_out = charge_left tr.samples outward tr.holes tr.samples 0 p (λ t l. refl) ∙ zero-add _;
      unseen = unseen_left tr.samples tr.holes tr.samples 0 p o (λ t l. refl) ∙ zero-add _;
    }

some_record : (a b : Bool) → a ≡ false → b ≡ false → T (a || b) → ⊥
some_record a b e f t = let r : T false = rw (e, f) at t in r

pub missing_second : MissingSecond
missing_second s w t u l r a b h =
    let c = covered_once (trace_of s w) (accepted s w h) in
    by_order u w.ticks
    (λ n. let q : false ≡ true = sym a ∙ c.once t (omega arith) ∙ ap not b in let z : ◌≡◌ {A = ℕ} 0 1 = cc in omega arith)
    (λ n. let (x, y) = c.none u n in some_record _ _ x y r)
