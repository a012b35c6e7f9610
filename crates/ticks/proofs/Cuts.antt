-- The trace cut at a covered tick is accepted and shows the same up to that tick.
use Prim.Native.Nat.{ℕ, zero, suc, ◌+◌, ◌≤◌, ◌<◌, min}
use mathlib.Core.Path.{◌≡◌, refl}
use mathlib.Core.Bool.{false, ◌||◌}
use mathlib.Core.List.{List, [], ◌∷◌}
use native.Mathlib.Omega.{arith}
use native.Mathlib.Numerals.{add-one}
use lib.ListN.{length}
use lib.Dec.{ltb, leb, eqb}
use borrow.Author.Tests.{ltb-false, leb-false, le-ltb, le-leb, lt-leb, eq-eqb, ne_eqb}
use Rattle.lists.proofs.Bools.{both_false, by_order}
use Rattle.refusals.specs.Refusals.{answer}
use Rattle.trace.specs.Records.{Hole, Reply, Stamped}
use Rattle.trace.specs.Coverage.{hole_next, sample_next, cover_answer, replies_answer}
use Rattle.refusals.proofs.Answers.{unless}
use Rattle.ticks.specs.Traces.{Trace, shown_in, has_sample, Accepted}
use Rattle.ticks.specs.Cut.{cut_holes, cut_replies, cut_samples, cut_at}
use Rattle.ticks.specs.promises.Promises.{CutHolds}
use Rattle.ticks.proofs.AscendingHoles.{Ascending, ascending, in_order, lower}
use Rattle.ticks.specs.inner.Places.{NotYet, Place, done, hole, sample}
use Rattle.ticks.proofs.Places.{place_low, place_start, no_sample_before, not_yet, ascends_later}

cut_ascends : (t : ℕ) (hs : List Hole) (low : ℕ) → Ascending low hs → Ascending low (cut_holes t hs)
unfolding cut_holes
cut_ascends t [] low o = tt
cut_ascends t (h ∷ hs) low (a, b, c, d) =
    let after = cut_ascends t hs (suc h.last) d in
    by_order t h.first
    (λ l. rw (lt-leb h.first t l) (lower (cut_holes t hs) low (suc h.last) (omega arith) after))
    (λ l. rw (le-leb h.first t l) (a, omega arith, omega arith, lower (cut_holes t hs) (suc (min h.last t)) (suc h.last) (omega arith) after))

-- Records that lie after the cut.
no_holes : (t : ℕ) (hs : List Hole) (low : ℕ) → Ascending low hs → t < low → cut_holes t hs ≡ []
unfolding cut_holes
no_holes t [] low o l = refl
no_holes t (h ∷ hs) low (a, b, c, d) l = rw (lt-leb h.first t (omega arith)) (no_holes t hs (suc h.last) d (omega arith))

pub no_samples : {m : ℕ} (t : ℕ) (hs : List Hole) (xs : List Stamped) (e : ℕ) → Place m hs xs e → t < e → cut_samples t xs ≡ []
unfolding cut_samples
no_samples t [] [] e done l = refl
no_samples t (h ∷ hs) xs e (hole a b c p) l = no_samples t hs xs (suc h.last) p (omega arith)
no_samples t hs (x ∷ xs) e (sample a b c p) l = rw (lt-leb x.tick t (omega arith)) (no_samples t hs xs (suc e) p (omega arith))

none_left : {m : ℕ} (t : ℕ) (hs : List Hole) (xs : List Stamped) (e : ℕ) → Place m hs xs e → Ascending e hs → t < e → Place (suc t) (cut_holes t hs) (cut_samples t xs) (suc t)
none_left t hs xs e p o l = rw (no_holes t hs e o l, no_samples t hs xs e p l) done

-- After a hole that the cut may have ended.
after_hole_lem : {m : ℕ} (t : ℕ) (h : Hole) (hs : List Hole) (xs : List Stamped) → Place m hs xs (suc h.last) → Ascending (suc h.last) hs
    → (h.last ≤ t → Place (suc t) (cut_holes t hs) (cut_samples t xs) (suc h.last)) → Place (suc t) (cut_holes t hs) (cut_samples t xs) (suc (min h.last t))
after_hole_lem t h hs xs p o whole =
    by_order t h.last
    (λ l. let z : min h.last t ≡ t = omega arith in rw z (none_left t hs xs (suc h.last) p o (omega arith)))
    (λ l. let z : min h.last t ≡ h.last = omega arith in rw z (whole l))

-- The walk over the records of the cut trace stands where that of the trace does.
cut_place : {m : ℕ} (t : ℕ) → t < m → (hs : List Hole) (xs : List Stamped) (e : ℕ) → Place m hs xs e → Ascending e hs → e ≤ suc t → Place (suc t) (cut_holes t hs) (cut_samples t xs) e
unfolding cut_holes cut_samples
cut_place t n [] [] e done o l = let z : e ≡ suc t = omega arith in rw z done
cut_place t n (h ∷ hs) xs e (hole a b c p) o l =
    by_order t e
    (λ i. let z : e ≡ suc t = omega arith in rw z (none_left t (h ∷ hs) xs e (hole a b c p) o i))
    (λ i.
    let k : e ≤ min h.last t = omega arith in
    let j : min h.last t < 0xFFFFFFFF = omega arith in
    let q = after_hole_lem t h hs xs p o.3 (λ f. cut_place t n hs xs (suc h.last) p o.3 (omega arith)) in
    rw (le-leb h.first t (omega arith)) (hole a k j q))
cut_place t n hs (x ∷ xs) e (sample a b c p) o l =
    let after = ascends_later hs e o c in
    by_order t e
    (λ i. let z : e ≡ suc t = omega arith in rw z (none_left t hs (x ∷ xs) e (sample a b c p) o i))
    (λ i. rw (le-leb x.tick t (omega arith)) (sample a b (not_yet (cut_holes t hs) e (cut_ascends t hs (suc e) after)) (cut_place t n hs xs (suc e) p after (omega arith))))

-- Where no sample left bears a tick, the next one does not.
not_next : (xs : List Stamped) (t : ℕ) → has_sample xs t ≡ false → sample_next xs t ≡ false
not_next [] t e = refl
not_next (x ∷ xs) t e = (both_false (eqb x.tick t) (has_sample xs t) e).0

no_hole_next : (hs : List Hole) (e : ℕ) → NotYet hs e → hole_next hs e ≡ false
no_hole_next [] e n = refl
no_hole_next (h ∷ hs) e n = ne_eqb h.first e (λ z. omega arith)

-- From a place where no hole has begun, the records left cover the ticks up to m.
pub covers : {m : ℕ} (k : ℕ) (hs : List Hole) (xs : List Stamped) (e : ℕ) → Place m hs xs e → Ascending e hs → k ≡ length hs + length xs → cover_answer k hs xs e ≡ answer m
unfolding cover_answer
covers zero [] [] e done o q = refl
covers (suc k) [] [] e done o q = absurd (omega arith)
covers zero (h ∷ hs) xs e (hole a b c p) o q = absurd (omega arith)
covers (suc k) (h ∷ hs) xs e (hole a b c p) o q =
    let z : h.first ≡ e = omega (arith, o.0) in
    let n = not_next xs e (no_sample_before hs xs (suc h.last) p e (omega arith)) in
    rw (lt-leb 0xFFFFFFFF e (omega arith), eq-eqb h.first e z, n, add-one) (covers k hs xs (suc h.last) p o.3 (omega arith))
covers zero hs (x ∷ xs) e (sample a b c p) o q = absurd (omega arith)
covers (suc k) hs (x ∷ xs) e (sample a b c p) o q =
    rw (lt-leb 0xFFFFFFFF e b, no_hole_next hs e c, eq-eqb x.tick e a, add-one) (covers k hs xs (suc e) p (ascends_later hs e o c) (omega arith))

cut_replies_lem : (t m : ℕ) (rs : List Reply) (i j low low' : ℕ) → low' ≤ low → replies_answer m rs i low ≡ answer tt → replies_answer (suc t) (cut_replies t rs) j low' ≡ answer tt
unfolding replies_answer cut_replies
cut_replies_lem t m [] i j low low' l e = refl
cut_replies_lem t m (r ∷ rs) i j low low' l e =
    let p = unless (ltb r.tick low || leb m r.tick) 10 i _ e in
    let a = ltb-false r.tick low (both_false (ltb r.tick low) _ p.0).0 in
    by_order t r.tick
    (λ n. rw (lt-leb r.tick t n) (cut_replies_lem t m rs (suc i) j r.tick low' (omega arith) p.1))
    (λ n.
    rw (le-leb r.tick t n, le-ltb r.tick low' (omega arith), lt-leb (suc t) r.tick (omega arith))
    (cut_replies_lem t m rs (suc i) (suc j) r.tick r.tick (omega arith) p.1))

cut_shows : (t : ℕ) (xs : List Stamped) (u : ℕ) → u ≤ t → shown_in (cut_samples t xs) u ≡ shown_in xs u
unfolding shown_in cut_samples
cut_shows t [] u l = refl
cut_shows t (x ∷ xs) u l =
    by_order t x.tick
    (λ n. rw (lt-leb x.tick t n, ne_eqb x.tick u (λ z. omega arith)) (cut_shows t xs u l))
    (λ n. rw (le-leb x.tick t n, cut_shows t xs u l))

-- Cut at its last tick a trace keeps every record.
kept_holes : {m : ℕ} (t : ℕ) → suc t ≡ m → (hs : List Hole) (xs : List Stamped) (e : ℕ) → Place m hs xs e → cut_holes t hs ≡ hs
unfolding cut_holes
kept_holes t n [] [] e done = refl
kept_holes t n (h ∷ hs) xs e (hole a b c p) =
    let l = place_low hs xs (suc h.last) p in
    let z : min h.last t ≡ h.last = omega arith in
    rw (le-leb h.first t (omega arith), z, kept_holes t n hs xs (suc h.last) p)
kept_holes t n hs (x ∷ xs) e (sample a b c p) = kept_holes t n hs xs (suc e) p

kept_samples : {m : ℕ} (t : ℕ) → suc t ≡ m → (hs : List Hole) (xs : List Stamped) (e : ℕ) → Place m hs xs e → cut_samples t xs ≡ xs
unfolding cut_samples
kept_samples t n [] [] e done = refl
kept_samples t n (h ∷ hs) xs e (hole a b c p) = kept_samples t n hs xs (suc h.last) p
kept_samples t n hs (x ∷ xs) e (sample a b c p) =
    let l = place_low hs xs (suc e) p in
    rw (le-leb x.tick t (omega arith), kept_samples t n hs xs (suc e) p)

kept_replies : (t m : ℕ) → suc t ≡ m → (rs : List Reply) (i low : ℕ) → replies_answer m rs i low ≡ answer tt → cut_replies t rs ≡ rs
unfolding replies_answer cut_replies
kept_replies t m n [] i low e = refl
kept_replies t m n (r ∷ rs) i low e =
    let p = unless (ltb r.tick low || leb m r.tick) 10 i _ e in
    let l = leb-false m r.tick (both_false (ltb r.tick low) _ p.0).1 in
    rw (le-leb r.tick t (omega arith), kept_replies t m n rs (suc i) r.tick p.1)

kept_whole : (tr : Trace) → Accepted tr → (t : ℕ) → suc t ≡ tr.ticks → cut_at tr t ≡ tr
kept_whole tr ok t n =
    let p = place_start tr ok in
    rw (n, kept_holes t n tr.holes tr.samples 0 p, kept_samples t n tr.holes tr.samples 0 p, kept_replies t tr.ticks n tr.replies 0 0 ok.replies)

pub cut_holds : (tr : Trace) → Accepted tr → CutHolds tr
cut_holds tr ok =
    let o = ascending tr.holes 0 0 ok.holes in
    record {
      accepted = λ t l.
          let q = cut_ascends t tr.holes 0 o in
          record {
            rules = ok.rules;
            holes = in_order (cut_holes t tr.holes) 0 0 q;
            covered = covers _ (cut_holes t tr.holes) (cut_samples t tr.samples) 0 (cut_place t l tr.holes tr.samples 0 (place_start tr ok) o (omega arith)) q refl;
            replies = cut_replies_lem t tr.ticks tr.replies 0 0 0 0 (omega arith) ok.replies;
          };
      same = λ t u l. cut_shows t tr.samples u l;
      whole = kept_whole tr ok;
    }
