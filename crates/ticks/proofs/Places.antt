-- Where a walk over the records of an accepted trace stands.
use Prim.Native.Nat.{ℕ, zero, suc, ◌+◌, ◌≤◌, ◌<◌}
use mathlib.Core.Path.{◌≡◌, refl}
use mathlib.Core.Bool.{Bool, true, false}
use mathlib.Core.List.{List, [], ◌∷◌}
use native.Mathlib.Omega.{arith}
use native.Mathlib.Numerals.{add-one}
use lib.ListN.{length}
use lib.Dec.{leb}
use borrow.Author.Tests.{leb-false, eqb-true, eq-eqb, ne_eqb}
use Rattle.refusals.specs.Refusals.{answer, refused}
use Rattle.trace.specs.Records.{Hole, Stamped}
use Rattle.trace.specs.Coverage.{hole_next, after_hole, sample_next, rest, taking, cover_answer}
use Rattle.refusals.proofs.Answers.{clash, unless}
use Rattle.fillings.specs.Fillings.{seen, unseen}
use Rattle.ticks.specs.Traces.{Trace, shown_in, has_sample, Accepted}
use Rattle.ticks.specs.inner.Places.{NotYet, Place, done, hole, sample}
use Rattle.ticks.proofs.AscendingHoles.{Ascending, ascending, lower}

pub place_low : {m : ℕ} (hs : List Hole) (xs : List Stamped) (e : ℕ) → Place m hs xs e → e ≤ m
place_low [] [] e done = omega arith
place_low (h ∷ hs) xs e (hole a b c p) = let l = place_low hs xs (suc h.last) p in omega arith
place_low hs (x ∷ xs) e (sample a b c p) = let l = place_low hs xs (suc e) p in omega arith

pub shown_first : (x : Stamped) (xs : List Stamped) (t : ℕ) → x.tick ≡ t → shown_in (x ∷ xs) t ≡ seen x.sample
unfolding shown_in
shown_first x xs t e = rw (eq-eqb x.tick t e)

pub shown_later : (x : Stamped) (xs : List Stamped) (t : ℕ) → (x.tick ≡ t → ⊥) → shown_in (x ∷ xs) t ≡ shown_in xs t
unfolding shown_in
shown_later x xs t n = rw (ne_eqb x.tick t n)

-- No sample record left bears a tick before the next one.
pub none_before : {m : ℕ} (hs : List Hole) (xs : List Stamped) (e : ℕ) → Place m hs xs e → (t : ℕ) → t < e → shown_in xs t ≡ unseen
unfolding shown_in
none_before [] [] e done t l = refl
none_before (h ∷ hs) xs e (hole a b c p) t l = none_before hs xs (suc h.last) p t (omega arith)
none_before hs (x ∷ xs) e (sample a b c p) t l = rw (ne_eqb x.tick t (λ z. omega arith)) (none_before hs xs (suc e) p t (omega arith))

pub no_sample_before : {m : ℕ} (hs : List Hole) (xs : List Stamped) (e : ℕ) → Place m hs xs e → (t : ℕ) → t < e → has_sample xs t ≡ false
no_sample_before [] [] e done t l = refl
no_sample_before (h ∷ hs) xs e (hole a b c p) t l = no_sample_before hs xs (suc h.last) p t (omega arith)
no_sample_before hs (x ∷ xs) e (sample a b c p) t l = rw (ne_eqb x.tick t (λ z. omega arith)) (no_sample_before hs xs (suc e) p t (omega arith))

-- Inside the next hole: it is left at its last tick, and until then no sample shows.
pub in_hole_lem : {m : ℕ} (h : Hole) (hs : List Hole) (xs : List Stamped) (e : ℕ) → Place m (h ∷ hs) xs e → h.first ≤ e
    → (e ≤ h.last) × (h.last < 0xFFFFFFFF) × Place m hs xs (suc h.last) × ((t : ℕ) → t ≤ h.last → shown_in xs t ≡ unseen)
in_hole_lem h hs xs e (hole a b c p) f = (b, c, p, λ t l. none_before hs xs (suc h.last) p t (omega arith))
in_hole_lem h hs (x ∷ xs) e (sample a b c p) f = absurd (omega arith)

pub hole_stays : {m : ℕ} (h : Hole) (hs : List Hole) (xs : List Stamped) (e t : ℕ) → Place m (h ∷ hs) xs e → h.first ≤ e → e ≤ t → t ≤ h.last → Place m (h ∷ hs) xs t
hole_stays h hs xs e t p f a b =
    let (i, j, q, n) = in_hole_lem h hs xs e p f in
    let k : h.first ≤ t = omega arith in
    hole k b j q

-- Outside the holes the next record is a sample.
pub no_sample : {m : ℕ} (hs : List Hole) (e : ℕ) → Place m hs [] e → NotYet hs e → e < m → ⊥
no_sample [] e done n l = omega arith
no_sample (h ∷ hs) e (hole a b c p) n l = omega arith

pub at_sample : {m : ℕ} (hs : List Hole) (x : Stamped) (xs : List Stamped) (e : ℕ) → Place m hs (x ∷ xs) e → NotYet hs e
    → (x.tick ≡ e) × (e < 0xFFFFFFFF) × Place m hs xs (suc e)
at_sample (h ∷ hs) x xs e (hole a b c p) n = absurd (omega arith)
at_sample hs x xs e (sample a b c p) n = (a, b, p)

-- The record that is taken at e, where k more cover the ticks up to m.
data Taken (k m : ℕ) : List Hole → List Stamped → ℕ → Type 0 where
  takes_hole : {h : Hole} {hs : List Hole} {xs : List Stamped} {e : ℕ} → h.first ≡ e → cover_answer k hs xs (h.last + 1) ≡ answer m → Taken k m (h ∷ hs) xs e
  takes_sample : {x : Stamped} {hs : List Hole} {xs : List Stamped} {e : ℕ} → x.tick ≡ e → e < 0xFFFFFFFF → cover_answer k hs xs (e + 1) ≡ answer m → Taken k m hs (x ∷ xs) e

hole_taken : (k m : ℕ) (hs : List Hole) (xs : List Stamped) (e : ℕ) → hole_next hs e ≡ true → cover_answer k (rest hs) xs (after_hole hs) ≡ answer m → Taken k m hs xs e
hole_taken k m [] xs e q c = let z : ◌≡◌ {A = ℕ} 0 1 = cc in absurd (omega arith)
hole_taken k m (h ∷ hs) xs e q c = takes_hole (eqb-true h.first e q) c

sample_taken : (k m : ℕ) (hs : List Hole) (xs : List Stamped) (e : ℕ) → e < 0xFFFFFFFF → sample_next xs e ≡ true → cover_answer k hs (rest xs) (e + 1) ≡ answer m → Taken k m hs xs e
sample_taken k m hs [] e l q c = let z : ◌≡◌ {A = ℕ} 0 1 = cc in absurd (omega arith)
sample_taken k m hs (x ∷ xs) e l q c = takes_sample (eqb-true x.tick e q) l c

one_taken : (k m : ℕ) (hs : List Hole) (xs : List Stamped) (e : ℕ) (a b : Bool) → e < 0xFFFFFFFF → hole_next hs e ≡ a → sample_next xs e ≡ b
    → taking a b (cover_answer k (rest hs) xs (after_hole hs)) (cover_answer k hs (rest xs) (e + 1)) (refused 9 e) ≡ answer m → Taken k m hs xs e
one_taken k m hs xs e true true l p q c = absurd (clash c)
one_taken k m hs xs e true false l p q c = hole_taken k m hs xs e p c
one_taken k m hs xs e false true l p q c = sample_taken k m hs xs e l q c
one_taken k m hs xs e false false l p q c = absurd (clash c)

taken : (k m : ℕ) (hs : List Hole) (xs : List Stamped) (e : ℕ) → cover_answer (suc k) hs xs e ≡ answer m → Taken k m hs xs e
unfolding cover_answer
taken k m hs xs e c =
    let p = unless (leb 0xFFFFFFFF e) 9 e _ c in
    one_taken k m hs xs e (hole_next hs e) (sample_next xs e) (leb-false _ _ p.0) refl refl p.1

pub not_yet : (hs : List Hole) (e : ℕ) → Ascending (suc e) hs → NotYet hs e
not_yet [] e a = tt
not_yet (h ∷ hs) e a = a.0

pub ascends_later : (hs : List Hole) (e : ℕ) → Ascending e hs → NotYet hs e → Ascending (suc e) hs
ascends_later [] e a n = tt
ascends_later (h ∷ hs) e (a, b, c, d) n = (n, b, c, d)

-- The records left, k of them, cover the ticks up to m.
abbrev Stands : ℕ → ℕ → Type 0
Stands k m = (hs : List Hole) (xs : List Stamped) (e low : ℕ) → cover_answer k hs xs e ≡ answer m → k ≡ length hs + length xs → Ascending low hs
    → Place m hs xs e × Ascending e hs

stand_taken : (k m : ℕ) → Stands k m → (hs : List Hole) (xs : List Stamped) (e low : ℕ) → Taken k m hs xs e → suc k ≡ length hs + length xs → Ascending low hs
    → Place m hs xs e × Ascending e hs
stand_taken k m ih (h ∷ hs) xs e low (takes_hole f c) n (a, b, s, d) =
    let (p, q) = ih hs xs (suc h.last) (suc h.last) (rw add-one at c) (omega arith) d in
    let i : h.first ≤ e = omega arith in
    let j : e ≤ h.last = omega arith in
    (hole i j s p, (omega arith, b, s, d))
stand_taken k m ih hs (x ∷ xs) e low (takes_sample f l c) n a =
    let (p, q) = ih hs xs (suc e) low (rw add-one at c) (omega arith) a in
    (sample f l (not_yet hs e q) p, lower hs e (suc e) (omega arith) q)

stands : (k m : ℕ) → Stands k m
unfolding cover_answer
stands zero m [] [] e low c n a = let z : e ≡ m = cc in (rw z done, tt)
stands zero m [] (x ∷ xs) e low c n a = absurd (omega arith)
stands zero m (h ∷ hs) xs e low c n a = absurd (omega arith)
stands (suc k) m hs xs e low c n a = stand_taken k m (stands k m) hs xs e low (taken k m hs xs e c) n a

pub place_start : (tr : Trace) → Accepted tr → Place tr.ticks tr.holes tr.samples 0
place_start tr ok = (stands _ tr.ticks tr.holes tr.samples 0 0 ok.covered refl (ascending tr.holes 0 0 ok.holes)).0
