-- Each covered tick is in one record.
use Prim.Native.Nat.{ℕ, suc, ◌+◌, ◌≤◌, ◌<◌}
use mathlib.Core.Path.{◌≡◌, refl}
use mathlib.Core.List.{List, [], ◌∷◌}
use native.Mathlib.Omega.{arith}
use borrow.Author.Tests.{le-leb, lt-leb, eq-eqb, ne_eqb}
use Rattle.lists.proofs.Bools.{by_order}
use Rattle.trace.specs.Records.{Hole, Stamped}
use Rattle.ticks.specs.inner.Places.{Place, done, hole, sample}
use Rattle.ticks.proofs.AscendingHoles.{Ascending}
use Rattle.ticks.proofs.Places.{place_low, ascends_later}
use Rattle.histories.specs.promises.OwningUp.{bearing, containing}

-- Before the holes left, and before the place.
no_hole : (hs : List Hole) (low t : ℕ) → Ascending low hs → t < low → containing hs t ≡ 0
no_hole [] low t o l = refl
no_hole (h ∷ hs) low t (a, b, c, d) l = rw (lt-leb h.first t (omega arith)) (let n = no_hole hs (suc h.last) t d (omega arith) in omega arith)

no_sample : {m : ℕ} (hs : List Hole) (xs : List Stamped) (e : ℕ) → Place m hs xs e → (t : ℕ) → t < e → bearing xs t ≡ 0
no_sample [] [] e done t l = refl
no_sample (h ∷ hs) xs e (hole a b c p) t l = no_sample hs xs (suc h.last) p t (omega arith)
no_sample hs (x ∷ xs) e (sample a b c p) t l =
    rw (ne_eqb x.tick t (λ z. omega arith)) (let n = no_sample hs xs (suc e) p t (omega arith) in omega arith)

-- The first hole or sample, and the others.
hole_first : (h : Hole) (hs : List Hole) (t : ℕ) → h.first ≤ t → t ≤ h.last → containing (h ∷ hs) t ≡ 1 + containing hs t
hole_first h hs t a b = rw (le-leb h.first t a, le-leb t h.last b) refl

hole_past : (h : Hole) (hs : List Hole) (t : ℕ) → h.first ≤ t → h.last < t → containing (h ∷ hs) t ≡ containing hs t
hole_past h hs t a b = rw (le-leb h.first t a, lt-leb t h.last b) (let z : 0 + containing hs t ≡ containing hs t = omega arith in z)

sample_first : (x : Stamped) (xs : List Stamped) (t : ℕ) → x.tick ≡ t → bearing (x ∷ xs) t ≡ 1 + bearing xs t
sample_first x xs t e = rw (eq-eqb x.tick t e) refl

sample_past : (x : Stamped) (xs : List Stamped) (t : ℕ) → x.tick < t → bearing (x ∷ xs) t ≡ bearing xs t
sample_past x xs t l = rw (ne_eqb x.tick t (λ z. omega arith)) (let z : 0 + bearing xs t ≡ bearing xs t = omega arith in z)

pub counted_once : {m : ℕ} (hs : List Hole) (xs : List Stamped) (e : ℕ) → Place m hs xs e → Ascending e hs → (t : ℕ) → e ≤ t → t < m → bearing xs t + containing hs t ≡ 1
counted_once [] [] e done o t i l = absurd (omega arith)
counted_once (h ∷ hs) xs e (hole a b c p) o t i l =
    by_order h.last t
    (λ n. let past = hole_past h hs t (omega arith) n in let ih = counted_once hs xs (suc h.last) p o.3 t n l in omega arith)
    (λ n.
    let here = hole_first h hs t (omega arith) n in
    let u = no_hole hs (suc h.last) t o.3 (omega arith) in
    let v = no_sample hs xs (suc h.last) p t (omega arith) in
    omega arith)
counted_once hs (x ∷ xs) e (sample a b c p) o t i l =
    let later = ascends_later hs e o c in
    by_order e t
    (λ n. let past = sample_past x xs t (omega arith) in let ih = counted_once hs xs (suc e) p later t n l in omega arith)
    (λ n.
    let here = sample_first x xs t (omega arith) in
    let u = no_hole hs (suc e) t later (omega arith) in
    let v = no_sample hs xs (suc e) p t (omega arith) in
    omega arith)

pub counted_none : {m : ℕ} (hs : List Hole) (xs : List Stamped) (e : ℕ) → Place m hs xs e → (t : ℕ) → m ≤ t → bearing xs t + containing hs t ≡ 0
counted_none [] [] e done t l = refl
counted_none (h ∷ hs) xs e (hole a b c p) t l =
    let n = place_low hs xs (suc h.last) p in
    let past = hole_past h hs t (omega arith) (omega arith) in
    let ih = counted_none hs xs (suc h.last) p t l in
    omega arith
counted_none hs (x ∷ xs) e (sample a b c p) t l =
    let n = place_low hs xs (suc e) p in
    let past = sample_past x xs t (omega arith) in
    let ih = counted_none hs xs (suc e) p t l in
    omega arith
