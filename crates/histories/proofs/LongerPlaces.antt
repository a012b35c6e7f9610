-- A walk over records that cover the ticks up to m, with one record more.
use Prim.Native.Nat.{ℕ, suc, ◌≤◌, ◌<◌}
use mathlib.Core.Path.{◌≡◌, refl}
use mathlib.Core.List.{List, [], ◌∷◌, ◌++◌}
use native.Mathlib.Omega.{arith}
use lib.ListN.{length}
use Rattle.trace.specs.Records.{Hole, Stamped}
use Rattle.ticks.specs.inner.Places.{NotYet, Place, done, hole, sample}
use Rattle.ticks.proofs.AscendingHoles.{Ascending}
use Rattle.ticks.proofs.Places.{place_low}

-- A sample at the end.
pub sample_more : {m : ℕ} (hs : List Hole) (xs : List Stamped) (e : ℕ) → Place m hs xs e → (x : Stamped) → x.tick ≡ m → m < 0xFFFFFFFF → Place (suc m) hs (xs ++ (x ∷ [])) e
sample_more [] [] e done x t l = sample t l tt done
sample_more (h ∷ hs) xs e (hole a b c p) x t l = hole a b c (sample_more hs xs (suc h.last) p x t l)
sample_more hs (y ∷ xs) e (sample a b c p) x t l = sample a b c (sample_more hs xs (suc e) p x t l)

-- A hole at the end.
not_yet_more : (hs : List Hole) (g : Hole) (e : ℕ) → NotYet hs e → e < g.first → NotYet (hs ++ (g ∷ [])) e
not_yet_more [] g e n l = l
not_yet_more (h ∷ hs) g e n l = n

pub hole_more : {m : ℕ} (hs : List Hole) (xs : List Stamped) (e : ℕ) → Place m hs xs e → (g : Hole) → g.first ≡ m → m ≤ g.last → g.last < 0xFFFFFFFF
    → Place (suc g.last) (hs ++ (g ∷ [])) xs e
hole_more [] [] e done g f a l = let b : g.first ≤ e = omega arith in hole b a l done
hole_more (h ∷ hs) xs e (hole a b c p) g f i l = hole a b c (hole_more hs xs (suc h.last) p g f i l)
hole_more hs (x ∷ xs) e (sample a b c p) g f i l =
    let n = place_low hs xs (suc e) p in
    sample a b (not_yet_more hs g e c (omega arith)) (hole_more hs xs (suc e) p g f i l)

-- The tick after the last hole, and the holes with the last one ending at k.
abbrev pub after_last : List Hole → ℕ
after_last [] = 0
after_last (h ∷ []) = suc h.last
after_last (h ∷ g ∷ hs) = after_last (g ∷ hs)

abbrev pub longer : List Hole → ℕ → List Hole
longer [] k = []
longer (h ∷ []) k = record { first = h.first; last = k } ∷ []
longer (h ∷ g ∷ hs) k = h ∷ longer (g ∷ hs) k

-- No sample follows the last tick.
none_left : {m : ℕ} (xs : List Stamped) → Place m [] xs m → xs ≡ []
none_left [] p = refl
none_left (x ∷ xs) (sample a b c p) = let l = place_low [] xs _ p in absurd (omega arith)

not_yet_longer : (hs : List Hole) (k e : ℕ) → NotYet hs e → NotYet (longer hs k) e
not_yet_longer [] k e n = n
not_yet_longer (h ∷ []) k e n = n
not_yet_longer (h ∷ g ∷ hs) k e n = n

at_longer : {m : ℕ} (h : Hole) (hs : List Hole) (xs : List Stamped) (e k : ℕ) → h.first ≤ e → e ≤ h.last → h.last < 0xFFFFFFFF → Place m hs xs (suc h.last)
    → after_last (h ∷ hs) ≡ m → m ≤ k → k < 0xFFFFFFFF → (0 < length hs → after_last hs ≡ m → Place (suc k) (longer hs k) xs (suc h.last)) → Place (suc k) (longer (h ∷ hs) k) xs e
at_longer h [] xs e k a b c p t i l later =
    let none : xs ≡ [] = none_left xs (rw t at p) in
    let j : e ≤ k = omega arith in
    rw none (hole a j l done)
at_longer h (g ∷ hs) xs e k a b c p t i l later = hole a b c (later (omega arith) t)

pub hole_longer : {m : ℕ} (hs : List Hole) (xs : List Stamped) (e : ℕ) → Place m hs xs e → 0 < length hs → after_last hs ≡ m → (k : ℕ) → m ≤ k → k < 0xFFFFFFFF → Place (suc k) (longer hs k) xs e
hole_longer [] [] e done some t k i l = absurd (omega arith)
hole_longer (h ∷ hs) xs e (hole a b c p) some t k i l = at_longer h hs xs e k a b c p t i l (λ more u. hole_longer hs xs (suc h.last) p more u k i l)
hole_longer hs (x ∷ xs) e (sample a b c p) some t k i l = sample a b (not_yet_longer hs k e c) (hole_longer hs xs (suc e) p some t k i l)

-- The holes still ascend.
after_low : (hs : List Hole) (low : ℕ) → Ascending low hs → 0 < length hs → low ≤ after_last hs
after_low [] low o some = absurd (omega arith)
after_low (h ∷ []) low (a, b, c, d) some = omega arith
after_low (h ∷ g ∷ hs) low (a, b, c, d) some = let n = after_low (g ∷ hs) (suc h.last) d (omega arith) in omega arith

pub ascends_more : (hs : List Hole) (low m : ℕ) → Ascending low hs → low ≤ m → after_last hs ≤ m → (g : Hole) → g.first ≡ m → m ≤ g.last → g.last < 0xFFFFFFFF → Ascending low (hs ++ (g ∷ []))
ascends_more [] low m o i j g f a l = (omega arith, omega arith, l, tt)
ascends_more (h ∷ []) low m (a, b, c, d) i j g f k l = (a, b, c, (omega arith, omega arith, l, tt))
ascends_more (h ∷ h' ∷ hs) low m (a, b, c, d) i j g f k l =
    let n = after_low (h' ∷ hs) (suc h.last) d (omega arith) in
    (a, b, c, ascends_more (h' ∷ hs) (suc h.last) m d (omega arith) j g f k l)

pub ascends_longer : (hs : List Hole) (low k : ℕ) → Ascending low hs → after_last hs ≤ suc k → k < 0xFFFFFFFF → Ascending low (longer hs k)
ascends_longer [] low k o i l = tt
ascends_longer (h ∷ []) low k (a, b, c, d) i l = (a, omega arith, l, tt)
ascends_longer (h ∷ g ∷ hs) low k (a, b, c, d) i l = (a, b, c, ascends_longer (g ∷ hs) (suc h.last) k d i l)

-- No hole ends after the last tick.
at_last : {m : ℕ} (h : Hole) (hs : List Hole) → suc h.last ≤ m → after_last hs ≤ m → after_last (h ∷ hs) ≤ m
at_last h [] a b = a
at_last h (g ∷ hs) a b = b

pub last_low : {m : ℕ} (hs : List Hole) (xs : List Stamped) (e : ℕ) → Place m hs xs e → after_last hs ≤ m
last_low [] [] e done = omega arith
last_low (h ∷ hs) xs e (hole a b c p) = at_last h hs (place_low hs xs (suc h.last) p) (last_low hs xs (suc h.last) p)
last_low hs (x ∷ xs) e (sample a b c p) = last_low hs xs (suc e) p
