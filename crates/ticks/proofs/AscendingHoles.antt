-- Holes in the order that acceptance ensures.
use Prim.Native.Nat.{ℕ, suc, ◌≤◌, ◌<◌}
use mathlib.Core.Path.{◌≡◌, refl}
use mathlib.Core.Bool.{false, ◌||◌}
use mathlib.Core.List.{List, [], ◌∷◌}
use native.Mathlib.Omega.{arith}
use native.Mathlib.Numerals.{add-one}
use lib.Dec.{ltb}
use borrow.Author.Tests.{le-ltb, ltb-false, lt-leb}
use Rattle.lists.proofs.Bools.{both_false}
use Rattle.refusals.specs.Refusals.{answer}
use Rattle.trace.specs.Records.{Hole}
use Rattle.trace.specs.Coverage.{holes_answer}
use Rattle.refusals.proofs.Answers.{unless}
use Rattle.ticks.specs.Traces.{in_hole}

-- Each hole runs forward, ends below FFFFFFFFh and starts after its predecessor, the first one at `low` or later.
abbrev pub Ascending : ℕ → List Hole → Type 0
Ascending low [] = Unit {0}
Ascending low (h ∷ hs) = (low ≤ h.first) × (h.first ≤ h.last) × (h.last < 0xFFFFFFFF) × Ascending (suc h.last) hs

pub ascending : (hs : List Hole) (i low : ℕ) → holes_answer hs i low ≡ answer tt → Ascending low hs
unfolding holes_answer
ascending [] i low e = tt
ascending (h ∷ hs) i low e =
    let p = unless (ltb h.first low || (ltb h.last h.first || ltb 0xFFFFFFFE h.last)) 8 i _ e in
    let a = both_false (ltb h.first low) _ p.0 in
    let b = both_false (ltb h.last h.first) _ a.1 in
    let c = ltb-false 0xFFFFFFFE h.last b.1 in
    (ltb-false _ _ a.0, ltb-false _ _ b.0, omega arith, ascending hs (suc i) (suc h.last) (rw add-one at p.1))

pub in_order : (hs : List Hole) (i low : ℕ) → Ascending low hs → holes_answer hs i low ≡ answer tt
unfolding holes_answer
in_order [] i low a = refl
in_order (h ∷ hs) i low (a, b, c, d) =
    rw (le-ltb h.first low a, le-ltb h.last h.first b, le-ltb 0xFFFFFFFE h.last (omega arith), add-one) (in_order hs (suc i) (suc h.last) d)

pub lower : (hs : List Hole) (low e : ℕ) → low ≤ e → Ascending e hs → Ascending low hs
lower [] low e l a = tt
lower (h ∷ hs) low e l (a, b, c, d) = (omega arith, b, c, d)

pub none_in_holes : (hs : List Hole) (low t : ℕ) → Ascending low hs → t < low → in_hole hs t ≡ false
none_in_holes [] low t a l = refl
none_in_holes (h ∷ hs) low t (a, b, c, d) l = rw (lt-leb h.first t (omega arith)) (none_in_holes hs (suc h.last) t d (omega arith))
