-- The replies and the samples up to a tick are the first ones.
use Prim.Native.Nat.{ℕ, suc, ◌≤◌, ◌<◌}
use mathlib.Core.Path.{◌≡◌, refl, ap}
use mathlib.Core.Bool.{◌||◌}
use mathlib.Core.List.{List, [], ◌∷◌}
use native.Mathlib.Omega.{arith}
use lib.ListN.{length, take}
use lib.Dec.{ltb, leb}
use borrow.Author.Tests.{ltb-false, le-leb, lt-leb}
use Rattle.lists.proofs.Bools.{both_false, by_order}
use Rattle.refusals.specs.Refusals.{answer}
use Rattle.trace.specs.Records.{Hole, Reply, Stamped}
use Rattle.trace.specs.Coverage.{replies_answer}
use Rattle.refusals.proofs.Answers.{unless}
use Rattle.ticks.specs.Cut.{cut_holes, cut_replies, cut_samples}
use Rattle.ticks.specs.inner.Places.{Place, done, hole, sample}
use Rattle.ticks.proofs.Cuts.{no_samples}

-- A list that is the first part of another.
abbrev pub First {ℓ} : {A : Type ℓ} → List A → List A → Type ℓ
First xs ys = xs ≡ take (length xs) ys

pub fewer_holes : (t : ℕ) (hs : List Hole) → length (cut_holes t hs) ≤ length hs
unfolding cut_holes
fewer_holes t [] = omega arith
fewer_holes t (h ∷ hs) =
    let l = fewer_holes t hs in
    by_order t h.first (λ n. rw (lt-leb h.first t n) (omega arith)) (λ n. rw (le-leb h.first t n) (omega arith))

-- What the check of a reply says of it and of those after it.
next_reply : (m i low : ℕ) (r : Reply) (rs : List Reply) → replies_answer m (r ∷ rs) i low ≡ answer tt → (low ≤ r.tick) × (replies_answer m rs (suc i) r.tick ≡ answer tt)
unfolding replies_answer
next_reply m i low r rs e =
    let p = unless (ltb r.tick low || leb m r.tick) 10 i _ e in
    (ltb-false r.tick low (both_false (ltb r.tick low) _ p.0).0, p.1)

no_replies : (t m : ℕ) (rs : List Reply) (i low : ℕ) → replies_answer m rs i low ≡ answer tt → t < low → cut_replies t rs ≡ []
unfolding cut_replies
no_replies t m [] i low e l = refl
no_replies t m (r ∷ rs) i low e l =
    let (a, d) = next_reply m i low r rs e in
    rw (lt-leb r.tick t (omega arith)) (no_replies t m rs (suc i) r.tick d (omega arith))

pub first_replies : (t m : ℕ) (rs : List Reply) (i low : ℕ) → replies_answer m rs i low ≡ answer tt → First (cut_replies t rs) rs
unfolding cut_replies
first_replies t m [] i low e = refl
first_replies t m (r ∷ rs) i low e =
    let (a, d) = next_reply m i low r rs e in
    by_order t r.tick
    (λ l. rw (lt-leb r.tick t l, no_replies t m rs (suc i) r.tick d l))
    (λ l. rw (le-leb r.tick t l) (ap (λ x. r ∷ x) (first_replies t m rs (suc i) r.tick d)))

pub first_samples : {m : ℕ} (t : ℕ) (hs : List Hole) (xs : List Stamped) (e : ℕ) → Place m hs xs e → First (cut_samples t xs) xs
unfolding cut_samples
first_samples t [] [] e done = refl
first_samples t (h ∷ hs) xs e (hole a b c p) = first_samples t hs xs (suc h.last) p
first_samples t hs (x ∷ xs) e (sample a b c p) =
    by_order t e
    (λ l. rw (lt-leb x.tick t (omega arith), no_samples t hs xs (suc e) p (omega arith)))
    (λ l. rw (le-leb x.tick t (omega arith)) (ap (λ y. x ∷ y) (first_samples t hs xs (suc e) p)))
