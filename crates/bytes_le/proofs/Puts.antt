-- Bytes put into a buffer, and a number as its bytes.
use Prim.Native.Nat.{ℕ, zero, suc, ◌+◌, ◌-◌, ◌/◌, ◌%◌, ◌≤◌, ◌<◌}
use mathlib.Core.Path.{◌≡◌, refl, sym, ap, subst, ◌∙◌}
use mathlib.Core.List.{List, [], ◌∷◌, ◌++◌, append_assoc}
use native.Mathlib.Omega.{arith}
use lib.ListN.{length, set, take, drop, length-set, length-drop}
use lib.Seq.{sets, sets-eq, take-length}
use borrow.Rule.Slice.PartMut.{put_mid}
use Rattle.std.proofs.lemmas.Slice.{put_mid-paste}
use Rattle.std.proofs.lemmas.List.{take_more_set, append-nil, length-take}
use borrow.Author.Tests.{le-leb, lt-leb}
use Rattle.bytes_le.specs.Writing.{bytes_of, put_at}
use Rattle.bytes_le.proofs.ByteLists.{length_bytes}

-- Bytes that fit are stored one after the other.
pub put_fits : (s : List ℕ) (at : ℕ) (bs : List ℕ) → at + length bs ≤ length s → put_at s at bs ≡ sets s at bs
unfolding put_at
put_fits s at bs h = rw (le-leb (at + length bs) (length s) h) (sym (sets-eq bs s at h))

-- Those that do not fit leave it as it is.
pub put_none : (s : List ℕ) (at : ℕ) (bs : List ℕ) → length s < at + length bs → s ≡ put_at s at bs
unfolding put_at
put_none s at bs h = rw (lt-leb (at + length bs) (length s) h)

pub put_not : (s : List ℕ) (at count v : ℕ) → length s < at + count → s ≡ put_at s at (bytes_of count v)
put_not s at count v h = put_none s at (bytes_of count v) (omega (arith, length_bytes count v))

-- A part of a list that became the bytes.
pub put_part : (s : List ℕ) (at : ℕ) (bs part : List ℕ) → at + length bs ≤ length s → part ≡ bs → put_mid at (at + length bs - at) s part ≡ put_at s at bs
unfolding put_at
put_part s at bs part h e =
    put_mid-paste at (at + length bs - at) s part bs (length bs) e (omega arith) refl
    ∙ ap (λ (x : List ℕ). take at s ++ x ++ drop (at + length bs) s) (take-length bs)
    ∙ rw (le-leb (at + length bs) (length s) h) refl

pub put_number : (s : List ℕ) (at count v : ℕ) (part : List ℕ) → at + count ≤ length s → part ≡ bytes_of (length (take (at + count - at) (drop at s))) v
    → put_mid at (at + count - at) s part ≡ put_at s at (bytes_of count v)
put_number s at count v part h e =
    let l = length_bytes count v in
    let long : length (take (at + count - at) (drop at s)) ≡ count = simp (length-take, length-drop) (omega arith) in
    let number : part ≡ bytes_of count v = e ∙ ap (λ (k : ℕ). bytes_of k v) long in
    subst (λ (k : ℕ). put_mid at (at + k - at) s part ≡ put_at s at (bytes_of count v)) l (put_part s at (bytes_of count v) part (omega (arith, l)) number)

-- The first i bytes of a number are in the list, and what is left of the number gives the others.
pub record Filling (v : ℕ) (s : List ℕ) (i rest : ℕ) : Type 0 where
  pub same : take i s ++ bytes_of (length s - i) rest ≡ bytes_of (length s) v

bytes_next : (left rest : ℕ) → 0 < left → bytes_of left rest ≡ rest % 256 ∷ bytes_of (left - 1) (rest / 256)
unfolding bytes_of
bytes_next zero rest h = absurd (omega arith)
bytes_next (suc k) rest h = let e : suc k - 1 ≡ k = omega arith in rw e

pub filling_start : (v : ℕ) (s : List ℕ) → Filling v s 0 v
filling_start v s = let all : length s - 0 ≡ length s = omega arith in record { same = ap (λ (k : ℕ). bytes_of k v) all }

pub filling_next : {v : ℕ} {s : List ℕ} {i rest : ℕ} → Filling v s i rest → i < length s → Filling v (set s i (rest % 256)) (i + 1) (rest / 256)
filling_next {v} {s} {i} {rest} f h =
    let left : length s - (i + 1) ≡ length s - i - 1 = omega arith in
    record {
      same = rw (length-set s i (rest % 256), take_more_set s i (rest % 256) h, left, append_assoc (take i s) (rest % 256 ∷ []) (bytes_of (length s - i - 1) (rest / 256)))
          (ap (λ (x : List ℕ). take i s ++ x) (sym (bytes_next (length s - i) rest (omega arith))) ∙ f.same);
    }

pub filling_end : {v : ℕ} {s : List ℕ} {i rest : ℕ} → Filling v s i rest → i ≡ length s → s ≡ bytes_of (length s) v
unfolding bytes_of
filling_end {v} {s} {i} {rest} f e =
    let none : length s - i ≡ 0 = omega arith in
    let whole : take i s ≡ s = ap (λ (k : ℕ). take k s) e ∙ take-length s in
    let same = rw (none, whole) at f.same in
    sym (append-nil s) ∙ same
