-- Bytes put into a buffer, one run after the other.
use Prim.Native.Nat.{ℕ, suc, ◌+◌, ◌≤◌, ◌<◌}
use mathlib.Core.Path.{◌≡◌, refl, ap, sym, ◌∙◌}
use mathlib.Core.Bool.{Bool, true, false}
use mathlib.Core.List.{List, [], ◌∷◌, ◌++◌}
use native.Mathlib.Omega.{arith}
use native.Mathlib.Numerals.{add-one}
use lib.ListN.{length, get_or, set, take, drop, length-append}
use lib.Seq.{sets, length-sets, paste, paste-zero, paste-suc, length-paste, take-length, take_at}
use lib.Dec.{leb}
use borrow.Author.Tests.{le-leb, leb-true, leb-false}
use Rattle.bytes_le.specs.Writing.{put_at}
use Rattle.bytes_le.proofs.Puts.{put_fits, put_none}

-- The bytes below i are in the buffer.
pub record Copying (s₀ : List ℕ) (at : ℕ) (bytes s : List ℕ) (i : ℕ) : Type 0 where
  pub room : at + length bytes ≤ length s₀
  pub within : i ≤ length bytes
  pub same : s ≡ paste s₀ at bytes i
  pub long : length s ≡ length s₀

module _ (s₀ : List ℕ) (at : ℕ) (bytes : List ℕ) where
  pub copying_start : at + length bytes ≤ length s₀ → Copying s₀ at bytes s₀ 0
  copying_start h = record { room = h; within = omega arith; same = paste-zero s₀ at bytes; long = refl }

  pub copying_next : {s : List ℕ} {i : ℕ} → Copying s₀ at bytes s i → i < length bytes → Copying s₀ at bytes (set s (at + i) (get_or bytes i 0)) (i + 1)
  copying_next {s} {i} c h =
      let h' : at + i < length s₀ = omega (arith, c.room) in
      let e : set s (at + i) (get_or bytes i 0) ≡ paste s₀ at bytes (i + 1) =
      ap (λ (x : List ℕ). set x (at + i) (get_or bytes i 0)) c.same ∙ paste-suc s₀ at bytes i 0 h' h ∙ ap (paste s₀ at bytes) (sym (add-one i)) in
      record {
        room = c.room;
        within = omega arith;
        same = e;
        long = ap length e ∙ length-paste s₀ at bytes (i + 1) (omega (arith, c.room)) (omega arith);
      }

  pub copying_end : {s : List ℕ} {i : ℕ} → Copying s₀ at bytes s i → length bytes ≤ i → s ≡ put_at s₀ at bytes
  unfolding put_at
  copying_end {s} {i} c h =
      let e : i ≡ length bytes = omega (arith, c.within) in
      c.same
      ∙ ap (paste s₀ at bytes) e
      ∙ ap (λ (x : List ℕ). take at s₀ ++ x ++ drop (at + length bytes) s₀) (take-length bytes)
      ∙ rw (le-leb (at + length bytes) (length s₀) c.room) refl

sets_append : (xs ys s : List ℕ) (at : ℕ) → sets (sets s at xs) (at + length xs) ys ≡ sets s at (xs ++ ys)
sets_append [] ys s at = let e : at + 0 ≡ at = omega arith in ap (λ (k : ℕ). sets s k ys) e
sets_append (x ∷ xs) ys s at =
    let e : at + suc (length xs) ≡ suc at + length xs = omega arith in
    ap (λ (k : ℕ). sets (sets (set s at x) (suc at) xs) k ys) e ∙ sets_append xs ys (set s at x) (suc at)

-- Bytes behind bytes.
pub put_then : (s : List ℕ) (at : ℕ) (xs ys : List ℕ) → at + length xs + length ys ≤ length s
    → put_at (put_at s at xs) (at + length xs) ys ≡ put_at s at (xs ++ ys)
put_then s at xs ys h =
    let first : put_at s at xs ≡ sets s at xs = put_fits s at xs (omega arith) in
    let l : length (put_at s at xs) ≡ length s = ap length first ∙ length-sets s at xs in
    put_fits (put_at s at xs) (at + length xs) ys (omega (arith, l))
    ∙ ap (λ (x : List ℕ). sets x (at + length xs) ys) first
    ∙ sets_append xs ys s at
    ∙ sym (put_fits s at (xs ++ ys) (omega (arith, length-append xs ys)))

-- The buffer stays as long as it was.
pub put_long : (s : List ℕ) (at : ℕ) (xs : List ℕ) → length (put_at s at xs) ≡ length s
put_long s at xs = go (leb (at + length xs) (length s)) refl
  where
    go : (b : Bool) → leb (at + length xs) (length s) ≡ b → length (put_at s at xs) ≡ length s
    go true e = ap length (put_fits s at xs (leb-true (at + length xs) (length s) e)) ∙ length-sets s at xs
    go false e = ap length (sym (put_none s at xs (leb-false (at + length xs) (length s) e)))

-- Bytes at the start are read back.
pub put_read : (s xs : List ℕ) → length xs ≤ length s → take (length xs) (put_at s 0 xs) ≡ xs
unfolding put_at
put_read s xs h = rw (le-leb (0 + length xs) (length s) (omega arith)) (take_at xs (drop (0 + length xs) s) (length xs) refl)
