-- Numbers in lists of bytes that are parts of longer ones.
use Prim.Native.Nat.{ℕ, zero, suc, ◌+◌, ◌/◌, ◌≤◌, ◌<◌}
use mathlib.Core.Path.{◌≡◌, refl, sym, ap, ◌∙◌}
use mathlib.Core.List.{List, ◌++◌, append_assoc}
use native.Mathlib.Omega.{arith}
use native.Mathlib.Nat.{add_assoc, add-zero}
use lib.ListN.{length, get_or, take, drop, length-drop, get_or-append}
use lib.Seq.{get_or-drop, drop_at, take-append-le, drop-append-le}
use Rattle.bytes_le.specs.Numbers.{u16_at, u32_at, u64_at}
use Rattle.bytes_le.specs.Writing.{bytes_of}

pub length_bytes : (k n : ℕ) → length (bytes_of k n) ≡ k
unfolding bytes_of
length_bytes zero n = refl
length_bytes (suc k) n = ap suc (length_bytes k (n / 256))

-- What is read behind the first n bytes.
pub byte_behind : (s l : List ℕ) (n at : ℕ) → drop n s ≡ l → get_or s (n + at) 0 ≡ get_or l at 0
byte_behind s l n at e = rw (← e) (sym (get_or-drop n s at 0))

pub u16_behind : (s l : List ℕ) (n at : ℕ) → drop n s ≡ l → u16_at s (n + at) ≡ u16_at l at
u16_behind s l n at e = rw (add_assoc n at 1, byte_behind s l n at e, byte_behind s l n (at + 1) e)

pub u32_behind : (s l : List ℕ) (n at : ℕ) → drop n s ≡ l → u32_at s (n + at) ≡ u32_at l at
u32_behind s l n at e = rw (add_assoc n at 2, u16_behind s l n at e, u16_behind s l n (at + 2) e)

pub u64_behind : (s l : List ℕ) (n at : ℕ) → drop n s ≡ l → u64_at s (n + at) ≡ u64_at l at
u64_behind s l n at e = rw (add_assoc n at 4, u32_behind s l n at e, u32_behind s l n (at + 4) e)

-- The number that is read where its bytes stand.
module _ (p q : List ℕ) (at n : ℕ) (h : length p ≡ at) where
  written : (f : List ℕ → ℕ → ℕ) → ((s l : List ℕ) (m i : ℕ) → drop m s ≡ l → f s (m + i) ≡ f l i)
      → (k : ℕ) → f (bytes_of k n ++ q) 0 ≡ n → f (p ++ bytes_of k n ++ q) at ≡ n
  written f behind k e =
      let s : List ℕ = p ++ (bytes_of k n ++ q) in
      rw (append_assoc p (bytes_of k n) q)
      (ap (f s) (sym (add-zero at)) ∙ behind s _ at 0 (drop_at p (bytes_of k n ++ q) at h) ∙ e)

  pub u16_written : n < 65536 → u16_at (p ++ bytes_of 2 n ++ q) at ≡ n
  unfolding bytes_of
  u16_written l = written u16_at u16_behind 2 (omega arith)

  pub u32_written : n < 4294967296 → u32_at (p ++ bytes_of 4 n ++ q) at ≡ n
  unfolding bytes_of
  u32_written l = written u32_at u32_behind 4 (omega arith)

  pub u64_written : n < 18446744073709551616 → u64_at (p ++ bytes_of 8 n ++ q) at ≡ n
  unfolding bytes_of
  u64_written l = written u64_at u64_behind 8 (omega arith)

-- What lies within the first list.
pub u16_first : (p q : List ℕ) (at : ℕ) → at + 2 ≤ length p → u16_at (p ++ q) at ≡ u16_at p at
u16_first p q at h = rw (get_or-append p q 0 at (omega arith), get_or-append p q 0 (at + 1) (omega arith))

pub u32_first : (p q : List ℕ) (at : ℕ) → at + 4 ≤ length p → u32_at (p ++ q) at ≡ u32_at p at
u32_first p q at h = rw (u16_first p q at (omega arith), u16_first p q (at + 2) (omega arith))

pub bytes_first : (p q : List ℕ) (a n : ℕ) → a + n ≤ length p → take n (drop a (p ++ q)) ≡ take n (drop a p)
bytes_first p q a n h =
    let l : n ≤ length (drop a p) = omega (arith, length-drop a p) in
    rw (drop-append-le a p q (omega arith)) (take-append-le n (drop a p) q l)
