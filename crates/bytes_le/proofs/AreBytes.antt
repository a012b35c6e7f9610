-- Lists whose numbers are bytes.
use Prim.Native.Nat.{ℕ, zero, suc, ◌+◌, ◌/◌, ◌%◌, ◌<◌}
use mathlib.Core.List.{List, [], ◌∷◌, ◌++◌}
use native.Mathlib.Omega.{arith}
use lib.ListN.{get_or, take, drop}
use Rattle.bytes_le.specs.Numbers.{u16_at, u32_at}
use Rattle.bytes_le.specs.Writing.{bytes_of, Bytes}

-- A list of bytes.
pub record Are (s : List ℕ) : Type 0 where
  pub bytes : Bytes s

pub none : Are []
none = record { bytes = λ i h. absurd (omega arith) }

one_more : (x : ℕ) {s : List ℕ} → x < 256 → Are s → Are (x ∷ s)
one_more x {s} a b = record { bytes = each }
  where
    each : Bytes (x ∷ s)
    each zero h = a
    each (suc i) h = b.bytes i (omega arith)

first : {x : ℕ} {s : List ℕ} → Are (x ∷ s) → x < 256
first a = a.bytes 0 (omega arith)

rest : {x : ℕ} {s : List ℕ} → Are (x ∷ s) → Are s
rest a = record { bytes = λ i h. a.bytes (suc i) (omega arith) }

pub append : {s t : List ℕ} → Are s → Are t → Are (s ++ t)
append {s = []} a b = b
append {s = x ∷ s} a b = one_more x (first a) (append (rest a) b)

pub taken : (n : ℕ) {s : List ℕ} → Are s → Are (take n s)
taken zero a = none
taken (suc n) {s = []} a = none
taken (suc n) {s = x ∷ s} a = one_more x (first a) (taken n (rest a))

pub dropped : (n : ℕ) {s : List ℕ} → Are s → Are (drop n s)
dropped zero a = a
dropped (suc n) {s = []} a = none
dropped (suc n) {s = x ∷ s} a = dropped n (rest a)

pub number : (k n : ℕ) → Are (bytes_of k n)
unfolding bytes_of
number zero n = none
number (suc k) n = one_more (n % 256) (omega arith) (number k (n / 256))

-- The numbers that are read from bytes fit their types, past the end too.
pub byte_fits : {s : List ℕ} → Are s → (i : ℕ) → get_or s i 0 < 256
byte_fits {s = []} a i = omega arith
byte_fits {s = x ∷ s} a zero = first a
byte_fits {s = x ∷ s} a (suc i) = byte_fits (rest a) i

pub u16_fits : {s : List ℕ} → Are s → (at : ℕ) → u16_at s at < 65536
u16_fits a at = omega (arith, byte_fits a at, byte_fits a (at + 1))

pub u32_fits : {s : List ℕ} → Are s → (at : ℕ) → u32_at s at < 4294967296
u32_fits a at = omega (arith, u16_fits a at, u16_fits a (at + 2))
