-- Paper 01, 'The trace': numbers written as little-endian bytes.
use Rattle.std.specs.Prelude.{ℕ, zero, suc, ◌+◌, ◌/◌, ◌%◌, ◌<◌, cond, List, [], ◌∷◌, ◌++◌, leb, length, get_or, take, drop}

-- The k lowest bytes of a number, the lowest first.
unfoldable pub bytes_of : ℕ → ℕ → List ℕ
bytes_of zero n = []
bytes_of (suc k) n = n % 256 ∷ bytes_of k (n / 256)

-- Each number of a list is a byte.
abbrev pub Bytes : List ℕ → Type 0
Bytes s = (i : ℕ) → i < length s → get_or s i 0 < 256

-- A list with bytes put over it from a place on; where they do not fit it stays as it is.
unfoldable pub put_at : List ℕ → ℕ → List ℕ → List ℕ
put_at s at bs = cond (leb (at + length bs) (length s)) (take at s ++ bs ++ drop (at + length bs) s) s
