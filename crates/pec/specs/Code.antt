-- Paper 01, 'Replies': the packet error code is CRC-8 with polynomial x^8 + x^2 + x + 1, start 0, most significant bit first.
use Rattle.std.specs.Prelude.{ℕ, zero, suc, ◌*◌, ◌-◌, ◌/◌, ◌%◌, ◌^◌, Bool, cond, List, [], ◌∷◌, ◌++◌, ltb, eqb}
use Rattle.std.specs.Int.Bits.{bit_xor}

-- The polynomial's terms below x^8: x^2 + x + 1.
abbrev pub generator : ℕ
generator = 7

-- The register a place to the left: the bit that leaves it as x^8 comes back as the terms below.
unfoldable pub shifted : ℕ → ℕ
shifted r = cond (ltb r 128) (r * 2) (bit_xor (r * 2 - 256) generator)

-- One bit of the message: it is added to the register's most significant bit, and the register is shifted.
unfoldable pub with_bit : ℕ → Bool → ℕ
with_bit r b = shifted (bit_xor r (cond b 128 0))

-- The register after a run of bits.
unfoldable pub with_bits : ℕ → List Bool → ℕ
with_bits r [] = r
with_bits r (b ∷ bs) = with_bits (with_bit r b) bs

-- The lowest k bits of a number, most significant first.
abbrev pub bits_of : ℕ → ℕ → List Bool
bits_of zero x = []
bits_of (suc k) x = eqb (x / 2 ^ k % 2) 1 ∷ bits_of k x

-- The bits of a message of bytes, in order.
unfoldable pub bits_of_bytes : List ℕ → List Bool
bits_of_bytes [] = []
bits_of_bytes (x ∷ xs) = bits_of 8 x ++ bits_of_bytes xs

-- The packet error code of a message.
unfoldable pub pec_of : List ℕ → ℕ
pec_of xs = with_bits 0 (bits_of_bytes xs)
