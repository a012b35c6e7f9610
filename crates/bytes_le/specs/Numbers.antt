-- Paper 01, 'The trace': little-endian numbers in a list of bytes, signed ones in two's complement. Past the end a byte reads 0.
use Rattle.std.specs.Prelude.{ℕ, zero, suc, ◌+◌, ◌*◌, List, [], ◌∷◌, get_or, ℤ}
use Rattle.std.specs.Int.{w16, w32}
use Rattle.std.proofs.Common.{to_z}

-- The u16 whose low byte is at a place.
abbrev pub u16_at : List ℕ → ℕ → ℕ
u16_at s at = get_or s at 0 + get_or s (at + 1) 0 * 256

-- The u32 whose lowest byte is at a place.
abbrev pub u32_at : List ℕ → ℕ → ℕ
u32_at s at = u16_at s at + u16_at s (at + 2) * 65536

-- The u64 whose lowest byte is at a place.
abbrev pub u64_at : List ℕ → ℕ → ℕ
u64_at s at = u32_at s at + u32_at s (at + 4) * 4294967296

-- The i16 whose low byte is at a place.
abbrev pub i16_at : List ℕ → ℕ → ℤ
i16_at s at = to_z w16 (u16_at s at)

-- The i32 whose lowest byte is at a place.
abbrev pub i32_at : List ℕ → ℕ → ℤ
i32_at s at = to_z w32 (u32_at s at)

-- k of something, the first at the byte `at`, each a width after the one before.
unfoldable pub spaced : {A : Type 0} → (ℕ → A) → ℕ → ℕ → ℕ → List A
spaced f w zero at = []
spaced f w (suc k) at = f at ∷ spaced f w k (at + w)
