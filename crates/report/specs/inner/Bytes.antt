-- Bytes put into a buffer.
use Rattle.std.specs.Prelude.{ℕ, List, ◌++◌, ◌≡◌, length, take}

-- The bytes bs, put into s from place a to place b, leave t: up to b it is what s was up to a and then bs, and it is as long.
pub record Put (s t : List ℕ) (a b : ℕ) (bs : List ℕ) : Type 0 where
  pub holds : take b t ≡ take a s ++ bs
  pub long : length t ≡ length s
