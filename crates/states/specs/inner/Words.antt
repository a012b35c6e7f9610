-- What the inner functions on five words do, bit by bit.
use Rattle.std.specs.Prelude.{ℕ, ◌+◌, ◌-◌, ◌/◌, ◌%◌, ◌^◌, ◌≤◌, ◌<◌, ◌≡◌, Bool, false, cond, ◌&&◌, ◌||◌, List, ltb, eqb, get_or}
use Rattle.std.specs.Int.Bits.{bit_or}
use Rattle.states.specs.Records.{bit, at}

-- Word j without the bits from t on.
unfoldable pub below_word : ℕ → ℕ → ℕ → ℕ
below_word t j x = cond (ltb j (t / 64)) x (cond (eqb j (t / 64)) (x % 2 ^ (t % 64)) 0)

-- The words w without the bits from t on.
pub record Below (w : List ℕ) (t : ℕ) (r : List ℕ) : Type 0 where
  pub bits : (p : ℕ) → p < 320 → at r p ≡ (ltb p t && at w p)

-- The words w a place up, without the highest bit.
pub record Up (w r : List ℕ) : Type 0 where
  pub first : at r 0 ≡ false
  pub next : (p : ℕ) → p + 1 < 320 → at r (p + 1) ≡ at w p

-- The words w a place up, or no bit where `on` says no.
pub record Raised (w : List ℕ) (on : Bool) (r : List ℕ) : Type 0 where
  pub first : at r 0 ≡ false
  pub next : (p : ℕ) → p + 1 < 320 → at r (p + 1) ≡ (on && at w p)

-- Word j with bit p set, if `on` says so.
unfoldable pub with_word : ℕ → Bool → ℕ → ℕ → ℕ
with_word p on j x = cond (on && eqb j (p / 64)) (bit_or x (2 ^ (p % 64))) x

-- The words w, with bit p set if `on` says so.
pub record With (w : List ℕ) (p : ℕ) (on : Bool) (r : List ℕ) : Type 0 where
  pub bits : (q : ℕ) → q < 320 → at r q ≡ (at w q || on && eqb q p)

-- The words w without bit 0.
pub record Alerting (w r : List ℕ) : Type 0 where
  pub first : at r 0 ≡ false
  pub next : (p : ℕ) → p + 1 < 320 → at r (p + 1) ≡ at w (p + 1)

-- Word j of the words w moved q words up, with full words below.
unfoldable pub word_up : List ℕ → ℕ → ℕ → ℕ
word_up w q j = cond (ltb j q) 18446744073709551615 (get_or w (j - q) 0)

-- The words w moved q words up, with full words below.
pub record WordsUp (w : List ℕ) (q : ℕ) (r : List ℕ) : Type 0 where
  pub words : (j : ℕ) → j < 5 → get_or r j 0 ≡ word_up w q j

-- A word r places up, with the highest r bits of another below.
pub record Joined (high low r y : ℕ) : Type 0 where
  pub upper : (c : ℕ) → r ≤ c → c < 64 → bit y c ≡ bit high (c - r)
  pub lower : (c : ℕ) → c < r → bit y c ≡ bit low (64 + c - r)

-- The words w k places up, with every bit below k.
pub record Filled (w : List ℕ) (k : ℕ) (r : List ℕ) : Type 0 where
  pub bits : (p : ℕ) → p < 320 → at r p ≡ (ltb p k || at w (p - k))
