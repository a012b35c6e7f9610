-- Five words some places up, with every bit below set.
use Prim.Native.Nat.{ℕ, zero, suc, ◌+◌, ◌*◌, ◌^◌, ◌-◌, ◌/◌, ◌%◌, ◌≤◌, ◌<◌}
use mathlib.Core.Path.{◌≡◌, ap, ap₂, sym, ◌∙◌}
use mathlib.Core.List.{List, [], ◌∷◌}
use mathlib.Core.Bool.{Bool, true, ◌||◌, or-false}
use mathlib.Core.Logic.{⊎_elim}
use native.Mathlib.Omega.{arith}
use lib.Dec.{ltb}
use lib.ListN.{get_or}
use lib.Bits.{bit_or}
use borrow.Author.Tests.{lt-ltb, le-ltb}
use Rattle.lists.proofs.Bools.{below?}
use Rattle.states.specs.Records.{bit, at}
use Rattle.states.specs.inner.Words.{word_up, WordsUp, Joined, Filled}
use Rattle.states.proofs.Bits.{bit_mod, bit_or_lem, bit_shl, bit_shl_below, bit_shr, bit_past, bit_ones}
use Rattle.states.proofs.Packing.{half}

-- The high word r places up over the highest r bits of the low one.
pub joined_made : (high low r : ℕ) → r < 64 → low < 2 ^ 64 → Joined high low r (bit_or (high * 2 ^ r % 2 ^ 64) (low / 2 / 2 ^ (63 - r)))
joined_made high low r h f = record {
  upper = λ c g l.
      bit_or_lem (high * 2 ^ r % 2 ^ 64) (low / 2 / 2 ^ (63 - r)) c
      ∙ ap₂ ◌||◌ (bit_mod (high * 2 ^ r) 64 c l ∙ bit_shl high r c g) (down c ∙ bit_past low (suc (63 - r + c)) f (omega arith))
      ∙ or-false (bit high (c - r));
  lower = λ c l.
      let e : suc (63 - r + c) ≡ 64 + c - r = omega arith in
      bit_or_lem (high * 2 ^ r % 2 ^ 64) (low / 2 / 2 ^ (63 - r)) c
      ∙ ap₂ ◌||◌ (bit_mod (high * 2 ^ r) 64 c (omega arith) ∙ bit_shl_below high r c l) (down c ∙ ap (bit low) e);
}
  where
    down : (c : ℕ) → bit (low / 2 / 2 ^ (63 - r)) c ≡ bit low (suc (63 - r + c))
    down c = bit_shr (low / 2) (63 - r) c ∙ half low (63 - r + c)

module _ (w : List ℕ) (q j : ℕ) where
  up_below : j < q → word_up w q j ≡ 18446744073709551615
  unfolding word_up
  up_below h = rw (lt-ltb j q h)

  up_within : q ≤ j → word_up w q j ≡ get_or w (j - q) 0
  unfolding word_up
  up_within h = rw (le-ltb j q h)

  up_full : (c : ℕ) → j < q → c < 64 → bit (word_up w q j) c ≡ true
  up_full c h l = ap (λ (x : ℕ). bit x c) (up_below h) ∙ bit_ones 64 c l

bit_at : (w : List ℕ) (p a b : ℕ) → p / 64 ≡ a → p % 64 ≡ b → bit (get_or w a 0) b ≡ at w p
unfolding at
bit_at w p a b e d = sym (ap₂ (λ (x y : ℕ). bit (get_or w x 0) y) e d)

-- Word j of the words w k places up, with every bit below k.
abbrev FilledWord : List ℕ → ℕ → ℕ → ℕ → Type 0
FilledWord w k j y = (c : ℕ) → c < 64 → bit y c ≡ (ltb (64 * j + c) k || at w (64 * j + c - k))

module _ (w : List ℕ) (k j : ℕ) where
  -- a bit that is set, and one that is a bit of w
  set_below : (c : ℕ) → 64 * j + c < k → true ≡ (ltb (64 * j + c) k || at w (64 * j + c - k))
  set_below c h = sym (ap (λ (b : Bool). b || at w (64 * j + c - k)) (lt-ltb (64 * j + c) k h))

  moved_up : (c a b : ℕ) → k ≤ 64 * j + c → (64 * j + c - k) / 64 ≡ a → (64 * j + c - k) % 64 ≡ b
      → bit (get_or w a 0) b ≡ (ltb (64 * j + c) k || at w (64 * j + c - k))
  moved_up c a b h e d =
      bit_at w (64 * j + c - k) a b e d ∙ sym (ap (λ (x : Bool). x || at w (64 * j + c - k)) (le-ltb (64 * j + c) k h))

  filled_word : (high low y : ℕ) → high ≡ word_up w (k / 64) j → low ≡ word_up w (k / 64 + 1) j → Joined high low (k % 64) y → FilledWord w k j y
  filled_word high low y eh el jo c h = ⊎_elim (lower c) (upper c h) (below? c (k % 64))
    where
      upper : (c : ℕ) → c < 64 → k % 64 ≤ c → bit y c ≡ (ltb (64 * j + c) k || at w (64 * j + c - k))
      upper c h g =
          jo.upper c g h
          ∙ ap (λ (x : ℕ). bit x (c - k % 64)) eh
          ∙ ⊎_elim (λ l. up_full w (k / 64) j (c - k % 64) l (omega arith) ∙ set_below c (omega arith))
          (λ l. ap (λ (x : ℕ). bit x (c - k % 64)) (up_within w (k / 64) j l) ∙ moved_up c (j - k / 64) (c - k % 64) (omega arith) (omega arith) (omega arith))
          (below? j (k / 64))

      lower : (c : ℕ) → c < k % 64 → bit y c ≡ (ltb (64 * j + c) k || at w (64 * j + c - k))
      lower c g =
          jo.lower c g
          ∙ ap (λ (x : ℕ). bit x (64 + c - k % 64)) el
          ∙ ⊎_elim (λ l. up_full w (k / 64 + 1) j (64 + c - k % 64) l (omega arith) ∙ set_below c (omega arith))
          (λ l. ap (λ (x : ℕ). bit x (64 + c - k % 64)) (up_within w (k / 64 + 1) j l) ∙ moved_up c (j - (k / 64 + 1)) (64 + c - k % 64) (omega arith) (omega arith) (omega arith))
          (below? j (k / 64 + 1))

-- The word before word j of words that are q words up.
before_first : (w : List ℕ) (q : ℕ) → 18446744073709551615 ≡ word_up w (q + 1) 0
before_first w q = sym (up_below w (q + 1) 0 (omega arith))

before_next : (w : List ℕ) (q j : ℕ) → word_up w q j ≡ word_up w (q + 1) (suc j)
before_next w q j =
    ⊎_elim (λ h. up_below w q j h ∙ sym (up_below w (q + 1) (suc j) (omega arith)))
    (λ h.
    let e : j - q ≡ suc j - (q + 1) = omega arith in
    up_within w q j h ∙ ap (λ (x : ℕ). get_or w x 0) e ∙ sym (up_within w (q + 1) (suc j) (omega arith)))
    (below? j q)

pub words_up_start : (w : List ℕ) → WordsUp w 0 w
words_up_start w = record { words = λ j h. let e : j ≡ j - 0 = omega arith in ap (λ (x : ℕ). get_or w x 0) e ∙ sym (up_within w 0 j (omega arith)) }

pub words_up_next : (w v : List ℕ) (q : ℕ) → WordsUp w q v
    → WordsUp w (q + 1) (18446744073709551615 ∷ get_or v 0 0 ∷ get_or v 1 0 ∷ get_or v 2 0 ∷ get_or v 3 0 ∷ [])
words_up_next w v q u = record { words = word }
  where
    word : (j : ℕ) → j < 5 → get_or (18446744073709551615 ∷ get_or v 0 0 ∷ get_or v 1 0 ∷ get_or v 2 0 ∷ get_or v 3 0 ∷ []) j 0 ≡ word_up w (q + 1) j
    word zero h = before_first w q
    word (suc zero) h = u.words 0 (omega arith) ∙ before_next w q 0
    word (suc (suc zero)) h = u.words 1 (omega arith) ∙ before_next w q 1
    word (suc (suc (suc zero))) h = u.words 2 (omega arith) ∙ before_next w q 2
    word (suc (suc (suc (suc zero)))) h = u.words 3 (omega arith) ∙ before_next w q 3
    word (suc (suc (suc (suc (suc j))))) h = absurd (omega arith)

pub filled_made : (w v : List ℕ) (k a b c d e : ℕ) → WordsUp w (k / 64) v → Joined (get_or v 0 0) 18446744073709551615 (k % 64) a
    → Joined (get_or v 1 0) (get_or v 0 0) (k % 64) b → Joined (get_or v 2 0) (get_or v 1 0) (k % 64) c → Joined (get_or v 3 0) (get_or v 2 0) (k % 64) d
    → Joined (get_or v 4 0) (get_or v 3 0) (k % 64) e → Filled w k (a ∷ b ∷ c ∷ d ∷ e ∷ [])
unfolding at
filled_made w v k a b c d e u j₀ j₁ j₂ j₃ j₄ = record {
  bits = λ p h.
      let q : 64 * (p / 64) + p % 64 ≡ p = omega arith in
      word (p / 64) (omega arith) (p % 64) (omega arith) ∙ ap (λ (x : ℕ). ltb x k || at w (x - k)) q;
}
  where
    next : (j y : ℕ) → suc j < 5 → Joined (get_or v (suc j) 0) (get_or v j 0) (k % 64) y → FilledWord w k (suc j) y
    next j y h = filled_word w k (suc j) (get_or v (suc j) 0) (get_or v j 0) y (u.words (suc j) h) (u.words j (omega arith) ∙ before_next w (k / 64) j)

    word : (j : ℕ) → j < 5 → FilledWord w k j (get_or (a ∷ b ∷ c ∷ d ∷ e ∷ []) j 0)
    word zero h = filled_word w k 0 (get_or v 0 0) 18446744073709551615 a (u.words 0 h) (before_first w (k / 64)) j₀
    word (suc zero) h = next 0 b h j₁
    word (suc (suc zero)) h = next 1 c h j₂
    word (suc (suc (suc zero))) h = next 2 d h j₃
    word (suc (suc (suc (suc zero)))) h = next 3 e h j₄
    word (suc (suc (suc (suc (suc j))))) h = absurd (omega arith)
