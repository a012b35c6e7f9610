-- The holes of a store, as a put leaves them.
use Prim.Native.Nat.{ℕ, zero, suc, ◌+◌, ◌-◌, ◌*◌, ◌≤◌, ◌<◌}
use mathlib.Core.Path.{◌≡◌, sym, ap, ap₂, ◌∙◌}
use mathlib.Core.List.{List, [], ◌∷◌, ◌++◌}
use native.Mathlib.Omega.{arith}
use native.Mathlib.Numerals.{add-one}
use lib.ListN.{length}
use Rattle.bytes_le.specs.Numbers.{u32_at, spaced}
use Rattle.bytes_le.specs.Writing.{bytes_of, put_at}
use Rattle.bytes_le.proofs.Spaced.{same_spaced}
use Rattle.bytes_le.proofs.ByteLists.{length_bytes}
use Rattle.bytes_le.proofs.Copying.{put_then, put_long}
use Rattle.trace.specs.Records.{Hole, hole_at, holes_from}
use Rattle.histories.proofs.PutParts.{u32_before, u32_put, spaced_more}
use Rattle.histories.proofs.LongerPlaces.{after_last, longer}

abbrev hole_from : ℕ → ℕ → Hole
hole_from a b = record { first = a; last = b }

hole_before : (s : List ℕ) (p : ℕ) (bs : List ℕ) → p + length bs ≤ length s → (at : ℕ) → at + 8 ≤ p → hole_at (put_at s p bs) at ≡ hole_at s at
hole_before s p bs fits at h = ap₂ hole_from (u32_before s p bs fits at (omega arith)) (u32_before s p bs fits (at + 4) (omega arith))

-- A put behind them.
pub holes_kept : (s : List ℕ) (p : ℕ) (bs : List ℕ) → p + length bs ≤ length s → (k : ℕ) → 8 * k ≤ p → holes_from (put_at s p bs) k 0 ≡ holes_from s k 0
holes_kept s p bs fits k h =
    same_spaced (hole_at (put_at s p bs)) 8 (hole_at s) (8 * k) (λ x l. hole_before s p bs fits x (omega arith)) k 0 (omega arith)

-- A new hole behind them.
pub hole_new : (s : List ℕ) (k a b : ℕ) → 8 * k + 8 ≤ length s → a < 4294967296 → b < 4294967296
    → holes_from (put_at s (8 * k) (bytes_of 4 a ++ bytes_of 4 b)) (k + 1) 0 ≡ holes_from s k 0 ++ (hole_from a b ∷ [])
hole_new s k a b fits la lb =
    let p : ℕ = 8 * k in
    let x : List ℕ = bytes_of 4 a in
    let y : List ℕ = bytes_of 4 b in
    let one : List ℕ = put_at s p x in
    let two : List ℕ = put_at one (p + 4) y in
    let lx = length_bytes 4 a in
    let ly = length_bytes 4 b in
    let long : length one ≡ length s = put_long s p x in
    let split : put_at s p (x ++ y) ≡ two = sym (put_then s p x y (omega arith)) ∙ ap (λ n. put_at one (p + n) y) lx in
    let at : 0 + k * 8 ≡ p = omega arith in
    let first : u32_at two p ≡ a = u32_before one (p + 4) y (omega arith) p (omega arith) ∙ u32_put s p a (omega arith) la in
    let last : u32_at two (p + 4) ≡ b = u32_put one (p + 4) b (omega arith) lb in
    let before : holes_from two k 0 ≡ holes_from s k 0 = holes_kept one (p + 4) y (omega arith) k (omega arith) ∙ holes_kept s p x (omega arith) k (omega arith) in
    ap (λ l. holes_from l (k + 1) 0) split
    ∙ ap (λ n. holes_from two n 0) (add-one k)
    ∙ spaced_more (hole_at two) 8 k 0
    ∙ ap₂ (λ l h. l ++ (h ∷ [])) before (ap (hole_at two) at ∙ ap₂ hole_from first last)

-- The last hole made longer.
longer_from : (s : List ℕ) (p b : ℕ) → p + 4 ≤ length s → b < 4294967296 → (k at : ℕ) → at + 8 * k + 4 ≡ p
    → spaced (hole_at (put_at s p (bytes_of 4 b))) 8 (suc k) at ≡ longer (spaced (hole_at s) 8 (suc k) at) b
unfolding spaced
longer_from s p b fits lb zero at e =
    let l = length_bytes 4 b in
    let z : at + 4 ≡ p = omega arith in
    ap₂ (λ i j. hole_from i j ∷ []) (u32_before s p (bytes_of 4 b) (omega arith) at (omega arith)) (ap (u32_at (put_at s p (bytes_of 4 b))) z ∙ u32_put s p b fits lb)
longer_from s p b fits lb (suc k) at e =
    let l = length_bytes 4 b in
    ap₂ (λ h hs. h ∷ hs) (hole_before s p (bytes_of 4 b) (omega arith) at (omega arith)) (longer_from s p b fits lb k (at + 8) (omega arith))

pub hole_longer : (s : List ℕ) (k b : ℕ) → 0 < k → 8 * k ≤ length s → b < 4294967296 → holes_from (put_at s (8 * k - 4) (bytes_of 4 b)) k 0 ≡ longer (holes_from s k 0) b
hole_longer s zero b some fits lb = absurd (omega arith)
hole_longer s (suc k) b some fits lb = longer_from s (8 * suc k - 4) b (omega arith) lb k 0 (omega arith)

after_from : (s : List ℕ) (k at : ℕ) → after_last (spaced (hole_at s) 8 (suc k) at) ≡ suc (u32_at s (at + 8 * k + 4))
unfolding spaced
after_from s zero at = let z : at + 4 ≡ at + 8 * 0 + 4 = omega arith in ap (λ p. suc (u32_at s p)) z
after_from s (suc k) at = let z : at + 8 + 8 * k + 4 ≡ at + 8 * suc k + 4 = omega arith in after_from s k (at + 8) ∙ ap (λ p. suc (u32_at s p)) z

pub after_last_lem : (s : List ℕ) (k : ℕ) → 0 < k → after_last (holes_from s k 0) ≡ suc (u32_at s (8 * k - 4))
after_last_lem s zero some = absurd (omega arith)
after_last_lem s (suc k) some = let z : 0 + 8 * k + 4 ≡ 8 * suc k - 4 = omega arith in after_from s k 0 ∙ ap (λ p. suc (u32_at s p)) z
