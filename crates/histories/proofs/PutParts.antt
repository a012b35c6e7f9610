-- What is read of a list into which bytes were put.
use Prim.Native.Nat.{ℕ, zero, suc, ◌+◌, ◌-◌, ◌*◌, ◌≤◌, ◌<◌}
use mathlib.Core.Path.{◌≡◌, refl, sym, ap, ◌∙◌}
use mathlib.Core.List.{List, [], ◌∷◌, ◌++◌, append_assoc}
use native.Mathlib.Omega.{arith}
use native.Mathlib.Nat.{add-zero, suc-mul}
use lib.ListN.{length, take, drop, length-append, length-drop, take-append-drop}
use lib.Seq.{length-take-le, take_at, drop_at, drop-append-add, drop-drop}
use borrow.Author.Tests.{le-leb}
use Rattle.bytes_le.specs.Numbers.{u32_at, spaced}
use Rattle.bytes_le.specs.Writing.{bytes_of, put_at}
use Rattle.bytes_le.proofs.ByteLists.{u32_behind, u32_written, u32_first, bytes_first}
use Rattle.bytes_le.proofs.Copying.{put_long}

module _ (s : List ℕ) (p : ℕ) (bs : List ℕ) (fits : p + length bs ≤ length s) where
  put_is : put_at s p bs ≡ take p s ++ bs ++ drop (p + length bs) s
  unfolding put_at
  put_is = rw (le-leb (p + length bs) (length s) fits) refl

  front : length (take p s) ≡ p
  front = length-take-le p s (omega arith)

  -- A part before them, one behind them, and they themselves.
  pub part_before : (at w : ℕ) → at + w ≤ p → take w (drop at (put_at s p bs)) ≡ take w (drop at s)
  part_before at w h =
      let f = front in
      let rest : List ℕ = bs ++ drop (p + length bs) s in
      ap (λ l. take w (drop at l)) (put_is ∙ append_assoc (take p s) bs (drop (p + length bs) s))
      ∙ bytes_first (take p s) rest at w (omega arith)
      ∙ sym (bytes_first (take p s) (drop p s) at w (omega arith))
      ∙ ap (λ l. take w (drop at l)) (take-append-drop p s)

  pub part_behind : (at : ℕ) → p + length bs ≤ at → drop at (put_at s p bs) ≡ drop at s
  part_behind at h =
      let f = front in
      let xs : List ℕ = take p s ++ bs in
      let l : length xs ≡ p + length bs = omega (arith, length-append (take p s) bs) in
      let e : at ≡ length xs + (at - (p + length bs)) = omega arith in
      let g : p + length bs + (at - (p + length bs)) ≡ at = omega arith in
      ap (drop at) put_is
      ∙ ap (λ k. drop k (xs ++ drop (p + length bs) s)) e
      ∙ drop-append-add xs (drop (p + length bs) s) (at - (p + length bs))
      ∙ drop-drop (at - (p + length bs)) (p + length bs) s
      ∙ ap (λ k. drop k s) g

  pub part_put : take (length bs) (drop p (put_at s p bs)) ≡ bs
  part_put =
      ap (λ l. take (length bs) (drop p l)) (put_is ∙ append_assoc (take p s) bs (drop (p + length bs) s))
      ∙ ap (take (length bs)) (drop_at (take p s) (bs ++ drop (p + length bs) s) p front)
      ∙ take_at bs (drop (p + length bs) s) (length bs) refl

-- A u32 is read from its four bytes.
u32_part : (s : List ℕ) (at : ℕ) → at + 4 ≤ length s → u32_at s at ≡ u32_at (take 4 (drop at s)) 0
u32_part s at h =
    let l : List ℕ = drop at s in
    let long : length (take 4 l) ≡ 4 = length-take-le 4 l (omega (arith, length-drop at s)) in
    ap (u32_at s) (sym (add-zero at))
    ∙ u32_behind s l at 0 refl
    ∙ ap (λ k. u32_at k 0) (sym (take-append-drop 4 l))
    ∙ u32_first (take 4 l) (drop 4 l) 0 (omega arith)

pub u32_before : (s : List ℕ) (p : ℕ) (bs : List ℕ) → p + length bs ≤ length s → (at : ℕ) → at + 4 ≤ p → u32_at (put_at s p bs) at ≡ u32_at s at
u32_before s p bs fits at h =
    u32_part (put_at s p bs) at (omega (arith, put_long s p bs))
    ∙ ap (λ l. u32_at l 0) (part_before s p bs fits at 4 h)
    ∙ sym (u32_part s at (omega arith))

pub u32_put : (s : List ℕ) (p v : ℕ) → p + 4 ≤ length s → v < 4294967296 → u32_at (put_at s p (bytes_of 4 v)) p ≡ v
unfolding put_at bytes_of
u32_put s p v fits small =
    rw (le-leb (p + 4) (length s) fits) (u32_written (take p s) (drop (p + 4) s) p v (length-take-le p s (omega arith)) small)

-- One more at equal distances.
pub spaced_more : {A : Type 0} (f : ℕ → A) (w k at : ℕ) → spaced f w (suc k) at ≡ spaced f w k at ++ (f (at + k * w) ∷ [])
unfolding spaced
spaced_more f w zero at = let e : at ≡ at + 0 * w = omega arith in ap (λ a. f a ∷ []) e
spaced_more f w (suc k) at =
    let m = suc-mul k w in
    let e : at + w + k * w ≡ at + suc k * w = omega arith in
    ap (λ l. f at ∷ l) (spaced_more f w k (at + w) ∙ ap (λ a. spaced f w k (at + w) ++ (f a ∷ [])) e)
