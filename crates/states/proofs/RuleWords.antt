-- The words of one rule within the record: read, stored, and what a record holds at each place.
use Prim.Native.Nat.{ℕ, ◌+◌, ◌*◌, ◌/◌, ◌%◌, ◌≤◌, ◌<◌}
use mathlib.Core.Path.{◌≡◌, ap, sym, ◌∙◌}
use mathlib.Core.List.{List}
use mathlib.Core.Bool.{Bool, cond}
use mathlib.Core.Logic.{◌⊎◌, inl, inr, ⊎_elim}
use native.Mathlib.Omega.{arith}
use lib.Dec.{eqb}
use lib.ListN.{get_or, length, take, drop, length-take, length-drop}
use lib.Seq.{get_or-take, get_or-drop, ext_get_or}
use borrow.Author.Tests.{eq-eqb, ne_eqb}
use borrow.Rule.Slice.PartMut.{put_mid, same_len_mid}
use Rattle.std.proofs.lemmas.List.{places}
use Rattle.lists.proofs.Bools.{below?, equal?, length_tabulate, get_d_tabulate}
use Rattle.states.specs.Records.{record_with}

pub part : (ws : List ℕ) (k j : ℕ) → j < 5 → get_or (take 5 (drop k ws)) j 0 ≡ get_or ws (k + j) 0
part ws k j h = get_or-take 5 (drop k ws) j 0 h ∙ get_or-drop k ws j 0

pub part_length : (ws : List ℕ) (k : ℕ) → k + 5 ≤ length ws → length (take 5 (drop k ws)) ≡ 5
part_length ws k h = simp (length-take, length-drop) (omega arith)

-- What a record with new words holds at each place.
pub record_length : (c : ℕ → Bool) (new : ℕ → List ℕ) (ws : List ℕ) → length (record_with c new ws) ≡ 80
unfolding record_with
record_length c new ws = length_tabulate 80 (λ k. cond (c (k / 5)) (get_or (new (k / 5)) (k % 5) 0) (get_or ws k 0))

pub record_at_lem : (c : ℕ → Bool) (new : ℕ → List ℕ) (ws : List ℕ) (k : ℕ) → k < 80
    → get_or (record_with c new ws) k 0 ≡ cond (c (k / 5)) (get_or (new (k / 5)) (k % 5) 0) (get_or ws k 0)
unfolding record_with
record_at_lem c new ws k h = get_d_tabulate 80 (λ k. cond (c (k / 5)) (get_or (new (k / 5)) (k % 5) 0) (get_or ws k 0)) 0 k h

-- The record after the words of rule i have been written over.
module _ (ws w : List ℕ) (l : length ws ≡ 80) (n : length w ≡ 5) where
  stored_in : (a m j : ℕ) → m ≡ 5 → a + m ≤ 80 → j < m → get_or (put_mid a m ws w) (a + j) 0 ≡ get_or w j 0
  stored_in a m j e h g = grind (arith, places)

  stored_out : (a m k : ℕ) → m ≡ 5 → a + m ≤ 80 → (k < a) ⊎ (a + m ≤ k) → get_or (put_mid a m ws w) k 0 ≡ get_or ws k 0
  stored_out a m k e h (inl g) = grind (arith, places)
  stored_out a m k e h (inr g) = grind (arith, places)

  pub stored : (i m : ℕ) → i < 16 → m ≡ 5 → put_mid (5 * i) m ws w ≡ record_with (λ j. eqb j i) (λ j. w) ws
  stored i m h e =
      ext_get_or 0 (put_mid (5 * i) m ws w) (record_with (λ j. eqb j i) (λ j. w) ws) (long ∙ sym (record_length (λ j. eqb j i) (λ j. w) ws))
      (λ k g.
      let g' : k < 80 = omega (arith, long) in
      ⊎_elim
      (λ d.
      let q : 5 * i + k % 5 ≡ k = omega arith in
      ap (λ (x : ℕ). get_or (put_mid (5 * i) m ws w) x 0) (sym q)
      ∙ stored_in (5 * i) m (k % 5) e (omega arith) (omega arith)
      ∙ sym (record_at_lem (λ j. eqb j i) (λ j. w) ws k g' ∙ ap (λ (b : Bool). cond b (get_or w (k % 5) 0) (get_or ws k 0)) (eq-eqb (k / 5) i d)))
      (λ d.
      stored_out (5 * i) m k e (omega arith) (away k d)
      ∙ sym (record_at_lem (λ j. eqb j i) (λ j. w) ws k g' ∙ ap (λ (b : Bool). cond b (get_or w (k % 5) 0) (get_or ws k 0)) (ne_eqb (k / 5) i d)))
      (equal? (k / 5) i))
    where
      long : length (put_mid (5 * i) m ws w) ≡ 80
      long = same_len_mid (5 * i) m ws w (n ∙ sym (ap (λ (x : ℕ). length (take x (drop (5 * i) ws))) e ∙ part_length ws (5 * i) (omega arith))) ∙ l

      away : (k : ℕ) → (k / 5 ≡ i → ⊥) → (k < 5 * i) ⊎ (5 * i + m ≤ k)
      away k d = ⊎_elim (λ g. inl g) (λ g. inr (⊎_elim (λ f. absurd (d (omega arith))) (λ f. f) (below? k (5 * i + m)))) (below? k (5 * i))

-- A record in which one rule has the words that it had.
pub same_rule : (ws v : List ℕ) (i : ℕ) → length ws ≡ 80 → v ≡ take 5 (drop (5 * i) ws) → record_with (λ j. eqb j i) (λ j. v) ws ≡ ws
same_rule ws v i l e =
    ext_get_or 0 (record_with (λ j. eqb j i) (λ j. v) ws) ws (record_length (λ j. eqb j i) (λ j. v) ws ∙ sym l)
    (λ k g.
    record_at_lem (λ j. eqb j i) (λ j. v) ws k (omega (arith, record_length (λ j. eqb j i) (λ j. v) ws))
    ∙ ⊎_elim
    (λ d.
    let q : 5 * i + k % 5 ≡ k = omega arith in
    ap (λ (b : Bool). cond b (get_or v (k % 5) 0) (get_or ws k 0)) (eq-eqb (k / 5) i d)
    ∙ ap (λ (x : List ℕ). get_or x (k % 5) 0) e
    ∙ part ws (5 * i) (k % 5) (omega arith)
    ∙ ap (λ (x : ℕ). get_or ws x 0) q)
    (λ n. ap (λ (b : Bool). cond b (get_or v (k % 5) 0) (get_or ws k 0)) (ne_eqb (k / 5) i n))
    (equal? (k / 5) i))
