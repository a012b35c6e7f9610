-- Sets of states and the words that hold them: bit by bit, and that words with the same bits are the same.
use Prim.Native.Nat.{ℕ, zero, suc, ◌+◌, ◌*◌, ◌^◌, ◌/◌, ◌%◌, ◌≤◌, ◌<◌}
use mathlib.Core.Path.{◌≡◌, refl, ap, ap₂, sym, ◌∙◌}
use mathlib.Core.List.{List, [], ◌∷◌}
use mathlib.Core.Bool.{Bool, true, false, cond}
use mathlib.Core.Logic.{⊎_elim}
use native.Mathlib.Omega.{arith}
use native.Mathlib.Nat.{pow-suc, add_comm}
use native.Mathlib.Numerals.{add-one}
use lib.Dec.{eqb}
use lib.ListN.{get_or, length, take, drop, length-take, get_or-eq_default}
use lib.Seq.{get_or-take, get_or-drop, ext_get_or}
use borrow.Author.Tests.{eqb-false}
use Rattle.lists.specs.Lists.{tabulate}
use Rattle.lists.proofs.Bools.{below?, length_tabulate, get_d_tabulate}
use Rattle.fillings.specs.PossibleStates.{has}
use Rattle.states.specs.Records.{bit, at, Fit64, states_of, word_of, words_of}
use Rattle.states.proofs.Bits.{bit_double, bit_zero}

digit : (b : Bool) → cond b 1 0 < 2
digit true = omega arith
digit false = omega arith

digit_bit : (b : Bool) → eqb (cond b 1 0) 1 ≡ b
digit_bit true = refl
digit_bit false = refl

bit_first : (c n : ℕ) → c < 2 → bit (n * 2 + c) 0 ≡ eqb c 1
unfolding bit
bit_first c n h = let e : (n * 2 + c) / 2 ^ 0 % 2 ≡ c = omega arith in ap (λ (x : ℕ). eqb x 1) e

pub bit_word_of : (p : List Bool) (r : ℕ) → bit (word_of p) r ≡ has p r
unfolding word_of
bit_word_of [] r = bit_zero r
bit_word_of (b ∷ p) zero =
    ap (λ (x : ℕ). bit x 0) (add_comm (cond b 1 0) (word_of p * 2)) ∙ bit_first (cond b 1 0) (word_of p) (digit b) ∙ digit_bit b
bit_word_of (b ∷ p) (suc r) =
    ap₂ bit (add_comm (cond b 1 0) (word_of p * 2)) (sym (add-one r)) ∙ bit_double (word_of p) (cond b 1 0) r (digit b) ∙ bit_word_of p r

word_of_fits : (k : ℕ) (p : List Bool) → length p ≤ k → word_of p < 2 ^ k
unfolding word_of
word_of_fits zero [] h = omega arith
word_of_fits zero (b ∷ p) h = absurd (omega arith)
word_of_fits (suc k) [] h = omega (arith, pow-suc 2 k, word_of_fits k [] (omega arith))
word_of_fits (suc k) (b ∷ p) h = omega (arith, pow-suc 2 k, digit b, word_of_fits k p (omega arith))

pub half : (n r : ℕ) → bit (n / 2) r ≡ bit n (suc r)
half n r =
    let e : n / 2 * 2 + n % 2 ≡ n = omega arith in
    sym (bit_double (n / 2) (n % 2) r (omega arith)) ∙ ap₂ bit e (add-one r)

pub parity : (n : ℕ) → bit n 0 ≡ eqb (n % 2) 1
unfolding bit
parity n = let e : n / 2 ^ 0 % 2 ≡ n % 2 = omega arith in ap (λ (x : ℕ). eqb x 1) e

same_digit : (x y : ℕ) → x < 2 → y < 2 → eqb x 1 ≡ eqb y 1 → x ≡ y
same_digit zero zero h g e = refl
same_digit zero (suc zero) h g e = absurd (eqb-false 1 1 (sym e) refl)
same_digit (suc zero) zero h g e = absurd (eqb-false 1 1 e refl)
same_digit (suc zero) (suc zero) h g e = refl
same_digit zero (suc (suc y)) h g e = absurd (omega arith)
same_digit (suc zero) (suc (suc y)) h g e = absurd (omega arith)
same_digit (suc (suc x)) y h g e = absurd (omega arith)

-- Numbers below 2 ^ k with the same bits are the same.
pub same_bits : (k a b : ℕ) → a < 2 ^ k → b < 2 ^ k → ((r : ℕ) → r < k → bit a r ≡ bit b r) → a ≡ b
same_bits zero a b h g e = omega arith
same_bits (suc k) a b h g e =
    let d : a % 2 ≡ b % 2 = same_digit (a % 2) (b % 2) (omega arith) (omega arith) (sym (parity a) ∙ e 0 (omega arith) ∙ parity b) in
    let t : 2 ^ suc k ≡ 2 ^ k * 2 = pow-suc 2 k in
    let q : a / 2 ≡ b / 2 = same_bits k (a / 2) (b / 2) (omega arith) (omega arith) (λ r l. half a r ∙ e (suc r) (omega arith) ∙ sym (half b r)) in
    omega arith

-- Five words with the same bits are the same.
pub same_words : (a b : List ℕ) → length a ≡ 5 → length b ≡ 5 → Fit64 a → Fit64 b → ((p : ℕ) → p < 320 → at a p ≡ at b p) → a ≡ b
unfolding at
same_words a b la lb fa fb e =
    ext_get_or 0 a b (la ∙ sym lb)
    (λ j l. same_bits 64 (get_or a j 0) (get_or b j 0) (fa j) (fb j)
    (λ r h.
    let q : (j * 64 + r) / 64 ≡ j = omega arith in
    let m : (j * 64 + r) % 64 ≡ r = omega arith in
    ap₂ (λ x y. bit (get_or a x 0) y) (sym q) (sym m) ∙ e (j * 64 + r) (omega arith) ∙ ap₂ (λ x y. bit (get_or b x 0) y) q m))

-- The words of a set: as many, as wide, and with the set's bits.
pub words_of_length : (p : List Bool) → length (words_of p) ≡ 5
unfolding words_of
words_of_length p = refl

word_at : (p : List Bool) (j : ℕ) → j < 5 → get_or (words_of p) j 0 ≡ word_of (take 64 (drop (64 * j) p))
unfolding words_of
word_at p zero h = refl
word_at p (suc zero) h = refl
word_at p (suc (suc zero)) h = refl
word_at p (suc (suc (suc zero))) h = refl
word_at p (suc (suc (suc (suc zero)))) h = refl
word_at p (suc (suc (suc (suc (suc j))))) h = absurd (omega arith)

pub words_of_fit : (p : List Bool) → Fit64 (words_of p)
words_of_fit p j =
    ⊎_elim
    (λ h. rw (word_at p j h) (word_of_fits 64 (take 64 (drop (64 * j) p)) (omega (arith, length-take 64 (drop (64 * j) p)))))
    (λ h. rw (get_or-eq_default (words_of p) 0 {n = j} (omega (arith, words_of_length p))) (omega arith))
    (below? j 5)

pub at_words_of : (p : List Bool) (k : ℕ) → k < 320 → at (words_of p) k ≡ has p k
unfolding at
at_words_of p k h =
    let e : 64 * (k / 64) + k % 64 ≡ k = omega arith in
    ap (λ (x : ℕ). bit x (k % 64)) (word_at p (k / 64) (omega arith))
    ∙ bit_word_of (take 64 (drop (64 * (k / 64)) p)) (k % 64)
    ∙ get_or-take 64 (drop (64 * (k / 64)) p) (k % 64) false (omega arith)
    ∙ get_or-drop (64 * (k / 64)) p (k % 64) false
    ∙ ap (has p) e

-- The set that a set's words hold is the set.
pub states_words : (p : List Bool) (m : ℕ) → length p ≡ suc m → m < 320 → states_of (words_of p) m ≡ p
unfolding states_of
states_words p m l h =
    ext_get_or false (tabulate (suc m) (at (words_of p))) p (length_tabulate (suc m) (at (words_of p)) ∙ sym l)
    (λ s g.
    let g' : s < suc m = omega (arith, length_tabulate (suc m) (at (words_of p))) in
    get_d_tabulate (suc m) (at (words_of p)) false s g' ∙ at_words_of p s (omega arith))

-- Sets with the same states have the same words.
pub same_sets : (p q : List Bool) → ((s : ℕ) → has p s ≡ has q s) → words_of p ≡ words_of q
same_sets p q e =
    same_words (words_of p) (words_of q) (words_of_length p) (words_of_length q) (words_of_fit p) (words_of_fit q)
    (λ k h. at_words_of p k h ∙ e k ∙ sym (at_words_of q k h))
