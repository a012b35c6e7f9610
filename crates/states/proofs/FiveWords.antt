-- From words to bits: five words a place up, cut off at a bit, and with a bit set.
use Prim.Native.Nat.{ℕ, zero, suc, ◌+◌, ◌*◌, ◌^◌, ◌/◌, ◌%◌, ◌≤◌, ◌<◌}
use mathlib.Core.Path.{◌≡◌, refl, ap, ap₂, sym, ◌∙◌, subst}
use mathlib.Core.List.{List, [], ◌∷◌}
use mathlib.Core.Bool.{Bool, true, false, not, cond, ◌&&◌, ◌||◌, and-true, or-false}
use mathlib.Core.Logic.{⊎_elim}
use native.Mathlib.Omega.{arith}
use native.Mathlib.Nat.{eq-or-lt_of_le}
use native.Mathlib.Numerals.{add-one}
use lib.ListN.{get_or, length, set, replicate}
use lib.Dec.{T, ltb, eqb}
use borrow.Author.Tests.{lt-ltb, le-ltb, eq-eqb, ne_eqb, eqb-true, eqb-false}
use lib.Seq.{get_or-set_same, get_or-set_other, ext_get_or}
use lib.Bits.{bit_or}
use Rattle.std.specs.Prelude.{nat_eq}
use Rattle.std.specs.Cmp.Lexicographic.{pointwise, same_text, other_text}
use Rattle.lists.specs.Lists.{some_below}
use Rattle.lists.proofs.Bools.{is_true, refuted, below?, equal?, some_intro, some_elim}
use Rattle.lists.proofs.Laying.{Laying, laying_start, laying_next}
use Rattle.states.specs.Records.{bit, at, Fit64}
use Rattle.states.specs.inner.Words.{below_word, Below, Up, Raised, With, with_word}
use Rattle.states.proofs.Bits.{bit_mod, bit_mod_above, bit_up, bit_up_first, bit_or_lem, bit_pow_same, bit_pow_other, bit_some, bit_zero}
use Rattle.states.proofs.Packing.{same_words}

-- The words below i are changed by a function of their place; the others are as they came.
pub record Changed (f : ℕ → ℕ → ℕ) (w₀ w : List ℕ) (i : ℕ) : Type 0 where
  pub laid : Laying 0 5 (λ j. f j (get_or w₀ j 0)) w i
  pub rest : (j : ℕ) → i ≤ j → get_or w j 0 ≡ get_or w₀ j 0

module _ (f : ℕ → ℕ → ℕ) (w₀ : List ℕ) where
  pub changed_start : length w₀ ≡ 5 → Changed f w₀ w₀ 0
  changed_start l = record { laid = laying_start 0 5 _ w₀ l; rest = λ j h. refl }

  pub changed_next : (w : List ℕ) (i x : ℕ) → i < 5 → Changed f w₀ w i → x ≡ f i (get_or w i 0) → Changed f w₀ (set w i x) (i + 1)
  changed_next w i x h c e = record {
    laid = laying_next 0 5 _ x c.laid h (e ∙ ap (f i) (c.rest i (omega arith)));
    rest = λ j l. get_or-set_other w i j x 0 (λ d. omega arith) ∙ c.rest j (omega arith);
  }

  pub changed_end : (w : List ℕ) (i : ℕ) → 5 ≤ i → Changed f w₀ w i → (j : ℕ) → j < 5 → get_or w j 0 ≡ f j (get_or w₀ j 0)
  changed_end w i h c j l = c.laid.done j (omega arith)

-- word j of the words w, which is x, a place up
abbrev pub up_word : List ℕ → ℕ → ℕ → ℕ
up_word w j x = x % 2 ^ 63 * 2 + get_or (0 ∷ w) j 0 / 2 ^ 63

up_of : (w r : List ℕ) → ((j : ℕ) → get_or w j 0 < 2 ^ 64) → ((j : ℕ) → j < 5 → get_or r j 0 ≡ up_word w j (get_or w j 0)) → Up w r
unfolding at
up_of w r f e = record {
  first = ap (λ (x : ℕ). bit x 0) (e 0 (omega arith)) ∙ bit_up_first (get_or w 0 0) 0 (omega arith) ∙ bit_zero 63;
  next = next;
}
  where
    next : (p : ℕ) → p + 1 < 320 → at r (p + 1) ≡ at w p
    next p h =
        ⊎_elim
        (λ l.
        let d : (p + 1) / 64 ≡ p / 64 = omega arith in
        let m : (p + 1) % 64 ≡ p % 64 + 1 = omega arith in
        ap (λ (x : ℕ). bit (get_or r x 0) ((p + 1) % 64)) d ∙ ap (bit (get_or r (p / 64) 0)) m ∙ ap (λ (x : ℕ). bit x (p % 64 + 1)) (e (p / 64) (omega arith)) ∙ bit_up (get_or w (p / 64) 0) (get_or (0 ∷ w) (p / 64) 0 / 2 ^ 63) (p % 64) (carry (p / 64)) l)
        (λ l.
        let d : (p + 1) / 64 ≡ suc (p / 64) = omega arith in
        let m : (p + 1) % 64 ≡ 0 = omega arith in
        let n : 63 ≡ p % 64 = omega arith in
        ap (λ (x : ℕ). bit (get_or r x 0) ((p + 1) % 64)) d ∙ ap (bit (get_or r (suc (p / 64)) 0)) m ∙ ap (λ (x : ℕ). bit x 0) (e (suc (p / 64)) (omega arith)) ∙ bit_up_first (get_or w (suc (p / 64)) 0) (get_or w (p / 64) 0) (f (p / 64)) ∙ ap (bit (get_or w (p / 64) 0)) n)
        (below? (p % 64) 63)
      where
        carry : (j : ℕ) → get_or (0 ∷ w) j 0 / 2 ^ 63 < 2
        carry zero = omega arith
        carry (suc j) = omega (arith, f j)

-- the words w₀, of which those below i have been moved a place up: c is what word i - 1 hands on
pub record UpTo (w₀ w : List ℕ) (i c : ℕ) : Type 0 where
  pub changed : Changed (up_word w₀) w₀ w i
  pub small : c < 2
  pub carry : c ≡ get_or (0 ∷ w₀) i 0 / 2 ^ 63

pub up_start : (w : List ℕ) → length w ≡ 5 → UpTo w w 0 0
up_start w l = record { changed = changed_start (up_word w) w l; small = omega arith; carry = refl }

pub up_more : (w₀ w : List ℕ) (i c : ℕ) → ((j : ℕ) → get_or w₀ j 0 < 2 ^ 64) → i < 5 → UpTo w₀ w i c
    → UpTo w₀ (set w i (get_or w i 0 % 2 ^ 63 * 2 + c)) (i + 1) (get_or w i 0 / 2 ^ 63)
up_more w₀ w i c f h u = record {
  changed = changed_next (up_word w₀) w₀ w i _ h u.changed (ap (λ (x : ℕ). get_or w i 0 % 2 ^ 63 * 2 + x) u.carry);
  small = omega (arith, f i, u.changed.rest i (omega arith));
  carry = ap (λ (x : ℕ). x / 2 ^ 63) (u.changed.rest i (omega arith)) ∙ ap (λ (x : ℕ). get_or (0 ∷ w₀) x 0 / 2 ^ 63) (sym (add-one i));
}

pub up_end : (w₀ w : List ℕ) (i c : ℕ) → ((j : ℕ) → get_or w₀ j 0 < 2 ^ 64) → 5 ≤ i → UpTo w₀ w i c → Up w₀ w
up_end w₀ w i c f h u = up_of w₀ w f (changed_end (up_word w₀) w₀ w i h u.changed)

-- The bits of words without those from t on.
pub below_bits : (w r : List ℕ) (t : ℕ) → ((j : ℕ) → j < 5 → get_or r j 0 ≡ below_word t j (get_or w j 0)) → Below w t r
unfolding at below_word
below_bits w r t e = record { bits = λ p h. ap (λ (x : ℕ). bit x (p % 64)) (e (p / 64) (omega arith)) ∙ ⊎_elim (lower p) (λ g. ⊎_elim (λ d. within p (sym d)) (higher p) (eq-or-lt_of_le g)) (below? (p / 64) (t / 64)) }
  where
    word : (p : ℕ) (a b : Bool) → ltb (p / 64) (t / 64) ≡ a → eqb (p / 64) (t / 64) ≡ b
        → bit (cond (ltb (p / 64) (t / 64)) (get_or w (p / 64) 0) (cond (eqb (p / 64) (t / 64)) (get_or w (p / 64) 0 % 2 ^ (t % 64)) 0)) (p % 64)
        ≡ bit (cond a (get_or w (p / 64) 0) (cond b (get_or w (p / 64) 0 % 2 ^ (t % 64)) 0)) (p % 64)
    word p a b d g = ap₂ (λ (x y : Bool). bit (cond x (get_or w (p / 64) 0) (cond y (get_or w (p / 64) 0 % 2 ^ (t % 64)) 0)) (p % 64)) d g

    lower : (p : ℕ) → p / 64 < t / 64
        → bit (cond (ltb (p / 64) (t / 64)) (get_or w (p / 64) 0) (cond (eqb (p / 64) (t / 64)) (get_or w (p / 64) 0 % 2 ^ (t % 64)) 0)) (p % 64) ≡ (ltb p t && bit (get_or w (p / 64) 0) (p % 64))
    lower p l =
        word p true (eqb (p / 64) (t / 64)) (lt-ltb (p / 64) (t / 64) l) refl
        ∙ sym (ap (λ (b : Bool). b && bit (get_or w (p / 64) 0) (p % 64)) (lt-ltb p t (omega arith)))

    higher : (p : ℕ) → t / 64 < p / 64
        → bit (cond (ltb (p / 64) (t / 64)) (get_or w (p / 64) 0) (cond (eqb (p / 64) (t / 64)) (get_or w (p / 64) 0 % 2 ^ (t % 64)) 0)) (p % 64) ≡ (ltb p t && bit (get_or w (p / 64) 0) (p % 64))
    higher p l =
        word p false false (le-ltb (p / 64) (t / 64) (omega arith)) (ne_eqb (p / 64) (t / 64) (λ d. omega arith))
        ∙ bit_zero (p % 64)
        ∙ sym (ap (λ (b : Bool). b && bit (get_or w (p / 64) 0) (p % 64)) (le-ltb p t (omega arith)))

    within : (p : ℕ) → p / 64 ≡ t / 64
        → bit (cond (ltb (p / 64) (t / 64)) (get_or w (p / 64) 0) (cond (eqb (p / 64) (t / 64)) (get_or w (p / 64) 0 % 2 ^ (t % 64)) 0)) (p % 64) ≡ (ltb p t && bit (get_or w (p / 64) 0) (p % 64))
    within p d =
        word p false true (le-ltb (p / 64) (t / 64) (omega arith)) (eq-eqb (p / 64) (t / 64) d)
        ∙ ⊎_elim
        (λ l. bit_mod (get_or w (p / 64) 0) (t % 64) (p % 64) l ∙ sym (ap (λ (b : Bool). b && bit (get_or w (p / 64) 0) (p % 64)) (lt-ltb p t (omega arith))))
        (λ l. bit_mod_above (get_or w (p / 64) 0) (t % 64) (p % 64) l ∙ sym (ap (λ (b : Bool). b && bit (get_or w (p / 64) 0) (p % 64)) (le-ltb p t (omega arith))))
        (below? (p % 64) (t % 64))

-- The bits of words with bit p set, if `on` says so.
pub with_bits_lem : (w r : List ℕ) (p : ℕ) (on : Bool) → ((j : ℕ) → j < 5 → get_or r j 0 ≡ with_word p on j (get_or w j 0)) → With w p on r
unfolding at with_word
with_bits_lem w r p on e = record { bits = λ q h. ap (λ (x : ℕ). bit x (q % 64)) (e (q / 64) (omega arith)) ∙ set q on (eqb (q / 64) (p / 64)) refl }
  where
    set : (q : ℕ) (a b : Bool) → eqb (q / 64) (p / 64) ≡ b
        → bit (cond (a && eqb (q / 64) (p / 64)) (bit_or (get_or w (q / 64) 0) (2 ^ (p % 64))) (get_or w (q / 64) 0)) (q % 64) ≡ (bit (get_or w (q / 64) 0) (q % 64) || a && eqb q p)
    set q false b d = sym (or-false (bit (get_or w (q / 64) 0) (q % 64)))
    set q true false d =
        ap (λ (x : Bool). bit (cond x (bit_or (get_or w (q / 64) 0) (2 ^ (p % 64))) (get_or w (q / 64) 0)) (q % 64)) d
        ∙ sym (ap (λ (x : Bool). bit (get_or w (q / 64) 0) (q % 64) || x) (ne_eqb q p (λ g. eqb-false (q / 64) (p / 64) d (ap (λ (x : ℕ). x / 64) g))) ∙ or-false (bit (get_or w (q / 64) 0) (q % 64)))
    set q true true d =
        ap (λ (x : Bool). bit (cond x (bit_or (get_or w (q / 64) 0) (2 ^ (p % 64))) (get_or w (q / 64) 0)) (q % 64)) d
        ∙ bit_or_lem (get_or w (q / 64) 0) (2 ^ (p % 64)) (q % 64)
        ∙ ap (λ (x : Bool). bit (get_or w (q / 64) 0) (q % 64) || x) (⊎_elim (same q (eqb-true (q / 64) (p / 64) d)) (other q (eqb-true (q / 64) (p / 64) d)) (equal? (q % 64) (p % 64)))
      where
        same : (q : ℕ) → q / 64 ≡ p / 64 → q % 64 ≡ p % 64 → bit (2 ^ (p % 64)) (q % 64) ≡ eqb q p
        same q g h = let e : q ≡ p = omega arith in ap (bit (2 ^ (p % 64))) h ∙ bit_pow_same (p % 64) ∙ sym (eq-eqb q p e)

        other : (q : ℕ) → q / 64 ≡ p / 64 → (q % 64 ≡ p % 64 → ⊥) → bit (2 ^ (p % 64)) (q % 64) ≡ eqb q p
        other q g n = bit_pow_other (p % 64) (q % 64) n ∙ sym (ne_eqb q p (λ h. n (ap (λ (x : ℕ). x % 64) h)))

zeros : (n j : ℕ) → get_or {A = ℕ} (replicate n 0) j 0 ≡ 0
zeros zero j = refl
zeros (suc n) zero = refl
zeros (suc n) (suc j) = zeros n j

-- Words that are all 0 have no bit; a word that is not has one.
pub some_none : (w : List ℕ) → ((j : ℕ) → j < 5 → get_or w j 0 ≡ 0) → false ≡ some_below 320 (at w)
unfolding at
some_none w z =
    sym
    (refuted (some_below 320 (at w)) (λ t.
    let q = some_elim 320 (at w) t in
    let h : q.0 < 320 = q.1 in
    let e : at w q.0 ≡ false = ap (λ (x : ℕ). bit x (q.0 % 64)) (z (q.0 / 64) (omega arith)) ∙ bit_zero (q.0 % 64) in
    subst T e q.2))

pub some_word : (w : List ℕ) (i : ℕ) → i < 5 → get_or w i 0 < 2 ^ 64 → (get_or w i 0 ≡ 0 → ⊥) → true ≡ some_below 320 (at w)
unfolding at
some_word w i h f n =
    let b : (r : ℕ) × ((r < 64) × (bit (get_or w i 0) r ≡ true)) = bit_some 64 (get_or w i 0) (omega arith) f in
    let r : ℕ = b.0 in
    let l : r < 64 = b.1.0 in
    let q : (i * 64 + r) / 64 ≡ i = omega arith in
    let m : (i * 64 + r) % 64 ≡ r = omega arith in
    let e : at w (i * 64 + r) ≡ true = ap (λ (x : ℕ). bit (get_or w x 0) ((i * 64 + r) % 64)) q ∙ ap (bit (get_or w i 0)) m ∙ b.1.1 in
    sym (is_true (some_below 320 (at w)) (some_intro 320 (at w) (i * 64 + r) (omega arith) (subst T (sym e) tt)))

pub raised_up : {w r : List ℕ} → Up w r → Raised w true r
raised_up u = record { first = u.first; next = u.next }

-- The words 0 have no bit.
pub at_none : (p : ℕ) → at (replicate 5 0) p ≡ false
unfolding at
at_none p = ap (λ (x : ℕ). bit x (p % 64)) (zeros 5 (p / 64)) ∙ bit_zero (p % 64)

pub raised_none : {w : List ℕ} → Raised w false (replicate 5 0)
raised_none = record { first = at_none 0; next = λ p h. at_none (p + 1) }

-- Words that are not all 0 have a bit.
some_bit : (w : List ℕ) → length w ≡ 5 → Fit64 w → (w ≡ replicate 5 0 → ⊥) → true ≡ some_below 320 (at w)
some_bit w l f n = go (some_below 320 (at w)) refl
  where
    none : some_below 320 (at w) ≡ false → (p : ℕ) → p < 320 → at w p ≡ false
    none d p h = refuted (at w p) (λ t. subst T d (some_intro 320 (at w) p h t))

    go : (b : Bool) → some_below 320 (at w) ≡ b → true ≡ some_below 320 (at w)
    go true d = sym d
    go false d = absurd (n (same_words w (replicate 5 0) l refl f (λ j. let z = zeros 5 j in omega arith) (λ p h. none d p h ∙ sym (at_none p))))

-- Whether words are not all 0, as code computes it.
pub some_unless : (w : List ℕ) → length w ≡ 5 → Fit64 w → (b : Bool) → b ≡ pointwise nat_eq w (replicate 5 0) → not b ≡ some_below 320 (at w)
some_unless w l f true e = some_none w (λ j h. ap (λ (v : List ℕ). get_or v j 0) (same_text w (replicate 5 0) e) ∙ zeros 5 j)
some_unless w l f false e = some_bit w l f (other_text w (replicate 5 0) e)

-- Five words, one by one.
five : (w : List ℕ) → length w ≡ 5 → w ≡ get_or w 0 0 ∷ get_or w 1 0 ∷ get_or w 2 0 ∷ get_or w 3 0 ∷ get_or w 4 0 ∷ []
five w l = ext_get_or 0 w _ l (λ j h. word j (omega arith))
  where
    word : (j : ℕ) → j < 5 → get_or w j 0 ≡ get_or (get_or w 0 0 ∷ get_or w 1 0 ∷ get_or w 2 0 ∷ get_or w 3 0 ∷ get_or w 4 0 ∷ []) j 0
    word zero h = refl
    word (suc zero) h = refl
    word (suc (suc zero)) h = refl
    word (suc (suc (suc zero))) h = refl
    word (suc (suc (suc (suc zero)))) h = refl
    word (suc (suc (suc (suc (suc j))))) h = absurd (omega arith)

all_five : (a b c d e : Bool) → (a && b && c && d && e) ≡ (a && (b && (c && (d && (e && true)))))
all_five false b c d e = refl
all_five true false c d e = refl
all_five true true false d e = refl
all_five true true true false e = refl
all_five true true true true e = sym (and-true e)

-- Whether five words are the same, as code computes it.
pub same_made : (v w : List ℕ) → length v ≡ 5 → length w ≡ 5
    → (eqb (get_or v 0 0) (get_or w 0 0) && eqb (get_or v 1 0) (get_or w 1 0) && eqb (get_or v 2 0) (get_or w 2 0) && eqb (get_or v 3 0) (get_or w 3 0) && eqb (get_or v 4 0) (get_or w 4 0))
    ≡ pointwise nat_eq v w
same_made v w l m =
    all_five (eqb (get_or v 0 0) (get_or w 0 0)) (eqb (get_or v 1 0) (get_or w 1 0)) (eqb (get_or v 2 0) (get_or w 2 0)) (eqb (get_or v 3 0) (get_or w 3 0)) (eqb (get_or v 4 0) (get_or w 4 0))
    ∙ sym (ap₂ (pointwise nat_eq) (five v l) (five w m))
