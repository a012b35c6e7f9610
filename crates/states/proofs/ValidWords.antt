-- Whether words hold a set of a rule's states, as code finds it.
use Prim.Native.Nat.{ℕ, suc, ◌+◌, ◌*◌, ◌^◌, ◌/◌, ◌%◌, ◌≤◌, ◌<◌}
use mathlib.Core.Path.{◌≡◌, refl, ap, ap₂, sym, ◌∙◌, subst}
use mathlib.Core.List.{List}
use mathlib.Core.Bool.{Bool, true, false, not, cond, ◌&&◌, ◌||◌, and-false}
use mathlib.Core.Logic.{⊎_elim}
use native.Mathlib.Omega.{arith}
use native.Mathlib.Nat.{mod-le}
use lib.Dec.{T, ltb, eqb, ltb→lt, lt→ltb, eqb→eq}
use lib.ListN.{get_or, length}
use borrow.Author.Tests.{lt-ltb, le-ltb, eq-eqb, ne_eqb, eqb-true, eqb-false}
use borrow.Author.Count.{below_more}
use Rattle.lists.specs.Lists.{tabulate, some_below, every_below}
use Rattle.lists.proofs.Bools.{and_left, and_right, both, is_true, refuted, both_false, below?, some_intro, some_elim, every_intro, every_elim, get_d_tabulate}
use Rattle.rules.specs.declared.Setting.{Setting}
use Rattle.rules.specs.Evaluation.{top}
use Rattle.states.specs.Records.{bit, at, rule_words}
use Rattle.states.specs.inner.Words.{below_word, Below}
use Rattle.states.specs.inner.Rules.{valid_words}
use Rattle.limits.specs.Limits.{setting_of}
use Rattle.states.specs.Validity.{valid_set, valid_record}
use Rattle.states.proofs.Packing.{same_bits}
use Rattle.states.proofs.FiveWords.{below_bits, some_none, some_word}

-- A state above the top.
abbrev pub above : ℕ → List ℕ → ℕ → Bool
above m w p = ltb m p && at w p

pub none_at : (m : ℕ) (w : List ℕ) (p : ℕ) → some_below 320 (above m w) ≡ false → m < p → p < 320 → at w p ≡ false
none_at m w p e l h =
    refuted (at w p) (λ t. subst T e (some_intro 320 (above m w) p h (both (ltb m p) (at w p) (lt→ltb m p l) t)))

pub valid_of : (m : ℕ) (w : List ℕ) (s : ℕ) → s ≤ m → T (at w s) → ((p : ℕ) → m < p → p < 320 → at w p ≡ false) → T (valid_words m w)
valid_of m w s l t none =
    both (some_below (suc m) (at w)) (not (some_below 320 (above m w))) (some_intro (suc m) (at w) s (omega arith) t)
    (subst (λ (b : Bool). T (not b))
    (sym (refuted (some_below 320 (above m w)) (λ u.
    let (p, h, v) = some_elim 320 (above m w) u in
    subst T (none p (ltb→lt m p (and_left (ltb m p) (at w p) v)) h) (and_right (ltb m p) (at w p) v))))
    tt)

below_le : (t j x : ℕ) → below_word t j x ≤ x
unfolding below_word
below_le t j x = go (ltb j (t / 64)) (eqb j (t / 64))
  where
    go : (a b : Bool) → cond a x (cond b (x % 2 ^ (t % 64)) 0) ≤ x
    go true b = omega arith
    go false true = mod-le x (2 ^ (t % 64))
    go false false = omega arith

-- The words of a set without the states above m.
abbrev cut : List ℕ → ℕ → List ℕ
cut w m = tabulate 5 (λ j. below_word (m + 1) j (get_or w j 0))

cut_below : (w : List ℕ) (m : ℕ) → Below w (m + 1) (cut w m)
cut_below w m = below_bits w (cut w m) (m + 1) (λ j h. get_d_tabulate 5 (λ j. below_word (m + 1) j (get_or w j 0)) 0 j h)

-- A word that a cut changes has a state above.
beyond : (w : List ℕ) (m j : ℕ) → j < 5 → get_or w j 0 < 2 ^ 64 → (below_word (m + 1) j (get_or w j 0) ≡ get_or w j 0 → ⊥)
    → false ≡ valid_words m w
unfolding at
beyond w m j h fits n = go (some_below 320 (above m w)) refl
  where
    go : (b : Bool) → some_below 320 (above m w) ≡ b → false ≡ valid_words m w
    go true e = sym (ap (λ (b : Bool). some_below (suc m) (at w) && not b) e ∙ and-false (some_below (suc m) (at w)))
    go false e =
        absurd (n (same_bits 64 (below_word (m + 1) j (get_or w j 0)) (get_or w j 0) (omega (arith, below_le (m + 1) j (get_or w j 0))) fits
        (λ r l.
        let q : (j * 64 + r) / 64 ≡ j = omega arith in
        let k : (j * 64 + r) % 64 ≡ r = omega arith in
        let p : j * 64 + r < 320 = omega arith in
        ap (λ (x : ℕ). bit x r) (sym (get_d_tabulate 5 (λ j. below_word (m + 1) j (get_or w j 0)) 0 j h))
        ∙ ap₂ (λ (x y : ℕ). bit (get_or (cut w m) x 0) y) (sym q) (sym k)
        ∙ (cut_below w m).bits (j * 64 + r) p
        ∙ same (j * 64 + r) p e
        ∙ ap₂ (λ (x y : ℕ). bit (get_or w x 0) y) q k)))
      where
        same : (p : ℕ) → p < 320 → some_below 320 (above m w) ≡ false → (ltb p (m + 1) && at w p) ≡ at w p
        same p l e =
            ⊎_elim (λ i. ap (λ (b : Bool). b && at w p) (lt-ltb p (m + 1) i))
            (λ i. ap (λ (b : Bool). b && at w p) (le-ltb p (m + 1) i) ∙ sym (none_at m w p e (omega arith) l))
            (below? p (m + 1))

-- The words below j of a set's five have no state from t on, and whether one has a state.
pub record Checked (w : List ℕ) (t : ℕ) (found : Bool) (j : ℕ) : Type 0 where
  pub within : j ≤ 5
  pub low : (p : ℕ) → p < j → below_word t p (get_or w p 0) ≡ get_or w p 0
  pub none : found ≡ false → (p : ℕ) → p < j → get_or w p 0 ≡ 0
  pub some : found ≡ true → true ≡ some_below 320 (at w)

module _ (w : List ℕ) (t : ℕ) where
  pub checked_start : Checked w t false 0
  checked_start = record {
    within = omega arith;
    low = λ p h. absurd (omega arith);
    none = λ e p h. absurd (omega arith);
    some = λ e. let z : ◌≡◌ {A = ℕ} 0 1 = cc in absurd (omega arith);
  }

  pub checked_next : (found : Bool) (j x : ℕ) → Checked w t found j → j < 5 → x ≡ get_or w j 0 → x < 2 ^ 64 → {b : Bool} → b ≡ eqb (below_word t j x) x → b ≡ true
      → Checked w t (found || not (eqb x 0)) (j + 1)
  checked_next found j x c h e fits q u = record {
    within = omega arith;
    low = below_more _ j c.low (ap (below_word t j) (sym e) ∙ eqb-true (below_word t j x) x (sym q ∙ u) ∙ e);
    none = λ n. let (f, z) = both_false found (not (eqb x 0)) n in below_more _ j (c.none f) (sym e ∙ zero_word (eqb x 0) refl z);
    some = λ n. either (eqb x 0) refl n;
  }
    where
      zero_word : (b : Bool) → eqb x 0 ≡ b → not b ≡ false → x ≡ 0
      zero_word true q z = eqb-true x 0 q
      zero_word false q z = let y : ◌≡◌ {A = ℕ} 0 1 = cc in absurd (omega arith)

      either : (b : Bool) → eqb x 0 ≡ b → (found || not (eqb x 0)) ≡ true → true ≡ some_below 320 (at w)
      either true z q = c.some (or_no found (not (eqb x 0)) (ap not z) q)
        where
          or_no : (a b : Bool) → b ≡ false → (a || b) ≡ true → a ≡ true
          or_no true b e q = refl
          or_no false b e q = let y : ◌≡◌ {A = ℕ} 0 1 = cc in absurd (omega arith)
      either false z q = some_word w j h (subst (λ (y : ℕ). y < 2 ^ 64) e fits) (λ d. eqb-false x 0 z (e ∙ d))

  pub checked_stop : (m : ℕ) → t ≡ m + 1 → (j x : ℕ) → j < 5 → x ≡ get_or w j 0 → x < 2 ^ 64 → {b : Bool} → b ≡ eqb (below_word t j x) x → b ≡ false
      → false ≡ valid_words m w
  checked_stop m et j x h e fits q u =
      beyond w m j h (subst (λ (y : ℕ). y < 2 ^ 64) e fits)
      (λ d. eqb-false (below_word t j x) x (sym q ∙ u) (ap₂ (λ (a y : ℕ). below_word a j y) et e ∙ d ∙ sym e))

  pub checked_end : (m : ℕ) → t ≡ m + 1 → m ≤ 256 → (found : Bool) (j : ℕ) → Checked w t found j → 5 ≤ j → found ≡ valid_words m w
  checked_end m et small found j c h = go found refl
    where
      all : Below w t w
      all = below_bits w w t (λ p l. sym (c.low p (omega arith)))

      low : (p : ℕ) → p < 320 → T (at w p) → p < t
      low p l u = ltb→lt p t (and_left (ltb p t) (at w p) (subst T (all.bits p l) u))

      go : (b : Bool) → found ≡ b → found ≡ valid_words m w
      go true e =
          let (s, l, v) = some_elim 320 (at w) (subst T (c.some e) tt) in
          let i = low s l v in
          e ∙ sym (is_true (valid_words m w) (valid_of m w s (omega arith) v (λ p k g. refuted (at w p) (λ u. let d = low p g u in omega arith))))
      go false e =
          e
          ∙ sym (refuted (valid_words m w) (λ v.
          let (s, l, u) = some_elim (suc m) (at w) (and_left (some_below (suc m) (at w)) (not (some_below 320 (above m w))) v) in
          let i : s < 320 = omega arith in
          subst T (sym (some_none w (λ p d. c.none e p (omega arith)))) (some_intro 320 (at w) s i u)))

-- A valid record is eighty words long, and its sets are valid.
module _ (ss : List Setting) (ws : List ℕ) (t : T (valid_record ss ws)) where
  pub valid_long : length ws ≡ 80
  unfolding valid_record
  valid_long = eqb→eq (length ws) 80 (and_left (eqb (length ws) 80) _ t)

  pub valid_set_lem : (i : ℕ) → i < 16 → T (valid_set (setting_of ss i) i ws)
  unfolding valid_record
  valid_set_lem i h = every_elim 16 (λ j. valid_set (setting_of ss j) j ws) (and_right (eqb (length ws) 80) _ t) i h

-- The rules below i have valid sets.
pub record AllValid (ss : List Setting) (ws : List ℕ) (i : ℕ) : Type 0 where
  pub within : i ≤ 16
  pub long : length ws ≡ 80
  pub done : (j : ℕ) → j < i → T (valid_set (setting_of ss j) j ws)

module _ (ss : List Setting) (ws : List ℕ) where
  -- whether a rule is valid, from words that are the record's
  pub rule_valid : (v : List ℕ) (i : ℕ) (b : Bool) → b ≡ valid_set (setting_of ss i) i v → v ≡ ws → b ≡ valid_set (setting_of ss i) i ws
  rule_valid v i b e q = e ∙ ap (valid_set (setting_of ss i) i) q

  pub all_start : length ws ≡ 80 → AllValid ss ws 0
  all_start l = record { within = omega arith; long = l; done = λ j h. absurd (omega arith) }

  pub all_next : (i : ℕ) (b : Bool) → AllValid ss ws i → i < 16 → b ≡ valid_set (setting_of ss i) i ws → b ≡ true → AllValid ss ws (i + 1)
  all_next i b a h e t =
      record { within = omega arith; long = a.long; done = below_more _ i a.done (subst T (sym t ∙ e) tt) }

  pub all_end : (i : ℕ) → AllValid ss ws i → 16 ≤ i → true ≡ valid_record ss ws
  unfolding valid_record
  all_end i a h =
      sym (is_true _ (both (eqb (length ws) 80) (every_below 16 (λ j. valid_set (setting_of ss j) j ws)) (subst T (sym (eq-eqb (length ws) 80 a.long)) tt)
      (every_intro 16 (λ j. valid_set (setting_of ss j) j ws) (λ j l. a.done j (omega arith)))))

  pub all_stop : (i : ℕ) (b : Bool) → i < 16 → b ≡ valid_set (setting_of ss i) i ws → b ≡ false → false ≡ valid_record ss ws
  all_stop i b h e t =
      sym (refuted _ (λ u.
      subst T (sym e ∙ t) (valid_set_lem ss ws u i h)))

  pub all_none : (length ws ≡ 80 → ⊥) → false ≡ valid_record ss ws
  unfolding valid_record
  all_none n = rw (ne_eqb (length ws) 80 n)
