-- Many unseen evaluations at once.
use Prim.Native.Nat.{ℕ, zero, suc, ◌-◌, ◌≤◌, ◌<◌, min}
use mathlib.Core.Path.{◌≡◌, refl, ap, ap₂, sym, ◌∙◌, subst}
use mathlib.Core.List.{List}
use mathlib.Core.Bool.{Bool, true, false, not, ◌&&◌, ◌||◌, and-true, and-false, or-false}
use mathlib.Core.Logic.{⊎_elim}
use native.Mathlib.Omega.{arith}
use native.Mathlib.Nat.{eq-or-lt_of_le}
use lib.Dec.{T, eqb}
use Rattle.std.specs.Prelude.{nat_eq}
use Rattle.std.specs.Cmp.Lexicographic.{pointwise, same_text, other_text}
use lib.ListN.{length, replicate, get_or-eq_default}
use borrow.Author.Tests.{lt-ltb, le-ltb, eq-eqb, ne_eqb}
use Rattle.lists.specs.Lists.{some_below}
use Rattle.lists.proofs.Bools.{or_left, or_right, or_elim, is_false, refuted, bool_ext, both_false, below?, some_intro, some_elim}
use Rattle.fillings.specs.PossibleStates.{has, anything, next, unseen_times}
use Rattle.fillings.proofs.Next.{unseen_length}
use Rattle.fillings.proofs.Still.{still}
use Rattle.fillings.proofs.UnseenStates.{below_top, counted_up, top_within, first_states, unmoved_times}
use Rattle.states.specs.Records.{at, Fit64, states_of, words_of}
use Rattle.states.specs.inner.Words.{Below, With, Filled}
use Rattle.states.proofs.FiveWords.{at_none}
use Rattle.states.proofs.Packing.{same_words, words_of_length, words_of_fit, at_words_of}
use Rattle.states.proofs.Moving.{states_length, has_states, some_states}

pub one_unseen : (w v : List ℕ) (m n : ℕ) (recovers : Bool) → n ≡ 1 → v ≡ words_of (next m (anything recovers) (states_of w m))
    → v ≡ words_of (unseen_times n m recovers (states_of w m))
unfolding unseen_times
one_unseen w v m n recovers e d = d ∙ sym (ap (λ (k : ℕ). words_of (unseen_times k m recovers (states_of w m))) e)

module _ (w : List ℕ) (m : ℕ) (recovers : Bool) (pos : 0 < m) (fits : m ≤ 256) where
  abbrev P : List Bool
  P = states_of w m

  -- state 0 can be reached
  falls : (low : List ℕ) (some held : Bool) → Below w m low → some ≡ some_below 320 (at low) → held ≡ at w m
      → (some || recovers && held) ≡ (some_below m (has P) || recovers && has P m)
  falls low some held lo so he =
      ap₂ (λ (a b : Bool). a || recovers && b) (so ∙ some_states w low m (omega arith) lo) (he ∙ sym (has_states w m m (omega arith)))

  -- the words have the bits of a set
  words_of_set : (q : List Bool) (r : List ℕ) → length r ≡ 5 → Fit64 r → ((p : ℕ) → p < 320 → at r p ≡ has q p) → r ≡ words_of q
  words_of_set q r l f e = same_words r (words_of q) l (words_of_length q) f (words_of_fit q) (λ p h. e p h ∙ sym (at_words_of q p h))

  set_past : (q : List Bool) (p : ℕ) → length q ≡ suc m → m < p → has q p ≡ false
  set_past q p l h = get_or-eq_default q false {n = p} (omega arith)

  -- the top alone, or no state
  module _ (r : List ℕ) (held : Bool) (wi : With (replicate 5 0) m held r) (he : held ≡ at w m) where
    top_bit : (p : ℕ) → p < 320 → at r p ≡ (held && eqb p m)
    top_bit p h = wi.bits p h ∙ ap (λ (b : Bool). b || held && eqb p m) (at_none p)

    top_off : (p : ℕ) → p < 320 → (p ≡ m → ⊥) → at r p ≡ false
    top_off p h n = top_bit p h ∙ ap (λ (b : Bool). held && b) (ne_eqb p m n) ∙ and-false held

    unmoved_bits : some_below m (has P) ≡ false → (p : ℕ) → p < 320 → at r p ≡ has P p
    unmoved_bits e p h =
        ⊎_elim
        (λ l. top_off p h (λ d. omega arith) ∙ sym (refuted (has P p) (λ t. subst T e (some_intro m (has P) p l t))))
        (λ g. ⊎_elim
        (λ d. top_bit p h ∙ ap (λ (b : Bool). held && b) (eq-eqb p m (sym d)) ∙ and-true held ∙ he ∙ sym (has_states w m m (omega arith)) ∙ ap (has P) d)
        (λ l. top_off p h (λ d. omega arith) ∙ sym (set_past P p (states_length w m) l))
        (eq-or-lt_of_le g))
        (below? p m)

  pub none_moves : (low r : List ℕ) (n : ℕ) (some held : Bool) → Below w m low → some ≡ some_below 320 (at low) → held ≡ at w m
      → (some || recovers && held) ≡ false → With (replicate 5 0) m held r → length r ≡ 5 → Fit64 r → r ≡ words_of (unseen_times n m recovers P)
  none_moves low r n some held lo so he e wi l f =
      let d : (some_below m (has P) || recovers && has P m) ≡ false = sym (falls low some held lo so he) ∙ e in
      words_of_set P r l f (unmoved_bits r held wi he (both_false (some_below m (has P)) (recovers && has P m) d).0)
      ∙ ap words_of (sym (unmoved_times m recovers P (states_length w m) d n))

  -- k evaluations of a set from which 0 can be reached
  module _ (low cut up : List ℕ) (k : ℕ) (held : Bool) (kl : k ≤ m) (he : held ≡ at w m) (lo : Below w m low) (cu : Below w (m - k) cut) (fi : Filled cut k up)
      (ll : length low ≡ 5) (lf : Fit64 low) (cl : length cut ≡ 5) (cf : Fit64 cut) where
    -- whether no state is cut off
    abbrev b : Bool
    b = pointwise nat_eq low cut

    low_at : (p : ℕ) → p < m → at low p ≡ has P p
    low_at p h = lo.bits p (omega arith) ∙ ap (λ (x : Bool). x && at w p) (lt-ltb p m h) ∙ sym (has_states w m p (omega arith))

    cut_at : (p : ℕ) → p < m - k → at cut p ≡ has P p
    cut_at p h = cu.bits p (omega arith) ∙ ap (λ (x : Bool). x && at w p) (lt-ltb p (m - k) h) ∙ sym (has_states w m p (omega arith))

    cut_none : (p : ℕ) → p < 320 → m - k ≤ p → at cut p ≡ false
    cut_none p h l = cu.bits p h ∙ ap (λ (x : Bool). x && at w p) (le-ltb p (m - k) l)

    -- no state leads to the top
    alike : some_below (suc k) (below_top m P) ≡ false → (p : ℕ) → p < 320 → at low p ≡ at cut p
    alike e p h =
        ⊎_elim (λ l. low_at p (omega arith) ∙ sym (cut_at p l))
        (λ g. ⊎_elim
        (λ l.
        let d : p ≡ m - (m - p) = omega arith in
        low_at p l
        ∙ refuted (has P p) (λ t. subst T e (some_intro (suc k) (below_top m P) (m - p) (omega arith) (subst (λ i. T (has P i)) d t)))
        ∙ sym (cut_none p h g))
        (λ l. lo.bits p h ∙ ap (λ (x : Bool). x && at w p) (le-ltb p m l) ∙ sym (cut_none p h g))
        (below? p m))
        (below? p (m - k))

    top_held : held ≡ has P m
    top_held = he ∙ sym (has_states w m m (omega arith))

    -- the top is held, or some state leads to it
    reaches : (held || not b) ≡ some_below (suc k) (below_top m P)
    reaches =
        bool_ext _ _
        (λ t. or_elim held (not b) t
        (λ u. some_intro (suc k) (below_top m P) 0 (omega arith) (subst T (top_held ∙ ap (has P) (let e : m ≡ m - 0 = omega arith in e)) u))
        (λ u. from (some_below (suc k) (below_top m P)) refl (is_false b u)))
        (λ t. to (some_elim (suc k) (below_top m P) t))
      where
        from : (x : Bool) → some_below (suc k) (below_top m P) ≡ x → b ≡ false → T x
        from true e d = tt
        from false e d = other_text low cut (sym d) (same_words low cut ll cl lf cf (alike e))

        differ : (x : Bool) (p : ℕ) → b ≡ x → m - k ≤ p → p < m → T (has P p) → T (not x)
        differ false p d h l t = tt
        differ true p d h l t = subst T (sym (low_at p l) ∙ ap (λ (v : List ℕ). at v p) (same_text low cut (sym d)) ∙ cut_none p (omega arith) h) t

        to : (i : ℕ) × (i < suc k) × T (has P (m - i)) → T (held || not b)
        to (zero, l, t) = or_left held (not b) (subst T (sym (top_held ∙ ap (has P) (let e : m ≡ m - 0 = omega arith in e))) t)
        to (suc i, l, t) = or_right held (not b) (differ b (m - suc i) refl (omega arith) (omega arith) t)

    up_first : (p : ℕ) → p < k → at up p ≡ true
    up_first p h = fi.bits p (omega arith) ∙ ap (λ (x : Bool). x || at cut (p - k)) (lt-ltb p k h)

    up_from : (p : ℕ) → p < 320 → k ≤ p → at up p ≡ at cut (p - k)
    up_from p h l = fi.bits p h ∙ ap (λ (x : Bool). x || at cut (p - k)) (le-ltb p k l)

    up_past : (p : ℕ) → p < 320 → m ≤ p → at up p ≡ false
    up_past p h l = up_from p h (omega arith) ∙ cut_none (p - k) (omega arith) (omega arith)

    module _ (r : List ℕ) (wi : With up m (held || not b) r) (fa : (some_below m (has P) || recovers && has P m) ≡ true) where
      abbrev Q : List Bool
      Q = unseen_times k m recovers P

      with_off : (p : ℕ) → p < 320 → (p ≡ m → ⊥) → at r p ≡ at up p
      with_off p h n =
          wi.bits p h ∙ ap (λ (x : Bool). at up p || (held || not b) && x) (ne_eqb p m n) ∙ ap (λ (x : Bool). at up p || x) (and-false (held || not b)) ∙ or-false (at up p)

      below_bits : (p : ℕ) → p < m → at r p ≡ has Q p
      below_bits p h =
          with_off p (omega arith) (λ e. omega arith)
          ∙ ⊎_elim (λ l. up_first p l ∙ sym (first_states m recovers P fa k p l h))
          (λ l. up_from p (omega arith) l ∙ cut_at (p - k) (omega arith) ∙ sym (counted_up m recovers P k p l h))
          (below? p k)

      top_bits : at r m ≡ has Q m
      top_bits =
          wi.bits m (omega arith)
          ∙ ap₂ (λ (x y : Bool). x || (held || not b) && y) (up_past m (omega arith) (omega arith)) (eq-eqb m m refl)
          ∙ and-true (held || not b)
          ∙ reaches
          ∙ sym (top_within m recovers P k pos kl)

      past_bits : (p : ℕ) → p < 320 → m < p → length Q ≡ suc m → at r p ≡ has Q p
      past_bits p h l n = with_off p h (λ e. omega arith) ∙ up_past p h (omega arith) ∙ sym (set_past Q p n l)

      unseen_bits : length Q ≡ suc m → (p : ℕ) → p < 320 → at r p ≡ has Q p
      unseen_bits n p h =
          ⊎_elim (below_bits p) (λ g. ⊎_elim (λ e. ap (at r) (sym e) ∙ top_bits ∙ ap (has Q) e) (λ l. past_bits p h l n) (eq-or-lt_of_le g)) (below? p m)

  pub some_move : (low cut up r : List ℕ) (n k : ℕ) (some held differ : Bool) → Below w m low → some ≡ some_below 320 (at low) → held ≡ at w m
      → (some || recovers && held) ≡ true → k ≡ min n m → Below w (m - k) cut → Filled cut k up → differ ≡ not (pointwise nat_eq low cut) → With up m (held || differ) r
      → length low ≡ 5 → Fit64 low → length cut ≡ 5 → Fit64 cut → length r ≡ 5 → Fit64 r → r ≡ words_of (unseen_times n m recovers P)
  some_move low cut up r n k some held differ lo so he e ek cu fi di wi ll lf cl cf l f =
      words_of_set (unseen_times k m recovers P) r l f
      (unseen_bits low cut up k held (omega arith) he lo cu fi ll lf cl cf r (subst (λ (b : Bool). With up m (held || b) r) di wi) (sym (falls low some held lo so he) ∙ e) (unseen_length k m recovers P (states_length w m)))
      ∙ ap (λ (x : ℕ). words_of (unseen_times x m recovers P)) ek
      ∙ ap words_of (sym (still n m recovers P (states_length w m)))
