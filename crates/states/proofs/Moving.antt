-- The words that `moved` makes hold the set after an evaluation.
use Prim.Native.Nat.{ℕ, zero, suc, ◌≤◌, ◌<◌}
use mathlib.Core.Path.{◌≡◌, ap, ap₂, sym, ◌∙◌, subst}
use mathlib.Core.List.{List}
use mathlib.Core.Bool.{Bool, true, false, ◌&&◌, ◌||◌, and-true, and-false, or-false}
use mathlib.Core.Logic.{⊎_elim}
use native.Mathlib.Omega.{arith}
use native.Mathlib.Nat.{eq-or-lt_of_le}
use native.Mathlib.Numerals.{add-one}
use lib.Dec.{T, ltb, ltb→lt, lt→ltb}
use lib.ListN.{length, get_or-eq_default}
use borrow.Author.Tests.{lt-ltb, le-ltb, eq-eqb, ne_eqb}
use Rattle.lists.specs.Lists.{some_below}
use Rattle.lists.proofs.Bools.{and_left, and_right, both, bool_ext, below?, some_intro, some_elim, length_tabulate, get_d_tabulate}
use Rattle.fillings.specs.PossibleStates.{has, Moves, next}
use Rattle.fillings.proofs.Next.{next_length, next_zero, next_between, next_top}
use Rattle.states.specs.Records.{at, Fit64, states_of, words_of}
use Rattle.states.specs.inner.Words.{Below, Raised, With}
use Rattle.states.proofs.Packing.{same_words, words_of_length, words_of_fit, at_words_of}

pub states_length : (w : List ℕ) (m : ℕ) → length (states_of w m) ≡ suc m
unfolding states_of
states_length w m = length_tabulate (suc m) (at w)

pub has_states : (w : List ℕ) (m s : ℕ) → s ≤ m → has (states_of w m) s ≡ at w s
unfolding states_of
has_states w m s h = get_d_tabulate (suc m) (at w) false s (omega arith)

pub some_states : (w low : List ℕ) (m : ℕ) → m < 320 → Below w m low → some_below 320 (at low) ≡ some_below m (has (states_of w m))
some_states w low m lm lo =
    bool_ext _ _
    (λ t.
    let q = some_elim 320 (at low) t in
    let u : T (ltb q.0 m && at w q.0) = subst T (lo.bits q.0 q.1) q.2 in
    let l : q.0 < m = ltb→lt q.0 m (and_left (ltb q.0 m) (at w q.0) u) in
    some_intro m (has (states_of w m)) q.0 l
    (subst T (sym (has_states w m q.0 (omega arith))) (and_right (ltb q.0 m) (at w q.0) u)))
    (λ t.
    let q = some_elim m (has (states_of w m)) t in
    let l : q.0 < m = q.1 in
    let a : T (at w q.0) = subst T (has_states w m q.0 (omega arith)) q.2 in
    some_intro 320 (at low) q.0 (omega arith)
    (subst T (sym (lo.bits q.0 (omega arith))) (both (ltb q.0 m) (at w q.0) (lt→ltb q.0 m l) a)))

module _ (w low counted kept r : List ℕ) (m : ℕ) (mv : Moves) (some : Bool) (hm : 0 < m) (lm : m ≤ 256) (lo : Below w m low)
    (ra : Raised low mv.up counted) (wi : With counted m (mv.stay && at w m) kept) (so : some ≡ some_below 320 (at low))
    (ze : With kept 0 (mv.restart && some || mv.leave && at w m) r) where
  abbrev P : List Bool
  P = states_of w m

  counted_at : (s : ℕ) → suc s < 320 → at counted (suc s) ≡ (mv.up && (ltb s m && at w s))
  counted_at s h =
      ap (at counted) (sym (add-one s)) ∙ ra.next s (omega arith) ∙ ap (λ (b : Bool). mv.up && b) (lo.bits s (omega arith))

  kept_off : (p : ℕ) → p < 320 → (p ≡ m → ⊥) → at kept p ≡ at counted p
  kept_off p h n =
      wi.bits p h
      ∙ ap (λ (b : Bool). at counted p || mv.stay && at w m && b) (ne_eqb p m n)
      ∙ ap (λ (b : Bool). at counted p || b) (and-false (mv.stay && at w m))
      ∙ or-false (at counted p)

  moved_off : (s : ℕ) → suc s < 320 → at r (suc s) ≡ at kept (suc s)
  moved_off s h =
      ze.bits (suc s) h
      ∙ ap (λ (b : Bool). at kept (suc s) || (mv.restart && some || mv.leave && at w m) && b) (ne_eqb (suc s) 0 (λ e. omega arith))
      ∙ ap (λ (b : Bool). at kept (suc s) || b) (and-false (mv.restart && some || mv.leave && at w m))
      ∙ or-false (at kept (suc s))

  at_zero : at r 0 ≡ has (next m mv P) 0
  at_zero =
      ze.bits 0 (omega arith)
      ∙ ap (λ (b : Bool). b || (mv.restart && some || mv.leave && at w m) && true) (kept_off 0 (omega arith) (λ e. omega arith) ∙ ra.first)
      ∙ and-true (mv.restart && some || mv.leave && at w m)
      ∙ ap₂ (λ (a b : Bool). mv.restart && a || mv.leave && b) (so ∙ some_states w low m (omega arith) lo) (sym (has_states w m m (omega arith)))
      ∙ sym (next_zero m mv P hm)

  at_between : (s : ℕ) → suc s < m → at r (suc s) ≡ has (next m mv P) (suc s)
  at_between s h =
      moved_off s (omega arith)
      ∙ kept_off (suc s) (omega arith) (λ e. omega arith)
      ∙ counted_at s (omega arith)
      ∙ ap (λ (b : Bool). mv.up && (b && at w s)) (lt-ltb s m (omega arith))
      ∙ ap (λ (b : Bool). mv.up && b) (sym (has_states w m s (omega arith)))
      ∙ sym (next_between m mv P s h)

  at_top : (s : ℕ) → suc s ≡ m → at r (suc s) ≡ has (next m mv P) (suc s)
  at_top s e =
      moved_off s (omega arith)
      ∙ wi.bits (suc s) (omega arith)
      ∙ ap₂ (λ (a b : Bool). a || mv.stay && at w m && b)
      (counted_at s (omega arith) ∙ ap (λ (b : Bool). mv.up && (b && at w s)) (lt-ltb s m (omega arith)))
      (eq-eqb (suc s) m e)
      ∙ ap (λ (b : Bool). mv.up && at w s || b) (and-true (mv.stay && at w m))
      ∙ ap₂ (λ (a b : Bool). mv.up && a || mv.stay && b) (sym (has_states w m s (omega arith))) (sym (has_states w m m (omega arith)))
      ∙ sym (next_top m mv P s e)
      ∙ ap (has (next m mv P)) (sym e)

  at_above : (s : ℕ) → suc s < 320 → m < suc s → at r (suc s) ≡ has (next m mv P) (suc s)
  at_above s l h =
      moved_off s l
      ∙ kept_off (suc s) l (λ e. omega arith)
      ∙ counted_at s l
      ∙ ap (λ (b : Bool). mv.up && (b && at w s)) (le-ltb s m (omega arith))
      ∙ and-false mv.up
      ∙ sym (get_or-eq_default (next m mv P) false {n = suc s} (omega (arith, next_length m mv P)))

  moved_bits : (p : ℕ) → p < 320 → at r p ≡ at (words_of (next m mv P)) p
  moved_bits zero h = at_zero ∙ sym (at_words_of (next m mv P) 0 h)
  moved_bits (suc s) h =
      ⊎_elim (at_between s) (λ g. ⊎_elim (λ e. at_top s (sym e)) (at_above s h) (eq-or-lt_of_le g)) (below? (suc s) m)
      ∙ sym (at_words_of (next m mv P) (suc s) h)

  moved_right : length r ≡ 5 → Fit64 r → r ≡ words_of (next m mv P)
  moved_right l f = same_words r (words_of (next m mv P)) l (words_of_length (next m mv P)) f (words_of_fit (next m mv P)) moved_bits

-- The same, from the Booleans that the code computes.
pub moved_made : (w low counted kept r : List ℕ) (m : ℕ) (mv : Moves) (some keep fall : Bool) → 0 < m → m ≤ 256 → Below w m low
    → Raised low mv.up counted → keep ≡ (mv.stay && at w m) → With counted m keep kept → some ≡ some_below 320 (at low)
    → fall ≡ (mv.restart && some || mv.leave && at w m) → With kept 0 fall r → length r ≡ 5 → Fit64 r → r ≡ words_of (next m mv (states_of w m))
moved_made w low counted kept r m mv some keep fall hm lm lo ra ke wi so ez ze =
    moved_right w low counted kept r m mv some hm lm lo ra (subst (λ (b : Bool). With counted m b kept) ke wi) so
    (subst (λ (b : Bool). With kept 0 b r) ez ze)
