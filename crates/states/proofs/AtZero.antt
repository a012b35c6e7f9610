-- A rule at state 0 alone whose threshold is not met stays there.
use Prim.Native.Nat.{ℕ, zero, suc, ◌≤◌, ◌<◌}
use mathlib.Core.Path.{◌≡◌, refl, ap, sym, ◌∙◌, subst}
use mathlib.Core.List.{List, [], ◌∷◌}
use mathlib.Core.Bool.{Bool, true, false}
use mathlib.Core.Logic.{⊎_elim}
use native.Mathlib.Omega.{arith}
use lib.Dec.{T, eqb}
use Rattle.std.specs.Prelude.{nat_eq}
use Rattle.std.specs.Cmp.Lexicographic.{pointwise, same_text}
use lib.ListN.{get_or-eq_default}
use lib.Seq.{ext_get_or}
use borrow.Author.Tests.{ne_eqb}
use Rattle.lists.specs.Lists.{tabulate}
use Rattle.lists.proofs.Bools.{bool_ext, below?, length_tabulate, get_d_tabulate}
use Rattle.fillings.specs.PossibleStates.{has, Moves, found, next, start}
use Rattle.fillings.proofs.Next.{next_length, reached, by_restart}
use Rattle.states.specs.Records.{states_of, word_of, words_of}
use Rattle.states.proofs.Packing.{states_words, same_sets}

-- The words of state 0 alone are 1, 0, 0, 0, 0.
pub zero_words : (w : List ℕ) (b : Bool) → b ≡ pointwise nat_eq w (1 ∷ 0 ∷ 0 ∷ 0 ∷ 0 ∷ []) → b ≡ true → w ≡ words_of (start 0)
unfolding word_of words_of
zero_words w b e t = same_text w (1 ∷ 0 ∷ 0 ∷ 0 ∷ 0 ∷ []) (sym t ∙ e)

-- The set of state 0 alone does not depend on the top state, but for its length.
pub has_start : (m s : ℕ) → has (start m) s ≡ has (start 0) s
has_start m zero = refl
has_start m (suc s) =
    ⊎_elim (λ h. get_d_tabulate m (λ i. eqb (suc i) 0) false s h ∙ ne_eqb (suc s) 0 (λ e. omega arith))
    (λ h. get_or-eq_default (tabulate m (λ i. eqb (suc i) 0)) false {n = s} (omega (arith, length_tabulate m (λ i. eqb (suc i) 0))))
    (below? s m)

pub start_words : (m : ℕ) → words_of (start m) ≡ words_of (start 0)
start_words m = same_sets (start m) (start 0) (has_start m)

start_zero : (m s : ℕ) → T (has (start m) s) → s ≡ 0
start_zero m zero t = refl
start_zero m (suc s) t = absurd (subst T (has_start m (suc s)) t)

-- A restart keeps state 0 alone.
start_kept : (m : ℕ) (mv : Moves) → 0 < m → mv.up ≡ false → mv.restart ≡ true → next m mv (start m) ≡ start m
start_kept m mv pos up restart =
    ext_get_or false (next m mv (start m)) (start m) (next_length m mv (start m) ∙ sym (length_tabulate (suc m) (λ s. eqb s 0)))
    (λ s h. bool_ext _ _ (from s (omega (arith, next_length m mv (start m)))) (to s))
  where
    from : (s : ℕ) → s ≤ m → T (has (next m mv (start m)) s) → T (has (start m) s)
    from s h t =
        reached m mv (start m) s h t (λ i l a u e. absurd (subst T up u)) (λ i l a u e. subst (λ j. T (has (start m) j)) e tt)
        (λ a u e. absurd (let z : m ≡ 0 = start_zero m m a in omega arith)) (λ a u e. absurd (let z : m ≡ 0 = start_zero m m a in omega arith))

    to : (s : ℕ) → T (has (start m) s) → T (has (next m mv (start m)) s)
    to s t =
        subst (λ j. T (has (next m mv (start m)) j)) (sym (start_zero m s t)) (by_restart m mv (start m) 0 pos tt (subst T (sym restart) tt))

zero_set : (m : ℕ) → m ≤ 256 → states_of (words_of (start 0)) m ≡ start m
zero_set m h =
    ap (λ (w : List ℕ). states_of w m) (sym (start_words m)) ∙ states_words (start m) m (length_tabulate (suc m) (λ s. eqb s 0)) (omega arith)

zero_kept : (w : List ℕ) (m : ℕ) (mv : Moves) → w ≡ words_of (start 0) → 0 < m → m ≤ 256 → mv.up ≡ false → mv.restart ≡ true
    → words_of (next m mv (states_of w m)) ≡ w
zero_kept w m mv e pos fits up restart =
    ap (λ (v : List ℕ). words_of (next m mv (states_of v m))) e
    ∙ ap (λ (p : List Bool). words_of (next m mv p)) (zero_set m fits)
    ∙ ap words_of (start_kept m mv pos up restart)
    ∙ start_words m
    ∙ sym e

-- A rule at 0 alone that does not trip stays so.
pub zero_stays : (w : List ℕ) (m : ℕ) (clear : Bool) → 0 < m → m ≤ 256 → w ≡ words_of (start 0) → w ≡ words_of (next m (found false clear) (states_of w m))
zero_stays w m clear pos fits e = sym (zero_kept w m (found false clear) e pos fits refl refl)
