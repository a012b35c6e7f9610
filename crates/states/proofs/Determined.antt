-- Valid records that allow the same states are the same record.
use Prim.Native.Nat.{ℕ, suc, ◌+◌, ◌*◌, ◌/◌, ◌%◌, ◌<◌}
use mathlib.Core.Path.{◌≡◌, ap, sym, ◌∙◌}
use mathlib.Core.List.{List}
use mathlib.Core.Bool.{Bool, false}
use mathlib.Core.Logic.{⊎_elim}
use native.Mathlib.Omega.{arith}
use lib.Dec.{T}
use lib.ListN.{get_or, drop, length-take, get_or-eq_default}
use lib.Seq.{ext_get_or}
use Rattle.lists.specs.Lists.{some_below}
use Rattle.lists.proofs.Bools.{and_right, is_false, below?, get_d_tabulate}
use Rattle.rules.specs.declared.Setting.{Setting}
use Rattle.rules.specs.Evaluation.{top}
use Rattle.fillings.specs.PossibleStates.{has}
use Rattle.states.specs.Records.{at, Fit64, states_of, rule_words}
use Rattle.limits.specs.Limits.{setting_of}
use Rattle.states.specs.Validity.{valid_set}
use Rattle.states.specs.promises.Tracking.{Determined}
use Rattle.states.proofs.Packing.{same_words}
use Rattle.states.proofs.RuleWords.{part, part_length}
use Rattle.states.proofs.ValidWords.{above, none_at, valid_long, valid_set_lem}

none_above : (s : Setting) (i : ℕ) (ws : List ℕ) → T (valid_set s i ws) → some_below 320 (above (top s.time) (rule_words ws i)) ≡ false
none_above s i ws t = is_false _ (and_right (some_below (suc (top s.time)) (at (rule_words ws i))) _ t)

rule_fits : (ws : List ℕ) → Fit64 ws → (i : ℕ) → Fit64 (rule_words ws i)
rule_fits ws f i j =
    ⊎_elim (λ h. rw (part ws (5 * i) j h) (f (5 * i + j)))
    (λ h. rw (get_or-eq_default (rule_words ws i) 0 {n = j} (omega (arith, length-take 5 (drop (5 * i) ws)))) (omega arith))
    (below? j 5)

-- Words that hold the same states up to m, and none above it, have the same bits.
same_at : (m : ℕ) (a b : List ℕ) → states_of a m ≡ states_of b m → some_below 320 (above m a) ≡ false → some_below 320 (above m b) ≡ false → (p : ℕ) → p < 320 → at a p ≡ at b p
unfolding states_of
same_at m a b e na nb p h =
    ⊎_elim
    (λ l. sym (get_d_tabulate (suc m) (at a) false p l) ∙ ap (λ (q : List Bool). has q p) e ∙ get_d_tabulate (suc m) (at b) false p l)
    (λ l. none_at m a p na (omega arith) h ∙ sym (none_at m b p nb (omega arith) h))
    (below? p (suc m))

pub determined : Determined
determined ss v w fv fw gv gw e =
    ext_get_or 0 v w (valid_long ss v gv ∙ sym (valid_long ss w gw))
    (λ k h.
    let h' : k < 80 = omega (arith, valid_long ss v gv) in
    let d : k ≡ 5 * (k / 5) + k % 5 = omega arith in
    ap (λ (x : ℕ). get_or v x 0) d
    ∙ sym (part v (5 * (k / 5)) (k % 5) (omega arith))
    ∙ ap (λ (l : List ℕ). get_or l (k % 5) 0) (rule_same (k / 5) (omega arith))
    ∙ part w (5 * (k / 5)) (k % 5) (omega arith)
    ∙ ap (λ (x : ℕ). get_or w x 0) (sym d))
  where
    rule_same : (i : ℕ) → i < 16 → rule_words v i ≡ rule_words w i
    rule_same i h =
        same_words (rule_words v i) (rule_words w i) (part_length v (5 * i) (omega (arith, valid_long ss v gv))) (part_length w (5 * i) (omega (arith, valid_long ss w gw)))
        (rule_fits v fv i) (rule_fits w fw i)
        (same_at (top (setting_of ss i).time) (rule_words v i) (rule_words w i) (e i h)
        (none_above (setting_of ss i) i v (valid_set_lem ss v gv i h)) (none_above (setting_of ss i) i w (valid_set_lem ss w gw i h)))
