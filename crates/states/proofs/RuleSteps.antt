-- What a seen tick and unseen ticks make of one rule, as code computes it.
use Prim.Native.Nat.{ℕ, zero, suc, ◌+◌, ◌≤◌, ◌<◌}
use mathlib.Core.Path.{◌≡◌, refl, ap, ap₂, sym, ◌∙◌}
use mathlib.Core.List.{List}
use mathlib.Core.Bool.{Bool, true, false, cond, ◌&&◌, and-false}
use native.Mathlib.Omega.{arith}
use lib.Dec.{ltb, eqb}
use lib.ListN.{length}
use borrow.Author.Tests.{lt-ltb, ltb-true, eq-eqb}
use Rattle.lists.proofs.Bools.{both_true}
use Rattle.rules.specs.declared.Row.{Row}
use Rattle.rules.specs.declared.Setting.{Setting}
use Rattle.rules.specs.declared.Readings.{Readings}
use Rattle.rules.specs.Table.{row_at}
use Rattle.rules.specs.Evaluation.{trips, clears, top, evaluations}
use Rattle.fillings.specs.PossibleStates.{found, next, unseen_times}
use Rattle.states.specs.Records.{states_of, words_of, rule_words, record_with}
use Rattle.states.proofs.EachRule.{Moving, moving_length, moving_read, moving_moved, moving_stays, moving_end}
use Rattle.states.proofs.RuleWords.{same_rule}
use Rattle.states.specs.inner.Rules.{evaluated_words}
use Rattle.limits.specs.Limits.{setting_of}
use Rattle.states.specs.Steps.{moves_by, moves_at, seen_words, after_seen, evaluations_of, moves_between, unseen_words, after_unseen}

pub positive : (t : ℕ) → (t ≡ 0 → ⊥) → 0 < t
positive zero n = absurd (n refl)
positive (suc t) n = omega arith

-- A rule that a seen tick moves is switched on.
pub moves_on : (time : ℕ) (a : Bool) {b : Bool} → b ≡ (ltb 0 time && a) → b ≡ true → 0 < time
moves_on time a e t = ltb-true 0 time (both_true (ltb 0 time) a (sym e ∙ t)).0

-- The words of a rule after a seen evaluation, as code computes them.
pub evaluated_made : (idle : ℕ) (r : Readings) (s : Setting) (w v : List ℕ) (row : Row) {m : ℕ} {trip clear : Bool} → trip ≡ trips idle row s r
    → clear ≡ clears row s r → m ≡ top s.time → v ≡ words_of (next m (found trip clear) (states_of w m)) → v ≡ evaluated_words row idle r s w
evaluated_made idle r s w v row {m} {trip} {clear} et ec em e =
    e
    ∙ ap (λ (x : ℕ). words_of (next x (found trip clear) (states_of w x))) em
    ∙ ap₂ (λ (x y : Bool). words_of (next (top s.time) (found x y) (states_of w (top s.time)))) et ec

between : (i first last n : ℕ) (row : Row) → row ≡ row_at i → n ≡ evaluations row first (suc last) → evaluations_of first last i ≡ n
between i first last n row er en = sym (en ∙ ap (λ (x : Row). evaluations x first (suc last)) er)

-- The loop over the rules at a seen tick.
module _ (ss : List Setting) (idle tick : ℕ) (r : Readings) (ws₀ : List ℕ) where
  abbrev sees : ℕ → Bool
  sees i = moves_at tick (setting_of ss i) i

  abbrev seen_to : ℕ → List ℕ
  seen_to i = seen_words idle r (setting_of ss i) i ws₀

  abbrev pub Seeing : List ℕ → ℕ → Type 0
  Seeing ws i = Moving sees seen_to ws₀ ws i

  pub seeing_moved : (ws out w v : List ℕ) (i : ℕ) (row : Row) {b : Bool} → row ≡ row_at i → Seeing ws i → i < 16 → b ≡ moves_by row tick (setting_of ss i) → b ≡ true
      → w ≡ rule_words ws i → v ≡ evaluated_words row idle r (setting_of ss i) w → out ≡ record_with (λ j. eqb j i) (λ j. v) ws → Seeing out (i + 1)
  seeing_moved ws out w v i row er g h eb b ew e o =
      moving_moved sees seen_to ws₀ ws out v i g h (sym (ap (λ (x : Row). moves_by x tick (setting_of ss i)) er) ∙ sym eb ∙ b) o
      (e ∙ ap₂ (λ (x : Row) (y : List ℕ). evaluated_words x idle r (setting_of ss i) y) er (ew ∙ moving_read sees seen_to ws₀ ws i g h))

  -- a rule whose words are after its evaluation what they were
  pub seeing_kept : (ws out w : List ℕ) (i : ℕ) (row : Row) {b : Bool} → row ≡ row_at i → Seeing ws i → i < 16 → b ≡ moves_by row tick (setting_of ss i) → b ≡ true
      → w ≡ rule_words ws i → w ≡ evaluated_words row idle r (setting_of ss i) w → out ≡ ws → Seeing out (i + 1)
  seeing_kept ws out w i row er g h eb b ew e o =
      seeing_moved ws out w w i row er g h eb b ew e (o ∙ sym (same_rule ws w i (moving_length sees seen_to ws₀ ws i g) ew))

  pub seeing_stays : (ws out : List ℕ) (i : ℕ) (row : Row) {b : Bool} → row ≡ row_at i → Seeing ws i → i < 16 → b ≡ moves_by row tick (setting_of ss i) → b ≡ false
      → out ≡ ws → Seeing out (i + 1)
  seeing_stays ws out i row er g h eb b o =
      moving_stays sees seen_to ws₀ ws out i g h (sym (ap (λ (x : Row). moves_by x tick (setting_of ss i)) er) ∙ sym eb ∙ b) o

  pub seen_done : (out : List ℕ) → length ws₀ ≡ 80
      → out ≡ record_with sees seen_to ws₀ → out ≡ after_seen ss idle tick r ws₀
  unfolding after_seen
  seen_done out l e =
      e ∙ sym (ap (λ (b : Bool). cond b (record_with sees seen_to ws₀) ws₀) (eq-eqb (length ws₀) 80 l))

  pub seeing_end : (ws : List ℕ) (i : ℕ) → Seeing ws i → 16 ≤ i → ws ≡ after_seen ss idle tick r ws₀
  seeing_end ws i g h =
      seen_done ws g.long (moving_end sees seen_to ws₀ ws i g h)

-- The loop over the rules in a run of unseen ticks.
module _ (ss : List Setting) (first last : ℕ) (ws₀ : List ℕ) where
  abbrev misses : ℕ → Bool
  misses i = moves_between first last (setting_of ss i) i

  abbrev missed_to : ℕ → List ℕ
  missed_to i = unseen_words first last (setting_of ss i) i ws₀

  abbrev pub Missing : List ℕ → ℕ → Type 0
  Missing ws i = Moving misses missed_to ws₀ ws i

  pub missing_moved : (ws out w v : List ℕ) (i : ℕ) (row : Row) {n m : ℕ} → row ≡ row_at i → Missing ws i → i < 16 → ((setting_of ss i).time ≡ 0 → ⊥)
      → n ≡ evaluations row first (suc last) → (n ≡ 0 → ⊥) → m ≡ top (setting_of ss i).time → w ≡ rule_words ws i
      → v ≡ words_of (unseen_times n m row.recovers (states_of w m)) → out ≡ record_with (λ j. eqb j i) (λ j. v) ws → Missing out (i + 1)
  missing_moved ws out w v i row {n} {m} er g h t en z em ew e o =
      moving_moved misses missed_to ws₀ ws out v i g h (ap₂ ◌&&◌ (lt-ltb 0 _ (positive _ t)) (ap (ltb 0) (between i first last n row er en) ∙ lt-ltb 0 n (positive n z))) o
      (e
      ∙ ap₂ (λ (x y : ℕ). words_of (unseen_times x y row.recovers (states_of w y))) (sym (between i first last n row er en)) em
      ∙ ap₂ (λ (x : Row) (y : List ℕ). words_of (unseen_times (evaluations_of first last i) (top (setting_of ss i).time) x.recovers (states_of y (top (setting_of ss i).time))))
      er (ew ∙ moving_read misses missed_to ws₀ ws i g h))

  pub missing_off : (ws out : List ℕ) (i : ℕ) → Missing ws i → i < 16 → (setting_of ss i).time ≡ 0 → out ≡ ws → Missing out (i + 1)
  missing_off ws out i g h e o = moving_stays misses missed_to ws₀ ws out i g h (ap (λ (x : ℕ). ltb 0 x && ltb 0 (evaluations_of first last i)) e) o

  pub missing_idle : (ws out : List ℕ) (i : ℕ) (row : Row) {n : ℕ} → row ≡ row_at i → Missing ws i → i < 16 → n ≡ evaluations row first (suc last) → n ≡ 0 → out ≡ ws → Missing out (i + 1)
  missing_idle ws out i row {n} er g h en z o =
      moving_stays misses missed_to ws₀ ws out i g h
      (ap (λ (x : Bool). ltb 0 (setting_of ss i).time && x) (ap (ltb 0) (between i first last n row er en ∙ z)) ∙ and-false (ltb 0 (setting_of ss i).time)) o

  pub unseen_done : (out : List ℕ) → length ws₀ ≡ 80
      → out ≡ record_with misses missed_to ws₀ → out ≡ after_unseen ss first last ws₀
  unfolding after_unseen
  unseen_done out l e =
      e ∙ sym (ap (λ (b : Bool). cond b (record_with misses missed_to ws₀) ws₀) (eq-eqb (length ws₀) 80 l))

  pub missing_end : (ws : List ℕ) (i : ℕ) → Missing ws i → 16 ≤ i → ws ≡ after_unseen ss first last ws₀
  missing_end ws i g h =
      unseen_done ws g.long (moving_end misses missed_to ws₀ ws i g h)
