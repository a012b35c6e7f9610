-- The record keeps a trace's possible states: from the start, over seen and unseen ticks, and in its flags.
use Prim.Native.Nat.{ℕ, suc, ◌/◌, ◌%◌, ◌≤◌, ◌<◌}
use mathlib.Core.Path.{◌≡◌, refl, ap, sym, ◌∙◌}
use mathlib.Core.List.{List, []}
use mathlib.Core.Bool.{Bool, true, false, cond, ◌&&◌}
use native.Mathlib.Omega.{arith}
use lib.Dec.{ltb}
use lib.ListN.{get_or, length}
use borrow.Author.Tests.{ltb-false}
use Rattle.lists.proofs.Bools.{both_true, tabulate_same}
use Rattle.rules.specs.Samples.{Sample, readings_of}
use Rattle.rules.specs.Table.{row_at}
use Rattle.rules.specs.Evaluation.{trips, clears, top, evaluated, evaluations}
use Rattle.fillings.specs.Fillings.{Rule, last, Shown, seen, unseen, Config, rule_of}
use Rattle.fillings.specs.PossibleStates.{found, moves, next, start, possible, unseen_times}
use Rattle.fillings.specs.Flags.{flags_of, flags_at}
use Rattle.fillings.proofs.Still.{possible_length, possible_hole}
use Rattle.states.specs.Records.{states_of, words_of, rule_words, record_with, packed, fresh}
use Rattle.limits.specs.Limits.{setting_of}
use Rattle.states.specs.Steps.{set_of, moves_at, seen_words, after_seen, evaluations_of, moves_between, unseen_words, after_unseen}
use Rattle.states.specs.Readings.{all_flags}
use Rattle.states.specs.promises.Tracking.{record_at, ShortTimes, Tracks}
use Rattle.states.proofs.Packing.{words_of_length, states_words}
use Rattle.states.proofs.AtZero.{start_words}
use Rattle.states.proofs.RuleWords.{record_length, record_at_lem}
use Rattle.states.proofs.EachRule.{record_same, rule_new}
use Rattle.states.proofs.RuleSteps.{seen_done, unseen_done}
use Rattle.states.proofs.RuleFlagLaws.{read_all}
use Rattle.states.proofs.OffRules.{off_possible}
use Rattle.states.proofs.Tops.{top_fits}

packed_length : (f : ℕ → List Bool) → length (packed f) ≡ 80
packed_length f = record_length (λ i. true) (λ i. words_of (f i)) []

packed_at : (f : ℕ → List Bool) (k : ℕ) → k < 80 → get_or (packed f) k 0 ≡ get_or (words_of (f (k / 5))) (k % 5) 0
packed_at f k h = record_at_lem (λ i. true) (λ i. words_of (f i)) [] k h

packed_rule : (f : ℕ → List Bool) (i : ℕ) → i < 16 → rule_words (packed f) i ≡ words_of (f i)
packed_rule f i h = rule_new (λ j. true) (λ j. words_of (f j)) [] i h (words_of_length (f i)) refl

-- A record of sixteen sets of which some change.
changed : (f g : ℕ → List Bool) (c : ℕ → Bool) (new : ℕ → List ℕ) → ((i : ℕ) → i < 16 → c i ≡ true → new i ≡ words_of (g i)) → ((i : ℕ) → i < 16 → c i ≡ false → f i ≡ g i)
    → record_with c new (packed f) ≡ packed g
changed f g c new moved kept =
    record_same c (λ i. true) new (λ i. words_of (g i)) (packed f) []
    (λ k h. go k h (c (k / 5)) refl)
  where
    go : (k : ℕ) → k < 80 → (b : Bool) → c (k / 5) ≡ b → cond (c (k / 5)) (get_or (new (k / 5)) (k % 5) 0) (get_or (packed f) k 0) ≡ get_or (words_of (g (k / 5))) (k % 5) 0
    go k h true e =
        ap (λ (b : Bool). cond b (get_or (new (k / 5)) (k % 5) 0) (get_or (packed f) k 0)) e
        ∙ ap (λ (w : List ℕ). get_or w (k % 5) 0) (moved (k / 5) (omega arith) e)
    go k h false e =
        ap (λ (b : Bool). cond b (get_or (new (k / 5)) (k % 5) 0) (get_or (packed f) k 0)) e
        ∙ packed_at f k h
        ∙ ap (λ (p : List Bool). get_or (words_of p) (k % 5) 0) (kept (k / 5) (omega arith) e)

-- One rule over a seen tick.
seen_step : (r : Rule) (trace : ℕ → Shown) (k : ℕ) (x : Sample) → trace k ≡ seen x → evaluated r.row k ≡ true
    → next (last r) (found (trips r.idle r.row r.setting (readings_of x)) (clears r.row r.setting (readings_of x))) (possible r trace k) ≡ possible r trace (suc k)
unfolding possible moves
seen_step r trace k x e v =
    sym
    (ap (λ (b : Bool). cond b (next (last r) (moves r (trace k)) (possible r trace k)) (possible r trace k)) v
    ∙ ap (λ (y : Shown). next (last r) (moves r y) (possible r trace k)) e)

still_step : (r : Rule) (trace : ℕ → Shown) (k : ℕ) → evaluated r.row k ≡ false → possible r trace k ≡ possible r trace (suc k)
unfolding possible
still_step r trace k v = sym (ap (λ (b : Bool). cond b (next (last r) (moves r (trace k)) (possible r trace k)) (possible r trace k)) v)

no_evaluation : (r : Rule) (trace : ℕ → Shown) (a b : ℕ) → a ≤ b → ((t : ℕ) → a ≤ t → t ≤ b → trace t ≡ unseen) → evaluations r.row a (suc b) ≡ 0
    → possible r trace a ≡ possible r trace (suc b)
unfolding unseen_times
no_evaluation r trace a b h u e =
    sym
    (possible_hole r trace a (suc b) (omega arith) (λ t l g. u t l (omega arith))
    ∙ ap (λ (n : ℕ). unseen_times n (last r) r.row.recovers (possible r trace a)) e)

module _ (p : Config) (short : ShortTimes p) (trace : ℕ → Shown) where
  abbrev P : ℕ → ℕ → List Bool
  P k i = possible (rule_of p i) trace k

  top_low : (i : ℕ) → last (rule_of p i) ≤ 256
  top_low i = let h : (setting_of p.settings i).time ≤ 255 = short i in top_fits (setting_of p.settings i).time (omega arith)

  -- the set that the record has for a rule
  set_at : (k i : ℕ) → i < 16 → set_of (setting_of p.settings i) i (record_at p trace k) ≡ possible (rule_of p i) trace k
  set_at k i h =
      ap (λ (w : List ℕ). states_of w (last (rule_of p i))) (packed_rule (P k) i h)
      ∙ states_words (P k i) (last (rule_of p i)) (possible_length (rule_of p i) trace k) (omega (arith, top_low i))

  off_top : (i : ℕ) → ltb 0 (setting_of p.settings i).time ≡ false → last (rule_of p i) ≡ 0
  off_top i e = let z : (setting_of p.settings i).time ≤ 0 = ltb-false 0 (setting_of p.settings i).time e in let y : (setting_of p.settings i).time ≡ 0 = omega arith in ap top y

  -- a rule that does not move has the same set before and after
  kept : (a b i : ℕ) (t v : Bool) → t ≡ ltb 0 (setting_of p.settings i).time → (t && v) ≡ false → (v ≡ false → P a i ≡ P b i) → P a i ≡ P b i
  kept a b i true v et e f = f e
  kept a b i false v et e f = off_possible (rule_of p i) trace a (off_top i (sym et)) ∙ sym (off_possible (rule_of p i) trace b (off_top i (sym et)))

  begins : fresh ≡ record_at p trace 0
  unfolding possible
  begins =
      record_same (λ i. true) (λ i. true) (λ i. words_of (start 0)) (λ i. words_of (P 0 i)) [] []
      (λ k h. ap (λ (w : List ℕ). get_or w (k % 5) 0) (sym (start_words (last (rule_of p (k / 5))))))

  sees : (k : ℕ) (x : Sample) → trace k ≡ seen x → after_seen p.settings p.idle k (readings_of x) (record_at p trace k) ≡ record_at p trace (suc k)
  sees k x e =
      sym (seen_done p.settings p.idle k (readings_of x) (record_at p trace k) (record_at p trace (suc k)) (packed_length (P k))
      (sym
      (changed (P k) (P (suc k)) (λ i. moves_at k (setting_of p.settings i) i) (λ i. seen_words p.idle (readings_of x) (setting_of p.settings i) i (record_at p trace k))
      (λ i h c.
      ap (λ (q : List Bool). words_of (next (last (rule_of p i)) (found (trips p.idle (row_at i) (setting_of p.settings i) (readings_of x)) (clears (row_at i) (setting_of p.settings i) (readings_of x))) q)) (set_at k i h)
      ∙ ap words_of (seen_step (rule_of p i) trace k x e (both_true (ltb 0 (setting_of p.settings i).time) (evaluated (row_at i) k) c).1))
      (λ i h c. kept k (suc k) i (ltb 0 (setting_of p.settings i).time) (evaluated (row_at i) k) refl c (still_step (rule_of p i) trace k)))))

  misses : (first last : ℕ) → first ≤ last → ((t : ℕ) → first ≤ t → t ≤ last → trace t ≡ unseen)
      → after_unseen p.settings first last (record_at p trace first) ≡ record_at p trace (suc last)
  misses a b l u =
      sym (unseen_done p.settings a b (record_at p trace a) (record_at p trace (suc b)) (packed_length (P a))
      (sym
      (changed (P a) (P (suc b)) (λ i. moves_between a b (setting_of p.settings i) i) (λ i. unseen_words a b (setting_of p.settings i) i (record_at p trace a))
      (λ i h c.
      ap (λ (q : List Bool). words_of (unseen_times (evaluations_of a b i) (last (rule_of p i)) (row_at i).recovers q)) (set_at a i h)
      ∙ ap words_of (sym (possible_hole (rule_of p i) trace a (suc b) (omega arith) (λ t g k. u t g (omega arith)))))
      (λ i h c. kept a (suc b) i (ltb 0 (setting_of p.settings i).time) (ltb 0 (evaluations_of a b i)) refl c
      (λ v. let z : evaluations_of a b i ≤ 0 = ltb-false 0 (evaluations_of a b i) v in no_evaluation (rule_of p i) trace a b l u (omega arith))))))

  reads : (k : ℕ) → all_flags p.settings (record_at p trace k) ≡ flags_at p trace k
  reads k =
      sym (read_all p.settings (record_at p trace k) (packed_length (P k)))
      ∙ tabulate_same 16 _ _ (λ i h. ap (flags_of (row_at i) (last (rule_of p i))) (set_at k i h))

-- The record follows every trace whose times are at most 255.
pub tracks : (p : Config) → ShortTimes p → (trace : ℕ → Shown) → Tracks p trace
tracks p short trace =
    record { begins = begins p short trace; sees = sees p short trace; misses = misses p short trace; reads = reads p short trace }
