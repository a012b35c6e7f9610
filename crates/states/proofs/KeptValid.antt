-- A record of possible states stays one: from the start, over a seen tick, and over unseen ticks.
use Prim.Native.Nat.{ℕ, zero, suc, ◌≤◌, ◌<◌}
use mathlib.Core.Path.{◌≡◌, refl, sym, ◌∙◌, subst}
use mathlib.Core.List.{List, []}
use mathlib.Core.Bool.{Bool, true, false, not, ◌||◌}
use mathlib.Core.Logic.{⊎_elim}
use native.Mathlib.Omega.{arith}
use native.Mathlib.Nat.{eq-or-lt_of_le}
use lib.Dec.{T, eqb}
use lib.ListN.{length, get_or-eq_default}
use borrow.Author.Tests.{eq-eqb}
use Rattle.lists.specs.Lists.{some_below, every_below}
use Rattle.lists.proofs.Bools.{and_left, both, or_elim, some_intro, some_elim, every_intro}
use Rattle.rules.specs.declared.Setting.{Setting}
use Rattle.rules.specs.declared.Readings.{Readings}
use Rattle.rules.specs.Table.{row_at}
use Rattle.rules.specs.Evaluation.{trips, clears, top}
use Rattle.fillings.specs.PossibleStates.{has, Moves, found, anything, next, start, unseen_times}
use Rattle.fillings.proofs.Next.{next_length, unseen_length, by_up, by_restart, by_leave, by_stay}
use Rattle.states.specs.Records.{at, states_of, words_of, rule_words, record_with, fresh}
use Rattle.limits.specs.Limits.{setting_of}
use Rattle.states.specs.Steps.{set_of, moves_at, after_seen, evaluations_of, moves_between, after_unseen}
use Rattle.states.specs.Validity.{valid_set, valid_record}
use Rattle.states.specs.inner.Rules.{valid_words}
use Rattle.states.proofs.Packing.{words_of_length, at_words_of}
use Rattle.states.proofs.Moving.{states_length, has_states}
use Rattle.states.proofs.RuleWords.{record_length}
use Rattle.states.proofs.EachRule.{rule_kept, rule_new}
use Rattle.states.proofs.Tops.{top_fits}
use Rattle.states.proofs.ValidWords.{above, valid_of, valid_long, valid_set_lem}

-- The words of a set in which some state is.
set_valid : (m : ℕ) (p : List Bool) → m ≤ 256 → length p ≡ suc m → T (some_below (suc m) (has p)) → T (valid_words m (words_of p))
set_valid m p l e t =
    let (s, h, u) = some_elim (suc m) (has p) t in
    valid_of m (words_of p) s (omega arith) (subst T (sym (at_words_of p s (omega arith))) u)
    (λ k i g. at_words_of p k g ∙ get_or-eq_default p false {n = k} (omega arith))

-- An evaluation that can go on from every state leaves some state.
next_some : (m : ℕ) (w : Moves) (p : List Bool) → T (w.up || w.restart) → T (w.leave || w.stay) → T (some_below (suc m) (has p))
    → T (some_below (suc m) (has (next m w p)))
next_some m w p low high t =
    let (s, h, u) = some_elim (suc m) (has p) t in
    let l : s ≤ m = omega arith in
    ⊎_elim
    (λ e.
    let v : T (has p m) = subst (λ (i : ℕ). T (has p i)) e u in
    or_elim w.leave w.stay high (λ a. there 0 (omega arith) (by_leave m w p v a)) (λ a. there m (omega arith) (by_stay m w p v a)))
    (λ g.
    or_elim w.up w.restart low (λ a. there (suc s) (omega arith) (by_up m w p s g u a)) (λ a. there 0 (omega arith) (by_restart m w p s g u a)))
    (eq-or-lt_of_le l)
  where
    there : (i : ℕ) → i ≤ m → T (has (next m w p) i) → T (some_below (suc m) (has (next m w p)))
    there i h v = some_intro (suc m) (has (next m w p)) i (omega arith) v

unseen_some : (n m : ℕ) (recovers : Bool) (p : List Bool) → T (some_below (suc m) (has p)) → T (some_below (suc m) (has (unseen_times n m recovers p)))
unfolding unseen_times
unseen_some zero m recovers p t = t
unseen_some (suc n) m recovers p t = next_some m (anything recovers) (unseen_times n m recovers p) tt (go recovers) (unseen_some n m recovers p t)
  where
    go : (b : Bool) → T (b || true)
    go true = tt
    go false = tt

-- No time of the sixteen rules is over 255.
abbrev pub Short : List Setting → Type 0
Short ss = (i : ℕ) → i < 16 → (setting_of ss i).time ≤ 255

abbrev top_of : List Setting → ℕ → ℕ
top_of ss i = top (setting_of ss i).time

low_top : (ss : List Setting) → Short ss → (i : ℕ) → i < 16 → top_of ss i ≤ 256
low_top ss short i h = let l = short i h in top_fits (setting_of ss i).time (omega arith)

-- A record of which some rules have new words.
record_valid : (ss : List Setting) (c : ℕ → Bool) (new : ℕ → List ℕ) (ws : List ℕ)
    → ((i : ℕ) → i < 16 → c i ≡ true → (length (new i) ≡ 5) × T (valid_words (top_of ss i) (new i)))
    → ((i : ℕ) → i < 16 → c i ≡ false → (length ws ≡ 80) × T (valid_words (top_of ss i) (rule_words ws i)))
    → T (valid_record ss (record_with c new ws))
unfolding valid_record
record_valid ss c new ws changed kept =
    both (eqb (length (record_with c new ws)) 80) (every_below 16 (λ i. valid_set (setting_of ss i) i (record_with c new ws)))
    (subst T (sym (eq-eqb (length (record_with c new ws)) 80 (record_length c new ws))) tt)
    (every_intro 16 (λ i. valid_set (setting_of ss i) i (record_with c new ws)) (λ i h. go i h (c i) refl))
  where
    go : (i : ℕ) → i < 16 → (b : Bool) → c i ≡ b → T (valid_words (top_of ss i) (rule_words (record_with c new ws) i))
    go i h true e =
        let (l, t) = changed i h e in
        subst (λ (w : List ℕ). T (valid_words (top_of ss i) w)) (sym (rule_new c new ws i h l e)) t
    go i h false e =
        let (l, t) = kept i h e in
        subst (λ (w : List ℕ). T (valid_words (top_of ss i) w)) (sym (rule_kept c new ws i h l e)) t

pub fresh_valid : (ss : List Setting) → T (valid_record ss fresh)
fresh_valid ss =
    record_valid ss (λ i. true) (λ i. words_of (start 0)) []
    (λ i h e. (words_of_length (start 0), valid_of (top_of ss i) (words_of (start 0)) 0 (omega arith) (subst T (sym (at_words_of (start 0) 0 (omega arith))) tt) none))
    (λ i h e. let z : ◌≡◌ {A = ℕ} 0 1 = cc in absurd (omega arith))
  where
    none : {m : ℕ} → (p : ℕ) → m < p → p < 320 → at (words_of (start 0)) p ≡ false
    none zero l h = absurd (omega arith)
    none (suc p) l h = at_words_of (start 0) (suc p) h

-- What a valid record has for a rule.
module _ (ss : List Setting) (ws : List ℕ) (t : T (valid_record ss ws)) where
  some_state : (i : ℕ) → i < 16 → T (some_below (suc (top_of ss i)) (has (set_of (setting_of ss i) i ws)))
  some_state i h =
      let m : ℕ = top_of ss i in
      let w : List ℕ = rule_words ws i in
      let (s, l, u) = some_elim (suc m) (at w) (and_left (some_below (suc m) (at w)) (not (some_below 320 (above m w))) (valid_set_lem ss ws t i h)) in
      some_intro (suc m) (has (states_of w m)) s l (subst T (sym (has_states w m s (omega arith))) u)

  module _ (short : Short ss) where
    -- the words of new sets in which some state is
    moved : (c : ℕ → Bool) (sets : ℕ → List Bool) → ((i : ℕ) → i < 16 → (length (sets i) ≡ suc (top_of ss i)) × T (some_below (suc (top_of ss i)) (has (sets i))))
        → T (valid_record ss (record_with c (λ i. words_of (sets i)) ws))
    moved c sets new =
        record_valid ss c (λ i. words_of (sets i)) ws
        (λ i h e. let (l, u) = new i h in (words_of_length (sets i), set_valid (top_of ss i) (sets i) (low_top ss short i h) l u))
        (λ i h e. (valid_long ss ws t, valid_set_lem ss ws t i h))

    pub seen_valid : (idle tick : ℕ) (r : Readings) → T (valid_record ss (after_seen ss idle tick r ws))
    unfolding after_seen
    seen_valid idle tick r =
        rw (eq-eqb (length ws) 80 (valid_long ss ws t))
        (moved (λ i. moves_at tick (setting_of ss i) i) (λ i. next (top_of ss i) (mv i) (set_of (setting_of ss i) i ws))
        (λ i h. (next_length (top_of ss i) (mv i) (set_of (setting_of ss i) i ws), next_some (top_of ss i) (mv i) (set_of (setting_of ss i) i ws) (either (mv i).up) (either (mv i).leave) (some_state i h))))
      where
        mv : ℕ → Moves
        mv i = found (trips idle (row_at i) (setting_of ss i) r) (clears (row_at i) (setting_of ss i) r)

        either : (b : Bool) → T (b || not b)
        either true = tt
        either false = tt

    pub unseen_valid : (first last : ℕ) → T (valid_record ss (after_unseen ss first last ws))
    unfolding after_unseen states_of
    unseen_valid first last =
        rw (eq-eqb (length ws) 80 (valid_long ss ws t))
        (moved (λ i. moves_between first last (setting_of ss i) i) (λ i. unseen_times (evaluations_of first last i) (top_of ss i) (row_at i).recovers (set_of (setting_of ss i) i ws))
        (λ i h. (
          unseen_length (evaluations_of first last i) (top_of ss i) (row_at i).recovers (set_of (setting_of ss i) i ws) (states_length (rule_words ws i) (top_of ss i)),
          unseen_some (evaluations_of first last i) (top_of ss i) (row_at i).recovers (set_of (setting_of ss i) i ws) (some_state i h),
        )))
