-- Lists that a caller keeps, loaded as a state.
use Rattle.std.specs.Prelude.{Option, Some, None, Result, Ok, Err, is_err}
use Prim.Native.Nat.{ℕ}
use mathlib.Core.Path.{◌≡◌, refl, sym, ap, ◌∙◌, subst}
use mathlib.Core.Bool.{Bool, true, false, cond, ◌&&◌}
use mathlib.Core.List.{List}
use native.Mathlib.Omega.{arith}
use lib.Dec.{T, leb, eqb}
use lib.ListN.{length, get_or}
use borrow.Author.Tests.{eq-eqb, eqb-true}
use Rattle.lists.proofs.Bools.{both_true}
use Rattle.refusals.specs.declared.Refusal.{Refusal}
use Rattle.refusals.specs.Refusals.{answer, refused, answer_of, passes}
use Rattle.rules.specs.Samples.{cell_count}
use Rattle.rules.specs.Table.{rows}
use Rattle.limits.specs.Limits.{limits_answer, settings_of}
use Rattle.states.proofs.ValidWords.{valid_long}
use Rattle.live.specs.declared.Live.{Live}
use Rattle.live.specs.State.{good, begun}
use Rattle.live.specs.Calls.{begin_answer, begin_state}
use Rattle.live.proofs.GoodStates.{parts}
use Rattle.buttmitrel_live.specs.Live.{state_of, is_kept}
use Rattle.buttmitrel_live.specs.inner.Keeping.{are_totals, totals_of, Filled, Loaded}

-- The tests of totals in a list.
module _ (t : List ℕ) where
  totals_tests : are_totals t ≡ true → (eqb (length t) 4 ≡ true) × (leb (get_or t 2 0) 0xFFFFFFFF ≡ true) × (leb (get_or t 3 0) 0xFFFFFFFF ≡ true)
  totals_tests h =
      let (a, c) = both_true (eqb (length t) 4 && leb (get_or t 2 0) 0xFFFFFFFF) (leb (get_or t 3 0) 0xFFFFFFFF) h in
      let (l, b) = both_true (eqb (length t) 4) (leb (get_or t 2 0) 0xFFFFFFFF) a in (l, b, c)

  four_long : are_totals t ≡ true → length t ≡ 4
  four_long h = eqb-true (length t) 4 (totals_tests h).0

  kept_is : (rules : List ℕ) → length rules ≡ 160 → are_totals t ≡ true → is_kept rules t ≡ true
  kept_is rules l h = let (a, b, c) = totals_tests h in rw (eq-eqb (length rules) 160 l, a, b, c)

  kept_tests : (rules : List ℕ) → is_kept rules t ≡ true → (eqb (length rules) 160 ≡ true) × (are_totals t ≡ true)
  kept_tests rules h =
      let (x, c) = both_true (eqb (length rules) 160 && eqb (length t) 4 && leb (get_or t 2 0) 0xFFFFFFFF) (leb (get_or t 3 0) 0xFFFFFFFF) h in
      let (y, b) = both_true (eqb (length rules) 160 && eqb (length t) 4) (leb (get_or t 2 0) 0xFFFFFFFF) x in
      let (r, l) = both_true (eqb (length rules) 160) (eqb (length t) 4) y in (r, rw (l, b, c))

-- What is not true is false.
not_so : (b : Bool) → (b ≡ true → ⊥) → b ≡ false
not_so true h = absurd (h refl)
not_so false h = refl

-- A state that is loaded, and one that is not.
module _ (n idle : ℕ) (rules words totals : List ℕ) where
  begun_rules : begin_answer n idle rules ≡ answer tt → length rules ≡ 160
  unfolding begin_answer
  begun_rules e = go (cell_count n) (leb idle 32766) (eqb (length rules) 160) refl e
    where
      go : (a b c : Bool) → eqb (length rules) 160 ≡ c → cond a (cond b (cond c (limits_answer n rows (settings_of rules) 0) (refused 6 0)) (refused 4 0)) (refused 3 0) ≡ answer tt → length rules ≡ 160
      go true true true q e = eqb-true (length rules) 160 q
      go true true false q e = let z : ◌≡◌ {A = ℕ} 0 1 = cc in absurd (omega arith)
      go true false c q e = let z : ◌≡◌ {A = ℕ} 0 1 = cc in absurd (omega arith)
      go false b c q e = let z : ◌≡◌ {A = ℕ} 0 1 = cc in absurd (omega arith)

  unbegun : {number place : ℕ} → refused number place ≡ begin_answer n idle rules → (is_kept rules totals && good (state_of n idle rules words totals)) ≡ false
  unfolding begin_answer
  unbegun {number} {place} e = not_so (is_kept rules totals && good (state_of n idle rules words totals)) (λ h.
      let (k, g) = both_true (is_kept rules totals) (good (state_of n idle rules words totals)) h in
      let p = parts (state_of n idle rules words totals) g in
      let d : refused number place ≡ limits_answer n rows (settings_of rules) 0 = rw (p.cells, p.idle, (kept_tests totals rules k).0) at e in
      let q : false ≡ true = ap (passes {A = Unit {0}}) d ∙ p.rules in
      let z : ◌≡◌ {A = ℕ} 0 1 = cc in absurd (omega arith))

  pub unloaded : (a : Result (Unit {0}) Refusal) → is_err a ≡ true → answer_of a ≡ begin_answer n idle rules → Loaded None rules words totals (state_of n idle rules words totals)
  unloaded (Ok done) e f = let z : ◌≡◌ {A = ℕ} 0 1 = cc in absurd (omega arith)
  unloaded (Err why) e f = unbegun f

  -- Of a beginning that is taken.
  module _ {st : Live} (e : answer tt ≡ begin_answer n idle rules) (f : st ≡ begin_state n idle rules) where
    filled_is_loaded : (r : Option Live) → Filled r st words totals → Loaded r rules words totals (state_of n idle rules words totals)
    filled_is_loaded (Some r) (l, t, s) =
        let b : st ≡ begun n idle (settings_of rules) = rw (← e) at f in (
          kept_is totals rules (begun_rules (sym e)) t,
          l,
          four_long totals t,
          s ∙ ap (λ (o : Live). record { cells = o.cells; idle = o.idle; settings = o.settings; states = record { words = words }; totals = totals_of totals }) b,
        )
    filled_is_loaded None g = not_so (is_kept rules totals && good (state_of n idle rules words totals)) (λ h.
        let (k, i) = both_true (is_kept rules totals) (good (state_of n idle rules words totals)) h in
        let l : length words ≡ 80 = valid_long (settings_of rules) words (subst T (sym (parts (state_of n idle rules words totals) i).states) tt) in
        let t : are_totals totals ≡ true = (kept_tests totals rules k).1 in
        let a : (eqb (length words) 80 && are_totals totals) ≡ true = rw (eq-eqb (length words) 80 l, t) in
        let x : false ≡ true = sym g ∙ a in
        let z : ◌≡◌ {A = ℕ} 0 1 = cc in absurd (omega arith))

  pub loaded : {st : Live} (a : Result (Unit {0}) Refusal) → is_err a ≡ false → answer_of a ≡ begin_answer n idle rules → st ≡ begin_state n idle rules
      → (r : Option Live) → Filled r st words totals → Loaded r rules words totals (state_of n idle rules words totals)
  loaded (Ok done) e f g r h = filled_is_loaded f g r h
  loaded (Err why) e f g r h = let z : ◌≡◌ {A = ℕ} 0 1 = cc in absurd (omega arith)
