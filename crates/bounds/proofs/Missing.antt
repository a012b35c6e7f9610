-- The loop over all rules at a run of unseen ticks, by halves.
use Prim.Native.Nat.{ℕ, zero, suc, ◌+◌, ◌-◌, ◌≤◌, ◌<◌}
use native.Mathlib.Omega.{arith}
use mathlib.Core.Path.{◌≡◌, refl, ap, ap₂, ◌∙◌}
use mathlib.Core.Bool.{cond, ◌&&◌}
use mathlib.Core.List.{List, ◌++◌}
use lib.Dec.{ltb, leb, eqb}
use lib.ListN.{get_or, length, set}
use borrow.Author.Tests.{lt-ltb, ne_eqb}
use Rattle.lists.proofs.Laying.{laying_end}
use Rattle.rules.specs.declared.Row.{Row}
use Rattle.rules.specs.Table.{row_at}
use Rattle.rules.specs.Evaluation.{evaluations}
use Rattle.bounds.specs.Steps.{least_missed, greatest_missed, evaluations_of, states_missed}
use Rattle.std.specs.Bool.{then_some}
use Rattle.std.specs.Option.{unwrap_or}
use Rattle.std.specs.Prelude.{Option}
use Rattle.bounds.specs.Firsts.{none, noted, tick_of, top_tick, firsts_missed}
use Rattle.bounds.proofs.FirstLaws.{found_or_none}
use Rattle.bounds.proofs.Paired.{paired_same}
use Rattle.bounds.proofs.Halves.{halves, Halved, Turning, turning_start, turning_next, tabulated}

-- Whether there is an evaluation.
pub if_some : (n a b : ℕ) → cond (ltb 0 n) a b ≡ cond (eqb n 0) b a
if_some zero a b = refl
if_some (suc n) a b = rw (lt-ltb 0 (suc n) (omega arith), ne_eqb (suc n) 0 (λ e. omega arith)) refl

module _ (lanes : List ℕ) (first last : ℕ) (least₀ greatest₀ possible₀ : List ℕ) where
  abbrev low : ℕ → ℕ
  low j = least_missed (get_or lanes j 0) (row_at j).recovers (evaluations_of first last j) (get_or least₀ j 0)

  abbrev high : ℕ → ℕ
  high j = greatest_missed (get_or lanes j 0) (evaluations_of first last j) (get_or greatest₀ j 0)

  abbrev found : ℕ → ℕ
  found j = noted (top_tick (row_at j) (get_or lanes j 0) first (evaluations_of first last j) (get_or greatest₀ j 0)) (get_or possible₀ j 0)

  -- The rules below i are done.
  pub record Missing (ls gs ps : List ℕ) (i : ℕ) : Type 0 where
    pub least : Turning low least₀ ls i
    pub greatest : Turning high greatest₀ gs i
    pub possible : Turning found possible₀ ps i

  pub missing_start : length least₀ ≡ 16 → length greatest₀ ≡ 16 → length possible₀ ≡ 16 → Missing least₀ greatest₀ possible₀ 0
  missing_start l g p = record { least = turning_start low least₀ l; greatest = turning_start high greatest₀ g; possible = turning_start found possible₀ p }

  pub missing_next : {ls gs ps : List ℕ} {i n : ℕ} {row : Row} {o : Option ℕ} (a b t : ℕ) → Missing ls gs ps i → i < 16 → row ≡ row_at i → n ≡ evaluations row first (suc last)
      → a ≡ least_missed (get_or lanes i 0) row.recovers n (get_or ls i 0)
      → b ≡ greatest_missed (get_or lanes i 0) n (get_or gs i 0)
      → o ≡ then_some (ltb (get_or gs i 0) (get_or lanes i 0) && leb (get_or lanes i 0 - get_or gs i 0) n) (tick_of row first (get_or lanes i 0 - get_or gs i 0))
      → t ≡ noted (unwrap_or o none) (get_or ps i 0)
      → Missing (set ls i a) (set gs i b) (set ps i t) (i + 1)
  missing_next {ls} {gs} {ps} {i} {n} {row} a b t m h er en ea eb eo et =
      let x : get_or ls i 0 ≡ get_or least₀ i 0 = m.least.rest i (omega arith) in
      let y : get_or gs i 0 ≡ get_or greatest₀ i 0 = m.greatest.rest i (omega arith) in
      let z : get_or ps i 0 ≡ get_or possible₀ i 0 = m.possible.rest i (omega arith) in
      let u : t ≡ noted (top_tick row (get_or lanes i 0) first n (get_or gs i 0)) (get_or ps i 0) =
      et ∙ ap (λ (p : Option ℕ). noted (unwrap_or p none) (get_or ps i 0)) eo
      ∙ ap (λ (k : ℕ). noted k (get_or ps i 0))
      (found_or_none (ltb (get_or gs i 0) (get_or lanes i 0) && leb (get_or lanes i 0 - get_or gs i 0) n) (tick_of row first (get_or lanes i 0 - get_or gs i 0))) in
      let e : n ≡ evaluations_of first last i = en ∙ ap (λ (w : Row). evaluations w first (suc last)) er in
      record {
        least = turning_next low least₀ a m.least h (rw (er, e, x) at ea);
        greatest = turning_next high greatest₀ b m.greatest h (rw (e, y) at eb);
        possible = turning_next found possible₀ t m.possible h (rw (er, e, y, z) at u);
      }

  module _ {ls gs ps : List ℕ} {i : ℕ} (m : Missing ls gs ps i) (h : 16 ≤ i) {ss : List ℕ} (s : Halved ss least₀ greatest₀) where
    pub states_end : ls ++ gs ≡ states_missed lanes first last ss
    unfolding states_missed
    states_end =
        ap₂ ◌++◌ (laying_end 0 16 low m.least.laid h) (laying_end 0 16 high m.greatest.laid h)
        ∙ halves low high
        ∙ paired_same _ _ _ _
        (λ j l. ap (least_missed (get_or lanes j 0) (row_at j).recovers (evaluations_of first last j)) (s.low_at j l))
        (λ j l. ap (greatest_missed (get_or lanes j 0) (evaluations_of first last j)) (s.high_at j))

    -- In a hole no status becomes held.
    pub firsts_end : {fs held : List ℕ} → Halved fs held possible₀ → length held ≡ 16 → held ++ ps ≡ firsts_missed lanes first last ss fs
    unfolding firsts_missed
    firsts_end {held = held} f l =
        ap₂ ◌++◌ (tabulated 16 held l) (laying_end 0 16 found m.possible.laid h)
        ∙ halves _ found
        ∙ paired_same _ _ _ _ f.low_at
        (λ j k. ap₂ (λ (x y : ℕ). noted (top_tick (row_at j) (get_or lanes j 0) first (evaluations_of first last j) x) y) (s.high_at j) (f.high_at j))
