-- The tick of a run at which an evaluation of a rule comes, and with which a counted state is at the top.
use Prim.Native.Nat.{ℕ, suc, ◌+◌, ◌*◌, ◌-◌, ◌%◌, ◌≤◌, ◌<◌}
use mathlib.Core.Path.{◌≡◌, refl, ◌∙◌}
use mathlib.Core.Bool.{Bool, true, false, cond}
use native.Mathlib.Omega.{arith}
use lib.Dec.{leb}
use borrow.Author.Tests.{lt-ltb, le-leb, lt-leb, leb-true, leb-false}
use Rattle.rules.specs.declared.Row.{Row}
use Rattle.rules.specs.Evaluation.{evaluations}
use Rattle.rules.proofs.Evaluations.{evaluations_every, evaluations_even}
use Rattle.fillings.specs.Flags.{first_from}
use Rattle.bounds.specs.Firsts.{none, tick_of, top_tick}
use Rattle.bounds.proofs.FirstLaws.{is_found, is_missing}

-- How many evaluations have passed once tick t has.
abbrev passed : Row → ℕ → ℕ → ℕ
passed row first t = evaluations row first (suc t)

-- v is the first tick of a run from first to last with which j evaluations have passed.
record Reached (row : Row) (first last j v : ℕ) : Type 0 where
  from : first ≤ v
  until : v ≤ last
  enough : j ≤ passed row first v
  early : (u : ℕ) → first ≤ u → u < v → passed row first u < j

module _ (row : Row) (first last : ℕ) (run : first ≤ last) where
  more_passed : (u : ℕ) → first ≤ u → u ≤ last → passed row first u ≤ passed row first last
  more_passed u h l = go row.even refl
    where
      go : (b : Bool) → row.even ≡ b → passed row first u ≤ passed row first last
      go true e = omega (arith, evaluations_even row first (suc u) e (omega arith), evaluations_even row first (suc last) e (omega arith))
      go false e = omega (arith, evaluations_every row first (suc u) e (omega arith), evaluations_every row first (suc last) e (omega arith))

  reached : (j : ℕ) → 0 < j → j ≤ passed row first last → Reached row first last j (tick_of row first j)
  reached j some h = go row.even refl
    where
      go : (b : Bool) → row.even ≡ b → Reached row first last j (cond b (first + first % 2 + 2 * (j - 1)) (first + (j - 1)))
      go true e =
          let n = evaluations_even row first (suc last) e (omega arith) in
          let v : ℕ = first + first % 2 + 2 * (j - 1) in
          record {
            from = omega arith;
            until = omega arith;
            enough = omega (arith, evaluations_even row first (suc v) e (omega arith));
            early = λ u l g. omega (arith, evaluations_even row first (suc u) e (omega arith));
          }
      go false e =
          let n = evaluations_every row first (suc last) e (omega arith) in
          record {
            from = omega arith;
            until = omega arith;
            enough = omega (arith, evaluations_every row first (suc (first + (j - 1))) e (omega arith));
            early = λ u l g. omega (arith, evaluations_every row first (suc u) e (omega arith));
          }

pub tick_until : (row : Row) (first last j : ℕ) → first ≤ last → 0 < j → j ≤ evaluations row first (suc last) → tick_of row first j ≤ last
tick_until row first last j run some h = (reached row first last run j some h).until

-- The first tick of a run with which the evaluations bring a state to the top.
pub top_tick_lem : (row : Row) (m first last s : ℕ) (test : ℕ → Bool) → first ≤ last → s < m
    → ((t : ℕ) → first ≤ t → t ≤ last → test t ≡ leb (m - s) (evaluations row first (suc t)))
    → first_from first (suc last - first) test ≡ top_tick row m first (evaluations row first (suc last)) s
top_tick_lem row m first last s test run less reads = rw (lt-ltb s m less) (go (leb (m - s) (passed row first last)) refl)
  where
    go : (b : Bool) → leb (m - s) (passed row first last) ≡ b → first_from first (suc last - first) test ≡ cond b (tick_of row first (m - s)) none
    go true e =
        let v : ℕ = tick_of row first (m - s) in
        let r : Reached row first last (m - s) v = reached row first last run (m - s) (omega arith) (leb-true (m - s) (passed row first last) e) in
        let h : first ≤ v = r.from in
        let k : v ≤ last = r.until in
        is_found test first (suc last - first) v
        (record {
          from = h;
          within = omega arith;
          here = reads v h k ∙ le-leb (m - s) (passed row first v) r.enough;
          before = λ u a b. reads u a (omega arith) ∙ lt-leb (m - s) (passed row first u) (r.early u a b);
        })
    go false e =
        let few : passed row first last < m - s = leb-false (m - s) (passed row first last) e in
        is_missing test first (suc last - first)
        (λ u h l. reads u h (omega arith)
        ∙ lt-leb (m - s) (passed row first u) (omega (arith, few, more_passed row first last run u h (omega arith))))
