-- What the check of the buffers says.
use Prim.Native.Nat.{ℕ}
use mathlib.Core.Path.{◌≡◌, refl, sym}
use mathlib.Core.Bool.{cond}
use mathlib.Core.List.{List}
use lib.Dec.{eqb}
use borrow.Author.Tests.{eqb-true, eq-eqb, ne_eqb}
use Rattle.refusals.specs.Refusals.{Answer, answer, refused, and_then}
use Rattle.refusals.proofs.Answers.{where_true, answered}
use Rattle.trace.specs.Sections.{walk_answer, reply_count}
use Rattle.trace.specs.declared.Layout.{Layout}
use Rattle.judge.specs.Judge.{buffers_answer}

-- The reply count is all that the check asks of the sections.
abbrev counts : ℕ → ℕ → Answer (Unit {0})
counts verdicts n = cond (eqb verdicts n) (answer tt) (refused 13 0)

by_count : (a : Answer Layout) (verdicts : ℕ) → ◌≡◌ {A = Answer (Unit {0})} (and_then a (λ l. counts verdicts l.reply_count)) (and_then (reply_count a) (counts verdicts))
by_count (answer l) verdicts = refl
by_count (refused n p) verdicts = refl

-- The check, test by test.
pub no_report : (s : List ℕ) {report : ℕ} (verdicts : ℕ) → (report ≡ 187 → ⊥) → refused 12 0 ≡ buffers_answer s report verdicts
unfolding buffers_answer
no_report s {report} verdicts h = rw (ne_eqb report 187 h)

module _ (s : List ℕ) {report : ℕ} (verdicts : ℕ) (long : report ≡ 187) where
  pub no_sections : {n p : ℕ} → refused n p ≡ reply_count (walk_answer s) → refused n p ≡ buffers_answer s report verdicts
  unfolding buffers_answer
  no_sections w = rw (eq-eqb report 187 long, by_count (walk_answer s) verdicts, ← w)

  module _ {n : ℕ} (w : answer n ≡ reply_count (walk_answer s)) where
    pub no_verdicts : (verdicts ≡ n → ⊥) → refused 13 0 ≡ buffers_answer s report verdicts
    unfolding buffers_answer
    no_verdicts h = rw (eq-eqb report 187 long, by_count (walk_answer s) verdicts, ← w, ne_eqb verdicts n h)

    pub buffers_fit : verdicts ≡ n → answer tt ≡ buffers_answer s report verdicts
    unfolding buffers_answer
    buffers_fit h = rw (eq-eqb report 187 long, by_count (walk_answer s) verdicts, ← w, eq-eqb verdicts n h)

-- Buffers that fit.
pub record Fit (s : List ℕ) (report verdicts : ℕ) : Type 0 where
  pub layout : Layout
  pub long : report ≡ 187
  pub walked : walk_answer s ≡ answer layout
  pub counted : verdicts ≡ layout.reply_count

pub fit : (s : List ℕ) (report verdicts : ℕ) → answer tt ≡ buffers_answer s report verdicts → Fit s report verdicts
unfolding buffers_answer
fit s report verdicts h =
    let a = where_true (eqb report 187) 12 0 _ (sym h) in
    answered (walk_answer s) _ _ a.1 (λ l b k.
    let c = where_true (eqb verdicts l.reply_count) 13 0 _ k in
    record { layout = l; long = eqb-true report 187 a.0; walked = b; counted = eqb-true verdicts l.reply_count c.0 })
