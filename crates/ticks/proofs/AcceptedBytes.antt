-- What the acceptance of bytes says of their trace.
use Prim.Native.Nat.{ℕ, ◌+◌, ◌≤◌}
use mathlib.Core.Path.{◌≡◌, refl, sym, subst}
use mathlib.Core.Bool.{Bool, true, false, ◌&&◌}
use mathlib.Core.List.{List}
use native.Mathlib.Omega.{arith}
use lib.ListN.{length, get_or, get_or-eq_default}
use lib.Dec.{T, ltb, leb, eqb}
use borrow.Author.Tests.{ltb-true, ltb-false, leb-true}
use Rattle.lists.proofs.Bools.{is_true, both_true}
use Rattle.refusals.specs.Refusals.{answer, and_then}
use Rattle.bytes_le.specs.Numbers.{u16_at}
use Rattle.rules.specs.Samples.{cell_count}
use Rattle.rules.specs.Table.{rows, row_at}
use Rattle.limits.specs.Limits.{off, settings_of}
use Rattle.limits.specs.Limits as L
use Rattle.limits.proofs.RuleSets.{time_small, rule_within}
use Rattle.trace.specs.Records.{Hole, Reply, Stamped}
use Rattle.trace.specs.Sections.{head_answer, walk_answer, rules_part}
use Rattle.trace.specs.Coverage.{holes_answer, cover_answer, replies_answer}
use Rattle.trace.specs.Acceptance.{Parsed, records_answer, accept_answer}
use Rattle.trace.specs.declared.Layout.{Layout}
use Rattle.refusals.proofs.Answers.{unless, where_true, answered}
use Rattle.trace.proofs.Layouts.{parts_are}
use Rattle.fillings.specs.Fillings.{Config, SoundConfig}
use Rattle.ticks.specs.Traces.{trace_of, Accepted}

-- Each check of an accepted trace.
pub record Checks (s : List ℕ) (w : Parsed) : Type 0 where
  pub walked : walk_answer s ≡ answer w.layout
  pub rules : L.rule_set_answer w.layout.cells (rules_part s) ≡ answer tt
  pub records : records_answer s w.layout ≡ answer w.ticks
  pub settings : w.settings ≡ settings_of (rules_part s)

pub checks : (s : List ℕ) (w : Parsed) → accept_answer s ≡ answer w → Checks s w
unfolding accept_answer
checks s w h =
    answered (walk_answer s) _ _ h (λ l b h₁.
    answered (L.rule_set_answer l.cells (rules_part s)) _ _ h₁ (λ u d h₂.
    answered (records_answer s l) _ _ h₂ (λ t f h₃.
    let j : record { layout = l; settings = settings_of (rules_part s); ticks = t } ≡ w = cc in
    rw (← j) (record { walked = b; rules = d; records = f; settings = refl }))))

pub head_idle : (s : List ℕ) {u : Unit {0}} → head_answer 1 s ≡ answer u → u16_at s 2 ≤ 32766
unfolding head_answer
head_idle s h =
    let a = unless (ltb (length s) 4) 1 0 _ h in
    let b = where_true (leb 1 (get_or s 0 0) && leb (get_or s 0 0) 1) 2 0 _ a.1 in
    let c = where_true (cell_count (get_or s 1 0)) 3 0 _ b.1 in
    let d = unless (ltb 32766 (u16_at s 2)) 4 0 _ c.1 in
    ltb-false 32766 (u16_at s 2) d.0

idle_small : (s : List ℕ) (l : Layout) → walk_answer s ≡ answer l → l.idle ≤ 32766
idle_small s l h = let p = parts_are s l h in rw p.idle (head_idle s p.begun.head)

-- The rules of an accepted rule set.
pub rules_sound : (n idle : ℕ) (bytes : List ℕ) → L.rule_set_answer n bytes ≡ answer tt → idle ≤ 32766 → SoundConfig (record { cells = n; idle = idle; settings = settings_of bytes })
unfolding L.rule_set_answer
rules_sound n idle bytes h k i l =
    let a = where_true (leb 3 n && leb n 12) 3 0 _ h in
    let b = both_true (leb 3 n) (leb n 12) a.0 in
    let c = where_true (eqb (length bytes) 160) 6 0 _ a.1 in
    record {
      least_cells = leb-true 3 n b.0;
      most_cells = leb-true n 12 b.1;
      idle = k;
      numbers = subst T (sym (rule_within n rows (settings_of bytes) 0 c.1 i _ _ l l)) tt;
    }

-- Records that are accepted.
records_are : (hs : List Hole) (xs : List Stamped) (rs : List Reply) (m : ℕ)
    → and_then (holes_answer hs 0 0) (λ a. and_then (cover_answer (length hs + length xs) hs xs 0) (λ t. and_then (replies_answer t rs 0 0) (λ b. answer t))) ≡ answer m
    → (holes_answer hs 0 0 ≡ answer tt) × (cover_answer (length hs + length xs) hs xs 0 ≡ answer m) × (replies_answer m rs 0 0 ≡ answer tt)
records_are hs xs rs m h =
    answered (holes_answer hs 0 0) _ _ h (λ u a h₁.
    answered (cover_answer (length hs + length xs) hs xs 0) _ _ h₁ (λ t b h₂.
    answered (replies_answer t rs 0 0) _ _ h₂ (λ v c h₃.
    let e : t ≡ m = cc in
    (a, rw e at b, rw e at c))))

pub accepted : (s : List ℕ) (w : Parsed) → accept_answer s ≡ answer w → Accepted (trace_of s w)
accepted s w h =
    let c = checks s w h in
    let e = c.settings in
    let tr = trace_of s w in
    let (holes, covered, replies) = records_are tr.holes tr.samples tr.replies w.ticks c.records in
    record {
      rules = rw e (rules_sound w.layout.cells w.layout.idle (rules_part s) c.rules (idle_small s w.layout c.walked));
      holes = holes;
      covered = covered;
      replies = replies;
    }

pub short_times : (p : Config) → SoundConfig p → length p.settings ≤ 16 → (i : ℕ) → (get_or p.settings i off).time ≤ 255
short_times p sound h i = go (ltb i 16) refl
  where
    go : (b : Bool) → ltb i 16 ≡ b → (get_or p.settings i off).time ≤ 255
    go true e = time_small p.cells (row_at i) (get_or p.settings i off) (is_true _ (sound i (ltb-true i 16 e)).numbers)
    go false e =
        let l = ltb-false i 16 e in
        let d : length p.settings ≤ i = omega arith in
        rw (get_or-eq_default p.settings off d) (omega arith)
