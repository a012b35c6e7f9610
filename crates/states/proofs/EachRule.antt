-- A record whose rules are moved one after the other.
use Prim.Native.Nat.{ℕ, suc, ◌+◌, ◌*◌, ◌/◌, ◌%◌, ◌≤◌, ◌<◌}
use mathlib.Core.Path.{◌≡◌, refl, ap, ap₂, sym, ◌∙◌}
use mathlib.Core.List.{List}
use mathlib.Core.Bool.{Bool, true, false, cond, ◌&&◌, and-true, and-false}
use mathlib.Core.Logic.{⊎_elim}
use native.Mathlib.Omega.{arith}
use native.Mathlib.Nat.{eq-or-lt_of_le}
use native.Mathlib.Numerals.{add-one}
use lib.Dec.{eqb, ltb}
use lib.ListN.{get_or, length}
use lib.Seq.{ext_get_or}
use borrow.Author.Tests.{eq-eqb, ne_eqb, lt-ltb, le-ltb}
use Rattle.lists.proofs.Bools.{below?, equal?}
use Rattle.states.specs.Records.{rule_words, record_with}
use Rattle.states.proofs.RuleWords.{part, part_length, record_length, record_at_lem}

-- Two records are the same if they change alike where they are compared.
pub record_same : (c d : ℕ → Bool) (new old : ℕ → List ℕ) (ws vs : List ℕ)
    → ((k : ℕ) → k < 80 → cond (c (k / 5)) (get_or (new (k / 5)) (k % 5) 0) (get_or ws k 0) ≡ cond (d (k / 5)) (get_or (old (k / 5)) (k % 5) 0) (get_or vs k 0))
    → record_with c new ws ≡ record_with d old vs
record_same c d new old ws vs e =
    ext_get_or 0 (record_with c new ws) (record_with d old vs) (record_length c new ws ∙ sym (record_length d old vs))
    (λ k g.
    let l : k < 80 = omega (arith, record_length c new ws) in
    record_at_lem c new ws k l ∙ e k l ∙ sym (record_at_lem d old vs k l))

-- A record in which no rule changes.
pub record_kept : (c : ℕ → Bool) (new : ℕ → List ℕ) (ws : List ℕ) → length ws ≡ 80 → ((i : ℕ) → i < 16 → c i ≡ false) → record_with c new ws ≡ ws
record_kept c new ws l n =
    ext_get_or 0 (record_with c new ws) ws (record_length c new ws ∙ sym l)
    (λ k g.
    let h : k < 80 = omega (arith, record_length c new ws) in
    record_at_lem c new ws k h ∙ ap (λ (b : Bool). cond b (get_or (new (k / 5)) (k % 5) 0) (get_or ws k 0)) (n (k / 5) (omega arith)))

record_word : (c : ℕ → Bool) (new : ℕ → List ℕ) (ws : List ℕ) (i j : ℕ) → i < 16 → j < 5
    → get_or (rule_words (record_with c new ws) i) j 0 ≡ cond (c i) (get_or (new i) j 0) (get_or (rule_words ws i) j 0)
record_word c new ws i j h g =
    let q : (5 * i + j) / 5 ≡ i = omega arith in
    let m : (5 * i + j) % 5 ≡ j = omega arith in
    part (record_with c new ws) (5 * i) j g
    ∙ record_at_lem c new ws (5 * i + j) (omega arith)
    ∙ ap₂ (λ (a b : ℕ). cond (c a) (get_or (new a) b 0) (get_or ws (5 * i + j) 0)) q m
    ∙ ap (cond (c i) (get_or (new i) j 0)) (sym (part ws (5 * i) j g))

rule_length : (c : ℕ → Bool) (new : ℕ → List ℕ) (ws : List ℕ) (i : ℕ) → i < 16 → length (rule_words (record_with c new ws) i) ≡ 5
rule_length c new ws i h = part_length (record_with c new ws) (5 * i) (omega (arith, record_length c new ws))

-- The words of a rule that does not change, and of one that does.
pub rule_kept : (c : ℕ → Bool) (new : ℕ → List ℕ) (ws : List ℕ) (i : ℕ) → i < 16 → length ws ≡ 80 → c i ≡ false
    → rule_words (record_with c new ws) i ≡ rule_words ws i
rule_kept c new ws i h l e =
    ext_get_or 0 _ _ (rule_length c new ws i h ∙ sym (part_length ws (5 * i) (omega arith)))
    (λ j g.
    let g' : j < 5 = omega (arith, rule_length c new ws i h) in
    record_word c new ws i j h g' ∙ ap (λ (b : Bool). cond b (get_or (new i) j 0) (get_or (rule_words ws i) j 0)) e)

pub rule_new : (c : ℕ → Bool) (new : ℕ → List ℕ) (ws : List ℕ) (i : ℕ) → i < 16 → length (new i) ≡ 5 → c i ≡ true
    → rule_words (record_with c new ws) i ≡ new i
rule_new c new ws i h l e =
    ext_get_or 0 _ _ (rule_length c new ws i h ∙ sym l)
    (λ j g.
    let g' : j < 5 = omega (arith, rule_length c new ws i h) in
    record_word c new ws i j h g' ∙ ap (λ (b : Bool). cond b (get_or (new i) j 0) (get_or (rule_words ws i) j 0)) e)

-- The rules below i are done: those that m names have their new words.
abbrev pub done : ℕ → (ℕ → Bool) → ℕ → Bool
done i m j = ltb j i && m j

pub done_start : (m : ℕ → Bool) (new : ℕ → List ℕ) (ws : List ℕ) → length ws ≡ 80 → ws ≡ record_with (done 0 m) new ws
done_start m new ws l = sym (record_kept (done 0 m) new ws l (λ i h. ap (λ (b : Bool). b && m i) (le-ltb i 0 (omega arith))))

-- Rule i has not changed yet.
pub done_unread : (i : ℕ) (m : ℕ → Bool) (new : ℕ → List ℕ) (ws : List ℕ) → i < 16 → length ws ≡ 80
    → rule_words (record_with (done i m) new ws) i ≡ rule_words ws i
done_unread i m new ws h l = rule_kept (done i m) new ws i h l (ap (λ (b : Bool). b && m i) (le-ltb i i (omega arith)))

pub done_next : (i : ℕ) (m : ℕ → Bool) (new : ℕ → List ℕ) (ws : List ℕ)
    → record_with (λ j. eqb j i && m i) (λ j. new i) (record_with (done i m) new ws) ≡ record_with (done (suc i) m) new ws
done_next i m new ws =
    record_same (λ j. eqb j i && m i) (done (suc i) m) (λ j. new i) new (record_with (done i m) new ws) ws
    (λ k l.
    ⊎_elim
    (λ e.
    ap (λ (b : Bool). cond (b && m i) (get_or (new i) (k % 5) 0) (get_or (record_with (done i m) new ws) k 0)) (eq-eqb (k / 5) i e)
    ∙ ap (cond (m i) (get_or (new i) (k % 5) 0)) (below k l ∙ ap (λ (b : Bool). cond (b && m (k / 5)) (get_or (new (k / 5)) (k % 5) 0) (get_or ws k 0)) (le-ltb (k / 5) i (omega arith)))
    ∙ sym (ap (λ (b : Bool). cond (b && m (k / 5)) (get_or (new (k / 5)) (k % 5) 0) (get_or ws k 0)) (lt-ltb (k / 5) (suc i) (omega arith)) ∙ ap (λ (x : ℕ). cond (m x) (get_or (new x) (k % 5) 0) (get_or ws k 0)) e))
    (λ n.
    ap (λ (b : Bool). cond (b && m i) (get_or (new i) (k % 5) 0) (get_or (record_with (done i m) new ws) k 0)) (ne_eqb (k / 5) i n)
    ∙ below k l
    ∙ ap (λ (b : Bool). cond (b && m (k / 5)) (get_or (new (k / 5)) (k % 5) 0) (get_or ws k 0)) (alike (k / 5) n))
    (equal? (k / 5) i))
  where
    below : (k : ℕ) → k < 80 → get_or (record_with (done i m) new ws) k 0 ≡ cond (ltb (k / 5) i && m (k / 5)) (get_or (new (k / 5)) (k % 5) 0) (get_or ws k 0)
    below k l = record_at_lem (done i m) new ws k l

    alike : (x : ℕ) → (x ≡ i → ⊥) → ltb x i ≡ ltb x (suc i)
    alike x n =
        ⊎_elim (λ h. lt-ltb x i h ∙ sym (lt-ltb x (suc i) (omega arith))) (λ h. le-ltb x i h ∙ sym (le-ltb x (suc i) (⊎_elim (λ e. absurd (n (sym e))) (λ g. g) (eq-or-lt_of_le h)))) (below? x i)

pub done_end : (m : ℕ → Bool) (new : ℕ → List ℕ) (ws : List ℕ) → record_with (done 16 m) new ws ≡ record_with m new ws
done_end m new ws =
    record_same (done 16 m) m new new ws ws
    (λ k l. ap (λ (b : Bool). cond (b && m (k / 5)) (get_or (new (k / 5)) (k % 5) 0) (get_or ws k 0)) (lt-ltb (k / 5) 16 (omega arith)))

-- One rule that stays as it is, and one that moves.
rule_stays : (b : Bool) (new : ℕ → List ℕ) (ws : List ℕ) (i : ℕ) → length ws ≡ 80 → b ≡ false → ws ≡ record_with (λ j. eqb j i && b) new ws
rule_stays b new ws i l e =
    sym (record_kept (λ j. eqb j i && b) new ws l (λ j h. ap (λ (x : Bool). eqb j i && x) e ∙ and-false (eqb j i)))

rule_moves : (b : Bool) (v ws out : List ℕ) (i : ℕ) → b ≡ true → out ≡ record_with (λ j. eqb j i) (λ j. v) ws
    → out ≡ record_with (λ j. eqb j i && b) (λ j. v) ws
rule_moves b v ws out i e o =
    o
    ∙ record_same (λ j. eqb j i) (λ j. eqb j i && b) (λ j. v) (λ j. v) ws ws
    (λ k l. ap (λ (x : Bool). cond x (get_or v (k % 5) 0) (get_or ws k 0)) (sym (ap (λ (x : Bool). eqb (k / 5) i && x) e ∙ and-true (eqb (k / 5) i))))

-- The loop over the rules: those below i have moved.
pub record Moving (m : ℕ → Bool) (new : ℕ → List ℕ) (ws₀ ws : List ℕ) (i : ℕ) : Type 0 where
  pub within : i ≤ 16
  pub long : length ws₀ ≡ 80
  pub holds : ws ≡ record_with (done i m) new ws₀

module _ (m : ℕ → Bool) (new : ℕ → List ℕ) (ws₀ : List ℕ) where
  pub moving_start : length ws₀ ≡ 80 → Moving m new ws₀ ws₀ 0
  moving_start l = record { within = omega arith; long = l; holds = done_start m new ws₀ l }

  pub moving_length : (ws : List ℕ) (i : ℕ) → Moving m new ws₀ ws i → length ws ≡ 80
  moving_length ws i g = ap length g.holds ∙ record_length (done i m) new ws₀

  pub moving_read : (ws : List ℕ) (i : ℕ) → Moving m new ws₀ ws i → i < 16 → rule_words ws i ≡ rule_words ws₀ i
  moving_read ws i g h = ap (λ (x : List ℕ). rule_words x i) g.holds ∙ done_unread i m new ws₀ h g.long

  moving_next : (ws out v : List ℕ) (i : ℕ) → Moving m new ws₀ ws i → i < 16 → out ≡ record_with (λ j. eqb j i && m i) (λ j. v) ws → v ≡ new i
      → Moving m new ws₀ out (i + 1)
  moving_next ws out v i g h o e = record {
    within = omega arith;
    long = g.long;
    holds =
        o
        ∙ ap₂ (λ (x y : List ℕ). record_with (λ j. eqb j i && m i) (λ j. x) y) e g.holds
        ∙ done_next i m new ws₀
        ∙ ap (λ (x : ℕ). record_with (done x m) new ws₀) (sym (add-one i));
  }

  -- a rule that moves, and one that stays
  pub moving_moved : (ws out v : List ℕ) (i : ℕ) → Moving m new ws₀ ws i → i < 16 → m i ≡ true → out ≡ record_with (λ j. eqb j i) (λ j. v) ws → v ≡ new i
      → Moving m new ws₀ out (i + 1)
  moving_moved ws out v i g h e o d = moving_next ws out v i g h (rule_moves (m i) v ws out i e o) d

  pub moving_stays : (ws out : List ℕ) (i : ℕ) → Moving m new ws₀ ws i → i < 16 → m i ≡ false → out ≡ ws → Moving m new ws₀ out (i + 1)
  moving_stays ws out i g h e o = moving_next ws out (new i) i g h (o ∙ rule_stays (m i) (λ j. new i) ws i (moving_length ws i g) e) refl

  pub moving_end : (ws : List ℕ) (i : ℕ) → Moving m new ws₀ ws i → 16 ≤ i → ws ≡ record_with m new ws₀
  moving_end ws i g h =
      let l : i ≤ 16 = g.within in
      let e : i ≡ 16 = omega arith in
      g.holds ∙ ap (λ (x : ℕ). record_with (done x m) new ws₀) e ∙ done_end m new ws₀
