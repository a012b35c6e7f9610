-- The first tick with which a rule's state is at the top, over a seen tick and over a run of unseen ticks. s k is the state once k ticks have passed.
use Prim.Native.Nat.{ℕ, zero, suc, ◌+◌, ◌-◌, ◌≤◌, ◌<◌, min}
use mathlib.Core.Path.{◌≡◌, refl, ap, sym, ◌∙◌, subst}
use mathlib.Core.Bool.{Bool, true, false, cond}
use native.Mathlib.Omega.{arith}
use lib.Dec.{T, ltb, leb, eqb}
use borrow.Author.Tests.{ltb-true, leb-true, eqb-true, lt-ltb, le-ltb, le-leb, lt-leb, eq-eqb}
use Rattle.lists.proofs.Bools.{and_left, and_right, both, is_true, refuted, bool_ext, by_order}
use Rattle.rules.specs.declared.Row.{Row}
use Rattle.rules.specs.Evaluation.{step, status, evaluations}
use Rattle.fillings.specs.Flags.{first_from}
use Rattle.bounds.specs.Steps.{least_missed, greatest_missed}
use Rattle.bounds.specs.Firsts.{none, noted, noted_at, rises, top_tick}
use Rattle.bounds.proofs.FirstLaws.{noted_found, noted_same, first_parts, first_snoc, first_some, is_missing}
use Rattle.bounds.proofs.RunTicks.{top_tick_lem}

on : (m x : ℕ) → T (status m x) → 0 < m
on m x t = ltb-true 0 m (is_true (ltb 0 m) (and_left (ltb 0 m) (eqb x m) t))

at_top : (m x : ℕ) → T (status m x) → x ≡ m
at_top m x t = eqb-true x m (is_true (eqb x m) (and_right (ltb 0 m) (eqb x m) t))

top_status : (m x : ℕ) → 0 < m → x ≡ m → T (status m x)
top_status m x h e = both (ltb 0 m) (eqb x m) (subst T (sym (lt-ltb 0 m h)) tt) (subst T (sym (eq-eqb x m e)) tt)

-- A greatest state is at the top with enough evaluations.
greatest_status : (m x n : ℕ) → x < m → status m (greatest_missed m n x) ≡ leb (m - x) n
greatest_status m x n h = go (eqb n 0) refl
  where
    go : (b : Bool) → eqb n 0 ≡ b → status m (cond b x (min (x + n) m)) ≡ leb (m - x) n
    go true e =
        let z = eqb-true n 0 e in
        refuted (status m x) (λ t. let d = at_top m x t in omega arith) ∙ sym (lt-leb (m - x) n (omega arith))
    go false e =
        bool_ext (status m (min (x + n) m)) (leb (m - x) n)
        (λ t. let d = at_top m (min (x + n) m) t in subst T (sym (le-leb (m - x) n (omega arith))) tt)
        (λ t. let l = leb-true (m - x) n (is_true (leb (m - x) n) t) in top_status m (min (x + n) m) (omega arith) (omega arith))

-- A least state is at the top after unseen evaluations only if it was before them.
least_status : (m : ℕ) (recovers : Bool) (n x : ℕ) → x ≤ m → T (status m (least_missed m recovers n x)) → T (status m x)
unfolding step
least_status m recovers n x h t =
    by_order x m
    (λ l. below (eqb n 0) (subst (λ (b : Bool). T (status m (cond (eqb n 0) x (cond b 0 (cond recovers 0 m))))) (lt-ltb x m l) t))
    (λ g. top_status m x (on m (least_missed m recovers n x) t) (omega arith))
  where
    below : (b : Bool) → T (status m (cond b x 0)) → T (status m x)
    below true u = u
    below false u = let l : 0 < m = on m 0 u in let e : 0 ≡ m = at_top m 0 u in absurd (omega arith)

-- The status with a tick.
abbrev status_with : ℕ → (ℕ → ℕ) → ℕ → Bool
status_with m s t = status m (s (suc t))

-- The first of k ticks with which status is active.
abbrev pub first_of : ℕ → (ℕ → ℕ) → ℕ → ℕ
first_of m s k = first_from 0 k (λ t. status m (s (suc t)))

module _ (m : ℕ) (s : ℕ → ℕ) where
  pub sees : (k : ℕ) → k < none → noted_at m k (s (suc k)) (first_of m s k) ≡ first_of m s (suc k)
  sees k h = sym (first_snoc k (status_with m s) h)

  module _ (begins : s 0 ≡ 0) where
    status_found : (k : ℕ) → k ≤ none → T (status m (s k)) → first_of m s k < none
    status_found zero h t = let l : 0 < m = on m (s 0) t in let e : s 0 ≡ m = at_top m (s 0) t in absurd (omega (arith, begins, e, l))
    status_found (suc k) h t = first_some 0 (suc k) k (status_with m s) (omega arith) (omega arith) (omega arith) t

    -- Ticks with which status is active only if it was before them change nothing.
    stays : (k c : ℕ) → k ≤ c → k ≤ none → ((t : ℕ) → k ≤ t → t < c → T (status m (s (suc t))) → T (status m (s k)))
        → first_of m s c ≡ first_of m s k
    stays k c h l before = first_parts 0 k (c - k) c k (status_with m s) (omega arith) (omega arith) l ∙ go (status m (s k)) refl
      where
        go : (b : Bool) → status m (s k) ≡ b → noted (first_from k (c - k) (status_with m s)) (first_of m s k) ≡ first_of m s k
        go true e = noted_found (first_from k (c - k) (status_with m s)) (first_of m s k) (status_found k l (subst T (sym e) tt))
        go false e =
            ap (λ n. noted n (first_of m s k))
            (is_missing (status_with m s) k (c - k) (λ t a b. refuted (status m (s (suc t))) (λ u. subst T e (before t a (omega arith) u))))
            ∙ noted_same (first_of m s k)

    pub nothing_rises : (k : ℕ) → k < none → s k ≤ m → rises m (s k) (s (suc k)) ≡ false → first_of m s (suc k) ≡ first_of m s k
    nothing_rises k h low still = stays k (suc k) (omega arith) (omega arith) before
      where
        kept : T (status m (s (suc k))) → T (status m (s k))
        kept t =
            by_order (s k) m
            (λ l. absurd (subst T still (both (ltb (s k) m) (eqb (s (suc k)) m) (subst T (sym (lt-ltb (s k) m l)) tt) (and_right (ltb 0 m) (eqb (s (suc k)) m) t))))
            (λ g. top_status m (s k) (on m (s (suc k)) t) (omega arith))

        before : (t : ℕ) → k ≤ t → t < suc k → T (status m (s (suc t))) → T (status m (s k))
        before t a b u = let e : t ≡ k = omega arith in kept (subst (λ n. T (status m (s (suc n)))) e u)

    module _ (first last : ℕ) (run : first ≤ last) (end : last < none) (low : s first ≤ m) (row : Row) where
      pub misses_greatest : ((t : ℕ) → first ≤ t → t ≤ last → s (suc t) ≡ greatest_missed m (evaluations row first (suc t)) (s first))
          → noted (top_tick row m first (evaluations row first (suc last)) (s first)) (first_of m s first) ≡ first_of m s (suc last)
      misses_greatest moves =
          by_order (s first) m
          (λ l. ap (λ n. noted n (first_of m s first))
          (sym (top_tick_lem row m first last (s first) (status_with m s) run l
          (λ t a b. ap (status m) (moves t a b) ∙ greatest_status m (s first) (evaluations row first (suc t)) l)))
          ∙ sym (first_parts 0 first (suc last - first) (suc last) first (status_with m s) (omega arith) (omega arith) (omega arith)))
          (λ g. rw (le-ltb (s first) m g)
          (noted_same (first_of m s first)
          ∙ sym (stays first (suc last) (omega arith) (omega arith) (λ t a b u. top_status m (s first) (on m (s (suc t)) u) (omega arith)))))

      pub misses_least : (recovers : Bool)
          → ((t : ℕ) → first ≤ t → t ≤ last → s (suc t) ≡ least_missed m recovers (evaluations row first (suc t)) (s first))
          → first_of m s first ≡ first_of m s (suc last)
      misses_least recovers moves =
          sym (stays first (suc last) (omega arith) (omega arith)
          (λ t a b u. least_status m recovers (evaluations row first (suc t)) (s first) low
          (subst (λ x. T (status m x)) (moves t a (omega arith)) u)))
