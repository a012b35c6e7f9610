-- k unseen evaluations equal the smaller of k and the top state of them; and a hole is as many of them as it has evaluations.
use Prim.Native.Nat.{ℕ, zero, suc, ◌+◌, ◌≤◌, ◌<◌, min}
use native.Mathlib.Omega.{arith}
use native.Mathlib.Nat.{eq-or-lt_of_le}
use mathlib.Core.Path.{◌≡◌, refl, sym, ap, ap₂, ◌∙◌, subst}
use mathlib.Core.Logic.{⊎_elim}
use mathlib.Core.Bool.{Bool, true, false, cond, ◌&&◌, ◌||◌}
use mathlib.Core.List.{List}
use lib.Dec.{T, ltb, leb, eqb}
use lib.ListN.{length}
use lib.Seq.{ext_get_or}
use borrow.Author.Tests.{lt-ltb, le-ltb, ltb-true, ltb-false, leb-true, leb-false}
use Rattle.lists.specs.Lists.{some_below}
use Rattle.lists.proofs.Bools.{and_left, and_right, both, or_left, or_right, or_elim, is_true, bool_ext, some_intro, some_elim, length_tabulate}
use Rattle.rules.specs.Evaluation.{evaluated, evaluations}
use Rattle.fillings.specs.Fillings.{Rule, last, Shown, unseen}
use Rattle.fillings.specs.PossibleStates.{has, anything, moves, next, possible, unseen_times}
use Rattle.fillings.proofs.Next.{next_length, unseen_length, reached, by_up, by_restart, by_leave, by_stay}

module _ (m : ℕ) (recovers : Bool) where
  -- two sets with the same states
  same_states : (p q : List Bool) → length p ≡ suc m → length q ≡ suc m → ((s : ℕ) → s ≤ m → has p s ≡ has q s) → p ≡ q
  same_states p q a b h = ext_get_or false p q (a ∙ sym b) (λ i l. h i (omega arith))

  -- a set that no unseen evaluation moves: at most the top, and that only if it is not left
  unmoved : (p : List Bool) → length p ≡ suc m → ((s : ℕ) → s < m → T (has p s) → ⊥) → (T (has p m) → T recovers → m ≡ 0)
      → next m (anything recovers) p ≡ p
  unmoved p n low high =
      same_states (next m (anything recovers) p) p (next_length m (anything recovers) p) n
      (λ s l. bool_ext _ _
      (λ t. reached m (anything recovers) p s l t (λ i h a u e. absurd (low i h a)) (λ i h a u e. absurd (low i h a))
      (λ a u e. subst (λ i. T (has p i)) (high a u ∙ e) a) (λ a u e. subst (λ i. T (has p i)) e a))
      (λ t. ⊎_elim (λ e. subst (λ i. T (has (next m (anything recovers) p) i)) (sym e) (by_stay m (anything recovers) p (subst (λ i. T (has p i)) e t) tt))
      (λ h. absurd (low s h t)) (eq-or-lt_of_le l)))

  -- the set of all states is not moved
  full : (p : List Bool) → length p ≡ suc m → 0 < m → ((s : ℕ) → s ≤ m → T (has p s)) → next m (anything recovers) p ≡ p
  full p n h all =
      same_states (next m (anything recovers) p) p (next_length m (anything recovers) p) n
      (λ s l. is_true (has (next m (anything recovers) p) s) (go s l) ∙ sym (is_true (has p s) (all s l)))
    where
      go : (s : ℕ) → s ≤ m → T (has (next m (anything recovers) p) s)
      go zero l = by_restart m (anything recovers) p 0 h (all 0 (omega arith)) tt
      go (suc s) l = by_up m (anything recovers) p s (omega arith) (all s (omega arith)) tt

  module _ (p : List Bool) where
    abbrev pub set : ℕ → List Bool
    set k = unseen_times k m recovers p

    -- from j the state may count up at every evaluation, and stay at the top
    rises : (j k : ℕ) → j ≤ m → T (has p j) → T (has (set k) (min (j + k) m))
    unfolding unseen_times
    rises j zero l t = let e : j ≡ min (j + 0) m = omega arith in subst (λ i. T (has p i)) e t
    rises j (suc k) l t = go (leb m (j + k)) refl (rises j k l t)
      where
        go : (b : Bool) → leb m (j + k) ≡ b → T (has (set k) (min (j + k) m)) → T (has (next m (anything recovers) (set k)) (min (j + suc k) m))
        go true e ih =
            let g : m ≤ j + k = leb-true m (j + k) e in
            let a : min (j + k) m ≡ m = omega arith in
            let c : m ≡ min (j + suc k) m = omega arith in
            subst (λ i. T (has (next m (anything recovers) (set k)) i)) c (by_stay m (anything recovers) (set k) (subst (λ i. T (has (set k) i)) a ih) tt)
        go false e ih =
            let g : j + k < m = leb-false m (j + k) e in
            let c : suc (min (j + k) m) ≡ min (j + suc k) m = omega arith in
            subst (λ i. T (has (next m (anything recovers) (set k)) i)) c (by_up m (anything recovers) (set k) (min (j + k) m) (omega arith) ih tt)

    -- a set from which 0 can be reached in one evaluation
    abbrev pub Falls : Type 0
    Falls = T (some_below m (has p) || recovers && has p m)

    falls : Falls → 0 < m → (k : ℕ) → T (has (set (suc k)) 0)
    unfolding unseen_times
    falls t h zero =
        or_elim (some_below m (has p)) (recovers && has p m) t
        (λ u. let (s, l, a) = some_elim m (has p) u in by_restart m (anything recovers) p s l a tt)
        (λ u. by_leave m (anything recovers) p (and_right recovers (has p m) u) (and_left recovers (has p m) u))
    falls t h (suc k) = by_restart m (anything recovers) (set (suc k)) 0 h (falls t h k) tt

    pub fills : Falls → (k s : ℕ) → s < k → s < m → T (has (set k) s)
    unfolding unseen_times
    fills t zero s l h = absurd (omega arith)
    fills t (suc k) zero l h = falls t h k
    fills t (suc k) (suc s) l h = by_up m (anything recovers) (set k) s (omega arith) (fills t k s (omega arith) (omega arith)) tt

    tops : Falls → T (has (set m) m)
    tops t =
        or_elim (some_below m (has p)) (recovers && has p m) t
        (λ u. let (s, l, a) = some_elim m (has p) u in
        let e : min (s + m) m ≡ m = omega arith in subst (λ i. T (has (set m) i)) e (rises s m (omega arith) a))
        (λ u. let e : min (m + m) m ≡ m = omega arith in subst (λ i. T (has (set m) i)) e (rises m m (omega arith) (and_right recovers (has p m) u)))

    -- where one evaluation changes nothing, none does
    pub stays : (j : ℕ) → next m (anything recovers) (set j) ≡ set j → (k : ℕ) → j ≤ k → set k ≡ set j
    unfolding unseen_times
    stays j e zero h = let z : 0 ≡ j = omega arith in ap set z
    stays j e (suc k) h =
        ⊎_elim (λ z. sym (ap set z)) (λ l. ap (next m (anything recovers)) (stays j e k (omega arith)) ∙ e) (eq-or-lt_of_le h)

    -- a set from which 0 cannot be reached is not moved
    pub kept : length p ≡ suc m → (some_below m (has p) || recovers && has p m) ≡ false → next m (anything recovers) p ≡ p
    kept n e =
        unmoved p n
        (λ s l a. subst T e (or_left (some_below m (has p)) (recovers && has p m) (some_intro m (has p) s l a)))
        (λ a u. absurd (subst T e (or_right (some_below m (has p)) (recovers && has p m) (both recovers (has p m) u a))))

    settled : length p ≡ suc m → next m (anything recovers) (set m) ≡ set m
    unfolding unseen_times
    settled n = go (ltb 0 m) refl (some_below m (has p) || recovers && has p m) refl
      where
        quiet : next m (anything recovers) p ≡ p → next m (anything recovers) (set m) ≡ set m
        quiet e = let z = stays 0 e m (omega arith) in ap (next m (anything recovers)) z ∙ e ∙ sym z

        go : (c : Bool) → ltb 0 m ≡ c → (b : Bool) → (some_below m (has p) || recovers && has p m) ≡ b → next m (anything recovers) (set m) ≡ set m
        go false d b e = let z = ltb-false 0 m d in quiet (unmoved p n (λ s l a. omega arith) (λ a u. omega arith))
        go true d true e =
            let t : Falls = subst T (sym e) tt in
            full (set m) (unseen_length m m recovers p n) (ltb-true 0 m d)
            (λ s l. ⊎_elim (λ z. subst (λ i. T (has (set m) i)) (sym z) (tops t)) (λ h. fills t m s h h) (eq-or-lt_of_le l))
        go true d false e = quiet (kept n e)

pub still : (k m : ℕ) (recovers : Bool) (p : List Bool) → length p ≡ suc m → unseen_times k m recovers p ≡ unseen_times (min k m) m recovers p
still k m recovers p n = go (leb k m) refl
  where
    go : (b : Bool) → leb k m ≡ b → unseen_times k m recovers p ≡ unseen_times (min k m) m recovers p
    go true e =
        let h = leb-true k m e in
        let z : k ≡ min k m = omega arith in
        ap (set m recovers p) z
    go false e =
        let h = leb-false k m e in
        let z : m ≡ min k m = omega arith in
        stays m recovers p m (settled m recovers p n) k (omega arith) ∙ ap (set m recovers p) z

pub possible_hole : (r : Rule) (trace : ℕ → Shown) (a k : ℕ) → a ≤ k → ((t : ℕ) → a ≤ t → t < k → trace t ≡ unseen)
    → possible r trace k ≡ unseen_times (evaluations r.row a k) (last r) r.row.recovers (possible r trace a)
unfolding unseen_times evaluations possible moves
possible_hole r trace a zero h hole = let z : 0 ≡ a = omega arith in ap (possible r trace) z
possible_hole r trace a (suc k) h hole =
    ⊎_elim
    (λ z. rw (lt-ltb k a (omega arith)) (ap (possible r trace) (sym z)))
    (λ l. rw (le-ltb k a (omega arith)) (go (evaluated r.row k) (trace k) (hole k (omega arith) (omega arith)) (possible_hole r trace a k (omega arith) (λ t u v. hole t u (omega arith)))))
    (eq-or-lt_of_le h)
  where
    go : (b : Bool) (w : Shown) → w ≡ unseen
        → possible r trace k ≡ unseen_times (evaluations r.row a k) (last r) r.row.recovers (possible r trace a)
        → cond b (next (last r) (moves r w) (possible r trace k)) (possible r trace k)
        ≡ unseen_times (cond b (suc (evaluations r.row a k)) (evaluations r.row a k)) (last r) r.row.recovers (possible r trace a)
    go false w e ih = ih
    go true w e ih = ap₂ (λ v p. next (last r) (moves r v) p) e ih

pub possible_length : (r : Rule) (trace : ℕ → Shown) (k : ℕ) → length (possible r trace k) ≡ suc (last r)
unfolding possible
possible_length r trace zero = length_tabulate (suc (last r)) (λ s. eqb s 0)
possible_length r trace (suc k) = go (evaluated r.row k) (possible_length r trace k)
  where
    go : (b : Bool) → length (possible r trace k) ≡ suc (last r)
        → length (cond b (next (last r) (moves r (trace k)) (possible r trace k)) (possible r trace k)) ≡ suc (last r)
    go true e = next_length (last r) (moves r (trace k)) (possible r trace k)
    go false e = e
