-- More seen means fewer possible states, over which what reads held or clear stays so.
use Prim.Native.Nat.{ℕ, zero, suc, ◌≤◌, ◌<◌}
use native.Mathlib.Omega.{arith}
use mathlib.Core.Path.{◌≡◌, sym, subst}
use mathlib.Core.Logic.{◌⊎◌, inl, inr}
use mathlib.Core.Bool.{Bool, true, false, cond}
use mathlib.Core.List.{List}
use lib.Dec.{T}
use Rattle.rules.specs.Evaluation.{evaluated}
use Rattle.flags.specs.declared.Flag.TheVariants.{Clear, Held}
use Rattle.fillings.specs.Fillings.{Rule, last, Shown, seen, unseen}
use Rattle.fillings.specs.PossibleStates.{has, moves, next, possible}
use Rattle.fillings.specs.Flags.{flag}
use Rattle.fillings.proofs.Fewer.{Among, among_itself, seen_among, Fewer, next_fewer}
use Rattle.fillings.proofs.Exact.{some_possible}
use Rattle.fillings.proofs.Flags.{held_in_all, in_all_held, clear_in_all, in_all_clear}

-- Whatever the first k ticks of one trace show, the other shows too.
abbrev pub MoreSeen : (ℕ → Shown) → (ℕ → Shown) → ℕ → Type 0
MoreSeen trace more k = (t : ℕ) → t < k → (trace t ≡ unseen) ⊎ (more t ≡ trace t)

unseen_most : (r : Rule) (v : Shown) → Among (moves r v) (moves r unseen)
unseen_most r (seen x) = seen_among r x
unseen_most r unseen = among_itself (moves r unseen)

more_among : (r : Rule) (w v : Shown) → (w ≡ unseen) ⊎ (v ≡ w) → Among (moves r v) (moves r w)
more_among r w v (inl e) = subst (λ u. Among (moves r v) (moves r u)) (sym e) (unseen_most r v)
more_among r w v (inr e) = subst (λ u. Among (moves r v) (moves r u)) e (among_itself (moves r v))

pub more_seen : (r : Rule) (trace more : ℕ → Shown) (k : ℕ) → MoreSeen trace more k → Fewer (possible r more k) (possible r trace k)
unfolding possible
more_seen r trace more zero h = λ s t. t
more_seen r trace more (suc k) h = go (evaluated r.row k) (more_seen r trace more k (λ t l. h t (omega arith)))
  where
    go : (b : Bool) → Fewer (possible r more k) (possible r trace k)
        → Fewer (cond b (next (last r) (moves r (more k)) (possible r more k)) (possible r more k))
        (cond b (next (last r) (moves r (trace k)) (possible r trace k)) (possible r trace k))
    go true f = next_fewer (last r) _ _ _ _ (more_among r (trace k) (more k) (h k (omega arith))) f
    go false f = f

-- What reads held over a set reads so over fewer states, of which there is one.
pub held_fewer : (m : ℕ) (test : ℕ → Bool) (p q : List Bool) (s : ℕ) → s ≤ m → T (has p s) → Fewer p q → flag m test q ≡ Held → flag m test p ≡ Held
held_fewer m test p q s h a f e = in_all_held m p test s h a (λ i l b. held_in_all m q test e i l (f i b))

-- And what reads clear.
pub clear_fewer : (m : ℕ) (test : ℕ → Bool) (p q : List Bool) (s : ℕ) → s ≤ m → T (has p s) → Fewer p q → flag m test q ≡ Clear → flag m test p ≡ Clear
clear_fewer m test p q s h a f e = in_all_clear m p test s h a (λ i l b. clear_in_all m q test e i l (f i b))

-- What reads held or clear reads so where more is seen.
module _ (r : Rule) (trace more : ℕ → Shown) (k : ℕ) (h : MoreSeen trace more k) (test : ℕ → Bool) where
  pub held_more : flag (last r) test (possible r trace k) ≡ Held → flag (last r) test (possible r more k) ≡ Held
  held_more =
      let (s, l, a) = some_possible r more k in
      held_fewer (last r) test (possible r more k) (possible r trace k) s l a (more_seen r trace more k h)

  pub clear_more : flag (last r) test (possible r trace k) ≡ Clear → flag (last r) test (possible r more k) ≡ Clear
  clear_more =
      let (s, l, a) = some_possible r more k in
      clear_fewer (last r) test (possible r more k) (possible r trace k) s l a (more_seen r trace more k h)
