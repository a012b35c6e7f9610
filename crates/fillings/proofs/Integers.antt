-- The order of the integers, as tests, and sums.
use Prim.Native.Nat.{ℕ, suc, ◌+◌, ◌-◌}
use native.Mathlib.Omega.{arith}
use mathlib.Core.Path.{◌≡◌, sym, ap, ap₂, ◌∙◌, subst}
use mathlib.Core.Bool.{Bool, true, false, cond}
use lib.IntN.{ℤ, pos, negsuc, neg_ℤ, ◌+ℤ◌, ◌-ℤ◌, +ℤ_assoc, +ℤ_comm, neg_ℤ-+ℤ}
use lib.Signed.{lt_z, le_z, le_z_yes, lt_z_yes, lt_z_no, ≤ℤ_refl, <ℤ-≤ℤ_trans, clash_ℤ}
use lib.Dec.{T, ltb, leb→le, le→leb, not_T}
use borrow.Author.Tests.{lt-ltb, le-ltb}

pub le_self : (a : ℤ) → T (le_z a a)
le_self a = (≤ℤ_refl a).le

pub lt_le : (a b : ℤ) → T (lt_z a b) → T (le_z a b)
lt_le (pos a) (pos b) h = le→leb a b (let k = leb→le (suc a) b h in omega arith)
lt_le (pos a) (negsuc b) h = h
lt_le (negsuc a) (pos b) h = tt
lt_le (negsuc a) (negsuc b) h = le→leb b a (let k = leb→le (suc b) a h in omega arith)

pub lt_then_le : (a b c : ℤ) → T (lt_z a b) → T (le_z b c) → T (lt_z a c)
lt_then_le a b c h k = (<ℤ-≤ℤ_trans (lt_z_yes {a = a} {b = b} h) (le_z_yes {a = b} {b = c} k)).lt

pub clash : (a b : ℤ) → T (lt_z a b) → T (le_z b a) → ⊥
clash a b h k = clash_ℤ (lt_z_yes {a = a} {b = b} h) (le_z_yes k)

pub le_then_le : (a b c : ℤ) → T (le_z a b) → T (le_z b c) → T (le_z a c)
le_then_le a b c h k = (lt_z_no {a = c} {b = a} (not_T (lt_z c a) (λ l. clash c b (lt_then_le c a b l h) k))).le

pub no_cycle : (v r t : ℤ) → T (lt_z v r) → T (le_z r t) → T (lt_z t v) → ⊥
no_cycle v r t h k l = clash v t (lt_then_le v r t h k) (lt_le t v l)

pub add_swap : (a b c d : ℤ) → (a +ℤ b) +ℤ (c +ℤ d) ≡ (a +ℤ c) +ℤ (b +ℤ d)
add_swap a b c d =
    +ℤ_assoc a b (c +ℤ d)
    ∙ ap (λ z. a +ℤ z) (sym (+ℤ_assoc b c d) ∙ ap (λ z. z +ℤ d) (+ℤ_comm b c) ∙ +ℤ_assoc c b d)
    ∙ sym (+ℤ_assoc a c (b +ℤ d))

pub sub_swap : (a b c d : ℤ) → (a +ℤ b) -ℤ (c +ℤ d) ≡ (a -ℤ c) +ℤ (b -ℤ d)
sub_swap a b c d = ap (λ z. (a +ℤ b) +ℤ z) (neg_ℤ-+ℤ c d) ∙ add_swap a b (neg_ℤ c) (neg_ℤ d)

le_plus : (a : ℤ) (n : ℕ) → T (le_z a (a +ℤ pos n))
le_plus (pos a) n = le→leb a (a + n) (omega arith)
le_plus (negsuc a) n = go (ltb n (suc a))
  where
    go : (b : Bool) → T (le_z (negsuc a) (cond b (negsuc (suc a - suc n)) (pos (n - suc a))))
    go true = le→leb (suc a - suc n) a (omega arith)
    go false = tt

difference : (a b : ℤ) → T (le_z a b) → (n : ℕ) × (a +ℤ pos n ≡ b)
difference (pos a) (pos b) h = let l = leb→le a b h in let e : a + (b - a) ≡ b = omega arith in (b - a, ap pos e)
difference (pos a) (negsuc b) h = absurd h
difference (negsuc a) (pos b) h =
    let e : suc a + b - suc a ≡ b = omega arith in (suc a + b, rw (le-ltb (suc a + b) (suc a) (omega arith)) (ap pos e))
difference (negsuc a) (negsuc b) h =
    let l = leb→le b a h in
    let e : suc a - suc (a - b) ≡ b = omega arith in
    (a - b, rw (lt-ltb (a - b) (suc a) (omega arith)) (ap negsuc e))

pub add_le : (a b c d : ℤ) → T (le_z a b) → T (le_z c d) → T (le_z (a +ℤ c) (b +ℤ d))
add_le a b c d h k =
    let (m, e) = difference a b h in
    let (n, g) = difference c d k in
    subst (λ z. T (le_z (a +ℤ c) z)) (add_swap a c (pos m) (pos n) ∙ ap₂ (λ x y. x +ℤ y) e g) (le_plus (a +ℤ c) (m + n))
