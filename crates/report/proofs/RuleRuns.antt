-- The rules put one after the other.
use Prim.Native.Nat.{ℕ, zero, suc, ◌+◌, ◌*◌, ◌≤◌, ◌<◌}
use mathlib.Core.Path.{◌≡◌, ap, ap₂, sym, ◌∙◌}
use mathlib.Core.List.{List, [], ◌∷◌, ◌++◌, append_assoc, append-nil}
use native.Mathlib.Omega.{arith}
use native.Mathlib.Numerals.{add-one}
use lib.ListN.{length, take, get_or}
use lib.Seq.{take_all}
use Rattle.flags.specs.declared.RuleFlags.{RuleFlags}
use Rattle.report.specs.declared.FirstTicks.{FirstTicks}
use Rattle.report.specs.inner.Bytes.{Put}
use Rattle.report.specs.Layout.{rule_bytes, rules_bytes}
use Rattle.report.proofs.Puts.{put_then, put_to, put_as}

-- One rule more.
rules_more : (fs : List RuleFlags) (ts : List FirstTicks) (i : ℕ) (f : RuleFlags) (t : FirstTicks) → i < length fs → i < length ts
    → rules_bytes (take (suc i) fs) (take (suc i) ts) ≡ rules_bytes (take i fs) (take i ts) ++ rule_bytes (get_or fs i f) (get_or ts i t)
unfolding rules_bytes
rules_more [] ts i f t h g = absurd (omega arith)
rules_more (x ∷ fs) [] i f t h g = absurd (omega arith)
rules_more (x ∷ fs) (y ∷ ts) zero f t h g = append-nil (rule_bytes x y)
rules_more (x ∷ fs) (y ∷ ts) (suc i) f t h g =
    ap (λ (r : List ℕ). rule_bytes x y ++ r) (rules_more fs ts i f t (omega arith) (omega arith))
    ∙ sym (append_assoc (rule_bytes x y) (rules_bytes (take i fs) (take i ts)) (rule_bytes (get_or fs i f) (get_or ts i t)))

module _ (fs : List RuleFlags) (ts : List FirstTicks) (s₀ s : List ℕ) (i : ℕ) (m : length fs ≡ 16) (n : length ts ≡ 16) (r : Put s₀ s 0 (i * 10) (rules_bytes (take i fs) (take i ts))) where
  pub rules_next : (t : List ℕ) (f : RuleFlags) (d : FirstTicks) → i < 16
      → Put s t (i * 10) (i * 10 + 10) (rule_bytes (get_or fs i f) (get_or ts i d)) → Put s₀ t 0 ((i + 1) * 10) (rules_bytes (take (i + 1) fs) (take (i + 1) ts))
  rules_next t f d h p =
      let hf : i < length fs = omega arith in
      let ht : i < length ts = omega arith in
      let e : i * 10 + 10 ≡ (i + 1) * 10 = omega arith in
      let more = sym (rules_more fs ts i f d hf ht) ∙ ap (λ (k : ℕ). rules_bytes (take k fs) (take k ts)) (sym (add-one i)) in
      put_as (put_to (put_then r p) e) more

  pub rules_end : i ≤ 16 → 16 ≤ i → Put s₀ s 0 160 (rules_bytes fs ts)
  rules_end w h =
      let e : i * 10 ≡ 160 = omega arith in
      put_as (put_to r e) (ap₂ rules_bytes (take_all i fs (omega arith)) (take_all i ts (omega arith)))
