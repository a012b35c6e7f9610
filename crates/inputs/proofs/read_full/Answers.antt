use Rattle.std.proofs.Common.{◌≡◌, ℕ, ◌+◌, ◌-◌, ◌≤◌, List, ◌++◌, rules, arith, length, take, drop, refl, sym, ap, ◌∙◌, subst, le_refl, drop_at, length-take-le}
use Rattle.std.proofs.lemmas.Slice.{take-put_mid_below}
use Rattle.std.specs.Io.KnownBytes.{Consumes}
use Rattle.std.proofs.KnownBytes.{Consumes-nil, Consumes-trans}
use Rattle.std.specs.declared.option.Option.{Option}
use borrow.Rule.Slice.PartMut.{put_mid, post_of}
use lib.Seq.{take-add, take-append-le}
use Rattle.inputs.proofs.read_full.Goals as goal

-- What stands below `from + n` is what stood below `from`, and the first n bytes of what was put there.
take-put_mid : (from n : ℕ) (buffer new : List ℕ) → from ≤ length buffer → n ≤ length new
    → take (from + n) (put_mid from (length buffer - from) buffer new) ≡ take from buffer ++ take n new
take-put_mid from n buffer new within fits =
    let all : List ℕ = put_mid from (length buffer - from) buffer new in
    let after : List ℕ = post_of from (length buffer - from) buffer in
    take-add from n all
    ∙ ap (λ l. l ++ take n (drop from all)) (take-put_mid_below _ _ _ _ _ (le_refl _) within)
    ∙ ap (λ l. take from buffer ++ take n l) (drop_at (take from buffer) (new ++ after) from (length-take-le from buffer within))
    ∙ ap (λ l. take from buffer ++ l) (take-append-le n new after fits)

-- A read after what was read before.
read_more : (a b c : Option (List ℕ)) (from n : ℕ) (buffer new : List ℕ) → from ≤ length buffer → n ≤ length new → Consumes a b (take from buffer)
    → Consumes b c (take n new) → Consumes a c (take (from + n) (put_mid from (length buffer - from) buffer new))
read_more a b c from n buffer new within fits first second =
    subst (Consumes a c) (sym (take-put_mid from n buffer new within fits)) (Consumes-trans a b c _ _ first second)

-- A read of nothing.
read_none : (a b c : Option (List ℕ)) (from n : ℕ) (buffer new : List ℕ) → from ≤ length buffer → n ≤ length new → n ≡ 0 → Consumes a b (take from buffer)
    → Consumes b c (take n new) → Consumes a c (take from (put_mid from (length buffer - from) buffer new))
read_none a b c from n buffer new within fits none first second =
    let same : from + n ≡ from = omega arith in
    subst (λ (k : ℕ). Consumes a c (take k (put_mid from (length buffer - from) buffer new))) same (read_more a b c from n buffer new within fits first second)

pub loop-done-init : goal.loop-done-init
loop-done-init g c = record { long = refl; within = omega arith; given = Consumes-nil _ }

pub loop-done-preserved : goal.loop-done-preserved
loop-done-preserved g c =
    let h = c.loop-done.invariant in
    record {
      long = search rules;
      within = search rules;
      given = read_more _ _ _ _ _ _ _ h.within c.in_ok-n.ensures.bound.0 h.given c.in_ok-n.ensures.bytes.0;
    }

pub returns-after-loop-done-clause-bytes : goal.returns-after-loop-done-clause-bytes
returns-after-loop-done-clause-bytes g c = c.loop-done.invariant.given

pub returns-then-n-eq0-clause-bytes : goal.returns-then-n-eq0-clause-bytes
returns-then-n-eq0-clause-bytes g c =
    let h = c.loop-done.invariant in
    read_none _ _ _ _ _ _ _ h.within c.in_ok-n.ensures.bound.0 c.if-n-eq0.true h.given c.in_ok-n.ensures.bytes.0
