use Prim.Native.Nat.{ℕ, ◌<◌}
use mathlib.Core.List.{List}
use mathlib.Core.Path.{sym, ap, ◌∙◌}
use native.Mathlib.Numerals.{add-one}
use lib.ListN.{length, take, get_or}
use lib.Seq.{take-suc}
use Rattle.pec.specs.Code.{pec_of, with_bits, bits_of}
use Rattle.pec.proofs.Division.{pec_none, pec_more}
use Rattle.pec.proofs.pec.Goals as goal

pub loop-byte-init : goal.loop-byte-init
loop-byte-init c = sym pec_none

pub loop-byte-preserved : goal.loop-byte-preserved
loop-byte-preserved c = let m : List ℕ = c.args.message.now in
    let i : ℕ = c.loop-byte.byte-index in
    let h : i < length m = c.loop-byte-test.true in
    c.with_byte-code.ensures
    ∙ ap (λ (k : ℕ). with_bits k (bits_of 8 (get_or m i 0))) c.loop-byte.invariant
    ∙ sym (pec_more (take i m) (get_or m i 0))
    ∙ ap pec_of (sym (take-suc m i 0 h) ∙ ap (λ (k : ℕ). take k m) (sym (add-one i)))
