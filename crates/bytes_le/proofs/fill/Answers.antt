use native.Mathlib.Omega.{arith}
use Prim.Native.Nat.{ℕ}
use mathlib.Core.Path.{◌≡◌, subst}
use Rattle.bytes_le.specs.Writing.{bytes_of}
use lib.ListN.{length}
use Rattle.bytes_le.proofs.Puts.{filling_start, filling_next, filling_end}
use Rattle.bytes_le.proofs.fill.Goals as goal

pub loop-byte-init : goal.loop-byte-init
loop-byte-init c = filling_start _ _

pub loop-byte-preserved : goal.loop-byte-preserved
loop-byte-preserved c = filling_next c.loop-byte.invariant (omega arith)

pub returns : goal.returns
returns c =
    let long = c.loop-byte.auto.buffer in
    let e : c.loop-byte.byte-index ≡ length c.loop-byte.buffer = omega arith in
    subst (λ (k : ℕ). c.loop-byte.buffer ≡ bytes_of k c.args.v) long (filling_end c.loop-byte.invariant e)
