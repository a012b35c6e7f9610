use Prim.Native.Nat.{ℕ, ◌+◌}
use mathlib.Core.Path.{◌≡◌}
use native.Mathlib.Omega.{arith}
use Rattle.report.proofs.Puts.{put_bytes, put_then, put_to}
use Rattle.report.proofs.parts.put_rule.Goals as goal

pub returns : goal.returns
returns c = let at : ℕ = c.args.at in
    let to_possible : at + 1 + 1 ≡ at + 2 = omega arith in
    let to_held : at + 2 + 4 ≡ at + 6 = omega arith in
    let to_end : at + 6 + 4 ≡ at + 10 = omega arith in
    put_then c.put_flag.ensures
    (put_then (put_to c.put_flag-2.ensures to_possible) (put_then (put_to (put_bytes _ _ _ 4 _ (omega arith) c.put.ensures) to_held) (put_to (put_bytes _ _ _ 4 _ (omega arith) c.put-2.ensures) to_end)))
