use mathlib.Core.Path.{sym, ap, ◌∙◌}
use Rattle.refusals.specs.Refusals.{answer_of}
use Rattle.buttmitrel.proofs.Codes.{refused_two, refused_net, two_written}
use mir.Syntax.{w64}
use mir.Val.{SFits}
use borrow.Author.Rules.{rules}
use Rattle.buttmitrel.proofs.buttmitrel_net_charge.Goals as goal

pub returns-then-bounds-ne2 : goal.returns-then-bounds-ne2
returns-then-bounds-ne2 c = let p = refused_two _ _ c.if-bounds-ne2.true c.code-then-bounds-ne2.ensures (sym (ap answer_of c.in-Ok.is) ∙ c.net_charge.ensures) in record { answer = p.0; bounds = p.1 }

pub returns-in-Err : goal.returns-in-Err
returns-in-Err c = let p = refused_net _ _ c.code.ensures (sym (ap answer_of c.in-Err.is) ∙ c.net_charge.ensures) in record { answer = p.0; bounds = p.1 }

pub returns-else-bounds-ne2 : goal.returns-else-bounds-ne2
returns-else-bounds-ne2 c =
    let f : SFits w64 c.in-Ok.net.least = search rules in
    let g : SFits w64 c.in-Ok.net.greatest = search rules in
    let p = two_written _ _ _ _ c.if-bounds-ne2.false f g (sym (ap answer_of c.in-Ok.is) ∙ c.net_charge.ensures) in
    record { answer = p.0; bounds = p.1 }
