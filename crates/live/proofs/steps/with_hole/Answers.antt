use Rattle.live.proofs.GoodStates.{parts, counted}
use Rattle.live.proofs.Stepping.{hole_state_lem}
use Rattle.live.proofs.steps.with_hole.Goals as goal

pub count_hole-requires : goal.count_hole-requires
count_hole-requires c = let t = counted _ (parts _ c.requires.0).counts in
    (t.unseen, c.requires.1, c.requires.2)

pub returns : goal.returns
returns c = hole_state_lem c.args.state _ c.unseen.result c.count_hole.result c.unseen.ensures c.count_hole.ensures
