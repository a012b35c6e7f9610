use Rattle.std.proofs.Common.{sym, ◌∙◌, ap}
use Rattle.refusals.specs.Refusals.{answer_as}
use Rattle.trace.specs.Acceptance.{parsed_of}
use Rattle.feed_trace.proofs.feed_bytes.Goals as goal

pub feed_accepted-requires : goal.feed_accepted-requires
feed_accepted-requires c = (c.if-s-gt65536.false, sym c.accept.ensures ∙ ap (answer_as parsed_of) c.in_ok-accepted.was)
