use Rattle.std.proofs.Common.{length}
use Rattle.pt_events.proofs.FoundLaws.{list-read, inside-at}
use Rattle.pt_events.proofs.search.is_ready.Goals as goal

pub unknown_of-requires : goal.unknown_of-requires
unknown_of-requires c =
    let at = list-read c.args.feeders.now c.args.child c.index-feeders-child.result c.as_slice.result.now c.if-child-feeders.false c.index-feeders-child.is c.as_slice.ensures in
    inside-at c.args.feeders.now c.args.child (length c.args.known.now) c.as_slice.result.now at c.if-child-feeders.false c.requires.flags c.requires.inside
