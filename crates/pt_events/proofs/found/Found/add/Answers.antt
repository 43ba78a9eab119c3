use Rattle.pt_events.specs.Found.{list_at}
use Rattle.pt_events.proofs.FoundLaws.{list-read, small-at, depth-at, found-more}
use Rattle.pt_events.proofs.found.Found.add.Goals as goal

pub depth_behind-requires-clause-small : goal.depth_behind-requires-clause-small
depth_behind-requires-clause-small c =
    small-at c.args.feeders.now c.args.self.now.known.items c.args.self.now.depths.items c.args.child _ c.as_slice.result.now c.deref.result.now
    (list-read c.args.feeders.now c.args.child c.index-feeders-child.result c.as_slice.result.now c.requires.ready.inside c.index-feeders-child.is c.as_slice.ensures) c.deref.ensures.value c.requires.found c.requires.ready c.requires.small

pub returns-clause-found : goal.returns-clause-found
returns-clause-found c =
    let at = list-read c.args.feeders.now c.args.child c.index-feeders-child.result c.as_slice.result.now c.requires.ready.inside c.index-feeders-child.is c.as_slice.ensures in
    found-more c.args.feeders.now c.args.self.now.known.items c.args.self.now.depths.items c.args.child c.depth_behind.result c.requires.found c.requires.ready
    (depth-at c.args.self.now.depths.items c.deref.result.now c.as_slice.result.now (list_at c.args.feeders.now c.args.child) c.depth_behind.result c.deref.ensures.value at c.depth_behind.ensures)
