use Rattle.pt_pool.proofs.Regions.{free-within, free-apart}
use Rattle.pt_pool.proofs.links.Links.free.Goals as goal

pub returns-clause-apart : goal.returns-clause-apart
returns-clause-apart c some =
    let l = c.args.self.now in
    free-apart l.next.items l.queues.items l.free l.free_len l.reserved c.requires some

pub returns-clause-within : goal.returns-clause-within
returns-clause-within c some =
    let l = c.args.self.now in
    free-within l.next.items l.queues.items l.free l.free_len l.reserved c.requires some
