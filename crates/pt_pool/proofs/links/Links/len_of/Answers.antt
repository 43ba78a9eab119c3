use Rattle.pt_pool.proofs.LinkSteps.{len-is}
use Rattle.pt_pool.proofs.links.Links.len_of.Goals as goal

pub returns : goal.returns
returns c =
    let l = c.args.self.now in
    len-is l.next.items l.queues.items c.args.q c.requires c.index.result.now c.index.ensures
