use Rattle.std.proofs.Common.{subst, sym}
use Rattle.pt_pool.specs.Linked.{IsRegion}
use Rattle.pt_pool.proofs.Grown.{opened}
use Rattle.pt_pool.proofs.links.Links.open.Goals as goal

pub returns-clause-linked : goal.returns-clause-linked
returns-clause-linked c =
    let l = c.args.self.now in
    subst (λ queues. IsRegion l.next.items queues l.free l.free_len l.reserved) (sym c.in_ok-push.ensures.items) (opened l.next.items l.queues.items l.free l.free_len l.reserved c.requires.linked)
