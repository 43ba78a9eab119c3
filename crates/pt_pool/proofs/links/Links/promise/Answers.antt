use Rattle.std.proofs.Common.{◌-◌, arith}
use Rattle.pt_pool.proofs.Grown.{promised, promised-chains, promised-spares, spare-is}
use Rattle.pt_pool.proofs.links.Links.promise.Goals as goal

pub returns-clause-linked : goal.returns-clause-linked
returns-clause-linked c =
    let l = c.args.self.now in
    let spare = spare-is l.next.items l.queues.items l.free l.free_len l.reserved c.requires.linked c.args.q c.requires.given c.index-ends.result.now c.index-ends.ensures in
    promised l.next.items l.queues.items l.free l.free_len l.reserved c.requires.linked c.args.q c.requires.given c.index-ends.result.now c.index-ends.ensures c.args.n (c.args.n - c.index-ends.result.now.spare) (omega (arith, c.requires.rises, spare)) (omega (arith, c.requires.rises, c.requires.room, c.requires.linked.covered, spare))

pub returns-clause-chains : goal.returns-clause-chains
returns-clause-chains c =
    let l = c.args.self.now in
    promised-chains l.next.items l.queues.items l.free l.free_len l.reserved c.requires.linked c.args.q c.requires.given c.index-ends.result.now c.index-ends.ensures c.args.n

pub returns-clause-spares : goal.returns-clause-spares
returns-clause-spares c =
    let l = c.args.self.now in
    promised-spares l.next.items l.queues.items l.free l.free_len l.reserved c.requires.linked c.args.q c.requires.given c.index-ends.result.now c.index-ends.ensures c.args.n
