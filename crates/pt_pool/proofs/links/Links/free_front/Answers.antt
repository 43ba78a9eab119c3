use Rattle.std.proofs.Common.{arith}
use Rattle.pt_pool.proofs.LinkSteps.{front-cell, free-step}
use Rattle.pt_pool.proofs.links.Links.free_front.Goals as goal

pub index-head-requires : goal.index-head-requires
index-head-requires c =
    let l = c.args.self.now in
    omega (arith, l.next.ok.0, front-cell l.next.items l.queues.items l.free l.free_len l.reserved c.requires.linked c.args.q c.requires.given c.index-ends.result.now c.index-ends.ensures c.requires.filled)

pub index_mut-requires-2 : goal.index_mut-requires-2
index_mut-requires-2 c =
    let l = c.args.self.now in
    omega (arith, l.next.ok.0, front-cell l.next.items l.queues.items l.free l.free_len l.reserved c.requires.linked c.args.q c.requires.given c.index-ends.result.now c.index-ends.ensures c.requires.filled)

pub returns-clause-linked : goal.returns-clause-linked
returns-clause-linked c =
    let l = c.args.self.now in
    (free-step l.next.items l.queues.items l.free l.free_len l.reserved c.requires.linked c.args.q c.requires.given c.index-ends.result.now c.index-ends.ensures c.requires.filled c.index-head.result.now c.index-head.ensures).linked

pub returns-clause-front : goal.returns-clause-front
returns-clause-front c =
    let l = c.args.self.now in
    (free-step l.next.items l.queues.items l.free l.free_len l.reserved c.requires.linked c.args.q c.requires.given c.index-ends.result.now c.index-ends.ensures c.requires.filled c.index-head.result.now c.index-head.ensures).front

pub returns-clause-chains : goal.returns-clause-chains
returns-clause-chains c =
    let l = c.args.self.now in
    (free-step l.next.items l.queues.items l.free l.free_len l.reserved c.requires.linked c.args.q c.requires.given c.index-ends.result.now c.index-ends.ensures c.requires.filled c.index-head.result.now c.index-head.ensures).chains

pub returns-clause-spares : goal.returns-clause-spares
returns-clause-spares c =
    let l = c.args.self.now in
    (free-step l.next.items l.queues.items l.free l.free_len l.reserved c.requires.linked c.args.q c.requires.given c.index-ends.result.now c.index-ends.ensures c.requires.filled c.index-head.result.now c.index-head.ensures).spares

pub returns-clause-apart : goal.returns-clause-apart
returns-clause-apart c =
    let l = c.args.self.now in
    (free-step l.next.items l.queues.items l.free l.free_len l.reserved c.requires.linked c.args.q c.requires.given c.index-ends.result.now c.index-ends.ensures c.requires.filled c.index-head.result.now c.index-head.ensures).apart

pub returns-clause-within : goal.returns-clause-within
returns-clause-within c =
    let l = c.args.self.now in
    front-cell l.next.items l.queues.items l.free l.free_len l.reserved c.requires.linked c.args.q c.requires.given c.index-ends.result.now c.index-ends.ensures c.requires.filled
