use Rattle.std.proofs.Common.{◌-◌, set, subst, sym, ap, ap₂, ◌∙◌, arith}
use Rattle.pt_pool.specs.Linked.{IsRegion, chains_of, relinked}
use Rattle.pt_pool.proofs.LinkSteps.{free-cell, append-step, spares_of}
use Rattle.pt_pool.proofs.links.Links.append_free.Goals as goal

pub index-free-requires : goal.index-free-requires
index-free-requires c =
    let l = c.args.self.now in
    omega (arith, l.next.ok.0, free-cell l.next.items l.queues.items l.free l.free_len l.reserved c.requires.linked c.args.q c.requires.given c.index.result.now c.index.ensures c.requires.spare)

pub link_behind-requires : goal.link_behind-requires
link_behind-requires c some =
    let l = c.args.self.now in
    let step = append-step l.next.items l.queues.items l.free l.free_len l.reserved c.requires.linked c.args.q c.requires.given c.index.result.now c.index.ensures c.requires.spare c.index-free.result.now c.index-free.ensures in
    omega (arith, l.next.ok.0, step.tail some)

pub returns-clause-linked : goal.returns-clause-linked
returns-clause-linked c =
    let l = c.args.self.now in
    let step = append-step l.next.items l.queues.items l.free l.free_len l.reserved c.requires.linked c.args.q c.requires.given c.index.result.now c.index.ensures c.requires.spare c.index-free.result.now c.index-free.ensures in
    subst (λ next. IsRegion next (set l.queues.items c.args.q c.lengthened.result) c.index-free.result.now (l.free_len - 1) (l.reserved - 1)) (sym c.link_behind.ensures)
    (subst (λ e. IsRegion (relinked l.next.items c.index.result.now l.free) (set l.queues.items c.args.q e) c.index-free.result.now (l.free_len - 1) (l.reserved - 1)) (sym c.lengthened.ensures) step.linked)

pub returns-clause-chains : goal.returns-clause-chains
returns-clause-chains c =
    let l = c.args.self.now in
    let step = append-step l.next.items l.queues.items l.free l.free_len l.reserved c.requires.linked c.args.q c.requires.given c.index.result.now c.index.ensures c.requires.spare c.index-free.result.now c.index-free.ensures in
    ap₂ (λ next e. chains_of next (set l.queues.items c.args.q e)) c.link_behind.ensures c.lengthened.ensures ∙ step.chains

pub returns-clause-spares : goal.returns-clause-spares
returns-clause-spares c =
    let l = c.args.self.now in
    let step = append-step l.next.items l.queues.items l.free l.free_len l.reserved c.requires.linked c.args.q c.requires.given c.index.result.now c.index.ensures c.requires.spare c.index-free.result.now c.index-free.ensures in
    ap (λ e. spares_of (set l.queues.items c.args.q e)) c.lengthened.ensures ∙ step.spares
