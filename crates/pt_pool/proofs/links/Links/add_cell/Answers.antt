use Rattle.std.proofs.Common.{◌+◌, ◌++◌, ◌∷◌, [], subst, sym, ap, ◌∙◌}
use Rattle.pt_pool.specs.Linked.{IsRegion, chains_of}
use Rattle.pt_pool.proofs.Grown.{added, added-chains}
use Rattle.pt_pool.proofs.links.Links.add_cell.Goals as goal

pub returns-clause-linked : goal.returns-clause-linked
returns-clause-linked c =
    let l = c.args.self.now in
    subst (λ next. IsRegion next l.queues.items c.len-cell.result (l.free_len + 1) l.reserved) (sym c.in_ok-push.ensures.items)
    (subst (λ cell. IsRegion (l.next.items ++ l.free ∷ []) l.queues.items cell (l.free_len + 1) l.reserved) (sym (c.len-cell.ensures ∙ l.next.ok.0)) (added l.next.items l.queues.items l.free l.free_len l.reserved c.requires.linked))

pub returns-clause-chains : goal.returns-clause-chains
returns-clause-chains c =
    let l = c.args.self.now in
    ap (λ next. chains_of next l.queues.items) c.in_ok-push.ensures.items ∙ added-chains l.next.items l.queues.items l.free l.free_len l.reserved c.requires.linked
