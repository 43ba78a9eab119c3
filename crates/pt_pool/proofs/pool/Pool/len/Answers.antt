use Rattle.std.proofs.Common.{[], get_or, length, sym, ap, ◌∙◌}
use Rattle.pt_pool.specs.Linked.{chains}
use Rattle.pt_pool.proofs.PoolLaws.{list-at}
use Rattle.pt_pool.proofs.ValueLaws.{length-values, full-at}
use Rattle.pt_pool.proofs.pool.Pool.len.Goals as goal

pub returns : goal.returns
returns g c =
    let vs = c.self.inside.values.items in
    let l = c.self.inside.links in
    let held = c.self.invariant in
    let view = ap (λ v. v.lists) c.self.view_is in
    let q = c.args.q in
    c.len_of.ensures ∙ sym (length-values vs (get_or (chains l) q []) (full-at vs (chains l) q held.full)) ∙ ap length (sym (list-at vs (chains l) q)) ∙ ap (λ L. length (get_or L q [])) view
