use Rattle.std.proofs.Common.{length, sym, ap, subst, arith}
use Rattle.pt_pool.specs.Linked.{chains}
use Rattle.pt_pool.specs.Values.{AreAllFull}
use Rattle.pt_pool.proofs.PoolLaws.{full-open}
use Rattle.pt_pool.proofs.pool.Pool.queue.Goals as goal

pub invariant_of-self-2 : goal.invariant_of-self-2
invariant_of-self-2 g c =
    let vs = c.self.inside.values.items in
    let l = c.self.inside.links in
    let held = c.self.invariant in
    let view = ap (λ v. v.lists) c.self.view_is in
    record {
      linked = c.open.ensures.linked;
      within = omega (arith, held.within, ap length c.open.ensures.cells);
      full = subst (AreAllFull vs) (sym c.in_ok-open.ensures.chains) (full-open vs (chains l) held.full);
    }
