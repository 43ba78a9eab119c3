use Rattle.std.proofs.Common.{◌≡◌, get_or, sym, ap, ◌∙◌, subst, arith, length-set, None, IsSome, is_some, true}
use Rattle.std.proofs.lemmas.List.{get_or_default}
use Rattle.pt_pool.specs.Linked.{chains}
use Rattle.pt_pool.specs.Queues.{raised}
use Rattle.pt_pool.proofs.PoolLaws.{pop-value, pop-some, pop-full, pop-lists}
use Rattle.pt_pool.proofs.pool.Pool.pop.Goals as goal

pub invariant_of-self : goal.invariant_of-self
invariant_of-self g c =
    let vs = c.self.inside.values.items in
    let l = c.self.inside.links in
    let held = c.self.invariant in
    let view = ap (λ v. v.lists) c.self.view_is in
    let cell = c.free_front-cell.result in
    let was = c.free_front-cell.ensures in
    record {
      linked = was.linked;
      within = omega (arith, held.within, was.cells, length-set vs cell c.take.new.self);
      full = pop-full vs (chains l) held.full c.args.q cell c.take.new.self was.front (chains c.free_front-cell.new.self) was.chains was.apart c.args.self.now.lists view;
    }

pub returns-clause-front : goal.returns-clause-front
returns-clause-front g c =
    let vs = c.self.inside.values.items in
    let l = c.self.inside.links in
    let held = c.self.invariant in
    let view = ap (λ v. v.lists) c.self.view_is in
    let cell = c.free_front-cell.result in
    let was = c.free_front-cell.ensures in
    let read : c.take.result ≡ get_or vs cell None = c.take.ensures.value ∙ c.index_mut.ensures.value ∙ get_or_default vs cell c.index_mut.result.now None (omega (arith, was.within, held.within)) in
    read ∙ sym (pop-value vs (chains l) held.full c.args.q cell c.take.new.self was.front (chains c.free_front-cell.new.self) was.chains was.apart c.args.self.now.lists view)

pub returns-clause-lists : goal.returns-clause-lists
returns-clause-lists g c =
    let vs = c.self.inside.values.items in
    let l = c.self.inside.links in
    let held = c.self.invariant in
    let view = ap (λ v. v.lists) c.self.view_is in
    let cell = c.free_front-cell.result in
    let was = c.free_front-cell.ensures in
    pop-lists vs (chains l) held.full c.args.q cell c.take.new.self was.front (chains c.free_front-cell.new.self) was.chains was.apart c.args.self.now.lists view

pub returns-clause-spares : goal.returns-clause-spares
returns-clause-spares g c =
    let vs = c.self.inside.values.items in
    let l = c.self.inside.links in
    let held = c.self.invariant in
    let view = ap (λ v. v.lists) c.self.view_is in
    let cell = c.free_front-cell.result in
    let was = c.free_front-cell.ensures in
    let read : c.take.result ≡ get_or vs cell None = c.take.ensures.value ∙ c.index_mut.ensures.value ∙ get_or_default vs cell c.index_mut.result.now None (omega (arith, was.within, held.within)) in
    let some : is_some c.take.result ≡ true = subst (λ o. IsSome o) (sym read) (pop-some vs (chains l) held.full c.args.q cell c.take.new.self was.front (chains c.free_front-cell.new.self) was.chains was.apart c.args.self.now.lists view) in
    rw some (was.spares ∙ ap (λ v. raised v.spares c.args.q) c.self.view_is)
