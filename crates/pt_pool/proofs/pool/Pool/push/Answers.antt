use Rattle.std.proofs.Common.{◌≡◌, ◌<◌, ◌∷◌, ◌++◌, [], set, get_or, length, sym, ap, ◌∙◌, subst, arith, length-set, Some}
use Rattle.pt_pool.specs.Linked.{chains}
use Rattle.pt_pool.specs.Queues.{spare_at}
use Rattle.pt_pool.proofs.LinkSteps.{spare-free}
use Rattle.pt_pool.proofs.PoolLaws.{push-full, push-lists}
use Rattle.pt_pool.proofs.pool.Pool.push.Goals as goal

pub index_mut-requires : goal.index_mut-requires
index_mut-requires g c =
    let vs = c.self.inside.values.items in
    let l = c.self.inside.links in
    let held = c.self.invariant in
    let view = ap (λ v. v.lists) c.self.view_is in
    let cell = c.free-cell.result in
    let some = spare-free l.next.items l.queues.items l.free l.free_len l.reserved held.linked c.args.q (subst (λ s. 0 < spare_at s c.args.q) (sym (ap (λ v. v.spares) c.self.view_is)) c.requires.spare) in
    let inside : cell < length vs = omega (arith, c.free-cell.ensures.within some, held.within) in
    omega (arith, inside, c.self.inside.values.ok.0)

pub invariant_of-self : goal.invariant_of-self
invariant_of-self g c =
    let vs = c.self.inside.values.items in
    let l = c.self.inside.links in
    let held = c.self.invariant in
    let view = ap (λ v. v.lists) c.self.view_is in
    let cell = c.free-cell.result in
    let some = spare-free l.next.items l.queues.items l.free l.free_len l.reserved held.linked c.args.q (subst (λ s. 0 < spare_at s c.args.q) (sym (ap (λ v. v.spares) c.self.view_is)) c.requires.spare) in
    let inside : cell < length vs = omega (arith, c.free-cell.ensures.within some, held.within) in
    let chains' : chains c.append_free.new.self ≡ set (chains l) c.args.q (get_or (chains l) c.args.q [] ++ cell ∷ []) = c.append_free.ensures.chains ∙ ap (λ x. set (chains l) c.args.q (get_or (chains l) c.args.q [] ++ x ∷ [])) (sym c.free-cell.ensures.value) in
    record {
      linked = c.append_free.ensures.linked;
      within = omega (arith, held.within, c.append_free.ensures.cells, length-set vs cell (Some c.args.value));
      full = push-full vs (chains l) held.full c.args.q cell c.args.value (c.free-cell.ensures.apart some) inside (chains c.append_free.new.self) chains' c.args.self.now.lists view;
    }

pub returns-clause-lists : goal.returns-clause-lists
returns-clause-lists g c =
    let vs = c.self.inside.values.items in
    let l = c.self.inside.links in
    let held = c.self.invariant in
    let view = ap (λ v. v.lists) c.self.view_is in
    let cell = c.free-cell.result in
    let some = spare-free l.next.items l.queues.items l.free l.free_len l.reserved held.linked c.args.q (subst (λ s. 0 < spare_at s c.args.q) (sym (ap (λ v. v.spares) c.self.view_is)) c.requires.spare) in
    let inside : cell < length vs = omega (arith, c.free-cell.ensures.within some, held.within) in
    let chains' : chains c.append_free.new.self ≡ set (chains l) c.args.q (get_or (chains l) c.args.q [] ++ cell ∷ []) = c.append_free.ensures.chains ∙ ap (λ x. set (chains l) c.args.q (get_or (chains l) c.args.q [] ++ x ∷ [])) (sym c.free-cell.ensures.value) in
    push-lists vs (chains l) held.full c.args.q cell c.args.value (c.free-cell.ensures.apart some) inside (chains c.append_free.new.self) chains' c.args.self.now.lists view
