use Rattle.std.proofs.Common.{◌≡◌, ◌<◌, [], get_or, map, length, sym, ap, ap₂, ◌∙◌, subst, arith}
use Rattle.std.proofs.lemmas.List.{length-map}
use Rattle.pt_pool.specs.Chains.{chain, times}
use Rattle.pt_pool.specs.Linked.{chain_of, chains}
use Rattle.pt_pool.specs.Values.{values_at, AreFull, IsWalk}
use Rattle.pt_pool.proofs.Counts.{times-le}
use Rattle.pt_pool.proofs.LinkSteps.{chain-is}
use Rattle.pt_pool.proofs.PoolLaws.{list-at, is-walk}
use Rattle.pt_pool.proofs.Regions.{inside}
use Rattle.pt_pool.proofs.ValueLaws.{full-at}
use Rattle.pt_pool.proofs.pool.Pool.items.Goals as goal

pub invariant_of-result : goal.invariant_of-result
invariant_of-result g c =
    let vs = c.self.inside.values.items in
    let l = c.self.inside.links in
    let held = c.self.invariant in
    let view = ap (λ v. v.lists) c.self.view_is in
    let q = c.args.q in
    let e = c.index-ends.result.now in
    let given : q < length l.queues.items = omega (arith, c.requires, ap length view, length-map (chains l) (values_at vs), length-map l.queues.items (chain_of l.next.items)) in
    let cells : get_or (chains l) q [] ≡ chain l.next.items e.len e.head = chain-is l.next.items l.queues.items q given e c.index-ends.ensures in
    rw (c.as_slice.ensures.value, c.as_slice-2.ensures.value) (is-walk vs l.next.items held.within e.len e.head (λ x some. inside l.next.items l.queues.items l.free l.free_len l.reserved held.linked x (omega (arith, some, ap (times x) cells, times-le x (chains l) q))) (subst (AreFull vs) cells (full-at vs (chains l) q held.full)))

pub returns : goal.returns
returns g c =
    let vs = c.self.inside.values.items in
    let l = c.self.inside.links in
    let held = c.self.invariant in
    let view = ap (λ v. v.lists) c.self.view_is in
    let q = c.args.q in
    let e = c.index-ends.result.now in
    let given : q < length l.queues.items = omega (arith, c.requires, ap length view, length-map (chains l) (values_at vs), length-map l.queues.items (chain_of l.next.items)) in
    let cells : get_or (chains l) q [] ≡ chain l.next.items e.len e.head = chain-is l.next.items l.queues.items q given e c.index-ends.ensures in
    ap₂ (λ w next. values_at w (chain next e.len e.head)) c.as_slice.ensures.value c.as_slice-2.ensures.value ∙ ap (values_at vs) (sym cells) ∙ sym (list-at vs (chains l) q) ∙ ap (λ L. get_or L q []) view
