use Rattle.std.proofs.Common.{◌≡◌, ◌∷◌, ◌++◌, [], set, get_or, ap, ◌∙◌, arith}
use Rattle.pt_pool.specs.Linked.{chains}
use Rattle.pt_pool.proofs.PoolLaws.{move-full, move-lists}
use Rattle.pt_pool.proofs.pool.Pool.move_front.Goals as goal

pub invariant_of-self : goal.invariant_of-self
invariant_of-self g c =
    let vs = c.self.inside.values.items in
    let l = c.self.inside.links in
    let held = c.self.invariant in
    let view = ap (λ v. v.lists) c.self.view_is in
    let cell = c.free_front.result in
    let was = c.free_front.ensures in
    let D = chains c.free_front.new.self in
    let E = chains c.append_free.new.self in
    let second : E ≡ set D c.args.to (get_or D c.args.to [] ++ cell ∷ []) = c.append_free.ensures.chains ∙ ap (λ x. set D c.args.to (get_or D c.args.to [] ++ x ∷ [])) was.free in
    record {
      linked = c.append_free.ensures.linked;
      within = omega (arith, held.within, was.cells, c.append_free.ensures.cells);
      full = move-full vs (chains l) held.full c.args.from c.args.to cell was.front D E was.chains second c.args.self.now.lists view;
    }

pub returns-clause-lists : goal.returns-clause-lists
returns-clause-lists g c =
    let vs = c.self.inside.values.items in
    let l = c.self.inside.links in
    let held = c.self.invariant in
    let view = ap (λ v. v.lists) c.self.view_is in
    let cell = c.free_front.result in
    let was = c.free_front.ensures in
    let D = chains c.free_front.new.self in
    let E = chains c.append_free.new.self in
    let second : E ≡ set D c.args.to (get_or D c.args.to [] ++ cell ∷ []) = c.append_free.ensures.chains ∙ ap (λ x. set D c.args.to (get_or D c.args.to [] ++ x ∷ [])) was.free in
    move-lists vs (chains l) held.full c.args.from c.args.to cell was.front D E was.chains second c.args.self.now.lists view
