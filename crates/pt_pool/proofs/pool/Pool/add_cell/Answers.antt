use Rattle.std.proofs.Common.{◌∷◌, ◌++◌, [], map, length, sym, ap, ap₂, ◌∙◌, subst, arith, None}
use Rattle.std.proofs.Common.{is_ok}
use Rattle.std.proofs.lemmas.List.{length-append}
use Rattle.pt_pool.specs.Linked.{chains}
use Rattle.pt_pool.specs.Values.{values_at, AreAllFull}
use Rattle.pt_pool.proofs.PoolLaws.{at_most-one-more}
use Rattle.pt_pool.proofs.ValueLaws.{all_values-push, all_full-push}
use Rattle.pt_pool.proofs.pool.Pool.add_cell.Goals as goal

pub invariant_of-self-2 : goal.invariant_of-self-2
invariant_of-self-2 g c =
    let vs = c.self.inside.values.items in
    let l = c.self.inside.links in
    let held = c.self.invariant in
    let view = ap (λ v. v.lists) c.self.view_is in
    record {
      linked = c.add_cell.ensures.linked;
      within = omega (arith, held.within, at_most-one-more (is_ok c.add_cell.result) (length l.next.items) (length c.add_cell.new.self.next.items) c.add_cell.ensures.cells, ap length c.in_ok-push.ensures.items, length-append vs (None ∷ []));
      full = subst (λ w. AreAllFull w (chains c.add_cell.new.self)) (sym c.in_ok-push.ensures.items) (subst (AreAllFull (vs ++ None ∷ [])) (sym c.add_cell.ensures.chains) (all_full-push vs (chains l) held.full));
    }

pub returns-clause-lists : goal.returns-clause-lists
returns-clause-lists g c =
    let vs = c.self.inside.values.items in
    let l = c.self.inside.links in
    let held = c.self.invariant in
    let view = ap (λ v. v.lists) c.self.view_is in
    ap₂ (λ w C. map (values_at w) C) c.in_ok-push.ensures.items c.add_cell.ensures.chains ∙ all_values-push vs (chains l) ∙ view
