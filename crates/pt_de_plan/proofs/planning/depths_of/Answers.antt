use Rattle.std.proofs.Common.{◌≡◌, ℕ, List, length, map, ap, ◌∙◌}
use Rattle.pt_core.specs.Source.{source_of}
use Rattle.pt_de_plan.specs.Inside.{plan_of}
use Rattle.pt_de_plan.specs.Edges.{edges_from}
use Rattle.pt_de_plan.proofs.PlanLaws.{between-of, depths-of, edges_in, fault-of}
use Rattle.pt_de_plan.proofs.planning.depths_of.Goals as goal

pub depths-requires : goal.depths-requires
depths-requires c =
    let is : c.deref-3.result.now ≡ edges_in (plan_of c.args.inside.now) c.args.inside.now.delayed.items =
    c.deref-3.ensures.value ∙ c.in_ok-edges.ensures ∙ (λ i. edges_from 0 (c.as_slice-places.ensures i) (map source_of (c.deref.ensures.value i)) (c.deref-2.ensures.value i)) in
    between-of c.args.inside.now c.requires (length c.as_slice-places.result.now) c.deref-3.result.now (ap (λ (v : List ℕ). length v) c.as_slice-places.ensures) is

pub returns-clause-depths : goal.returns-clause-depths
returns-clause-depths c =
    let is : c.deref-3.result.now ≡ edges_in (plan_of c.args.inside.now) c.args.inside.now.delayed.items =
    c.deref-3.ensures.value ∙ c.in_ok-edges.ensures ∙ (λ i. edges_from 0 (c.as_slice-places.ensures i) (map source_of (c.deref.ensures.value i)) (c.deref-2.ensures.value i)) in
    depths-of c.args.inside.now c.requires (length c.as_slice-places.result.now) c.deref-3.result.now (ap (λ (v : List ℕ). length v) c.as_slice-places.ensures) is c.depths.result c.depths.ensures.depths

pub returns-clause-err : goal.returns-clause-err
returns-clause-err c =
    let is : c.deref-3.result.now ≡ edges_in (plan_of c.args.inside.now) c.args.inside.now.delayed.items =
    c.deref-3.ensures.value ∙ c.in_ok-edges.ensures ∙ (λ i. edges_from 0 (c.as_slice-places.ensures i) (map source_of (c.deref.ensures.value i)) (c.deref-2.ensures.value i)) in
    fault-of c.args.inside.now c.deref-3.result.now is c.depths.result c.depths.ensures.fault
