use Rattle.std.proofs.Common.{length, ap, ◌∙◌, arith}
use Rattle.std.proofs.lemmas.List.{length-map}
use Rattle.pt_core.specs.Source.{source_of}
use Rattle.pt_meaning.specs.Meetings.{target_from}
use Rattle.pt_rv_laws.specs.State.{Processes}
use Rattle.pt_rv_plan.proofs.PlanLaws.{target-there, target-is}
use Rattle.pt_rv_plan.proofs.rv_plan.Plan.target.Goals as goal

pub index-requires : goal.index-requires
index-requires c =
    let e = ap (λ (n : Processes). length n.plan.net.sources) c.self.view_is in
    let l = length-map c.self.inside.plan.sources.items source_of in
    let t = target-there c.self.inside.targets.items c.self.inside.plan.places (length c.self.inside.plan.sources.items) c.args.channel c.self.invariant.targets (omega (arith, e, l, c.requires)) in
    omega (arith, t, c.self.inside.targets.ok.0)

pub returns : goal.returns
returns c =
    let e = ap (λ (n : Processes). length n.plan.net.sources) c.self.view_is in
    let l = length-map c.self.inside.plan.sources.items source_of in
    target-is c.self.inside.targets.items c.self.inside.plan.places (length c.self.inside.plan.sources.items) c.args.channel c.index.result.now c.self.invariant.targets (omega (arith, e, l, c.requires)) c.index.ensures ∙ ap (λ (n : Processes). target_from 0 n.plan.net.places c.args.channel) c.self.view_is
