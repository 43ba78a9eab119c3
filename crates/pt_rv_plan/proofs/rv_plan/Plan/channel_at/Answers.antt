use Rattle.std.proofs.Common.{◌+◌, length, get_or, ap, ◌∙◌, arith}
use Rattle.pt_rv_laws.specs.State.{Processes}
use Rattle.pt_pn_laws.specs.State.{offset_of}
use Rattle.pt_rv_plan.proofs.PlanLaws.{offset-long, offset-at, channel-within}
use Rattle.pt_rv_plan.proofs.rv_plan.Plan.channel_at.Goals as goal

pub channel_in-requires : goal.channel_in-requires
channel_in-requires c =
    let a = offset-long c.self.inside c.self.invariant in
    let b = ap (λ (n : Processes). length n.plan.net.places) c.self.view_is in
    let d = ap (λ (n : Processes). get_or n.plan.net.places c.args.process 0) c.self.view_is in
    record {
      there = let e = ap (λ v. length v) c.deref.ensures.value in omega (arith, a, b, e, c.requires.there);
      within = channel-within c.self.inside c.self.invariant c.deref.result.now c.deref.ensures.value c.args.process c.args.place (omega (arith, b, c.requires.there)) (omega (arith, d, c.requires.within));
    }

pub returns : goal.returns
returns c =
    let b = ap (λ (n : Processes). length n.plan.net.places) c.self.view_is in
    c.channel_in.ensures ∙
    ap (λ k. k + c.args.place)
    (ap (λ v. get_or v c.args.process 0) c.deref.ensures.value ∙ offset-at c.self.inside c.self.invariant c.args.process (omega (arith, b, c.requires.there)) ∙ ap (λ (n : Processes). offset_of n.plan.net.places c.args.process) c.self.view_is)
