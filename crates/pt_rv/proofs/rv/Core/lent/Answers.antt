use Rattle.std.proofs.Common.{ap, sym, ◌∙◌}
use Rattle.pt_rv_laws.specs.State.{asked_process}
use Rattle.pt_rv_laws.specs.RvActs.{State}
use Rattle.pt_rv.specs.declared.rv.Stage as declared
use Rattle.pt_rv.specs.Core.{stage_of}
use Rattle.pt_rv.proofs.CoreLaws.{asked-alone}
use Rattle.pt_rv.proofs.CallLaws.{lent-is}
use Rattle.pt_rv.proofs.rv.Core.lent.Goals as goal

pub lent-requires : goal.lent-requires
lent-requires c =
    let a = asked-alone c.self.inside.stage c.self.inside.parties c.in-Asked.process (ap (λ (g : declared.Stage). asked_process (stage_of g)) c.in-Asked.is) c.self.invariant.stage in
    record { there = a.there; handed = a.handed }

pub returns : goal.returns
returns c = lent-is c.self.inside.plan c.self.inside.parties c.self.inside.met.list c.self.inside.tag (stage_of c.self.inside.stage) c.args.self.now c.self.view_is c.in-Asked.process c.lent.result (sym (ap (λ (s : State). asked_process s.stage) c.self.view_is) ∙ (ap (λ (g : declared.Stage). asked_process (stage_of g)) c.in-Asked.is)) c.lent.ensures
