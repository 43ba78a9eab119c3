use Rattle.std.proofs.Common.{length, ap, ◌∙◌, arith}
use Rattle.pt_rv_laws.specs.RvActs.{State}
use Rattle.pt_rv_work.specs.Core.{state_with}
use Rattle.pt_rv.specs.declared.parties.Parties.{Parties}
use Rattle.pt_rv.specs.Core.{stage_of}
use Rattle.pt_rv.specs.Parties.{moving_of}
use Rattle.pt_rv.proofs.CoreLaws.{open-free, sound-again}
use Rattle.pt_rv.proofs.rv.Core.event.Goals as goal

pub next-requires : goal.next-requires
next-requires c = record {
  there = let e = ap (λ (s : State). length s.processes.plan.net.places) c.self.view_is in let h = c.self.invariant.kept.fit.there in omega (arith, e, h, c.requires.there);
  gathers = (open-free c.self.inside.stage c.self.inside.parties (ap (λ (s : State). s.stage) c.self.view_is ∙ c.requires.running) c.self.invariant.stage) c.args.process;
}

pub invariant_of-self : goal.invariant_of-self
invariant_of-self c =
    let r = sound-again c.self.inside.plan c.self.inside.parties (record c.self.inside.parties { team = c.next.new.self }) c.self.inside.met.spare c.self.inside.stage (ap (λ ps. let w : Parties = record c.self.inside.parties { team = ps } in w) c.next.ensures.same) c.self.invariant.kept c.self.invariant.stage in
    record { kept = r.0; stage = r.1 }

pub returns : goal.returns
returns c = ap (λ ps. state_with c.self.inside.plan (moving_of ps c.self.inside.parties.inlets.items c.self.inside.parties.outlets.items) c.self.inside.met.list c.self.inside.tag (stage_of c.self.inside.stage)) c.next.ensures.same ∙ c.self.view_is
