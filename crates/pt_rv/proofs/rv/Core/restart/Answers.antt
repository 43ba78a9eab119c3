use Rattle.std.proofs.Common.{ap, sym, subst, ◌∙◌}
use Rattle.pt_meaning.specs.Tag.{origin}
use Rattle.pt_rv_laws.specs.State.{Idle, started}
use Rattle.pt_rv_laws.specs.RvActs.{State}
use Rattle.pt_rv_work.specs.Core.{state_with}
use Rattle.pt_rv.specs.Fresh.{IsFresh}
use Rattle.pt_rv.specs.Parties.{moving_in}
use Rattle.pt_rv.proofs.FreshLaws.{fresh-kept, fresh-free, fresh-is}
use Rattle.pt_rv.proofs.rv.Core.restart.Goals as goal

pub invariant_of-self : goal.invariant_of-self
invariant_of-self c =
    let f : IsFresh c.self.inside.plan c.args.parties = subst (λ (s : State). IsFresh s.processes c.args.parties) (sym c.self.view_is) c.requires in
    record {
      kept = fresh-kept c.self.inside.plan c.args.parties c.self.invariant.kept.sound f c.clear.new.self.spare;
      stage = fresh-free c.self.inside.plan c.args.parties c.self.invariant.kept.sound f;
    }

pub returns : goal.returns
returns c =
    let f : IsFresh c.self.inside.plan c.args.parties = subst (λ (s : State). IsFresh s.processes c.args.parties) (sym c.self.view_is) c.requires in
    ap (λ ms. state_with c.self.inside.plan (moving_in c.args.parties) ms origin Idle) c.clear.ensures.list ∙ fresh-is c.self.inside.plan c.args.parties c.self.invariant.kept.sound f ∙ ap (λ (s : State). started s.processes) c.self.view_is
