use Rattle.std.proofs.Common.{◌∙◌, length, ap, sym, subst}
use Rattle.pt_pn_laws.specs.State.{started}
use Rattle.pt_pn_work.specs.Core.{State}
use Rattle.pt_pn.specs.Fresh.{IsFresh}
use Rattle.pt_pn.specs.Noted.{AreNone}
use Rattle.pt_pn.proofs.FreshLaws.{fresh-is, fresh-kept, fresh-handed}
use Rattle.pt_pn.proofs.SettledLaws.{none-settled}
use Rattle.pt_pn.proofs.pn.Core.restart.Goals as goal

pub invariant_of-self : goal.invariant_of-self
invariant_of-self c =
    let f : IsFresh c.self.inside.network c.args.fresh = subst (λ (s : State). IsFresh s.network c.args.fresh) (sym c.self.view_is) c.requires.fresh in
    record {
      kept = fresh-kept c.self.inside.network c.self.invariant.kept.sound c.args.fresh.processes.items c.args.fresh.capacity.items c.args.fresh.queues.lists c.args.fresh.queues.spares c.args.fresh.promised.items f.processes f.capacity f.lists f.spares f.promised;
      stage = fresh-handed c.self.inside.network c.self.invariant.kept.sound c.args.fresh.processes.items f.processes;
      settled = none-settled c.self.inside.network c.args.fresh.processes.items c.args.fresh.capacity.items c.args.fresh.queues.lists c.args.notes (subst (λ (s : State). AreNone (length s.network.plan.net.places) c.args.notes) (sym c.self.view_is) c.requires.none);
    }

pub returns : goal.returns
returns c =
    let f : IsFresh c.self.inside.network c.args.fresh = subst (λ (s : State). IsFresh s.network c.args.fresh) (sym c.self.view_is) c.requires.fresh in
    fresh-is c.self.inside.network c.self.invariant.kept.sound c.args.fresh.processes.items c.args.fresh.capacity.items c.args.fresh.queues.lists f.processes f.capacity f.lists ∙ ap (λ (s : State). started s.network) c.self.view_is
