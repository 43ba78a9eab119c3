use Rattle.std.proofs.Common.{get_or, ap, sym, subst, ◌∙◌}
use Rattle.pt_rv_work.specs.Core.{nobody, gets_there}
use Rattle.pt_rv_plan.specs.declared.targets.Target.{Target}
use Rattle.pt_rv_plan.specs.Plan.{target_of}
use Rattle.pt_rv.specs.Parties.{EndsThere, moving_in}
use Rattle.pt_rv.proofs.OfferLaws.{gets-so}
use Rattle.pt_rv.proofs.offers.is_received.Goals as goal

pub next-event-requires : goal.next-event-requires
next-event-requires c = record { there = subst (λ (t : Target). EndsThere (target_of t) c.args.parties.now) c.in-Place.is c.requires.there; gathers = c.requires.free c.in-Place.process }

pub returns-in-Place-clause-gets : goal.returns-in-Place-clause-gets
returns-in-Place-clause-gets c =
    c.is_get.ensures ∙ gets-so (get_or c.args.parties.now.team c.in-Place.process nobody) c.next-event.result c.in-Place.place c.next-event.ensures.next ∙ ap (λ (t : Target). gets_there (moving_in c.args.parties.now) (target_of t)) (sym c.in-Place.is)

pub returns-in-Outlet-clause-gets : goal.returns-in-Outlet-clause-gets
returns-in-Outlet-clause-gets c = ap (λ (t : Target). gets_there (moving_in c.args.parties.now) (target_of t)) (sym c.in-Outlet.is)
