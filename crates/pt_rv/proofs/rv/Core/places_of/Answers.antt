use Rattle.std.proofs.Common.{length, get_or, ap, ◌∙◌, arith}
use Rattle.pt_rv_laws.specs.RvActs.{State}
use Rattle.pt_rv.proofs.rv.Core.places_of.Goals as goal

pub places-requires : goal.places-requires
places-requires c = let v = ap (λ (s : State). length s.processes.plan.net.places) c.self.view_is in omega (arith, v, c.requires)

pub returns : goal.returns
returns c = c.places.ensures ∙ ap (λ (s : State). get_or s.processes.plan.net.places c.args.process 0) c.self.view_is
