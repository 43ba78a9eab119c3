use Rattle.std.proofs.Common.{ap, sym}
use Rattle.pt_de.proofs.CoreLaws.{new-keeps, new-is}
use Rattle.pt_de_parts.specs.Net.{Planned, planned_of}
use Rattle.pt_de.proofs.de.DeCore.new.Goals as goal

pub invariant_of-result : goal.invariant_of-result
invariant_of-result c = new-keeps c.in_ok-net.net c.in_ok-reaction.reaction.state c.in_ok-rows.rows c.width.result c.args.plan.inside.inputs c.in_ok-need.need c.in_ok-reaction.ensures c.width.ensures c.in_ok-rows.ensures.width (ap (λ (p : Planned). p.plan.inputs) (sym c.in_ok-net.ensures)) c.in_ok-need.ensures

pub returns : goal.returns
returns c = new-is c.in_ok-net.net (planned_of c.args.plan) c.in_ok-reaction.reaction.state c.in_ok-net.ensures c.in_ok-reaction.ensures
