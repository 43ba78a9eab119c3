use Rattle.std.proofs.Common.{◌&&◌, ap, sym, ◌∙◌}
use Rattle.pt_meaning.specs.Meetings.{target_from}
use Rattle.pt_rv_plan.specs.Plan.{target_of}
use Rattle.pt_rv_work.specs.Core.{gets_there}
use Rattle.pt_rv.specs.Parties.{moving_in}
use Rattle.pt_rv.proofs.CoreLaws.{ends-there}
use Rattle.pt_rv.proofs.offers.can_pass.Goals as goal

pub returns-then-not-offered-clause-passes : goal.returns-then-not-offered-clause-passes
returns-then-not-offered-clause-passes c = sym (ap (λ b. b && gets_there (moving_in c.args.parties.now) (target_from 0 c.args.plan.now.plan.net.places c.args.channel)) (sym c.is_offered-offered.ensures ∙ c.if-not-offered.true))

pub is_received-requires : goal.is_received-requires
is_received-requires c = record {
  there = ends-there c.args.plan.now c.args.parties.now c.args.channel (target_of c.target-target.result) c.requires.fit c.target-target.ensures;
  free = c.requires.free;
}

pub returns-clause-passes : goal.returns-clause-passes
returns-clause-passes c =
    c.is_received.ensures.gets ∙ ap (λ t. gets_there (moving_in c.args.parties.now) t) c.target-target.ensures ∙
    sym (ap (λ b. b && gets_there (moving_in c.args.parties.now) (target_from 0 c.args.plan.now.plan.net.places c.args.channel)) (sym c.is_offered-offered.ensures ∙ c.if-not-offered.false))
