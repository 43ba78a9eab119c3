use Rattle.std.proofs.Common.{ap, ◌∙◌}
use Rattle.pt_meaning.specs.Tag.{origin}
use Rattle.pt_rv_laws.specs.State.{Idle}
use Rattle.pt_rv_work.specs.Core.{state_with}
use Rattle.pt_rv.specs.Parties.{moving_in}
use Rattle.pt_rv.proofs.FreshLaws.{fresh-kept, fresh-free, fresh-is}
use Rattle.pt_rv.proofs.rv.Core.with.Goals as goal

pub invariant_of-result : goal.invariant_of-result
invariant_of-result c = record {
  kept = fresh-kept c.args.plan c.args.parties c.requires.sound c.requires.fresh c.new-met.result.spare;
  stage = fresh-free c.args.plan c.args.parties c.requires.sound c.requires.fresh;
}

pub returns-in-Ok : goal.returns-in-Ok
returns-in-Ok c = ap (λ ms. state_with c.args.plan (moving_in c.args.parties) ms origin Idle) c.new-met.ensures.list ∙ fresh-is c.args.plan c.args.parties c.requires.sound c.requires.fresh
