use Rattle.std.proofs.Common.{map, ap, ◌∙◌, arith}
use Rattle.pt_meaning.specs.Log as log
use Rattle.pt_firing.specs.Meeting.{meeting_of}
use Rattle.pt_reaction.specs.Spared.{Spared}
use Rattle.pt_rv_plan.proofs.meetings.Meetings.copy.Goals as goal

pub invariant_of-result : goal.invariant_of-result
invariant_of-result c = omega (arith, c.in_ok-reserve.ensures.ok, c.reserve.new.self.ok.0)

pub returns : goal.returns
returns c =
    ap (λ v. let s : Spared log.Meeting = record { list = map meeting_of v; spare = c.self.inside.promised } in s) (c.in_ok-reserve.ensures.items ∙ c.in_ok-list.ensures.items ∙ c.deref.ensures.value) ∙ c.self.view_is
