use Rattle.std.proofs.Common.{map, ap, ◌∙◌}
use Rattle.pt_meaning.specs.Log as log
use Rattle.pt_firing.specs.Meeting.{meeting_of}
use Rattle.pt_reaction.specs.Spared.{Spared}
use Rattle.pt_rv_plan.proofs.meetings.Meetings.as_slice.Goals as goal

pub returns : goal.returns
returns c = ap (λ v. map meeting_of v) c.as_slice.ensures.value ∙ ap (λ (s : Spared log.Meeting). s.list) c.self.view_is
