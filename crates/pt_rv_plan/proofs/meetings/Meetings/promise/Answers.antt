use Rattle.std.proofs.Common.{length, map, ap, ◌∙◌, arith}
use Rattle.pt_meaning.specs.Log as log
use Rattle.pt_firing.specs.Meeting.{meeting_of}
use Rattle.pt_reaction.specs.Spared.{Spared}
use Rattle.pt_rv_plan.proofs.meetings.Meetings.promise.Goals as goal

pub invariant_of-self : goal.invariant_of-self
invariant_of-self c = let e = ap (λ v. length v) c.in_err-reserve.ensures.items in omega (arith, e, c.in_err-reserve.ensures.capacity, c.self.invariant)

pub invariant_of-self-2 : goal.invariant_of-self-2
invariant_of-self-2 c = omega (arith, c.in_ok-reserve.ensures.ok, c.reserve.new.self.ok.0)

pub returns-clause-list : goal.returns-clause-list
returns-clause-list c = ap (λ v. map meeting_of v) c.in_ok-reserve.ensures.items ∙ ap (λ (s : Spared log.Meeting). s.list) c.self.view_is
