use Rattle.std.proofs.Common.{length, map, ap, arith}
use Rattle.pt_firing.specs.Meeting.{meeting_of}
use Rattle.pt_rv_plan.proofs.meetings.Meetings.clear.Goals as goal

pub invariant_of-self : goal.invariant_of-self
invariant_of-self c = let e = ap (λ v. length v) c.clear.ensures.items in omega (arith, e, c.clear.ensures.capacity, c.self.invariant)

pub returns-clause-list : goal.returns-clause-list
returns-clause-list c = ap (λ v. map meeting_of v) c.clear.ensures.items
