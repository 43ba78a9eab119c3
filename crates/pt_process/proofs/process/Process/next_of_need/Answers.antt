use Rattle.std.proofs.Common.{ap, ◌∙◌}
use Rattle.pt_meaning.specs.Process.{lacking}
use Rattle.pt_reaction.specs.Channels.{lists_of}
use Rattle.pt_process.specs.Process.{event_by}
use Rattle.pt_process.proofs.StepLaws.{next-over, next-by, one-next, front-needs, front-gathers, front-same}
use Rattle.pt_process.proofs.process.Process.next_of_need.Goals as goal

pub returns-in-Over-clause-next : goal.returns-in-Over-clause-next
returns-in-Over-clause-next c = next-over c.self.inside c.args.self.now c.self.view_is c.in-Over.is c.requires.none

pub returns-in-Counts-clause-next : goal.returns-in-Counts-clause-next
returns-in-Counts-clause-next c =
    next-by c.self.inside c.args.self.now c.in-Counts.counts c.self.invariant c.self.view_is c.requires.gathers c.in-Counts.is c.requires.none c.next_by.result
    (c.next_by.ensures.next ∙ ap (λ L. event_by (lacking 0 c.in-Counts.counts (lists_of L))) c.deref.ensures.value)

pub returns-in-One-clause-next : goal.returns-in-One-clause-next
returns-in-One-clause-next c = one-next c.self.inside c.args.self.now c.one_event.result c.self.invariant c.self.view_is c.in-One.is c.requires.none c.one_event.ensures

pub next_by-requires : goal.next_by-requires
next_by-requires c =
    let r = front-needs c.self.inside c.args.self.now c.in-Counts.counts c.deref.result.now c.self.invariant c.self.view_is c.requires.gathers c.in-Counts.is c.deref.ensures.value in
    record { counted = r.0; full = r.1 }

pub invariant_of-self : goal.invariant_of-self
invariant_of-self c = record {
  row = c.self.invariant.row;
  gathers = front-gathers c.self.inside c.args.self.now c.in-Counts.counts c.deref.result.now c.next_by.new.full c.self.invariant c.self.view_is c.requires.gathers c.in-Counts.is c.deref.ensures.value c.next_by.ensures.full;
}

pub returns-in-Counts-clause-same : goal.returns-in-Counts-clause-same
returns-in-Counts-clause-same c = front-same c.self.inside c.args.self.now c.in-Counts.counts c.next_by.new.full c.self.view_is c.in-Counts.is
