use Rattle.std.proofs.Common.{ap₂, ◌∙◌}
use Rattle.pt_meaning.specs.Process.{lacking}
use Rattle.pt_reaction.specs.Channels.{lists_of}
use Rattle.pt_rv_parts.proofs.StepLaws.{over-next, counts-next, one-next, any-next, lacking-needs, lacking-gathers}
use Rattle.pt_rv_parts.proofs.process.Process.next_of_need.Goals as goal

pub returns-in-Over-clause-next : goal.returns-in-Over-clause-next
returns-in-Over-clause-next c = over-next c.self.inside c.args.self.now c.self.view_is c.in-Over.is c.requires.none

pub returns-in-Counts-clause-next : goal.returns-in-Counts-clause-next
returns-in-Counts-clause-next c =
    counts-next c.self.inside c.args.self.now c.self.view_is c.in-Counts.counts c.lacking_of.result c.event_of.result c.in-Counts.is c.requires.gathers c.requires.none
    (c.lacking_of.ensures.place ∙ ap₂ (λ n L. lacking 0 n (lists_of L)) c.as_slice.ensures c.deref.ensures.value) c.event_of.ensures

pub returns-in-One-clause-next : goal.returns-in-One-clause-next
returns-in-One-clause-next c = one-next c.self.inside c.args.self.now c.self.view_is c.one_event.result c.self.invariant c.in-One.is c.requires.none c.one_event.ensures

pub returns-in-Any-clause-next : goal.returns-in-Any-clause-next
returns-in-Any-clause-next c = any-next c.self.inside c.args.self.now c.self.view_is c.any_event.result c.self.invariant c.in-Any.is c.requires.none c.any_event.ensures

pub lacking_of-requires : goal.lacking_of-requires
lacking_of-requires c =
    let r = lacking-needs c.self.inside c.args.self.now c.in-Counts.counts c.as_slice.result.now c.deref.result.now c.self.invariant c.self.view_is c.requires.gathers c.in-Counts.is c.as_slice.ensures c.deref.ensures.value in
    record { counted = r.0; full = r.1 }

pub invariant_of-self : goal.invariant_of-self
invariant_of-self c = record {
  row = c.self.invariant.row;
  gathers = lacking-gathers c.self.inside c.args.self.now c.in-Counts.counts c.as_slice.result.now c.deref.result.now c.lacking_of.new.full c.self.invariant c.self.view_is c.requires.gathers c.in-Counts.is c.as_slice.ensures c.deref.ensures.value c.lacking_of.ensures.full;
}
