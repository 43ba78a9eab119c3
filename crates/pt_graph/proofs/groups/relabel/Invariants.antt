use Rattle.pt_graph.proofs.GroupSteps.{RelabelsFirst}
use Rattle.pt_graph.proofs.groups.relabel.Given as goal

abbrev pub invariant-loop-thing : goal.invariant-loop-thing
invariant-loop-thing l = RelabelsFirst l.thing-index l.things l.to l.initial.group l.group
