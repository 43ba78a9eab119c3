use Rattle.pt_graph.specs.Groups.{IsKept}
use Rattle.pt_graph.proofs.GroupSteps.{GroupsFirst}
use Rattle.pt_graph.proofs.groups.group.Given as goal

abbrev pub invariant-loop-a : goal.invariant-loop-a
invariant-loop-a l = IsKept l.count l.groups × GroupsFirst l.a-index l.count l.links l.groups.group.items
