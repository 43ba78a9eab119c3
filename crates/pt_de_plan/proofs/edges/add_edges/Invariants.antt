use Rattle.std.proofs.Common.{◌≡◌, ◌++◌, map, take}
use Rattle.pt_core.specs.Source.{source_of}
use Rattle.pt_de_plan.specs.Edges.{edges_to}
use Rattle.pt_de_plan.proofs.edges.add_edges.Given as goal

abbrev pub invariant-loop-number : goal.invariant-loop-number
invariant-loop-number l = l.edges.items ≡ l.fn.edges.items ++ edges_to l.child (take l.number (map source_of l.sources)) l.delayed
