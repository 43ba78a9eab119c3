use Rattle.std.proofs.Common.{◌≡◌, map, take}
use Rattle.pt_meaning.specs.Running.{total}
use Rattle.pt_core.specs.Source.{source_of}
use Rattle.pt_de_plan.specs.Edges.{edges_from}
use Rattle.pt_de_plan.proofs.edges.edges_of.Given as goal

abbrev pub invariant-loop-child : goal.invariant-loop-child
invariant-loop-child l = record { listed : l.edges.items ≡ edges_from 0 (take l.child l.places) (map source_of l.sources) l.delayed; offset : l.first ≡ total (take l.child l.places) }
