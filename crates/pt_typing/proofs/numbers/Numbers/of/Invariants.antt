use Rattle.pt_typing.proofs.Numbering.{AreSoFar}
use Rattle.pt_typing.proofs.numbers.Numbers.of.Given as goal

abbrev pub invariant-loop-port_count : goal.invariant-loop-port_count
invariant-loop-port_count l = AreSoFar l.port_counts l.starts.items l.all l.port_count-index
