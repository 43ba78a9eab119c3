use Rattle.std.proofs.Common.{◌≡◌, ◌++◌, take, map}
use Rattle.pt_facts.specs.CheckText.{type_lines, typed}
use Rattle.pt_facts.proofs.facts.write_types.Given as goal

abbrev pub invariant-loop-port : goal.invariant-loop-port
invariant-loop-port l = l.out.items ≡ l.initial.out.items ++ type_lines (map typed (take l.port-index l.types))
