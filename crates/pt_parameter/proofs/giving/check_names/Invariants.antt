use Rattle.std.proofs.Common.{ℕ, List, take}
use Rattle.std.specs.List.{Contains}
use Rattle.pt_scopes.specs.Names.{seen_scope}
use Rattle.pt_scopes.specs.PortNames.{names_port_of}
use Rattle.pt_scopes.specs.Given.{IsInScope}
use Rattle.pt_parameter.proofs.giving.check_names.Given as goal

abbrev pub invariant-loop-name : goal.invariant-loop-name
invariant-loop-name l = (name : List ℕ) → Contains (take l.name-index l.names) name → IsInScope (names_port_of l.ports) (seen_scope l.seen) name
