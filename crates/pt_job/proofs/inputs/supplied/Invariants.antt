use Rattle.std.proofs.Common.{List, Some, map, take}
use Rattle.std.specs.List.{AllZip}
use Rattle.pt_value.specs.declared.token.Token.{Token}
use Rattle.pt_scopes.specs.Scopes.{net_view}
use Rattle.pt_job.specs.Names.{Name}
use Rattle.pt_job.specs.Inputs.{ComeTo}
use Rattle.pt_job.proofs.inputs.supplied.Given as goal

abbrev pub invariant-loop-port : goal.invariant-loop-port
invariant-loop-port l = AllZip (ComeTo (net_view l.lookup.net.now) l.values) (map (λ (n : Name). n.now) (take l.port-index l.port-items)) (map (λ (ts : List Token). map Some ts) l.lists.items)
