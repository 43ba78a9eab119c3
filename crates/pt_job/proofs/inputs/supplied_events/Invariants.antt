use Rattle.std.proofs.Common.{map, take}
use Rattle.pt_scopes.specs.Scopes.{net_view}
use Rattle.pt_job.specs.Names.{Name}
use Rattle.pt_job.proofs.Paired.{ComeInOrder}
use Rattle.pt_job.proofs.inputs.supplied_events.Given as goal

abbrev pub invariant-loop-port : goal.invariant-loop-port
invariant-loop-port l = ComeInOrder (net_view l.lookup.net.now) l.values (map (λ (n : Name). n.now) (take l.port-index l.port-items)) l.lists.items
