use Rattle.std.proofs.Common.{Option, map, take}
use Rattle.std.specs.Prelude.{Vec}
use Rattle.std.specs.Global.{Global}
use Rattle.std.specs.List.{AllZip}
use Rattle.pt_value.specs.declared.token.Token.{Token}
use Rattle.pt_scopes.specs.Scopes.{net_view}
use Rattle.pt_job.specs.Names.{Name}
use Rattle.pt_job.specs.Inputs.{ComeTo}
use Rattle.pt_job.proofs.inputs.supplied_ticks.Given as goal

abbrev pub invariant-loop-port : goal.invariant-loop-port
invariant-loop-port l = AllZip (ComeTo (net_view l.lookup.net.now) l.values) (map (λ (n : Name). n.now) (take l.port-index l.port-items)) (map (λ (ts : Vec (Option Token) Global). ts.items) l.lists.items)
