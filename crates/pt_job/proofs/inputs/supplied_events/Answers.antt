use Rattle.std.proofs.Common.{◌+◌, List, map, take, sym, subst}
use Rattle.pt_agenda.specs.Events as agenda
use Rattle.pt_scopes.specs.Scopes.{net_view}
use Rattle.pt_job.specs.Names.{Name}
use Rattle.pt_job.proofs.Paired.{ComeInOrder, one-comes}
use Rattle.pt_job.proofs.inputs.supplied_events.Goals as goal

pub loop-port-preserved : goal.loop-port-preserved
loop-port-preserved c =
    let names = c.deref-port-items.result.now in
    let net = net_view c.args.lookup.now.net.now in
    subst (λ (ls : List agenda.Input). ComeInOrder net c.args.values.now (map (λ (n : Name). n.now) (take (c.loop-port.port-index + 1) names)) ls) (sym {A = List agenda.Input} c.in_ok-push.ensures.items)
    (one-comes net c.args.values.now names c.loop-port.port-index _ c.loop-port.lists.items c.in_ok-events_to.field-0 c.loop-port.invariant c.loop-port-test.true c.in_ok-events_to.ensures.tags c.in_ok-events_to.ensures.comes c.in_ok-events_to.ensures.ascend)
