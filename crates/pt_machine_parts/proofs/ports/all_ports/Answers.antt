use Rattle.std.proofs.Common.{map}
use Rattle.pt_chart.specs.Views.{ports_view}
use Rattle.pt_machine.specs.Machines.{IsPortMap}
use Rattle.pt_machine_parts.specs.Own.{entity_of}
use Rattle.pt_machine_parts.proofs.KidLaws.{kid-there, ports-more, ports-all}
use Rattle.pt_machine_parts.proofs.ports.all_ports.Goals as goal

pub ports_of-requires-clause-there : goal.ports_of-requires-clause-there
ports_of-requires-clause-there c = kid-there c.as_slice-children.result.now c.args.modal.now.children.items c.as_slice-children.ensures.value c.loop-child.child-index c.child-item.result c.loop-child-test.true c.child-item.is

pub loop-child-preserved : goal.loop-child-preserved
loop-child-preserved c =
    ports-more (IsPortMap (entity_of c.args.modal.now)) c.as_slice-children.result.now c.loop-child.child-index c.child-item.result c.loop-child-test.true c.child-item.is c.loop-child.ports.items c.push.new.self.items c.in_ok-made.made c.loop-child.invariant c.in_ok-made.ensures.ok c.in_ok-push.ensures.items

pub returns-clause-ok : goal.returns-clause-ok
returns-clause-ok c =
    ports-all (IsPortMap (entity_of c.args.modal.now)) c.as_slice-children.result.now c.args.modal.now.children.items c.as_slice-children.ensures.value c.loop-child.child-index (map ports_view c.loop-child.ports.items) c.loop-child-test.false c.loop-child.invariant
