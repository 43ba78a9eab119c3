use Rattle.pt_write.proofs.Trees.{entity_written}
use Rattle.pt_write.proofs.entity.+write_entity.Goals as goal

pub returns : goal.returns
returns t c =
    entity_written c.args.entity.now c.deref-child-items.result.now c.args.out.now c.write_outside.new.out c.open_list.new.out c.loop-child.out c.close_list.new.out c.write_wiring.new.out c.write_machine.new.out c.loop-child.child-index _ c.is_empty.result c.is_empty-2.result c.deref-child-items.ensures.value c.deref-child-items.ensures.len c.is_empty.ensures c.is_empty-2.ensures c.loop-child-test.false
    c.in_ok-write_outside.ensures c.in_ok-open_list.ensures c.loop-child.invariant c.in_ok-close_list.ensures c.in_ok-write_wiring.ensures c.in_ok-write_machine.ensures
