use Rattle.pt_write.proofs.Trees.{property_written}
use Rattle.pt_write.proofs.property.+write_property.Goals as goal

pub returns : goal.returns
returns t c =
    property_written c.args.property.now c.deref-inner-items.result.now c.args.out.now c.write_saying.new.out c.open_list.new.out c.loop-inner.out c.close_list.new.out c.end_object.new.out c.loop-inner.inner-index _ c.is_empty.result c.is_empty-2.result c.deref-inner-items.ensures.value c.deref-inner-items.ensures.len c.is_empty.ensures c.is_empty-2.ensures c.loop-inner-test.false
    c.in_ok-write_saying.ensures c.in_ok-open_list.ensures c.loop-inner.invariant c.in_ok-close_list.ensures c.in_ok-end_object.ensures
