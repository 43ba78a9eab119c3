use Rattle.std.proofs.Common.{arith}
use Rattle.pt_scopes.proofs.NameSteps.{height-part, height-field, names-part, names-field, next_names}
use Rattle.pt_scopes.proofs.tree_names.+names.Goals as goal

pub add_names_of_parts-add_names-requires : goal.add_names_of_parts-add_names-requires
add_names_of_parts-add_names-requires t c =
    let h = height-part c.as_slice-part-items.result.now _ c.loop-part.part-index c.part-item.result c.as_slice-part-items.ensures c.loop-part-test.true c.part-item.is in
    (omega (arith, h), tt)

pub add_names_of_fields-add_names-requires : goal.add_names_of_fields-add_names-requires
add_names_of_fields-add_names-requires t c =
    let h = height-field c.as_slice-field-items.result.now _ c.loop-field.field-index c.field-item.result c.as_slice-field-items.ensures c.loop-field-test.true c.field-item.is in
    (omega (arith, h), tt)

pub add_names_of_parts-loop-part-preserved : goal.add_names_of_parts-loop-part-preserved
add_names_of_parts-loop-part-preserved t c =
    let e = names-part c.as_slice-part-items.result.now c.loop-part.part-index c.part-item.result c.loop-part-test.true c.part-item.is in
    next_names _ _ _ _ _ _ c.in_ok-add_names.ensures e c.loop-part.invariant

pub add_names_of_fields-loop-field-preserved : goal.add_names_of_fields-loop-field-preserved
add_names_of_fields-loop-field-preserved t c =
    let e = names-field c.as_slice-field-items.result.now c.loop-field.field-index c.field-item.result c.loop-field-test.true c.field-item.is in
    next_names _ _ _ _ _ _ c.in_ok-add_names.ensures e c.loop-field.invariant
