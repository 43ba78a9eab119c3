use Rattle.std.proofs.Common.{[], codes, sym, arith, rules}
use Rattle.serde_json.specs.Find.{get}
use Rattle.pt_json.specs.View.{view, items_view}
use Rattle.pt_moml.proofs.Depths.{get_field_depth, item_depth}
use Rattle.pt_moml.specs.Reading.{properties_field}
use Rattle.pt_moml.proofs.Properties.{items_are, from_bare}
use Rattle.pt_moml.proofs.property.+properties.Goals as goal

pub property_of-properties_of-requires : goal.property_of-properties_of-requires
property_of-properties_of-requires t c =
    let one = get_field_depth (codes "properties") (view c.args.value.now) in
    let r = c.requires in
    (rw c.get.ensures (omega (arith, one)), tt)

pub read_properties-loop-item-init : goal.read_properties-loop-item-init
read_properties-loop-item-init t c = rw c.in_ok-found.ensures.items (sym (items_are c.args.path.now [] (items_view c.args.items.now)))

pub read_properties-property_of-requires : goal.read_properties-property_of-requires
read_properties-property_of-requires t c =
    let one = item_depth c.args.items.now c.loop-item.item-index c.item-item.result c.loop-item-test.true in
    let r = c.requires in
    (rw c.item-item.is (omega (arith, one)), tt)

pub property_of-returns-in_err-bare : goal.property_of-returns-in_err-bare
property_of-returns-in_err-bare t c =
    rw (from_bare c.args.path.now (view c.args.value.now) (properties_field c.args.path.now (get (codes "properties") (view c.args.value.now)))) (search rules)

pub property_of-returns-in-Ok : goal.property_of-returns-in-Ok
property_of-returns-in-Ok t c =
    rw (from_bare c.args.path.now (view c.args.value.now) (properties_field c.args.path.now (get (codes "properties") (view c.args.value.now)))) (search rules)

pub property_of-returns-in-Err : goal.property_of-returns-in-Err
property_of-returns-in-Err t c =
    rw (from_bare c.args.path.now (view c.args.value.now) (properties_field c.args.path.now (get (codes "properties") (view c.args.value.now)))) (search rules)
