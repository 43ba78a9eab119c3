use Rattle.std.proofs.Common.{[], codes, sym, arith, rules}
use Rattle.serde_json.specs.Find.{get}
use Rattle.pt_json.specs.View.{view, items_view}
use Rattle.pt_moml.proofs.Depths.{get_field_depth, item_depth}
use Rattle.pt_moml.specs.Reading.{entities_field}
use Rattle.pt_moml.proofs.Entities.{items_are}
use Rattle.pt_moml.proofs.Stages.{entity_is}
use Rattle.pt_moml.proofs.entity.+entities.Goals as goal

pub entity_of_name-entities_of-requires : goal.entity_of_name-entities_of-requires
entity_of_name-entities_of-requires t c =
    let one = get_field_depth (codes "entities") (view c.args.value.now) in
    let r = c.requires in
    (rw c.get.ensures (omega (arith, one)), tt)

pub read_entities-loop-item-init : goal.read_entities-loop-item-init
read_entities-loop-item-init t c = rw c.in_ok-found.ensures.items (sym (items_are c.args.here.now [] (items_view c.args.items.now)))

pub read_entities-entity_of-requires : goal.read_entities-entity_of-requires
read_entities-entity_of-requires t c =
    let one = item_depth c.args.items.now c.loop-item.item-index c.item-item.result c.loop-item-test.true in
    let r = c.requires in
    (rw c.item-item.is (omega (arith, one)), tt)

pub entity_of_name-returns-in_err-own : goal.entity_of_name-returns-in_err-own
entity_of_name-returns-in_err-own t c =
    rw (entity_is c.args.here.now c.args.name (view c.args.value.now) (entities_field c.args.here.now (get (codes "entities") (view c.args.value.now)))) (search rules)

pub entity_of_name-returns-in-Ok : goal.entity_of_name-returns-in-Ok
entity_of_name-returns-in-Ok t c =
    rw (entity_is c.args.here.now c.args.name (view c.args.value.now) (entities_field c.args.here.now (get (codes "entities") (view c.args.value.now)))) (search rules)

pub entity_of_name-returns-in-Err : goal.entity_of_name-returns-in-Err
entity_of_name-returns-in-Err t c =
    rw (entity_is c.args.here.now c.args.name (view c.args.value.now) (entities_field c.args.here.now (get (codes "entities") (view c.args.value.now)))) (search rules)
