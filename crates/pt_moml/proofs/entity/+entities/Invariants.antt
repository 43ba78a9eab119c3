use Rattle.std.proofs.Common.{◌≡◌, ◌+◌, ◌*◌, [], drop, option_map}
use Rattle.serde_json.specs.Data.{depth, items_depth}
use Rattle.pt_json.specs.View.{view, items_view}
use Rattle.pt_document.specs.View.{entities_view}
use Rattle.pt_moml.specs.Fields.{items_at}
use Rattle.pt_moml.specs.Reading.{entity_at, entity_items}
use Rattle.pt_moml.proofs.Depths.{field_depth}
use Rattle.pt_moml.proofs.entity.+entities.Given as goal

abbrev pub decreases-entity_of : goal.decreases-entity_of
decreases-entity_of l = 4 * depth (view l.value.now) + 4

abbrev pub decreases-entity_of_name : goal.decreases-entity_of_name
decreases-entity_of_name l = 4 * depth (view l.value.now) + 3

abbrev pub decreases-entities_of : goal.decreases-entities_of
decreases-entities_of l = 4 * field_depth (option_map (λ v. view v.now) l.field) + 2

abbrev pub decreases-read_entities : goal.decreases-read_entities
decreases-read_entities l = 4 * items_depth (items_view l.items.now) + 5

abbrev pub invariant-read_entities-loop-item : goal.invariant-read_entities-loop-item
invariant-read_entities-loop-item l = items_at (entity_at l.here) (entities_view l.found.items) (items_view (drop l.item-index l.items)) ≡ entity_items l.here [] (items_view l.items)
