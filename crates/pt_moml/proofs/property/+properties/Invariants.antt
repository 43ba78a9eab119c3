use Rattle.std.proofs.Common.{◌≡◌, ◌+◌, ◌*◌, [], drop, option_map}
use Rattle.serde_json.specs.Data.{depth, items_depth}
use Rattle.pt_json.specs.View.{view, items_view}
use Rattle.pt_document.specs.View.{properties_view}
use Rattle.pt_moml.specs.Fields.{items_at}
use Rattle.pt_moml.specs.Reading.{property_at, property_items}
use Rattle.pt_moml.proofs.Depths.{field_depth}
use Rattle.pt_moml.proofs.property.+properties.Given as goal

abbrev pub decreases-property_of : goal.decreases-property_of
decreases-property_of l = 4 * depth (view l.value.now) + 3

abbrev pub decreases-properties_of : goal.decreases-properties_of
decreases-properties_of l = 4 * field_depth (option_map (λ v. view v.now) l.field) + 2

abbrev pub decreases-read_properties : goal.decreases-read_properties
decreases-read_properties l = 4 * items_depth (items_view l.items.now) + 5

abbrev pub invariant-read_properties-loop-item : goal.invariant-read_properties-loop-item
invariant-read_properties-loop-item l = items_at (property_at l.path) (properties_view l.found.items) (items_view (drop l.item-index l.items)) ≡ property_items l.path [] (items_view l.items)
