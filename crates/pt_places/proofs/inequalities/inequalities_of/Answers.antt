use Rattle.std.proofs.Common.{◌++◌, ◌∙◌, map}
use Rattle.pt_document.specs.View.{input_view}
use Rattle.pt_net.specs.Net.{entity_view}
use Rattle.pt_scopes.specs.Valued as valued
use Rattle.pt_inequalities.specs.Inequalities.{of_channel, of_entities, of_inputs, supply_view, top_inputs}
use Rattle.pt_places.proofs.Parts.{all-added}
use Rattle.pt_places.proofs.inequalities.inequalities_of.Goals as goal

pub returns : goal.returns
returns c =
    let net = c.args.net.now in
    let values = c.args.values.now in
    let es = map entity_view net.entities.items in
    all-added c.in_ok-list.list.items c.add_channels.new.inequalities.items c.add_entities.new.inequalities.items c.add_supplied.new.inequalities.items _ _ _ c.in_ok-list.ensures.items c.in_ok-add_channels.ensures c.in_ok-add_entities.ensures c.in_ok-add_supplied.ensures
    ∙ (λ j. map of_channel (c.deref.ensures.value j) ++ (of_entities (c.requires j) 0 (map entity_view (c.deref-2.ensures.value j)) (map valued.entity_view (c.deref-3.ensures.value j)) ++ of_inputs (top_inputs es) (map input_view net.inputs.items) (map supply_view values.inputs.items)))
