use Rattle.std.proofs.Common.{map, sym, ◌∙◌}
use Rattle.std.specs.Prelude.{option_map}
use Rattle.pt_inequalities.proofs.Steps.{first-mapped}
use Rattle.pt_net.specs.Net.{entity_view}
use Rattle.pt_scopes.specs.Valued as valued
use Rattle.pt_frames.specs.Views.{frames_view}
use Rattle.pt_inequalities.specs.Inequalities.{of_entities}
use Rattle.pt_places.proofs.Parts.{entities-more}
use Rattle.pt_places.proofs.inequalities.add_entities.Goals as goal

pub loop-number-preserved : goal.loop-number-preserved
loop-number-preserved c =
    let i = c.loop-number.number in
    let frames = frames_view c.args.frames.now in
    entities-more frames c.args.entities.now c.args.values.now i c.index-entities-number.result (option_map (λ v. valued.entity_view v.now) c.values_at.result) c.args.inequalities.now.items c.loop-number.inequalities.items c.add_entity.new.inequalities.items
    (of_entities frames 0 (map entity_view c.args.entities.now) (map valued.entity_view c.args.values.now)) c.loop-number-test.true c.index-entities-number.is
    (first-mapped valued.entity_view c.args.values.now i ∙ sym c.values_at.ensures) c.loop-number.invariant c.in_ok-add_entity.ensures
