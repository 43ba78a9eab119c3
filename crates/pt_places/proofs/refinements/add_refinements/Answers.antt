use Rattle.std.proofs.Common.{map, sym, ◌∙◌}
use Rattle.pt_net.specs.Net.{entity_view}
use Rattle.pt_places.proofs.Plain.{none-refined}
use Rattle.pt_places.proofs.refinements.add_refinements.Goals as goal

pub returns-then-not-has_modal : goal.returns-then-not-has_modal
returns-then-not-has_modal c = none-refined (map entity_view c.args.entities.now) c.args.inequalities.now.items (sym c.has_modal.ensures ∙ c.if-not-has_modal.true)
