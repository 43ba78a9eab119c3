use Rattle.std.proofs.Common.{◌≡◌, [], drop}
use Rattle.pt_json.specs.View.{items_view}
use Rattle.pt_moml.specs.Fields.{items_at}
use Rattle.pt_moml.proofs.fields.read_items.Given as goal

abbrev pub invariant-loop-item : goal.invariant-loop-item
invariant-loop-item g l = items_at (g.P.Part.reading l.path) (g.P.Part.trees l.found.items) (items_view (drop l.item-index l.items)) ≡ items_at (g.P.Part.reading l.path) [] (items_view l.items)
