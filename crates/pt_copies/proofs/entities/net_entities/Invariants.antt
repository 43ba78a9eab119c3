use Rattle.std.proofs.Common.{◌≡◌, map, take}
use Rattle.std.specs.List.{filter}
use Rattle.pt_net.specs.Standing.{is_kept}
use Rattle.pt_survey.specs.Survey.{table_view}
use Rattle.pt_net.specs.Net.{entity_view, entity_tree}
use Rattle.pt_copies.proofs.entities.net_entities.Given as goal

abbrev pub invariant-loop-placed : goal.invariant-loop-placed
invariant-loop-placed l = map entity_view l.entities.items ≡ map entity_tree (filter is_kept (table_view (take l.placed-index l.table)))
