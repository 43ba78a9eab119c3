use Rattle.std.proofs.Common.{◌≡◌, map, take}
use Rattle.std.specs.Prelude.{not}
use Rattle.std.specs.List.{filter}
use Rattle.pt_net.specs.Standing.{is_kept}
use Rattle.pt_survey.specs.Survey.{table_view}
use Rattle.pt_net.specs.Net.{transparent_view, transparent_tree}
use Rattle.pt_copies.proofs.entities.transparent_composites.Given as goal

abbrev pub invariant-loop-placed : goal.invariant-loop-placed
invariant-loop-placed l = map transparent_view l.entities.items ≡ map transparent_tree (filter (λ s. not (is_kept s)) (table_view (take l.placed-index l.table)))
