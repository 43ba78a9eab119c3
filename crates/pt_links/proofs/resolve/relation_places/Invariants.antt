use Rattle.std.proofs.Common.{◌≡◌, map, take}
use Rattle.pt_survey.specs.Survey.{relations_view}
use Rattle.pt_links.proofs.Keys.{pair_view, relation_key}
use Rattle.pt_links.proofs.resolve.relation_places.Given as goal

abbrev pub invariant-loop-relation : goal.invariant-loop-relation
invariant-loop-relation l = map pair_view l.keys.items ≡ map relation_key (relations_view (take l.relation-index l.relations))
