use Rattle.std.proofs.Common.{◌≡◌, map, take}
use Rattle.pt_survey.specs.Survey.{ports_view}
use Rattle.pt_links.proofs.Keys.{child_view, outside_key}
use Rattle.pt_links.proofs.resolve.outside_places.Given as goal

abbrev pub invariant-loop-number : goal.invariant-loop-number
invariant-loop-number l = map child_view l.keys.items ≡ map outside_key (ports_view (take l.number l.ports))
