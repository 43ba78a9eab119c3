use Rattle.std.proofs.Common.{◌≡◌, ◌++◌, map, drop}
use Rattle.pt_typing.specs.Views.{known_entry}
use Rattle.pt_places.specs.Views.{types_at}
use Rattle.pt_inequalities.specs.Inequalities.{known}
use Rattle.pt_places.proofs.place.Place.known.Given as goal

abbrev pub invariant-loop-name : goal.invariant-loop-name
invariant-loop-name l = map known_entry l.list.items ++ known (types_at l.self) (drop l.name-index l.name-items) ≡ known (types_at l.self) l.name-items
