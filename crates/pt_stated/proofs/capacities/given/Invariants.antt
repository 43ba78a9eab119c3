use Rattle.std.proofs.Common.{◌≡◌, drop, map}
use Rattle.std.specs.List.{zip}
use Rattle.pt_document.specs.Document.{property_name}
use Rattle.pt_document.specs.View.{property_view, properties_view}
use Rattle.pt_scopes.specs.Given.{held_view}
use Rattle.pt_scopes.specs.Agreement.{given, named}
use Rattle.pt_stated.proofs.capacities.given.Given as goal

abbrev pub invariant-loop-index : goal.invariant-loop-index
invariant-loop-index l =
    given (named (properties_view l.properties) (map held_view l.values)) l.name ≡ given (zip (drop l.index (map property_name (map property_view l.properties))) (drop l.index (map held_view l.values))) l.name
