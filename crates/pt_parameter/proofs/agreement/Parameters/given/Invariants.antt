use Rattle.std.proofs.Common.{◌≡◌, drop, map}
use Rattle.std.specs.List.{zip}
use Rattle.pt_document.specs.Document.{property_name}
use Rattle.pt_document.specs.View.{property_view}
use Rattle.pt_scopes.specs.Given.{held_view}
use Rattle.pt_scopes.specs.Agreement.{given}
use Rattle.pt_parameter.specs.ParametersView.{parameters_view}
use Rattle.pt_parameter.proofs.agreement.Parameters.given.Given as goal

abbrev pub invariant-loop-index : goal.invariant-loop-index
invariant-loop-index l =
    given (parameters_view l.self) l.name ≡ given (zip (drop l.index (map property_name (map property_view l.self.properties.now))) (drop l.index (map held_view l.self.values.now))) l.name
