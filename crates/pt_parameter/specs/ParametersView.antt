-- What the parameters stand for that the program looks at.
use Rattle.std.specs.Prelude.{map}
use Rattle.pt_document.specs.View.{properties_view}
use Rattle.pt_parameter.specs.declared.agreement.Parameters.{Parameters as Given}
use Rattle.pt_scopes.specs.Given.{held_view}
use Rattle.pt_scopes.specs.Agreement.{Parameters, named}

abbrev pub parameters_view : Given → Parameters
parameters_view p = named (properties_view p.properties.now) (map held_view p.values.now)
