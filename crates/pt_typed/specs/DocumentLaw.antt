-- The names of the parameters and the ports in the net of a document.
use Rattle.std.specs.Prelude.{ℕ, List}
use Rattle.pt_document.specs.Document.{JobTree}
use Rattle.pt_moml.specs.Reading.{IsJobOf}
use Rattle.pt_net.specs.declared.net.Net.{Net}
use Rattle.pt_net.specs.Net.{IsNetOf}
use Rattle.pt_scopes.specs.Scopes.{net_view}
use Rattle.pt_typed.specs.OwnNames.{HaveClassParameters, HavePortNames}

-- In the net of a document the parameters are those of their classes, no parameter of a composite has a reserved name, and the ports of each entity have names of their own.
abbrev pub DocumentsAreNamed : Type 0
DocumentsAreNamed = (bytes : List ℕ) (job : JobTree) (net : Net) → IsJobOf bytes job → IsNetOf job net → HaveClassParameters (net_view net) × HavePortNames net
