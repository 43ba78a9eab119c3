-- What the program holds of what guards and actions read.
use Rattle.pt_meaning.specs.Transitions.{Scope}
use Rattle.pt_value.specs.declared.token.Token.{Token}
use Rattle.pt_guards.specs.declared.names.Reads.{Reads}

abbrev pub reads_view : Reads → Scope Token
reads_view r = record { values = r.values.now; inputs = r.inputs.now; given = r.given.now }
