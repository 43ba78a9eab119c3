-- Why some fields make no record.
use Rattle.std.specs.Prelude.{◌≡◌, ℕ, List, [], Contains}
use Rattle.pt_value.specs.declared.fields.FieldsFault.{FieldsFault}
use Rattle.pt_value.specs.declared.fields.FieldsFault.TheVariants.{Empty, Repeated, Name, Memory}
use Rattle.pt_value.specs.Name.{IsName}
use Rattle.pt_value.specs.Record.{IsRepeated}

-- what stands of the names, by the fault that is told: there is none, that one is repeated, that text is no name
abbrev pub FaultStands : List (List ℕ) → FieldsFault → Type 0
FaultStands ns Empty = ns ≡ []
FaultStands ns (Repeated n) = IsRepeated ns n
FaultStands ns (Name n) = Contains ns n × ¬ IsName n
FaultStands ns Memory = Unit {0}
