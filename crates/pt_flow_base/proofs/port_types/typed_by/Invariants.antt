use Rattle.std.proofs.Common.{◌≡◌, List, ℕ, drop, map}
use Rattle.pt_datatypes.specs.Datatype.{Datatype}
use Rattle.pt_types.specs.Entry.{typed_entry}
use Rattle.pt_flow_base.specs.PortTypes.{type_named, typed_names}
use Rattle.pt_flow_base.specs.TypeTable.{types_in}
use Rattle.pt_flow_base.proofs.TypedPorts.{behind}
use Rattle.pt_flow_base.proofs.port_types.typed_by.Given as goal

abbrev pub invariant-loop-name : goal.invariant-loop-name
invariant-loop-name l =
    (types : List (List ℕ × Datatype)) → ((name : List ℕ) → types_in l.table name ≡ type_named name types) → behind (map typed_entry l.types.items) (typed_names types (drop l.name-index l.names)) ≡ typed_names types l.names
