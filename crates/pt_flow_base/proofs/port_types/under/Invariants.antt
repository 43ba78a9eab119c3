use Rattle.std.proofs.Common.{◌≡◌, drop, map}
use Rattle.pt_types.specs.Entry.{typed_entry}
use Rattle.pt_flow_base.specs.PortTypes.{type_named}
use Rattle.pt_flow_base.proofs.port_types.under.Given as goal

abbrev pub invariant-loop-key : goal.invariant-loop-key
invariant-loop-key l = type_named l.name (map typed_entry l.entries) ≡ type_named l.name (map typed_entry (drop l.key-index l.entries))
