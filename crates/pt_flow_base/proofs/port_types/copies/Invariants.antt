use Rattle.std.proofs.Common.{◌≡◌, take, map}
use Rattle.pt_types.specs.Entry.{typed_entry}
use Rattle.pt_flow_base.proofs.port_types.copies.Given as goal

abbrev pub invariant-loop-name : goal.invariant-loop-name
invariant-loop-name l = map typed_entry l.types.items ≡ map typed_entry (take l.name-index l.entries)
