use Rattle.std.proofs.Common.{◌≡◌, ◌≤◌, List, ℕ, drop, length, map}
use Rattle.pt_types.specs.Entry.{typed_entry}
use Rattle.pt_flow_base.specs.PortTypes.{type_named}
use Rattle.pt_flow_base.specs.TypeTable.{types_in}
use Rattle.pt_flow_base.proofs.type_table.TypeTable.of.Given as goal

abbrev pub invariant-loop-left : goal.invariant-loop-left
invariant-loop-left l = record {
  rest : (name : List ℕ) → types_in l.table name ≡ type_named name (map typed_entry (drop l.left l.entries));
  within : l.left ≤ length l.entries;
}

abbrev pub decreases-loop-left : goal.decreases-loop-left
decreases-loop-left l = l.left
