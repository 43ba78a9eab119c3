use Rattle.std.proofs.Common.{◌≡◌, drop}
use Rattle.pt_name_map.specs.NameMap.{listed}
use Rattle.pt_name_map.proofs.name_map.value_in.Given as goal

abbrev pub invariant-loop-entry : goal.invariant-loop-entry
invariant-loop-entry g l = listed l.entries l.name ≡ listed (drop l.entry-index l.entries) l.name
