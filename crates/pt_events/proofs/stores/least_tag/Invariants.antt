use Rattle.std.proofs.Common.{map, take}
use Rattle.pt_events.specs.Stores.{IsLeastTag, due_entry}
use Rattle.pt_events.proofs.stores.least_tag.Given as goal

abbrev pub invariant-loop-entry : goal.invariant-loop-entry
invariant-loop-entry l = IsLeastTag (map due_entry (take l.entry-index l.due)) l.least
