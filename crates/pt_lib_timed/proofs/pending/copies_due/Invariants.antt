use Rattle.std.proofs.Common.{◌≡◌, ◌++◌, drop}
use Rattle.pt_lib_timed.specs.Pending.{due}
use Rattle.pt_lib_timed.proofs.pending.copies_due.Given as goal

abbrev pub invariant-loop-k : goal.invariant-loop-k
invariant-loop-k l = l.copies ++ due l.tag (drop l.k l.events.items) ≡ due l.tag l.events.items
