use Rattle.std.proofs.Common.{List, take}
use Rattle.pt_chart.specs.Machine.{NameTable, ActionTree}
use Rattle.pt_chart.specs.Names.{names_in}
use Rattle.pt_guards.specs.Placed.{SayActions, AreGiven}
use Rattle.pt_guards.specs.Reads.{reads_view}
use Rattle.pt_guards.proofs.quick.given_quickly.Given as goal

abbrev pub invariant-loop-action : goal.invariant-loop-action
invariant-loop-action l = (table : NameTable) (actions : List ActionTree) → SayActions table l.placed actions → AreGiven (names_in table (reads_view l.reads)) (take l.action-index actions) l.given.items
