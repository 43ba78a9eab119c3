use Rattle.std.proofs.Common.{◌≡◌, List, drop}
use Rattle.pt_meaning.specs.Modal.{chosen}
use Rattle.pt_chart.specs.Machine.{NameTable, TransitionTree}
use Rattle.pt_chart.specs.Names.{names_in}
use Rattle.pt_guards.specs.Choose.{tests_in, joined}
use Rattle.pt_guards.specs.Placed.{SayTransitions}
use Rattle.pt_guards.specs.Reads.{reads_view}
use Rattle.pt_guards.proofs.quick.chosen_quickly.Given as goal

abbrev pub invariant-loop-number : goal.invariant-loop-number
invariant-loop-number l =
    (table : NameTable) (ts : List TransitionTree) → SayTransitions table l.transitions ts → chosen 0 (tests_in (names_in table (reads_view l.reads)) ts) ≡ joined l.enabled (chosen l.number (drop l.number (tests_in (names_in table (reads_view l.reads)) ts)))
