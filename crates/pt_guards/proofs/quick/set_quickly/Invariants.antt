use Rattle.std.proofs.Common.{◌≡◌, drop, map}
use Rattle.pt_chart.specs.Machine.{NameTable}
use Rattle.pt_guards.specs.Acts.{set_all}
use Rattle.pt_guards.specs.Placed.{SayActions}
use Rattle.pt_chart.specs.Views.{action_view}
use Rattle.pt_guards.specs.Reads.{reads_view}
use Rattle.pt_guards.proofs.quick.set_quickly.Given as goal

abbrev pub invariant-loop-number : goal.invariant-loop-number
invariant-loop-number l =
    (table : NameTable) → SayActions table l.placed (map action_view l.actions) →
    set_all table (map action_view l.actions) (reads_view l.reads).inputs (reads_view l.reads).given l.initial.values.items ≡ set_all table (map action_view (drop l.number l.actions)) (reads_view l.reads).inputs (reads_view l.reads).given l.values.items
