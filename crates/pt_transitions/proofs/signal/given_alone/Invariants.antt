use Rattle.std.proofs.Common.{◌≡◌, [], ◌∷◌, drop, map}
use Rattle.pt_chart.specs.Machine.{NameTable}
use Rattle.pt_chart.specs.Names.{names_in}
use Rattle.pt_guards.specs.Acts.{put_all}
use Rattle.pt_guards.specs.Placed.{SayActions}
use Rattle.pt_chart.specs.Views.{action_view}
use Rattle.pt_guards.specs.Reads.{reads_view}
use Rattle.pt_transitions.specs.Alone.{signal_of}
use Rattle.pt_transitions.proofs.signal.given_alone.Given as goal

abbrev pub invariant-loop-number : goal.invariant-loop-number
invariant-loop-number l =
    (table : NameTable) → SayActions table l.placed (map action_view l.actions) → put_all (names_in table (reads_view l.reads)) (map action_view l.actions) ([] ∷ []) ≡ put_all (names_in table (reads_view l.reads)) (map action_view (drop l.number l.actions)) (signal_of l.given ∷ [])
