use Rattle.std.proofs.Common.{◌≡◌, drop, map}
use Rattle.pt_language.specs.Scope.{Scope}
use Rattle.pt_guards.specs.Acts.{put_all}
use Rattle.pt_guards.specs.Placed.{AreGiven}
use Rattle.pt_chart.specs.Views.{action_view}
use Rattle.pt_guards.proofs.quick.put_given.Given as goal

abbrev pub invariant-loop-number : goal.invariant-loop-number
invariant-loop-number l =
    (s : Scope) → AreGiven s (map action_view l.actions) l.given → put_all s (map action_view l.actions) l.initial.outputs.items ≡ put_all s (map action_view (drop l.number l.actions)) l.outputs.items
