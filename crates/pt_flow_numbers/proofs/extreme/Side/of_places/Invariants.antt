use Rattle.std.proofs.Common.{◌≡◌, drop, None}
use Rattle.pt_flow_base.specs.Row.{present}
use Rattle.pt_flow_numbers.specs.Extreme.{best_of}
use Rattle.pt_flow_numbers.proofs.extreme.Side.of_places.Given as goal

abbrev pub invariant-loop-place : goal.invariant-loop-place
invariant-loop-place g l = best_of l.self l.best (present (drop l.place (g.I.Numbered.streams l.inputs))) ≡ best_of l.self None (present (g.I.Numbered.streams l.inputs))
