use Rattle.std.proofs.Common.{◌≡◌, drop, take}
use Rattle.pt_flow_base.specs.Row.{present}
use Rattle.pt_flow_numbers.specs.MultiplyDivide.{after_all}
use Rattle.pt_flow_numbers.proofs.multiply_divide.Operation.of_places.Given as goal

abbrev pub invariant-loop-place : goal.invariant-loop-place
invariant-loop-place g l = after_all l.self l.partial (present (drop l.place (take l.to (g.I.Numbered.streams l.inputs)))) ≡ after_all l.self l.fn.start (present (drop l.from (take l.to (g.I.Numbered.streams l.inputs))))
