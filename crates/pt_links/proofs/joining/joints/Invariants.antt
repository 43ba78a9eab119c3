use Rattle.std.proofs.Common.{take}
use Rattle.std.specs.List.{AllZip}
use Rattle.pt_survey.specs.Survey.{tables_view}
use Rattle.pt_net.specs.Joints.{IsJointOf}
use Rattle.pt_links.proofs.joining.joints.Given as goal

abbrev pub invariant-loop-wire : goal.invariant-loop-wire
invariant-loop-wire l = AllZip (IsJointOf (tables_view l.wiring.tables.now).ports) (take l.wire-index l.wiring.wires.items) l.joints.items
