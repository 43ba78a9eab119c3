use Rattle.std.proofs.Common.{◌≡◌, ◌++◌, map, take}
use Rattle.pt_typing.specs.Views.{inequality_view}
use Rattle.pt_inequalities.specs.Passing.{of_joints}
use Rattle.pt_places.proofs.joints.Behind.add_joints.Given as goal

abbrev pub invariant-loop-joint : goal.invariant-loop-joint
invariant-loop-joint l = map inequality_view l.inequalities.items ≡ map inequality_view l.fn.inequalities.items ++ of_joints l.self.composites l.self.relations (take l.joint-index l.joints)
