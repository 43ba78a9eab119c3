use Rattle.std.proofs.Common.{map}
use Rattle.pt_node.specs.Shown.{shown}
use Rattle.pt_trees.specs.Around.{around_of}
use Rattle.pt_de_inside.proofs.PlannedLaws.{plan-is, told-stands}
use Rattle.pt_de_inside.proofs.planning.planned.Goals as goal

pub returns-in-Ok-clause-plan : goal.returns-in-Ok-clause-plan
returns-in-Ok-clause-plan c =
    plan-is (around_of c.args.wiring) (map shown c.args.children.now) c.in_ok-inside.inside c.in-Ok.plan c.requires.wired c.requires.fresh c.requires.started c.in_ok-inside.ensures.inside c.in-Ok.ensures.inside c.in-Ok.ensures.depths c.in-Ok.ensures.lawful

pub returns-in-Err-clause-stands : goal.returns-in-Err-clause-stands
returns-in-Err-clause-stands c =
    told-stands (around_of c.args.wiring) (map shown c.args.children.now) c.in_ok-inside.inside c.in-Err.fault c.told_as.result c.requires.wired c.in_ok-inside.ensures.inside c.in-Err.ensures.err c.told_as.ensures
