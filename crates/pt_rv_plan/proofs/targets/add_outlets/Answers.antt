use Rattle.std.proofs.Common.{map, ap, ◌∙◌}
use Rattle.pt_rv_plan.specs.declared.targets.Target.TheVariants.{Outlet}
use Rattle.pt_rv_plan.specs.Plan.{target_of}
use Rattle.pt_rv_plan.proofs.TargetLaws.{outlets-more, mapped-more, none-behind}
use Rattle.pt_rv_plan.proofs.targets.add_outlets.Goals as goal

pub loop-outlet-init : goal.loop-outlet-init
loop-outlet-init c = none-behind (map target_of c.args.targets.now.items)

pub loop-outlet-preserved : goal.loop-outlet-preserved
loop-outlet-preserved c =
    outlets-more c.loop-outlet.outlet (map target_of c.args.targets.now.items) (map target_of c.loop-outlet.targets.items) (map target_of c.push.new.self.items) c.loop-outlet.invariant
    (ap (λ v. map target_of v) c.in_ok-push.ensures.items ∙ mapped-more c.loop-outlet.targets.items (Outlet c.loop-outlet.outlet))
