use Rattle.std.proofs.Common.{map, ap, ◌∙◌}
use Rattle.pt_rv_plan.specs.declared.targets.Target.TheVariants.{Place}
use Rattle.pt_rv_plan.specs.Plan.{target_of}
use Rattle.pt_rv_plan.proofs.TargetLaws.{places-more, mapped-more, none-behind}
use Rattle.pt_rv_plan.proofs.targets.add_places.Goals as goal

pub loop-place-init : goal.loop-place-init
loop-place-init c = none-behind (map target_of c.args.targets.now.items)

pub loop-place-preserved : goal.loop-place-preserved
loop-place-preserved c =
    places-more c.args.process c.loop-place.place (map target_of c.args.targets.now.items) (map target_of c.loop-place.targets.items) (map target_of c.push.new.self.items) c.loop-place.invariant
    (ap (λ v. map target_of v) c.in_ok-push.ensures.items ∙ mapped-more c.loop-place.targets.items (Place c.args.process c.loop-place.place))
