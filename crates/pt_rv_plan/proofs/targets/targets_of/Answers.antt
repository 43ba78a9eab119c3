use Rattle.std.proofs.Common.{◌-◌, map, get_or, ap, ◌∙◌, arith, refl}
use Rattle.std.proofs.lemmas.List.{take_all}
use Rattle.pt_rv_plan.specs.Plan.{target_of}
use Rattle.pt_rv_plan.specs.Targets.{targets_to}
use Rattle.pt_rv_plan.proofs.TargetLaws.{rows-more, targets-are}
use Rattle.pt_rv_plan.proofs.targets.targets_of.Goals as goal

pub loop-process-preserved : goal.loop-process-preserved
loop-process-preserved c =
    rows-more c.args.places.now c.loop-process.process (get_or c.args.places.now c.loop-process.process 0) (map target_of c.loop-process.targets.items) (map target_of c.add_places.new.targets.items) c.loop-process-test.true refl c.loop-process.invariant c.in_ok-add_places.ensures

pub returns : goal.returns
returns c =
    targets-are c.args.places.now c.args.channels c.saturating_sub-outlets.result c.loop-process.targets.items c.add_outlets.new.targets.items
    (c.loop-process.invariant ∙ ap (λ v. targets_to 0 v) (take_all c.loop-process.process c.args.places.now (omega (arith, c.loop-process-test.false))))
    (c.saturating_sub-outlets.ensures ∙ ap (λ n. c.args.channels - n) (c.len.ensures ∙ c.loop-process.targets.ok.0)) c.in_ok-add_outlets.ensures
