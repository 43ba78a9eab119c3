use Rattle.pt_sched.specs.Stretches.{spread}
use Rattle.pt_plan.proofs.Supply.{lawful-with}
use Rattle.pt_plan.proofs.planning.plan.Goals as goal

pub returns-in-Ok-clause-lawful : goal.returns-in-Ok-clause-lawful
returns-in-Ok-clause-lawful c =
    let made = c.in-Ok.iteration in
    let p = c.in-Ok.ensures.plan in
    λ first held.
    lawful-with c.args.inside c.requires made.counts.repetitions made.counts.takes made.counts.gives (spread made.order.items) p.repetitions p.takes p.solution.solution c.in-Ok.ensures.order made.channels.sources.items made.channels.room first c.in-Ok.ensures.sources p.gives c.in-Ok.ensures.room.counted held
