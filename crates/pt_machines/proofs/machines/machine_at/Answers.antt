use Rattle.std.proofs.lemmas.Result.{IfOk-weaker, IfErr-weaker}
use Rattle.pt_chart.specs.Views.{machine_of}
use Rattle.pt_machines.proofs.GroundLaws.{site-readable, site-machine, site-told}
use Rattle.pt_machines.proofs.machines.machine_at.Goals as goal

pub machine-made-requires-clause-readable : goal.machine-made-requires-clause-readable
machine-made-requires-clause-readable c = site-readable c.args.ground.now c.args.number c.args.entity.now c.in_ok-site.site c.in_ok-site.ensures c.requires.entity c.requires.modal c.requires.ready

pub machine-made-requires-clause-numbered : goal.machine-made-requires-clause-numbered
machine-made-requires-clause-numbered c = c.in_ok-site.ensures.numbered

pub returns-clause-machine : goal.returns-clause-machine
returns-clause-machine c =
    IfOk-weaker c.machine-made.result _ _ (λ w h. site-machine c.args.ground.now c.args.number c.args.entity.now c.in_ok-site.site c.in_ok-site.ensures c.requires.entity c.requires.modal (machine_of w) h) c.machine-made.ensures.machine

pub returns-clause-told : goal.returns-clause-told
returns-clause-told c =
    IfErr-weaker c.machine-made.result _ _ (site-told c.args.ground.now c.args.number c.args.entity.now c.in_ok-site.site c.in_ok-site.ensures c.requires.entity c.requires.modal) c.machine-made.ensures.told
