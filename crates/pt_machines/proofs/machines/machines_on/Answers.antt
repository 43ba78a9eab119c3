use Rattle.std.proofs.Common.{◌≡◌, List, length, map, option_map, ap, arith}
use Rattle.pt_net.specs.declared.net.NetEntity.{NetEntity}
use Rattle.pt_typing.specs.Least.{assignment}
use Rattle.pt_chart.specs.Views.{machine_of}
use Rattle.pt_machines.proofs.GroundLaws.{machines-none, machines-more, machines-all, read-entity}
use Rattle.pt_machines.proofs.machines.machines_on.Goals as goal

pub loop-number-init : goal.loop-number-init
loop-number-init c =
    let g = c.args.ground.now in
    machines-none g.net.now g.values.now (assignment g.typing.now) c.in_ok-machines.machines.items c.in_ok-machines.ensures.items

pub machine_if_modal-requires-clause-entity : goal.machine_if_modal-requires-clause-entity
machine_if_modal-requires-clause-entity c =
    read-entity c.as_slice-entities.result.now c.args.ground.now.net.now.entities.items c.loop-number.number c.index-entities-number.result c.as_slice-entities.ensures.value c.loop-number-test.true c.index-entities-number.is

pub loop-number-preserved : goal.loop-number-preserved
loop-number-preserved c =
    let g = c.args.ground.now in
    let at = read-entity c.as_slice-entities.result.now g.net.now.entities.items c.loop-number.number c.index-entities-number.result c.as_slice-entities.ensures.value c.loop-number-test.true c.index-entities-number.is in
    machines-more g.net.now g.values.now (assignment g.typing.now) c.loop-number.number c.index-entities-number.result c.loop-number.machines.items c.push.new.self.items c.in_ok-made.made at c.in_ok-made.ensures.machine c.in_ok-push.ensures.items c.loop-number.invariant

pub returns-clause-machines : goal.returns-clause-machines
returns-clause-machines c =
    let g = c.args.ground.now in
    let whole : c.loop-number.number ≡ length g.net.now.entities.items = omega (arith, c.loop-number-test.false, c.loop-number.auto.number-end, ap (λ (es : List NetEntity). length es) c.as_slice-entities.ensures.value) in
    machines-all g.net.now g.values.now (assignment g.typing.now) c.loop-number.number (map (option_map machine_of) c.loop-number.machines.items) whole c.loop-number.invariant
