use Rattle.std.proofs.Common.{map, option_map}
use Rattle.pt_typing.specs.Least.{assignment}
use Rattle.pt_chart.specs.Views.{machine_of}
use Rattle.pt_machines.proofs.GroundLaws.{AreMachinesBefore}
use Rattle.pt_machines.proofs.machines.machines_on.Given as goal

abbrev pub invariant-loop-number : goal.invariant-loop-number
invariant-loop-number l = AreMachinesBefore l.ground.net.now l.ground.values.now (assignment l.ground.typing.now) l.number (map (option_map machine_of) l.machines.items)
