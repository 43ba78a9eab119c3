use Rattle.std.proofs.Common.{◌≡◌, map, take, drop, length, vec_capacity}
use Rattle.pt_meaning.specs.Machine as machine
use Rattle.pt_firing.specs.TriState.{partial_of}
use Rattle.pt_firing.proofs.partial.take_known.Given as goal

abbrev pub invariant-loop-port : goal.invariant-loop-port
invariant-loop-port l = record {
  known : map partial_of l.states.items ≡ map machine.Known (take l.port l.fn.outputs);
  rest : drop l.port l.outputs ≡ drop l.port l.fn.outputs;
  long : length l.outputs ≡ length l.fn.outputs;
  room : vec_capacity l.states ≡ vec_capacity l.fn.states;
}
