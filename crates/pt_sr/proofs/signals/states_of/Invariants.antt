use Rattle.std.proofs.Common.{◌≡◌, take, map}
use Rattle.pt_firing.specs.TriState.{partial_of}
use Rattle.pt_sr.specs.Signals.{signals_of}
use Rattle.pt_sr.proofs.signals.states_of.Given as goal

abbrev pub invariant-loop-c : goal.invariant-loop-c
invariant-loop-c l = map partial_of l.states.items ≡ signals_of (take l.c l.flags) (take l.c l.lists)
