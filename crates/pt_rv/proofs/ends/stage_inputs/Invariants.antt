use Rattle.std.proofs.Common.{◌≡◌, ℕ, ◌<◌, get_or}
use Rattle.pt_meaning.specs.Net.{Own}
use Rattle.pt_meaning.specs.Process.{puts_of_port, channels_from}
use Rattle.pt_meaning.specs.Streams.{at}
use Rattle.pt_rv.specs.Ends.{no_inlet}
use Rattle.pt_rv.specs.Parties.{inputs_of}
use Rattle.pt_rv.proofs.ends.stage_inputs.Given as goal

abbrev pub invariant-loop-port : goal.invariant-loop-port
invariant-loop-port l = record {
  puts : inputs_of l.inlets.items ≡ inputs_of l.fn.inlets.items;
  coming : (j : ℕ) → j < l.port → (get_or l.inlets.items j no_inlet).coming ≡ puts_of_port (channels_from 0 (Own j) l.plan.plan.net.sources) (at l.inputs j);
}
