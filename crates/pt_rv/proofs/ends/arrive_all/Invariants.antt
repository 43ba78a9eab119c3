use Rattle.std.proofs.Common.{◌≡◌, ℕ, ◌<◌, ◌≤◌, length, get_or}
use Rattle.pt_meaning.specs.Streams.{at}
use Rattle.pt_rv.specs.Ends.{arrived_in, no_inlet}
use Rattle.pt_rv.specs.Parties.{inputs_of}
use Rattle.pt_rv.proofs.ends.arrive_all.Given as goal

abbrev pub invariant-loop-port : goal.invariant-loop-port
invariant-loop-port l = record {
  counted : length l.inlets.items ≡ length l.fn.inlets.items;
  before : (j : ℕ) → j < l.port → at (inputs_of l.inlets.items) j ≡ at (arrived_in l.fn.inlets.items) j;
  behind : (j : ℕ) → l.port ≤ j → get_or l.inlets.items j no_inlet ≡ get_or l.fn.inlets.items j no_inlet;
}
