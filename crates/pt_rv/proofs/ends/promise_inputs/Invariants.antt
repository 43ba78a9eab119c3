use Rattle.std.proofs.Common.{◌≡◌, take}
use Rattle.pt_rv.specs.Ends.{PromisedMore, comings_of}
use Rattle.pt_rv.specs.Parties.{outputs_of}
use Rattle.pt_rv.proofs.ends.promise_inputs.Given as goal

abbrev pub invariant-loop-port : goal.invariant-loop-port
invariant-loop-port l = record {
  lists : outputs_of l.outlets.items ≡ outputs_of l.fn.outlets.items;
  met : l.met.list ≡ l.fn.met.list;
  more : PromisedMore l.inner l.fn.outlets.items l.outlets.items l.fn.met.spare l.met.spare (comings_of (take l.port l.inlets));
}
