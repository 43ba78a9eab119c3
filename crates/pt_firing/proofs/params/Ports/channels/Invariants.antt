use Rattle.std.proofs.Common.{◌≡◌, drop}
use Rattle.pt_firing.specs.Params.{channels_to}
use Rattle.pt_firing.proofs.params.Ports.channels.Given as goal

abbrev pub invariant-loop-key : goal.invariant-loop-key
invariant-loop-key l = record {
  rest : channels_to l.name l.self ≡ channels_to l.name (drop l.key-index l.key-items);
  all : l.key-items ≡ l.self;
}
